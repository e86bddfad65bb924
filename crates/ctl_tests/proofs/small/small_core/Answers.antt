use Rattle.std.proofs.Common.{map, sym, subst}
use Rattle.command_model.specs.Boot.{Boot}
use Rattle.chip_sim.specs.State.{sim_state}
use Rattle.ctl_core.specs.Start.{CanStart}
use Rattle.ctl_tests.proofs.Conditions.{small_starts}
use Rattle.ctl_tests.proofs.small.small_core.Goals as goal

pub start-requires : goal.start-requires
start-requires c =
    subst (λ (boot : Boot). CanStart boot (map sim_state c.in_ok-flashes.flashes)) (sym c.in_ok-boot.ensures)
    (small_starts (map sim_state c.in_ok-flashes.flashes) c.in_ok-flashes.ensures)
