use Rattle.std.proofs.Common.{◌≡◌}
use Rattle.onfi_bus.specs.State.{sizes_of}
use Rattle.onfi_bus.proofs.tests.takes.Given as goal

-- the bus is for chips of this one's sizes
abbrev pub invariant-loop-cycle : goal.invariant-loop-cycle
invariant-loop-cycle g l = (g.F.Flash.state l.flash).geometry ≡ sizes_of l.bus
