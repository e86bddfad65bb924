use Rattle.std.proofs.Common.{sym, subst, arith}
use Rattle.nand_model.specs.Chip.{ChipState}
use Rattle.chip_core.specs.Phase.{KnowsQuiet}
use Rattle.chip_core.proofs.chip.Chip.reserve.Goals as goal

pub invariant_of-self-2-clause-few : goal.invariant_of-self-2-clause-few
invariant_of-self-2-clause-few g c = omega (arith, c.args.self.now.few)

pub invariant_of-self-2-clause-quiet : goal.invariant_of-self-2-clause-quiet
invariant_of-self-2-clause-quiet g c =
    let chip = c.args.self.now in subst (λ (s : ChipState g.F.Flash.FaultState). KnowsQuiet s chip.phase) (sym c.reserve.ensures.state) chip.quiet
