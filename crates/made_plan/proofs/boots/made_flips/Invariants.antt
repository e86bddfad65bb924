use Rattle.std.proofs.Common.{◌≡◌}
use Rattle.std.specs.Prelude.{flat_map}
use Rattle.nand_model.specs.Sizes.{numbers_from}
use Rattle.made_plan.specs.Made.{made_flip}
use Rattle.made_plan.proofs.boots.made_flips.Given as goal

-- the flips on the devices so far
abbrev pub invariant-loop-dev : goal.invariant-loop-dev
invariant-loop-dev l = l.faults ≡ flat_map (made_flip l.n) (numbers_from 0 l.dev)
