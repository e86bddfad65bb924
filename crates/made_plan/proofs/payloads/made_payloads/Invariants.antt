use Rattle.std.proofs.Common.{◌≡◌, map}
use Rattle.nand_model.specs.Sizes.{numbers_from}
use Rattle.made_plan.specs.Made.{made_data}
use Rattle.made_plan.proofs.payloads.made_payloads.Given as goal

-- the data of the devices so far
abbrev pub invariant-loop-dev : goal.invariant-loop-dev
invariant-loop-dev l = l.payloads ≡ map (made_data l.n) (numbers_from 0 l.dev)
