use Rattle.std.proofs.Common.{◌≡◌, map}
use Rattle.nand_model.specs.Sizes.{numbers_from}
use Rattle.made_plan.specs.Made.{writing_session}
use Rattle.made_plan.proofs.boots.writing_sessions.Given as goal

-- the sessions of the devices so far
abbrev pub invariant-loop-dev : goal.invariant-loop-dev
invariant-loop-dev l = l.sessions ≡ map writing_session (numbers_from 0 l.dev)
