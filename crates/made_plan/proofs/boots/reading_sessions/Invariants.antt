use Rattle.std.proofs.Common.{◌≡◌, map}
use Rattle.nand_model.specs.Sizes.{numbers_from}
use Rattle.made_plan.specs.Made.{reading_session}
use Rattle.made_plan.proofs.boots.reading_sessions.Given as goal

-- the sessions of the devices so far
abbrev pub invariant-loop-dev : goal.invariant-loop-dev
invariant-loop-dev l = l.sessions ≡ map reading_session (numbers_from 0 l.dev)
