use Rattle.std.proofs.Common.{◌≡◌, ◌+◌, ◌*◌, take, map}
use Rattle.nand_model.specs.Seeds.{seed_byte}
use Rattle.nand_model.specs.Sizes.{numbers_from}
use Rattle.tool_steps.proofs.bodies.is_test_body.Given as goal

-- the bytes so far are those of the pass
abbrev pub invariant-loop-place : goal.invariant-loop-place
invariant-loop-place l =
    take l.place l.body ≡ map (λ j. seed_byte l.seed (l.page * l.g.page + j)) (numbers_from 0 l.place)
