use Rattle.std.proofs.Common.{◌≡◌, ◌++◌, ◌-◌, map}
use Rattle.nand_model.specs.Seeds.{seed_byte}
use Rattle.nand_model.specs.Sizes.{numbers_from}
use Rattle.plan_text.proofs.payload.put_seed.Given as goal

-- the bytes so far and what is left make the whole
abbrev pub invariant-loop-index : goal.invariant-loop-index
invariant-loop-index l =
    l.out ++ map (seed_byte l.seed) (numbers_from l.index (l.len - l.index))
    ≡ l.initial.out ++ map (seed_byte l.seed) (numbers_from 0 l.len)
