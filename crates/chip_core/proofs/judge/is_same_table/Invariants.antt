use Rattle.std.proofs.Common.{◌≡◌, take}
use Rattle.chip_core.proofs.judge.is_same_table.Given as goal

-- the states so far are the same
abbrev pub invariant-loop-block : goal.invariant-loop-block
invariant-loop-block l = take l.block l.seen ≡ take l.block l.wanted
