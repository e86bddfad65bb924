use Rattle.std.proofs.Common.{◌≡◌, ℕ, ◌<◌, ◌≤◌, false, length}
use Rattle.plan_index.specs.Places.{flag_at, HasRun}
use Rattle.plan_index.proofs.marks.take_run.Given as goal

-- the places so far had no flag, and have it now
abbrev pub invariant-loop-place : goal.invariant-loop-place
invariant-loop-place l = record {
  as_long : length l.flags ≡ length l.fn.flags;
  free : (n : ℕ) → l.start ≤ n → n < l.place → flag_at l.fn.flags n ≡ false;
  taken : HasRun l.fn.flags l.flags l.start l.place;
}
