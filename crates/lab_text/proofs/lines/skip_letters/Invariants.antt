use Rattle.std.proofs.Common.{◌≡◌, ◌+◌, ◌-◌, ◌≤◌, length, drop}
use Rattle.lab_text.specs.Text.{word_length}
use Rattle.lab_text.proofs.lines.skip_letters.Given as goal

-- the bytes so far are passed over
abbrev pub invariant-loop-place : goal.invariant-loop-place
invariant-loop-place l = record {
  within : l.place ≤ length l.line;
  same : l.from + word_length (drop l.from l.line) ≡ l.place + word_length (drop l.place l.line);
}

abbrev pub decreases-loop-place : goal.decreases-loop-place
decreases-loop-place l = length l.line - l.place
