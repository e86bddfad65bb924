use Rattle.std.proofs.Common.{◌≡◌, ◌-◌, ◌*◌, ◌/◌, ◌++◌, length}
use Rattle.code_words.specs.Units.{decoded, pieces_of, units_text}
use Rattle.code_words.proofs.decode.decode_units.Given as goal

-- the lines so far and the rest's make the whole
abbrev pub invariant-loop-at : goal.invariant-loop-at
invariant-loop-at l = record {
  text : l.out ++ units_text l.t l.at (pieces_of l.size (length l.bytes / l.size - l.at) l.rest) ≡ decoded l.t l.bytes;
  left : length l.rest ≡ (length l.bytes / l.size - l.at) * l.size;
}
