use Rattle.std.proofs.Common.{◌≡◌, ◌-◌, ◌*◌, ◌++◌, length}
use Rattle.std.specs.Prelude.{flat_map}
use Rattle.code_words.specs.Units.{encoded, pieces_of, unit_of}
use Rattle.code_words.proofs.encode.encode_units.Given as goal

-- the units so far and the rest's make the whole
abbrev pub invariant-loop : goal.invariant-loop
invariant-loop l = record {
  text : l.out ++ flat_map (unit_of l.t) (pieces_of 1024 (l.count - l.counter) l.rest) ≡ encoded l.t l.bytes;
  left : length l.rest ≡ (l.count - l.counter) * 1024;
}
