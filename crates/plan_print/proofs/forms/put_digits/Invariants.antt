use Rattle.std.proofs.Common.{◌≡◌, ◌++◌, drop}
use Rattle.hex.specs.Hex.{encode_lower}
use Rattle.plan_print.proofs.forms.put_digits.Given as goal

-- the text so far and what is left make the whole
abbrev pub invariant-loop-byte : goal.invariant-loop-byte
invariant-loop-byte l =
    l.out ++ encode_lower (drop l.byte-index l.bytes)
    ≡ l.initial.out ++ encode_lower l.bytes
