use Rattle.std.proofs.Common.{◌≡◌, ◌<◌, ◌^◌, take}
use Rattle.std.specs.Str.Parse.{digits_value, AllDigits}
use Rattle.lab_text.proofs.numbers.value_of.Given as goal

-- the bytes so far are digits, and their number is the value
abbrev pub invariant-loop-digit : goal.invariant-loop-digit
invariant-loop-digit l = record {
  digits : AllDigits l.base (take l.digit-index l.digits);
  value : l.value ≡ digits_value l.base (take l.digit-index l.digits);
  fits : l.value < 2 ^ 64;
}
