use Rattle.std.proofs.Common.{◌≡◌, ◌∙◌, ◌+◌, ◌≤◌, ◌^◌, arith, sym, length, take, get_or}
use Rattle.std.proofs.lemmas.Bool.{eqb-false}
use Rattle.std.specs.Char.{digit_value}
use Rattle.std.specs.Str.Parse.{digits_value}
use Rattle.std.proofs.lemmas.Int.Digits.{digits_more}
use Rattle.lab_text.proofs.Digits.{one_digit_more, all_digits, number_too_large}
use Rattle.lab_text.proofs.numbers.value_of.Goals as goal

pub returns-in_err-value : goal.returns-in_err-value
returns-in_err-value c =
    let ds = c.args.digits.now in
    let i = c.loop-digit.digit-index in
    let read : c.in_ok-digit.digit ≡ digit_value (get_or ds i 0) = grind (arith, c.in_ok-digit.ensures.value) in
    let more = one_digit_more c.args.base c.loop-digit.value c.in_ok-digit.digit ds i c.loop-digit-test.true
    c.loop-digit.invariant.value read in
    let large : 2 ^ 64 ≤ digits_value c.args.base (take (i + 1) ds) = omega (arith, more, c.in_err-value.ensures) in
    c.from_residual-in_err-value.ensures
    ∙ sym (number_too_large c.args.base ds (i + 1) (omega (arith, c.requires.binary)) large)

pub loop-digit-preserved : goal.loop-digit-preserved
loop-digit-preserved c =
    let ds = c.args.digits.now in
    let i = c.loop-digit.digit-index in
    let read : c.in_ok-digit.digit ≡ digit_value (get_or ds i 0) = grind (arith, c.in_ok-digit.ensures.value) in
    let more = one_digit_more c.args.base c.loop-digit.value c.in_ok-digit.digit ds i c.loop-digit-test.true
    c.loop-digit.invariant.value read in
    record {
      digits = digits_more c.args.base ds i c.loop-digit-test.true c.loop-digit.invariant.digits
          (grind (arith, c.in_ok-digit.ensures.value));
      value = c.in_ok-value.ensures.1 ∙ more;
      fits = omega (arith, c.in_ok-value.ensures.0, c.in_ok-value.ensures.1);
    }

pub returns : goal.returns
returns c =
    let ds = c.args.digits.now in
    let some = eqb-false (length ds) 0 (sym c.is_empty.ensures ∙ c.if-is_empty.false) in
    all_digits c.args.base c.loop-digit.value ds c.loop-digit.digit-index (omega (arith, some)) c.loop-digit-test.false
    c.loop-digit.invariant.digits c.loop-digit.invariant.value c.loop-digit.invariant.fits
