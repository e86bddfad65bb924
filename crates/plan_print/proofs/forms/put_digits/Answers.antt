use Rattle.std.proofs.Common.{◌∙◌, ◌+◌, ◌++◌, List, ℕ, ap, drop, get_or}
use Rattle.std.proofs.lemmas.List.{drop_more, drop_all}
use Rattle.plan_print.proofs.Parts.{digits, goes_on, ends}
use Rattle.plan_print.proofs.forms.put_digits.Goals as goal

pub loop-byte-preserved : goal.loop-byte-preserved
loop-byte-preserved c =
    let bytes = c.args.bytes.now in
    let i = c.loop-byte.byte-index in
    goes_on digits _ _ _ (drop i bytes) (get_or bytes i 0) (drop (i + 1) bytes) c.loop-byte.invariant
    (drop_more bytes i 0 c.loop-byte-test.true)
    (c.in_ok-push_slice.ensures.ok ∙ ap (λ (text : List ℕ). c.loop-byte.out ++ text) c.digits_of.ensures)

pub returns : goal.returns
returns c =
    let bytes = c.args.bytes.now in
    let i = c.loop-byte.byte-index in
    ends digits _ _ (drop i bytes) c.loop-byte.invariant (drop_all i bytes c.loop-byte-test.false)
