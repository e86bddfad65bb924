use Rattle.std.proofs.Common.{◌<◌, ◌+◌, get_or, sym, ap₂, ◌∙◌, arith}
use Rattle.ecc_page.proofs.ErasedLemmas.{zeros_more, zeros_most, zeros_none}
use Rattle.ecc_page.proofs.erased.zeros_of.Goals as goal

pub loop-byte-init : goal.loop-byte-init
loop-byte-init c = sym zeros_none

pub overflow_add-zeros : goal.overflow_add-zeros
overflow_add-zeros c =
    let inside = c.loop-byte.auto.byte-index-end in
    let most = zeros_most c.args.bytes.now c.loop-byte.byte-index inside in
    let so_far = c.loop-byte.invariant in
    let bound = c.count_zeros-zeros.ensures.bound in
    omega arith

pub loop-byte-preserved : goal.loop-byte-preserved
loop-byte-preserved c =
    let bytes = c.args.bytes.now in
    let i = c.loop-byte.byte-index in
    let small : get_or bytes i 0 < 256 = (let b = c.type_inv.bytes i in omega arith) in
    ap₂ (λ m n. m + n) c.loop-byte.invariant c.count_zeros-zeros.ensures.value ∙ sym (zeros_more bytes i c.loop-byte-test.true small)

pub returns-clause-most : goal.returns-clause-most
returns-clause-most c =
    let most = zeros_most c.args.bytes.now c.loop-byte.byte-index c.loop-byte.auto.byte-index-end in
    let so_far = c.loop-byte.invariant in
    omega arith
