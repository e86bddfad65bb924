use Rattle.std.proofs.Common.{◌≡◌, ◌*◌, ◌++◌, ℕ, List, length, take, Some, None, sym, ap, ◌∙◌, subst, arith}
use Rattle.code_model.specs.Bits.{bit_of, bits_of}
use Rattle.code_model.specs.Code.{code_512, masked, IsNearest, NoneNear}
use Rattle.code_model.proofs.ParityLemmas.{length-mask_of, masked-masked}
use Rattle.nand_model.specs.Page.{StepRead}
use Rattle.ecc_page.specs.Steps.{read_of}
use Rattle.ecc_page.proofs.StepLemmas.{read-corrected, read-failed, masked_by, masked-bytes}
use Rattle.ecc_page.proofs.step.decode_step.Goals as goal

pub put_mask-requires : goal.put_mask-requires
put_mask-requires c = ap length c.requires.mask ∙ length-mask_of (code_512 c.args.t) ∙ sym c.requires.room

pub put_mask-requires-2 : goal.put_mask-requires-2
put_mask-requires-2 c =
    ap length c.requires.mask ∙ length-mask_of (code_512 c.args.t)
    ∙ sym (c.decode_in_slice-decoded.auto.parity ∙ c.put_mask.auto.parity ∙ c.requires.room)

-- the same parity
nearest_as : (t : ℕ) (x p p' s q : List ℕ) (n : ℕ) → p ≡ p'
    → IsNearest (code_512 t) (bits_of x ++ take (13 * t) (bits_of p)) (bits_of s ++ take (13 * t) (bits_of q)) n
    → IsNearest (code_512 t) (bits_of x ++ take (13 * t) (bits_of p')) (bits_of s ++ take (13 * t) (bits_of q)) n
nearest_as t x p p' s q n e h =
    subst (λ (v : List ℕ). IsNearest (code_512 t) (bits_of x ++ take (13 * t) (bits_of v)) (bits_of s ++ take (13 * t) (bits_of q)) n) e h

none_as : (t : ℕ) (x p p' : List ℕ) → p ≡ p'
    → NoneNear (code_512 t) (bits_of x ++ take (13 * t) (bits_of p)) → NoneNear (code_512 t) (bits_of x ++ take (13 * t) (bits_of p'))
none_as t x p p' e h = subst (λ (v : List ℕ). NoneNear (code_512 t) (bits_of x ++ take (13 * t) (bits_of v))) e h

read : (c : goal.In-Corrected)
    → read_of c.args.t c.args.step.now c.args.stored.now
    ≡ record { body = c.decode_in_slice-decoded.new.step; parity = masked (code_512 c.args.t) c.decode_in_slice-decoded.new.parity; corrected = Some c.in-Corrected.n }
read c =
    let t = c.args.t in
    let first = masked_by t c.args.stored.now c.args.mask.now c.put_mask.new.parity c.put_mask.ensures c.requires.mask in
    let lp = c.decode_in_slice-decoded.auto.parity ∙ c.put_mask.auto.parity ∙ c.requires.room in
    read-corrected t c.args.step.now c.args.stored.now c.decode_in_slice-decoded.new.step c.decode_in_slice-decoded.new.parity c.in-Corrected.n c.requires.strength.1
    c.requires.whole c.requires.room (c.decode_in_slice-decoded.auto.step ∙ c.requires.whole) lp (λ k h. (let b = c.type_inv.step k in omega arith))
    (masked-bytes t c.decode_in_slice-decoded.new.parity c.args.mask.now c.put_mask-2.new.parity lp c.put_mask-2.ensures c.requires.mask (λ k. (let b = c.type_inv.stored k in omega arith)) (λ k. (let b = c.type_inv.mask k in omega arith)))
    (nearest_as t _ _ _ _ _ _ first c.in-Corrected.ensures.decodes)
    (λ k h. c.decode_in_slice-decoded.ensures.padding k h ∙ ap (λ p. bit_of p k) first)

pub returns-in-Corrected-clause-body : goal.returns-in-Corrected-clause-body
returns-in-Corrected-clause-body c = sym (ap (λ (r : StepRead). r.body) (read c))

pub returns-in-Corrected-clause-parity : goal.returns-in-Corrected-clause-parity
returns-in-Corrected-clause-parity c =
    masked_by c.args.t c.decode_in_slice-decoded.new.parity c.args.mask.now c.put_mask-2.new.parity c.put_mask-2.ensures c.requires.mask
    ∙ sym (ap (λ (r : StepRead). r.parity) (read c))

pub returns-in-Corrected-clause-corrected : goal.returns-in-Corrected-clause-corrected
returns-in-Corrected-clause-corrected c = sym (ap (λ (r : StepRead). r.corrected) (read c))

failed : (c : goal.In-Failed)
    → read_of c.args.t c.args.step.now c.args.stored.now ≡ record { body = c.args.step.now; parity = c.args.stored.now; corrected = None }
failed c =
    let t = c.args.t in
    let first = masked_by t c.args.stored.now c.args.mask.now c.put_mask.new.parity c.put_mask.ensures c.requires.mask in
    read-failed t c.args.step.now c.args.stored.now c.requires.strength.1 c.requires.whole c.requires.room
    (none_as t _ _ _ first c.in-Failed.ensures.decodes)

pub returns-in-Failed-clause-body : goal.returns-in-Failed-clause-body
returns-in-Failed-clause-body c =
    (c.decode_in_slice-decoded.ensures.unchanged c.in-Failed.is).0
    ∙ sym (ap (λ (r : StepRead). r.body) (failed c))

pub returns-in-Failed-clause-parity : goal.returns-in-Failed-clause-parity
returns-in-Failed-clause-parity c =
    let t = c.args.t in
    masked_by t c.decode_in_slice-decoded.new.parity c.args.mask.now c.put_mask-2.new.parity c.put_mask-2.ensures c.requires.mask
    ∙ ap (masked (code_512 t)) ((c.decode_in_slice-decoded.ensures.unchanged c.in-Failed.is).1
    ∙ masked_by t c.args.stored.now c.args.mask.now c.put_mask.new.parity c.put_mask.ensures c.requires.mask)
    ∙ masked-masked (code_512 t) c.args.stored.now c.requires.room
    ∙ sym (ap (λ (r : StepRead). r.parity) (failed c))

pub returns-in-Failed-clause-corrected : goal.returns-in-Failed-clause-corrected
returns-in-Failed-clause-corrected c = sym (ap (λ (r : StepRead). r.corrected) (failed c))
