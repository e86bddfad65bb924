use Rattle.std.proofs.Common.{◌≡◌, ◌++◌, ◌∙◌, append_assoc, length, sym, ap, ap₂}
use Rattle.std.proofs.lemmas.Result.{on_ok_weaker}
use Rattle.code_model.specs.Bits.{xor_bytes}
use Rattle.code_model.specs.Code.{code_1024, masked, parity_of}
use Rattle.code_model.proofs.ParityLemmas.{length-mask_of, length-parity_of}
use Rattle.code_words.proofs.encode.put_unit.Goals as goal

pub put_mask-requires : goal.put_mask-requires
put_mask-requires c =
    ap length c.requires.mask ∙ length-mask_of (code_1024 c.args.t)
    ∙ sym (ap length c.parity14_of_slice.ensures ∙ length-parity_of (code_1024 c.args.t) c.args.step.now)

pub returns : goal.returns
unfolding masked
returns c =
    let code = code_1024 c.args.t in
    let out = c.args.out.now in
    let step = c.args.step.now in
    let stored : c.put_mask.new.parity ≡ masked code (parity_of code step) = c.put_mask.ensures ∙ ap₂ xor_bytes c.parity14_of_slice.ensures c.requires.mask in
    on_ok_weaker c.push_slice-2.result
    (λ h. h ∙ ap (λ xs. xs ++ c.put_mask.new.parity) c.in_ok-push_slice.ensures.ok ∙ append_assoc out step c.put_mask.new.parity ∙ ap (λ q. out ++ (step ++ q)) stored)
    c.push_slice-2.ensures.ok
