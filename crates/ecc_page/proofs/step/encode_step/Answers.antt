use Rattle.std.proofs.Common.{length, sym, ap, ap₂, ◌∙◌}
use Rattle.code_model.specs.Bits.{xor_bytes}
use Rattle.code_model.specs.Code.{code_512, masked}
use Rattle.code_model.proofs.ParityLemmas.{length-mask_of}
use Rattle.ecc_page.proofs.step.encode_step.Goals as goal

pub put_mask-requires : goal.put_mask-requires
put_mask-requires c = ap length c.requires.mask ∙ length-mask_of (code_512 c.args.t) ∙ sym (c.parity_of_slice.auto.out ∙ c.requires.room)

pub returns : goal.returns
unfolding masked
returns c = c.put_mask.ensures ∙ ap₂ xor_bytes c.parity_of_slice.ensures c.requires.mask
