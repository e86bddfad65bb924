use Rattle.std.proofs.Common.{◌≡◌, length, sym, ap, ◌∙◌, arith}
use Rattle.code_model.specs.Code.{code_512}
use Rattle.code_model.proofs.ParityLemmas.{length-mask_of}
use Rattle.ecc_page.proofs.masking.mask.Goals as goal

pub copy_from_slice-requires : goal.copy_from_slice-requires
copy_from_slice-requires c =
    let long = ap length c.mask_of_code.ensures ∙ length-mask_of (code_512 c.args.t) ∙ sym c.requires.room in
    omega arith
