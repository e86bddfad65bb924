use Rattle.std.proofs.Common.{◌-◌, ◌∙◌, length, refl, sym, arith}
use Rattle.std.proofs.lemmas.List.{length-take-le}
use Rattle.bch_decode.proofs.StepLemmas.{parts_joined}
use Rattle.bch_decode.proofs.decoder.part.Goals as goal

pub slice_bounds-copy_from_slice-end-2 : goal.slice_bounds-copy_from_slice-end-2
slice_bounds-copy_from_slice-end-2 c = sym (length-take-le 512 c.args.word.now (omega arith))

pub copy_from_slice-requires : goal.copy_from_slice-requires
copy_from_slice-requires c = c.told-step ∙ sym (length-take-le 512 c.args.word.now (omega arith))

pub returns : goal.returns
returns c =
    parts_joined 512 c.args.word.now c.copy_from_slice.new.self c.copy_from_slice-2.new.self (length c.args.word.now - 512) c.copy_from_slice.ensures.after c.copy_from_slice-2.ensures.after refl
