use Rattle.std.proofs.Common.{◌≤◌, ◌-◌, ◌∙◌, ap, refl, length, arith}
use Rattle.code_model.specs.Binary.{remainder}
use Rattle.code_model.specs.Word.{number_from}
use Rattle.bch_solver.proofs.BitsLemmas.{bits_of-body_parity}
use Rattle.bch_solver.proofs.correction.remainder_of.Goals as goal

pub returns-clause-value : goal.returns-clause-value
returns-clause-value c =
    let bytes = c.args.word.now in
    let room : c.args.body_len ≤ length bytes = omega arith in
    c.remainder_of_word.ensures.value
    ∙ ap (λ w. remainder c.args.degree c.args.generator (number_from 0 w)) (bits_of-body_parity bytes c.args.body_len c.args.degree (length bytes - c.args.body_len) room refl)
