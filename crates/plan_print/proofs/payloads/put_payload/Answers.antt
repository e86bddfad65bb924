use Rattle.std.proofs.Common.{◌∙◌, ◌∷◌, ◌++◌, List, ℕ, ap}
use Rattle.std.specs.Prelude.{codes, map}
use Rattle.std.proofs.lemmas.Result.{IfOk-equal}
use Rattle.plan_grammar.specs.Canonical.{piece_text}
use Rattle.plan_print.specs.Lines.{behind_blanks}
use Rattle.plan_print.proofs.Parts.{then_text, line_put}
use Rattle.plan_print.proofs.payloads.put_payload.Goals as goal

pub returns : goal.returns
returns c =
    let payload = c.args.payload.now in
    let texts = map piece_text payload.pieces in
    let begun = c.put_text.new.out in
    let all = c.put_pieces.new.out in
    IfOk-equal _ _ _ _ c.put_text-2.ensures
    (line_put c.args.out.now begun all (codes "data") (payload.name ∷ texts) c.in_ok-put_text.ensures
    (then_text begun c.put_word.new.out all (32 ∷ payload.name) (behind_blanks texts)
    (c.in_ok-put_word.ensures ∙ ap (λ (name : List ℕ). begun ++ 32 ∷ name) c.as_slice.ensures)
    c.in_ok-put_pieces.ensures))
