use Rattle.std.proofs.Common.{◌≡◌, ◌∙◌, ◌++◌, ℕ, List, refl, ap, codes, append_assoc}
use Rattle.std.specs.Prelude.{decimal}
use Rattle.std.proofs.lemmas.Result.{IfOk-weaker}
use Rattle.nandlab.proofs.answer.refusal_text.Goals as goal

five_joined : (a b c d e : List ℕ) → a ++ (b ++ (c ++ (d ++ e))) ≡ a ++ b ++ c ++ d ++ e
five_joined a b c d e = simp append_assoc refl

pub returns : goal.returns
returns c =
    let text_is = c.as_bytes.ensures.value ∙ c.in_ok-text.ensures.ok
    ∙ five_joined (codes "line ") (decimal c.args.line) (codes ": ") c.kind_name-name.result.now (codes "\n")
    ∙ ap (λ name. codes "line " ++ decimal c.args.line ++ codes ": " ++ name ++ codes "\n") c.kind_name-name.ensures in
    IfOk-weaker c.from_slice.result _ _ (λ text h. h ∙ text_is) c.from_slice.ensures
