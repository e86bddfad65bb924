use Rattle.std.proofs.Common.{◌≡◌, ◌∙◌, ◌++◌, List, [], ◌∷◌, ℕ, append_assoc, codes, refl}
use Rattle.std.specs.Prelude.{decimal}
use Rattle.std.proofs.lemmas.Result.{IfOk-weaker}
use Rattle.bus_script.proofs.text.illegal_text.Goals as goal

joined : (a b c : List ℕ) → a ++ (b ++ (c ++ 10 ∷ [])) ≡ (a ++ b ++ c) ++ 10 ∷ []
joined a b c = simp append_assoc refl

pub returns : goal.returns
returns c =
    let text_is = c.as_bytes.ensures.value ∙ c.in_ok-text.ensures.ok
    ∙ joined (codes "cycle ") (decimal c.args.cycle) (codes ": Illegal") in
    IfOk-weaker c.from_slice.result _ _ (λ text h. h ∙ text_is) c.from_slice.ensures
