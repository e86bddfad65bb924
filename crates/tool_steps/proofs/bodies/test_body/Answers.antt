use Rattle.std.proofs.Common.{◌+◌, ◌*◌, ℕ, List, [], ◌∷◌, ◌++◌, ap, ◌∙◌}
use Rattle.nand_model.specs.Seeds.{seed_byte}
use Rattle.tool_steps.proofs.Numbered.{numbered-next}
use Rattle.tool_steps.proofs.bodies.test_body.Goals as goal

pub loop-place-preserved : goal.loop-place-preserved
loop-place-preserved c =
    let f : ℕ → ℕ = λ j. seed_byte c.args.seed (c.args.page * c.args.g.now.page + j) in
    c.in_ok-push_slice.ensures.ok ∙ ap (λ (b : ℕ). c.loop-place.body ++ b ∷ []) c.test_byte.ensures
    ∙ ap (λ (xs : List ℕ). xs ++ f c.loop-place.place ∷ []) c.loop-place.invariant ∙ numbered-next f c.loop-place.place
