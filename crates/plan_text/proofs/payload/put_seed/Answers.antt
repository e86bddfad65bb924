use Rattle.std.proofs.Common.{◌≡◌, ◌∙◌, ◌∷◌, ◌++◌, ◌+◌, ◌-◌, ℕ, suc, List, [], map, sym, ap, arith, append_assoc}
use Rattle.nand_model.specs.Seeds.{seed_byte}
use Rattle.nand_model.specs.Sizes.{numbers_from}
use Rattle.plan_text.proofs.payload.put_seed.Goals as goal

pub loop-index-preserved : goal.loop-index-preserved
loop-index-preserved c =
    let i = c.loop-index.index in
    let left : c.args.len - i ≡ suc (c.args.len - (i + 1)) = omega (arith, c.loop-index-test.true) in
    let f : ℕ → ℕ = seed_byte c.args.seed in
    let byte : c.seed_byte.result ≡ f i = c.seed_byte.ensures in
    ap (λ (out : List ℕ). out ++ map f (numbers_from (i + 1) (c.args.len - (i + 1)))) (c.in_ok-push_slice.ensures.ok
    ∙ ap (λ (b : ℕ). c.loop-index.out ++ b ∷ []) byte)
    ∙ append_assoc c.loop-index.out (f i ∷ []) (map f (numbers_from (i + 1) (c.args.len - (i + 1))))
    ∙ ap (λ n. c.loop-index.out ++ map f (numbers_from i n)) (sym left)
    ∙ c.loop-index.invariant
