-- The tables hold minimal polynomials and generators.
use Rattle.std.proofs.Common.{◌≡◌, ℕ, zero, suc, ◌+◌, ◌*◌, ◌^◌, ◌<◌, refl, ap, ap₂, ◌∙◌, arith, List, [], ◌∷◌, length, get_or, true, false, Bool, cond}
use Rattle.std.specs.Prelude.{nat_eq}
use Rattle.std.proofs.lemmas.Bool.Decides.{nat_tests}
use Rattle.code_model.specs.Binary.{bits_fold_of, bits_fold, product, reduced, remainder, times, power}
use Rattle.code_model.specs.Poly.{locator, with_root, with_root_from}
use Rattle.code_model.specs.Generator.{packed, conjugates, minimal_of, generator_of}
use Rattle.gf2_poly.specs.declared.tables.TheConstants.{MINIMALS, GENERATORS}

-- from the i-th odd power on, each entry is a minimal polynomial
minimals_pass : ℕ → List ℕ → Bool
minimals_pass i [] = true
minimals_pass i (m ∷ ms) = let rest = minimals_pass (suc i) ms in cond (nat_eq m (minimal_of 13 0x201b (2 * i + 1))) rest false

-- the number of two halves
number_of : List ℕ → ℕ
number_of halves = get_or halves 0 0 * 2 ^ 128 + get_or halves 1 0

-- each row is the product of the row before, at first g, and of the next minimal polynomial
generators_pass : ℕ → List ℕ → List (List ℕ) → Bool
generators_pass g ms [] = true
generators_pass g [] (r ∷ rows) = false
generators_pass g (m ∷ ms) (r ∷ rows) = let rest = generators_pass (number_of r) ms rows in cond (nat_eq (number_of r) (product g m)) rest false

cond_parts : (s r : Bool) → cond s r false ≡ true → (s ≡ true) × (r ≡ true)
cond_parts true r t = (refl, t)
cond_parts false r t = cc

same_from_eq : (x a : ℕ) → nat_eq x a ≡ true → x ≡ a
same_from_eq x a e = grind (arith, nat_tests)

minimal_from_pass : (k i : ℕ) (ms : List ℕ) → minimals_pass k ms ≡ true → i < length ms → get_or ms i 0 ≡ minimal_of 13 0x201b (2 * (k + i) + 1)
unfolding minimals_pass
minimal_from_pass k i [] p h = absurd (omega arith)
minimal_from_pass k zero (m ∷ ms) p h =
    let e : k ≡ k + 0 = omega arith in
    same_from_eq _ _ (cond_parts (nat_eq m (minimal_of 13 0x201b (2 * k + 1))) (minimals_pass (suc k) ms) p).0
    ∙ ap (λ n. minimal_of 13 0x201b (2 * n + 1)) e
minimal_from_pass k (suc i) (m ∷ ms) p h =
    let e : suc k + i ≡ k + suc i = omega arith in
    minimal_from_pass (suc k) i ms (cond_parts (nat_eq m (minimal_of 13 0x201b (2 * k + 1))) (minimals_pass (suc k) ms) p).1 (omega arith)
    ∙ ap (λ n. minimal_of 13 0x201b (2 * n + 1)) e

-- the row after the generator for k errors
next_row : (k g m : ℕ) (ms : List ℕ) (r : List ℕ) (rows : List (List ℕ)) → generators_pass g (m ∷ ms) (r ∷ rows) ≡ true → g ≡ generator_of 13 0x201b k
    → m ≡ minimal_of 13 0x201b (2 * k + 1) → (number_of r ≡ generator_of 13 0x201b (suc k)) × (generators_pass (number_of r) ms rows ≡ true)
unfolding generators_pass generator_of
next_row k g m ms r rows p eg em =
    let parts = cond_parts (nat_eq (number_of r) (product g m)) (generators_pass (number_of r) ms rows) p in
    (same_from_eq (number_of r) (product g m) parts.0 ∙ ap₂ product eg em, parts.1)

generator_from_pass : (k i g : ℕ) (ms : List ℕ) (rows : List (List ℕ)) → generators_pass g ms rows ≡ true → g ≡ generator_of 13 0x201b k
    → ((n : ℕ) → n < length rows → get_or ms n 0 ≡ minimal_of 13 0x201b (2 * (k + n) + 1)) → i < length rows → number_of (get_or rows i []) ≡ generator_of 13 0x201b (suc (k + i))
unfolding generators_pass
generator_from_pass k i g ms [] p eg em h = absurd (omega arith)
generator_from_pass k i g [] (r ∷ rows) p eg em h = cc
generator_from_pass k zero g (m ∷ ms) (r ∷ rows) p eg em h =
    let z : k + 0 ≡ k = omega arith in
    let e : suc k ≡ suc (k + 0) = omega arith in
    (next_row k g m ms r rows p eg (em 0 (omega arith) ∙ ap (λ n. minimal_of 13 0x201b (2 * n + 1)) z)).0 ∙ ap (generator_of 13 0x201b) e
generator_from_pass k (suc i) g (m ∷ ms) (r ∷ rows) p eg em h =
    let z : k + 0 ≡ k = omega arith in
    let next = next_row k g m ms r rows p eg (em 0 (omega arith) ∙ ap (λ n. minimal_of 13 0x201b (2 * n + 1)) z) in
    let e : suc (suc k + i) ≡ suc (k + suc i) = omega arith in
    generator_from_pass (suc k) i (number_of r) ms rows next.1 next.0
    (λ n l. let t : k + suc n ≡ suc k + n = omega arith in em (suc n) (omega arith) ∙ ap (λ x. minimal_of 13 0x201b (2 * x + 1)) t)
    (omega arith)
    ∙ ap (generator_of 13 0x201b) e

minimals : minimals_pass 0 MINIMALS ≡ true
unfolding minimals_pass minimal_of packed conjugates locator with_root with_root_from times remainder reduced product power bits_fold bits_fold_of
minimals = refl

generators : generators_pass 1 MINIMALS GENERATORS ≡ true
unfolding generators_pass number_of product bits_fold bits_fold_of
generators = refl

pub minimal_row : (i : ℕ) → i < 16 → get_or MINIMALS i 0 ≡ minimal_of 13 0x201b (2 * i + 1)
minimal_row i h = let e : 0 + i ≡ i = omega arith in minimal_from_pass 0 i MINIMALS minimals h ∙ ap (λ n. minimal_of 13 0x201b (2 * n + 1)) e

pub generator_row : (i : ℕ) → i < 16 → get_or (get_or GENERATORS i []) 0 0 * 2 ^ 128 + get_or (get_or GENERATORS i []) 1 0 ≡ generator_of 13 0x201b (suc i)
unfolding number_of generator_of
generator_row i h =
    let e : suc (0 + i) ≡ suc i = omega arith in
    generator_from_pass 0 i 1 MINIMALS GENERATORS generators refl (λ n l. let z : n ≡ 0 + n = omega arith in minimal_row n l ∙ ap (λ x. minimal_of 13 0x201b (2 * x + 1)) z) h ∙ ap (generator_of 13 0x201b) e
