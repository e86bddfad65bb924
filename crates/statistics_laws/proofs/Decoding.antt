-- How much the decoding of a page counts at most.
use Rattle.std.proofs.Common.{◌≡◌, inl, inr, ℕ, zero, suc, ◌+◌, ◌*◌, ◌≤◌, ◌<◌, List, [], ◌∷◌, length, map, Option, Some, None, refl, ap, arith}
use Rattle.std.specs.Prelude.{sum_by, count_by, is_none, unwrap_or, find}
use Rattle.std.proofs.lemmas.List.Sums.{count_by-le-length, sum_by-cons}
use Rattle.std.proofs.lemmas.List.{length-map}
use Rattle.code_model.specs.Code.{Code, found_or, is_code_word, nearest, nearest_from, words_at}
use Rattle.nand_model.specs.Page.{StepRead, decoded, read_as, received_word, step_body, step_read, stored_parity}
use Rattle.nand_model.specs.Sizes.{code_of, numbers_from, step_count}
use Rattle.nand_model.specs.declared.geometry.Geometry.{Geometry}
use Rattle.nand_model.proofs.Bounds.{Bounds, bounds_of}

-- what is found is near
found_near : (o : Option (List ℕ)) (d most : ℕ) (later : Unit {0} → Option (List ℕ × ℕ)) (c : List ℕ) (e : ℕ) → d < most
    → (later tt ≡ Some (c, e) → e < most) → found_or o d later ≡ Some (c, e) → e < most
unfolding found_or
found_near (Some v) d most later c e less rest h =
    let pair : ◌≡◌ {A = List ℕ × ℕ} (v, d) (c, e) = cc in let same : d ≡ e = ap (λ p. p.1) pair in omega arith
found_near None d most later c e less rest h = rest h

near_from : (code : Code) (n d : ℕ) (w c : List ℕ) (e : ℕ) → nearest_from code n d w ≡ Some (c, e) → e < d + n
unfolding nearest_from
near_from code zero d w c e h = cc
near_from code (suc n) d w c e h =
    found_near (find (is_code_word code) (words_at d w)) d (d + suc n) (λ u. nearest_from code n (d + 1) w) c e (omega arith)
    (λ later. let near : e < d + 1 + n = near_from code n (d + 1) w c e later in omega arith) h

-- a step's decoding counts at most the code's strength
read_small : (code : Code) (body stored : List ℕ) (o : Option (List ℕ × ℕ)) (most : ℕ)
    → ((c : List ℕ) (e : ℕ) → o ≡ Some (c, e) → e ≤ most) → unwrap_or (read_as code body stored o).corrected 0 ≤ most
read_small code body stored None most h = omega arith
read_small code body stored (Some (word, n)) most h = h word n refl

step_small : (g : Geometry) (cells : List ℕ) (s : ℕ) → unwrap_or (step_read g cells s).corrected 0 ≤ g.t
unfolding nearest
step_small g cells s =
    let w : List ℕ = received_word (code_of g) (step_body g cells s) (stored_parity g cells s) in
    read_small (code_of g) (step_body g cells s) (stored_parity g cells s) (nearest (code_of g) w) g.t
    (λ c e h. let near : e < 0 + (g.t + 1) = near_from (code_of g) (g.t + 1) 0 w c e h in omega arith)

length-numbers : (first count : ℕ) → length (numbers_from first count) ≡ count
length-numbers first zero = refl
length-numbers first (suc count) = ap suc (length-numbers (first + 1) count)

eight_steps : (g : Geometry) → step_count g ≤ 8
eight_steps g =
    let b : Bounds g.page g.spare g.pages_per_block g.blocks g.t g.bbt g.threshold =
    bounds_of g.page g.spare g.pages_per_block g.blocks g.t g.bbt g.threshold g.in_bounds in
    elim b.pages [
      | inl p ↦ omega (arith, p.0)
      | inr rest ↦ elim rest [ inl p ↦ omega (arith, p.0) | inr p ↦ omega (arith, p.0) ]
    ]

-- a page counts at most 16 corrected bits and one failed step for each of its eight steps
pub corrected_small : (g : Geometry) (cells : List ℕ) → (decoded g cells).corrected ≤ 128
corrected_small g cells =
    let b : Bounds g.page g.spare g.pages_per_block g.blocks g.t g.bbt g.threshold =
    bounds_of g.page g.spare g.pages_per_block g.blocks g.t g.bbt g.threshold g.in_bounds in
    let few : sum_by (λ (r : StepRead). unwrap_or r.corrected 0) (map (step_read g cells) (numbers_from 0 (step_count g))) ≤ 16 * step_count g =
    reads_small (numbers_from 0 (step_count g)) b.t_high (step_count g) (length-numbers 0 (step_count g)) in
    omega (arith, few, eight_steps g)
  where
    reads_small : (steps : List ℕ) → g.t ≤ 16 → (n : ℕ) → length steps ≡ n
        → sum_by (λ (r : StepRead). unwrap_or r.corrected 0) (map (step_read g cells) steps) ≤ 16 * n
    reads_small [] low n many = omega arith
    reads_small (s ∷ steps) low zero many = absurd (omega (arith, many))
    reads_small (s ∷ steps) low (suc n) many =
        let first : unwrap_or (step_read g cells s).corrected 0 ≤ g.t = step_small g cells s in
        let rest = reads_small steps low n (omega (arith, many)) in
        omega (arith, sum_by-cons (λ (r : StepRead). unwrap_or r.corrected 0) (step_read g cells s) (map (step_read g cells) steps), first, rest, low)

pub failed_small : (g : Geometry) (cells : List ℕ) → (decoded g cells).failed ≤ 128
failed_small g cells =
    let few : count_by (λ (r : StepRead). is_none r.corrected) (map (step_read g cells) (numbers_from 0 (step_count g))) ≤ step_count g =
    counted_small (numbers_from 0 (step_count g)) (step_count g) (length-numbers 0 (step_count g)) in
    omega (arith, few, eight_steps g)
  where
    counted_small : (steps : List ℕ) (n : ℕ) → length steps ≡ n → count_by (λ (r : StepRead). is_none r.corrected) (map (step_read g cells) steps) ≤ n
    counted_small steps n many = omega (arith, many, count_by-le-length (λ (r : StepRead). is_none r.corrected) (map (step_read g cells) steps), length-map steps (step_read g cells))
