-- The places of a nandtest.
use Rattle.std.proofs.Common.{◌≡◌, ℕ, zero, suc, ◌+◌, ◌-◌, ◌%◌, ◌^◌, ◌≤◌, List, [], ◌∷◌, ◌++◌, length, take, replicate, false, refl, ap, ◌∙◌, arith}
use Rattle.nand_model.specs.declared.geometry.Geometry.{Geometry}
use Rattle.command_model.specs.Command.{Script, next_in}
use Rattle.command_model.specs.NandTest.{TestMode, TestCounts, read_bodies, test_block, test_blocks, test_passes, test_rewrite}
use Rattle.nand_model.specs.declared.words.Outcome.{Outcome}
use Rattle.tool_steps.specs.Steps.{is_over, state_left}
use Rattle.tool_steps.specs.Testing.{place_left}
use Rattle.tool_steps.specs.declared.step.State.{State}
use Rattle.tool_steps.specs.declared.step.State.TheVariants.{At, Over as IsAtEnd}
use Rattle.tool_steps.specs.declared.testing.Place.{Place}
use Rattle.tool_steps.specs.declared.testing.Place.TheVariants.{Looking, Keeping, Erasing, Writing, Comparing, Marking}

-- the first block of a pass, and then the others and the later passes
pub first_of_pass : (g : Geometry) (m : TestMode) (first count passes : ℕ) (c : TestCounts) → 1 ≤ count → 1 ≤ passes
    → test_block g m ((m.seed + (m.passes - suc (passes - 1))) % 2 ^ 64) first c
    (λ d. test_blocks g m ((m.seed + (m.passes - suc (passes - 1))) % 2 ^ 64) (count - 1) (first + 1) d (λ e. test_passes g m first count (passes - 1) e))
    ≡ test_passes g m first count passes c
first_of_pass g m first count passes c some left =
    let all : suc (count - 1) ≡ count = omega arith in
    let one_less : suc (passes - 1) ≡ passes = omega arith in
    ap (λ (n : ℕ). test_blocks g m ((m.seed + (m.passes - suc (passes - 1))) % 2 ^ 64) n first c (λ e. test_passes g m first count (passes - 1) e)) all
    ∙ ap (λ (n : ℕ). test_passes g m first count n c) one_less

-- while bodies are kept, more is asked for
pub keeps_on : (g : Geometry) (m : TestMode) (seed dev block rest place : ℕ) (kept : List ℕ) (c : TestCounts) (next_block : TestCounts → Script)
    → is_over (next_in (read_bodies g dev block rest place kept c (λ bytes d. test_rewrite g m seed block bytes d next_block))) ≡ false
keeps_on g m seed dev block zero place kept c next_block = refl
keeps_on g m seed dev block (suc rest) place kept c next_block = refl

asks_at : (g : Geometry) (kept : List ℕ) (place : Place) → is_over (next_in (place_left g kept place)) ≡ false
asks_at g kept (Looking b) = refl
asks_at g kept (Keeping p) = refl
asks_at g kept (Erasing b bodies) = refl
asks_at g kept (Writing p bodies) = refl
asks_at g kept (Comparing p differ) = refl
asks_at g kept (Marking b) = refl

-- a state that is not the end asks for something
pub goes_on : (g : Geometry) (kept : List ℕ) (state : State Place) → ((outcome : Outcome) → state ≡ IsAtEnd outcome → ⊥)
    → is_over (next_in (state_left (place_left g kept) state)) ≡ false
goes_on g kept (At place) h = asks_at g kept place
goes_on g kept (IsAtEnd outcome) h = absurd (h outcome refl)

-- bytes filled up to a length, in two ways
pub filled_up : (n : ℕ) (xs : List ℕ) → take n xs ++ replicate {A = ℕ} (n - length (take n xs)) 0xff ≡ take n (xs ++ replicate {A = ℕ} n 0xff)
filled_up n xs = by_length n n xs (omega arith)
  where
    more : (n m : ℕ) → n ≤ m → replicate {A = ℕ} n 0xff ≡ take n (replicate {A = ℕ} m 0xff)
    more zero m h = refl
    more (suc n) zero h = absurd (omega arith)
    more (suc n) (suc m) h = ap (λ (ys : List ℕ). 0xff ∷ ys) (more n m (omega arith))

    by_length : (n m : ℕ) (xs : List ℕ) → n ≤ m → take n xs ++ replicate {A = ℕ} (n - length (take n xs)) 0xff ≡ take n (xs ++ replicate {A = ℕ} m 0xff)
    by_length zero m [] h = refl
    by_length zero m (x ∷ xs) h = refl
    by_length (suc n) m [] h =
        let e : suc n - 0 ≡ suc n = omega arith in
        ap (λ k. replicate {A = ℕ} k 0xff) e ∙ more (suc n) m h
    by_length (suc n) m (x ∷ xs) h =
        let e : suc n - suc (length (take n xs)) ≡ n - length (take n xs) = omega arith in
        ap (λ k. x ∷ take n xs ++ replicate {A = ℕ} k 0xff) e ∙ ap (λ (ys : List ℕ). x ∷ ys) (by_length n m xs (omega arith))
