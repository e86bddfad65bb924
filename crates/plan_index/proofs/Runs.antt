-- Runs of places.
use Rattle.std.proofs.Common.{◌≡◌, ℕ, ◌+◌, ◌<◌, ◌≤◌, Bool, true, false, not, ◌&&◌, ◌||◌, leb, ltb, List, length, sym, ap, ◌∙◌, refl, arith, inl, inr, ◌⊎◌, ⊎_elim}
use Rattle.std.specs.Prelude.{slice_set}
use Rattle.std.proofs.lemmas.List.{get_or-set_same, get_or-set_other}
use Rattle.std.proofs.lemmas.Bool.{cases_eq, cases_order, le-leb, lt-leb, lt-ltb, le-ltb, or_right, and_from, not-true}
use Rattle.plan_index.specs.Places.{flag_at, HasRun}

or_false : (b : Bool) → (b || false) ≡ b
or_false true = refl
or_false false = refl

and_false : (b : Bool) → (b && false) ≡ false
and_false true = refl
and_false false = refl

-- a run from its first place on has no place yet
pub run_none : (flags : List Bool) (start : ℕ) → HasRun flags flags start start
run_none flags start n = ⊎_elim
    (λ below. sym (ap (λ b. flag_at flags n || (b && ltb n start)) (lt-leb start n below) ∙ or_false (flag_at flags n)))
    (λ past. sym (ap (λ b. flag_at flags n || (leb start n && b)) (le-ltb n start past)
    ∙ ap (λ b. flag_at flags n || b) (and_false (leb start n)) ∙ or_false (flag_at flags n)))
    (cases_lt' n start)
  where
    cases_lt' : (a b : ℕ) → (a < b) ⊎ (b ≤ a)
    cases_lt' a b = ⊎_elim (λ e. inr (omega arith)) (λ s. ⊎_elim (λ l. inl l) (λ g. inr (omega arith)) s) (cases_order a b)

-- a run with one more place
pub run_more : (old flags new : List Bool) (start place : ℕ) → HasRun old flags start place → start ≤ place →
    place < length flags → new ≡ slice_set flags place true → HasRun old new start (place + 1)
run_more old flags new start place so_far from here e n = ⊎_elim at_place elsewhere (cases_eq n place)
  where
    at_place : n ≡ place → flag_at new n ≡ (flag_at old n || (leb start n && ltb n (place + 1)))
    at_place same =
        let stored : flag_at new n ≡ true = ap (λ fs. flag_at fs n) e
        ∙ ap (λ k. flag_at (slice_set flags place true) k) same ∙ get_or-set_same flags place true false here in
        stored ∙ sym (or_right (flag_at old n) (leb start n && ltb n (place + 1))
        (and_from (leb start n) (ltb n (place + 1)) (le-leb start n (omega (arith, same, from))) (lt-ltb n (place + 1) (omega (arith, same)))))

    tests : (n ≡ place → ⊥) → ltb n (place + 1) ≡ ltb n place
    tests apart = ⊎_elim (λ below. lt-ltb n (place + 1) (omega arith) ∙ sym (lt-ltb n place below))
        (λ past. le-ltb n (place + 1) past ∙ sym (le-ltb n place (omega arith))) (cases n place apart)
      where
        cases : (a b : ℕ) → (a ≡ b → ⊥) → (a < b) ⊎ (b + 1 ≤ a)
        cases a b ne = ⊎_elim (λ same. absurd (ne same)) (λ s. ⊎_elim (λ l. inl l) (λ g. inr (omega arith)) s) (cases_order a b)

    elsewhere : (n ≡ place → ⊥) → flag_at new n ≡ (flag_at old n || (leb start n && ltb n (place + 1)))
    elsewhere apart =
        ap (λ fs. flag_at fs n) e ∙ get_or-set_other flags place n true false apart ∙ so_far n
        ∙ ap (λ b. flag_at old n || (leb start n && b)) (sym (tests apart))

-- the place after a run has its own flag still
pub after_run : (old flags : List Bool) (start place : ℕ) → HasRun old flags start place → flag_at flags place ≡ flag_at old place
after_run old flags start place so_far =
    so_far place ∙ ap (λ b. flag_at old place || (leb start place && b)) (le-ltb place place (omega arith))
    ∙ ap (λ b. flag_at old place || b) (and_false (leb start place)) ∙ or_false (flag_at old place)

-- the places before one, and that one, are free
pub free_more : (old flags : List Bool) (start place : ℕ) → HasRun old flags start place →
    ((n : ℕ) → start ≤ n → n < place → flag_at old n ≡ false) → not (flag_at flags place) ≡ true →
    (n : ℕ) → start ≤ n → n < place + 1 → flag_at old n ≡ false
free_more old flags start place so_far free here n from below = ⊎_elim
    (λ same. ap (flag_at old) same ∙ sym (after_run old flags start place so_far) ∙ not-true (flag_at flags place) here)
    (λ apart. free n from (omega arith)) (cases_eq n place)
