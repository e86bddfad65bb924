-- The Hamming distance, and the words at one distance from a word.
use Rattle.std.proofs.Common.{◌≡◌, ◌≢◌, ℕ, zero, suc, ◌+◌, ◌-◌, ◌<◌, ◌≤◌, List, [], ◌∷◌, ◌++◌, length, refl, sym, ap, ap₂, ◌∙◌, subst, arith, true, false, cond, inl, inr}
use Rattle.std.specs.Prelude.{nat_eq}
use Rattle.std.proofs.lemmas.Bool.{cases_eq}
use Rattle.std.proofs.lemmas.Bool.Decides.{nat_tests}
use Rattle.code_model.specs.Poly.{Every}
use Rattle.code_model.specs.Word.{AreBits, differences, distance}
use Rattle.code_model.specs.Code.{put_before, words_at}

test_true : (x y : ℕ) → x ≡ y → nat_eq x y ≡ true
test_true x y q = search (arith, nat_tests)

test_false : (x y : ℕ) → x ≢ y → nat_eq x y ≡ false
test_false x y q = search (arith, nat_tests)

pub distance-cons_same : (x y : ℕ) (xs ys : List ℕ) → x ≡ y → distance (x ∷ xs) (y ∷ ys) ≡ distance xs ys
unfolding differences
distance-cons_same x y xs ys e = ap (λ b. length (cond b (differences xs ys) (length xs ∷ differences xs ys))) (test_true x y e)

pub distance-cons_off : (x y : ℕ) (xs ys : List ℕ) → x ≢ y → distance (x ∷ xs) (y ∷ ys) ≡ suc (distance xs ys)
unfolding differences
distance-cons_off x y xs ys ne = ap (λ b. length (cond b (differences xs ys) (length xs ∷ differences xs ys))) (test_false x y ne)

distance-empty_left : (ys : List ℕ) → distance [] ys ≡ 0
unfolding differences
distance-empty_left ys = refl

distance-empty_right : (xs : List ℕ) → distance xs [] ≡ 0
unfolding differences
distance-empty_right [] = refl
distance-empty_right (x ∷ xs) = refl

pub distance-same : (xs : List ℕ) → distance xs xs ≡ 0
distance-same [] = distance-empty_left []
distance-same (x ∷ xs) = distance-cons_same x x xs xs refl ∙ distance-same xs

pub distance_comm : (xs ys : List ℕ) → distance xs ys ≡ distance ys xs
distance_comm [] ys = distance-empty_left ys ∙ sym (distance-empty_right ys)
distance_comm (x ∷ xs) [] = distance-empty_right (x ∷ xs) ∙ sym (distance-empty_left (x ∷ xs))
distance_comm (x ∷ xs) (y ∷ ys) = elim (cases_eq x y) [
  | inl e ↦ distance-cons_same x y xs ys e ∙ distance_comm xs ys ∙ sym (distance-cons_same y x ys xs (sym e))
  | inr ne ↦ distance-cons_off x y xs ys ne ∙ ap suc (distance_comm xs ys) ∙ sym (distance-cons_off y x ys xs (λ e. ne (sym e)))
]

-- the triangle's inequality
pub distance_triangle : (xs ys zs : List ℕ) → length xs ≡ length ys → length ys ≡ length zs → distance xs zs ≤ distance xs ys + distance ys zs
distance_triangle [] ys zs e e' = let z = distance-empty_left zs in omega arith
distance_triangle (x ∷ xs) [] zs e e' = absurd (omega arith)
distance_triangle (x ∷ xs) (y ∷ ys) [] e e' = absurd (omega arith)
distance_triangle (x ∷ xs) (y ∷ ys) (z ∷ zs) e e' =
    let ih = distance_triangle xs ys zs (omega arith) (omega arith) in
    elim (cases_eq x y) [
      | inl a ↦ elim (cases_eq y z) [
        | inl b ↦ (let p = distance-cons_same x y xs ys a in let q = distance-cons_same y z ys zs b in let r = distance-cons_same x z xs zs (a ∙ b) in omega arith)
        | inr b ↦ (let p = distance-cons_same x y xs ys a in let q = distance-cons_off y z ys zs b in let r = distance-cons_off x z xs zs (λ c. b (sym a ∙ c)) in omega arith)
      ]
      | inr a ↦ elim (cases_eq y z) [
        | inl b ↦ (let p = distance-cons_off x y xs ys a in let q = distance-cons_same y z ys zs b in let r = distance-cons_off x z xs zs (λ c. a (c ∙ sym b)) in omega arith)
        | inr b ↦ (let p = distance-cons_off x y xs ys a in let q = distance-cons_off y z ys zs b in elim (cases_eq x z) [
          | inl c ↦ (let r = distance-cons_same x z xs zs c in omega arith)
          | inr c ↦ (let r = distance-cons_off x z xs zs c in omega arith)
        ])
      ]
    ]

-- two words that differ nowhere are equal
pub same_from_none : (xs ys : List ℕ) → length xs ≡ length ys → distance xs ys ≡ 0 → xs ≡ ys
same_from_none [] [] e z = refl
same_from_none [] (y ∷ ys) e z = absurd (omega arith)
same_from_none (x ∷ xs) [] e z = absurd (omega arith)
same_from_none (x ∷ xs) (y ∷ ys) e z = elim (cases_eq x y) [
  | inl q ↦ ap₂ (λ v vs. v ∷ vs) q (same_from_none xs ys (omega arith) (sym (distance-cons_same x y xs ys q) ∙ z))
  | inr ne ↦ absurd (let off = distance-cons_off x y xs ys ne in omega arith)
]

-- ---- words at one distance
Every-append : {A : Type 0} (Q : A → Type 0) (xs ys : List A) → Every Q xs → Every Q ys → Every Q (xs ++ ys)
Every-append Q [] ys s r = r
Every-append Q (x ∷ xs) ys s r = (s.0, Every-append Q xs ys s.1 r)

Every-append_parts : {A : Type 0} (Q : A → Type 0) (xs ys : List A) → Every Q (xs ++ ys) → Every Q xs × Every Q ys
Every-append_parts Q [] ys s = (tt, s)
Every-append_parts Q (x ∷ xs) ys s = let r = Every-append_parts Q xs ys s.1 in ((s.0, r.0), r.1)

Every-put_before : (Q : List ℕ → Type 0) (b : ℕ) (words : List (List ℕ)) → Every (λ w. Q (b ∷ w)) words → Every Q (put_before b words)
unfolding put_before
Every-put_before Q b [] s = tt
Every-put_before Q b (w ∷ words) s = (s.0, Every-put_before Q b words s.1)

Every-put_before_parts : (Q : List ℕ → Type 0) (b : ℕ) (words : List (List ℕ)) → Every Q (put_before b words) → Every (λ w. Q (b ∷ w)) words
unfolding put_before
Every-put_before_parts Q b [] s = tt
Every-put_before_parts Q b (w ∷ words) s = (s.0, Every-put_before_parts Q b words s.1)

Every-mono : {A : Type 0} (P Q : A → Type 0) (xs : List A) → ((x : A) → P x → Q x) → Every P xs → Every Q xs
Every-mono P Q [] h s = tt
Every-mono P Q (x ∷ xs) h s = (h x s.0, Every-mono P Q xs h s.1)

other_digit : (b : ℕ) → b ≢ 1 - b
other_digit b e = omega arith

-- they differ from the word in as many places
pub words_at-distance : (d : ℕ) (w : List ℕ) → Every (λ c. distance w c ≡ d) (words_at d w)
unfolding words_at
words_at-distance zero w = (distance-same w, tt)
words_at-distance (suc d) [] = tt
words_at-distance (suc d) (b ∷ w) =
    Every-append (λ c. distance (b ∷ w) c ≡ suc d) (put_before b (words_at (suc d) w)) (put_before (1 - b) (words_at d w))
    (Every-put_before (λ c. distance (b ∷ w) c ≡ suc d) b (words_at (suc d) w)
    (Every-mono (λ v. distance w v ≡ suc d) (λ v. distance (b ∷ w) (b ∷ v) ≡ suc d) (words_at (suc d) w) (λ v e. distance-cons_same b b w v refl ∙ e) (words_at-distance (suc d) w)))
    (Every-put_before (λ c. distance (b ∷ w) c ≡ suc d) (1 - b) (words_at d w)
    (Every-mono (λ v. distance w v ≡ d) (λ v. distance (b ∷ w) ((1 - b) ∷ v) ≡ suc d) (words_at d w) (λ v e. distance-cons_off b (1 - b) w v (other_digit b) ∙ ap suc e) (words_at-distance d w)))

digits_off : (b k : ℕ) → b < 2 → k < 2 → b ≢ k → 1 - b ≡ k
digits_off b k h l ne = omega arith

-- and each word of bits that does is among them
pub words_at-complete : (Q : List ℕ → Type 0) (d : ℕ) (w c : List ℕ) → AreBits w → AreBits c → length w ≡ length c → distance w c ≡ d → Every Q (words_at d w) → Q c
unfolding words_at
words_at-complete Q zero w c s r e z all = subst Q (same_from_none w c e z) all.0
words_at-complete Q (suc d) [] c s r e z all = absurd (let none = distance-empty_left c in omega arith)
words_at-complete Q (suc d) (b ∷ w) [] s r e z all = absurd (omega arith)
words_at-complete Q (suc d) (b ∷ w) (k ∷ c) s r e z all =
    let parts = Every-append_parts Q (put_before b (words_at (suc d) w)) (put_before (1 - b) (words_at d w)) all in
    elim (cases_eq b k) [
      | inl same ↦ subst (λ x. Q (x ∷ c)) same
          (words_at-complete (λ v. Q (b ∷ v)) (suc d) w c s.1 r.1 (omega arith) (sym (distance-cons_same b k w c same) ∙ z)
          (Every-put_before_parts Q b (words_at (suc d) w) parts.0))
      | inr ne ↦ subst (λ x. Q (x ∷ c)) (digits_off b k s.0 r.0 ne)
          (words_at-complete (λ v. Q ((1 - b) ∷ v)) d w c s.1 r.1 (omega arith) (let off = distance-cons_off b k w c ne in omega arith)
          (Every-put_before_parts Q (1 - b) (words_at d w) parts.1))
    ]
