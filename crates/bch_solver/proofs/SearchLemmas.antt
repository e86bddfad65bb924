use Rattle.std.proofs.Common.{◌≡◌, ◌≢◌, ℕ, suc, ◌+◌, ◌-◌, ◌<◌, ◌≤◌, ◌⊎◌, inl, inr, List, ◌∙◌, ap, refl, sym, subst, arith}
use Rattle.std.proofs.lemmas.Bool.{cases_eq}
use Rattle.code_model.specs.Word.{distance}
use Rattle.code_model.specs.Bits.{bit_of, bits_from}
use Rattle.bch_solver.specs.Words.{TurnsAtZero}
use Rattle.bch_solver.proofs.DistanceLemmas.{distance_none, distance_kept, distance_more}

-- the loop's facts on bits, at bytes ys, once k degrees are done
pub record Done (v : ℕ → ℕ) (n k c : ℕ) (xs ys : List ℕ) : Type 0 where
  pub before : (j : ℕ) → j + k < n → bit_of ys j ≡ bit_of xs j
  pub after : (j : ℕ) → n ≤ j → bit_of ys j ≡ bit_of xs j
  pub turned : (j : ℕ) → j < n → n ≤ j + k → TurnsAtZero (v (n - suc j)) (bit_of xs j) (bit_of ys j)
  pub number : c ≡ distance (bits_from xs (n - k) k) (bits_from ys (n - k) k)

pub done_none : (v : ℕ → ℕ) (n : ℕ) (xs : List ℕ) → Done v n 0 0 xs xs
done_none v n xs = record {
  before = λ j h. refl;
  after = λ j h. refl;
  turned = λ j h g. absurd (omega arith);
  number = distance_none xs xs (n - 0);
}

-- the bit of degree k is looked at: ys has the other bits of zs
pub done_more : (v : ℕ → ℕ) (n k c c' : ℕ) (xs zs ys : List ℕ) → k < n → Done v n k c xs zs → ((j : ℕ) → j ≢ n - 1 - k → bit_of ys j ≡ bit_of zs j)
    → ((v k ≡ 0) × (bit_of ys (n - 1 - k) ≡ 1 - bit_of zs (n - 1 - k)) × (c' ≡ c + 1)) ⊎ ((v k ≢ 0) × (bit_of ys (n - 1 - k) ≡ bit_of zs (n - 1 - k)) × (c' ≡ c))
    → Done v n (k + 1) c' xs ys
done_more v n k c c' xs zs ys h d others here = record {
  before = λ j g. others j (omega arith) ∙ d.before j (omega arith);
  after = λ j g. others j (omega arith) ∙ d.after j g;
  turned = λ j g f. elim (cases_eq j (n - 1 - k)) [
    | inl e ↦ subst (λ (i : ℕ). TurnsAtZero (v (n - suc i)) (bit_of xs i) (bit_of ys i)) (sym e) turned_here
    | inr ne ↦ subst (λ (b : ℕ). TurnsAtZero (v (n - suc j)) (bit_of xs j) b) (sym (others j ne)) (d.turned j g (omega arith))
  ];
  number = elim here [
    | inl z ↦ z.2 ∙ distance_more xs ys zs p (n - k) k c next d.number same (λ q. changed (old ∙ q ∙ z.1)) ∙ length_is
    | inr z ↦ z.2 ∙ distance_kept xs ys zs p (n - k) k c next d.number same (sym old ∙ sym z.1) ∙ length_is
  ];
}
  where
    p : ℕ
    p = n - 1 - k

    old : bit_of zs (n - 1 - k) ≡ bit_of xs (n - 1 - k)
    old = d.before (n - 1 - k) (omega arith)

    next : suc (n - 1 - k) ≡ n - k
    next = omega arith

    same : (i : ℕ) → n - k ≤ i → bit_of ys i ≡ bit_of zs i
    same i g = others i (omega arith)

    degree : n - suc (n - 1 - k) ≡ k
    degree = omega arith

    length_is : distance (bits_from xs (n - 1 - k) (suc k)) (bits_from ys (n - 1 - k) (suc k)) ≡ distance (bits_from xs (n - (k + 1)) (k + 1)) (bits_from ys (n - (k + 1)) (k + 1))
    length_is =
        (let e : n - 1 - k ≡ n - (k + 1) = omega arith in
        let s : suc k ≡ k + 1 = omega arith in
        ap (λ i. distance (bits_from xs i (suc k)) (bits_from ys i (suc k))) e ∙ ap (λ i. distance (bits_from xs (n - (k + 1)) i) (bits_from ys (n - (k + 1)) i)) s)

    changed : bit_of zs (n - 1 - k) ≡ 1 - bit_of zs (n - 1 - k) → ⊥
    changed q = (let b : bit_of zs (n - 1 - k) < 2 = omega arith in omega arith)

    turned_here : TurnsAtZero (v (n - suc (n - 1 - k))) (bit_of xs (n - 1 - k)) (bit_of ys (n - 1 - k))
    turned_here = elim here [
      | inl z ↦ record {
        at_zero = λ _. z.1 ∙ ap (λ b. 1 - b) old;
        elsewhere = λ ne. absurd (ne (ap v degree ∙ z.0));
      }
      | inr z ↦ record {
        at_zero = λ q. absurd (z.0 (ap v (sym degree) ∙ q));
        elsewhere = λ _. z.1 ∙ old;
      }
    ]
