use Rattle.std.proofs.Common.{◌≡◌, ℕ, zero, suc, ◌+◌, ◌*◌, ◌/◌, ◌%◌, ◌^◌, ◌<◌, ◌≤◌, refl, sym, ap, ap₂, ◌∙◌, subst, arith}
use Rattle.std.specs.Prelude.{bit_xor}
use Rattle.std.proofs.lemmas.Nat.{xor_comm, xor_block}
use lib.Bits.{xor_assoc, xor_self, xor_zero_r}
use Rattle.code_model.specs.Binary.{bits_fold_of, bits_fold}

-- induction on the binary digits, the lowest split off
pub by_bits : (P : ℕ → Type 0) → P 0 → ((a c : ℕ) → c < 2 → P a → P (2 * a + c)) → (n : ℕ) → P n
by_bits P base step n = go n n (omega arith)
  where
    go : (k n : ℕ) → n ≤ k → P n
    go zero n h = let e : n ≡ 0 = omega arith in subst P (sym e) base
    go (suc k) zero h = base
    go (suc k) (suc n) h =
        let e : 2 * (suc n / 2) + suc n % 2 ≡ suc n = omega arith in
        subst P e (step (suc n / 2) (suc n % 2) (omega arith) (go k (suc n / 2) (omega arith)))

-- more digits than there are change nothing
enough : (step : ℕ → ℕ → ℕ) (k n a : ℕ) → a ≤ k → a ≤ n → bits_fold_of step k a ≡ bits_fold_of step n a
unfolding bits_fold_of
enough step zero zero a p q = refl
enough step zero (suc n) zero p q = refl
enough step zero (suc n) (suc a) p q = absurd (omega arith)
enough step (suc k) zero zero p q = refl
enough step (suc k) zero (suc a) p q = absurd (omega arith)
enough step (suc k) (suc n) zero p q = refl
enough step (suc k) (suc n) (suc a) p q =
    ap (λ r. step r (suc a % 2)) (enough step k n (suc a / 2) (omega arith) (omega arith))

fold_suc : (step : ℕ → ℕ → ℕ) (a : ℕ) → bits_fold step (suc a) ≡ step (bits_fold step (suc a / 2)) (suc a % 2)
unfolding bits_fold bits_fold_of
fold_suc step a = ap (λ r. step r (suc a % 2)) (enough step a (suc a / 2) (suc a / 2) (omega arith) (omega arith))

pub bits_fold-zero : (step : ℕ → ℕ → ℕ) → bits_fold step 0 ≡ 0
unfolding bits_fold bits_fold_of
bits_fold-zero step = refl

-- the lowest digit is taken last
pub bits_fold-digit : (step : ℕ → ℕ → ℕ) → step 0 0 ≡ 0 → (a c : ℕ) → c < 2 → bits_fold step (2 * a + c) ≡ step (bits_fold step a) c
bits_fold-digit step none a c h = go (2 * a + c) refl
  where
    go : (n : ℕ) → n ≡ 2 * a + c → bits_fold step n ≡ step (bits_fold step a) c
    go zero e =
        let a0 : a ≡ 0 = omega arith in
        let c0 : c ≡ 0 = omega arith in
        bits_fold-zero step ∙ sym none ∙ ap₂ step (sym (bits_fold-zero step) ∙ ap (bits_fold step) (sym a0)) (sym c0)
    go (suc n) e =
        let half : suc n / 2 ≡ a = omega arith in
        let low : suc n % 2 ≡ c = omega arith in
        fold_suc step n ∙ ap₂ step (ap (bits_fold step) half) low

-- ---- sums
pub xor_digit : (a c b d : ℕ) → c < 2 → d < 2 → bit_xor (2 * a + c) (2 * b + d) ≡ 2 * bit_xor a b + bit_xor c d
xor_digit a c b d p q =
    let e : a * 2 ^ 1 + c ≡ 2 * a + c = omega arith in
    let e' : b * 2 ^ 1 + d ≡ 2 * b + d = omega arith in
    let e'' : bit_xor a b * 2 ^ 1 + bit_xor c d ≡ 2 * bit_xor a b + bit_xor c d = omega arith in
    ap₂ bit_xor (sym e) (sym e') ∙ xor_block 1 a b c d p q ∙ e''

pub xor_double : (a b : ℕ) → bit_xor (2 * a) (2 * b) ≡ 2 * bit_xor a b
xor_double a b =
    let e : 2 * a + 0 ≡ 2 * a = omega arith in
    let e' : 2 * b + 0 ≡ 2 * b = omega arith in
    let e'' : 2 * bit_xor a b + 0 ≡ 2 * bit_xor a b = omega arith in
    ap₂ bit_xor (sym e) (sym e') ∙ xor_digit a 0 b 0 (omega arith) (omega arith) ∙ e''

pub xor_double_digit : (a c : ℕ) → c < 2 → bit_xor (2 * a) c ≡ 2 * a + c
xor_double_digit a c h =
    let e : 2 * a + 0 ≡ 2 * a = omega arith in
    let e' : 2 * 0 + c ≡ c = omega arith in
    ap₂ bit_xor (sym e) (sym e') ∙ xor_digit a 0 0 c (omega arith) h ∙ ap (λ x. 2 * x + c) (xor_zero_r a)

pub xor_swap : (a b c d : ℕ) → bit_xor (bit_xor a b) (bit_xor c d) ≡ bit_xor (bit_xor a c) (bit_xor b d)
xor_swap a b c d =
    xor_assoc a b (bit_xor c d) ∙ ap (bit_xor a) (sym (xor_assoc b c d) ∙ ap (λ x. bit_xor x d) (xor_comm b c) ∙ xor_assoc c b d) ∙ sym (xor_assoc a c (bit_xor b d))

-- a digit times a number
pub digit-xor : (c a b : ℕ) → c < 2 → c * bit_xor a b ≡ bit_xor (c * a) (c * b)
digit-xor zero a b h =
    let e : (n : ℕ) → 0 * n ≡ 0 = λ n. omega arith in
    e (bit_xor a b) ∙ ap₂ bit_xor (sym (e a)) (sym (e b))
digit-xor (suc zero) a b h =
    let e : (n : ℕ) → 1 * n ≡ n = λ n. omega arith in
    e (bit_xor a b) ∙ ap₂ bit_xor (sym (e a)) (sym (e b))
digit-xor (suc (suc c)) a b h = absurd (omega arith)

pub xor_digit-mul : (c d b : ℕ) → c < 2 → d < 2 → bit_xor c d * b ≡ bit_xor (c * b) (d * b)
xor_digit-mul zero d b p q =
    let e : 0 * b ≡ 0 = omega arith in
    ap (λ x. bit_xor x (d * b)) (sym e)
xor_digit-mul (suc zero) zero b p q =
    let e : 0 * b ≡ 0 = omega arith in
    sym (xor_zero_r (1 * b)) ∙ ap (bit_xor (1 * b)) (sym e)
xor_digit-mul (suc zero) (suc zero) b p q =
    let e : 0 * b ≡ 0 = omega arith in
    e ∙ sym (xor_self (1 * b))
xor_digit-mul (suc zero) (suc (suc d)) b p q = absurd (omega arith)
xor_digit-mul (suc (suc c)) d b p q = absurd (omega arith)
