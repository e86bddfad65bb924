use Rattle.std.proofs.Common.{◌≡◌, ℕ, zero, suc, ◌+◌, ◌-◌, ◌*◌, ◌/◌, ◌%◌, ◌^◌, ◌<◌, ◌≤◌, inl, inr, sym, ap, ap₂, ◌∙◌, subst, arith}
use Rattle.std.specs.Prelude.{bit_xor}
use Rattle.std.proofs.lemmas.Nat.{xor_comm, xor_lt, xor_block, pow_pos}
use Rattle.std.proofs.lemmas.Bool.Decides.{nat_tests}
use Rattle.std.proofs.lemmas.Bool.{cases_lt}
use lib.Bits.{xor_assoc, xor_self, xor_zero_r}
use Rattle.code_model.specs.Binary.{product, reduced, remainder, times}
use Rattle.code_model.proofs.BitsLemmas.{by_bits, bits_fold-zero, bits_fold-digit, xor_digit, xor_double, xor_double_digit, xor_swap, digit-xor, xor_digit-mul}

by_lt : {P : Type 0} (a b : ℕ) → (a < b → P) → (b ≤ a → P) → P
by_lt a b f g = elim (cases_lt a b) [ inl s ↦ f s | inr t ↦ g t ]

-- ---- the product
zero-mul : (n : ℕ) → 0 * n ≡ 0
zero-mul n = omega arith

one-mul : (n : ℕ) → 1 * n ≡ n
one-mul n = omega arith

pub product-zero_left : (b : ℕ) → product 0 b ≡ 0
unfolding product
product-zero_left b = bits_fold-zero _

pub product-digit : (a c b : ℕ) → c < 2 → product (2 * a + c) b ≡ bit_xor (2 * product a b) (c * b)
unfolding product
product-digit a c b h = bits_fold-digit (λ p c. bit_xor (2 * p) (c * b)) (zero-mul b) a c h

pub product-xor_right : (a b d : ℕ) → product a (bit_xor b d) ≡ bit_xor (product a b) (product a d)
product-xor_right a b d =
    by_bits (λ n. product n (bit_xor b d) ≡ bit_xor (product n b) (product n d))
    (product-zero_left _ ∙ ap₂ bit_xor (sym (product-zero_left b)) (sym (product-zero_left d)))
    (λ a c h ih.
    product-digit a c (bit_xor b d) h
    ∙ ap₂ bit_xor (ap (λ x. 2 * x) ih ∙ sym (xor_double (product a b) (product a d))) (digit-xor c b d h)
    ∙ xor_swap (2 * product a b) (2 * product a d) (c * b) (c * d)
    ∙ ap₂ bit_xor (sym (product-digit a c b h)) (sym (product-digit a c d h)))
    a

halves : (n : ℕ) → 2 * (n / 2) + n % 2 ≡ n
halves n = omega arith

pub product-xor_left : (a d b : ℕ) → product (bit_xor a d) b ≡ bit_xor (product a b) (product d b)
product-xor_left a d b =
    by_bits (λ n. (d : ℕ) → product (bit_xor n d) b ≡ bit_xor (product n b) (product d b))
    (λ d. ap (λ x. bit_xor x (product d b)) (sym (product-zero_left b)))
    (λ a c h ih d.
    let e = d / 2 in
    let k = d % 2 in
    let k_lt : k < 2 = omega arith in
    let both : bit_xor c k < 2 = xor_lt 1 c k h k_lt in
    ap (λ x. product (bit_xor (2 * a + c) x) b) (sym (halves d))
    ∙ ap (λ x. product x b) (xor_digit a c e k h k_lt)
    ∙ product-digit (bit_xor a e) (bit_xor c k) b both
    ∙ ap₂ bit_xor (ap (λ x. 2 * x) (ih e) ∙ sym (xor_double (product a b) (product e b))) (xor_digit-mul c k b h k_lt)
    ∙ xor_swap (2 * product a b) (2 * product e b) (c * b) (k * b)
    ∙ ap₂ bit_xor (sym (product-digit a c b h)) (sym (product-digit e k b k_lt))
    ∙ ap (λ x. bit_xor (product (2 * a + c) b) (product x b)) (halves d))
    a d

pub product-zero_right : (a : ℕ) → product a 0 ≡ 0
product-zero_right a =
    by_bits (λ n. product n 0 ≡ 0) (product-zero_left 0)
    (λ a c h ih. let z : c * 0 ≡ 0 = omega arith in product-digit a c 0 h ∙ ap₂ (λ x y. bit_xor (2 * x) y) ih z) a

pub product-double_right : (a b : ℕ) → product a (2 * b) ≡ 2 * product a b
product-double_right a b =
    by_bits (λ n. product n (2 * b) ≡ 2 * product n b)
    (product-zero_left (2 * b) ∙ ap (λ x. 2 * x) (sym (product-zero_left b)))
    (λ a c h ih.
    let e : c * (2 * b) ≡ 2 * (c * b) = omega arith in
    product-digit a c (2 * b) h ∙ ap₂ (λ x y. bit_xor (2 * x) y) ih e
    ∙ xor_double (2 * product a b) (c * b) ∙ ap (λ x. 2 * x) (sym (product-digit a c b h)))
    a

pub product-one_right : (a : ℕ) → product a 1 ≡ a
product-one_right a =
    by_bits (λ n. product n 1 ≡ n) (product-zero_left 1)
    (λ a c h ih. let e : c * 1 ≡ c = omega arith in product-digit a c 1 h ∙ ap₂ (λ x y. bit_xor (2 * x) y) ih e ∙ xor_double_digit a c h) a

product-digit_right : (b c : ℕ) → c < 2 → product b c ≡ c * b
product-digit_right b zero h = product-zero_right b ∙ sym (zero-mul b)
product-digit_right b (suc zero) h = product-one_right b ∙ sym (one-mul b)
product-digit_right b (suc (suc c)) h = absurd (omega arith)

pub product_comm : (a b : ℕ) → product a b ≡ product b a
product_comm a b =
    by_bits (λ n. product n b ≡ product b n) (product-zero_left b ∙ sym (product-zero_right b))
    (λ a c h ih.
    product-digit a c b h
    ∙ ap₂ bit_xor (ap (λ x. 2 * x) ih ∙ sym (product-double_right b a)) (sym (product-digit_right b c h))
    ∙ sym (product-xor_right b (2 * a) c) ∙ ap (product b) (xor_double_digit a c h))
    a

pub product-double_left : (a b : ℕ) → product (2 * a) b ≡ 2 * product a b
product-double_left a b = product_comm (2 * a) b ∙ product-double_right b a ∙ ap (λ x. 2 * x) (product_comm b a)

product-digit_mul : (c b d : ℕ) → c < 2 → product (c * b) d ≡ c * product b d
product-digit_mul zero b d h = ap (λ x. product x d) (zero-mul b) ∙ product-zero_left d ∙ sym (zero-mul (product b d))
product-digit_mul (suc zero) b d h = ap (λ x. product x d) (one-mul b) ∙ sym (one-mul (product b d))
product-digit_mul (suc (suc c)) b d h = absurd (omega arith)

pub product_assoc : (a b d : ℕ) → product (product a b) d ≡ product a (product b d)
product_assoc a b d =
    by_bits (λ n. product (product n b) d ≡ product n (product b d))
    (ap (λ x. product x d) (product-zero_left b) ∙ product-zero_left d ∙ sym (product-zero_left (product b d)))
    (λ a c h ih.
    ap (λ x. product x d) (product-digit a c b h)
    ∙ product-xor_left (2 * product a b) (c * b) d
    ∙ ap₂ bit_xor (product-double_left (product a b) d ∙ ap (λ x. 2 * x) ih) (product-digit_mul c b d h)
    ∙ sym (product-digit a c (product b d) h))
    a

-- ---- the remainder, by f of degree m
pub remainder-zero : (m f : ℕ) → remainder m f 0 ≡ 0
unfolding remainder
remainder-zero m f = bits_fold-zero _

pub reduced-small : (m f a : ℕ) → a < 2 ^ m → reduced m f a ≡ a
unfolding reduced
reduced-small m f a h = grind (arith, nat_tests)

pub reduced-large : (m f a : ℕ) → 2 ^ m ≤ a → reduced m f a ≡ bit_xor a f
unfolding reduced
reduced-large m f a h = grind (arith, nat_tests)

reduced-zero : (m f : ℕ) → 0 < 2 ^ m → reduced m f 0 ≡ 0
reduced-zero m f h = reduced-small m f 0 h

pub remainder-digit : (m f a c : ℕ) → 0 < 2 ^ m → c < 2 → remainder m f (2 * a + c) ≡ reduced m f (2 * remainder m f a + c)
unfolding remainder
remainder-digit m f a c p h = bits_fold-digit (λ r c. reduced m f (2 * r + c)) (reduced-zero m f p) a c h

-- a polynomial of degree at most m, by its coefficient of x^m
top_split : (m a : ℕ) → a < 2 * 2 ^ m → 2 ^ m ≤ a → a ≡ 1 * 2 ^ m + (a - 2 ^ m)
top_split m a h t = omega arith

xor_top_both : (m a b : ℕ) → a < 2 * 2 ^ m → b < 2 * 2 ^ m → 2 ^ m ≤ a → 2 ^ m ≤ b → bit_xor a b < 2 ^ m
xor_top_both m a b p q s t =
    let e : bit_xor a b ≡ 0 * 2 ^ m + bit_xor (a - 2 ^ m) (b - 2 ^ m) =
    ap₂ bit_xor (top_split m a p s) (top_split m b q t) ∙ xor_block m 1 1 (a - 2 ^ m) (b - 2 ^ m) (omega arith) (omega arith) in
    omega (arith, e, xor_lt m (a - 2 ^ m) (b - 2 ^ m) (omega arith) (omega arith))

-- one top coefficient stays, with the rest below it
pub xor_top_one : (m a b : ℕ) → a < 2 * 2 ^ m → b < 2 ^ m → 2 ^ m ≤ a → (2 ^ m ≤ bit_xor a b) × (bit_xor a b < 2 * 2 ^ m)
xor_top_one m a b p q s =
    let e : bit_xor a b ≡ 1 * 2 ^ m + bit_xor (a - 2 ^ m) b =
    (let z : 0 * 2 ^ m + b ≡ b = omega arith in
    ap₂ bit_xor (top_split m a p s) (sym z) ∙ xor_block m 1 0 (a - 2 ^ m) b (omega arith) q) in
    let l = xor_lt m (a - 2 ^ m) b (omega arith) q in
    (omega arith, omega arith)

pub reduced-lt : (m f a : ℕ) → 2 ^ m ≤ f → f < 2 * 2 ^ m → a < 2 * 2 ^ m → reduced m f a < 2 ^ m
reduced-lt m f a lo hi h = by_lt a (2 ^ m)
    (λ s. subst (λ (x : ℕ). x < 2 ^ m) (sym (reduced-small m f a s)) s)
    (λ t. subst (λ (x : ℕ). x < 2 ^ m) (sym (reduced-large m f a t)) (xor_top_both m a f h hi t lo))

pub remainder-lt : (m f a : ℕ) → 2 ^ m ≤ f → f < 2 * 2 ^ m → remainder m f a < 2 ^ m
remainder-lt m f a lo hi =
    by_bits (λ n. remainder m f n < 2 ^ m) (subst (λ (x : ℕ). x < 2 ^ m) (sym (remainder-zero m f)) (pow_pos m))
    (λ a c h ih. subst (λ (x : ℕ). x < 2 ^ m) (sym (remainder-digit m f a c (pow_pos m) h)) (reduced-lt m f _ lo hi (omega arith)))
    a

pub remainder-small : (m f a : ℕ) → a < 2 ^ m → remainder m f a ≡ a
remainder-small m f a =
    by_bits (λ n. n < 2 ^ m → remainder m f n ≡ n) (λ _. remainder-zero m f)
    (λ a c h ih l.
    remainder-digit m f a c (pow_pos m) h ∙ ap (λ x. reduced m f (2 * x + c)) (ih (omega arith)) ∙ reduced-small m f (2 * a + c) l)
    a

reduced-xor : (m f a b : ℕ) → 2 ^ m ≤ f → f < 2 * 2 ^ m → a < 2 * 2 ^ m → b < 2 * 2 ^ m → reduced m f (bit_xor a b) ≡ bit_xor (reduced m f a) (reduced m f b)
reduced-xor m f a b lo hi p q = by_lt a (2 ^ m)
    (λ s. by_lt b (2 ^ m)
    (λ t. reduced-small m f _ (xor_lt m a b s t) ∙ sym (ap₂ bit_xor (reduced-small m f a s) (reduced-small m f b t)))
    (λ t.
    let o : 2 ^ m ≤ bit_xor a b = subst (λ (x : ℕ). 2 ^ m ≤ x) (xor_comm b a) (xor_top_one m b a q s t).0 in
    reduced-large m f _ o ∙ xor_assoc a b f ∙ sym (ap₂ bit_xor (reduced-small m f a s) (reduced-large m f b t))))
    (λ s. by_lt b (2 ^ m)
    (λ t.
    reduced-large m f _ (xor_top_one m a b p t s).0
    ∙ xor_assoc a b f ∙ ap (bit_xor a) (xor_comm b f) ∙ sym (xor_assoc a f b)
    ∙ sym (ap₂ bit_xor (reduced-large m f a s) (reduced-small m f b t)))
    (λ t.
    reduced-small m f _ (xor_top_both m a b p q s t)
    ∙ sym (xor_zero_r (bit_xor a b)) ∙ ap (bit_xor (bit_xor a b)) (sym (xor_self f)) ∙ xor_swap a b f f
    ∙ sym (ap₂ bit_xor (reduced-large m f a s) (reduced-large m f b t))))

pub remainder-xor : (m f a b : ℕ) → 2 ^ m ≤ f → f < 2 * 2 ^ m → remainder m f (bit_xor a b) ≡ bit_xor (remainder m f a) (remainder m f b)
remainder-xor m f a b lo hi =
    by_bits (λ n. (b : ℕ) → remainder m f (bit_xor n b) ≡ bit_xor (remainder m f n) (remainder m f b))
    (λ b. ap (λ x. bit_xor x (remainder m f b)) (sym (remainder-zero m f)))
    (λ a c h ih b.
    let e = b / 2 in
    let k = b % 2 in
    let k_lt : k < 2 = omega arith in
    let both : bit_xor c k < 2 = xor_lt 1 c k h k_lt in
    let ra = remainder-lt m f a lo hi in
    let re = remainder-lt m f e lo hi in
    ap (λ x. remainder m f (bit_xor (2 * a + c) x)) (sym (halves b))
    ∙ ap (remainder m f) (xor_digit a c e k h k_lt)
    ∙ remainder-digit m f (bit_xor a e) (bit_xor c k) (pow_pos m) both
    ∙ ap (λ x. reduced m f (2 * x + bit_xor c k)) (ih e)
    ∙ ap (reduced m f) (sym (xor_digit (remainder m f a) c (remainder m f e) k h k_lt))
    ∙ reduced-xor m f (2 * remainder m f a + c) (2 * remainder m f e + k) lo hi (omega arith) (omega arith)
    ∙ ap₂ bit_xor (sym (remainder-digit m f a c (pow_pos m) h)) (sym (remainder-digit m f e k (pow_pos m) k_lt))
    ∙ ap (λ x. bit_xor (remainder m f (2 * a + c)) (remainder m f x)) (halves b))
    a b

pub remainder-modulus : (m f : ℕ) → 2 ^ m ≤ f → f < 2 * 2 ^ m → remainder m f f ≡ 0
remainder-modulus m f lo hi =
    let half : f / 2 < 2 ^ m = omega arith in
    ap (remainder m f) (sym (halves f)) ∙ remainder-digit m f (f / 2) (f % 2) (pow_pos m) (omega arith)
    ∙ ap (λ x. reduced m f (2 * x + f % 2)) (remainder-small m f (f / 2) half)
    ∙ ap (reduced m f) (halves f) ∙ reduced-large m f f lo ∙ xor_self f

-- a multiple leaves no remainder
pub remainder-multiple : (m f q : ℕ) → 2 ^ m ≤ f → f < 2 * 2 ^ m → remainder m f (product q f) ≡ 0
remainder-multiple m f q lo hi =
    by_bits (λ n. remainder m f (product n f) ≡ 0) (ap (remainder m f) (product-zero_left f) ∙ remainder-zero m f)
    (λ a c h ih.
    let twice : remainder m f (2 * product a f) ≡ 0 =
    (let e : 2 * product a f ≡ 2 * product a f + 0 = omega arith in
    ap (remainder m f) e ∙ remainder-digit m f (product a f) 0 (pow_pos m) (omega arith)
    ∙ ap (λ x. reduced m f (2 * x + 0)) ih ∙ reduced-small m f 0 (pow_pos m)) in
    ap (remainder m f) (product-digit a c f h) ∙ remainder-xor m f _ _ lo hi
    ∙ ap₂ bit_xor twice (digit_times c h))
    q
  where
    digit_times : (c : ℕ) → c < 2 → remainder m f (c * f) ≡ 0
    digit_times zero h = ap (remainder m f) (zero-mul f) ∙ remainder-zero m f
    digit_times (suc zero) h = ap (remainder m f) (one-mul f) ∙ remainder-modulus m f lo hi
    digit_times (suc (suc c)) h = absurd (omega arith)

-- the remainder is the one number below 2^m from which a differs by a multiple
pub remainder-unique : (m f q r : ℕ) → 2 ^ m ≤ f → f < 2 * 2 ^ m → r < 2 ^ m → remainder m f (bit_xor (product q f) r) ≡ r
remainder-unique m f q r lo hi h =
    remainder-xor m f (product q f) r lo hi ∙ ap₂ bit_xor (remainder-multiple m f q lo hi) (remainder-small m f r h)

reduced_parts : (m f a : ℕ) → (c : ℕ) × (c < 2) × (bit_xor (c * f) (reduced m f a) ≡ a)
reduced_parts m f a = by_lt a (2 ^ m)
    (λ s. (0, omega arith, ap₂ bit_xor (zero-mul f) (reduced-small m f a s)))
    (λ t. (
      1,
      omega arith,
      ap₂ bit_xor (one-mul f) (reduced-large m f a t ∙ xor_comm a f) ∙ sym (xor_assoc f f a) ∙ ap (λ x. bit_xor x a) (xor_self f),
    ))

pub quotient : (m f a : ℕ) → 2 ^ m ≤ f → f < 2 * 2 ^ m → (q : ℕ) × (a ≡ bit_xor (product q f) (remainder m f a))
quotient m f a lo hi =
    by_bits (λ n. (q : ℕ) × (n ≡ bit_xor (product q f) (remainder m f n)))
    (0, ap₂ bit_xor (sym (product-zero_left f)) (sym (remainder-zero m f)))
    (λ a c h ih.
    let q = ih.0 in
    let r = remainder m f a in
    let p = reduced_parts m f (2 * r + c) in (
      2 * q + p.0,
      ap (λ x. 2 * x + c) ih.1 ∙ sym (xor_double_digit (bit_xor (product q f) r) c h)
          ∙ ap (λ x. bit_xor x c) (sym (xor_double (product q f) r))
          ∙ xor_assoc (2 * product q f) (2 * r) c ∙ ap (bit_xor (2 * product q f)) (xor_double_digit r c h ∙ sym p.2)
          ∙ sym (xor_assoc (2 * product q f) (p.0 * f) (reduced m f (2 * r + c)))
          ∙ ap₂ bit_xor (sym (product-digit q p.0 f p.1)) (sym (remainder-digit m f a c (pow_pos m) h)),
    ))
    a

-- ---- the field's product

pub remainder-product_left : (m f a b : ℕ) → 2 ^ m ≤ f → f < 2 * 2 ^ m → remainder m f (product (remainder m f a) b) ≡ remainder m f (product a b)
remainder-product_left m f a b lo hi =
    let d = quotient m f a lo hi in
    let q = d.0 in
    let r = remainder m f a in
    let gone : remainder m f (product (product q f) b) ≡ 0 =
    (ap (remainder m f) (product_assoc q f b ∙ ap (product q) (product_comm f b) ∙ sym (product_assoc q b f))
    ∙ remainder-multiple m f (product q b) lo hi) in
    sym (ap (λ x. remainder m f (product x b)) d.1 ∙ ap (remainder m f) (product-xor_left (product q f) r b)
    ∙ remainder-xor m f _ _ lo hi ∙ ap (λ x. bit_xor x (remainder m f (product r b))) gone)

pub times-lt : (m f a b : ℕ) → 2 ^ m ≤ f → f < 2 * 2 ^ m → times m f a b < 2 ^ m
unfolding times
times-lt m f a b lo hi = remainder-lt m f (product a b) lo hi

pub times_comm : (m f a b : ℕ) → times m f a b ≡ times m f b a
unfolding times
times_comm m f a b = ap (remainder m f) (product_comm a b)

pub times_assoc : (m f a b c : ℕ) → 2 ^ m ≤ f → f < 2 * 2 ^ m → times m f (times m f a b) c ≡ times m f a (times m f b c)
unfolding times
times_assoc m f a b c lo hi =
    remainder-product_left m f (product a b) c lo hi ∙ ap (remainder m f) (product_assoc a b c ∙ product_comm a (product b c))
    ∙ sym (remainder-product_left m f (product b c) a lo hi) ∙ ap (remainder m f) (product_comm _ a)

pub times-xor_right : (m f a b c : ℕ) → 2 ^ m ≤ f → f < 2 * 2 ^ m → times m f a (bit_xor b c) ≡ bit_xor (times m f a b) (times m f a c)
unfolding times
times-xor_right m f a b c lo hi = ap (remainder m f) (product-xor_right a b c) ∙ remainder-xor m f _ _ lo hi

pub times-one : (m f a : ℕ) → a < 2 ^ m → times m f a 1 ≡ a
unfolding times
times-one m f a h = ap (remainder m f) (product-one_right a) ∙ remainder-small m f a h

pub times-zero : (m f a : ℕ) → times m f a 0 ≡ 0
unfolding times
times-zero m f a = ap (remainder m f) (product-zero_right a) ∙ remainder-zero m f

-- one more digit of a, as the code takes them
pub times-digit : (m f a c b : ℕ) → 2 ^ m ≤ f → f < 2 * 2 ^ m → c < 2 → b < 2 ^ m → times m f (2 * a + c) b ≡ bit_xor (reduced m f (2 * times m f a b)) (c * b)
unfolding times
times-digit m f a c b lo hi h l =
    let r = remainder m f (product a b) in
    let e : 2 * product a b ≡ 2 * product a b + 0 = omega arith in
    let e' : 2 * r + 0 ≡ 2 * r = omega arith in
    ap (remainder m f) (product-digit a c b h) ∙ remainder-xor m f _ _ lo hi
    ∙ ap₂ bit_xor
    (ap (remainder m f) e ∙ remainder-digit m f (product a b) 0 (pow_pos m) (omega arith) ∙ ap (reduced m f) e')
    (remainder-small m f (c * b) (digit_lt c h))
  where
    digit_lt : (c : ℕ) → c < 2 → c * b < 2 ^ m
    digit_lt zero h = omega (arith, pow_pos m)
    digit_lt (suc zero) h = omega arith
    digit_lt (suc (suc c)) h = absurd (omega arith)
