-- Shifts of a number of 256 bits by its halves of 128.
use Rattle.std.proofs.Common.{◌≡◌, ℕ, suc, ◌+◌, ◌-◌, ◌*◌, ◌/◌, ◌%◌, ◌^◌, ◌<◌, ◌≤◌, sym, ap, ◌∙◌, arith}
use Rattle.std.specs.Prelude.{bit_or}
use Rattle.std.proofs.lemmas.Nat.{pow_pos, pow-add, or_shifted, or_lt, div-add-mod', mod_below, div_below}
use Rattle.u256.specs.declared.number.U256.TheInside.{Inside}
use Rattle.std.proofs.Math.Nat.{mul-lt-mul_of_pos_right, mul-add-div_right, mul_comm}

-- a product by one factor of n, by the quotient by the other
split_product : (x p q n : ℕ) → p * q ≡ n → x * p ≡ x / q * n + x % q * p
split_product x p q n e =
    let s : x / q * q + x % q ≡ x = div-add-mod' x q in
    let t : (x / q * q + x % q) * p ≡ x / q * (p * q) + x % q * p = omega arith in
    ap (λ y. y * p) (sym s) ∙ t ∙ ap (λ y. x / q * y + x % q * p) e

low_product-lt : (x p q n : ℕ) → p * q ≡ n → 0 < p → 0 < q → x % q * p < n
low_product-lt x p q n e hp hq =
    let l : x % q * p < q * p = mul-lt-mul_of_pos_right (mod_below x q hq) hp in
    let t : q * p ≡ p * q = omega arith in
    omega arith

factors : (n : ℕ) → n < 128 → 2 ^ n * 2 ^ (128 - n) ≡ 2 ^ 128
factors n h = let e : n + (128 - n) ≡ 128 = omega arith in sym (pow-add 2 n (128 - n)) ∙ ap (λ k. 2 ^ k) e

factors_turned : (n : ℕ) → n < 128 → 2 ^ (128 - n) * 2 ^ n ≡ 2 ^ 128
factors_turned n h = mul_comm (2 ^ (128 - n)) (2 ^ n) ∙ factors n h

high_part : (l p q n : ℕ) → p * q ≡ n → 0 < q → l < n → l / q < p
high_part l p q n e hq h = let h' : l < p * q = omega arith in div_below l q p hq h'

-- the product by p, where p q is half the width
pub shl_parts : (h l p q : ℕ) → p * q ≡ 2 ^ 128 → 0 < p → 0 < q → h < 2 ^ 128 → l < 2 ^ 128
    → (h * p % 2 ^ 128 + l / q) * 2 ^ 128 + l * p % 2 ^ 128 ≡ (h * 2 ^ 128 + l) * p % 2 ^ 256
shl_parts h l p q e hp hq hh hl =
    let sh = split_product h p q (2 ^ 128) e in
    let sl = split_product l p q (2 ^ 128) e in
    let th = low_product-lt h p q (2 ^ 128) e hp hq in
    let tl = low_product-lt l p q (2 ^ 128) e hp hq in
    let whole : (h * 2 ^ 128 + l) * p ≡ h * p * 2 ^ 128 + l * p = omega arith in
    let top : h % q * p + l / q < 2 ^ 128 = room in
    omega (arith, sh, sl, th, tl, whole, top)
  where
    room : h % q * p + l / q < 2 ^ 128
    room =
        let a : h % q * p + p ≤ 2 ^ 128 =
        (let m : suc (h % q) ≤ q = (let b = mod_below h q hq in omega arith) in
        let g : suc (h % q) * p ≤ q * p = Rattle.std.proofs.Math.Nat.mul-le-mul_right p m in
        let t : q * p ≡ p * q = omega arith in
        let u : suc (h % q) * p ≡ h % q * p + p = omega arith in
        omega arith) in
        let b = high_part l p q (2 ^ 128) e hq hl in
        omega arith

pub shl_small : (h l n : ℕ) → n < 128 → h < 2 ^ 128 → l < 2 ^ 128
    → bit_or (h * 2 ^ n % 2 ^ 128) (l / 2 ^ (128 - n)) * 2 ^ 128 + l * 2 ^ n % 2 ^ 128 ≡ (h * 2 ^ 128 + l) * 2 ^ n % 2 ^ 256
shl_small h l n hn hh hl =
    let p = 2 ^ n in
    let q = 2 ^ (128 - n) in
    let e = factors n hn in
    let sh = split_product h p q (2 ^ 128) e in
    let th = low_product-lt h p q (2 ^ 128) e (pow_pos n) (pow_pos (128 - n)) in
    let b = high_part l p q (2 ^ 128) e (pow_pos (128 - n)) hl in
    let moved : h * p % 2 ^ 128 ≡ h % q * p = omega arith in
    let joined : bit_or (h * p % 2 ^ 128) (l / q) ≡ h * p % 2 ^ 128 + l / q =
    (ap (λ x. bit_or x (l / q)) moved ∙ or_shifted (h % q) n (l / q) b ∙ ap (λ x. x + l / q) (sym moved)) in
    ap (λ x. x * 2 ^ 128 + l * p % 2 ^ 128) joined ∙ shl_parts h l p q e (pow_pos n) (pow_pos (128 - n)) hh hl

pub shl_large : (h l n : ℕ) → 128 ≤ n → n < 256 → (l * 2 ^ (n - 128) % 2 ^ 128) * 2 ^ 128 + 0 ≡ (h * 2 ^ 128 + l) * 2 ^ n % 2 ^ 256
shl_large h l n lo hi =
    let e : n ≡ (n - 128) + 128 = omega arith in
    let p = 2 ^ (n - 128) in
    let f : 2 ^ n ≡ p * 2 ^ 128 = ap (λ k. 2 ^ k) e ∙ pow-add 2 (n - 128) 128 in
    let whole : (h * 2 ^ 128 + l) * (p * 2 ^ 128) ≡ h * p * 2 ^ 256 + l * p * 2 ^ 128 = omega arith in
    let goal : (l * p % 2 ^ 128) * 2 ^ 128 + 0 ≡ (h * p * 2 ^ 256 + l * p * 2 ^ 128) % 2 ^ 256 = omega arith in
    goal ∙ ap (λ x. x % 2 ^ 256) (sym whole) ∙ ap (λ x. (h * 2 ^ 128 + l) * x % 2 ^ 256) (sym f)

pub shr_small : (h l n : ℕ) → n < 128 → l < 2 ^ 128
    → h / 2 ^ n * 2 ^ 128 + bit_or (h * 2 ^ (128 - n) % 2 ^ 128) (l / 2 ^ n) ≡ (h * 2 ^ 128 + l) / 2 ^ n
shr_small h l n hn hl =
    let p = 2 ^ n in
    let q = 2 ^ (128 - n) in
    let e = factors_turned n hn in
    let sh = split_product h q p (2 ^ 128) e in
    let th = low_product-lt h q p (2 ^ 128) e (pow_pos (128 - n)) (pow_pos n) in
    let b = high_part l q p (2 ^ 128) e (pow_pos n) hl in
    let moved : h * q % 2 ^ 128 ≡ h % p * q = omega arith in
    let joined : bit_or (h * q % 2 ^ 128) (l / p) ≡ h % p * q + l / p =
    (ap (λ x. bit_or x (l / p)) moved ∙ or_shifted (h % p) (128 - n) (l / p) b) in
    let wide : h * 2 ^ 128 + l ≡ h * q * p + l = (let t : h * (q * p) ≡ h * q * p = omega arith in ap (λ x. h * x + l) (sym e) ∙ ap (λ x. x + l) t) in
    let down : (h * q * p + l) / p ≡ h * q + l / p = mul-add-div_right (pow_pos n) (h * q) l in
    ap (λ x. h / p * 2 ^ 128 + x) joined ∙ omega arith ∙ sym down ∙ ap (λ x. x / p) (sym wide)

pub shr_large : (h l n : ℕ) → 128 ≤ n → l < 2 ^ 128 → 0 * 2 ^ 128 + h / 2 ^ (n - 128) ≡ (h * 2 ^ 128 + l) / 2 ^ n
shr_large h l n lo hl =
    let e : n ≡ 128 + (n - 128) = omega arith in
    let first : (h * 2 ^ 128 + l) / 2 ^ 128 ≡ h = omega arith in
    let z : 0 * 2 ^ 128 + h / 2 ^ (n - 128) ≡ h / 2 ^ (n - 128) = omega arith in
    z ∙ ap (λ x. x / 2 ^ (n - 128)) (sym first) ∙ Rattle.std.proofs.lemmas.Nat.shr-shr (h * 2 ^ 128 + l) 128 (n - 128) ∙ ap (λ k. (h * 2 ^ 128 + l) / 2 ^ k) (sym e)

-- ---- bounds
pub joined-lt : (h l : ℕ) → h < 2 ^ 128 → l < 2 ^ 128 → h * 2 ^ 128 + l < 2 ^ 256
joined-lt h l hh hl = omega arith

pub low_bits-lt : (n a : ℕ) → n ≡ a % 2 ^ 256 → n < 2 ^ 256
low_bits-lt n a e = omega arith

pub quotient-lt : (n k b : ℕ) → n < b → n / k < b
quotient-lt n k b h = let e = Rattle.std.proofs.Math.Nat.div-le_self n k in omega arith

pub shl_small-high : (h l n : ℕ) → n < 128 → l < 2 ^ 128 → bit_or (h * 2 ^ n % 2 ^ 128) (l / 2 ^ (128 - n)) < 2 ^ 128
shl_small-high h l n hn hl = or_lt 128 (h * 2 ^ n % 2 ^ 128) (l / 2 ^ (128 - n)) (omega arith) (quotient-lt l (2 ^ (128 - n)) (2 ^ 128) hl)

pub shr_small-low : (h l n : ℕ) → n < 128 → l < 2 ^ 128 → bit_or (h * 2 ^ (128 - n) % 2 ^ 128) (l / 2 ^ n) < 2 ^ 128
shr_small-low h l n hn hl = or_lt 128 (h * 2 ^ (128 - n) % 2 ^ 128) (l / 2 ^ n) (omega arith) (quotient-lt l (2 ^ n) (2 ^ 128) hl)

-- a number is in range by its halves
pub in_range : (a : Inside) (n : ℕ) → (a.high < 2 ^ 128) × (a.low < 2 ^ 128) → a.high * 2 ^ 128 + a.low ≡ n → n < 2 ^ 256
in_range a n s e = let h = s.0 in let l = s.1 in omega arith
