-- Pieces of a body taken in by a register of v + c places.
use Rattle.std.proofs.Common.{◌≡◌, ℕ, List, length, get_or, take, ◌+◌, ◌-◌, ◌*◌, ◌/◌, ◌%◌, ◌^◌, ◌<◌, ◌≤◌, refl, sym, ap, ap₂, ◌∙◌, subst, arith, mod-lt}
use Rattle.std.specs.Prelude.{bit_xor}
use Rattle.std.proofs.lemmas.Nat.{xor_block, xor_comm, pow-add, pow_pos, mod_low, div-add-mod', div_below, shr-shr}
use Rattle.std.proofs.Math.Nat.{mul-lt-mul_of_pos_right, mul-le-mul_right}
use Rattle.std.proofs.Math.Seq.{take-length}
use lib.Bits.{xor_zero_r}
use Rattle.code_model.specs.Binary.{remainder, IsPrimitive}
use Rattle.code_model.specs.Generator.{generator_of}
use Rattle.code_model.proofs.BinaryLemmas.{remainder-xor, remainder-small, remainder-lt, remainder-zero}
use Rattle.code_model.proofs.ShiftLemmas.{xor-shift}
use Rattle.code_model.specs.Bits.{bits_of}
use Rattle.code_model.specs.Word.{number_from}
use Rattle.bch_register.proofs.WordLemmas.{number_of-more}
use Rattle.code_model.proofs.RootLemmas.{generator-degree}
use Rattle.gf2_poly.proofs.DegreeLemmas.{has_degree}
use Rattle.bch_tables.specs.Rows.{aligned}
use Rattle.bch_register.proofs.RegisterLemmas.{xor-apart, remainder-shifted, parity_from_register, below_twice}

-- the top piece of c places is taken out with another, and the rest moved up
pub piece_step : (v c f r piece x row : ℕ) → 2 ^ (v + c) ≤ f → f < 2 * 2 ^ (v + c) → x ≡ r * 2 ^ c % 2 ^ (v + c)
    → row ≡ remainder (v + c) f (bit_xor (r / 2 ^ v) piece * 2 ^ (v + c)) → bit_xor x row ≡ remainder (v + c) f (bit_xor r (piece * 2 ^ v) * 2 ^ c)
piece_step v c f r piece x row lo hi ex er =
    let w = v + c in
    let p : 2 ^ (v + c) ≡ 2 ^ v * 2 ^ c = pow-add 2 v c in
    let h = r / 2 ^ v in
    let l = r % 2 ^ v in
    let below : l < 2 ^ v = mod-lt r (pow_pos v) in
    let parts : h * 2 ^ v + l ≡ r = div-add-mod' r (2 ^ v) in
    let low : l * 2 ^ c < 2 ^ (v + c) = (let m : l * 2 ^ c < 2 ^ v * 2 ^ c = mul-lt-mul_of_pos_right below (pow_pos c) in omega arith) in
    let top = bit_xor h piece in
    let none : piece * 2 ^ v ≡ piece * 2 ^ v + 0 = omega arith in
    let joined : bit_xor r (piece * 2 ^ v) ≡ top * 2 ^ v + l =
    (ap₂ bit_xor (sym parts) none ∙ xor_block v h piece l 0 below (pow_pos v) ∙ ap (λ n. top * 2 ^ v + n) (xor_zero_r l)) in
    let up : (n : ℕ) → (n * 2 ^ v + l) * 2 ^ c ≡ n * 2 ^ (v + c) + l * 2 ^ c =
    (λ n. let e : (n * 2 ^ v + l) * 2 ^ c ≡ n * (2 ^ v * 2 ^ c) + l * 2 ^ c = omega arith in e ∙ ap (λ k. n * k + l * 2 ^ c) (sym p)) in
    let rest : x ≡ l * 2 ^ c = ex ∙ ap (λ n. n % 2 ^ (v + c)) (ap (λ n. n * 2 ^ c) (sym parts) ∙ up h) ∙ mod_low h (v + c) (l * 2 ^ c) low in
    let turned : bit_xor (l * 2 ^ c) row ≡ bit_xor row (l * 2 ^ c) = xor_comm (l * 2 ^ c) row in
    ap (λ n. bit_xor n row) rest ∙ turned
    ∙ ap₂ bit_xor er (sym (remainder-small w f (l * 2 ^ c) low))
    ∙ sym (remainder-xor w f (top * 2 ^ (v + c)) (l * 2 ^ c) lo hi)
    ∙ ap (remainder w f) (xor-apart (v + c) top (l * 2 ^ c) low ∙ sym (up top) ∙ ap (λ n. n * 2 ^ c) (sym joined))

-- a piece at the top of a register v + c places wide, moved up
piece_above : (v c n piece : ℕ) → piece < 2 ^ c → bit_xor (n * 2 ^ (v + c)) (piece * 2 ^ v) * 2 ^ c ≡ (n * 2 ^ c + piece) * 2 ^ (v + c)
piece_above v c n piece h =
    let p : 2 ^ (v + c) ≡ 2 ^ v * 2 ^ c = pow-add 2 v c in
    let up : n * 2 ^ (v + c) ≡ n * 2 ^ c * 2 ^ v = (let t : n * (2 ^ v * 2 ^ c) ≡ n * 2 ^ c * 2 ^ v = omega arith in ap (λ x. n * x) p ∙ t) in
    let t : (n * 2 ^ c + piece) * 2 ^ v * 2 ^ c ≡ (n * 2 ^ c + piece) * (2 ^ v * 2 ^ c) = omega arith in
    ap (λ x. bit_xor x (piece * 2 ^ v) * 2 ^ c) up ∙ ap (λ x. x * 2 ^ c) (xor-shift (n * 2 ^ c) piece v)
    ∙ ap (λ x. x * 2 ^ v * 2 ^ c) (xor-apart c n piece h) ∙ t ∙ ap (λ x. (n * 2 ^ c + piece) * x) (sym p)

-- a piece taken in
pub remainder-piece : (v c f n piece : ℕ) → 2 ^ (v + c) ≤ f → f < 2 * 2 ^ (v + c) → piece < 2 ^ c
    → remainder (v + c) f (bit_xor (remainder (v + c) f (n * 2 ^ (v + c))) (piece * 2 ^ v) * 2 ^ c) ≡ remainder (v + c) f ((n * 2 ^ c + piece) * 2 ^ (v + c))
remainder-piece v c f n piece lo hi h =
    let w = v + c in
    let p : 2 ^ (v + c) ≡ 2 ^ v * 2 ^ c = pow-add 2 v c in
    let low : piece * 2 ^ v < 2 ^ (v + c) =
    (let m : piece * 2 ^ v < 2 ^ c * 2 ^ v = mul-lt-mul_of_pos_right h (pow_pos v) in let t : 2 ^ c * 2 ^ v ≡ 2 ^ v * 2 ^ c = omega arith in omega arith) in
    ap (λ x. remainder w f (bit_xor (remainder w f (n * 2 ^ w)) x * 2 ^ c)) (sym (remainder-small w f (piece * 2 ^ v) low))
    ∙ ap (λ x. remainder w f (x * 2 ^ c)) (sym (remainder-xor w f (n * 2 ^ w) (piece * 2 ^ v) lo hi))
    ∙ remainder-shifted w f (bit_xor (n * 2 ^ w) (piece * 2 ^ v)) c lo hi
    ∙ ap (remainder w f) (piece_above v c n piece h)

-- the low bits of a number, and one more byte of it
low_bytes : (top a : ℕ) → top % 2 ^ (a + 8) ≡ top / 2 ^ a % 256 * 2 ^ a + top % 2 ^ a
low_bytes top a =
    let p : 2 ^ (a + 8) ≡ 2 ^ a * 2 ^ 8 = pow-add 2 a 8 in
    let h = top / 2 ^ a in
    let l = top % 2 ^ a in
    let below : l < 2 ^ a = mod-lt top (pow_pos a) in
    let parts : h * 2 ^ a + l ≡ top = div-add-mod' top (2 ^ a) in
    let high : h / 256 * 256 + h % 256 ≡ h = div-add-mod' h 256 in
    let b = h % 256 in
    let byte : b < 256 = omega arith in
    let room : b * 2 ^ a ≤ 255 * 2 ^ a = mul-le-mul_right (2 ^ a) (omega arith) in
    let small : b * 2 ^ a + l < 2 ^ (a + 8) = omega arith in
    let whole : top ≡ h / 256 * 2 ^ (a + 8) + (b * 2 ^ a + l) =
    (let e : (h / 256 * 256 + b) * 2 ^ a + l ≡ h / 256 * (2 ^ a * 2 ^ 8) + (b * 2 ^ a + l) = omega arith in
    sym parts ∙ ap (λ n. n * 2 ^ a + l) (sym high) ∙ e ∙ ap (λ n. h / 256 * n + (b * 2 ^ a + l)) (sym p)) in
    ap (λ n. n % 2 ^ (a + 8)) whole ∙ mod_low (h / 256) (a + 8) (b * 2 ^ a + l) small

-- the row of one more byte of a number
pub row_more : (w f top j sum row : ℕ) → 2 ^ w ≤ f → f < 2 * 2 ^ w → sum ≡ remainder w f (top % 2 ^ (8 * j) * 2 ^ w)
    → row ≡ remainder w f (top / 2 ^ (8 * j) % 256 * 2 ^ (w + 8 * j)) → bit_xor sum row ≡ remainder w f (top % 2 ^ (8 * (j + 1)) * 2 ^ w)
row_more w f top j sum row lo hi es er =
    let a = 8 * j in
    let b = top / 2 ^ a % 256 in
    let l = top % 2 ^ a in
    let below : l < 2 ^ a = mod-lt top (pow_pos a) in
    let turn : w + a ≡ a + w = omega arith in
    let next : a + 8 ≡ 8 * (j + 1) = omega arith in
    let up : b * 2 ^ (w + a) ≡ b * 2 ^ a * 2 ^ w =
    (let m : b * (2 ^ a * 2 ^ w) ≡ b * 2 ^ a * 2 ^ w = omega arith in ap (λ i. b * 2 ^ i) turn ∙ ap (λ n. b * n) (pow-add 2 a w) ∙ m) in
    ap₂ bit_xor es (er ∙ ap (remainder w f) up) ∙ xor_comm (remainder w f (l * 2 ^ w)) (remainder w f (b * 2 ^ a * 2 ^ w))
    ∙ sym (remainder-xor w f (b * 2 ^ a * 2 ^ w) (l * 2 ^ w) lo hi)
    ∙ ap (remainder w f) (xor-shift (b * 2 ^ a) l w ∙ ap (λ n. n * 2 ^ w) (xor-apart a b l below ∙ sym (low_bytes top a) ∙ ap (λ i. top % 2 ^ i) next))

-- no byte of it
pub row_none : (w f top : ℕ) → 0 ≡ remainder w f (top % 2 ^ (8 * 0) * 2 ^ w)
row_none w f top =
    let e : top % 2 ^ 0 * 2 ^ w ≡ 0 = (let z : top % 1 ≡ 0 = omega arith in let y : 0 * 2 ^ w ≡ 0 = omega arith in ap (λ n. n * 2 ^ w) z ∙ y) in
    sym (ap (remainder w f) e ∙ remainder-zero w f)

-- all four
pub rows_all : (w f top : ℕ) → top < 2 ^ 32 → remainder w f (top % 2 ^ (8 * 4) * 2 ^ w) ≡ remainder w f (top * 2 ^ w)
rows_all w f top h = let e : top % 2 ^ 32 ≡ top = omega arith in ap (λ n. remainder w f (n * 2 ^ w)) e

-- four more bytes
pub number_of-four : (bytes : List ℕ) (i piece : ℕ) → 4 * i + 4 ≤ length bytes → ((k : ℕ) → get_or bytes k 0 < 2 ^ 8)
    → piece ≡ ((get_or bytes (4 * i) 0 * 256 + get_or bytes (4 * i + 1) 0) * 256 + get_or bytes (4 * i + 2) 0) * 256 + get_or bytes (4 * i + 3) 0
    → number_from 0 (bits_of (take (4 * (i + 1)) bytes)) ≡ number_from 0 (bits_of (take (4 * i) bytes)) * 2 ^ 32 + piece
number_of-four bytes i piece room small e =
    let k = 4 * i in
    let n : ℕ → ℕ = λ k. number_from 0 (bits_of (take k bytes)) in
    let last : 4 * (i + 1) ≡ k + 3 + 1 = omega arith in
    let third : k + 3 ≡ k + 2 + 1 = omega arith in
    let second : k + 2 ≡ k + 1 + 1 = omega arith in
    let a : n (k + 1) ≡ n k * 256 + get_or bytes k 0 = number_of-more bytes k (omega arith) (small k) in
    let b : n (k + 2) ≡ n (k + 1) * 256 + get_or bytes (k + 1) 0 = ap n second ∙ number_of-more bytes (k + 1) (omega arith) (small (k + 1)) in
    let c : n (k + 3) ≡ n (k + 2) * 256 + get_or bytes (k + 2) 0 = ap n third ∙ number_of-more bytes (k + 2) (omega arith) (small (k + 2)) in
    let d : n (4 * (i + 1)) ≡ n (k + 3) * 256 + get_or bytes (k + 3) 0 = ap n last ∙ number_of-more bytes (k + 3) (omega arith) (small (k + 3)) in
    omega arith

-- the whole of a body
pub taken_all : (bytes : List ℕ) (i : ℕ) → 4 * i ≡ length bytes → take (4 * i) bytes ≡ bytes
taken_all bytes i e = ap (λ n. take n bytes) e ∙ take-length bytes

-- the four highest of 32 bytes
pub top_bytes_of : (r : ℕ) → r < 2 ^ 256 → ((r / 2 ^ 248 % 256 * 256 + r / 2 ^ 240 % 256) * 256 + r / 2 ^ 232 % 256) * 256 + r / 2 ^ 224 % 256 ≡ r / 2 ^ 224
top_bytes_of r h =
    let q = r / 2 ^ 224 in
    let small : q < 2 ^ 32 = div_below r (2 ^ 224) (2 ^ 32) (pow_pos 224) h in
    let a : r / 2 ^ 248 ≡ q / 2 ^ 24 = sym (shr-shr r 224 24) in
    let b : r / 2 ^ 240 ≡ q / 2 ^ 16 = sym (shr-shr r 224 16) in
    let c : r / 2 ^ 232 ≡ q / 2 ^ 8 = sym (shr-shr r 224 8) in
    let sum : ((q / 2 ^ 24 % 256 * 256 + q / 2 ^ 16 % 256) * 256 + q / 2 ^ 8 % 256) * 256 + q % 256 ≡ q = omega arith in
    ap₂ (λ x y. ((x % 256 * 256 + y % 256) * 256 + r / 2 ^ 232 % 256) * 256 + q % 256) a b
    ∙ ap (λ x. ((q / 2 ^ 24 % 256 * 256 + q / 2 ^ 16 % 256) * 256 + x % 256) * 256 + q % 256) c ∙ sum

-- the remainder by the generator for t wrong bits, of degree d, out of a register
pub parity_is : (m f : ℕ) → IsPrimitive m f → (t w n d r q : ℕ) → d ≡ m * t → d ≤ w → r ≡ remainder w (aligned m f w t) (n * 2 ^ w) → q ≡ r / 2 ^ (w - d)
    → (q ≡ remainder (m * t) (generator_of m f t) (n * 2 ^ (m * t))) × (q < 2 ^ (m * t))
parity_is m f p t w n d r q ed room er eq =
    let e = m * t in
    let g = generator_of m f t in
    let h = has_degree e g (generator-degree m f p t) in
    let value = parity_from_register e (w - e) w g (aligned m f w t) n r q (omega arith) h refl er (eq ∙ ap (λ i. r / 2 ^ (w - i)) ed) in
    (value, subst (λ (x : ℕ). x < 2 ^ e) (sym value) (remainder-lt e g (n * 2 ^ e) h.0 (below_twice e g h.1)))

-- the bytes of a piece, moved to their places
pub placed_bytes : (a b c d w x y z q : ℕ) → a < 256 → b < 256 → c < 256 → d < 256 → a ≡ w → b ≡ x → c ≡ y → d ≡ z → ((w * 256 + x) * 256 + y) * 256 + z ≡ q
    → a * 2 ^ 24 % 2 ^ 32 + b * 2 ^ 16 % 2 ^ 32 + c * 2 ^ 8 % 2 ^ 32 + d ≡ q
placed_bytes a b c d w x y z q ha hb hc hd ea eb ec ed e = omega arith
