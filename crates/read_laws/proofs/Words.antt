-- The words of a page's steps, by the places of their bits: what a flip and a program make of them.
use Rattle.std.proofs.Common.{◌≡◌, ℕ, ◌+◌, ◌-◌, ◌*◌, ◌<◌, ◌≤◌, List, [], ◌∷◌, ◌++◌, length, refl, ap, ap₂, sym, ◌∙◌, arith, ◌⊎◌, inl, inr}
use Rattle.std.specs.Prelude.{replicate, nat_le, nat_lt, ◌&&◌, cond}
use Rattle.std.proofs.lemmas.List.{take_all, replicate-append-replicate}
use Rattle.std.proofs.lemmas.List.Edits.{length-between}
use Rattle.std.proofs.lemmas.List.Sums.{sum_by-append}
use Rattle.code_model.specs.Bits.{bit_of, bits_of, bits_from}
use Rattle.code_model.specs.Word.{distance}
use Rattle.code_model.specs.Code.{body_bits, parity_bits, word_bits}
use Rattle.code_model.proofs.ByteLemmas.{length-bits_of}
use Rattle.code_laws.proofs.BytesLemmas.{bits_from-part}
use Rattle.nand_model.specs.Sizes.{code_of, step_count, parity_bytes, parity_start, raw_len}
use Rattle.nand_model.specs.Page.{step_body, stored_parity, step_word}
use Rattle.nand_model.specs.Chip.{programmed}
use Rattle.nand_model.specs.Flips.{with_bit_turned, flips_between}
use Rattle.nand_model.specs.Quiet.{word_flips}
use Rattle.nand_model.specs.declared.geometry.Geometry.{Geometry}
use Rattle.ecc_page.proofs.MaskLemmas.{distance-append}
use Rattle.ecc_page.proofs.PageLemmas.{page-steps, parities-room, parity-inside}
use Rattle.read_laws.proofs.Bits.{bit_of-erased, bit_of-programmed, bit_of-turned}
use Rattle.read_laws.proofs.Runs.{length-bits_from, bits_from-between, bits_from-ones, in_run, turned-distance, programmed-distance}

-- where the bits of a step's body and of its parity begin in a page
abbrev pub body_at : Geometry → ℕ → ℕ
body_at g s = body_bits (code_of g) * s

abbrev pub parity_at : Geometry → ℕ → ℕ
parity_at g s = 8 * (g.page + parity_start g + s * parity_bytes g)

-- the runs of bits that make a step's word
abbrev pub body_run : Geometry → List ℕ → ℕ → List ℕ
body_run g cells s = bits_from cells (body_at g s) (body_bits (code_of g))

abbrev pub parity_run : Geometry → List ℕ → ℕ → List ℕ
parity_run g cells s = bits_from cells (parity_at g s) (parity_bits (code_of g))

abbrev pub word_at : Geometry → List ℕ → ℕ → List ℕ
word_at g cells s = body_run g cells s ++ parity_run g cells s

-- an erased page's bytes
abbrev pub erased : Geometry → List ℕ
erased g = replicate (raw_len g) 0xff

-- the word's bits are in the page, none of them in the marker's bytes
pub record WordPlaces (g : Geometry) (s : ℕ) : Type 0 where
  pub body : body_at g s + body_bits (code_of g) ≤ 8 * g.page
  pub parity_low : 8 * (g.page + 2) ≤ parity_at g s
  pub parity_high : parity_at g s + parity_bits (code_of g) ≤ 8 * raw_len g
  pub step_high : 512 * (s + 1) ≤ g.page
  pub parity_end : g.page + parity_start g + (s + 1) * parity_bytes g ≤ raw_len g

pub word_places : (g : Geometry) (s : ℕ) → s < step_count g → WordPlaces g s
word_places g s below =
    let whole = page-steps g in
    let room = parities-room g in
    let inside = parity-inside g s below in
    let e = parity_bytes g in
    let bits : 13 * g.t ≤ 8 * e = omega arith in
    let next : (s + 1) * e ≡ s * e + e = omega arith in
    record {
      body = omega arith;
      parity_low = omega (arith, room.0);
      parity_high = omega (arith, room.1);
      step_high = omega arith;
      parity_end = omega (arith, room.1);
    }

whole_run : (bytes : List ℕ) (n : ℕ) → 8 * length bytes ≡ n → bits_of bytes ≡ bits_from bytes 0 n
whole_run bytes n e =
    let long = length-bits_of bytes in
    sym (bits_from-part bytes n 0 (omega arith) ∙ take_all n (bits_of bytes) (omega arith))

-- a step's word in a whole page
pub step_word-places : (g : Geometry) (cells : List ℕ) (s : ℕ) → length cells ≡ raw_len g → s < step_count g → step_word g cells s ≡ word_at g cells s
step_word-places g cells s long below =
    let places = word_places g s below in
    let lb : length (step_body g cells s) ≡ 512 * (s + 1) - 512 * s = length-between cells (512 * s) (512 * (s + 1)) (omega (arith, places.step_high)) in
    let start : 8 * (512 * s) ≡ body_at g s = omega arith in
    let e = parity_bytes g in
    let p = g.page + parity_start g + s * e in
    let q = g.page + parity_start g + (s + 1) * e in
    let next : (s + 1) * e ≡ s * e + e = omega arith in
    let lp : length (stored_parity g cells s) ≡ q - p = length-between cells p q (omega (arith, places.parity_end)) in
    let bits : 13 * g.t ≤ 8 * e = omega arith in
    ap₂ (λ xs ys. xs ++ ys)
    (whole_run (step_body g cells s) (body_bits (code_of g)) (omega arith)
    ∙ bits_from-between cells (512 * s) (512 * (s + 1)) (body_bits (code_of g)) (omega arith)
    ∙ ap (λ (k : ℕ). bits_from cells k (body_bits (code_of g))) start)
    (sym (bits_from-part (stored_parity g cells s) (parity_bits (code_of g)) 0 (omega arith))
    ∙ bits_from-between cells p q (parity_bits (code_of g)) (omega arith))

-- the bits in which two words differ are those of their bodies and those of their parities
word-distance : (g : Geometry) (xs ys : List ℕ) (s : ℕ)
    → distance (word_at g xs s) (word_at g ys s) ≡ distance (body_run g xs s) (body_run g ys s) + distance (parity_run g xs s) (parity_run g ys s)
word-distance g xs ys s =
    distance-append (body_run g xs s) (body_run g ys s) (parity_run g xs s) (parity_run g ys s)
    (length-bits_from ys (body_bits (code_of g)) (body_at g s) ∙ sym (length-bits_from xs (body_bits (code_of g)) (body_at g s)))

-- 1 for a bit of a step's word
abbrev pub in_word : Geometry → ℕ → ℕ → ℕ
in_word g s bit = in_run (body_at g s) (body_bits (code_of g) * (s + 1)) bit + in_run (parity_at g s) (parity_at g s + parity_bits (code_of g)) bit

-- a turned bit makes a word differ in at most one place more
pub word-turned : (g : Geometry) (cells image : List ℕ) (bit s : ℕ)
    → distance (word_at g (with_bit_turned cells bit) s) (word_at g image s) ≤ distance (word_at g cells s) (word_at g image s) + in_word g s bit
word-turned g cells image bit s =
    let new = with_bit_turned cells bit in
    let others = bit_of-turned cells bit in
    let body = turned-distance cells new image bit (body_bits (code_of g)) (body_at g s) (body_bits (code_of g) * (s + 1)) others (omega arith) in
    let parity = turned-distance cells new image bit (parity_bits (code_of g)) (parity_at g s) (parity_at g s + parity_bits (code_of g)) others refl in
    let a = word-distance g new image s in
    let b = word-distance g cells image s in
    omega arith

flips-push : (flips : List ℕ) (bit from to : ℕ) → flips_between (flips ++ bit ∷ []) from to ≡ flips_between flips from to + in_run from to bit
flips-push flips bit from to = sum_by-append (λ b. cond (nat_le from b && nat_lt b to) 1 0) flips (bit ∷ []) ∙ omega arith

-- and counts as a flip of this word
pub word_flips-push : (g : Geometry) (flips : List ℕ) (bit s : ℕ) → word_flips g (flips ++ bit ∷ []) s ≡ word_flips g flips s + in_word g s bit
word_flips-push g flips bit s =
    let body = flips-push flips bit (body_at g s) (body_bits (code_of g) * (s + 1)) in
    let parity = flips-push flips bit (parity_at g s) (parity_at g s + parity_bits (code_of g)) in
    omega arith

-- a program leaves no more wrong bits in a word than there were zeros
pub word-programmed : (g : Geometry) (cells image : List ℕ) (s : ℕ) → s < step_count g
    → distance (word_at g (programmed cells image) s) (word_at g image s) ≤ distance (word_at g cells s) (word_at g (erased g) s)
word-programmed g cells image s below =
    let new = programmed cells image in
    let places = word_places g s below in
    let right = bit_of-programmed cells image in
    let body = programmed-distance cells (erased g) new image (body_bits (code_of g)) (body_at g s)
    (λ j low high. bit_of-erased (raw_len g) j (omega (arith, places.body))) right in
    let parity = programmed-distance cells (erased g) new image (parity_bits (code_of g)) (parity_at g s)
    (λ j low high. bit_of-erased (raw_len g) j (omega (arith, places.parity_high))) right in
    let a = word-distance g new image s in
    let b = word-distance g cells (erased g) s in
    omega arith

-- a word of which each bit is 1
pub word-ones : (g : Geometry) (cells : List ℕ) (s : ℕ) → s < step_count g
    → ((k : ℕ) → k < 8 * raw_len g → (k < 8 * g.page) ⊎ (8 * (g.page + 2) ≤ k) → bit_of cells k ≡ 1) → word_at g cells s ≡ replicate (word_bits (code_of g)) 1
word-ones g cells s below ones =
    let places = word_places g s below in
    ap₂ (λ xs ys. xs ++ ys)
    (bits_from-ones cells (body_bits (code_of g)) (body_at g s) (λ j low high.
    let h : j < 8 * g.page = omega (arith, places.body) in ones j (omega arith) (inl h)))
    (bits_from-ones cells (parity_bits (code_of g)) (parity_at g s) (λ j low high.
    let h : 8 * (g.page + 2) ≤ j = omega (arith, places.parity_low) in ones j (omega (arith, places.parity_high)) (inr h)))
    ∙ replicate-append-replicate (body_bits (code_of g)) (parity_bits (code_of g)) 1
