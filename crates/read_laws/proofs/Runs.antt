-- Runs of bits, and in how many places two of them differ after a flip or a program.
use Rattle.std.proofs.Common.{◌≡◌, ◌≢◌, ℕ, zero, suc, ◌+◌, ◌*◌, ◌<◌, ◌≤◌, ◌⊎◌, inl, inr, List, [], ◌∷◌, length, refl, ap, ap₂, sym, ◌∙◌, arith, cond}
use Rattle.std.specs.Prelude.{replicate, slice_range, nat_le, nat_lt, ◌&&◌}
use Rattle.std.proofs.lemmas.Bool.{cases_eq, cases_lt}
use Rattle.std.proofs.lemmas.Bool.Decides.{nat_tests}
use Rattle.code_model.specs.Bits.{bit_of, bits_from}
use Rattle.code_model.specs.Word.{distance}
use Rattle.code_model.proofs.DistanceLemmas.{distance-same, distance-cons_same, distance-cons_off, distance_triangle}
use Rattle.read_laws.proofs.Bits.{bit_of-between}

pub length-bits_from : (bytes : List ℕ) (n k : ℕ) → length (bits_from bytes k n) ≡ n
unfolding bits_from
length-bits_from bytes zero k = refl
length-bits_from bytes (suc n) k = ap suc (length-bits_from bytes n (suc k))

-- runs whose bits are equal
pub bits_from-same : (xs ys : List ℕ) (n j k : ℕ) → ((i : ℕ) → i < n → bit_of xs (j + i) ≡ bit_of ys (k + i)) → bits_from xs j n ≡ bits_from ys k n
unfolding bits_from
bits_from-same xs ys zero j k same = refl
bits_from-same xs ys (suc n) j k same =
    let first : bit_of xs j ≡ bit_of ys k =
    (let a : j ≡ j + 0 = omega arith in let b : k + 0 ≡ k = omega arith in ap (bit_of xs) a ∙ same 0 (omega arith) ∙ ap (bit_of ys) b) in
    ap₂ (λ b bs. b ∷ bs) first (bits_from-same xs ys n (suc j) (suc k) (λ i h.
    let a : suc j + i ≡ j + suc i = omega arith in let b : k + suc i ≡ suc k + i = omega arith in
    ap (bit_of xs) a ∙ same (suc i) (omega arith) ∙ ap (bit_of ys) b))

-- a run of ones
pub bits_from-ones : (xs : List ℕ) (n k : ℕ) → ((j : ℕ) → k ≤ j → j < k + n → bit_of xs j ≡ 1) → bits_from xs k n ≡ replicate n 1
unfolding bits_from
bits_from-ones xs zero k ones = refl
bits_from-ones xs (suc n) k ones =
    ap₂ (λ b bs. b ∷ bs) (ones k (omega arith) (omega arith)) (bits_from-ones xs n (suc k) (λ j low high. ones j (omega arith) (omega arith)))

-- a run in a part of the bytes
pub bits_from-between : (bytes : List ℕ) (a b n : ℕ) → 8 * a + n ≤ 8 * b → bits_from (slice_range bytes a b) 0 n ≡ bits_from bytes (8 * a) n
bits_from-between bytes a b n inside =
    bits_from-same (slice_range bytes a b) bytes n 0 (8 * a)
    (λ i h. let e : 0 + i ≡ i = omega arith in ap (bit_of (slice_range bytes a b)) e ∙ bit_of-between bytes a b i (omega arith))

-- one turned bit makes at most one place differ
turned-inside : (xs ys : List ℕ) (bit n k : ℕ) → ((j : ℕ) → j ≢ bit → bit_of ys j ≡ bit_of xs j) → distance (bits_from ys k n) (bits_from xs k n) ≤ 1
unfolding bits_from
turned-inside xs ys bit zero k others = let none = distance-same [] in omega arith
turned-inside xs ys bit (suc n) k others = elim (cases_eq k bit) [
  | inl here ↦
      (let rest : bits_from ys (suc k) n ≡ bits_from xs (suc k) n = bits_from-same ys xs n (suc k) (suc k) (λ i h. others (suc k + i) (λ e. omega arith)) in
      let none : distance (bits_from ys (suc k) n) (bits_from xs (suc k) n) ≡ 0 =
      ap (λ (zs : List ℕ). distance zs (bits_from xs (suc k) n)) rest ∙ distance-same (bits_from xs (suc k) n) in
      elim (cases_eq (bit_of ys k) (bit_of xs k)) [
        | inl same ↦ (let e = distance-cons_same (bit_of ys k) (bit_of xs k) (bits_from ys (suc k) n) (bits_from xs (suc k) n) same in omega arith)
        | inr off ↦ (let e = distance-cons_off (bit_of ys k) (bit_of xs k) (bits_from ys (suc k) n) (bits_from xs (suc k) n) off in omega arith)
      ])
  | inr there ↦
      (let rest = turned-inside xs ys bit n (suc k) others in
      let e = distance-cons_same (bit_of ys k) (bit_of xs k) (bits_from ys (suc k) n) (bits_from xs (suc k) n) (others k there) in
      omega arith)
]

-- and none where it is not in the run
turned-outside : (xs ys : List ℕ) (bit n k : ℕ) → ((j : ℕ) → j ≢ bit → bit_of ys j ≡ bit_of xs j) → (bit < k) ⊎ (k + n ≤ bit)
    → bits_from ys k n ≡ bits_from xs k n
turned-outside xs ys bit n k others (inl below) = bits_from-same ys xs n k k (λ i h. others (k + i) (λ e. omega arith))
turned-outside xs ys bit n k others (inr above) = bits_from-same ys xs n k k (λ i h. others (k + i) (λ e. omega arith))

-- 1 for a bit that is in the run
abbrev pub in_run : ℕ → ℕ → ℕ → ℕ
in_run from to bit = cond (nat_le from bit && nat_lt bit to) 1 0

in_run-yes : (from to bit : ℕ) → from ≤ bit → bit < to → in_run from to bit ≡ 1
in_run-yes from to bit low high = grind (arith, nat_tests)

-- a run differs from any other in at most one place more, and only where the turned bit is in it
pub turned-distance : (xs ys zs : List ℕ) (bit n k to : ℕ) → ((j : ℕ) → j ≢ bit → bit_of ys j ≡ bit_of xs j) → to ≡ k + n
    → distance (bits_from ys k n) (bits_from zs k n) ≤ distance (bits_from xs k n) (bits_from zs k n) + in_run k to bit
turned-distance xs ys zs bit n k to others end = elim (cases_lt bit k) [
  | inl below ↦ (let e = ap (λ (ws : List ℕ). distance ws (bits_from zs k n)) (turned-outside xs ys bit n k others (inl below)) in omega arith)
  | inr low ↦ elim (cases_lt bit (k + n)) [
    | inr above ↦ (let e = ap (λ (ws : List ℕ). distance ws (bits_from zs k n)) (turned-outside xs ys bit n k others (inr above)) in omega arith)
    | inl high ↦
        (let one = turned-inside xs ys bit n k others in
        let yes = in_run-yes k to bit low (omega arith) in
        let lx = length-bits_from xs n k in let ly = length-bits_from ys n k in let lz = length-bits_from zs n k in
        let both = distance_triangle (bits_from ys k n) (bits_from xs k n) (bits_from zs k n) (ly ∙ sym lx) (lx ∙ sym lz) in
        omega arith)
  ]
]

-- a program leaves as many wrong bits at most as there were zeros among the ones
pub programmed-distance : (cells ones new image : List ℕ) (n k : ℕ) → ((j : ℕ) → k ≤ j → j < k + n → bit_of ones j ≡ 1)
    → ((j : ℕ) → bit_of cells j ≡ 1 → bit_of new j ≡ bit_of image j)
    → distance (bits_from new k n) (bits_from image k n) ≤ distance (bits_from cells k n) (bits_from ones k n)
unfolding bits_from
programmed-distance cells ones new image zero k erased right = omega arith
programmed-distance cells ones new image (suc n) k erased right =
    let rest = programmed-distance cells ones new image n (suc k) (λ j low high. erased j (omega arith) (omega arith)) right in
    elim (cases_eq (bit_of cells k) (bit_of ones k)) [
      | inl same ↦
          (let a = distance-cons_same (bit_of cells k) (bit_of ones k) (bits_from cells (suc k) n) (bits_from ones (suc k) n) same in
          let written : bit_of new k ≡ bit_of image k = right k (same ∙ erased k (omega arith) (omega arith)) in
          let b = distance-cons_same (bit_of new k) (bit_of image k) (bits_from new (suc k) n) (bits_from image (suc k) n) written in
          omega arith)
      | inr off ↦
          (let a = distance-cons_off (bit_of cells k) (bit_of ones k) (bits_from cells (suc k) n) (bits_from ones (suc k) n) off in
          elim (cases_eq (bit_of new k) (bit_of image k)) [
            | inl same ↦ (let b = distance-cons_same (bit_of new k) (bit_of image k) (bits_from new (suc k) n) (bits_from image (suc k) n) same in omega arith)
            | inr wrong ↦ (let b = distance-cons_off (bit_of new k) (bit_of image k) (bits_from new (suc k) n) (bits_from image (suc k) n) wrong in omega arith)
          ])
    ]
