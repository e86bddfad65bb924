-- Packed bytes and the states in them.
use Rattle.std.proofs.Common.{◌≡◌, ℕ, zero, suc, ◌+◌, ◌-◌, ◌*◌, ◌/◌, ◌%◌, ◌<◌, ◌≤◌, List, [], ◌∷◌, ◌++◌, length, take, drop, refl, ap, ap₂, sym, ◌∙◌, subst, arith}
use Rattle.std.specs.Prelude.{slice_index, slice_index_or, slice_set, slice_range, replicate, All}
use Rattle.std.specs.List.{refill}
use Rattle.std.proofs.lemmas.List.{length-set, length-replicate, take_all, drop_all, append-nil}
use Rattle.nand_model.specs.Table.{entries_of, packed_bytes}
use Rattle.bbt_ram.specs.Packed.{unpacked}

-- the entry at place k of the n-th byte
next_byte : (n k : ℕ) → 4 * suc n + k ≡ suc (suc (suc (suc (4 * n + k))))
next_byte n k = omega arith

pub length-unpacked : (bytes : List ℕ) → length (unpacked bytes) ≡ 4 * length bytes
length-unpacked [] = refl
length-unpacked (byte ∷ bytes) = let rest = length-unpacked bytes in omega (arith, rest)

at_first : (byte k d : ℕ) (states : List ℕ) → k < 4 → slice_index_or (entries_of byte ++ states) k d ≡ slice_index (entries_of byte) k
at_first byte zero d states h = refl
at_first byte (suc zero) d states h = refl
at_first byte (suc (suc zero)) d states h = refl
at_first byte (suc (suc (suc zero))) d states h = refl
at_first byte (suc (suc (suc (suc k)))) d states h = absurd (omega arith)

pub entry-unpacked : (bytes : List ℕ) (n k d : ℕ) → k < 4 → n < length bytes → slice_index_or (unpacked bytes) (4 * n + k) d ≡ slice_index (entries_of (slice_index bytes n)) k
entry-unpacked [] n k d h there = absurd (omega arith)
entry-unpacked (byte ∷ bytes) zero k d h there = let e : 4 * zero + k ≡ k = omega arith in rw e (at_first byte k d (unpacked bytes) h)
entry-unpacked (byte ∷ bytes) (suc n) k d h there = rw next_byte (entry-unpacked bytes n k d h (omega arith))

pub state-unpacked : (bytes : List ℕ) (block : ℕ) → block / 4 < length bytes → slice_index (unpacked bytes) block ≡ slice_index (entries_of (slice_index bytes (block / 4))) (block % 4)
state-unpacked bytes block there =
    let whole : 4 * (block / 4) + block % 4 ≡ block = omega arith in
    ap (slice_index (unpacked bytes)) (sym whole) ∙ entry-unpacked bytes (block / 4) (block % 4) 0 (omega arith) there

-- each state is one of four
pub All-unpacked : (bytes : List ℕ) → All (λ state. state < 4) (unpacked bytes)
All-unpacked [] k d there = absurd (omega arith)
All-unpacked (byte ∷ bytes) zero d there = omega arith
All-unpacked (byte ∷ bytes) (suc zero) d there = omega arith
All-unpacked (byte ∷ bytes) (suc (suc zero)) d there = omega arith
All-unpacked (byte ∷ bytes) (suc (suc (suc zero))) d there = omega arith
All-unpacked (byte ∷ bytes) (suc (suc (suc (suc k)))) d there = All-unpacked bytes k d (omega arith)

set_first : (byte changed k state : ℕ) (states : List ℕ) → k < 4 → entries_of changed ≡ slice_set (entries_of byte) k state
    → entries_of changed ++ states ≡ slice_set (entries_of byte ++ states) k state
set_first byte changed zero state states h e = ap (λ xs. xs ++ states) e
set_first byte changed (suc zero) state states h e = ap (λ xs. xs ++ states) e
set_first byte changed (suc (suc zero)) state states h e = ap (λ xs. xs ++ states) e
set_first byte changed (suc (suc (suc zero))) state states h e = ap (λ xs. xs ++ states) e
set_first byte changed (suc (suc (suc (suc k)))) state states h e = absurd (omega arith)

-- one entry of a byte changes one state
pub set-unpacked : (bytes : List ℕ) (n k changed state : ℕ) → k < 4 → n < length bytes → entries_of changed ≡ slice_set (entries_of (slice_index bytes n)) k state
    → unpacked (slice_set bytes n changed) ≡ slice_set (unpacked bytes) (4 * n + k) state
set-unpacked [] n k changed state h there e = absurd (omega arith)
set-unpacked (byte ∷ bytes) zero k changed state h there e = let z : 4 * zero + k ≡ k = omega arith in rw z (set_first byte changed k state (unpacked bytes) h e)
set-unpacked (byte ∷ bytes) (suc n) k changed state h there e =
    rw next_byte (ap (λ xs. entries_of byte ++ xs) (set-unpacked bytes n k changed state h (omega arith) e))

-- a byte changes its four states
pub byte-unpacked : (bytes : List ℕ) (n byte : ℕ) → n < length bytes
    → unpacked (slice_set bytes n byte) ≡ take (4 * n) (unpacked bytes) ++ entries_of byte ++ drop (4 * n + 4) (unpacked bytes)
byte-unpacked [] n byte there = absurd (omega arith)
byte-unpacked (first ∷ bytes) zero byte there = refl
byte-unpacked (first ∷ bytes) (suc n) byte there =
    let a : 4 * suc n ≡ suc (suc (suc (suc (4 * n)))) = omega arith in
    let b : 4 * suc n + 4 ≡ suc (suc (suc (suc (4 * n + 4)))) = omega arith in
    rw (b, a) (ap (λ xs. entries_of first ++ xs) (byte-unpacked bytes n byte (omega arith)))

-- the four states of a byte
pub slice-unpacked : (bytes : List ℕ) (n : ℕ) → n < length bytes → slice_range (unpacked bytes) (4 * n) (4 * n + 4) ≡ entries_of (slice_index bytes n)
slice-unpacked [] n there = absurd (omega arith)
slice-unpacked (byte ∷ bytes) zero there = refl
slice-unpacked (byte ∷ bytes) (suc n) there =
    let a : 4 * suc n ≡ suc (suc (suc (suc (4 * n)))) = omega arith in
    let c : (4 * n + 4) - 4 * n ≡ (4 * suc n + 4) - 4 * suc n = omega arith in
    ap₂ (λ i j. take i (drop j (unpacked (byte ∷ bytes)))) (sym c) a ∙ slice-unpacked bytes n (omega arith)

whole_byte : (byte : ℕ) → byte < 256 → byte % 4 + 4 * (byte / 4 % 4) + 16 * (byte / 16 % 4) + 64 * (byte / 64 % 4) ≡ byte
whole_byte byte h = omega arith

-- packing the states gives the bytes again
pub packed-unpacked : (bytes : List ℕ) (n : ℕ) → slice_index bytes n < 256 → n < length bytes → slice_index (packed_bytes (unpacked bytes)) n ≡ slice_index bytes n
packed-unpacked [] n h there = absurd (omega arith)
packed-unpacked (byte ∷ bytes) zero h there = whole_byte byte h
packed-unpacked (byte ∷ bytes) (suc n) h there = packed-unpacked bytes n h (omega arith)

-- bytes of zeros
pub unpacked-zeros : (n : ℕ) → unpacked (replicate n 0) ≡ replicate (4 * n) 0
unpacked-zeros zero = refl
unpacked-zeros (suc n) = let a : 4 * suc n ≡ suc (suc (suc (suc (4 * n)))) = omega arith in rw a (ap (λ xs. entries_of 0 ++ xs) (unpacked-zeros n))

-- the byte of a block, and the n-th byte, are there
pub byte_of_block : (bytes lent states : List ℕ) (block : ℕ) → unpacked bytes ≡ states → lent ≡ bytes → block < length states → block / 4 < length lent
byte_of_block bytes lent states block e l h = let long = length-unpacked bytes in let same = ap length e in let lends = ap length l in omega arith

pub byte_there : (bytes lent states : List ℕ) (n : ℕ) → unpacked bytes ≡ states → lent ≡ bytes → n < length states / 4 → n < length lent
byte_there bytes lent states n e l h = let long = length-unpacked bytes in let same = ap length e in let lends = ap length l in omega arith

refilled : (old new : List ℕ) → length new ≡ length old → refill (length old) old new ≡ new
refilled old new same =
    ap (λ xs. take (length old) (new ++ xs)) (drop_all (length new) old (omega arith)) ∙ ap (take (length old)) (append-nil new) ∙ take_all (length old) new (omega arith)

-- the state of a block
pub got : (bytes lent states : List ℕ) (block entry : ℕ) → unpacked bytes ≡ states → lent ≡ bytes → block < length states
    → entry ≡ slice_index (entries_of (slice_index lent (block / 4))) (block % 4) → entry ≡ slice_index states block
got bytes lent states block entry e l h is =
    is ∙ ap (λ xs. slice_index (entries_of (slice_index xs (block / 4))) (block % 4)) l
    ∙ sym (state-unpacked bytes block (byte_of_block bytes bytes states block e refl h)) ∙ ap (λ xs. slice_index xs block) e

-- a table in which one entry was changed
pub changed_state : (bytes lent states : List ℕ) (block changed state : ℕ) → unpacked bytes ≡ states → lent ≡ bytes → block < length states
    → entries_of changed ≡ slice_set (entries_of (slice_index lent (block / 4))) (block % 4) state
    → unpacked (refill (length bytes) bytes (slice_set lent (block / 4) changed)) ≡ slice_set states block state
changed_state bytes lent states block changed state e l h is =
    let whole : 4 * (block / 4) + block % 4 ≡ block = omega arith in
    ap unpacked (refilled bytes (slice_set lent (block / 4) changed) (length-set lent (block / 4) changed ∙ ap length l) ∙ ap (λ xs. slice_set xs (block / 4) changed) l)
    ∙ set-unpacked bytes (block / 4) (block % 4) changed state (omega arith) (byte_of_block bytes bytes states block e refl h)
    (is ∙ ap (λ xs. slice_set (entries_of (slice_index xs (block / 4))) (block % 4) state) l)
    ∙ ap₂ (λ xs k. slice_set xs k state) e whole

-- the n-th byte of a table
pub byte_is : (bytes lent states : List ℕ) (n : ℕ) → unpacked bytes ≡ states → lent ≡ bytes → n < length states / 4 → slice_index lent n < 256
    → slice_index lent n ≡ slice_index (packed_bytes states) n
byte_is bytes lent states n e l h small =
    ap (λ xs. slice_index xs n) l
    ∙ sym (packed-unpacked bytes n (subst (λ (xs : List ℕ). slice_index xs n < 256) l small) (byte_there bytes bytes states n e refl h))
    ∙ ap (λ xs. slice_index (packed_bytes xs) n) e

pub byte_entries : (bytes lent states : List ℕ) (n : ℕ) → unpacked bytes ≡ states → lent ≡ bytes → n < length states / 4
    → entries_of (slice_index lent n) ≡ slice_range states (4 * n) (4 * n + 4)
byte_entries bytes lent states n e l h =
    ap (λ xs. entries_of (slice_index xs n)) l ∙ sym (slice-unpacked bytes n (byte_there bytes bytes states n e refl h)) ∙ ap (λ xs. slice_range xs (4 * n) (4 * n + 4)) e

-- a table in which one byte was changed
pub changed_byte : (bytes lent states : List ℕ) (n byte : ℕ) → unpacked bytes ≡ states → lent ≡ bytes → n < length states / 4
    → unpacked (refill (length bytes) bytes (slice_set lent n byte)) ≡ take (4 * n) states ++ entries_of byte ++ drop (4 * n + 4) states
changed_byte bytes lent states n byte e l h =
    ap unpacked (refilled bytes (slice_set lent n byte) (length-set lent n byte ∙ ap length l) ∙ ap (λ xs. slice_set xs n byte) l)
    ∙ byte-unpacked bytes n byte (byte_there bytes bytes states n e refl h)
    ∙ ap (λ xs. take (4 * n) xs ++ entries_of byte ++ drop (4 * n + 4) xs) e

-- a table of good blocks
pub cleared : (bytes states zeros : List ℕ) (n : ℕ) → unpacked bytes ≡ states → n ≡ length bytes → zeros ≡ replicate n 0
    → unpacked (refill (length bytes) bytes zeros) ≡ replicate (length states) 0
cleared bytes states zeros n e count z =
    let count' : 4 * n ≡ length states = ap (λ k. 4 * k) count ∙ sym (length-unpacked bytes) ∙ ap length e in
    ap unpacked (refilled bytes zeros (ap length z ∙ length-replicate n 0 ∙ count) ∙ z) ∙ unpacked-zeros n ∙ ap (λ k. replicate k 0) count'
