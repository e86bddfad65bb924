-- Partitions stay apart where one is added that shares no block with them.
use Rattle.std.proofs.Common.{◌≡◌, ℕ, zero, suc, ◌+◌, ◌-◌, ◌^◌, length-append, ◌<◌, ◌≤◌, ◌⊎◌, inl, inr, List, [], ◌∷◌, ◌++◌, length, Some, refl, arith, ap, sym, subst, below_more, ◌∙◌}
use Rattle.std.specs.Prelude.{slice_get, slice_index_or, Any}
use Rattle.std.proofs.lemmas.Option.{slice_get_within, get_or_from_slice_get}
use Rattle.std.proofs.lemmas.List.{get_or_default}
use Rattle.std.proofs.lemmas.List.Elements.{All-append}
use Rattle.nand_model.specs.declared.words.Part.{Part}
use Rattle.mtd_part.specs.Blocks.{SharesBlock, AreApart, ArePartitions}
use Rattle.nand_model.specs.Partitions.{LiesWithin}

-- an item of a list with one more at its end is an earlier one or that one
pub place_of : (parts : List Part) (part : Part) (i : ℕ) (a : Part) → slice_get (parts ++ part ∷ []) i ≡ Some a
    → ((i < length parts) × (slice_get parts i ≡ Some a)) ⊎ ((i ≡ length parts) × (part ≡ a))
place_of [] part zero a h = inr (refl, cc)
place_of [] part (suc i) a h = absurd cc
place_of (p ∷ parts) part zero a h = inl (omega arith, h)
place_of (p ∷ parts) part (suc i) a h =
    elim (place_of parts part i a h) [ inl earlier ↦ inl (omega (arith, earlier.0), earlier.1) | inr last ↦ inr (ap suc last.0, last.1) ]

pub SharesBlock-sym : (a b : Part) → SharesBlock a b → SharesBlock b a
SharesBlock-sym a b s = (s.0, s.1, (s.2.1, s.2.0))

-- an item that shares a block is among those that do
pub any_of : (parts : List Part) (part a : Part) (i : ℕ) → slice_get parts i ≡ Some a → SharesBlock part a → Any (SharesBlock part) parts
any_of parts part a i h s = (i, a, slice_get_within parts i a h, get_or_from_slice_get parts i a a h, s)

pub AreApart-append : (parts : List Part) (part : Part) → AreApart parts → (Any (SharesBlock part) parts → ⊥) → AreApart (parts ++ part ∷ [])
AreApart-append parts part apart none i j a b hi hj s =
    elim (place_of parts part i a hi) [
      | inl i_early ↦ elim (place_of parts part j b hj) [
        | inl j_early ↦ apart i j a b i_early.1 j_early.1 s
        | inr j_last ↦ absurd (none (any_of parts part a i i_early.1 (SharesBlock-sym a part (let P : Part → Type 0 = λ x. SharesBlock a x in subst P (sym j_last.1) s))))
      ]
      | inr i_last ↦ elim (place_of parts part j b hj) [
        | inl j_early ↦ absurd (none (any_of parts part b j j_early.1 (let P : Part → Type 0 = λ x. SharesBlock x b in subst P (sym i_last.1) s)))
        | inr j_last ↦ i_last.0 ∙ sym j_last.0
      ]
    ]

all_one : (part : Part) → LiesWithin 4096 part → (k : ℕ) (d : Part) → k < 1 → LiesWithin 4096 (slice_index_or (part ∷ []) k d)
all_one part h zero d lt = h
all_one part h (suc k) d lt = absurd (omega arith)

-- one more partition, which lies within its chip and shares no block with the others
pub ArePartitions-append : (first blocks : ℕ) (parts : List Part) (part : Part) → ArePartitions first parts → LiesWithin blocks part → blocks ≤ 4096
    → (Any (SharesBlock part) parts → ⊥) → first + length parts < 2 ^ 32 - 1 → ArePartitions first (parts ++ part ∷ [])
ArePartitions-append first blocks parts part h within few none numbered = record {
  within = All-append (LiesWithin 4096) parts (part ∷ []) h.within (all_one part (within.0, omega arith));
  apart = AreApart-append parts part h.apart none;
  numbered = omega (arith, length-append parts (part ∷ []));
}

-- none of the first n partitions is such, and the next one is not
pub none_more : (P : Part → Type 0) (parts : List Part) (n : ℕ) (e : Part) → n < length parts
    → ((k : ℕ) (d : Part) → k < n → P (slice_index_or parts k d) → ⊥) → (P (slice_index_or parts n e) → ⊥)
    → (k : ℕ) (d : Part) → k < n + 1 → P (slice_index_or parts k d) → ⊥
none_more P parts n e h none here k d lt =
    below_more (λ j. (d : Part) → P (slice_index_or parts j d) → ⊥) n (λ j before c. none j c before)
    (λ c p. here (subst P (get_or_default parts n c e h) p)) k lt d

-- where no partition is such, there is none
pub none_at_all : (P : Part → Type 0) (parts : List Part) (n : ℕ) → length parts ≤ n
    → ((k : ℕ) (d : Part) → k < n → P (slice_index_or parts k d) → ⊥) → Any P parts → ⊥
none_at_all P parts n h none any = none any.0 any.1 (let lt : any.0 < length parts = any.2 in omega arith) (subst P (sym any.3) any.4)
