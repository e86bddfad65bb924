-- The flips of a chip's bits, page by page.
use Rattle.std.specs.Prelude.{◌≡◌, ◌<◌, ℕ, List, [], ◌∷◌, ◌++◌, fold, length, slice_get, slice_index_or, Option, Some, None, IfSome}
use Rattle.chip_sim.specs.declared.flip_log.FlippedBit.{FlippedBit}

-- the flipped bits of each page in the order in which they were made, and how many more may be added
-- before memory has to be asked for
pub record FlipsAndRoom : Type 0 where
  pub flips : List (List ℕ)
  pub room : ℕ

-- the bits of a page that were flipped
abbrev pub flips_of : List (List ℕ) → ℕ → List ℕ
flips_of flips page = slice_index_or flips page []

-- the bits that stand at a place of a list of them; none without a place
abbrev pub bits_at : List (List ℕ) → Option ℕ → List ℕ
bits_at all None = []
bits_at all (Some place) = slice_index_or all place []

-- for each flip the bits of its page up to it: those up to the flip before it in its page, and its own
abbrev pub bits_up_to : List FlippedBit → List (List ℕ)
bits_up_to flips = fold (λ all (flip : FlippedBit). all ++ (bits_at all flip.before ++ flip.bit ∷ []) ∷ []) [] flips

-- each flip leads to one that stands before it, or to none
abbrev pub LeadBack : List FlippedBit → Type 0
LeadBack flips = (place : ℕ) (flip : FlippedBit) → slice_get flips place ≡ Some flip → IfSome flip.before (λ before. before < place)

-- flips that lead back, and for each page the place of its last one
pub record AreLinked (flips : List FlippedBit) (last : List (Option ℕ)) : Type 0 where
  pub back : LeadBack flips
  pub there : (page : ℕ) → IfSome (slice_index_or last page None) (λ place. place < length flips)
