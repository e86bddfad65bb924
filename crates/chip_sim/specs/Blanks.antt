-- Erased pages that are kept in store.
use Rattle.std.specs.Prelude.{ℕ, List, replicate}

-- the cells of a page of so many bytes that is erased
abbrev pub blank_cells : ℕ → List ℕ
blank_cells raw = replicate raw 0xff

-- the bytes of a page, and how many pages are left
pub record BlanksLeft : Type 0 where
  pub raw : ℕ
  pub left : ℕ
