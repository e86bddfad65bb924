-- Tables that are kept in store.
use Rattle.std.specs.Prelude.{ℕ}

-- the blocks of each table, and how many tables are left
pub record SparesLeft : Type 0 where
  pub blocks : ℕ
  pub left : ℕ
