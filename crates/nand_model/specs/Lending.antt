-- How a list of bytes lends its bytes.
use Rattle.std.specs.Prelude.{ℕ, List, length}
use Rattle.std.specs.List.{refill}
use Rattle.std.specs.Borrow.{Lends, MutBor, Fml, Array, u8}
use Rattle.nand_model.specs.contracts.bytes.Bytes.{the_row as bytes_row}

-- the bytes end as what is left in the slice, which keeps its length
abbrev pub LendsBytes : MutBor (List ℕ) → MutBor (List ℕ) → Fml
LendsBytes s r = Lends bytes_row (Array u8 0) s r (refill (length s.now) s.now)
