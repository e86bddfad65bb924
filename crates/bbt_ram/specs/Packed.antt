-- States in packed bytes.
use Rattle.std.specs.Prelude.{ℕ, Bool, not, ◌==◌, List, flat_map}
use Rattle.nand_model.specs.Table.{entries_of}

-- the states in bytes of four entries each, the first in the lowest bits
abbrev pub unpacked : List ℕ → List ℕ
unpacked bytes = flat_map entries_of bytes

-- a state in which a block is bad for all that write and erase: worn, reserved or factory bad
abbrev pub is_not_good : ℕ → Bool
is_not_good state = not (state == 0)
