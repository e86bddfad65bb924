-- Operations that a chip takes.
use Rattle.std.specs.Prelude.{◌≡◌, length, ⊤}
use Rattle.nand_model.specs.Sizes.{raw_len}
use Rattle.nand_model.specs.Page.{FillsPlaces}
use Rattle.nand_model.specs.declared.geometry.Geometry.{Geometry}
use Rattle.nand_model.specs.declared.words.Op.{Op}
use Rattle.nand_model.specs.declared.words.Op.TheVariants.{Read, Write, RawRead, RawWrite, Erase, IsBad, Mark, Stats}

-- any operation, with bytes that fill their places in a page
abbrev pub IsTaken : Geometry → Op → Type 0
IsTaken g (Read dev page) = ⊤
IsTaken g (Write dev page body free) = FillsPlaces g body free
IsTaken g (RawRead dev page) = ⊤
IsTaken g (RawWrite dev page image) = length image ≡ raw_len g
IsTaken g (Erase dev block) = ⊤
IsTaken g (IsBad dev block) = ⊤
IsTaken g (Mark dev block) = ⊤
IsTaken g (Stats dev) = ⊤
