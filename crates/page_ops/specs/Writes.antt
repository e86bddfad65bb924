-- How a write and an erase are answered.
use Rattle.std.specs.Prelude.{Result, Ok, Err, Option, Some, None}
use Rattle.nand_model.specs.Chip.{DoneBits}
use Rattle.page_ops.specs.declared.errors.WriteError.{WriteError}
use Rattle.page_ops.specs.declared.errors.WriteError.TheVariants.{ProgramFailed}
use Rattle.page_ops.specs.declared.errors.EraseError.{EraseError}
use Rattle.page_ops.specs.declared.errors.EraseError.TheVariants.{EraseFailed}

-- a program ends well where it does not fail
abbrev pub write_ended : Option DoneBits → Result (Unit {0}) WriteError
write_ended None = Ok tt
write_ended (Some done) = Err ProgramFailed

-- an erase ends well where it does not fail
abbrev pub erase_ended : Option DoneBits → Result (Unit {0}) EraseError
erase_ended None = Ok tt
erase_ended (Some done) = Err EraseFailed
