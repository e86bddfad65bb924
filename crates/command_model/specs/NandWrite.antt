-- nandwrite: what it asks for, and its outcome.
use Rattle.std.specs.Prelude.{ℕ, zero, suc, ◌+◌, ◌-◌, ◌*◌, ◌/◌, Bool, ◌==◌, List, [], ◌∷◌, ◌++◌, length, take, drop, replicate, slice_range, if◌then◌else◌}
use Rattle.nand_model.specs.Sizes.{parity_start}
use Rattle.nand_model.specs.declared.geometry.Geometry.{Geometry}
use Rattle.nand_model.specs.declared.words.Ending.{Ending}
use Rattle.nand_model.specs.declared.words.Ending.TheVariants.{Whole, MarkerByte as AtMarkerByte, NoSpace}
use Rattle.nand_model.specs.declared.words.Op.{Op}
use Rattle.nand_model.specs.declared.words.Op.TheVariants.{Erase, IsBad, Write, RawWrite, Mark}
use Rattle.nand_model.specs.declared.words.Outcome.TheVariants.{NandWrite as Written}
use Rattle.nand_model.specs.declared.words.Reply.{Reply}
use Rattle.nand_model.specs.declared.words.Reply.TheVariants.{Done, BadBlock, MarkerByte, ProgramFailed}
use Rattle.command_model.specs.Scripts.{Script, End, Ask, says_bad, unit_size}

-- the data of nandwrite in units of one size, the last one padded with 0xFF
abbrev pub units_of : ℕ → ℕ → List ℕ → List (List ℕ)
units_of size zero bytes = []
units_of size (suc count) bytes =
    (take size bytes ++ replicate (size - length bytes) 0xff) ∷ units_of size count (drop size bytes)

-- how nandwrite was called
pub record WriteMode : Type 0 where
  pub dev : ℕ
  pub mark : Bool
  pub raw : Bool
  pub oob : Bool

-- the operation that writes a unit to a page of the device
abbrev pub write_unit : Geometry → WriteMode → ℕ → List ℕ → Op
write_unit g m page unit =
    if m.raw then RawWrite m.dev page (if m.oob then unit else unit ++ replicate g.spare 0xff)
    else Write m.dev page (take g.page unit)
    (if m.oob then slice_range unit (g.page + 2) (g.page + parity_start g) else replicate (parity_start g - 2) 0xff)

-- the counts of nandwrite
pub record WriteCounts : Type 0 where
  pub pages : ℕ
  pub skipped : ℕ
  pub failed : ℕ

-- the end of a nandwrite with these counts
abbrev pub written_end : WriteCounts → Ending → Script
written_end c ending = End (Written c.pages c.skipped c.failed ending)

-- the block of a page that failed is erased, and with `-m` marked, before the rest
abbrev pub erase_and_mark : WriteMode → ℕ → Script → Script
erase_and_mark m block rest =
    Ask (Erase m.dev block) (λ r. if m.mark then Ask (Mark m.dev block) (λ s. rest) else rest)

-- the answers to a written page
abbrev pub after_write : Reply → (good failed skipped marker : Script) → Script
after_write Done good failed skipped marker = good
after_write ProgramFailed good failed skipped marker = failed
after_write BadBlock good failed skipped marker = skipped
after_write MarkerByte good failed skipped marker = marker
after_write _ good failed skipped marker = good

-- the pages of one block: `taken` are the units that are left where the block begins, to which a
-- failure goes back
abbrev pub write_pages : Geometry → WriteMode → ℕ → List (List ℕ) → WriteCounts
    → (List (List ℕ) → WriteCounts → Script) → (in_block place : ℕ) → List (List ℕ) → Script
write_pages g m block taken c next_block in_block place [] = written_end (record c { pages = c.pages + in_block }) Whole
write_pages g m block taken c next_block in_block place (unit ∷ units) =
    if place == g.pages_per_block then next_block (unit ∷ units) (record c { pages = c.pages + in_block })
    else Ask (write_unit g m (block * g.pages_per_block + place) unit) (λ r. after_write r
    (write_pages g m block taken c next_block (in_block + 1) (place + 1) units)
    (erase_and_mark m block (next_block taken (record c { failed = c.failed + 1 })))
    (next_block taken (record c { skipped = c.skipped + 1 }))
    (written_end (record c { pages = c.pages + in_block }) AtMarkerByte))

-- block after block, until no unit is left or the device has ended
abbrev pub write_blocks : Geometry → WriteMode → (left block place : ℕ) → List (List ℕ) → WriteCounts → Script
write_blocks g m left block place [] c = written_end c Whole
write_blocks g m zero block place (unit ∷ units) c = written_end c NoSpace
write_blocks g m (suc left) block place (unit ∷ units) c =
    Ask (IsBad m.dev block) (λ r.
    if says_bad r then write_blocks g m left (block + 1) 0 (unit ∷ units) (record c { skipped = c.skipped + 1 })
    else write_pages g m block (unit ∷ units) c (λ us d. write_blocks g m left (block + 1) 0 us d) 0 place (unit
    ∷ units))

-- how many units the data of a nandwrite fill
abbrev pub unit_count : Geometry → Bool → List ℕ → ℕ
unit_count g oob bytes = (length bytes + (unit_size g oob - 1)) / unit_size g oob
