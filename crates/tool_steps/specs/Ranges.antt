-- Ranges of pages and of blocks.
use Rattle.std.specs.Prelude.{ℕ, ◌*◌, ◌/◌}
use Rattle.nand_model.specs.declared.geometry.Geometry.{Geometry}
use Rattle.command_model.specs.Command.{block_size, count_or_rest}

-- the pages of a range of a device, where the length 0 means to the end
abbrev pub range_pages : Geometry → (blocks off len : ℕ) → ℕ
range_pages g blocks off len = count_or_rest (len / g.page) (off / g.page) (blocks * g.pages_per_block)

-- the blocks of a range of a device, where the length 0 means to the end
abbrev pub range_blocks : Geometry → (blocks off len : ℕ) → ℕ
range_blocks g blocks off len = count_or_rest (len / block_size g) (off / block_size g) blocks
