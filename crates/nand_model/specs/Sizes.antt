-- The sizes that follow from a chip's geometry.
use Rattle.std.specs.Prelude.{◌≡◌, ℕ, zero, suc, ◌+◌, ◌*◌, List, [], ◌∷◌, refl}
use Rattle.code_model.specs.Code.{Code, code_512, parity_len}
use Rattle.nand_model.specs.Layout.{steps_in, parity_start_in}
use Rattle.nand_model.specs.declared.geometry.Geometry.{Geometry}

-- the numbers from a first one on, so many of them
abbrev pub numbers_from : ℕ → ℕ → List ℕ
numbers_from first zero = []
numbers_from first (suc count) = first ∷ numbers_from (first + 1) count

-- the code of a chip's pages
abbrev pub code_of : Geometry → Code
code_of g = code_512 g.t

-- the steps of a page
abbrev pub step_count : Geometry → ℕ
step_count g = steps_in (code_of g) g.page

-- the bytes of a step's parity
abbrev pub parity_bytes : Geometry → ℕ
parity_bytes g = parity_len (code_of g)

-- where the parity of step 0 begins in the spare
abbrev pub parity_start : Geometry → ℕ
parity_start g = parity_start_in (code_of g) g.page g.spare

-- the bytes of a page with its spare
abbrev pub raw_len : Geometry → ℕ
raw_len g = g.page + g.spare

-- the pages of a chip
abbrev pub page_count : Geometry → ℕ
page_count g = g.blocks * g.pages_per_block

-- the first page of a block
abbrev pub first_page : Geometry → ℕ → ℕ
first_page g block = block * g.pages_per_block

-- the small chip of the examples, with tables whose header stands in the spare
abbrev pub small_chip : Geometry
small_chip = record {
  page = 2048;
  spare = 64;
  pages_per_block = 64;
  blocks = 16;
  t = 4;
  bbt = 1;
  threshold = 3;
  in_bounds = refl;
}

-- the small chip without tables
abbrev pub small_chip_without_tables : Geometry
small_chip_without_tables = record {
  page = 2048;
  spare = 64;
  pages_per_block = 64;
  blocks = 16;
  t = 4;
  bbt = 0;
  threshold = 3;
  in_bounds = refl;
}

pub small_chip_parity_start : parity_start small_chip ≡ 36
small_chip_parity_start = refl
