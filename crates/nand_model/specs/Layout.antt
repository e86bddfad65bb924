-- The sizes that a chip may have, and the places in a page's spare area.
--
--   spare bytes                          use
--   0, 1                                 marker; only byte 0 is looked at
--   2 up to the first parity byte        free; with a table header in the spare, pattern in 8 to 11
-- and version in 12
--   from there on, step after step       the stored parity of each step
use Rattle.std.specs.Prelude.{ℕ, ◌+◌, ◌-◌, ◌*◌, ◌/◌, ◌%◌, Bool, ◌&&◌, ◌||◌, not, ◌==◌, nat_le, IsTrue, if◌then◌else◌}
use Rattle.code_model.specs.Code.{Code, code_512, parity_len}

-- the steps of a page with so many body bytes
abbrev pub steps_in : Code → ℕ → ℕ
steps_in code page = page / code.step_bytes

-- where the parity of step 0 begins in the spare
abbrev pub parity_start_in : Code → ℕ → ℕ → ℕ
parity_start_in code page spare = spare - steps_in code page * parity_len code

-- body and spare are those of a large page
abbrev pub has_page_size : ℕ → ℕ → Bool
has_page_size page spare =
    (page == 2048 && spare == 64) || (page == 4096 && spare == 128) || (page == 4096 && spare == 224)

-- a multiple of 4 from 8 to 4,096
abbrev pub has_block_count : ℕ → Bool
has_block_count blocks = nat_le 8 blocks && nat_le blocks 4096 && blocks % 4 == 0

-- the numbers that a chip may have
abbrev pub has_sizes : ℕ → ℕ → ℕ → ℕ → ℕ → ℕ → ℕ → Bool
has_sizes page spare pages_per_block blocks t bbt threshold =
    has_page_size page spare && (pages_per_block == 64 || pages_per_block == 128) && has_block_count blocks
    && (nat_le 1 t && nat_le t 16) && nat_le bbt 2 && nat_le threshold t

-- the spare has room for the marker, the header of a table where it stands there, and the parities
abbrev pub has_room : Code → ℕ → ℕ → ℕ → Bool
has_room code page spare bbt =
    nat_le (steps_in code page * parity_len code + 2) spare
    && (not (bbt == 1) || nat_le (steps_in code page * parity_len code + 13) spare)

-- a threshold of 0 stands for three quarters of the code's strength, rounded up (nand_base)
abbrev pub threshold_in_force : ℕ → ℕ → ℕ
threshold_in_force t threshold = if threshold == 0 then (3 * t + 3) / 4 else threshold

-- sizes that a chip may have, with a threshold that is in force
abbrev pub is_geometry : ℕ → ℕ → ℕ → ℕ → ℕ → ℕ → ℕ → Bool
is_geometry page spare pages_per_block blocks t bbt threshold =
    has_sizes page spare pages_per_block blocks t bbt threshold && has_room (code_512 t) page spare bbt
    && nat_le 1 threshold

-- sizes that a chip may have
abbrev pub IsGeometry : ℕ → ℕ → ℕ → ℕ → ℕ → ℕ → ℕ → Type 0
IsGeometry page spare pages_per_block blocks t bbt threshold =
    IsTrue (is_geometry page spare pages_per_block blocks t bbt threshold)
