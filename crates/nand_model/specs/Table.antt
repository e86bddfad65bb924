-- Tables of block states (0 good, 1 worn, 2 reserved, 3 factory bad), their bytes, their pages, and
-- the copy that a page holds (nand_bbt).
--
--                        header in the spare     header in the body
--   pattern, 4 bytes     spare 8 to 11           body 0 to 3
--   version, 1 byte      spare 12                body 4
--   table, blocks / 4    body from 0             body from 5
--
-- The entry of block b stands in table byte b / 4 at bits 2 (b mod 4) and the next higher one; all
-- other bytes are 0xFF.
use Rattle.std.specs.Prelude.{◌≡◌, ℕ, ◌+◌, ◌-◌, ◌*◌, ◌/◌, ◌%◌, Bool, true, false, ◌&&◌, ◌==◌, if◌then◌else◌, List, [], ◌∷◌, ◌++◌, length, map, flat_map, slice_range, slice_index, replicate, Option, Some, None, is_none, is_some, bytes_eq, refl, not, ◌||◌}
use Rattle.nand_model.specs.Page.{Decoding, encoded, decoded, step_read}
use Rattle.nand_model.specs.declared.geometry.Geometry.{Geometry}
use Rattle.nand_model.specs.declared.words.Which.{Which}
use Rattle.nand_model.specs.declared.words.Which.TheVariants.{Primary, Mirror}

-- four states in a byte, the first in the lowest bits
abbrev pub packed_bytes : List ℕ → List ℕ
packed_bytes (a ∷ b ∷ c ∷ d ∷ states) = (a + 4 * b + 16 * c + 64 * d) ∷ packed_bytes states
packed_bytes states = []

-- the four entries of a byte
abbrev pub entries_of : ℕ → List ℕ
entries_of byte = byte % 4 ∷ byte / 4 % 4 ∷ byte / 16 % 4 ∷ byte / 64 % 4 ∷ []

-- how a state is written to flash: reserved as good
abbrev pub written_code : ℕ → ℕ
written_code state = if state == 1 then 2 else (if state == 3 then 0 else 3)

-- what an entry read from flash means: 1 and 2 are both worn
abbrev pub state_read : ℕ → ℕ
state_read code = if code == 3 then 0 else (if code == 0 then 3 else 1)

-- the bytes of a table on flash
abbrev pub table_bytes : List ℕ → List ℕ
table_bytes states = packed_bytes (map written_code states)

-- the states of a table's bytes on flash
abbrev pub states_in : List ℕ → List ℕ
states_in bytes = map state_read (flat_map entries_of bytes)

-- `Bbt0` and `1tbB`
abbrev pub pattern : Which → List ℕ
pattern Primary = 0x42 ∷ 0x62 ∷ 0x74 ∷ 0x30 ∷ []
pattern Mirror = 0x31 ∷ 0x74 ∷ 0x62 ∷ 0x42 ∷ []

-- bytes padded with 0xFF
abbrev pub padded : ℕ → List ℕ → List ℕ
padded n bytes = bytes ++ replicate (n - length bytes) 0xff

-- a table's page before its parities: the header stands in the spare, or at the head of the body
abbrev pub table_layout : Geometry → Which → ℕ → List ℕ → List ℕ
table_layout g which version states =
    if g.bbt == 1
    then padded g.page (table_bytes states) ++ padded g.spare (replicate 8 0xff ++ pattern which ++ (version ∷ []))
    else padded g.page (pattern which ++ (version ∷ []) ++ table_bytes states) ++ replicate g.spare 0xff

-- a table's page
abbrev pub table_page : Geometry → Which → ℕ → List ℕ → List ℕ
table_page g which version states = encoded g (table_layout g which version states)

-- a copy of a table, as a page holds it
pub record Copy : Type 0 where
  pub which : Which
  pub version : ℕ
  pub states : List ℕ

-- the kind that a pattern names
abbrev pub which_of : List ℕ → Option Which
which_of bytes =
    if bytes_eq bytes (pattern Primary) then Some Primary else (if bytes_eq bytes (pattern Mirror) then Some Mirror
    else None)

-- where the header stands: its four bytes of pattern and its version, and the bytes of the table,
-- in a page as it is read
abbrev pub header_at : Geometry → ℕ
header_at g = if g.bbt == 1 then g.page + 8 else 0

-- where the bytes of the table stand in a page as it is read
abbrev pub table_at : Geometry → ℕ
table_at g = if g.bbt == 1 then 0 else 5

-- the kind that the header of a page names
abbrev pub kind_in : Geometry → List ℕ → Option Which
kind_in g image = which_of (slice_range image (header_at g) (header_at g + 4))

-- the copy of this kind in a decoded page: no step failed
abbrev pub copy_of_kind : Geometry → Decoding → Option Which → Option Copy
copy_of_kind g d None = None
copy_of_kind g d (Some which) =
    if d.failed == 0
    then Some (record {
      which = which;
      version = slice_index d.image (header_at g + 4);
      states = states_in (slice_range d.image (table_at g) (table_at g + g.blocks / 4));
    })
    else None

-- with a header in the spare, the page is decoded only where a pattern stands there
abbrev pub copy_under : Geometry → List ℕ → Option Which → Option Copy
copy_under g cells None = None
copy_under g cells (Some which) = copy_of_kind g (decoded g cells) (Some which)

-- the copy in a page, whose header stands in the spare or not
abbrev pub copy_if : Bool → Geometry → List ℕ → Option Copy
copy_if true g cells = copy_under g cells (kind_in g cells)
copy_if false g cells = let d : Decoding = decoded g cells in copy_of_kind g d (kind_in g d.image)

-- the copy in a page: a pattern stands in its place and each step is readable
abbrev pub copy_in : Geometry → List ℕ → Option Copy
copy_in g cells = copy_if (g.bbt == 1) g cells

-- why a page holds no copy: there is no pattern, which a header in the body shows only where its
-- step is readable
abbrev pub has_no_pattern : Bool → Geometry → List ℕ → Bool
has_no_pattern true g cells = is_none (kind_in g cells)
has_no_pattern false g cells = is_some (step_read g cells 0).corrected && is_none (kind_in g (decoded g cells).image)

-- the same kind of copy
abbrev pub same_which : Which → Which → Bool
same_which Primary Primary = true
same_which Mirror Mirror = true
same_which Primary Mirror = false
same_which Mirror Primary = false

-- the same kind, version and states
abbrev pub same_copy : Copy → Copy → Bool
same_copy a b = same_which a.which b.which && a.version == b.version && bytes_eq a.states b.states

-- whether a chip has tables on flash
abbrev pub has_tables : Geometry → Bool
has_tables g = not (g.bbt == 0)

-- the last four blocks, from the last downwards
abbrev pub table_blocks : Geometry → List ℕ
table_blocks g = (g.blocks - 1) ∷ (g.blocks - 2) ∷ (g.blocks - 3) ∷ (g.blocks - 4) ∷ []

-- states as they are after they were written and read: reserved ones as good
abbrev pub read_again : List ℕ → List ℕ
read_again states = map (λ s. state_read (written_code s)) states

-- a state that calls its block bad
abbrev pub is_bad_state : ℕ → Bool
is_bad_state state = state == 1 || state == 3

-- a table calls a block bad where its state is 1 or 3
abbrev pub calls_bad : List ℕ → ℕ → Bool
calls_bad states block = is_bad_state (slice_index states block)

-- sixteen blocks: 5 worn, 7 factory bad, the last four reserved
pub packed_row : packed_bytes (0 ∷ 0 ∷ 0 ∷ 0 ∷ 0 ∷ 1 ∷ 0 ∷ 3 ∷ 0 ∷ 0 ∷ 0 ∷ 0 ∷ 2 ∷ 2 ∷ 2 ∷ 2 ∷ []) ≡ 0 ∷ 0xc4 ∷ 0
    ∷ 0xaa ∷ []
packed_row = refl

pub table_row : table_bytes (0 ∷ 0 ∷ 0 ∷ 0 ∷ 0 ∷ 1 ∷ 0 ∷ 3 ∷ 0 ∷ 0 ∷ 0 ∷ 0 ∷ 2 ∷ 2 ∷ 2 ∷ 2 ∷ []) ≡ 0xff ∷ 0x3b ∷ 0xff
    ∷ 0xff ∷ []
table_row = refl

pub states_row : states_in (0xff ∷ 0x3b ∷ 0xff ∷ 0xff ∷ []) ≡ 0 ∷ 0 ∷ 0 ∷ 0 ∷ 0 ∷ 1 ∷ 0 ∷ 3 ∷ 0 ∷ 0 ∷ 0 ∷ 0 ∷ 0 ∷ 0
    ∷ 0 ∷ 0 ∷ []
states_row = refl
