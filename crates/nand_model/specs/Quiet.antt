-- What a torn event leaves of a table page (its fairness), and when the markers and tables of a
-- chip are free of foreign flips (the quiet of an attach). Both are this project's own.
use Rattle.std.specs.Prelude.{ℕ, ◌+◌, ◌*◌, Bool, true, false, not, ◌&&◌, ◌||◌, ◌==◌, nat_le, if◌then◌else◌, List, Option, Some, None}
use Rattle.std.specs.List.{list_any, list_all}
use Rattle.nand_model.specs.Sizes.{code_of, step_count, parity_bytes, parity_start, numbers_from, first_page}
use Rattle.code_model.specs.Code.{body_bits, parity_bits}
use Rattle.nand_model.specs.Chip.{PageState, PageEvent, ReadEvent, ProgramEvent, EraseEvent}
use Rattle.nand_model.specs.Flips.{flips_between}
use Rattle.nand_model.specs.Table.{Copy, copy_in, same_copy, has_tables, table_blocks}
use Rattle.nand_model.specs.declared.geometry.Geometry.{Geometry}
use Rattle.nand_model.specs.declared.words.Fairness.{Fairness}
use Rattle.nand_model.specs.declared.words.Fairness.TheVariants.{Plain, Missing, Whole, Foul}

-- the chip has tables, and the block is one of its last four
abbrev pub is_table_block : Geometry → ℕ → Bool
is_table_block g block = has_tables g && list_any (λ b. b == block) (table_blocks g)

-- the page is the first one of such a block
abbrev pub is_table_page : Geometry → ℕ → Bool
is_table_page g page = has_tables g && list_any (λ b. first_page g b == page) (table_blocks g)

-- a copy beside the one that was wanted, which may be none
abbrev pub judged_beside : Copy → Option Copy → Fairness
judged_beside seen (Some wanted) = if same_copy seen wanted then Whole else Foul
judged_beside seen None = Foul

-- a page that holds no copy is missing one, one that holds the copy wanted is whole, and anything
-- else is foul
abbrev pub judged : Option Copy → Option Copy → Fairness
judged None wanted = Missing
judged (Some seen) wanted = judged_beside seen wanted

-- a page after a torn event beside the page that was wanted there, where the page is one that
-- tables stand in
abbrev pub fairness_if : Bool → Geometry → List ℕ → List ℕ → Fairness
fairness_if true g seen wanted = judged (copy_in g seen) (copy_in g wanted)
fairness_if false g seen wanted = Plain

-- the fairness of a torn event, from the pages before it and after it
abbrev pub fairness_of : Geometry → (ℕ → PageState) → PageEvent → (ℕ → PageState) → Fairness
fairness_of g before (ReadEvent page) after = Plain
fairness_of g before (ProgramEvent page image) after = fairness_if (is_table_page g page) g (after page).cells image
fairness_of g before (EraseEvent block) after =
    fairness_if (is_table_block g block) g (after (first_page g block)).cells (before (first_page g block)).cells

-- no flip since the last good erase in these bytes of the page
abbrev pub has_no_flip_in : PageState → ℕ → ℕ → Bool
has_no_flip_in page from to = flips_between page.flips (8 * from) (8 * to) == 0

-- the flips since the last good erase among the bits of a step's word
abbrev pub word_flips : Geometry → List ℕ → ℕ → ℕ
word_flips g flips s =
    flips_between flips (body_bits (code_of g) * s) (body_bits (code_of g) * (s + 1))
    + flips_between flips (8 * (g.page + parity_start g + s * parity_bytes g))
    (8 * (g.page + parity_start g + s * parity_bytes g) + parity_bits (code_of g))

-- each step's word has at most as many flips as the code corrects
abbrev pub is_correctable : Geometry → PageState → Bool
is_correctable g page = list_all (λ s. nat_le (word_flips g page.flips s) g.t) (numbers_from 0 (step_count g))

-- a table page: no flip in a header in the spare, few enough in each word, and none since a torn or
-- failed event
abbrev pub is_quiet_table_page : Geometry → PageState → Bool
is_quiet_table_page g page =
    (not (g.bbt == 1) || has_no_flip_in page (g.page + 8) (g.page + 13))
    && is_correctable g page && (not page.torn || not page.flipped_since)

-- the markers and the table pages of a chip are quiet
abbrev pub is_quiet : Geometry → (ℕ → PageState) → Bool
is_quiet g pages =
    list_all (λ b. has_no_flip_in (pages (first_page g b)) g.page (g.page + 1)) (numbers_from 0 g.blocks)
    && (not (has_tables g) || list_all (λ b. is_quiet_table_page g (pages (first_page g b))) (table_blocks g))
