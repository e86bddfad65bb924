-- A scan of all markers, page by page.
use Rattle.std.proofs.Common.{◌≡◌, ℕ, suc, ◌+◌, ◌-◌, ◌<◌, ◌≤◌, Bool, true, false, not, List, [], ◌∷◌, ◌++◌, length, take, set, Some, refl, ap, sym, ◌∙◌, arith}
use Rattle.std.specs.Prelude.{◌==◌}
use Rattle.std.proofs.lemmas.List.{map-append, take_all, take_more_set}
use Rattle.nand_model.specs.Chip.{ReadEvent}
use Rattle.nand_model.specs.Path.{Path, Over, Then, Data, cells_of, first_event}
use Rattle.nand_model.specs.Sizes.{first_page, numbers_from}
use Rattle.nand_model.specs.Table.{has_tables}
use Rattle.chip_paths.specs.Attach.{attach_by, attach_path, marker_table, read_first_pages}
use Rattle.chip_paths.specs.Stage.{path_after}
use Rattle.chip_paths.specs.Writing.{Places}
use Rattle.nand_model.specs.declared.geometry.Geometry.{Geometry}
use Rattle.bbt_flash.specs.Markers.{marker_state}
use Rattle.bbt_flash.specs.Step.{after_markers, attached_by_markers, scan_left}

-- the blocks from this one on
abbrev pub blocks_from : Geometry → ℕ → List ℕ
blocks_from g next = numbers_from next (g.blocks - next)

blocks-head : (g : Geometry) (next : ℕ) → next < g.blocks → blocks_from g next ≡ next ∷ blocks_from g (next + 1)
blocks-head g next there =
    let one_less : g.blocks - next ≡ suc (g.blocks - (next + 1)) = omega arith in
    ap (numbers_from next) one_less

blocks-end : (g : Geometry) (next : ℕ) → g.blocks ≤ next → blocks_from g next ≡ []
blocks-end g next past =
    let none : g.blocks - next ≡ 0 = omega arith in
    ap (numbers_from next) none

module _ {A : Type 0} (g : Geometry) (go_on : List ℕ → Path A) where
  -- the states of the markers may be kept in place of the pages
  pub keeps_states : (blocks : List ℕ) (pages : List (List ℕ))
      → read_first_pages g blocks pages (λ all. go_on (marker_table g all)) ≡ scan_left go_on g (marker_table g pages) blocks
  keeps_states [] pages = refl
  keeps_states (block ∷ blocks) pages =
      λ i. Then (ReadEvent (first_page g block)) (λ answer.
      (keeps_states blocks (pages ++ cells_of answer ∷ [])
      ∙ ap (λ states. scan_left go_on g states blocks) (map-append (marker_state g) pages (cells_of answer ∷ []))) i)

  -- a scan of all blocks
  pub scan-all : read_first_pages g (numbers_from 0 g.blocks) [] (λ all. go_on (marker_table g all)) ≡ scan_left go_on g [] (blocks_from g 0)
  scan-all =
      let all : g.blocks ≡ g.blocks - 0 = omega arith in
      keeps_states (numbers_from 0 g.blocks) [] ∙ ap (λ n. scan_left go_on g [] (numbers_from 0 n)) all

  module _ (states : List ℕ) (next : ℕ) where
    pub scan-event : next < g.blocks → first_event (scan_left go_on g (take next states) (blocks_from g next)) ≡ Some (ReadEvent (first_page g next))
    scan-event there = ap (λ blocks. first_event (scan_left go_on g (take next states) blocks)) (blocks-head g next there)

    -- one more page is read
    pub scan-read : (cells : List ℕ) → next < g.blocks → length states ≡ g.blocks
        → path_after (Data cells) (scan_left go_on g (take next states) (blocks_from g next))
        ≡ scan_left go_on g (take (next + 1) (set states next (marker_state g cells))) (blocks_from g (next + 1))
    scan-read cells there all =
        let within : next < length states = rw all there in
        ap (λ blocks. path_after (Data cells) (scan_left go_on g (take next states) blocks)) (blocks-head g next there)
        ∙ ap (λ seen. scan_left go_on g seen (blocks_from g (next + 1))) (sym (take_more_set states next (marker_state g cells) within))

    -- all pages are read
    pub scan-over : g.blocks ≤ next → length states ≡ g.blocks → scan_left go_on g (take next states) (blocks_from g next) ≡ go_on states
    scan-over past all =
        let within : length states ≤ next = rw all past in
        ap (scan_left go_on g (take next states)) (blocks-end g next past) ∙ ap go_on (take_all next states within)

module _ (g : Geometry) where
  pub no_tables : g.bbt ≡ 0 → has_tables g ≡ false
  no_tables none = ap (λ bbt. not (bbt == 0)) none

  -- an attach without tables is a scan
  pub attach-scans : (places : Places) → g.bbt ≡ 0 → scan_left (after_markers (has_tables g) g places) g [] (blocks_from g 0) ≡ attach_path g
  attach-scans places none =
      ap (λ b. scan_left (after_markers b g places) g [] (blocks_from g 0)) (no_tables none)
      ∙ sym (scan-all g (λ states. Over (attached_by_markers states))) ∙ ap (λ b. attach_by b g) (sym (no_tables none))
