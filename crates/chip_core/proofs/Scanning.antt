-- An attach without tables: where its path stands after each page.
use Rattle.std.proofs.Common.{◌≡◌, ℕ, suc, ◌+◌, ◌-◌, ◌<◌, ◌≤◌, Bool, false, not, List, [], ◌∷◌, ◌++◌, Some, None, refl, ap, sym, ◌∙◌, arith}
use Rattle.std.specs.Prelude.{◌==◌}
use Rattle.std.proofs.lemmas.List.{map-append}
use Rattle.nand_model.specs.Chip.{ReadEvent}
use Rattle.nand_model.specs.Path.{Path, Over, Then, cells_of, first_event}
use Rattle.chip_paths.specs.Attach.{Attaching, attach_by, attach_path, marker_table, read_first_pages}
use Rattle.nand_model.specs.Table.{has_tables}
use Rattle.nand_model.specs.Sizes.{numbers_from, first_page}
use Rattle.nand_model.specs.declared.geometry.Geometry.{Geometry}
use Rattle.chip_paths.specs.Stage.{Attaches, attach_end, attach_stage}
use Rattle.bbt_flash.specs.Markers.{marker_state}
use Rattle.bbt_flash.specs.Step.{attached_by_markers}

-- the blocks from this one on
abbrev pub blocks_from : Geometry → ℕ → List ℕ
blocks_from g block = numbers_from block (g.blocks - block)

-- the blocks before these have these states, and the first pages of these are still to be read
abbrev pub markers_left : Geometry → List ℕ → List ℕ → Path Attaching
markers_left g states [] = Over (attached_by_markers states)
markers_left g states (block ∷ blocks) =
    Then (ReadEvent (first_page g block)) (λ answer. markers_left g (states ++ marker_state g (cells_of answer) ∷ [])
    blocks)

pub no_tables : (g : Geometry) → g.bbt ≡ 0 → has_tables g ≡ false
no_tables g none = ap (λ bbt. not (bbt == 0)) none

module _ (g : Geometry) where
  -- the states of the markers may be kept in place of the pages
  pub keeps_states : (blocks : List ℕ) (pages : List (List ℕ))
      → read_first_pages g blocks pages (λ all. Over (attached_by_markers (marker_table g all))) ≡ markers_left g (marker_table g pages) blocks
  keeps_states [] pages = refl
  keeps_states (block ∷ blocks) pages =
      λ i. Then (ReadEvent (first_page g block)) (λ answer.
      (keeps_states blocks (pages ++ cells_of answer ∷ [])
      ∙ ap (λ states. markers_left g states blocks) (map-append (marker_state g) pages (cells_of answer ∷ []))) i)

  -- the whole path of an attach
  pub attach_path-markers : g.bbt ≡ 0 → attach_path g ≡ markers_left g [] (blocks_from g 0)
  attach_path-markers none =
      let all : g.blocks ≡ g.blocks - 0 = omega arith in
      ap (λ b. attach_by b g) (no_tables g none) ∙ keeps_states (numbers_from 0 g.blocks) []
      ∙ ap (λ n. markers_left g [] (numbers_from 0 n)) all

  pub blocks_from-head : (block : ℕ) → block < g.blocks → blocks_from g block ≡ block ∷ blocks_from g (block + 1)
  blocks_from-head block there =
      let one_less : g.blocks - block ≡ suc (g.blocks - (block + 1)) = omega arith in
      ap (numbers_from block) one_less

  pub blocks_from-end : (block : ℕ) → g.blocks ≤ block → blocks_from g block ≡ []
  blocks_from-end block past =
      let none : g.blocks - block ≡ 0 = omega arith in
      ap (numbers_from block) none

  module _ (states : List ℕ) (block : ℕ) (there : block < g.blocks) where
    -- the next event reads the first page of the next block
    pub next_read : first_event (markers_left g states (blocks_from g block)) ≡ Some (ReadEvent (first_page g block))
    next_read = ap (λ blocks. first_event (markers_left g states blocks)) (blocks_from-head block there)

    pub still_attaches : (quiet : Bool)
        → attach_stage (markers_left g states (blocks_from g block)) quiet ≡ Attaches (markers_left g states (blocks_from g block)) quiet
    still_attaches quiet =
        ap (λ blocks. attach_stage (markers_left g states blocks) quiet) (blocks_from-head block there)
        ∙ sym (ap (λ blocks. Attaches (markers_left g states blocks) quiet) (blocks_from-head block there))

    pub no_end_yet : (quiet : Bool) → attach_end (markers_left g states (blocks_from g block)) quiet ≡ None
    no_end_yet quiet = ap (λ blocks. attach_end (markers_left g states blocks) quiet) (blocks_from-head block there)
