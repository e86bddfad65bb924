-- An attach at each of its steps.
use Rattle.std.proofs.Common.{◌≡◌, ◌≢◌, ℕ, ◌+◌, ◌-◌, ◌<◌, ◌≤◌, Bool, true, false, List, length, drop, take, set, Option, Some, None, refl, ap, sym, subst, ◌∙◌, arith}
use Rattle.nand_model.specs.Chip.{PageEvent, ReadEvent}
use Rattle.nand_model.specs.Path.{Path, Over, Data, first_event}
use Rattle.nand_model.specs.Sizes.{first_page}
use Rattle.nand_model.specs.Table.{has_tables}
use Rattle.chip_paths.specs.Attach.{Attaching, attach_path, attaching_of, origin_of, rewrite_copies, whole_at_first, with_reserved}
use Rattle.chip_paths.specs.Copies.{rewritten}
use Rattle.chip_paths.specs.Writing.{Places, Writing, most_events, writing_of, writing_path, next_writing_event}
use Rattle.chip_paths.specs.Stage.{path_after}
use Rattle.nand_model.specs.declared.geometry.Geometry.{Geometry}
use Rattle.nand_model.specs.declared.words.Choice.{Choice}
use Rattle.nand_model.specs.declared.words.Origin.{Origin}
use Rattle.bbt_flash.specs.Copies.{places_in}
use Rattle.bbt_flash.specs.Events.{is_change, is_program, is_read}
use Rattle.bbt_flash.specs.Held.{copies_of, use_copies}
use Rattle.bbt_flash.specs.Markers.{marker_state}
use Rattle.bbt_flash.specs.Step.{ScanFits, SearchFits, StepFits, after_markers, attached_by_markers, attaching_from, step_left}
use Rattle.bbt_flash.specs.Update.{update_sizes, update_writing}
use Rattle.bbt_flash.specs.declared.search.Search.{Search}
use Rattle.bbt_flash.specs.declared.step.Rewriting.{Rewriting}
use Rattle.bbt_flash.specs.declared.step.Scan.{Scan}
use Rattle.bbt_flash.specs.declared.step.Step.{Step}
use Rattle.bbt_flash.specs.declared.step.Step.TheVariants.{Searching, Scanning, Writing as IsWriting, Over as IsOver}
use Rattle.bbt_flash.proofs.Scanning.{scan-event}
use Rattle.bbt_flash.proofs.Searching.{search-event}
use Rattle.bbt_flash.proofs.Updating.{over-event, over-no-read, over-result}

module _ (g : Geometry) (table : List ℕ) where
  -- a search reads the next of the last four blocks
  pub searching-event : (search : Search) → SearchFits g search
      → first_event (step_left g table (Searching search)) ≡ Some (ReadEvent (first_page g (search.geometry.blocks - (search.next + 1))))
  searching-event search fits =
      search-event g (copies_of search.helds.items) search.candidates.items search.next fits.next
      ∙ ap (λ (h : Geometry). Some (ReadEvent (first_page g (h.blocks - (search.next + 1))))) (sym fits.sizes)

  -- a scan reads the next block
  pub scanning-event : (scan : Scan) → ScanFits g scan → first_event (step_left g table (Scanning scan)) ≡ Some (ReadEvent (first_page g scan.next))
  scanning-event scan fits = scan-event g (after_markers (has_tables g) g (places_in scan.places)) table scan.next fits.next

  pub writing-event : (rewriting : Rewriting) → first_event (step_left g table (IsWriting rewriting)) ≡ next_writing_event g (update_writing rewriting.update table)
  writing-event rewriting = over-event g (update_writing rewriting.update table) (attaching_from rewriting.origin)

  module _ (step : Step) (fits : StepFits g step) where
    event-at : (other : Step) → step ≡ other → first_event (step_left g table step) ≡ first_event (step_left g table other)
    event-at other e = ap (λ s. first_event (step_left g table s)) e

    -- which steps have which events
    pub reads-no-change : (search : Search) → step ≡ Searching search → is_change (first_event (step_left g table step)) ≡ true → ⊥
    reads-no-change search e change =
        let read = event-at (Searching search) e ∙ searching-event search (subst (StepFits g) e fits) in
        let no : false ≡ true = sym (ap is_change read) ∙ change in cc

    pub scans-no-change : (scan : Scan) → step ≡ Scanning scan → is_change (first_event (step_left g table step)) ≡ true → ⊥
    scans-no-change scan e change =
        let read = event-at (Scanning scan) e ∙ scanning-event scan (subst (StepFits g) e fits) in
        let no : false ≡ true = sym (ap is_change read) ∙ change in cc

    pub over-no-change : step ≡ IsOver → is_change (first_event (step_left g table step)) ≡ true → ⊥
    over-no-change e change = let no : false ≡ true = sym (ap is_change (event-at IsOver e)) ∙ change in cc

    pub reads-no-program : (search : Search) → step ≡ Searching search → is_program (first_event (step_left g table step)) ≡ true → ⊥
    reads-no-program search e program =
        let read = event-at (Searching search) e ∙ searching-event search (subst (StepFits g) e fits) in
        let no : false ≡ true = sym (ap is_program read) ∙ program in cc

    pub scans-no-program : (scan : Scan) → step ≡ Scanning scan → is_program (first_event (step_left g table step)) ≡ true → ⊥
    scans-no-program scan e program =
        let read = event-at (Scanning scan) e ∙ scanning-event scan (subst (StepFits g) e fits) in
        let no : false ≡ true = sym (ap is_program read) ∙ program in cc

    pub over-no-program : step ≡ IsOver → is_program (first_event (step_left g table step)) ≡ true → ⊥
    over-no-program e program = let no : false ≡ true = sym (ap is_program (event-at IsOver e)) ∙ program in cc

    pub writes-no-read : (rewriting : Rewriting) → step ≡ IsWriting rewriting → is_read (first_event (step_left g table step)) ≡ true → ⊥
    writes-no-read rewriting e read =
        let no : false ≡ true = sym (over-no-read g (update_writing rewriting.update table) (attaching_from rewriting.origin))
        ∙ sym (ap is_read (event-at (IsWriting rewriting) e)) ∙ read in cc

    pub over-no-read-left : step ≡ IsOver → is_read (first_event (step_left g table step)) ≡ true → ⊥
    over-no-read-left e read = let no : false ≡ true = sym (ap is_read (event-at IsOver e)) ∙ read in cc

    pub search-goes-on : (search : Search) → step ≡ Searching search → first_event (step_left g table step) ≡ None → ⊥
    search-goes-on search e none =
        let no : Some (ReadEvent (first_page g (search.geometry.blocks - (search.next + 1)))) ≡ None =
        sym (event-at (Searching search) e ∙ searching-event search (subst (StepFits g) e fits)) ∙ none in cc

    pub scan-goes-on : (scan : Scan) → step ≡ Scanning scan → first_event (step_left g table step) ≡ None → ⊥
    scan-goes-on scan e none =
        let no : Some (ReadEvent (first_page g scan.next)) ≡ None =
        sym (event-at (Scanning scan) e ∙ scanning-event scan (subst (StepFits g) e fits)) ∙ none in cc

  -- a writing in which no event is left is over
  pub writing-ends : (rewriting : Rewriting) → first_event (step_left g table (IsWriting rewriting)) ≡ None
      → step_left g table (IsWriting rewriting) ≡ Over (attaching_from rewriting.origin (update_writing rewriting.update table))
  writing-ends rewriting none = over-result g (update_writing rewriting.update table) (attaching_from rewriting.origin) none

-- copies are written again
pub writes-again : (g : Geometry) (states table : List ℕ) (places : Places) (choice : Choice) (version : ℕ) (w : Writing) (origin : Origin)
    → table ≡ with_reserved g states → origin ≡ origin_of choice → w ≡ writing_of table version places (whole_at_first choice) (rewritten choice)
    → writing_path g w (λ end. Over (attaching_from origin end)) ≡ rewrite_copies g places choice version states
writes-again g states table places choice version w origin t o e =
    ap (λ v. writing_path g v (λ end. Over (attaching_from origin end))) e
    ∙ (λ i. writing_path g (writing_of (t i) version places (whole_at_first choice) (rewritten choice)) (λ end. Over (attaching_from (o i) end)))
