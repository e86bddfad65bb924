-- A whole attach without tables, block after block.
use Rattle.std.proofs.Common.{◌≡◌, ℕ, ◌+◌, ◌<◌, ◌≤◌, Bool, true, List, [], ◌∷◌, ◌++◌, Option, Some, None, refl, ap, sym, subst, ◌∙◌, arith, zero, suc, false, add-one}
use Rattle.std.specs.Prelude.{◌&&◌, map, IsSome, IfSome}
use Rattle.std.proofs.lemmas.List.{map-append}
use Rattle.nand_model.proofs.Bounds.{bounds}
use Rattle.chip_paths.specs.Attach.{Attaching, marker_table}
use Rattle.nand_model.specs.Chip.{ChipState, Complete, FaultModel, PageEvent, ReadEvent, happens}
use Rattle.nand_model.specs.Path.{Path, Over, Data, answer_to}
use Rattle.nand_model.specs.Quiet.{is_quiet}
use Rattle.nand_model.specs.Sizes.{numbers_from, first_page}
use Rattle.chip_paths.specs.Stage.{Stage, Attaches, Rests, attach_end, attach_stage, first_stage, pending_note_after, path_after, stage_after, stage_event}
use Rattle.bbt_flash.specs.Markers.{marker_state}
use Rattle.bbt_flash.specs.Step.{attached_by_markers}
use Rattle.chip_core.specs.Markers.{known_by_markers, marker_page}
use Rattle.chip_core.specs.Whole.{marker_states}
use Rattle.chip_core.proofs.Numbers.{numbers_from-suc}
use Rattle.chip_core.proofs.Scanning.{attach_path-markers, blocks_from, blocks_from-end, blocks_from-head, markers_left, next_read, no_end_yet, still_attaches}

-- the states of the blocks before this one
abbrev pub states_before : {W : Type 0} → ChipState W → ℕ → List ℕ
states_before s block = marker_table s.geometry (map (marker_page s) (numbers_from 0 block))

-- what is left of the attach from this block on
abbrev pub left_from : {W : Type 0} → ChipState W → ℕ → Path Attaching
left_from s block = markers_left s.geometry (states_before s block) (blocks_from s.geometry block)

-- whether an attach of this chip is quiet before its event of this number
abbrev pub quiet_before : {W : Type 0} → ChipState W → ℕ → Bool
quiet_before s zero = true
quiet_before s (suc events) = is_quiet s.geometry s.pages

-- a chip of which the blocks before this one are read
pub record IsAttachedTo {W : Type 0} (start : ChipState W) (block : ℕ) (now : ChipState W) (stage : Stage) (pending_note : Option (Bool × Attaching)) : Type 0 where
  pub same : now ≡ start
  pub stage_is : stage ≡ attach_stage (left_from start block) (quiet_before start block)
  pub pending_note_is : pending_note ≡ attach_end (left_from start block) (quiet_before start block)

and-self : (a : Bool) → (a && a) ≡ a
and-self true = refl
and-self false = refl

-- one more event
quiet_before-more : {W : Type 0} (s : ChipState W) (events : ℕ) → (quiet_before s events && is_quiet s.geometry s.pages) ≡ quiet_before s (events + 1)
quiet_before-more s zero = refl
quiet_before-more s (suc events) = rw (add-one (suc events)) (and-self (is_quiet s.geometry s.pages))

at_some : {T : Type 0} (x : Option T) (v : T) (P : T → Type 0) → x ≡ Some v → IfSome x P → P v
at_some x v P is h = subst (λ o. IfSome o P) is h

module _ {W : Type 0} (start : ChipState W) where
  one_more_state : (block : ℕ) → states_before start (block + 1) ≡ states_before start block ++ marker_state start.geometry (marker_page start block) ∷ []
  one_more_state block =
      let place : 0 + block ≡ block = omega arith in
      let more : numbers_from 0 (block + 1) ≡ numbers_from 0 block ++ block ∷ [] =
      ap (numbers_from 0) (add-one block) ∙ numbers_from-suc 0 block ∙ ap (λ k. numbers_from 0 block ++ k ∷ []) place in
      ap (λ blocks. marker_table start.geometry (map (marker_page start) blocks)) more ∙ ap (marker_table start.geometry)
      (map-append (marker_page start) (numbers_from 0 block) (block ∷ []))
      ∙ map-append (marker_state start.geometry) (map (marker_page start) (numbers_from 0 block)) (marker_page start block ∷ [])

  -- the first block is there
  first_there : 0 < start.geometry.blocks
  first_there = let low = (bounds start.geometry).blocks_low in omega arith

  pub begins : start.geometry.bbt ≡ 0 → (now : ChipState W) (stage : Stage) (pending_note : Option (Bool × Attaching)) → now ≡ start
      → stage ≡ first_stage start.geometry → pending_note ≡ None
      → IsAttachedTo start 0 now stage pending_note
  begins none now stage pending_note same stage_is pending_note_is = record {
    same = same;
    stage_is = stage_is ∙ ap (λ left. Attaches left true) (attach_path-markers start.geometry none) ∙ sym (still_attaches start.geometry [] 0 first_there true);
    pending_note_is = pending_note_is ∙ sym (no_end_yet start.geometry [] 0 first_there true);
  }

  module _ (block : ℕ) (now : ChipState W) (stage : Stage) (pending_note : Option (Bool × Attaching)) (at : IsAttachedTo start block now stage pending_note) where
    module _ (there : block < start.geometry.blocks) where
      attaches : stage ≡ Attaches (left_from start block) (quiet_before start block)
      attaches = at.stage_is ∙ still_attaches start.geometry (states_before start block) block there (quiet_before start block)

      reads : stage_event stage ≡ Some (ReadEvent (first_page start.geometry block))
      reads = ap stage_event attaches ∙ next_read start.geometry (states_before start block) block there

      pub has_next : IsSome (stage_event stage)
      has_next = subst IsSome (sym reads) refl

      path_goes_on : path_after (Data (marker_page start block)) (left_from start block) ≡ left_from start (block + 1)
      path_goes_on =
          ap (λ blocks. path_after (Data (marker_page start block)) (markers_left start.geometry (states_before start block) blocks))
          (blocks_from-head start.geometry block there)
          ∙ ap (λ states. markers_left start.geometry states (blocks_from start.geometry (block + 1))) (sym (one_more_state block))

      module _ (model : FaultModel W) where
        is_now : is_quiet now.geometry now.pages ≡ is_quiet start.geometry start.pages
        is_now = ap (λ (s : ChipState W). is_quiet s.geometry s.pages) at.same

        saw : answer_to model now (ReadEvent (first_page start.geometry block)) ≡ Data (marker_page start block)
        saw = ap (λ s. answer_to model s (ReadEvent (first_page start.geometry block))) at.same

        -- one more block is read
        pub goes_on : (after : ChipState W) (stage_then : Stage) (pending_note_then : Option (Bool × Attaching))
            → IfSome (stage_event stage) (λ e. after ≡ happens model now (Complete e))
            → IfSome (stage_event stage) (λ e. stage_then ≡ stage_after (is_quiet now.geometry now.pages) (answer_to model now e) stage)
            → IfSome (stage_event stage) (λ e. pending_note_then ≡ pending_note_after (is_quiet now.geometry now.pages) (answer_to model now e) stage pending_note)
            → IsAttachedTo start (block + 1) after stage_then pending_note_then
        goes_on after stage_then pending_note_then state_is stage_is pending_note_is =
            let read : PageEvent = ReadEvent (first_page start.geometry block) in
            let quiet : Bool = is_quiet start.geometry start.pages in
            record {
              same = at_some (stage_event stage) read (λ e. after ≡ happens model now (Complete e)) reads state_is ∙ at.same;
              stage_is =
                  at_some (stage_event stage) read (λ e. stage_then ≡ stage_after (is_quiet now.geometry now.pages) (answer_to model now e) stage) reads
                  stage_is
                  ∙ ap (λ q. stage_after q (answer_to model now read) stage) is_now ∙ ap (λ answer. stage_after quiet answer stage) saw
                  ∙ ap (stage_after quiet (Data (marker_page start block))) attaches
                  ∙ ap (λ left. attach_stage left (quiet_before start block && quiet)) path_goes_on
                  ∙ ap (attach_stage (left_from start (block + 1))) (quiet_before-more start block);
              pending_note_is =
                  at_some (stage_event stage) read (λ e. pending_note_then ≡ pending_note_after (is_quiet now.geometry now.pages) (answer_to model now e) stage pending_note) reads
                  pending_note_is
                  ∙ ap (λ q. pending_note_after q (answer_to model now read) stage pending_note) is_now ∙ ap (λ answer. pending_note_after quiet answer stage pending_note) saw
                  ∙ ap (λ stage. pending_note_after quiet (Data (marker_page start block)) stage pending_note) attaches
                  ∙ ap (λ left. attach_end left (quiet_before start block && quiet)) path_goes_on
                  ∙ ap (attach_end (left_from start (block + 1))) (quiet_before-more start block);
            }

    module _ (last : block ≡ start.geometry.blocks) where
      all_read : left_from start block ≡ Over (attached_by_markers (marker_states start))
      all_read =
          let past : start.geometry.blocks ≤ start.geometry.blocks = omega arith in
          ap (left_from start) last ∙ ap (markers_left start.geometry (marker_states start)) (blocks_from-end start.geometry start.geometry.blocks past)

      pub now_rests : stage ≡ Rests (known_by_markers (marker_states start))
      now_rests = at.stage_is ∙ ap (λ left. attach_stage left (quiet_before start block)) all_read

      -- the attach had an event
      was_quiet : (events : ℕ) → 0 < events → quiet_before start events ≡ is_quiet start.geometry start.pages
      was_quiet zero none = absurd (omega arith)
      was_quiet (suc events) some = refl

      pub now_pending_note : pending_note ≡ Some (is_quiet start.geometry start.pages, attached_by_markers (marker_states start))
      now_pending_note =
          at.pending_note_is ∙ ap (λ left. attach_end left (quiet_before start block)) all_read
          ∙ ap (λ q. Some (q, attached_by_markers (marker_states start))) (was_quiet block (rw last first_there))
