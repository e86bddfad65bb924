-- The copies of a chip of a run: while it is attached both places hold the table, unless a writing
-- has failed, and the next boot finds both.
use Rattle.std.proofs.Common.{◌≡◌, ◌⊎◌, inl, inr, ◌&&◌, ℕ, Bool, true, false, List, [], ◌∷◌, ◌++◌, Option, Some, None, refl, ap, sym, ◌∙◌, subst, append-nil, arith}
use Rattle.std.specs.Prelude.{if◌then◌else◌, map, option_map, slice_get}
use Rattle.std.specs.List.{list_all}
use Rattle.std.proofs.lemmas.Bool.{and_parts, eq-eqb, false≢true}
use Rattle.std.proofs.lemmas.Option.{slice_get-map}
use Rattle.std.proofs.lemmas.List.Folds.{list_all-append}
use Rattle.nand_model.specs.Chip.{ChipState, FaultModel, SimFaults, after_trace, new_chip, sim_faults}
use Rattle.nand_model.specs.Partitions.{Partitions}
use Rattle.nand_model.specs.Table.{has_tables}
use Rattle.nand_model.specs.declared.geometry.Geometry.{Geometry}
use Rattle.nand_model.specs.declared.words.Note.{Note}
use Rattle.nand_model.specs.declared.words.Note.TheVariants.{Attached}
use Rattle.nand_model.specs.declared.words.Origin.{Origin}
use Rattle.nand_model.specs.declared.words.Weak.{Weak}
use Rattle.chip_paths.specs.Attach.{Attaching}
use Rattle.chip_paths.specs.ChipRun.{ChipRun, attach_note, known_at_first}
use Rattle.chip_paths.specs.Operation.{Known}
use Rattle.command_model.specs.Boot.{Boot}
use Rattle.run_model.specs.Course.{Course, course_after, end_states}
use Rattle.run_model.specs.History.{ChipBoot, GoesOn, IsChipHistory, attach_outcome, events_in, notes_of_chip, notes_of_chip_from, notes_of_trace, was_quiet}
use Rattle.run_model.specs.Run.{HasTableBlocks, HoldsTheTable, IsFairAndQuiet, IsFairAndQuietNow, is_fair, quiet_at}
use Rattle.run_laws.proofs.ChipNotes.{chip_notes-append, lasts}
use Rattle.run_laws.proofs.Faithful.{course_holds}
use Rattle.page_laws.specs.Keeping.{IsIn}
use Rattle.relocation_laws.specs.Tables.{Shows}
use Rattle.relocation_laws.proofs.Lives.{lives-fewer}
use Rattle.crash_laws.specs.Marked.{WritesFill}
use Rattle.crash_laws.specs.Theorem.{IsNextBoot, IsRunOfNewChip, ends_of}
use Rattle.crash_laws.proofs.Boots.{Acked, Begun, BootOf, LivesAfter, boot_at, lives_after}
use Rattle.crash_laws.proofs.ChipMoves.{AliveOn, AnyBlock, MemoryOn, Once, Stands as StandsBy}
use Rattle.crash_laws.proofs.Copies.{Moment, Tables, moment, tables_of, whole_copies_hold}
use Rattle.crash_laws.proofs.Histories.{NoAttach, has_attach, ops_none, parted, trace_none}
use Rattle.crash_laws.proofs.Tabled.{with_tables}
use Rattle.copy_laws.specs.Copies.{AttachesFindTwo, ComesToTwo, HasFailedForACopy, WritingsEndWhole}
use Rattle.copy_laws.proofs.Finding.{attach_finds, found_both}
use Rattle.copy_laws.proofs.Moments.{too_few_follow}

-- ---- the note of an attach
-- the note of a chip's attach is that of its outcome
pub record Noted {W : Type 0} (model : FaultModel W) (k : ℕ) (s : ChipState W) (b : ChipBoot) (note : Note) : Type 0 where
  pub attaching : Attaching
  pub outcome_is : attach_outcome model s (events_in b.attach) ≡ Some attaching
  pub note_is : note ≡ attach_note k (was_quiet model s (events_in b.attach)) attaching

noted : {W : Type 0} (model : FaultModel W) (partitions : Partitions) (k : ℕ) (s : ChipState W) (b : ChipBoot) (notes : List Note) → IsChipHistory model partitions k s b.attach b.operations notes
    → (origin : Origin) (version copies : ℕ) (quiet : Bool) (states : List ℕ) (before after : List Note) → notes ≡ before ++ Attached k origin version copies quiet states ∷ after
    → Noted model k s b (Attached k origin version copies quiet states)
noted {W} model partitions k s b notes h origin version copies quiet states before after e = on (attach_outcome model s (events_in b.attach)) refl h.goes_on
  where
    none_before : NoAttach (notes_of_trace model k s b.attach)
    none_before = subst NoAttach (append-nil (notes_of_trace model k s b.attach)) (trace_none model partitions k s b.attach [] tt)

    on : (o : Option Attaching) → attach_outcome model s (events_in b.attach) ≡ o → GoesOn model o partitions k s (events_in b.attach) b.operations h.later
        → Noted model k s b (Attached k origin version copies quiet states)
    on None is g0 =
        absurd (has_attach before after (Attached k origin version copies quiet states) refl
        (subst NoAttach (sym (append-nil (notes_of_trace model k s b.attach)) ∙ ap (λ xs. notes_of_trace model k s b.attach ++ xs) (sym g0.0) ∙ sym h.notes_are ∙ e) none_before))
    on (Some a) is (rest, are, all) =
        let p = parted before after (notes_of_trace model k s b.attach) rest (Attached k origin version copies quiet states) (attach_note k (was_quiet model s (events_in b.attach)) a) refl refl none_before
        (ops_none model partitions k (after_trace model s (events_in b.attach)) (known_at_first a) b.operations rest all)
        (sym e ∙ h.notes_are ∙ ap (λ xs. notes_of_trace model k s b.attach ++ xs) are) in
        record { attaching = a; outcome_is = is; note_is = p.1 }

-- what two notes of attaches share
origin_same : (k : ℕ) (o1 o2 : Origin) (v1 v2 c1 c2 : ℕ) (q1 q2 : Bool) (s1 s2 : List ℕ) → Attached k o1 v1 c1 q1 s1 ≡ Attached k o2 v2 c2 q2 s2
    → (o1 ≡ o2) × (v1 ≡ v2) × (c1 ≡ c2) × (q1 ≡ q2) × (s1 ≡ s2)
origin_same k o1 o2 v1 v2 c1 c2 q1 q2 s1 s2 e = ((cc), (cc), (cc), (cc), (cc))

-- ---- runs
module _ (partitions : Partitions) (news : List (ChipState SimFaults)) (boots : List Boot) (turns : List (List ℕ)) (past : List (Course SimFaults)) (boot : Boot) (k : ℕ) (g : Geometry) (bad : List ℕ) (weak : List Weak)
    (run : IsRunOfNewChip partitions news boots turns past k g bad weak) (next : IsNextBoot partitions k g boot (ends_of news past)) (tables : has_tables g ≡ true) (few : HasTableBlocks g bad) where
  t : Tables g bad weak
  t = tables_of g bad weak tables few

  -- how the chip stands after the boots that are past
  record AtEnd : Type 0 where
    chip : ChipState SimFaults
    there : slice_get (ends_of news past) k ≡ Some chip
    standing : AliveOn sim_faults g t.c t.enough (IsIn bad) t.factory t.one t.two t.in_one t.in_two t.apart boot.partitions false chip

  abbrev notes_before : List (List Note)
  notes_before = map (λ (z : Course SimFaults). z.notes) past

  at_end : IsFairAndQuiet k past → AtEnd
  unfolding with_tables
  at_end good =
      let l : LivesAfter sim_faults partitions k g (IsIn bad) (with_tables sim_faults g t.c t.enough (IsIn bad) t.factory t.one t.two t.in_one t.in_two t.apart partitions) (ends_of news past) notes_before =
      lives_after sim_faults partitions k g (IsIn bad) (with_tables sim_faults g t.c t.enough (IsIn bad) t.factory t.one t.two t.in_one t.in_two t.apart partitions) past boots turns news [] (new_chip g bad weak) run.one_list run.runs run.new
      (lives-fewer sim_faults g t.c t.enough (IsIn bad) t.factory t.one t.two t.in_one t.in_two t.apart (λ b. ⊥) (λ b. ⊥) (Acked partitions k []) (Begun g partitions k []) (λ b a. false≢true a) (λ b x. absurd x) (new_chip g bad weak) t.alive) run.fills good in
      record {
        chip = l.chip;
        there = l.at;
        standing = lives-fewer sim_faults g t.c t.enough (IsIn bad) t.factory t.one t.two t.in_one t.in_two t.apart (Acked partitions k notes_before) (Begun g partitions k notes_before) (Once g false) AnyBlock (λ b a. absurd (false≢true a.0)) (λ b z. tt) l.chip l.alive;
      }

  fill_here : (attaches : ℕ) (taken : List ℕ) → WritesFill g (notes_of_chip boot.partitions k (course_after sim_faults boot (ends_of news past) attaches taken).notes)
  fill_here attaches taken = subst (λ p. WritesFill g (notes_of_chip p k (course_after sim_faults boot (ends_of news past) attaches taken).notes)) (sym next.one_list) (next.fills attaches taken)

  front_of : (course : Course SimFaults) → IsFairAndQuiet k (past ++ course ∷ []) → IsFairAndQuiet k past
  front_of course h =
      (and_parts (list_all (λ z. is_fair k z.notes && quiet_at k z) past) (list_all (λ z. is_fair k z.notes && quiet_at k z) (course ∷ []))
      (sym (list_all-append (λ z. is_fair k z.notes && quiet_at k z) past (course ∷ [])) ∙ h)).0

  module _ (attaches : ℕ) (taken : List ℕ) (c : ChipRun SimFaults) (known : Known) (h : IsFairAndQuietNow k past (course_after sim_faults boot (ends_of news past) attaches taken) c)
      (is_known : c.known ≡ Some known) (idle : c.pending ≡ None) where
    abbrev course : Course SimFaults
    course = course_after sim_faults boot (ends_of news past) attaches taken

    e : AtEnd
    e = at_end (front_of (course_after sim_faults boot (ends_of news past) attaches taken) h.so_far)

    m : Moment sim_faults g t.c t.enough (IsIn bad) t.factory t.one t.two t.in_one t.in_two t.apart boot k (ends_of news past) past e.chip e.there e.standing fill_here attaches taken c
    m = moment sim_faults g t.c t.enough (IsIn bad) t.factory t.one t.two t.in_one t.in_two t.apart boot k (ends_of news past) past e.chip e.there e.standing fill_here attaches taken c h

    memory : MemoryOn sim_faults g t.c t.enough (IsIn bad) t.factory t.one t.two t.in_one t.in_two t.apart boot.partitions m.used known c.chip
    memory = on course.dark
        (subst (λ o. StandsBy sim_faults g t.c t.enough (IsIn bad) t.factory t.one t.two t.in_one t.in_two t.apart boot.partitions course.dark m.used c.chip c.attach_answers (Some known) o) idle
        (subst (λ o. StandsBy sim_faults g t.c t.enough (IsIn bad) t.factory t.one t.two t.in_one t.in_two t.apart boot.partitions course.dark m.used c.chip c.attach_answers o c.pending) is_known m.stands))
      where
        on : (dark : Bool) → StandsBy sim_faults g t.c t.enough (IsIn bad) t.factory t.one t.two t.in_one t.in_two t.apart boot.partitions dark m.used c.chip c.attach_answers (Some known) None
            → MemoryOn sim_faults g t.c t.enough (IsIn bad) t.factory t.one t.two t.in_one t.in_two t.apart boot.partitions m.used known c.chip
        on true s = s
        on false s = s

    geometry : c.chip.geometry ≡ g
    geometry = memory.holding.geometry

    -- both places hold the table, unless a writing has failed for one of them
    whole : HoldsTheTable c.chip known ⊎ HasFailedForACopy g k known (course_after sim_faults boot (ends_of news past) attaches taken).notes
    whole = on (too_few_follow sim_faults boot (ends_of news past) attaches k taken c known (record { is_chip = h.is_chip; is_known = is_known; tables = ap has_tables geometry ∙ tables }))
      where
        on : (known.copies ≡ 2) ⊎ HasFailedForACopy c.chip.geometry k known (course_after sim_faults boot (ends_of news past) attaches taken).notes
            → HoldsTheTable c.chip known ⊎ HasFailedForACopy g k known (course_after sim_faults boot (ends_of news past) attaches taken).notes
        on (inl two) = inl (whole_copies_hold partitions news boots turns past boot k g bad weak run next tables few attaches taken c known h is_known idle two)
        on (inr failed) = inr (subst (λ q. HasFailedForACopy q k known (course_after sim_faults boot (ends_of news past) attaches taken).notes) geometry failed)

    -- the next boot finds both
    module _ (two : known.copies ≡ 2) (another : Boot) (steps : ℕ) (later : List ℕ) (before after : List Note) (origin : Origin) (version copies : ℕ) (states : List ℕ)
        (has : (course_after sim_faults another (end_states (course_after sim_faults boot (ends_of news past) attaches taken)) steps later).notes ≡ before ++ Attached k origin version copies true states ∷ after) where
      abbrev starts : List (ChipState SimFaults)
      starts = end_states (course_after sim_faults boot (ends_of news past) attaches taken)

      abbrev second : Course SimFaults
      second = course_after sim_faults another starts steps later

      there : slice_get (end_states (course_after sim_faults boot (ends_of news past) attaches taken)) k ≡ Some c.chip
      there =
          slice_get-map (λ (z : ChipRun SimFaults). z.chip) (course_after sim_faults boot (ends_of news past) attaches taken).chips k ∙ ap (option_map (λ (z : ChipRun SimFaults). z.chip)) h.is_chip

      own : BootOf sim_faults another.partitions k c.chip second
      own = boot_at sim_faults another starts second (course_holds sim_faults another starts steps later) k c.chip there

      notes_are : notes_of_chip another.partitions k second.notes
          ≡ notes_of_chip another.partitions k before ++ Attached k origin version copies true states ∷ notes_of_chip_from another.partitions (lasts another.partitions (λ session. None) before) k after
      notes_are = ap (notes_of_chip another.partitions k) has ∙ chip_notes-append another.partitions (λ session. None) k before (Attached k origin version copies true states ∷ after)
          ∙ ap (λ b. notes_of_chip another.partitions k before ++ ((if b then Attached k origin version copies true states ∷ [] else []) ++ notes_of_chip_from another.partitions (lasts another.partitions (λ session. None) before) k after)) (eq-eqb k k refl)

      n : Noted sim_faults k c.chip own.life (Attached k origin version copies true states)
      n = noted sim_faults another.partitions k c.chip own.life (notes_of_chip another.partitions k second.notes) own.history origin version copies true states (notes_of_chip another.partitions k before) _ notes_are

      same : (origin ≡ n.attaching.origin) × (version ≡ n.attaching.version) × (copies ≡ n.attaching.copies) × (true ≡ was_quiet sim_faults c.chip (events_in own.life.attach)) × (states ≡ n.attaching.table)
      same = origin_same k origin n.attaching.origin version n.attaching.version copies n.attaching.copies true (was_quiet sim_faults c.chip (events_in own.life.attach)) states n.attaching.table n.note_is

      finds : n.attaching ≡ found_both known.table known.version known.places
      finds =
          attach_finds sim_faults g t.c t.enough (Shows g (IsIn bad) (Once g m.used) AnyBlock) ((b : ℕ) → Once g m.used b → ⊥) known.table known.version known.places memory.holds (memory.both (omega (arith, two)))
          c.chip (events_in own.life.attach) n.attaching memory.holding own.history.along (sym same.3) n.outcome_is

      found_two : ComesToTwo known origin version copies states
      found_two = record {
        origin_is = same.0 ∙ ap (λ (a : Attaching). a.origin) finds;
        version_is = same.1 ∙ ap (λ (a : Attaching). a.version) finds;
        copies_are = same.2 ∙ ap (λ (a : Attaching). a.copies) finds;
        states_are = same.4 ∙ ap (λ (a : Attaching). a.table) finds;
      }

pub writings_whole : WritingsEndWhole
writings_whole partitions news boots turns past boot k g bad weak run next tables few attaches taken c known h is_known idle =
    whole partitions news boots turns past boot k g bad weak run next tables few attaches taken c known h is_known idle

pub attaches_find : AttachesFindTwo
attaches_find partitions news boots turns past boot another k g bad weak run next tables few attaches taken c known h is_known idle two steps later before after origin version copies states has =
    found_two partitions news boots turns past boot k g bad weak run next tables few attaches taken c known h is_known idle two another steps later before after origin version copies states has
