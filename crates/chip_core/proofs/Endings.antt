-- How operations of a chip end: refused at once, or within fourteen events.
use Rattle.std.proofs.Common.{◌≡◌, ℕ, zero, suc, ◌-◌, ◌/◌, ◌<◌, Bool, true, false, List, [], ◌∷◌, Option, Some, None, refl, ap, sym, subst, ◌∙◌, arith}
use Rattle.std.specs.Prelude.{slice_index, is_some, ◌==◌, ◌&&◌, ◌||◌, not, nat_le}
use Rattle.std.proofs.lemmas.Bool.{false≢true, true≢false}
use Rattle.chip_paths.specs.Operation.{Finished, Known, after_marker_alone, after_read, after_writing, answer, bad_count, chip_block, chip_page, done_or, entry_of, has_block, has_page, is_good_block, mark_path, mark_reply, mark_writing, only_if, operation_by, operation_in, operation_path, raw_reply, with_mark, write_tables, writing_reply}
use Rattle.chip_paths.specs.Writing.{Writing, after_event, after_good, event_once, writing_after, writing_step, writing_within, written_by}
use Rattle.command_model.specs.Command.{is_done}
use Rattle.nand_model.specs.Chip.{EraseEvent, PageEvent, ProgramEvent, ReadEvent}
use Rattle.nand_model.specs.Partitions.{Partitions, device_of, part_of}
use Rattle.nand_model.specs.Page.{decoded, page_image}
use Rattle.nand_model.specs.Path.{Answer, Data, Failed, Good, Path, Over, Then, cells_of, either, is_failure, is_good}
use Rattle.nand_model.specs.Table.{has_tables}
use Rattle.nand_model.specs.declared.geometry.Geometry.{Geometry}
use Rattle.nand_model.specs.declared.words.Op.{Op}
use Rattle.nand_model.specs.declared.words.Op.TheVariants.{Read, Write, RawRead, RawWrite, Erase, IsBad, Mark, Stats}
use Rattle.nand_model.specs.declared.words.Part.{Part}
use Rattle.nand_model.specs.declared.words.Reply.{Reply}
use Rattle.nand_model.specs.declared.words.Reply.TheVariants.{Counts, Done, OutOfRange, BadBlock, MarkerByte, ProgramFailed, EraseFailed, MarkerFailed, TableFailed, Reserved, Copies, State}
use Rattle.nand_model.specs.declared.words.Which.{Which}
use Rattle.chip_core.specs.Task.{erased_from, program_from, raw_read_from, read_from}
use Rattle.chip_core.specs.Whole.{changes_known, is_fault, is_refusal, refusal_in, refusal_of, refused_unless}

-- an operation ended with this reply, and nothing else known than before
abbrev pub ended : Known → Reply → Finished
ended k reply = record { reply = reply; known = k }

-- an answer that a chip may give to an event
abbrev pub may_answer : PageEvent → Answer → Bool
may_answer (ReadEvent page) a = true
may_answer (ProgramEvent page image) a = is_good a || is_failure a
may_answer (EraseEvent block) a = is_good a || is_failure a

module _ (g : Geometry) (k : Known) (op : Op) where
  -- an operation that was taken ends well: with no refusal, with a fault only where an event failed,
  -- and with other knowledge only where it changes that
  pub record EndsWell (failed : Bool) (end : Finished) : Type 0 where
    pub taken : is_refusal end.reply ≡ false
    pub fault : is_fault end.reply ≡ true → failed ≡ true
    pub kept : changes_known g op end.reply ≡ false → end.known ≡ k

  -- whatever a chip answers, it does so within this many events
  abbrev pub EndsWithin : ℕ → Bool → Path Finished → Type 0
  EndsWithin n failed (Over end) = EndsWell failed end
  EndsWithin n failed (Then e rest) = (0 < n) × ((a : Answer) → may_answer e a ≡ true → EndsWithin (n - 1) (failed || is_failure a) (rest a))

  -- a path of an operation that has this refusal, or none
  abbrev pub IsLawful : ℕ → Option Reply → Path Finished → Type 0
  IsLawful n None path = EndsWithin n false path
  IsLawful n (Some refusal) path = (path ≡ Over (ended k refusal)) × (is_fault refusal ≡ false)

  only_if-lawful : (b : Bool) (refusal : Reply) (later : Option Reply) (go_on : Unit {0} → Path Finished) → is_fault refusal ≡ false
      → IsLawful 14 later (go_on tt) → IsLawful 14 (refused_unless b refusal later) (only_if b k refusal go_on)
  only_if-lawful true refusal later go_on no_fault rest = rest
  only_if-lawful false refusal later go_on no_fault rest = (refl, no_fault)

  -- an operation without events, and one of one event
  at_once-lawful : (reply : Reply) → is_refusal reply ≡ false → is_fault reply ≡ false → IsLawful 14 None (answer k reply)
  at_once-lawful reply taken no_fault = record { taken = taken; fault = λ fault. absurd (false≢true (sym no_fault ∙ fault)); kept = λ none. refl }

  after_one-lawful : (e : PageEvent) (end : Answer → Finished) → ((a : Answer) → EndsWell (is_failure a) (end a))
      → IsLawful 14 None (Then e (λ a. Over (end a)))
  after_one-lawful e end well = (omega arith, λ a may. well a)

  done_or-ends : (failure : Reply) → is_refusal failure ≡ false → (a : Answer) → EndsWell (is_failure a) (ended k (done_or failure a))
  done_or-ends failure taken Failed = record { taken = taken; fault = λ fault. refl; kept = λ none. refl }
  done_or-ends failure taken Good = record { taken = refl; fault = λ fault. absurd (false≢true fault); kept = λ none. refl }
  done_or-ends failure taken (Data cells) = record { taken = refl; fault = λ fault. absurd (false≢true fault); kept = λ none. refl }

  program-lawful : (image : List ℕ) (page : ℕ) → IsLawful 14 None (program_from k image page)
  program-lawful image page =
      after_one-lawful (ProgramEvent page image) (λ outcome. ended k (done_or ProgramFailed outcome)) (done_or-ends ProgramFailed refl)

  erase-lawful : (block : ℕ) → IsLawful 14 None (erased_from k block)
  erase-lawful block = after_one-lawful (EraseEvent block) (λ outcome. ended k (done_or EraseFailed outcome)) (done_or-ends EraseFailed refl)

module _ (g : Geometry) (k : Known) (dev : ℕ) where
  read-lawful : (page at : ℕ) → IsLawful g k (Read dev page) 14 None (read_from g k dev at)
  read-lawful page at =
      after_one-lawful g k (Read dev page) (ReadEvent at) (λ seen. after_read g k dev (decoded g (cells_of seen)))
      (λ a. record { taken = refl; fault = λ fault. absurd (false≢true fault); kept = λ none. absurd (true≢false none) })

  raw_read-lawful : (page at : ℕ) → IsLawful g k (RawRead dev page) 14 None (raw_read_from k at)
  raw_read-lawful page at =
      after_one-lawful g k (RawRead dev page) (ReadEvent at) (λ seen. ended k (raw_reply (cells_of seen)))
      (λ a. record { taken = refl; fault = λ fault. absurd (false≢true fault); kept = λ none. refl })

  or-true : (failed : Bool) → (failed || true) ≡ true
  or-true true = refl
  or-true false = refl

  or-left : (failed more : Bool) → failed ≡ true → (failed || more) ≡ true
  or-left true more is = refl
  or-left false more is = cc

  module _ (block : ℕ) where
    -- without tables the marker of a mark is its last event
    marker-ends : (at : ℕ) (failed : Bool) (marker : Answer)
        → EndsWithin g k (Mark dev block) 12 (failed || is_failure marker) (after_marker_alone g k at marker)
    marker-ends at failed Failed = record { taken = refl; fault = λ fault. or-true failed; kept = λ none. refl }
    marker-ends at failed Good = record { taken = refl; fault = λ fault. absurd (false≢true fault); kept = λ none. absurd (true≢false none) }
    marker-ends at failed (Data cells) = record { taken = refl; fault = λ fault. absurd (false≢true fault); kept = λ none. absurd (true≢false none) }

    module _ (tables : has_tables g ≡ true) (later : Known) (marker : Answer) where
      abbrev end_of : Writing → Finished
      end_of w = record { reply = mark_reply marker (writing_reply w.failed); known = after_writing later w }

      changed : (reply : Reply) → is_fault reply ≡ true → (is_done reply || (has_tables g && is_fault reply)) ≡ true
      changed reply fault = rw (tables, fault) (or-true (is_done reply))

      -- with them a writing ends well where it has told of its failures
      ends-well : (w : Writing) (failed : Bool) → (is_failure marker ≡ true → failed ≡ true) → (is_some w.failed ≡ true → failed ≡ true)
          → EndsWell g k (Mark dev block) failed (end_of w)
      ends-well w failed by_marker by_table = on marker refl w.failed refl
        where
          on : (m : Answer) → marker ≡ m → (o : Option Which) → w.failed ≡ o
              → EndsWell g k (Mark dev block) failed (record { reply = mark_reply m (writing_reply o); known = after_writing later w })
          on Failed m o t = record {
            taken = refl;
            fault = λ fault. by_marker (ap is_failure m);
            kept = λ none. absurd (false≢true (sym none ∙ changed MarkerFailed refl));
          }
          on Good m None t = record { taken = refl; fault = λ fault. absurd (false≢true fault); kept = λ none. absurd (true≢false none) }
          on (Data cells) m None t = record { taken = refl; fault = λ fault. absurd (false≢true fault); kept = λ none. absurd (true≢false none) }
          on Good m (Some which) t = record {
            taken = refl;
            fault = λ fault. by_table (ap is_some t);
            kept = λ none. absurd (false≢true (sym none ∙ changed (TableFailed which) refl));
          }
          on (Data cells) m (Some which) t = record {
            taken = refl;
            fault = λ fault. by_table (ap is_some t);
            kept = λ none. absurd (false≢true (sym none ∙ changed (TableFailed which) refl));
          }

      bad_is_failure : (a : Answer) → (is_good a || is_failure a) ≡ true → is_good a ≡ false → is_failure a ≡ true
      bad_is_failure Good may bad = absurd (true≢false bad)
      bad_is_failure Failed may bad = refl
      bad_is_failure (Data cells) may bad = may

      once-may : (erased : Bool) (w : Writing) (which : Which) (a : Answer) → may_answer (event_once erased g w which) a ≡ true → (is_good a || is_failure a) ≡ true
      once-may true w which a may = may
      once-may false w which a may = may

      good-keeps : (w : Writing) (which : Which) (more : List Which) (erased : Bool) → (after_good w which more erased).failed ≡ w.failed
      good-keeps w which more true = refl
      good-keeps w which more false = refl

      still-told : (w : Writing) (which : Which) (more : List Which) (failed : Bool) (a : Answer) → (is_good a || is_failure a) ≡ true
          → (is_some w.failed ≡ true → failed ≡ true) → (good : Bool) → is_good a ≡ good
          → is_some (after_event g w which more good).failed ≡ true → (failed || is_failure a) ≡ true
      still-told w which more failed a may by_table true is some =
          or-left failed (is_failure a) (by_table (sym (ap is_some (good-keeps w which more w.erased)) ∙ some))
      still-told w which more failed a may by_table false is some = ap (λ b. failed || b) (bad_is_failure a may is) ∙ or-true failed

      writing-ends : (n : ℕ) (w : Writing) (failed : Bool) → (is_failure marker ≡ true → failed ≡ true) → (is_some w.failed ≡ true → failed ≡ true)
          → EndsWithin g k (Mark dev block) n failed (writing_within n g w (λ w. Over (end_of w)))
      writing-ends zero w failed by_marker by_table = ends-well w failed by_marker by_table
      writing-ends (suc n) w failed by_marker by_table = on (writing-ends n) w.left refl
        where
          on : ((w : Writing) (failed : Bool) → (is_failure marker ≡ true → failed ≡ true) → (is_some w.failed ≡ true → failed ≡ true)
              → EndsWithin g k (Mark dev block) n failed (writing_within n g w (λ w. Over (end_of w)))) → (left : List Which) → w.left ≡ left
              → EndsWithin g k (Mark dev block) (suc n) failed
              (writing_step g w left (λ u. Over (end_of w)) (λ a. writing_within n g (writing_after g w a) (λ w. Over (end_of w))))
          on rest [] none = ends-well w failed by_marker by_table
          on rest (which ∷ more) left = (
            omega arith,
            λ a may.
                let one_less : n ≡ suc n - 1 = omega arith in
                let after : writing_after g w a ≡ after_event g w which more (is_good a) = ap (λ l. written_by g w l (is_good a)) left in
                let told : is_some (writing_after g w a).failed ≡ true → (failed || is_failure a) ≡ true =
                λ some.
                still-told w which more failed a (once-may w.erased w which a may) by_table (is_good a) refl (sym (ap (λ (v : Writing). is_some v.failed) after) ∙ some) in
                subst (λ m. EndsWithin g k (Mark dev block) m (failed || is_failure a) (writing_within n g (writing_after g w a) (λ w. Over (end_of w)))) one_less
                (rest (writing_after g w a) (failed || is_failure a) (λ m. or-left failed (is_failure a) (by_marker m)) told),
          )

    path-lawful : (at : ℕ) → IsLawful g k (Mark dev block) 14 None (mark_path g k at)
    path-lawful at = (omega arith, λ erased may. (omega arith, λ marker can. on (is_failure erased) marker (has_tables g) refl))
      where
        on : (failed : Bool) (marker : Answer) (tables : Bool) → has_tables g ≡ tables
            → EndsWithin g k (Mark dev block) 12 (failed || is_failure marker)
            (either tables (λ u. write_tables g (with_mark g k at) marker) (λ u. after_marker_alone g k at marker))
        on failed marker true tables =
            writing-ends tables (with_mark g k at) marker 12 (mark_writing (with_mark g k at)) (failed || is_failure marker)
            (λ m. ap (λ b. failed || b) m ∙ or-true failed) (λ none. absurd (false≢true none))
        on failed marker false none = marker-ends at failed marker

    mark-lawful : (part : Part) → IsLawful g k (Mark dev block) 14 (refusal_in g k part (Mark dev block)) (operation_in g k part (Mark dev block))
    mark-lawful part =
        let at = chip_block part block in
        only_if-lawful g k (Mark dev block) (has_block part block) OutOfRange _ _ refl
        (only_if-lawful g k (Mark dev block) (not (entry_of k at == 2)) Reserved _ _ refl
        (only_if-lawful g k (Mark dev block) (not (has_tables g) || nat_le 2 k.copies) (Copies k.copies) None _ refl
        (by_entry (is_good_block k at) at)))
      where
        by_entry : (good : Bool) (at : ℕ) → IsLawful g k (Mark dev block) 14 None (only_if good k Done (λ u. mark_path g k at))
        by_entry true at = path-lawful at
        by_entry false at = record { taken = refl; fault = λ fault. absurd (false≢true fault); kept = λ none. refl }

module _ (g : Geometry) (k : Known) where
  module _ (part : Part) where
    -- what comes where the page is there, and where its block is good
    where_there : (op : Op) (page : ℕ) (later : Option Reply) (path : Path Finished) → IsLawful g k op 14 later path
        → IsLawful g k op 14 (refused_unless (has_page g part page) OutOfRange later) (only_if (has_page g part page) k OutOfRange (λ u. path))
    where_there op page later path lawful = only_if-lawful g k op (has_page g part page) OutOfRange later (λ u. path) refl lawful

    where_good : (op : Op) (block : ℕ) (later : Option Reply) (path : Path Finished) → IsLawful g k op 14 later path
        → IsLawful g k op 14 (refused_unless (is_good_block k block) BadBlock later) (only_if (is_good_block k block) k BadBlock (λ u. path))
    where_good op block later path lawful = only_if-lawful g k op (is_good_block k block) BadBlock later (λ u. path) refl lawful

    operation_in-lawful : (op : Op) → IsLawful g k op 14 (refusal_in g k part op) (operation_in g k part op)
    operation_in-lawful (Read dev page) = where_there (Read dev page) page None _ (read-lawful g k dev page (chip_page g part page))
    operation_in-lawful (RawRead dev page) = where_there (RawRead dev page) page None _ (raw_read-lawful g k dev page (chip_page g part page))
    operation_in-lawful (Write dev page body free) =
        where_there (Write dev page body free) page _ _
        (where_good (Write dev page body free) (chip_block part (page / g.pages_per_block)) None _
        (program-lawful g k (Write dev page body free) (page_image g body free) (chip_page g part page)))
    operation_in-lawful (RawWrite dev page image) =
        let marker = slice_index image g.page == 0xff in
        where_there (RawWrite dev page image) page _ _
        (where_good (RawWrite dev page image) (chip_block part (page / g.pages_per_block)) (refused_unless marker MarkerByte None) _
        (only_if-lawful g k (RawWrite dev page image) marker MarkerByte None (λ u. program_from k image (chip_page g part page)) refl
        (program-lawful g k (RawWrite dev page image) image (chip_page g part page))))
    operation_in-lawful (Erase dev block) =
        only_if-lawful g k (Erase dev block) (has_block part block) OutOfRange _
        (λ u. only_if (is_good_block k (chip_block part block)) k BadBlock (λ u. erased_from k (chip_block part block))) refl
        (where_good (Erase dev block) (chip_block part block) None _ (erase-lawful g k (Erase dev block) (chip_block part block)))
    operation_in-lawful (IsBad dev block) =
        only_if-lawful g k (IsBad dev block) (has_block part block) OutOfRange None (λ u. answer k (State (entry_of k (chip_block part block)))) refl
        (at_once-lawful g k (IsBad dev block) (State (entry_of k (chip_block part block))) refl refl)
    operation_in-lawful (Mark dev block) = mark-lawful g k dev block part
    operation_in-lawful (Stats dev) =
        at_once-lawful g k (Stats dev) (Counts (k.statistics dev).corrected (k.statistics dev).failed (bad_count k.table part)) refl refl

  operation_by-lawful : (found : Option Part) (op : Op) → IsLawful g k op 14 (refusal_of g k found op) (operation_by g k found op)
  operation_by-lawful None op = (refl, refl)
  operation_by-lawful (Some part) op = operation_in-lawful part op

  -- each operation is lawful
  pub is_lawful : (partitions : Partitions) (op : Op)
      → IsLawful g k op 14 (refusal_of g k (part_of partitions (device_of op)) op) (operation_path g partitions k op)
  is_lawful partitions op = operation_by-lawful (part_of partitions (device_of op)) op
