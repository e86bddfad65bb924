-- A mark that has an event is done, or its marker or a table has failed; one without an event
-- leaves what was known.
use Rattle.std.proofs.Common.{◌≡◌, ℕ, zero, suc, Bool, true, false, List, [], ◌∷◌, refl, ap, sym, ◌∙◌, Option, Some, None, subst}
use Rattle.std.specs.Prelude.{not, ◌==◌, ◌||◌, nat_le, if◌then◌else◌}
use Rattle.std.proofs.lemmas.Bool.{false≢true}
use Rattle.std.proofs.lemmas.Option.{none-some, same_Some}
use Rattle.nand_model.specs.Path.{Answer, Path, Over, Then, after_answers, result_of, is_failure, either}
use Rattle.nand_model.specs.Table.{has_tables}
use Rattle.nand_model.specs.Partitions.{Partitions, part_of}
use Rattle.nand_model.specs.declared.geometry.Geometry.{Geometry}
use Rattle.nand_model.specs.declared.words.Part.{Part}
use Rattle.nand_model.specs.declared.words.Which.{Which}
use Rattle.nand_model.specs.declared.words.Op.TheVariants.{Mark}
use Rattle.nand_model.specs.declared.words.Reply.{Reply}
use Rattle.nand_model.specs.declared.words.Reply.TheVariants.{Done, MarkerFailed, TableFailed, Reserved, Copies, OutOfRange}
use Rattle.chip_paths.specs.Writing.{Writing, writing_after, writing_step, writing_within, most_events}
use Rattle.chip_paths.specs.Operation.{Known, Finished, operation_by, operation_path, answer, only_if, is_good_block, chip_block, entry_of, has_block, mark_block, mark_path, mark_reply, mark_writing, writing_reply, after_writing, after_marker_alone, write_tables, with_mark}
use Rattle.run_model.specs.Marking.{begins}
use Rattle.crash_laws.specs.Begun.{HasBegunInTheEnd, SaysWhetherBegun, MarksSayWhetherBegun}

-- every end of a path says that the mark has begun
abbrev AllBegun : Path Finished → Type 0
AllBegun (Over end) = begins (Some end.reply) ≡ true
AllBegun (Then event rest) = (a : Answer) → AllBegun (rest a)

in_the_end : (path : Path Finished) → AllBegun path → HasBegunInTheEnd path
in_the_end (Over end) all [] other e = subst (λ (f : Finished). begins (Some f.reply) ≡ true) (same_Some end other e) all
in_the_end (Over end) all (a ∷ answers) other e = subst (λ (f : Finished). begins (Some f.reply) ≡ true) (same_Some end other e) all
in_the_end (Then event rest) all [] other e = absurd (none-some other e)
in_the_end (Then event rest) all (a ∷ answers) other e = in_the_end (rest a) (all a) answers other e

-- so does every end of a writing, if each of what follows it does
writing_begun : (n : ℕ) (g : Geometry) (w : Writing) (go_on : Writing → Path Finished) → ((v : Writing) → AllBegun (go_on v)) → AllBegun (writing_within n g w go_on)
writing_begun zero g w go_on all = all w
writing_begun (suc n) g w go_on all = by w.left (λ a. writing_begun n g (writing_after g w a) go_on all)
  where
    by : (left : List Which) → ((a : Answer) → AllBegun (writing_within n g (writing_after g w a) go_on))
        → AllBegun (writing_step g w left (λ u. go_on w) (λ a. writing_within n g (writing_after g w a) go_on))
    by [] later = all w
    by (which ∷ more) later = later

reply_begun : (marker : Answer) (failed : Option Which) → begins (Some (mark_reply marker (writing_reply failed))) ≡ true
reply_begun marker failed = by (is_failure marker) failed
  where
    by : (f : Bool) (failed : Option Which) → begins (Some (if f then MarkerFailed else writing_reply failed)) ≡ true
    by true failed = refl
    by false None = refl
    by false (Some which) = refl

tables_begun : (g : Geometry) (k : Known) (marker : Answer) → AllBegun (write_tables g k marker)
tables_begun g k marker =
    writing_begun (most_events (mark_writing k)) g (mark_writing k) (λ w. answer (after_writing k w) (mark_reply marker (writing_reply w.failed)))
    (λ v. reply_begun marker v.failed)

alone_begun : (g : Geometry) (k : Known) (block : ℕ) (marker : Answer) → AllBegun (after_marker_alone g k block marker)
alone_begun g k block marker = by (is_failure marker)
  where
    by : (f : Bool) → AllBegun (either f (λ u. answer k MarkerFailed) (λ u. answer (with_mark g k block) Done))
    by true = refl
    by false = refl

path_begun : (g : Geometry) (k : Known) (block : ℕ) → AllBegun (mark_path g k block)
path_begun g k block erased marker = by (has_tables g)
  where
    by : (t : Bool) → AllBegun (either t (λ u. write_tables g (with_mark g k block) marker) (λ u. after_marker_alone g k block marker))
    by true = tables_begun g (with_mark g k block) marker
    by false = alone_begun g k block marker

module _ (g : Geometry) (partitions : Partitions) (k : Known) (dev block : ℕ) where
  -- a refused mark
  refused : (reply : Reply) → begins (Some reply) ≡ false → SaysWhetherBegun partitions k dev block (answer k reply)
  refused reply e =
      record {
        unchanged = refl;
        done = λ b. absurd (false≢true (sym e ∙ b));
        bad = λ b part here. absurd (false≢true (sym e ∙ b));
      }

  say_in : (part : Part) → part_of partitions dev ≡ Some part → (b : ℕ) → b ≡ chip_block part block → SaysWhetherBegun partitions k dev block (mark_block g k b)
  say_in part here b is = reserved (not (entry_of k b == 2))
    where
      good : (t : Bool) → is_good_block k b ≡ t → SaysWhetherBegun partitions k dev block (only_if t k Done (λ u. mark_path g k b))
      good true e = in_the_end (mark_path g k b) (path_begun g k b)
      good false e =
          record {
            unchanged = refl;
            done = λ x. refl;
            bad = λ x other there. subst (λ p. is_good_block k (chip_block p block) ≡ false) (same_Some part other (sym here ∙ there)) (ap (is_good_block k) (sym is) ∙ e);
          }

      copies : (t : Bool) → SaysWhetherBegun partitions k dev block (only_if t k (Copies k.copies) (λ u. only_if (is_good_block k b) k Done (λ u. mark_path g k b)))
      copies true = good (is_good_block k b) refl
      copies false = refused (Copies k.copies) refl

      reserved : (t : Bool) → SaysWhetherBegun partitions k dev block (only_if t k Reserved (λ u. only_if (not (has_tables g) || nat_le 2 k.copies) k (Copies k.copies) (λ u. only_if (is_good_block k b) k Done (λ u. mark_path g k b))))
      reserved true = copies (not (has_tables g) || nat_le 2 k.copies)
      reserved false = refused Reserved refl

  say : (found : Option Part) → part_of partitions dev ≡ found → SaysWhetherBegun partitions k dev block (operation_by g k found (Mark dev block))
  say None here = refused OutOfRange refl
  say (Some part) here = by (has_block part block)
    where
      by : (t : Bool) → SaysWhetherBegun partitions k dev block (only_if t k OutOfRange (λ u. mark_block g k (chip_block part block)))
      by true = say_in part here (chip_block part block) refl
      by false = refused OutOfRange refl

pub marks_say : MarksSayWhetherBegun
marks_say g partitions k dev block = say g partitions k dev block (part_of partitions dev) refl
