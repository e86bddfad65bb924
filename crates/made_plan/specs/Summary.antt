-- The summary of a run of the plan of a number.
use Rattle.std.specs.Prelude.{ℕ, ◌+◌, ◌-◌, ◌^◌, min, List, [], ◌∷◌, ◌++◌, length, flat_map, sum_by, slice_index_or, Option, Some, None, codes, decimal}
use Rattle.command_model.specs.Reads.{corrected_of, failed_of}
use Rattle.report_model.specs.Report.{line}
use Rattle.run_model.specs.Course.{Course}
use Rattle.ctl_core.specs.Ended.{all_bad_blocks}
use Rattle.plan_model.specs.Plan.{PlanData, devices_of}
use Rattle.headline_model.specs.Headline.{Courses, notes_of_run}
use Rattle.plan_grammar.specs.Rules.{last_of}
use Rattle.plan_laws.specs.Ready.{chips_at}
use Rattle.nand_model.specs.Chip.{SimFaults}
use Rattle.nand_model.specs.Partitions.{Partitions}
use Rattle.nand_model.specs.Sizes.{numbers_from}
use Rattle.nand_model.specs.declared.words.Note.{Note}
use Rattle.nand_model.specs.declared.words.Note.TheVariants.{Answered}
use Rattle.nand_model.specs.declared.words.PageRead.{PageRead}
use Rattle.nand_model.specs.declared.words.Reply.{Reply}
use Rattle.nand_model.specs.declared.words.Reply.TheVariants.{Page}
use Rattle.made_plan.specs.declared.summary.Sums.{Sums}

-- the answer of a note
abbrev pub answer_in : Note → List Reply
answer_in (Answered session reply) = reply ∷ []
answer_in _ = []

-- the answers to the operations of a run
abbrev pub answers_in : List Note → List Reply
answers_in notes = flat_map answer_in notes

-- the page of an answer
abbrev pub page_in : Reply → List PageRead
page_in (Page kind read image) = read ∷ []
page_in _ = []

-- the pages that were read
abbrev pub pages_in : List Note → List PageRead
pages_in notes = flat_map page_in (answers_in notes)

-- a number, or the greatest one of 64 bits
abbrev pub capped : ℕ → ℕ
capped n = min n (2 ^ 64 - 1)

-- the answers, the pages among them, and the sums of their corrected bits and failed steps
abbrev pub sums_of : List Note → Sums
sums_of notes =
    record {
      operations = capped (length (answers_in notes));
      pages_read = capped (length (pages_in notes));
      corrected = capped (sum_by corrected_of (pages_in notes));
      failed = capped (sum_by failed_of (pages_in notes));
    }

-- the line of a number
abbrev pub number_line : List ℕ → ℕ → List ℕ
number_line title n = line (title ++ decimal n)

-- the summary of the plan of N, with its sums, and the bad blocks in the tables of all chips at its end
abbrev pub summary_text : ℕ → Sums → ℕ → List ℕ
summary_text n sums bad_blocks =
    number_line (codes "make ") n ++ number_line (codes "operations ") sums.operations
    ++ number_line (codes "pages read ") sums.pages_read
    ++ number_line (codes "corrected ") sums.corrected
    ++ number_line (codes "failed ") sums.failed
    ++ number_line (codes "bad blocks ") bad_blocks

-- the notes of a run: those of each boot, and in it those of each controller
abbrev pub all_notes : PlanData → Courses → List Note
all_notes plan courses = flat_map (flat_map (λ (notes : List Note). notes)) (notes_of_run plan courses)

-- the bad blocks in the tables of a controller's chips, as its last course leaves them
abbrev pub bad_after : Partitions → Option (Course SimFaults) → ℕ
bad_after partitions None = 0
bad_after partitions (Some course) = all_bad_blocks partitions course

-- the bad blocks of the controller of a number
abbrev pub bad_of_controller : PlanData → Courses → ℕ → ℕ
bad_of_controller plan courses c = bad_after (devices_of plan c (chips_at plan c)) (last_of (slice_index_or courses c []))

-- those of all controllers at the end of the last boot
abbrev pub bad_at_end : PlanData → Courses → ℕ
bad_at_end plan courses = sum_by (bad_of_controller plan courses) (numbers_from 0 (length plan.controllers))

-- the summary of a run of the plan of N
abbrev pub summary_of_run : ℕ → PlanData → Courses → List ℕ
summary_of_run n plan courses = summary_text n (sums_of (all_notes plan courses)) (bad_at_end plan courses)
