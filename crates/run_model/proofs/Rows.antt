-- Worked rows of commands, chips and courses, computed.
use Rattle.std.specs.Prelude.{◌++◌, ◌≡◌, true, false, [], ◌∷◌, replicate, take, None, refl}
use Rattle.nand_model.specs.Sizes.{small_chip, small_chip_without_tables}
use Rattle.nand_model.specs.Chip.{SimFaults, Complete, PowerCut, ProgramEvent, EraseEvent, sim_faults, new_chip, after_trace, done_bits}
use Rattle.command_model.specs.Command.{Do, Over, next_step}
use Rattle.command_model.specs.Boot.{Boot}
use Rattle.run_model.specs.Course.{Course, course_after, is_over}
use Rattle.nand_model.specs.declared.tear.Tear.TheVariants.{Seed, Spans}
use Rattle.nand_model.specs.declared.words.WeakKind.TheVariants.{Program as WeakProgram}
use Rattle.nand_model.specs.declared.words.Op.TheVariants.{IsBad, Erase, Mark, Write, Read}
use Rattle.nand_model.specs.declared.words.Reply.TheVariants.{Done, State, MarkerFailed, ProgramFailed}
use Rattle.nand_model.specs.declared.words.Origin.TheVariants.{Markers}
use Rattle.nand_model.specs.declared.words.Fairness.TheVariants.{Plain}
use Rattle.nand_model.specs.declared.words.Event.TheVariants.{Program as ProgramOf}
use Rattle.nand_model.specs.declared.words.Note.TheVariants.{Began, Answered, Attached, Torn}
use Rattle.nand_model.specs.declared.words.Command.TheVariants.{FlashErase, NandWrite, NandDump, IsBad as AskBad, MarkBad}
use Rattle.nand_model.specs.declared.words.BadMode.TheVariants.{DumpBad}
use Rattle.nand_model.specs.declared.words.Ending.TheVariants.{Whole as Whole', NoSpace}
use Rattle.nand_model.specs.declared.words.Outcome.TheVariants.{FlashErase as Erased, NandWrite as Written}

-- a program of zeros into the first two bytes, of which spans tear the second
pub torn_two : take 3 ((after_trace sim_faults (new_chip small_chip_without_tables [] [])
    (PowerCut (ProgramEvent 3 (replicate 2112 0)) (done_bits 2112 (Spans ((1, 2) ∷ []))) ∷ [])).pages 3).cells
    ≡ 0xff ∷ 0 ∷ 0xff ∷ []
torn_two = refl

-- the seed bytes of a tear
pub torn_seed : take 3 ((after_trace sim_faults (new_chip small_chip_without_tables [] [])
    (Complete (ProgramEvent 0 (replicate 2112 0)) ∷ PowerCut (EraseEvent 0) (done_bits 2112 (Seed 0)) ∷ [])).pages 0).cells
    ≡ 0xaf ∷ 0xf4 ∷ 0x4f ∷ []
torn_seed = refl

-- flash_erase of two blocks, of which the first is bad
pub erase_two : next_step small_chip (FlashErase 0 16 false 0 2) (State 3 ∷ State 0 ∷ Done ∷ []) ≡ Over (Erased 1 1 0)
erase_two = refl

pub erase_next : next_step small_chip (FlashErase 0 16 false 0 2) (State 3 ∷ State 0 ∷ []) ≡ Do (Erase 0 1)
erase_next = refl

-- two sessions on one chip without tables
abbrev pub two_sessions : Boot
two_sessions =
    record {
      partitions = record { first = 0; parts = record { chip = 0; start = 0; count = 16 } ∷ [] };
      sessions = (0, AskBad 0 16 0 ∷ []) ∷ (1, AskBad 0 16 1 ∷ []) ∷ [];
      flips = [];
      cut = None;
    }

abbrev pub two_sessions_course : Course SimFaults
two_sessions_course = course_after sim_faults two_sessions (new_chip small_chip_without_tables [] [] ∷ []) 16 (0 ∷ 1 ∷ 1 ∷ 1 ∷ 0 ∷ 1 ∷ 1 ∷ [])

pub two_sessions_notes : two_sessions_course.notes
    ≡ Attached 0 Markers 0 0 true (replicate 16 0) ∷ Began 0 (IsBad 0 0) ∷ Answered 0 (State 0) ∷ Began 1 (IsBad 0 1) ∷ Answered 1 (State 0) ∷ []
two_sessions_notes = refl

pub two_sessions_over : is_over two_sessions_course ≡ true
two_sessions_over = refl

-- a mark whose marker fails, on a chip without tables
abbrev pub failing_marker : Course SimFaults
failing_marker =
    course_after sim_faults
    (record { partitions = record { first = 0; parts = record { chip = 0; start = 0; count = 16 } ∷ [] }; sessions = (0, MarkBad 0 16 5 ∷ AskBad 0 16 5 ∷ []) ∷ []; flips = []; cut = None })
    (new_chip small_chip_without_tables [] (record { kind = WeakProgram; at = 320; after = 0; tear = Spans [] } ∷ []) ∷ []) 16 (0 ∷ 0 ∷ 0 ∷ 0 ∷ 0 ∷ 0 ∷ [])

pub failing_marker_notes : failing_marker.notes
    ≡ Attached 0 Markers 0 0 true (replicate 16 0) ∷ Began 0 (Mark 0 5) ∷ Torn 0 18 (ProgramOf 320) false Plain ∷ Answered 0 MarkerFailed ∷ Began 0 (IsBad 0 5) ∷ Answered 0 (State 0) ∷ []
failing_marker_notes = refl

-- nandwrite with marking, whose second write fails: both units are written again in the next block
pub write_again : next_step small_chip (NandWrite 0 16 true false false false 0 (replicate 4096 0xff))
    (State 0 ∷ Done ∷ ProgramFailed ∷ Done ∷ Done ∷ State 0 ∷ Done ∷ Done ∷ []) ≡ Over (Written 2 0 1 Whole')
write_again = refl

pub write_again_next : next_step small_chip (NandWrite 0 16 true false false false 0 (replicate 4096 0xff))
    (State 0 ∷ Done ∷ ProgramFailed ∷ Done ∷ Done ∷ State 0 ∷ []) ≡ Do (Write 0 64 (replicate 2048 0xff) (replicate 34 0xff))
write_again_next = refl

-- nandwrite at a reserved last block
pub write_no_space : next_step small_chip (NandWrite 0 16 false false false false 1966080 (replicate 2048 0xff)) (State 2 ∷ []) ≡ Over (Written 0 1 0 NoSpace)
write_no_space = refl

-- nanddump of one page of a block that is not asked for
pub dump_one : next_step small_chip (NandDump 0 16 262144 2048 false false DumpBad) [] ≡ Do (Read 0 128)
dump_one = refl

-- a flip in a marker byte before the attach: the block is shown bad, and the attach is not quiet
abbrev pub flipped_marker : Course SimFaults
flipped_marker =
    course_after sim_faults
    (record { partitions = record { first = 0; parts = record { chip = 0; start = 0; count = 16 } ∷ [] }; sessions = []; flips = record { chip = 0; page = 256; before = 1; bits = 16384 ∷ [] } ∷ []; cut = None })
    (new_chip small_chip_without_tables [] [] ∷ []) 16 []

pub flipped_marker_notes : flipped_marker.notes ≡ Attached 0 Markers 0 0 false (replicate 4 0 ++ 3 ∷ replicate 11 0) ∷ []
flipped_marker_notes = refl
