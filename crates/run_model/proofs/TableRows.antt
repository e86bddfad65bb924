-- Worked rows of a chip with tables, computed: a mark cut at the program of the primary, a mark
-- whose mirror fails, the boot after it, and a first attach whose primary fails.
use Rattle.std.specs.Prelude.{None, false, ◌≡◌, ℕ, true, List, [], ◌∷◌, ◌++◌, replicate, Option, Some, refl}
use Rattle.nand_model.specs.Sizes.{small_chip}
use Rattle.code_model.specs.Code.{nearest, nearest_from, found_or, is_code_word, words_at, put_before, parity_of, parity_number, mask_of, masked}
use Rattle.code_model.specs.Binary.{remainder, reduced, bits_fold, bits_fold_of, product, times, power}
use Rattle.code_model.specs.Generator.{generator_of, minimal_of, conjugates, packed}
use Rattle.code_model.specs.Poly.{locator, with_root, with_root_from}
use Rattle.code_model.specs.Bits.{bytes_of, xor_bytes, bits_of, bytes_of_bits}
use Rattle.code_model.specs.Word.{number_from}
use Rattle.nand_model.specs.declared.words.Which.TheVariants.{Mirror as Mirror'}
use Rattle.nand_model.specs.Chip.{SimFaults, sim_faults, new_chip}
use Rattle.command_model.specs.Boot.{Boot}
use Rattle.run_model.specs.Course.{Course, course_after, end_states}
use Rattle.nand_model.specs.declared.tear.Tear.TheVariants.{Nothing}
use Rattle.nand_model.specs.declared.words.CutAt.{CutAt}
use Rattle.nand_model.specs.declared.words.Op.TheVariants.{Mark}
use Rattle.nand_model.specs.declared.words.Origin.TheVariants.{Primary as FromPrimary, Markers}
use Rattle.nand_model.specs.declared.words.Fairness.TheVariants.{Missing}
use Rattle.nand_model.specs.declared.words.Event.TheVariants.{Program, Erase}
use Rattle.nand_model.specs.declared.words.Note.TheVariants.{Began, Answered, Attached, Torn}
use Rattle.nand_model.specs.declared.words.Reply.TheVariants.{Done, TableFailed, Copies}
use Rattle.nand_model.specs.declared.words.WeakKind.TheVariants.{Program as WeakProgram, Erase as WeakErase}
use Rattle.nand_model.specs.declared.words.Command.{Command}
use Rattle.nand_model.specs.declared.words.Command.TheVariants.{MarkBad}

-- a boot of one device on the whole chip
abbrev pub boot_of : List (ℕ × List Command) → Option CutAt → Boot
boot_of sessions cut =
    record { partitions = record { first = 0; parts = record { chip = 0; start = 0; count = 16 } ∷ [] }; sessions = sessions; flips = []; cut = cut }

-- the mark of block 5 is cut at the program of the primary
abbrev pub cut_boot : Course SimFaults
cut_boot =
    course_after sim_faults (boot_of ((0, MarkBad 0 16 5 ∷ []) ∷ []) (Some (record { event = 28; tear = Nothing })))
    (new_chip small_chip [] [] ∷ []) 24 (0 ∷ 0 ∷ 0 ∷ 0 ∷ 0 ∷ [])

pub cut_boot_notes : cut_boot.notes
    ≡ Attached 0 Markers 1 2 true (replicate 12 0 ++ replicate 4 2) ∷ Began 0 (Mark 0 5) ∷ Torn 0 28 (Program 960) true Missing ∷ []
unfolding nearest nearest_from found_or is_code_word words_at put_before remainder reduced bits_fold bits_fold_of generator_of minimal_of conjugates packed locator with_root with_root_from product times power parity_of parity_number mask_of masked bytes_of xor_bytes bits_of number_from bytes_of_bits
cut_boot_notes = refl

-- a mark whose mirror fails: the mirror moves to block 13, under the next version, and the primary
-- is written again
abbrev pub failing_mirror : Course SimFaults
failing_mirror =
    course_after sim_faults (boot_of ((0, MarkBad 0 16 5 ∷ MarkBad 0 16 5 ∷ []) ∷ []) None)
    (new_chip small_chip [] (record { kind = WeakProgram; at = 896; after = 1; tear = Nothing } ∷ []) ∷ []) 24 (0 ∷ 0 ∷ 0 ∷ 0 ∷ 0 ∷ 0 ∷ 0 ∷ 0 ∷ 0 ∷ 0 ∷ 0 ∷ 0 ∷ 0 ∷ 0 ∷ [])

pub failing_mirror_notes : failing_mirror.notes
    ≡ Attached 0 Markers 1 2 true (replicate 12 0 ++ replicate 4 2) ∷ Began 0 (Mark 0 5) ∷ Torn 0 30 (Program 896) false Missing
    ∷ Answered 0 Done ∷ Began 0 (Mark 0 5) ∷ Answered 0 Done ∷ []
unfolding nearest nearest_from found_or is_code_word words_at put_before remainder reduced bits_fold bits_fold_of generator_of minimal_of conjugates packed locator with_root with_root_from product times power parity_of parity_number mask_of masked bytes_of xor_bytes bits_of number_from bytes_of_bits
failing_mirror_notes = refl

-- the boot after it finds both copies, and block 14 is called bad
abbrev pub after_failing_mirror : Course SimFaults
after_failing_mirror = course_after sim_faults (boot_of [] None) (end_states failing_mirror) 4 []

pub after_failing_mirror_notes : after_failing_mirror.notes ≡ Attached 0 FromPrimary 3 2 true (replicate 5 0 ++ 1 ∷ replicate 6 0 ++ 2 ∷ 2 ∷ 3 ∷ 2 ∷ []) ∷ []
unfolding nearest nearest_from found_or is_code_word words_at put_before remainder reduced bits_fold bits_fold_of generator_of minimal_of conjugates packed locator with_root with_root_from product times power parity_of parity_number mask_of masked bytes_of xor_bytes bits_of number_from bytes_of_bits
after_failing_mirror_notes = refl

-- a first attach at which the erase of block 15 fails: the primary moves to block 13
abbrev pub failing_erase : Course SimFaults
failing_erase =
    course_after sim_faults (boot_of [] None) (new_chip small_chip [] (record { kind = WeakErase; at = 15; after = 0; tear = Nothing } ∷ []) ∷ []) 25 []

pub failing_erase_notes : failing_erase.notes ≡ Torn 0 21 (Erase 15) false Missing ∷ Attached 0 Markers 2 2 true (replicate 12 0 ++ 2 ∷ 2 ∷ 2 ∷ 3 ∷ []) ∷ []
unfolding nearest nearest_from found_or is_code_word words_at put_before remainder reduced bits_fold bits_fold_of generator_of minimal_of conjugates packed locator with_root with_root_from product times power parity_of parity_number mask_of masked bytes_of xor_bytes bits_of number_from bytes_of_bits
failing_erase_notes = refl

-- with two factory-bad blocks among the last four no block is left for the mirror
abbrev pub no_block_left : Course SimFaults
no_block_left =
    course_after sim_faults (boot_of ((0, MarkBad 0 16 5 ∷ MarkBad 0 16 5 ∷ []) ∷ []) None)
    (new_chip small_chip (12 ∷ 13 ∷ []) (record { kind = WeakProgram; at = 896; after = 1; tear = Nothing } ∷ []) ∷ []) 24 (0 ∷ 0 ∷ 0 ∷ 0 ∷ 0 ∷ 0 ∷ 0 ∷ 0 ∷ 0 ∷ 0 ∷ [])

pub no_block_left_notes : no_block_left.notes
    ≡ Attached 0 Markers 1 2 true (replicate 12 0 ++ 3 ∷ 3 ∷ 2 ∷ 2 ∷ []) ∷ Began 0 (Mark 0 5) ∷ Torn 0 30 (Program 896) false Missing
    ∷ Answered 0 (TableFailed Mirror') ∷ Began 0 (Mark 0 5) ∷ Answered 0 (Copies 1) ∷ []
unfolding nearest nearest_from found_or is_code_word words_at put_before remainder reduced bits_fold bits_fold_of generator_of minimal_of conjugates packed locator with_root with_root_from product times power parity_of parity_number mask_of masked bytes_of xor_bytes bits_of number_from bytes_of_bits
no_block_left_notes = refl

abbrev pub after_no_block_left : Course SimFaults
after_no_block_left = course_after sim_faults (boot_of [] None) (end_states no_block_left) 6 []

pub after_no_block_left_notes : after_no_block_left.notes
    ≡ Torn 0 6 (Program 896) false Missing ∷ Attached 0 FromPrimary 2 1 true (replicate 5 0 ++ 1 ∷ replicate 6 0 ++ 3 ∷ 3 ∷ 3 ∷ 2 ∷ []) ∷ []
unfolding nearest nearest_from found_or is_code_word words_at put_before remainder reduced bits_fold bits_fold_of generator_of minimal_of conjugates packed locator with_root with_root_from product times power parity_of parity_number mask_of masked bytes_of xor_bytes bits_of number_from bytes_of_bits
after_no_block_left_notes = refl
