-- An operation keeps two whole copies, or a writing has failed for one of them.
use Rattle.std.proofs.Common.{◌≡◌, inl, ◌||◌, ◌==◌, ◌/◌, not, nat_le, ℕ, Bool, true, false, [], ◌∷◌, Option, Some, None, refl, sym, subst, slice_index}
use Rattle.nand_model.specs.Chip.{PageEvent, EraseEvent, ProgramEvent, ReadEvent}
use Rattle.nand_model.specs.Partitions.{Partitions, device_of, part_of}
use Rattle.nand_model.specs.Path.{Answer, Path, Over, Then, cells_of, either}
use Rattle.nand_model.specs.Page.{decoded, page_image}
use Rattle.nand_model.specs.Table.{has_tables}
use Rattle.nand_model.specs.declared.geometry.Geometry.{Geometry}
use Rattle.nand_model.specs.declared.words.Op.{Op}
use Rattle.nand_model.specs.declared.words.Op.TheVariants.{Read, Write, RawRead, RawWrite, Erase, IsBad, Mark, Stats}
use Rattle.nand_model.specs.declared.words.Part.{Part}
use Rattle.nand_model.specs.declared.words.Reply.{Reply}
use Rattle.nand_model.specs.declared.words.Reply.TheVariants.{BadBlock, Copies, Done, EraseFailed, MarkerByte, OutOfRange, ProgramFailed, Reserved, State}
use Rattle.nand_model.specs.declared.words.Which.{Which}
use Rattle.nand_model.specs.declared.words.Which.TheVariants.{Primary, Mirror}
use Rattle.chip_paths.specs.Operation.{Finished, Known, after_marker_alone, after_read, after_writing, answer, chip_block, chip_page, done_or, entry_of, has_block, has_page, is_good_block, mark_block, mark_path, mark_reply, mark_writing, only_if, operation_by, operation_in, operation_path, raw_reply, with_mark, write_tables, writing_reply}
use Rattle.chip_paths.specs.Writing.{is_whole}
use Rattle.copy_laws.proofs.Attaches.{Told, told_more}
use Rattle.copy_laws.proofs.Sound.{AreAmong, Failing, Sound}
use Rattle.copy_laws.proofs.Writings.{underway_over, underway_start, writing_sound}

module _ (g : Geometry) where
  abbrev pub OpEnds : Finished → Failing → Type 0
  OpEnds f failing = Told g f.known failing

  module _ (tables : has_tables g ≡ true) (known : Known) (failing : Failing) (t : Told g known failing) where
    -- the operation goes on, or ends as it is
    if_sound : (holds : Bool) (refusal : Reply) (go_on : Unit {0} → Path Finished) → Sound g OpEnds (go_on tt) failing → Sound g OpEnds (only_if holds known refusal go_on) failing
    if_sound true refusal go_on h = h
    if_sound false refusal go_on h = t

    tables_sound : (block : ℕ) (marker : Answer) (now : Failing) → AreAmong failing now → Sound g OpEnds (write_tables g (with_mark g known block) marker) now
    tables_sound block marker now among =
        writing_sound g OpEnds (λ w. answer (after_writing (with_mark g known block) w) (mark_reply marker (writing_reply w.failed)))
        (λ w later u over. record { inside = u.inside; apart = u.apart; copies = underway_over g w later u over })
        (mark_writing (with_mark g known block)) now
        (underway_start g (with_mark g known block).table (with_mark g known block).version known.places (record { primary = true; mirror = true }) (Primary ∷ Mirror ∷ []) now t.inside t.apart (λ q. inl (both q)))
      where
        both : (q : Which) → is_whole (record { primary = true; mirror = true }) q ≡ true
        both Primary = refl
        both Mirror = refl

    path_sound : (block : ℕ) → Sound g OpEnds (mark_path g known block) failing
    path_sound block = λ erased now among told. λ marker later more told2.
        subst (λ z. Sound g OpEnds (either z (λ u. write_tables g (with_mark g known block) marker) (λ u. after_marker_alone g known block marker)) later) (sym tables)
        (tables_sound block marker later (λ b e. more b (among b e)))

    mark_sound : (block : ℕ) → Sound g OpEnds (mark_block g known block) failing
    mark_sound block =
        if_sound (not (entry_of known block == 2)) Reserved (λ u.
        only_if (not (has_tables g) || nat_le 2 known.copies) known (Copies known.copies) (λ u.
        only_if (is_good_block known block) known Done (λ u. mark_path g known block)))
        (if_sound (not (has_tables g) || nat_le 2 known.copies) (Copies known.copies) (λ u. only_if (is_good_block known block) known Done (λ u. mark_path g known block))
        (if_sound (is_good_block known block) Done (λ u. mark_path g known block) (path_sound block)))

    abbrev decoded_by : Part → ℕ → ℕ → Answer → Path Finished
    decoded_by part dev page seen = Over (after_read g known dev (decoded g (cells_of seen)))

    abbrev raw_by : Answer → Path Finished
    raw_by seen = answer known (raw_reply (cells_of seen))

    abbrev done_by : Reply → Answer → Path Finished
    done_by failure outcome = answer known (done_or failure outcome)

    once : (event : PageEvent) (rest : Answer → Path Finished) → ((a : Answer) (now : Failing) → AreAmong failing now → Sound g OpEnds (rest a) now) → Sound g OpEnds (Then event rest) failing
    once event rest h = λ a now among told. h a now among

    same : (reply : Reply) (now : Failing) → AreAmong failing now → Sound g OpEnds (answer known reply) now
    same reply now among = told_more g known failing now among t

    in_sound : (part : Part) (op : Op) → Sound g OpEnds (operation_in g known part op) failing
    in_sound part (Read dev page) =
        if_sound (has_page g part page) OutOfRange (λ u. Then (ReadEvent (chip_page g part page)) (decoded_by part dev page))
        (once (ReadEvent (chip_page g part page)) (decoded_by part dev page) (λ a now among.
        let m = told_more g known failing now among t in
        record { inside = m.inside; apart = m.apart; copies = m.copies }))
    in_sound part (RawRead dev page) =
        if_sound (has_page g part page) OutOfRange (λ u. Then (ReadEvent (chip_page g part page)) raw_by)
        (once (ReadEvent (chip_page g part page)) raw_by (λ a now among. same (raw_reply (cells_of a)) now among))
    in_sound part (Write dev page body free) =
        if_sound (has_page g part page) OutOfRange (λ u.
        only_if (is_good_block known (chip_block part (page / g.pages_per_block))) known BadBlock (λ u.
        Then (ProgramEvent (chip_page g part page) (page_image g body free)) (done_by ProgramFailed)))
        (if_sound (is_good_block known (chip_block part (page / g.pages_per_block))) BadBlock (λ u. Then (ProgramEvent (chip_page g part page) (page_image g body free)) (done_by ProgramFailed))
        (once (ProgramEvent (chip_page g part page) (page_image g body free)) (done_by ProgramFailed) (λ a now among. same (done_or ProgramFailed a) now among)))
    in_sound part (RawWrite dev page image) =
        if_sound (has_page g part page) OutOfRange (λ u.
        only_if (is_good_block known (chip_block part (page / g.pages_per_block))) known BadBlock (λ u.
        only_if (slice_index image g.page == 0xff) known MarkerByte (λ u.
        Then (ProgramEvent (chip_page g part page) image) (done_by ProgramFailed))))
        (if_sound (is_good_block known (chip_block part (page / g.pages_per_block))) BadBlock (λ u.
        only_if (slice_index image g.page == 0xff) known MarkerByte (λ u. Then (ProgramEvent (chip_page g part page) image) (done_by ProgramFailed)))
        (if_sound (slice_index image g.page == 0xff) MarkerByte (λ u. Then (ProgramEvent (chip_page g part page) image) (done_by ProgramFailed))
        (once (ProgramEvent (chip_page g part page) image) (done_by ProgramFailed) (λ a now among. same (done_or ProgramFailed a) now among))))
    in_sound part (Erase dev block) =
        if_sound (has_block part block) OutOfRange (λ u.
        only_if (is_good_block known (chip_block part block)) known BadBlock (λ u. Then (EraseEvent (chip_block part block)) (done_by EraseFailed)))
        (if_sound (is_good_block known (chip_block part block)) BadBlock (λ u. Then (EraseEvent (chip_block part block)) (done_by EraseFailed))
        (once (EraseEvent (chip_block part block)) (done_by EraseFailed) (λ a now among. same (done_or EraseFailed a) now among)))
    in_sound part (IsBad dev block) =
        if_sound (has_block part block) OutOfRange (λ u. answer known (State (entry_of known (chip_block part block)))) t
    in_sound part (Mark dev block) = if_sound (has_block part block) OutOfRange (λ u. mark_block g known (chip_block part block)) (mark_sound (chip_block part block))
    in_sound part (Stats dev) = t

    by_part : (part : Option Part) (op : Op) → Sound g OpEnds (operation_by g known part op) failing
    by_part None op = t
    by_part (Some part) op = in_sound part op

    pub operation_sound : (partitions : Partitions) (op : Op) → Sound g OpEnds (operation_path g partitions known op) failing
    operation_sound partitions op = by_part (part_of partitions (device_of op)) op
