-- How an operation ends, as far as ECC statistics go.
use Rattle.std.proofs.Common.{◌≡◌, ◌⊎◌, inl, inr, ℕ, zero, suc, ◌+◌, ◌≤◌, Bool, true, false, not, ◌||◌, ◌==◌, List, [], ◌∷◌, Option, Some, None, refl, ap, sym, arith, subst}
use Rattle.std.specs.Prelude.{nat_le, slice_index, ◌/◌, if◌then◌else◌}
use Rattle.std.proofs.lemmas.Option.{none-some, same_Some}
use Rattle.nand_model.specs.declared.geometry.Geometry.{Geometry}
use Rattle.nand_model.specs.declared.words.PageRead.{PageRead}
use Rattle.nand_model.specs.declared.words.Part.{Part}
use Rattle.nand_model.specs.declared.words.Stats.{Stats as Statistics}
use Rattle.nand_model.specs.declared.words.Op.{Op}
use Rattle.nand_model.specs.declared.words.Op.TheVariants.{Read, Write, RawRead, RawWrite, Erase, IsBad, Mark, Stats}
use Rattle.nand_model.specs.declared.words.Reply.{Reply}
use Rattle.nand_model.specs.declared.words.Reply.TheVariants.{Done, OutOfRange, BadBlock, MarkerByte, ProgramFailed, EraseFailed, MarkerFailed, TableFailed, Reserved, Copies, State}
use Rattle.nand_model.specs.declared.words.Which.{Which}
use Rattle.nand_model.specs.Chip.{ReadEvent, ProgramEvent, EraseEvent}
use Rattle.nand_model.specs.Path.{Answer, Path, Over, Then, after_answers, cells_of, either, is_failure, is_good, result_of}
use Rattle.nand_model.specs.Table.{has_tables}
use Rattle.chip_paths.specs.Writing.{Writing, writing_after, writing_step, writing_within, most_events}
use Rattle.nand_model.specs.Sizes.{first_page}
use Rattle.nand_model.specs.Page.{Decoding, decoded, page_image}
use Rattle.nand_model.specs.declared.words.Stats.{Stats as Statistics}
use Rattle.chip_paths.specs.Operation.{Finished, Known, after_writing, mark_writing, writing_reply, after_read, answer, chip_block, chip_page, done_or, entry_of, has_block, has_page, is_good_block, mark_block, mark_path, mark_reply, only_if, operation_by, operation_in, operation_path, raw_reply, with_mark, write_tables}
use Rattle.nand_model.specs.Partitions.{Partitions, device_of, part_of}
use Rattle.statistics_laws.specs.Counts.{reads_in}
use Rattle.statistics_laws.proofs.Decoding.{corrected_small, failed_small}

-- whatever the answers, a path that is over has such a result
abbrev pub EndsIn : {A : Type 0} → (A → Type 0) → Path A → Type 0
EndsIn P (Over result) = P result
EndsIn P (Then event rest) = (answer : Answer) → EndsIn P (rest answer)

pub ended_in : {A : Type 0} (P : A → Type 0) (path : Path A) (answers : List Answer) (result : A) → EndsIn P path
    → result_of (after_answers answers path) ≡ Some result → P result
ended_in P (Over r) [] result h e = subst P (same_Some r result e) h
ended_in P (Then event rest) [] result h e = absurd (none-some result e)
ended_in P (Over r) (answer ∷ answers) result h e = subst P (same_Some r result e) h
ended_in P (Then event rest) (answer ∷ answers) result h e = ended_in P (rest answer) answers result (h answer) e

-- a refused read has no counts
none_either_way : (b : Bool) → ◌≡◌ {A = List PageRead} (if b then [] else []) []
none_either_way true = refl
none_either_way false = refl

module _ (g : Geometry) (k : Known) where
  -- the statistics stay and no page was decoded, or a page was read and its counts were added
  abbrev pub Ending : Op → Finished → Type 0
  Ending op finished =
      ((finished.known.statistics ≡ k.statistics) × ((dev : ℕ) → reads_in dev op finished.reply ≡ []))
      ⊎ ((dev page : ℕ) × (cells : List ℕ) × (op ≡ Read dev page) × (finished ≡ after_read g k dev (decoded g cells)))

  module _ (P : Finished → Type 0) where
    either_ends : (b : Bool) (first second : Unit {0} → Path Finished) → EndsIn P (first tt) → EndsIn P (second tt) → EndsIn P (either b first second)
    either_ends true first second h i = h
    either_ends false first second h i = i

    if_ends : (b : Bool) (refusal : Reply) (go_on : Unit {0} → Path Finished) → EndsIn P (answer k refusal) → EndsIn P (go_on tt)
        → EndsIn P (only_if b k refusal go_on)
    if_ends b refusal go_on h i = either_ends b go_on (λ u. answer k refusal) i h

    -- a writing, where each way of going on ends so
    writing_ends : (n : ℕ) (w : Writing) (go_on : Writing → Path Finished) → ((v : Writing) → EndsIn P (go_on v)) → EndsIn P (writing_within n g w go_on)
    writing_ends zero w go_on h = h w
    writing_ends (suc n) w go_on h = on (λ v. writing_ends n v go_on h) w.left
      where
        on : ((v : Writing) → EndsIn P (writing_within n g v go_on)) → (l : List Which)
            → EndsIn P (writing_step g w l (λ u. go_on w) (λ answer. writing_within n g (writing_after g w answer) go_on))
        on later [] = h w
        on later (which ∷ more) = λ answer. later (writing_after g w answer)

    -- the writing of both tables
    tables_end : (m : Known) (marker : Answer) → ((known : Known) (reply : Reply) → known.statistics ≡ m.statistics → P (record { reply = reply; known = known }))
        → EndsIn P (write_tables g m marker)
    tables_end m marker h =
        writing_ends (most_events (mark_writing m)) (mark_writing m) (λ w. answer (after_writing m w) (mark_reply marker (writing_reply w.failed)))
        (λ w. h (after_writing m w) (mark_reply marker (writing_reply w.failed)) refl)

    mark_ends : (block : ℕ) → ((known : Known) (reply : Reply) → known.statistics ≡ k.statistics → P (record { reply = reply; known = known }))
        → EndsIn P (mark_block g k block)
    mark_ends block h =
        if_ends (not (entry_of k block == 2)) Reserved (λ u. only_if (not (has_tables g) || nat_le 2 k.copies) k (Copies k.copies)
        (λ u. only_if (is_good_block k block) k Done (λ u. mark_path g k block))) (h k Reserved refl)
        (if_ends (not (has_tables g) || nat_le 2 k.copies) (Copies k.copies) (λ u. only_if (is_good_block k block) k Done (λ u. mark_path g k block))
        (h k (Copies k.copies) refl)
        (if_ends (is_good_block k block) Done (λ u. mark_path g k block) (h k Done refl)
        (λ erased marker. either_ends (has_tables g) (λ u. write_tables g (with_mark g k block) marker)
        (λ u. either (is_failure marker) (λ u. answer k MarkerFailed) (λ u. answer (with_mark g k block) Done))
        (tables_end (with_mark g k block) marker h)
        (either_ends (is_failure marker) (λ u. answer k MarkerFailed) (λ u. answer (with_mark g k block) Done) (h k MarkerFailed refl)
        (h (with_mark g k block) Done refl)))))

  in_ends : (part : Part) (op : Op) → EndsIn (Ending op) (operation_in g k part op)
  in_ends part (Read dev page) =
      if_ends (Ending (Read dev page)) (has_page g part page) OutOfRange
      (λ u. Then (ReadEvent (chip_page g part page)) (λ seen. Over (after_read g k dev (decoded g (cells_of seen)))))
      (inl (refl, λ e. none_either_way (dev == e))) (λ seen. inr (dev, page, cells_of seen, refl, refl))
  in_ends part (RawRead dev page) =
      if_ends (Ending (RawRead dev page)) (has_page g part page) OutOfRange
      (λ u. Then (ReadEvent (chip_page g part page)) (λ seen. answer k (raw_reply (cells_of seen))))
      (inl (refl, λ e. refl)) (λ seen. inl (refl, λ e. refl))
  in_ends part (Write dev page body free) =
      if_ends (Ending (Write dev page body free)) (has_page g part page) OutOfRange
      (λ u. only_if (is_good_block k (chip_block part (page / g.pages_per_block))) k BadBlock
      (λ u. Then (ProgramEvent (chip_page g part page) (page_image g body free)) (λ outcome. answer k (done_or ProgramFailed outcome))))
      (inl (refl, λ e. refl))
      (if_ends (Ending (Write dev page body free)) (is_good_block k (chip_block part (page / g.pages_per_block))) BadBlock
      (λ u. Then (ProgramEvent (chip_page g part page) (page_image g body free)) (λ outcome. answer k (done_or ProgramFailed outcome)))
      (inl (refl, λ e. refl)) (λ outcome. inl (refl, λ e. refl)))
  in_ends part (RawWrite dev page image) =
      if_ends (Ending (RawWrite dev page image)) (has_page g part page) OutOfRange
      (λ u. only_if (is_good_block k (chip_block part (page / g.pages_per_block))) k BadBlock
      (λ u. only_if (slice_index image g.page == 0xff) k MarkerByte
      (λ u. Then (ProgramEvent (chip_page g part page) image) (λ outcome. answer k (done_or ProgramFailed outcome)))))
      (inl (refl, λ e. refl))
      (if_ends (Ending (RawWrite dev page image)) (is_good_block k (chip_block part (page / g.pages_per_block))) BadBlock
      (λ u. only_if (slice_index image g.page == 0xff) k MarkerByte
      (λ u. Then (ProgramEvent (chip_page g part page) image) (λ outcome. answer k (done_or ProgramFailed outcome))))
      (inl (refl, λ e. refl))
      (if_ends (Ending (RawWrite dev page image)) (slice_index image g.page == 0xff) MarkerByte
      (λ u. Then (ProgramEvent (chip_page g part page) image) (λ outcome. answer k (done_or ProgramFailed outcome)))
      (inl (refl, λ e. refl)) (λ outcome. inl (refl, λ e. refl))))
  in_ends part (Erase dev block) =
      if_ends (Ending (Erase dev block)) (has_block part block) OutOfRange
      (λ u. only_if (is_good_block k (chip_block part block)) k BadBlock
      (λ u. Then (EraseEvent (chip_block part block)) (λ outcome. answer k (done_or EraseFailed outcome))))
      (inl (refl, λ e. refl))
      (if_ends (Ending (Erase dev block)) (is_good_block k (chip_block part block)) BadBlock
      (λ u. Then (EraseEvent (chip_block part block)) (λ outcome. answer k (done_or EraseFailed outcome)))
      (inl (refl, λ e. refl)) (λ outcome. inl (refl, λ e. refl)))
  in_ends part (IsBad dev block) =
      if_ends (Ending (IsBad dev block)) (has_block part block) OutOfRange (λ u. answer k (State (entry_of k (chip_block part block))))
      (inl (refl, λ e. refl)) (inl (refl, λ e. refl))
  in_ends part (Mark dev block) =
      if_ends (Ending (Mark dev block)) (has_block part block) OutOfRange (λ u. mark_block g k (chip_block part block)) (inl (refl, λ e. refl))
      (mark_ends (Ending (Mark dev block)) (chip_block part block) (λ known reply same. inl (same, λ e. refl)))
  in_ends part (Stats dev) = inl (refl, λ e. refl)

  none_end : (op : Op) → Ending op (record { reply = OutOfRange; known = k })
  none_end (Read dev page) = inl (refl, λ e. none_either_way (dev == e))
  none_end (RawRead dev page) = inl (refl, λ e. refl)
  none_end (Write dev page body free) = inl (refl, λ e. refl)
  none_end (RawWrite dev page image) = inl (refl, λ e. refl)
  none_end (Erase dev block) = inl (refl, λ e. refl)
  none_end (IsBad dev block) = inl (refl, λ e. refl)
  none_end (Mark dev block) = inl (refl, λ e. refl)
  none_end (Stats dev) = inl (refl, λ e. refl)

  by_ends : (o : Option Part) (op : Op) → EndsIn (Ending op) (operation_by g k o op)
  by_ends None op = none_end op
  by_ends (Some part) op = in_ends part op

-- how an operation that is over has ended
pub operation_ending : (g : Geometry) (partitions : Partitions) (k : Known) (op : Op) (answers : List Answer) (finished : Finished)
    → result_of (after_answers answers (operation_path g partitions k op)) ≡ Some finished → Ending g k op finished
operation_ending g partitions k op answers finished e =
    ended_in (Ending g k op) (operation_path g partitions k op) answers finished (by_ends g k (part_of partitions (device_of op)) op) e

-- at most 128 more of each than before
abbrev pub CountsOn : Known → Known → Type 0
CountsOn before after = (dev : ℕ) → ((after.statistics dev).corrected ≤ (before.statistics dev).corrected + 128)
    × ((after.statistics dev).failed ≤ (before.statistics dev).failed + 128)

-- a read counts what its page counts
read_counts_on : (g : Geometry) (k : Known) (dev : ℕ) (cells : List ℕ) → CountsOn k (after_read g k dev (decoded g cells)).known
read_counts_on g k dev cells e = by_device (e == dev)
  where
    d : Decoding
    d = decoded g cells

    by_device : (b : Bool)
        → ((if b then record { corrected = (k.statistics e).corrected + d.corrected; failed = (k.statistics e).failed + d.failed } else k.statistics e).corrected
        ≤ (k.statistics e).corrected + 128)
        × ((if b then record { corrected = (k.statistics e).corrected + d.corrected; failed = (k.statistics e).failed + d.failed } else k.statistics e).failed
        ≤ (k.statistics e).failed + 128)
    by_device true = (omega (arith, corrected_small g cells), omega (arith, failed_small g cells))
    by_device false = (omega arith, omega arith)

pub ending_counts : (g : Geometry) (k : Known) (op : Op) (finished : Finished) → Ending g k op finished → CountsOn k finished.known
ending_counts g k op finished (inl same) =
    λ dev. let at : finished.known.statistics dev ≡ k.statistics dev = ap (λ f. f dev) same.0 in
    (omega (arith, ap (λ (s : Statistics). s.corrected) at), omega (arith, ap (λ (s : Statistics). s.failed) at))
ending_counts g k op finished (inr read) =
    subst (λ (f : Finished). CountsOn k f.known) (sym read.4) (read_counts_on g k read.0 read.2)
