-- How many events a path has at most.
use Rattle.std.proofs.Common.{◌-◌, ◌≡◌, ℕ, zero, suc, ◌+◌, ◌≤◌, ◌<◌, Bool, true, false, not, ◌||◌, ◌==◌, List, [], ◌∷◌, ◌++◌, length, Option, Some, None, refl, ap, sym, ◌∙◌, subst, arith, length-append, ◌⊎◌, inl, inr}
use Rattle.std.proofs.lemmas.Bool.{cases_lt}
use Rattle.std.proofs.lemmas.Option.{none-some}
use Rattle.std.specs.Prelude.{⊤, nat_le, slice_index, ◌/◌}
use Rattle.nand_model.specs.declared.geometry.Geometry.{Geometry}
use Rattle.nand_model.specs.declared.words.Part.{Part}
use Rattle.nand_model.specs.declared.words.Op.{Op}
use Rattle.nand_model.specs.declared.words.Op.TheVariants.{Read, Write, RawRead, RawWrite, Erase, IsBad, Mark, Stats}
use Rattle.nand_model.specs.declared.words.Reply.TheVariants.{Done, OutOfRange, BadBlock, MarkerByte, ProgramFailed, EraseFailed, MarkerFailed, TableFailed, Reserved, Copies, State}
use Rattle.nand_model.specs.declared.words.Which.{Which}
use Rattle.nand_model.specs.Chip.{ChipState, FaultModel, ChipEvent, Complete, PowerCut, Flipped, PageEvent, ReadEvent, ProgramEvent, EraseEvent, happens}
use Rattle.nand_model.specs.Path.{Answer, Path, Over, Then, either, is_good, is_failure, cells_of, next_event, answer_to, GoesAlong, answers_of}
use Rattle.turn_laws.specs.Laws.{events_of_attach, events_of_operation}
use Rattle.chip_paths.specs.Writing.{Places, Writing, most_events, writing_of, writing_after, writing_step, writing_within}
use Rattle.nand_model.specs.Table.{Copy, has_tables}
use Rattle.nand_model.specs.declared.words.Which.TheVariants.{Primary, Mirror}
use Rattle.nand_model.specs.declared.words.Choice.{Choice}
use Rattle.nand_model.specs.declared.words.Choice.TheVariants.{Primary as UsePrimary, Mirror as UseMirror, Neither}
use Rattle.chip_paths.specs.Copies.{candidates, choice_of, found, places_of, rewritten, used_copy, version_found}
use Rattle.chip_paths.specs.Attach.{read_first_pages, attach_path, attach_by, attaching_of, marker_table, rewrite_copies, use_copy, use_found, whole_at_first, with_reserved}
use Rattle.nand_model.specs.Sizes.{numbers_from, first_page}
use Rattle.nand_model.specs.Page.{decoded, page_image}
use Rattle.nand_model.specs.Partitions.{Partitions, part_of, device_of}
use Rattle.chip_paths.specs.Operation.{Known, Finished, answer, only_if, done_or, has_page, has_block, chip_page, chip_block, entry_of, is_good_block, raw_reply, after_read, mark_reply, writing_reply, mark_writing, after_writing, write_tables, with_mark, mark_path, mark_block, operation_in, operation_by, operation_path}

-- whatever the answers, a path has no more events than this
abbrev pub Within : {A : Type 0} → ℕ → Path A → Type 0
Within n (Over result) = ⊤
Within zero (Then event rest) = ⊥
Within (suc n) (Then event rest) = (answer : Answer) → Within n (rest answer)

more_within : {A : Type 0} (n : ℕ) (path : Path A) → Within n path → Within (suc n) path
more_within n (Over result) h = tt
more_within zero (Then event rest) h = absurd h
more_within (suc n) (Then event rest) h = λ answer. more_within n (rest answer) (h answer)

within_more : {A : Type 0} (n : ℕ) (path : Path A) → Within 0 path → Within n path
within_more n (Over result) h = tt
within_more n (Then event rest) h = absurd h

-- a writing has no more events than this
writing_fits : {A : Type 0} (g : Geometry) (n : ℕ) (w : Writing) (go_on : Writing → Path A) → ((v : Writing) → Within 0 (go_on v)) → Within n (writing_within n g w go_on)
writing_fits g zero w go_on h = h w
writing_fits g (suc n) w go_on h = on (λ v. writing_fits g n v go_on h) w.left
  where
    on : ((v : Writing) → Within n (writing_within n g v go_on)) → (l : List Which)
        → Within (suc n) (writing_step g w l (λ u. go_on w) (λ answer. writing_within n g (writing_after g w answer) go_on))
    on later [] = within_more (suc n) (go_on w) (h w)
    on later (which ∷ more) = λ answer. later (writing_after g w answer)

-- both copies are written with four events, and with four more after each of two changes of place
tables_within : (g : Geometry) (k : Known) (marker : Answer) → Within 12 (write_tables g k marker)
tables_within g k marker = writing_fits g 12 (mark_writing k) (λ w. answer (after_writing k w) (mark_reply marker (writing_reply w.failed))) (λ w. tt)

-- what follows the marker of a mark
marked_within : (g : Geometry) (k : Known) (block : ℕ) (marker : Answer) (tables failed : Bool)
    → Within 12 (either tables (λ u. write_tables g (with_mark g k block) marker) (λ u. either failed (λ v. answer k MarkerFailed)
    (λ v. answer (with_mark g k block) Done)))
marked_within g k block marker true failed = tables_within g (with_mark g k block) marker
marked_within g k block marker false true = tt
marked_within g k block marker false false = tt

mark_within : (g : Geometry) (k : Known) (block : ℕ) → Within events_of_operation (mark_path g k block)
mark_within g k block = λ erased marker. marked_within g k block marker (has_tables g) (is_failure marker)

block_within : (g : Geometry) (k : Known) (block : ℕ) (reserved copied bad : Bool)
    → Within events_of_operation (only_if reserved k Reserved (λ u. only_if copied k (Copies k.copies) (λ v. only_if bad k Done (λ w. mark_path g k block))))
block_within g k block false copied bad = tt
block_within g k block true false bad = tt
block_within g k block true true false = tt
block_within g k block true true true = mark_within g k block

write_within : (page : ℕ) (image : List ℕ) (k : Known) (there good : Bool)
    → Within events_of_operation (only_if there k OutOfRange (λ u. only_if good k BadBlock (λ v. Then (ProgramEvent page image)
    (λ outcome. answer k (done_or ProgramFailed outcome)))))
write_within page image k false good = tt
write_within page image k true false = tt
write_within page image k true true = λ outcome. tt

raw_write_within : (page : ℕ) (image : List ℕ) (k : Known) (there good marker : Bool)
    → Within events_of_operation (only_if there k OutOfRange (λ u. only_if good k BadBlock (λ v. only_if marker k MarkerByte
    (λ w. Then (ProgramEvent page image) (λ outcome. answer k (done_or ProgramFailed outcome))))))
raw_write_within page image k false good marker = tt
raw_write_within page image k true false marker = tt
raw_write_within page image k true true false = tt
raw_write_within page image k true true true = λ outcome. tt

erase_within : (block : ℕ) (k : Known) (there good : Bool)
    → Within events_of_operation (only_if there k OutOfRange (λ u. only_if good k BadBlock (λ v. Then (EraseEvent block) (λ outcome. answer k (done_or EraseFailed outcome)))))
erase_within block k false good = tt
erase_within block k true false = tt
erase_within block k true true = λ outcome. tt

read_within : (page : ℕ) (k : Known) (after : Answer → Finished) (there : Bool) → Within events_of_operation
    (only_if there k OutOfRange (λ u. Then (ReadEvent page) (λ seen. Over (after seen))))
read_within page k after false = tt
read_within page k after true = λ seen. tt

ask_within : (k : Known) (state : Unit {0} → Path Finished) → Within events_of_operation (state tt) → (there : Bool) → Within events_of_operation (only_if there k OutOfRange state)
ask_within k state h false = tt
ask_within k state h true = h

in_within : (g : Geometry) (k : Known) (part : Part) (op : Op) → Within events_of_operation (operation_in g k part op)
in_within g k part (Read dev page) = read_within (chip_page g part page) k (λ seen. after_read g k dev (decoded g (cells_of seen))) (has_page g part page)
in_within g k part (RawRead dev page) = read_within (chip_page g part page) k (λ seen. record { reply = raw_reply (cells_of seen); known = k })
    (has_page g part page)
in_within g k part (Write dev page body free) =
    write_within (chip_page g part page) (page_image g body free) k (has_page g part page) (is_good_block k (chip_block part (page / g.pages_per_block)))
in_within g k part (RawWrite dev page image) =
    raw_write_within (chip_page g part page) image k (has_page g part page) (is_good_block k (chip_block part (page / g.pages_per_block)))
    (slice_index image g.page == 0xff)
in_within g k part (Erase dev block) = erase_within (chip_block part block) k (has_block part block) (is_good_block k (chip_block part block))
in_within g k part (IsBad dev block) = ask_within k (λ u. answer k (State (entry_of k (chip_block part block)))) tt (has_block part block)
in_within g k part (Mark dev block) =
    ask_within k (λ u. mark_block g k (chip_block part block))
    (block_within g k (chip_block part block) (not (entry_of k (chip_block part block) == 2)) (not (has_tables g) || nat_le 2 k.copies)
    (is_good_block k (chip_block part block)))
    (has_block part block)
in_within g k part (Stats dev) = tt

by_within : (g : Geometry) (k : Known) (part : Option Part) (op : Op) → Within events_of_operation (operation_by g k part op)
by_within g k None op = tt
by_within g k (Some part) op = in_within g k part op

-- an operation has at most as many events as a mark with its two tables
pub operation_within : (g : Geometry) (partitions : Partitions) (k : Known) (op : Op) → Within events_of_operation (operation_path g partitions k op)
operation_within g partitions k op = by_within g k (part_of partitions (device_of op)) op

-- after so many answers there is no event left
pub none_left : {A : Type 0} (n : ℕ) (path : Path A) → Within n path → (answers : List Answer) → n ≤ length answers → next_event path answers ≡ None
none_left n (Over result) w [] h = refl
none_left n (Over result) w (a ∷ answers) h = refl
none_left zero (Then event rest) w answers h = absurd w
none_left (suc n) (Then event rest) w [] h = absurd (omega arith)
none_left (suc n) (Then event rest) w (a ∷ answers) h = none_left n (rest a) (w a) answers (omega arith)

-- where a next event is left, there were fewer answers
pub some_left : {A : Type 0} (n : ℕ) (path : Path A) → Within n path → (answers : List Answer) (e : PageEvent) → next_event path answers ≡ Some e
    → length answers < n
some_left n path w answers e h = by_order (cases_lt (length answers) n)
  where
    by_order : (length answers < n) ⊎ (n ≤ length answers) → length answers < n
    by_order (inl less) = less
    by_order (inr enough) = absurd (none-some e (sym (none_left n path w answers enough) ∙ h))

module _ {W : Type 0} (model : FaultModel W) {A : Type 0} (n : ℕ) (path : Path A) (w : Within n path) where
  -- so a trace along the path has no more answers
  pub along_within : (s : ChipState W) (answers : List Answer) (trace : List ChipEvent) → GoesAlong model (next_event path) s answers trace → length answers ≤ n
      → length answers + length (answers_of model s trace) ≤ n
  along_within s answers [] g h = omega arith
  along_within s answers (Flipped page bit ∷ trace) g h = along_within (happens model s (Flipped page bit)) answers trace g h
  along_within s answers (Complete e ∷ trace) g h =
      let one_more : length (answers ++ answer_to model s e ∷ []) ≡ length answers + 1 = length-append answers (answer_to model s e ∷ []) in
      let fewer : length answers < n = some_left n path w answers e g.0 in
      let later = along_within (happens model s (Complete e)) (answers ++ answer_to model s e ∷ []) trace g.1 (omega arith) in
      omega (arith, later)
  along_within s answers (PowerCut e done ∷ trace) g h = omega arith

  -- a whole trace from the start of the path
  pub answers_within : (s : ChipState W) (trace : List ChipEvent) (answers : List Answer) → GoesAlong model (next_event path) s [] trace
      → answers ≡ answers_of model s trace → length answers ≤ n
  answers_within s trace answers g e =
      let few : 0 + length (answers_of model s trace) ≤ n = along_within s [] trace g (omega arith) in
      let same : length answers ≡ length (answers_of model s trace) = ap length e in
      omega (arith, few, same)

-- a bound with so many more
abbrev raised : ℕ → ℕ → ℕ
raised zero n = n
raised (suc k) n = suc (raised k n)

raised_is : (k n : ℕ) → raised k n ≡ k + n
raised_is zero n = omega arith
raised_is (suc k) n = let more = raised_is k n in omega (arith, more)

raised_within : {A : Type 0} (k n : ℕ) (path : Path A) → Within n path → Within (raised k n) path
raised_within zero n path h = h
raised_within (suc k) n path h = more_within (raised k n) path (raised_within k n path h)

-- a larger bound is one too
at_most_within : {A : Type 0} (n m : ℕ) (path : Path A) → n ≤ m → Within n path → Within m path
at_most_within n m path few h =
    let all : raised (m - n) n ≡ m = omega (arith, few, raised_is (m - n) n) in
    subst (λ b. Within b path) all (raised_within (m - n) n path h)

-- the first pages of so many blocks are read with so many events, before what follows
reads_within : {A : Type 0} (g : Geometry) (n first k : ℕ) (pages : List (List ℕ)) (go_on : List (List ℕ) → Path A)
    → ((seen : List (List ℕ)) → Within k (go_on seen)) → Within (raised n k) (read_first_pages g (numbers_from first n) pages go_on)
reads_within g zero first k pages go_on h = h pages
reads_within g (suc n) first k pages go_on h = λ answer. reads_within g n (first + 1) k (pages ++ cells_of answer ∷ []) go_on h

-- an attach writes at most both copies again
few_rewritten : (choice : Choice) → length (rewritten choice) ≤ 2
few_rewritten (UsePrimary true) = omega arith
few_rewritten (UsePrimary false) = omega arith
few_rewritten (UseMirror true) = omega arith
few_rewritten (UseMirror false) = omega arith
few_rewritten Neither = omega arith

module _ (g : Geometry) (places : Places) (choice : Choice) where
  copies_within : (version : ℕ) (states : List ℕ) → Within 12 (rewrite_copies g places choice version states)
  copies_within version states =
      let w : Writing = writing_of (with_reserved g states) version places (whole_at_first choice) (rewritten choice) in
      let few : most_events w ≤ 12 = omega (arith, few_rewritten choice) in
      at_most_within (most_events w) 12 (rewrite_copies g places choice version states) few
      (writing_fits g (most_events w) w (λ v. Over (attaching_of choice v)) (λ v. tt))

  copy_within : (used : Option (ℕ × Copy)) → Within (raised g.blocks 12) (use_copy g places choice used)
  copy_within (Some (block, copy)) = raised_within g.blocks 12 (rewrite_copies g places choice copy.version copy.states) (copies_within copy.version copy.states)
  copy_within None =
      reads_within g g.blocks 0 12 [] (λ pages. rewrite_copies g places choice 1 (marker_table g pages)) (λ seen. copies_within 1 (marker_table g seen))

-- what follows the scan of the table blocks
scanned_within : (g : Geometry) (cs : List (ℕ × List ℕ)) → Within (raised g.blocks 12) (use_found g (places_of g cs) (found g Primary cs) (found g Mirror cs))
scanned_within g cs =
    let choice : Choice = choice_of (version_found (found g Primary cs)) (version_found (found g Mirror cs)) in
    copy_within g (places_of g cs) choice (used_copy choice (found g Primary cs) (found g Mirror cs))

attach_by_within : (g : Geometry) (tables : Bool) → Within (events_of_attach g) (attach_by tables g)
attach_by_within g true =
    let scan : Within (suc (suc (suc (suc (raised g.blocks 12))))) (attach_by true g) =
    λ a b c d. scanned_within g (candidates g (cells_of a ∷ cells_of b ∷ cells_of c ∷ cells_of d ∷ [])) in
    at_most_within (suc (suc (suc (suc (raised g.blocks 12))))) (events_of_attach g) (attach_by true g) (omega (arith, raised_is g.blocks 12)) scan
attach_by_within g false =
    at_most_within (raised g.blocks 0) (events_of_attach g) (attach_by false g) (omega (arith, raised_is g.blocks 0))
    (reads_within g g.blocks 0 0 [] _ (λ seen. tt))

-- an attach is as short as that, with tables and without
pub attach_within : (g : Geometry) → Within (events_of_attach g) (attach_path g)
attach_within g = attach_by_within g (has_tables g)
