-- The reply of a read, from its path and its trace.
use Rattle.std.proofs.Common.{◌≡◌, ℕ, Bool, true, false, if◌then◌else◌, List, [], ◌∷◌, ◌++◌, Option, Some, None, refl, ap, sym, ◌∙◌}
use Rattle.std.specs.Prelude.{nat_le}
use Rattle.std.proofs.lemmas.Bool.{eq-eqb, false≢true}
use Rattle.std.proofs.lemmas.Option.{none-some, same_Some}
use Rattle.nand_model.specs.Page.{Decoding, decoded, kind_of}
use Rattle.nand_model.specs.Chip.{ChipState, FaultModel, ChipEvent, Complete, PowerCut, Flipped, PageEvent, ReadEvent, happens, after_trace}
use Rattle.nand_model.specs.Path.{Answer, Data, cells_of, Path, Over, Then, after_answers, next_event, result_of, GoesAlong, answers_of, answer_to}
use Rattle.nand_model.specs.Partitions.{Partitions, part_of}
use Rattle.chip_paths.specs.Operation.{Known, Finished, only_if, has_page, chip_page, read_reply, after_read, operation_by, operation_path, Performs}
use Rattle.nand_model.specs.declared.geometry.Geometry.{Geometry}
use Rattle.nand_model.specs.declared.words.Part.{Part}
use Rattle.nand_model.specs.declared.words.PageKind.TheVariants.{Bitflips, Clean, Uncorrectable}
use Rattle.nand_model.specs.declared.words.Op.{Op}
use Rattle.nand_model.specs.declared.words.Op.TheVariants.{Read}
use Rattle.nand_model.specs.declared.words.Reply.{Reply}
use Rattle.nand_model.specs.declared.words.Reply.TheVariants.{OutOfRange}
use Rattle.run_model.specs.ReadBack.{is_read, ReadsBack, IsReadBack}

not-empty : (xs : List ChipEvent) (x : ChipEvent) (ys : List ChipEvent) → xs ++ x ∷ ys ≡ [] → ⊥
not-empty [] x ys e = cc
not-empty (z ∷ xs) x ys e = cc

pub after-over : {A : Type 0} (result : A) (answers : List Answer) → after_answers answers (Over result) ≡ Over result
after-over result [] = refl
after-over result (a ∷ answers) = refl

module _ {W : Type 0} (model : FaultModel W) where
  -- where nothing comes next, no event is done
  nothing_done : (next : List Answer → Option PageEvent) (s : ChipState W) (seen : List Answer)
      (before : List ChipEvent) (e : PageEvent) (rest : List ChipEvent)
      → next seen ≡ None → GoesAlong model next s seen (before ++ Complete e ∷ rest) → ⊥
  nothing_done next s seen [] e rest none h = none-some e (sym none ∙ h.0)
  nothing_done next s seen (Complete f ∷ before) e rest none h = none-some f (sym none ∙ h.0)
  nothing_done next s seen (PowerCut f done ∷ before) e rest none h = none-some f (sym none ∙ h.0)
  nothing_done next s seen (Flipped page bit ∷ before) e rest none h = nothing_done next (happens model s (Flipped page bit)) seen before e rest none h

  -- where one event alone comes, a read in the trace is it: only flips came before
  one_answer : (next : List Answer → Option PageEvent) (s : ChipState W) (before rest : List ChipEvent) (page : ℕ)
      → ((answer : Answer) → next (answer ∷ []) ≡ None)
      → GoesAlong model next s [] (before ++ Complete (ReadEvent page) ∷ rest)
      → (more : List Answer) × (answers_of model s (before ++ Complete (ReadEvent page) ∷ rest) ≡ Data ((after_trace model s before).pages page).cells ∷ more)
  one_answer next s [] rest page once h = (answers_of model s rest, refl)
  one_answer next s (Complete e ∷ before) rest page once h =
      absurd (nothing_done next (happens model s (Complete e)) (answer_to model s e ∷ []) before (ReadEvent page) rest (once (answer_to model s e)) h.1)
  one_answer next s (PowerCut e done ∷ before) rest page once h = absurd (not-empty before (Complete (ReadEvent page)) rest h.1)
  one_answer next s (Flipped p bit ∷ before) rest page once h = one_answer next (happens model s (Flipped p bit)) before rest page once h

  -- the reply of a read in whose trace a page was read: what is decoded of the page as it was then
  module _ (g : Geometry) (k : Known) (s : ChipState W) (before rest : List ChipEvent) (page : ℕ) (finished : Finished) where
    abbrev trace : List ChipEvent
    trace = before ++ Complete (ReadEvent page) ∷ rest

    abbrev RepliesBy : Path Finished → Type 0
    RepliesBy path = GoesAlong model (next_event path) s [] trace → result_of (after_answers (answers_of model s trace) path) ≡ Some finished
        → finished.reply ≡ read_reply g (decoded g ((after_trace model s before).pages page).cells)

    refused : (result : Finished) → RepliesBy (Over result)
    refused result along over = absurd (nothing_done (next_event (Over result)) s [] before (ReadEvent page) rest refl along)

    replied : (dev q : ℕ) → RepliesBy (Then (ReadEvent q) (λ seen. Over (after_read g k dev (decoded g (cells_of seen)))))
    replied dev q along over =
        let result : Answer → Finished = λ seen. after_read g k dev (decoded g (cells_of seen)) in
        let path : Path Finished = Then (ReadEvent q) (λ seen. Over (result seen)) in
        let answers = one_answer (next_event path) s before rest page (λ answer. refl) along in
        let seen : Answer = Data ((after_trace model s before).pages page).cells in
        let ends : Some finished ≡ Some (result seen) =
        sym over ∙ ap (λ zs. result_of (after_answers zs path)) answers.1 ∙ ap result_of (after-over (result seen) answers.0) in
        ap (λ (f : Finished). f.reply) (same_Some finished (result seen) ends)

    by_range : (inside : Bool) (part : Part) (dev p : ℕ)
        → RepliesBy (only_if inside k OutOfRange (λ u. Then (ReadEvent (chip_page g part p)) (λ seen. Over (after_read g k dev (decoded g (cells_of seen))))))
    by_range true part dev p = replied dev (chip_page g part p)
    by_range false part dev p = refused (record { reply = OutOfRange; known = k })

    by_part : (part : Option Part) (dev p : ℕ) → RepliesBy (operation_by g k part (Read dev p))
    by_part None dev p = refused (record { reply = OutOfRange; known = k })
    by_part (Some part) dev p = by_range (has_page g part p) part dev p

    by_operation : (partitions : Partitions) (op : Op) → is_read op ≡ true → RepliesBy (operation_path g partitions k op)
    by_operation partitions (Read dev p) read = by_part (part_of partitions dev) dev p
    by_operation partitions _ read = absurd (false≢true read)

  pub read_reply_is : (partitions : Partitions) (s : ChipState W) (k : Known) (op : Op) (before rest : List ChipEvent) (page : ℕ)
      (reply : Reply) (after : Known) → is_read op ≡ true
      → Performs model partitions s k op (before ++ Complete (ReadEvent page) ∷ rest) reply after
      → reply ≡ read_reply s.geometry (decoded s.geometry ((after_trace model s before).pages page).cells)
  read_reply_is partitions s k op before rest page reply after read performed =
      by_operation s.geometry k s before rest page (record { reply = reply; known = after }) partitions op read performed.along performed.over

-- a decoding that gives the page back, as the reply to a read has it
pub reply_reads_back : (g : Geometry) (image cells : List ℕ) → ReadsBack g image cells → IsReadBack g image cells (Some (read_reply g (decoded g cells)))
reply_reads_back g image cells back =
    let d : Decoding = decoded g cells in
    let kind : kind_of g d ≡ (if nat_le g.threshold d.greatest then Bitflips else Clean) =
    ap (λ (b : Bool). if b then (if nat_le g.threshold d.greatest then Bitflips else Clean) else Uncorrectable) (eq-eqb d.failed 0 back.failed) in
    (back, refl, refl, refl, back.failed, kind)
