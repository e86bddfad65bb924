-- What a write that was done leaves of its page's past.
use Rattle.std.proofs.Common.{◌≡◌, ℕ, Bool, true, false, if◌then◌else◌, List, [], ◌∷◌, Option, Some, None, refl, ap, ap₂, sym, ◌∙◌, subst}
use Rattle.std.specs.Prelude.{◌/◌, is_none}
use Rattle.std.proofs.lemmas.Bool.{eq-eqb}
use Rattle.std.proofs.lemmas.Option.{none-some, same_Some}
use Rattle.nand_model.specs.Page.{page_image}
use Rattle.nand_model.specs.Chip.{ChipState, FaultModel, ChipEvent, Complete, PowerCut, Flipped, PageEvent, ProgramEvent, ProgramCall, DoneBits, failure_of, happens}
use Rattle.nand_model.specs.Path.{Answer, Path, Then, after_answers, next_event, result_of, GoesAlong, answers_of, answer_to, good_or_failed}
use Rattle.chip_paths.specs.Operation.{chip_page, chip_block, has_page, is_good_block, Known, Finished, answer, only_if, done_or, operation_by}
use Rattle.nand_model.specs.declared.words.Part.{Part}
use Rattle.nand_model.specs.declared.words.Op.TheVariants.{Write}
use Rattle.nand_model.specs.declared.words.Reply.{Reply}
use Rattle.nand_model.specs.declared.words.Reply.TheVariants.{Done, OutOfRange, BadBlock, ProgramFailed}
use Rattle.run_model.specs.ReadBack.{PagePast, Erased, Programmed, after_program, page_past_after, page_past}
use Rattle.read_laws.specs.Laws.{DoneWritesFillPages}
use Rattle.read_laws.proofs.Replies.{after-over}

good_from_done : (failure : Option DoneBits) → done_or ProgramFailed (good_or_failed failure) ≡ Done → is_none failure ≡ true
good_from_done None e = refl
good_from_done (Some done) e = cc

module _ {W : Type 0} (model : FaultModel W) where
  -- flips alone leave a page's past as it is
  flips_alone : (next : List Answer → Option PageEvent) (s : ChipState W) (seen : List Answer) (page : ℕ) (past : PagePast) (trace : List ChipEvent)
      → next seen ≡ None → GoesAlong model next s seen trace → page_past model s page past trace ≡ past
  flips_alone next s seen page past [] none h = refl
  flips_alone next s seen page past (Complete e ∷ trace) none h = absurd (none-some e (sym none ∙ h.0))
  flips_alone next s seen page past (PowerCut e done ∷ trace) none h = absurd (none-some e (sym none ∙ h.0))
  flips_alone next s seen page past (Flipped p bit ∷ trace) none h = flips_alone next (happens model s (Flipped p bit)) seen page past trace none h

  programmed_past : (s : ChipState W) (page : ℕ) (image : List ℕ) → is_none (failure_of model s (ProgramCall page)) ≡ true
      → page_past_after model s page Erased (Complete (ProgramEvent page image)) ≡ Programmed image
  programmed_past s page image good =
      ap₂ (λ (here whole : Bool). if here then after_program Erased image whole else Erased) (eq-eqb page page refl) good

  module _ (k after : Known) where
    abbrev finished : Finished
    finished = record { reply = Done; known = after }

    -- the reply of an operation that has come to its end
    same_reply : (reply : Reply) (answers : List Answer) → result_of (after_answers answers (answer k reply)) ≡ Some finished → reply ≡ Done
    same_reply reply answers over =
        let result : Finished = record { reply = reply; known = k } in
        ap (λ (f : Finished). f.reply) (same_Some result finished (sym (ap result_of (after-over result answers)) ∙ over))

    -- a path along which Done leaves this image in an erased page
    abbrev Fills : ℕ → List ℕ → Path Finished → Type 0
    Fills page image path = (s : ChipState W) (trace : List ChipEvent) → GoesAlong model (next_event path) s [] trace
        → result_of (after_answers (answers_of model s trace) path) ≡ Some finished → page_past model s page Erased trace ≡ Programmed image

    refused : (page : ℕ) (image : List ℕ) (reply : Reply) → (reply ≡ Done → ⊥) → Fills page image (answer k reply)
    refused page image reply other s trace along over = absurd (other (same_reply reply (answers_of model s trace) over))

    -- the program of the image, and then its reply
    abbrev programs : ℕ → List ℕ → Path Finished
    programs page image = Then (ProgramEvent page image) (λ outcome. answer k (done_or ProgramFailed outcome))

    -- what is to be shown where the first event is this one
    abbrev FillsBy : ℕ → List ℕ → ChipState W → PageEvent → List ChipEvent → Type 0
    FillsBy page image s e trace =
        GoesAlong model (next_event (programs page image)) (happens model s (Complete e)) (answer_to model s e ∷ []) trace
        → result_of (after_answers (answers_of model s (Complete e ∷ trace)) (programs page image)) ≡ Some finished
        → page_past model s page Erased (Complete e ∷ trace) ≡ Programmed image

    by_program : (page : ℕ) (image : List ℕ) (s : ChipState W) (trace : List ChipEvent) → FillsBy page image s (ProgramEvent page image) trace
    by_program page image s trace along over =
        let now : ChipState W = happens model s (Complete (ProgramEvent page image)) in
        let outcome : Answer = answer_to model s (ProgramEvent page image) in
        let replied = same_reply (done_or ProgramFailed outcome) (answers_of model now trace) over in
        let past : PagePast = page_past_after model s page Erased (Complete (ProgramEvent page image)) in
        flips_alone (next_event (programs page image)) now (outcome ∷ []) page past trace refl along
        ∙ programmed_past s page image (good_from_done (failure_of model s (ProgramCall page)) replied)

    done : (page : ℕ) (image : List ℕ) → Fills page image (programs page image)
    done page image s [] along over = absurd (none-some _ over)
    done page image s (PowerCut e done_bits ∷ trace) along over = absurd (none-some _ over)
    done page image s (Flipped p bit ∷ trace) along over = done page image (happens model s (Flipped p bit)) trace along over
    done page image s (Complete e ∷ trace) along over =
        subst (λ (f : PageEvent). FillsBy page image s f trace) (same_Some (ProgramEvent page image) e along.0) (by_program page image s trace) along.1 over

    by_block : (good : Bool) (page : ℕ) (image : List ℕ) → Fills page image (only_if good k BadBlock (λ u. programs page image))
    by_block true page image = done page image
    by_block false page image = refused page image BadBlock (λ e. cc)

    by_range : (inside good : Bool) (page : ℕ) (image : List ℕ)
        → Fills page image (only_if inside k OutOfRange (λ u. only_if good k BadBlock (λ u. programs page image)))
    by_range true good page image = by_block good page image
    by_range false good page image = refused page image OutOfRange (λ e. cc)

  pub done_write_fills : (s : ChipState W) → DoneWritesFillPages model s
  done_write_fills s partitions k dev page body free trace after part there performed =
      let g = s.geometry in
      let image = page_image g body free in
      subst (λ (o : Option Part). Fills k after (chip_page g part page) image (operation_by g k o (Write dev page body free))) (sym there)
      (by_range k after (has_page g part page) (is_good_block k (chip_block part (page / g.pages_per_block))) (chip_page g part page) image)
      s trace performed.along performed.over
