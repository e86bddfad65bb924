-- A whole operation, event after event.
use Rattle.std.proofs.Common.{◌≡◌, ℕ, ◌-◌, ◌<◌, Bool, true, false, List, [], ◌∷◌, ◌++◌, append_assoc, append-nil, Option, Some, None, refl, ap, sym, subst, ◌∙◌, inl, arith}
use Rattle.std.specs.Prelude.{IsSome, IfSome, ◌||◌}
use Rattle.std.proofs.lemmas.Bool.{false≢true}
use Rattle.chip_paths.specs.Attach.{Attaching}
use Rattle.nand_model.specs.Chip.{ChipEvent, ChipState, Complete, DoneBits, EraseCall, EraseEvent, FaultModel, PageEvent, ProgramCall, ProgramEvent, ReadEvent, after_trace, failure_of, happens}
use Rattle.chip_paths.specs.ChipRun.{AtStart, Progress}
use Rattle.nand_model.specs.Counts.{HasRisen}
use Rattle.chip_paths.specs.Operation.{Finished, Known, operation_path}
use Rattle.nand_model.specs.Partitions.{Partitions, device_of, part_of}
use Rattle.nand_model.specs.Path.{Answer, GoesAlong, Path, Over, Then, after_answers, answer_to, answers_of, first_event, good_or_failed, is_failure, is_good, is_uncut, next_event, result_of}
use Rattle.nand_model.specs.declared.words.Op.{Op}
use Rattle.nand_model.specs.declared.words.Reply.{Reply}
use Rattle.chip_paths.specs.Stage.{Stage, Attaches, Rests, Works, finished_in, is_resting, one_further, path_after, pending_note_after, stage_after, stage_begun, stage_event}
use Rattle.chip_core.specs.Whole.{HasCause, HasPerformed, changes_known, is_fault, known_at_rest, refusal_of}
use Rattle.chip_core.proofs.Endings.{EndsWithin, IsLawful, ended, is_lawful, may_answer}
use Rattle.chip_core.proofs.Faults.{HasNotFallen, faults_after, not_fallen_after, risen_after}

module _ {W : Type 0} (model : FaultModel W) (partitions : Partitions) (op : Op) (s : ChipState W) where
  -- a chip answers so
  may-answer : (now : ChipState W) (e : PageEvent) → may_answer e (answer_to model now e) ≡ true
  may-answer now (ReadEvent page) = refl
  may-answer now (ProgramEvent page image) = on (failure_of model now (ProgramCall page))
    where
      on : (failure : Option DoneBits) → (is_good (good_or_failed failure) || is_failure (good_or_failed failure)) ≡ true
      on None = refl
      on (Some done) = refl
  may-answer now (EraseEvent block) = on (failure_of model now (EraseCall block))
    where
      on : (failure : Option DoneBits) → (is_good (good_or_failed failure) || is_failure (good_or_failed failure)) ≡ true
      on None = refl
      on (Some done) = refl

  module _ (k : Known) where
    abbrev path : Path Finished
    path = operation_path s.geometry partitions k op

    abbrev refusal : Option Reply
    refusal = refusal_of s.geometry k (part_of partitions (device_of op)) op

    -- a trace of the operation from its start on, which goes on by these events where the chip is now
    record Trace (answers : List Answer) (now : ChipState W) (more : List ChipEvent) : Type 0 where
      trace : List ChipEvent
      along : GoesAlong model (next_event path) s [] trace
      uncut : is_uncut trace ≡ true
      leads : after_trace model now more ≡ after_trace model s trace
      answered : answers_of model s trace ≡ answers ++ answers_of model now more

    -- what is left ends within so many events, or the operation was refused and nothing is done
    abbrev Left : ℕ → Bool → ChipState W → Option Reply → Path Finished → Type 0
    Left n failed now None left = EndsWithin s.geometry k op n failed left
    Left n failed now (Some r) left = (left ≡ Over (ended k r)) × ((now ≡ s) × (is_fault r ≡ false))

    -- some events were answered so, and this is left of the operation
    record Comes (n : ℕ) (now : ChipState W) (left : Path Finished) : Type 0 where
      answers : List Answer
      rest : (more : List Answer) → after_answers (answers ++ more) path ≡ after_answers more left
      whole : (more : List ChipEvent) → GoesAlong model (next_event path) now answers more → is_uncut more ≡ true → Trace answers now more
      failed : Bool
      risen : failed ≡ true → HasRisen s.faults now.faults
      grown : HasNotFallen s.faults now.faults
      ends : Left n failed now refusal left

    starts : Comes 14 s path
    starts = record {
      answers = [];
      rest = λ more. refl;
      whole = λ more along uncut. record { trace = more; along = along; uncut = uncut; leads = refl; answered = refl };
      failed = false;
      risen = λ no. absurd (false≢true no);
      grown = inl (omega arith);
      ends = by_refusal refusal path (is_lawful s.geometry k partitions op);
    }
      where
        by_refusal : (r : Option Reply) (left : Path Finished) → IsLawful s.geometry k op 14 r left → Left 14 false s r left
        by_refusal None left lawful = lawful
        by_refusal (Some r) left lawful = (lawful.0, (refl, lawful.1))

    left_after : (n : ℕ) (failed : Bool) (now after : ChipState W) (e : PageEvent) (rest : Answer → Path Finished) (r : Option Reply) (a : Answer)
        → may_answer e a ≡ true → Left n failed now r (Then e rest) → Left (n - 1) (failed || is_failure a) after r (rest a)
    left_after n failed now after e rest None a may ends = ends.1 a may
    left_after n failed now after e rest (Some r) a may ends = let no : Then e rest ≡ Over (ended k r) = ends.0 in absurd cc

    -- one more event
    event_done : (n : ℕ) (now : ChipState W) (e : PageEvent) (rest : Answer → Path Finished) → Comes n now (Then e rest)
        → Comes (n - 1) (happens model now (Complete e)) (rest (answer_to model now e))
    event_done n now e rest c =
        let a = answer_to model now e in
        let after = happens model now (Complete e) in
        let counts = faults_after model now e in
        record {
          answers = c.answers ++ a ∷ [];
          rest = λ more. ap (λ answers. after_answers answers path) (append_assoc c.answers (a ∷ []) more) ∙ c.rest (a ∷ more);
          whole =
              λ more along uncut.
              let next : next_event path c.answers ≡ Some e =
              ap (λ answers. next_event path answers) (sym (append-nil c.answers)) ∙ ap first_event (c.rest []) in
              let t = c.whole (Complete e ∷ more) (next, along) uncut in
              record {
                trace = t.trace;
                along = t.along;
                uncut = t.uncut;
                leads = t.leads;
                answered = t.answered ∙ sym (append_assoc c.answers (a ∷ []) (answers_of model after more));
              };
          failed = c.failed || is_failure a;
          risen = λ either. subst (HasRisen s.faults) (sym counts) (risen_after s.faults now.faults c.failed (is_failure a) c.risen c.grown either);
          grown = subst (HasNotFallen s.faults) (sym counts) (not_fallen_after s.faults now.faults (is_failure a) c.grown);
          ends = left_after n c.failed now after e rest refusal a (may-answer now e) c.ends;
        }

    goes_on : (n : ℕ) (now : ChipState W) (left : Path Finished) (e : PageEvent) → Comes n now left → first_event left ≡ Some e
        → Comes (n - 1) (happens model now (Complete e)) (path_after (answer_to model now e) left)
    goes_on n now (Over end) e c is = absurd cc
    goes_on n now (Then first rest) e c is =
        let same : first ≡ e = cc in
        subst (λ e. Comes (n - 1) (happens model now (Complete e)) (rest (answer_to model now e))) same (event_done n now first rest c)

    -- an operation that is over stays so
    stays : (n m : ℕ) (now : ChipState W) (left : Path Finished) → Comes n now left → first_event left ≡ None → Comes m now left
    stays n m now (Then e rest) c none = absurd cc
    stays n m now (Over end) c none = record {
      answers = c.answers;
      rest = c.rest;
      whole = c.whole;
      failed = c.failed;
      risen = c.risen;
      grown = c.grown;
      ends = by_refusal refusal c.ends;
    }
      where
        by_refusal : (r : Option Reply) → Left n c.failed now r (Over end) → Left m c.failed now r (Over end)
        by_refusal None ends = ends
        by_refusal (Some r) ends = ends

    -- after its events it is over
    is_over : (now : ChipState W) (left : Path Finished) → Comes 0 now left → IsSome (result_of left)
    is_over now (Over end) c = refl
    is_over now (Then e rest) c = absurd (by_refusal refusal c.ends)
      where
        by_refusal : (r : Option Reply) → Left 0 c.failed now r (Then e rest) → ⊥
        by_refusal None ends = let some : 0 < 0 = ends.0 in omega arith
        by_refusal (Some r) ends = let no : Then e rest ≡ Over (ended k r) = ends.0 in cc

    kept_or : (n : ℕ) (failed : Bool) (now : ChipState W) (end : Finished) (r : Option Reply) → Left n failed now r (Over end)
        → changes_known s.geometry op end.reply ≡ false → end.known ≡ k
    kept_or n failed now end None ends unchanged = ends.kept unchanged
    kept_or n failed now end (Some r) ends unchanged = let is : Over end ≡ Over (ended k r) = ends.0 in cc

    why : (n : ℕ) (failed : Bool) (now : ChipState W) (end : Finished) → (failed ≡ true → HasRisen s.faults now.faults)
        → (r : Option Reply) → Left n failed now r (Over end) → HasCause r s now end.reply
    why n failed now end risen None ends = record { refused = tt; taken = ends.taken; failed = λ fault. risen (ends.fault fault) }
    why n failed now end risen (Some r) ends =
        let is : Over end ≡ Over (ended k r) = ends.0 in
        let reply : end.reply ≡ r = cc in
        record { refused = (reply, ends.1.0); taken = tt; failed = λ fault. absurd (false≢true (sym ends.1.1 ∙ ap is_fault (sym reply) ∙ fault)) }

  -- an operation that began at rest has come so far
  pub record HasCome (n : ℕ) (first : Stage) (now : ChipState W) (stage : Stage) : Type 0 where
    known : Known
    progress : Progress
    left : Path Finished
    rested : first ≡ Rests known
    stands : stage ≡ Works known progress left
    comes : Comes known n now left

  -- at its begin
  pub begins : (first begun : Stage) (now : ChipState W) → is_resting first ≡ true
      → begun ≡ stage_begun s.geometry partitions op first → now ≡ s → HasCome 14 first now begun
  begins (Attaches left quiet) begun now rests is same = absurd (false≢true rests)
  begins (Works k progress left) begun now rests is same = absurd (false≢true rests)
  begins (Rests k) begun now rests is same = record {
    known = k;
    progress = AtStart;
    left = path k;
    rested = refl;
    stands = is;
    comes = subst (λ (now : ChipState W). Comes k 14 now (path k)) (sym same) (starts k);
  }

  module _ (n : ℕ) (first : Stage) (now : ChipState W) (stage : Stage) (h : HasCome n first now stage) where
    -- after one more event
    pub one_event : (after : ChipState W) (last : Stage) (quiet : Bool) → (event : Option PageEvent) → stage_event stage ≡ event → IsSome event
        → IfSome event (λ e. after ≡ happens model now (Complete e))
        → IfSome event (λ e. last ≡ stage_after quiet (answer_to model now e) stage) → HasCome (n - 1) first after last
    one_event after last quiet None is there state stage_is = absurd (false≢true there)
    one_event after last quiet (Some e) is there state stage_is =
        let a = answer_to model now e in
        record {
          known = h.known;
          progress = one_further h.progress;
          left = path_after a h.left;
          rested = h.rested;
          stands = stage_is ∙ ap (stage_after quiet a) h.stands;
          comes = subst (λ (after : ChipState W). Comes h.known (n - 1) after (path_after a h.left)) (sym state)
              (goes_on h.known n now h.left e h.comes (sym (ap stage_event h.stands) ∙ is));
        }

    -- without an event left
    pub no_event : (m : ℕ) → stage_event stage ≡ None → HasCome m first now stage
    no_event m none = record {
      known = h.known;
      progress = h.progress;
      left = h.left;
      rested = h.rested;
      stands = h.stands;
      comes = stays h.known n m now h.left h.comes (sym (ap stage_event h.stands) ∙ none);
    }

    -- an event of an operation brings no note of an attach
    pub no_note : (quiet : Bool) (before after : Option (Bool × Attaching)) → (event : Option PageEvent) → IsSome event
        → IfSome event (λ e. after ≡ pending_note_after quiet (answer_to model now e) stage before) → after ≡ before
    no_note quiet before after None there note = absurd (false≢true there)
    no_note quiet before after (Some e) there note = note ∙ ap (λ stage. pending_note_after quiet (answer_to model now e) stage before) h.stands

  -- an operation that began at rest and has no event left
  pub record Ends (after : ChipState W) (first last : Stage) : Type 0 where
    pub known : Known
    pub end : Finished
    pub rested : first ≡ Rests known
    pub finished : finished_in last ≡ Some end
    pub performed : HasPerformed model partitions known op s after (Rests end.known) end.reply
    pub cause : HasCause (refusal_of s.geometry known (part_of partitions (device_of op)) op) s after end.reply

  ends : (first : Stage) (now : ChipState W) (stage : Stage) → HasCome 0 first now stage → Ends now first stage
  ends first now stage h = by_left h.left h.stands h.comes (is_over h.known now h.left h.comes)
    where
      by_left : (left : Path Finished) → stage ≡ Works h.known h.progress left → Comes h.known 0 now left → IsSome (result_of left) → Ends now first stage
      by_left (Then e rest) stands c over = absurd (false≢true over)
      by_left (Over end) stands c over =
          let t = c.whole [] tt refl in
          record {
            known = h.known;
            end = end;
            rested = h.rested;
            finished = ap finished_in stands;
            performed = record {
              known = end.known;
              rests = refl;
              trace = t.trace;
              leads = t.leads;
              performs = record {
                along = t.along;
                uncut = t.uncut;
                over = ap (λ answers. result_of (after_answers answers (path h.known))) t.answered ∙ ap result_of (c.rest []);
              };
              kept = kept_or h.known 0 c.failed now end (refusal h.known) c.ends;
            };
            cause = why h.known 0 c.failed now end c.risen (refusal h.known) c.ends;
          }

  -- where no event can be left
  pub ends_at : (n : ℕ) → n ≡ 0 → (first : Stage) (now : ChipState W) (stage : Stage) → HasCome n first now stage → Ends now first stage
  ends_at n none first now stage h = ends first now stage (subst (λ n. HasCome n first now stage) none h)

  module _ (after : ChipState W) (first last : Stage) (e : Ends after first last) where
    pub is_finished : IsSome (finished_in last)
    is_finished = subst IsSome (sym e.finished) refl

    pub rests_again : (next : Stage) → IfSome (finished_in last) (λ finished. next ≡ Rests finished.known) → next ≡ Rests e.end.known
    rests_again next gave = let Gives : Option Finished → Type 0 = λ f. IfSome f (λ finished. next ≡ Rests finished.known) in subst Gives e.finished gave

    pub is_at_rest : (next : Stage) → IfSome (finished_in last) (λ finished. next ≡ Rests finished.known) → is_resting next ≡ true
    is_at_rest next gave = ap is_resting (rests_again next gave)

    module _ (reply : Reply) (gave : IfSome (finished_in last) (λ finished. reply ≡ finished.reply)) (now : ChipState W) (state : now ≡ after) where
      same_reply : reply ≡ e.end.reply
      same_reply = let Gives : Option Finished → Type 0 = λ f. IfSome f (λ finished. reply ≡ finished.reply) in subst Gives e.finished gave

      pub has_performed : (next : Stage) → IfSome (finished_in last) (λ finished. next ≡ Rests finished.known)
          → IfSome (known_at_rest first) (λ k. HasPerformed model partitions k op s now next reply)
      has_performed next known =
          let Performed : Stage → Type 0 = λ stage. IfSome (known_at_rest stage) (λ k. HasPerformed model partitions k op s now next reply) in
          subst Performed (sym e.rested)
          (subst (λ (now : ChipState W). HasPerformed model partitions e.known op s now next reply) (sym state)
          (subst (λ next. HasPerformed model partitions e.known op s after next reply) (sym (rests_again next known))
          (subst (λ reply. HasPerformed model partitions e.known op s after (Rests e.end.known) reply) (sym same_reply) e.performed)))

      pub has_cause : IfSome (known_at_rest first) (λ k. HasCause (refusal_of s.geometry k (part_of partitions (device_of op)) op) s now reply)
      has_cause =
          rw state (subst (λ stage. IfSome (known_at_rest stage)
          (λ k. HasCause (refusal_of s.geometry k (part_of partitions (device_of op)) op) s after reply)) (sym e.rested)
          (subst (λ r. HasCause (refusal_of s.geometry e.known (part_of partitions (device_of op)) op) s after r) (sym same_reply) e.cause))
