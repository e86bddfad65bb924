use Rattle.std.proofs.Common.{◌≡◌, ◌∷◌, ◌++◌, [], ap, ◌∙◌, subst, Some}
use Rattle.std.specs.Prelude.{slice_get, option_and_then, IsSome}
use Rattle.chip_paths.specs.Operation.{Finished}
use Rattle.nand_model.specs.declared.words.Note.TheVariants.{Answered}
use Rattle.run_laws.proofs.Places.{position_is}
use Rattle.chip_paths.specs.Stage.{finished_in}
use Rattle.ctl_core.specs.Board.{slot_state, slot_states}
use Rattle.ctl_core.specs.SlotState.{SlotState, is_held_by, after_answer}
use Rattle.ctl_core.proofs.Slots.{at_some, kept_at}
use Rattle.ctl_core.proofs.OnCourse.{own_session, some_of}
use Rattle.ctl_core.proofs.BoardSteps.{stands_answer}
use Rattle.ctl_core.proofs.board.Board.answer.Goals as goal

pub returns : goal.returns
returns g c past turn held =
    let board = c.args.self.now in
    let x = position_is (λ (y : SlotState g.F.Flash.FaultState). is_held_by c.args.session y.holder) (slot_states board) c.args.k held in
    let slot = kept_at slot_state board.slots.items c.args.k c.index_mut.result.now x.0 c.index_mut.ensures.value x.1 in
    let over = some_of (finished_in x.0.stage) (subst (λ o. IsSome (option_and_then (λ (y : SlotState g.F.Flash.FaultState). finished_in y.stage) o)) x.1
    c.requires.finished) in
    let over_here : finished_in (slot_state c.index_mut.result.now).stage ≡ Some over.0 = ap (λ (y : SlotState g.F.Flash.FaultState). finished_in y.stage)
    slot.1 ∙ over.1 in
    let reply = at_some (λ (f : Finished). c.answer-reply.result ≡ f.reply) _ over.0 c.answer-reply.ensures.reply over_here in
    let kept = at_some (λ (f : Finished). slot_state c.answer-reply.new.self ≡ after_answer f.known (slot_state c.index_mut.result.now)) _ over.0
    c.answer-reply.ensures.slot over_here in
    let own = own_session past board c.args.session c.args.place turn c.index_mut-2.result.now c.index_mut-2.ensures.value in
    stands_answer past board c.args.session c.args.place turn c.index_mut-2.result.now own.0 own.1 c.args.k c.index_mut.result.now slot.0 over.0
    c.answer-reply.new.self c.replied.new.self c.push.new.self.notes
    held over_here kept (c.push.ensures.notes ∙ ap (λ r. board.notes.notes ++ Answered c.args.session r ∷ []) reply)
    (λ sizes commands notes later run n r m w i. c.replied.ensures sizes commands notes later run n r m w (ap (slice_get later) c.len-at.ensures ∙ i))
