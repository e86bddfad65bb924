use Rattle.std.proofs.Common.{◌≡◌, ◌∷◌, ◌++◌, [], None, ap, sym, ◌∙◌, subst}
use Rattle.std.specs.Prelude.{slice_get}
use Rattle.std.proofs.lemmas.Option.{slice_get_within}
use Rattle.std.proofs.Math.ListN.{set}
use Rattle.nand_model.specs.declared.geometry.Geometry.{Geometry}
use Rattle.nand_model.specs.declared.words.Command.{Command}
use Rattle.nand_model.specs.declared.words.Note.TheVariants.{Began}
use Rattle.nand_model.specs.Partitions.{Partitions}
use Rattle.command_model.specs.Runnable.{Fits}
use Rattle.session_steps.specs.Standing.{First, commands_by, standing}
use Rattle.chip_core.specs.Begin.{CanBegin}
use Rattle.ctl_core.specs.SlotState.{SlotState, after_begin}
use Rattle.ctl_core.specs.Past.{starts_of, course_of}
use Rattle.ctl_core.specs.Board.{past_of, slot_state, slot_states}
use Rattle.ctl_core.specs.Follows.{Follows}
use Rattle.ctl_core.proofs.Slots.{kept_at}
use Rattle.ctl_core.proofs.OnCourse.{mapped_some, own_session, begins_with, rests_here, where_err, kept_same}
use Rattle.ctl_core.proofs.BoardSteps.{first_can_run, op_here, can_begin_here, stands_resumed, stands_begun}
use Rattle.ctl_core.proofs.board.Board.begin_on.Goals as goal

pub next_op-requires : goal.next_op-requires
next_op-requires g c =
    let past = past_of c.args.journal.now in
    let board = c.args.self.now in
    let x = mapped_some (λ (y : SlotState g.F.Flash.FaultState). y.holder) (slice_get (slot_states board) c.args.k) None c.requires.free in
    let slot = kept_at slot_state board.slots.items c.args.k c.index.result.now x.0 c.index.ensures x.1 in
    let own = own_session past board c.args.session c.args.place c.requires.turn c.index_mut.result.now c.index_mut.ensures.value in
    let first = begins_with past board c.args.session c.args.place c.requires.turn c.index_mut.result.now own.0 own.1 c.args.k c.requires.chip in
    subst (λ (sizes : Geometry). First (Fits sizes) (commands_by c.commands-commands.result.now (standing board.notes.notes c.index_mut.result.now)))
    (sym c.geometry-g.ensures)
    (first_can_run past board c.args.session c.args.place c.requires.turn c.index_mut.result.now own.0 own.1 c.args.k c.index.result.now slot.0 first.0
    first.1 first.2
    c.commands-commands.result.now c.commands-commands.ensures)

pub returns-in_err-op-clause-no_memory : goal.returns-in_err-op-clause-no_memory
returns-in_err-op-clause-no_memory g c =
    let past = past_of c.args.journal.now in
    let board = c.args.self.now in
    let x = mapped_some (λ (y : SlotState g.F.Flash.FaultState). y.holder) (slice_get (slot_states board) c.args.k) None c.requires.free in
    let slot = kept_at slot_state board.slots.items c.args.k c.index.result.now x.0 c.index.ensures x.1 in
    let own = own_session past board c.args.session c.args.place c.requires.turn c.index_mut.result.now c.index_mut.ensures.value in
    let first = begins_with past board c.args.session c.args.place c.requires.turn c.index_mut.result.now own.0 own.1 c.args.k c.requires.chip in
    where_err c.from_residual.result _
    (stands_resumed past board c.args.session c.args.place c.requires.turn c.index_mut.result.now own.0 own.1 c.args.k c.index.result.now slot.0 first.0
    first.1 first.2
    c.next_op.new.self c.commands-commands.result.now c.commands-commands.ensures c.requires.none
    (λ sizes run m f. c.next_op.ensures.mirrors sizes run m (subst (λ (all : Geometry). First (λ (command : Command). sizes command ≡ all) run.commands)
    (sym c.geometry-g.ensures) f)))

pub index_mut-requires-2 : goal.index_mut-requires-2
index_mut-requires-2 g c =
    let board = c.args.self.now in
    let x = mapped_some (λ (y : SlotState g.F.Flash.FaultState). y.holder) (slice_get (slot_states board) c.args.k) None c.requires.free in
    let slot = kept_at slot_state board.slots.items c.args.k c.index.result.now x.0 c.index.ensures x.1 in
    rw board.slots.ok.0 (slice_get_within board.slots.items c.args.k c.index.result.now slot.0)

pub begin-requires-clause-rests : goal.begin-requires-clause-rests
begin-requires-clause-rests g c =
    let past = past_of c.args.journal.now in
    let board = c.args.self.now in
    let x = mapped_some (λ (y : SlotState g.F.Flash.FaultState). y.holder) (slice_get (slot_states board) c.args.k) None c.requires.free in
    let slot = kept_at slot_state board.slots.items c.args.k c.index_mut-2.result.now x.0 c.index_mut-2.ensures.value x.1 in
    rests_here past board c.args.session c.args.place c.requires.turn c.args.k c.index_mut-2.result.now slot.0
    (ap (λ (y : SlotState g.F.Flash.FaultState). y.holder) slot.1 ∙ x.2)

pub begin-requires-clause-can : goal.begin-requires-clause-can
begin-requires-clause-can g c =
    let past = past_of c.args.journal.now in
    let board = c.args.self.now in
    let x = mapped_some (λ (y : SlotState g.F.Flash.FaultState). y.holder) (slice_get (slot_states board) c.args.k) None c.requires.free in
    let slot = kept_at slot_state board.slots.items c.args.k c.index_mut-2.result.now x.0 c.index_mut-2.ensures.value x.1 in
    let before = kept_at slot_state board.slots.items c.args.k c.index.result.now x.0 c.index.ensures x.1 in
    let sizes : c.geometry-g.result ≡ (slot_state c.index_mut-2.result.now).state.geometry = c.geometry-g.ensures
    ∙ ap (λ (y : SlotState g.F.Flash.FaultState). y.state.geometry) (before.1 ∙ sym slot.1) in
    let own = own_session past board c.args.session c.args.place c.requires.turn c.index_mut.result.now c.index_mut.ensures.value in
    let first = begins_with past board c.args.session c.args.place c.requires.turn c.index_mut.result.now own.0 own.1 c.args.k c.requires.chip in
    let op = op_here past board c.args.session c.args.place c.requires.turn c.index_mut.result.now own.0 own.1 c.args.k c.index_mut-2.result.now slot.0
    first.0 first.1 first.2
    c.in_ok-op.op c.commands-commands.result.now c.commands-commands.ensures
    (λ sz run m f. c.in_ok-op.ensures.op sz run m (subst (λ (all : Geometry). First (λ (command : Command). sz command ≡ all) run.commands) (sym sizes) f)) in
    subst (λ (partitions : Partitions). CanBegin (slot_state c.index_mut-2.result.now).state.geometry partitions (slot_state c.index_mut-2.result.now).stage
    c.in_ok-op.op) (sym c.parts.ensures)
    (subst (CanBegin (slot_state c.index_mut-2.result.now).state.geometry c.args.journal.now.boot.partitions (slot_state c.index_mut-2.result.now).stage) op
    (can_begin_here past board c.args.session c.args.place c.requires.turn c.index_mut.result.now own.0 own.1 c.args.k c.index_mut-2.result.now slot.0 first.0
    first.1 first.2))

pub returns-in_err-begin-clause-no_memory : goal.returns-in_err-begin-clause-no_memory
returns-in_err-begin-clause-no_memory g c =
    let past = past_of c.args.journal.now in
    let board = c.args.self.now in
    let x = mapped_some (λ (y : SlotState g.F.Flash.FaultState). y.holder) (slice_get (slot_states board) c.args.k) None c.requires.free in
    let slot = kept_at slot_state board.slots.items c.args.k c.index_mut-2.result.now x.0 c.index_mut-2.ensures.value x.1 in
    let before = kept_at slot_state board.slots.items c.args.k c.index.result.now x.0 c.index.ensures x.1 in
    let sizes : c.geometry-g.result ≡ (slot_state c.index_mut-2.result.now).state.geometry = c.geometry-g.ensures
    ∙ ap (λ (y : SlotState g.F.Flash.FaultState). y.state.geometry) (before.1 ∙ sym slot.1) in
    let own = own_session past board c.args.session c.args.place c.requires.turn c.index_mut.result.now c.index_mut.ensures.value in
    let first = begins_with past board c.args.session c.args.place c.requires.turn c.index_mut.result.now own.0 own.1 c.args.k c.requires.chip in
    where_err c.from_residual-in_err-begin.result _
    (subst (λ chips. Follows past.boot (starts_of g.F.Flash.state past) (course_of g.F.Flash.fault_model g.F.Flash.state past) chips board.events board.dark
    board.notes.notes (set board.sessions.items c.args.place c.next_op.new.self))
    (sym (kept_same slot_state board.slots.items c.args.k c.index_mut-2.result.now c.begin.new.self slot.0 c.in_err-begin.ensures.no_memory))
    (stands_resumed past board c.args.session c.args.place c.requires.turn c.index_mut.result.now own.0 own.1 c.args.k c.index_mut-2.result.now slot.0 first.0
    first.1 first.2
    c.next_op.new.self c.commands-commands.result.now c.commands-commands.ensures c.requires.none
    (λ sz run m f. c.next_op.ensures.mirrors sz run m (subst (λ (all : Geometry). First (λ (command : Command). sz command ≡ all) run.commands) (sym sizes)
    f))))

pub returns-clause-stands : goal.returns-clause-stands
returns-clause-stands g c =
    let past = past_of c.args.journal.now in
    let board = c.args.self.now in
    let x = mapped_some (λ (y : SlotState g.F.Flash.FaultState). y.holder) (slice_get (slot_states board) c.args.k) None c.requires.free in
    let slot = kept_at slot_state board.slots.items c.args.k c.index_mut-2.result.now x.0 c.index_mut-2.ensures.value x.1 in
    let before = kept_at slot_state board.slots.items c.args.k c.index.result.now x.0 c.index.ensures x.1 in
    let sizes : c.geometry-g.result ≡ (slot_state c.index_mut-2.result.now).state.geometry = c.geometry-g.ensures
    ∙ ap (λ (y : SlotState g.F.Flash.FaultState). y.state.geometry) (before.1 ∙ sym slot.1) in
    let own = own_session past board c.args.session c.args.place c.requires.turn c.index_mut.result.now c.index_mut.ensures.value in
    let first = begins_with past board c.args.session c.args.place c.requires.turn c.index_mut.result.now own.0 own.1 c.args.k c.requires.chip in
    let op = op_here past board c.args.session c.args.place c.requires.turn c.index_mut.result.now own.0 own.1 c.args.k c.index_mut-2.result.now slot.0
    first.0 first.1 first.2
    c.in_ok-op.op c.commands-commands.result.now c.commands-commands.ensures
    (λ sz run m f. c.in_ok-op.ensures.op sz run m (subst (λ (all : Geometry). First (λ (command : Command). sz command ≡ all) run.commands) (sym sizes) f)) in
    stands_begun past board c.args.session c.args.place c.requires.turn c.index_mut.result.now own.0 own.1 c.args.k c.index_mut-2.result.now slot.0 first.0
    first.1 first.2
    c.begin.new.self c.next_op.new.self c.push.new.self.notes c.commands-commands.result.now c.commands-commands.ensures c.requires.none
    (ap (λ (y : SlotState g.F.Flash.FaultState). y.holder) slot.1 ∙ x.2)
    (c.in_ok-begin.ensures.begun ∙ (λ d. after_begin (c.parts.ensures d) c.args.session (sym op d) (slot_state c.index_mut-2.result.now)))
    (c.push.ensures.notes ∙ ap (λ o. board.notes.notes ++ Began c.args.session o ∷ []) (sym op))
    c.in_ok-op.ensures.waits
    (λ sz run m f. c.next_op.ensures.mirrors sz run m (subst (λ (all : Geometry). First (λ (command : Command). sz command ≡ all) run.commands) (sym sizes) f))
