-- A board stands where the course does, after a session's operation is answered or begun.
use Rattle.std.proofs.Common.{◌≡◌, ◌≤◌, ◌+◌, ℕ, List, [], ◌∷◌, ◌++◌, length, Some, None, refl, ap, sym, ◌∙◌, subst}
use Rattle.std.specs.Prelude.{slice_get, map, option_map, IsSome, IfSome}
use Rattle.std.proofs.Math.ListN.{set}
use Rattle.std.proofs.lemmas.Option.{slice_get_within}
use Rattle.nand_iface.specs.declared.flash.Flash.{Ghosts}
use Rattle.nand_model.specs.declared.geometry.Geometry.{Geometry}
use Rattle.nand_model.specs.declared.words.Command.{Command}
use Rattle.nand_model.specs.declared.words.Op.{Op}
use Rattle.nand_model.specs.declared.words.Part.{Part}
use Rattle.nand_model.specs.declared.words.Reply.{Reply}
use Rattle.nand_model.specs.declared.words.Note.{Note}
use Rattle.nand_model.specs.declared.words.Note.TheVariants.{Began, Answered}
use Rattle.chip_paths.specs.Operation.{Finished}
use Rattle.nand_model.specs.Partitions.{part_of, device_of}
use Rattle.command_model.specs.Session.{SessionRun, next_op, next_op_of, with_reply}
use Rattle.command_model.specs.Boot.{change_at}
use Rattle.run_model.specs.Course.{session_run}
use Rattle.command_model.specs.Runnable.{Fits}
use Rattle.tool_steps.specs.Boot.{commands_at}
use Rattle.session_steps.specs.declared.session.Session.{Session}
use Rattle.session_steps.specs.Standing.{number_of, standing, commands_by, First, IsWaiting}
use Rattle.session_steps.specs.Mirrors.{Mirrors}
use Rattle.command_model.specs.Taken.{IsTaken}
use Rattle.chip_paths.specs.Stage.{finished_in}
use Rattle.chip_core.specs.Begin.{CanBegin}
use Rattle.ctl_core.specs.declared.board.Board.{Board}
use Rattle.ctl_core.specs.declared.board.Slot.{Slot}
use Rattle.ctl_core.specs.SlotState.{SlotState, slot_as, first_held_by, after_begin, after_answer}
use Rattle.ctl_core.specs.Past.{Past, starts_of, sizes_in, course_of, next_course}
use Rattle.ctl_core.specs.Board.{slot_state, slot_states, IsAtTurn}
use Rattle.ctl_core.specs.Follows.{Follows}
use Rattle.ctl_core.proofs.Places.{set_changes, mapped_set}
use Rattle.ctl_core.proofs.Positions.{at_mapped}
use Rattle.ctl_core.proofs.Turns.{follows_as, follows_answer, follows_begin, follows_resumed}
use Rattle.ctl_core.proofs.Sums.{read_fits}
use Rattle.ctl_core.proofs.OnCourse.{holds, own_place, own_commands, run_left, run_found, FirstLeft}

pub get_last : {A : Type 0} (xs : List A) (x : A) → slice_get (xs ++ x ∷ []) (length xs) ≡ Some x
get_last [] x = refl
get_last (y ∷ ys) x = get_last ys x

module _ {F C : Type 0} {flash : Ghosts F} (past : Past F) (board : Board F C flash) (session place : ℕ) (turn : IsAtTurn past session place board)
    (s : Session) (at : slice_get board.sessions.items place ≡ Some s) (number : number_of s ≡ session) (k : ℕ) (slot : Slot F C flash)
    (slot_at : slice_get board.slots.items k ≡ Some slot) where
  pub stands_answer : (finished : Finished) (now_slot : Slot F C flash) (now_session : Session) (now_notes : List Note)
      → first_held_by session (slot_states board) ≡ Some k
      → finished_in (slot_state slot).stage ≡ Some finished → slot_state now_slot ≡ after_answer finished.known (slot_state slot)
      → now_notes ≡ board.notes.notes ++ Answered session finished.reply ∷ []
      → ((sizes : Command → Geometry) (commands : List Command) (notes later : List Note) (run : SessionRun) (n : ℕ) (reply : Reply)
      → Mirrors sizes commands notes s run → IsWaiting s
      → slice_get later (length board.notes.notes) ≡ Some (Answered n reply) → Mirrors sizes commands later now_session (with_reply sizes reply run))
      → Follows past.boot (starts_of flash.state past) (next_course flash.fault_model flash.state past session)
      (map slot_state (set board.slots.items k now_slot)) board.events board.dark now_notes (set board.sessions.items place now_session)
  stands_answer finished now_slot now_session now_notes held over is_slot is_notes replied_so =
      let after = follows_answer flash.fault_model past.boot (starts_of flash.state past)
      (course_of flash.fault_model flash.state past) (slot_states board) board.events board.dark board.notes.notes board.sessions.items
      turn.on_course.stands turn.lit turn.on_course.conditions.ascending (holds past board turn.on_course) place k s now_session
      (set board.sessions.items place now_session) (slot_state slot) finished turn.attached at
      (ap (λ n. first_held_by n (slot_states board)) number ∙ held) (at_mapped slot_state board.slots.items k slot slot_at) over
      (set_changes board.sessions.items place now_session (slice_get_within board.sessions.items place s at))
      (λ commands run m w. replied_so (sizes_in flash.state past) commands board.notes.notes (board.notes.notes ++ Answered (number_of s) finished.reply ∷ [])
      run (number_of s) finished.reply m w
      (get_last board.notes.notes (Answered (number_of s) finished.reply))) in
      follows_as past.boot (starts_of flash.state past) (next_course flash.fault_model flash.state past session)
      (change_at (slot_states board) k (after_answer finished.known)) (map slot_state (set board.slots.items k now_slot)) board.events board.events
      board.dark board.dark (board.notes.notes ++ Answered session finished.reply ∷ []) now_notes (set board.sessions.items place now_session)
      (set board.sessions.items place now_session)
      (mapped_set slot_state (after_answer finished.known) board.slots.items k slot now_slot slot_at is_slot) refl refl is_notes refl
      (subst (λ n. Follows past.boot (starts_of flash.state past) (next_course flash.fault_model flash.state past n)
      (change_at (slot_states board) k (after_answer finished.known)) board.events board.dark
      (board.notes.notes ++ Answered n finished.reply ∷ []) (set board.sessions.items place now_session)) number after)

  module _ (command : Command) (first : FirstLeft past board session place turn s at number command) (same_chip : first.is_ready.part.chip ≡ k) where
    -- the sizes of the command are those of the chip
    pub sizes_here : sizes_in flash.state past command ≡ (slot_state slot).state.geometry
    sizes_here =
        let there : slice_get (slot_states board) k ≡ Some (slot_state slot) = at_mapped slot_state board.slots.items k slot slot_at in
        let run : slice_get (slot_states board) k ≡ Some (slot_as past.boot.partitions first.is_ready.run) =
        ap (λ xs. slice_get xs k) turn.on_course.stands.keeps.of_chips
        ∙ at_mapped (slot_as past.boot.partitions) (course_of flash.fault_model flash.state past).chips k first.is_ready.run
        (ap (slice_get (course_of flash.fault_model flash.state past).chips) (sym same_chip) ∙ first.is_ready.run_at) in
        let same : slot_as past.boot.partitions first.is_ready.run ≡ slot_state slot = cc (there, run) in
        first.is_ready.sizes_are ∙ sym first.is_ready.same_sizes ∙ ap (λ (y : SlotState flash.FaultState). y.state.geometry) same

    first_sizes : First (λ c. sizes_in flash.state past c ≡ (slot_state slot).state.geometry) (own_place past board session place turn s at number).run.commands
    first_sizes = subst (First (λ c. sizes_in flash.state past c ≡ (slot_state slot).state.geometry)) (sym first.left) sizes_here

    -- the operation that the session gives is the next one
    pub op_here : (op : Op) (commands : List Command) → commands_at past.boot place ≡ Some commands
        → ((sizes : Command → Geometry) (run : SessionRun) → Mirrors sizes commands board.notes.notes s run
        → First (λ c. sizes c ≡ (slot_state slot).state.geometry) run.commands → next_op_of sizes run.commands run.replies ≡ Some op)
        → first.op ≡ op
    op_here op commands given gives =
        let p = own_place past board session place turn s at number in
        let own : p.own.1 ≡ commands = own_commands past board session place turn s at number commands given in
        let one : next_op_of (sizes_in flash.state past) p.run.commands p.run.replies ≡ Some op =
        gives (sizes_in flash.state past) p.run (subst (λ cs. Mirrors (sizes_in flash.state past) cs board.notes.notes s p.run) own p.mirrors) first_sizes in
        let other : next_op_of (sizes_in flash.state past) p.run.commands p.run.replies ≡ Some first.op =
        sym (ap (next_op (sizes_in flash.state past)) (run_found past board session place turn s at number)) ∙ first.next in
        cc (one, other)

    pub can_run_here : Fits (slot_state slot).state.geometry command
    can_run_here = subst (λ g. Fits g command) sizes_here first.is_ready.can

    -- what the session's next command is run with
    pub first_can_run : (commands : List Command) → commands_at past.boot place ≡ Some commands
        → First (Fits (slot_state slot).state.geometry) (commands_by commands (standing board.notes.notes s))
    first_can_run commands given =
        subst (First (Fits (slot_state slot).state.geometry)) (run_left past board session place turn s at number commands given)
        (subst (First (Fits (slot_state slot).state.geometry)) (sym first.left) can_run_here)

    pub can_begin_here : CanBegin (slot_state slot).state.geometry past.boot.partitions (slot_state slot).stage first.op
    can_begin_here =
        let is_part : part_of past.boot.partitions (device_of first.op) ≡ Some first.is_ready.part = ap (part_of past.boot.partitions) first.device
        ∙ first.is_ready.part_is in
        let same_blocks = sym first.is_ready.sizes_are ∙ sizes_here in
        record {
          device = record {
            there = subst (λ o. IsSome o) (sym is_part) refl;
            within = subst (λ o. IfSome o (λ (p : Part). p.start + p.count ≤ (slot_state slot).state.geometry.blocks)) (sym is_part)
                (subst (λ (g : Geometry). first.is_ready.part.start + first.is_ready.part.count ≤ g.blocks) same_blocks first.is_ready.within.1);
          };
          taken = subst (λ g. IsTaken g first.op) sizes_here first.taken;
          sums = read_fits past board turn.on_course k slot first.op slot_at;
        }

    -- a mirror of the session's own commands
    resumed_so : (now_session : Session) (commands : List Command) → commands_at past.boot place ≡ Some commands
        → ((sizes : Command → Geometry) (run : SessionRun) → Mirrors sizes commands board.notes.notes s run
        → First (λ c. sizes c ≡ (slot_state slot).state.geometry) run.commands → Mirrors sizes commands board.notes.notes now_session run)
        → (own : ℕ × List Command) (run : SessionRun) → slice_get past.boot.sessions place ≡ Some own
        → slice_get (course_of flash.fault_model flash.state past).sessions place ≡ Some run
        → Mirrors (sizes_in flash.state past) own.1 board.notes.notes s run → Mirrors (sizes_in flash.state past) own.1 board.notes.notes now_session run
    resumed_so now_session commands given resumed own run own_at run_at mirrors =
        let o : commands_at past.boot place ≡ Some own.1 = ap (option_map (λ (x : ℕ × List Command). x.1)) own_at in
        let same : commands ≡ own.1 = cc (o, given) in
        let p = own_place past board session place turn s at number in
        let run_same : p.run ≡ run = cc (p.run_at, run_at) in
        subst (λ cs. Mirrors (sizes_in flash.state past) cs board.notes.notes now_session run) same
        (resumed (sizes_in flash.state past) run (subst (λ cs. Mirrors (sizes_in flash.state past) cs board.notes.notes s run) (sym same) mirrors)
        (subst (λ (r : SessionRun). First (λ c. sizes_in flash.state past c ≡ (slot_state slot).state.geometry) r.commands) run_same first_sizes))

    -- the session stands where it stood, ready to begin
    pub stands_resumed : (now_session : Session) (commands : List Command) → commands_at past.boot place ≡ Some commands
        → first_held_by session (slot_states board) ≡ None
        → ((sizes : Command → Geometry) (run : SessionRun) → Mirrors sizes commands board.notes.notes s run
        → First (λ c. sizes c ≡ (slot_state slot).state.geometry) run.commands → Mirrors sizes commands board.notes.notes now_session run)
        → Follows past.boot (starts_of flash.state past) (course_of flash.fault_model flash.state past) (slot_states board) board.events board.dark board.notes.notes
        (set board.sessions.items place now_session)
    stands_resumed now_session commands given free resumed =
        follows_resumed flash.fault_model past.boot (starts_of flash.state past)
        (course_of flash.fault_model flash.state past) (slot_states board) board.events board.dark board.notes.notes board.sessions.items
        turn.on_course.stands turn.lit turn.on_course.conditions.ascending (holds past board turn.on_course) place s now_session
        (set board.sessions.items place now_session) at
        (ap (λ n. first_held_by n (slot_states board)) number ∙ free)
        (set_changes board.sessions.items place now_session (slice_get_within board.sessions.items place s at))
        (resumed_so now_session commands given resumed)

    pub stands_begun : (now_slot : Slot F C flash) (now_session : Session) (now_notes : List Note) (commands : List Command) → commands_at past.boot place
        ≡ Some commands
        → first_held_by session (slot_states board) ≡ None → slot.holder ≡ None → slot_state now_slot
        ≡ after_begin past.boot.partitions session first.op (slot_state slot)
        → now_notes ≡ board.notes.notes ++ Began session first.op ∷ [] → IsWaiting now_session
        → ((sizes : Command → Geometry) (run : SessionRun) → Mirrors sizes commands board.notes.notes s run
        → First (λ c. sizes c ≡ (slot_state slot).state.geometry) run.commands → Mirrors sizes commands board.notes.notes now_session run)
        → Follows past.boot (starts_of flash.state past) (next_course flash.fault_model flash.state past session)
        (map slot_state (set board.slots.items k now_slot)) board.events board.dark now_notes (set board.sessions.items place now_session)
    stands_begun now_slot now_session now_notes commands given free no_holder is_slot is_notes waits resumed =
        let after = follows_begin flash.fault_model past.boot (starts_of flash.state past)
        (course_of flash.fault_model flash.state past) (slot_states board) board.events board.dark board.notes.notes board.sessions.items
        turn.on_course.stands turn.lit turn.on_course.conditions.ascending (holds past board turn.on_course) place k s now_session
        (set board.sessions.items place now_session) (slot_state slot) first.op turn.attached at
        (ap (λ n. first_held_by n (slot_states board)) number ∙ free) (at_mapped slot_state board.slots.items k slot slot_at) no_holder
        (set_changes board.sessions.items place now_session (slice_get_within board.sessions.items place s at)) waits
        (ap (λ n. next_op (sizes_in flash.state past) (session_run (course_of flash.fault_model flash.state past) n)) number ∙ first.next)
        (first.chip ∙ ap Some same_chip)
        (resumed_so now_session commands given resumed) in
        follows_as past.boot (starts_of flash.state past) (next_course flash.fault_model flash.state past session)
        (change_at (slot_states board) k (after_begin past.boot.partitions session first.op)) (map slot_state (set board.slots.items k now_slot)) board.events
        board.events board.dark board.dark
        (board.notes.notes ++ Began session first.op ∷ []) now_notes (set board.sessions.items place now_session) (set board.sessions.items place now_session)
        (mapped_set slot_state (after_begin past.boot.partitions session first.op) board.slots.items k slot now_slot slot_at is_slot) refl refl is_notes refl
        (subst (λ n. Follows past.boot (starts_of flash.state past) (next_course flash.fault_model flash.state past n)
        (change_at (slot_states board) k (after_begin past.boot.partitions n first.op)) board.events board.dark
        (board.notes.notes ++ Began n first.op ∷ []) (set board.sessions.items place now_session)) number after)
