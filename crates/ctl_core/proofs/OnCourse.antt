-- What a board that stands on its course knows, and what a step makes of it.
use Rattle.std.proofs.Common.{◌≡◌, ◌<◌, ◌+◌, arith, ℕ, zero, suc, true, false, List, [], ◌∷◌, length, Option, Some, None, Result, Ok, Err, OnErr, Bor, refl, ap, sym, ◌∙◌, subst, subst₂, get_or}
use Rattle.std.specs.Prelude.{slice_get, option_copied, All, map, option_map, option_and_then, IsSome, is_none, is_some}
use Rattle.std.proofs.Math.ListN.{set}
use Rattle.std.proofs.lemmas.Option.{slice_get_within, get_or_from_slice_get}
use Rattle.nand_model.specs.Flips.{FitsBits}
use Rattle.nand_iface.specs.declared.flash.Flash.{Ghosts}
use Rattle.nand_model.specs.declared.words.Command.{Command}
use Rattle.nand_model.specs.declared.words.Op.{Op}
use Rattle.nand_model.specs.declared.words.Part.{Part}
use Rattle.nand_model.specs.declared.words.Flip.{Flip}
use Rattle.nand_model.specs.declared.words.Reply.{Reply}
use Rattle.nand_model.specs.Chip.{PageEvent}
use Rattle.nand_model.specs.Path.{Path, Over, Then, first_event, result_of}
use Rattle.nand_model.specs.Partitions.{Partitions, part_of, device_of, chip_of, chip_of_part, command_device}
use Rattle.chip_paths.specs.Operation.{Finished}
use Rattle.chip_paths.specs.ChipRun.{ChipRun, Pending}
use Rattle.nand_model.specs.declared.words.CutAt.{CutAt}
use Rattle.run_model.specs.Course.{Course, session_run, pending_chip, can_begin, is_free_at, is_free, is_idle}
use Rattle.nand_model.specs.Cuts.{tear_at}
use Rattle.command_model.specs.Session.{SessionRun, next_op, next_op_of, is_finished}
use Rattle.command_model.specs.Boot.{change_at}
use Rattle.run_laws.proofs.Courses.{Holds}
use Rattle.run_laws.proofs.Faithful.{course_holds}
use Rattle.run_laws.proofs.Places.{position_is, position_none}
use Rattle.tool_steps.specs.Boot.{commands_at}
use Rattle.command_model.specs.Runnable.{Fits}
use Rattle.session_steps.specs.declared.session.Session.{Session}
use Rattle.session_steps.specs.Standing.{number_of, standing, outcomes_by, commands_by, First}
use Rattle.session_steps.proofs.TakenOps.{next_taken}
use Rattle.command_model.specs.Taken.{IsTaken}
use Rattle.chip_paths.specs.Stage.{Stage, Attaches, Rests, Works, stage_event, finished_in, is_working, is_resting, stage_by}
use Rattle.chip_core.specs.Chip.{chip_stage}
use Rattle.ctl_core.specs.declared.turn.Turn.TheVariants.{Did, Held, Done}
use Rattle.ctl_core.specs.declared.board.Board.{Board}
use Rattle.ctl_core.specs.declared.board.Slot.{Slot}
use Rattle.ctl_core.specs.SlotState.{SlotState, slot_as, first_attaching, first_held_by, is_held_by, slot_after, notes_after}
use Rattle.ctl_core.specs.Past.{Past, starts_of, sizes_in, course_of, next_course, is_done, has_no_command, session_of, session_on, session_at}
use Rattle.ctl_core.specs.Answer.{next_chip, held_unless_pending, held_by, held_or_did, dark_if, done_if, turn_answer}
use Rattle.ctl_core.specs.Board.{slot_state, slot_states, StandsAt, StandsAlike, IsOnCourse, IsAtTurn, DidEvent}
use Rattle.ctl_core.specs.Flips.{CanFlip, slot_flips_before}
use Rattle.ctl_core.proofs.Places.{item_at}
use Rattle.ctl_core.proofs.Positions.{mapped_length, at_mapped}
use Rattle.ctl_core.proofs.CourseSteps.{resting, holding, idle_else, turn_is_idle, busy_where_pending, busy_where_begins}
use Rattle.ctl_core.proofs.Sessions.{Placed, placed, found}
use Rattle.ctl_core.proofs.Flipped.{flipped_at}
use Rattle.ctl_core.proofs.Devices.{Ready, ready, chip_stays, first_at, next_of, drop_all}
use Rattle.ctl_core.proofs.Turns.{chip_there, unattached_there, pending_there, follows_as, follows_turn_event, held_next, found_held}

-- an option that a function makes some of
pub mapped_some : {A B : Type 0} (f : A → B) (o : Option A) (y : B) → option_map f o ≡ Some y → (x : A) × (o ≡ Some x) × (f x ≡ y)
mapped_some f None y h = cc
mapped_some f (Some x) y h = (x, refl, cc)

pub and_then_some : {A B : Type 0} (f : A → Option B) (o : Option A) (y : B) → option_and_then f o ≡ Some y → (x : A) × (o ≡ Some x) × (f x ≡ Some y)
and_then_some f None y h = cc
and_then_some f (Some x) y h = (x, refl, h)

-- what there is, where there is some
pub some_of : {A : Type 0} (o : Option A) → IsSome o → (x : A) × (o ≡ Some x)
some_of None h = cc
some_of (Some x) h = (x, refl)

-- the item that was lent from a place
pub lent_at : {A : Type 0} (xs : List A) (k : ℕ) (x lent : A) → slice_get xs k ≡ Some x → lent ≡ get_or xs k lent → slice_get xs k ≡ Some lent
lent_at xs k x lent h is = h ∙ ap Some (sym (is ∙ get_or_from_slice_get xs k x lent h))

pub lent_within : {A : Type 0} (xs : List A) (k : ℕ) (lent : A) → k < length xs → lent ≡ get_or xs k lent → slice_get xs k ≡ Some lent
lent_within xs k lent h is = let x = item_at xs k h in lent_at xs k x.0 lent x.1 is

pub first_of_list : {A : Type 0} (xs : List A) (x : A) → slice_get xs 0 ≡ Some x → (rest : List A) × (xs ≡ x ∷ rest)
first_of_list [] x h = cc
first_of_list (y ∷ ys) x h = let same : y ≡ x = cc in (ys, ap (λ z. z ∷ ys) same)

pub no_first : {A : Type 0} (xs : List A) → None ≡ slice_get xs 0 → xs ≡ []
no_first [] h = refl
no_first (y ∷ ys) h = cc

pub none_lent : {A : Type 0} (lent : Option (Bor A)) (o : Option A) → option_copied lent ≡ o → lent ≡ None → None ≡ o
none_lent None o h e = h
none_lent (Some x) o h e = cc

pub some_lent : {A : Type 0} (lent : Option (Bor A)) (o : Option A) (x : Bor A) → option_copied lent ≡ o → lent ≡ Some x → o ≡ Some x.now
some_lent None o x h e = cc
some_lent {A} (Some y) o x h e = let same : y ≡ x = cc in sym h ∙ ap (λ (z : Bor A). Some z.now) same

-- what is answered where memory runs out
pub where_err : {T E : Type 0} (result : Result T E) (P : Type 0) → P → OnErr result P
where_err (Ok x) P h = tt
where_err (Err e) P h = h

-- a list of chips in slots in which one chip stays as it is kept
pub kept_same : {A B : Type 0} (f : A → B) (xs : List A) (k : ℕ) (x new : A) → slice_get xs k ≡ Some x → f new ≡ f x → map f (set xs k new) ≡ map f xs
kept_same f [] k x new h e = refl
kept_same f (y ∷ ys) zero x new h e = let same : y ≡ x = cc in ap (λ z. z ∷ map f ys) (e ∙ ap f (sym same))
kept_same f (y ∷ ys) (suc k) x new h e = ap (λ zs. f y ∷ zs) (kept_same f ys k x new h e)

-- an operation in flight has an event left, or is over
over_or_event : (path : Path Finished) → first_event path ≡ None → (finished : Finished) × (result_of path ≡ Some finished)
over_or_event (Over finished) h = (finished, refl)
over_or_event (Then event rest) h = cc

pub works_on : (stage : Stage) → is_working stage ≡ true → stage_event stage ≡ None → (finished : Finished) × (finished_in stage ≡ Some finished)
works_on (Attaches left quiet) h i = cc
works_on (Rests known) h i = cc
works_on (Works known progress left) h i = over_or_event left i

module _ {F C : Type 0} {flash : Ghosts F} (past : Past F) (board : Board F C flash) (on : IsOnCourse past board) where
  pub holds : Holds flash.fault_model past.boot (starts_of flash.state past) (course_of flash.fault_model flash.state past)
  holds = course_holds flash.fault_model past.boot (starts_of flash.state past) past.attaches past.turns

  -- a chip of the course is in a slot
  pub slot_there : (k : ℕ) (c : ChipRun flash.FaultState) → slice_get (course_of flash.fault_model flash.state past).chips k ≡ Some c
      → (slice_get (slot_states board) k ≡ Some (slot_as past.boot.partitions c)) × (k < length board.slots.items)
  slot_there k c h =
      let there : slice_get (slot_states board) k ≡ Some (slot_as past.boot.partitions c) =
      ap (λ xs. slice_get xs k) on.stands.keeps.of_chips ∙ at_mapped (slot_as past.boot.partitions) (course_of flash.fault_model flash.state past).chips k c h
      in (
        there,
        (let within : k < length (slot_states board) = slice_get_within (slot_states board) k (slot_as past.boot.partitions c) there in omega
            (arith, mapped_length slot_state board.slots.items)),
      )

  -- a flip of the boot is one of a chip in a slot
  pub can_flip : All (CanFlip (slot_states board)) past.boot.flips
  can_flip k d h =
      let flip : Flip = get_or past.boot.flips k d in
      let start = on.conditions.flips k d h in
      let stays = chip_stays flash.fault_model past.boot (starts_of flash.state past) (course_of flash.fault_model flash.state past) holds flip.chip start.0
      start.1 in
      let there = slot_there flip.chip stays.0 stays.1 in
      (slot_as past.boot.partitions stays.0, there.0, subst (λ g. FitsBits g flip.page flip.bits) (sym stays.2) start.2)

  -- a step that does an event
  stands_event : (lit : board.dark ≡ false) (session k : ℕ) (x y : SlotState flash.FaultState) (e : PageEvent) (new : Board F C flash)
      → first_attaching (slot_states board) ≡ None
      → first_held_by session (slot_states board) ≡ Some k → slice_get (slot_states board) k ≡ Some x → stage_event x.stage ≡ Some e
      → slice_get (slot_flips_before flash.fault_model past.boot.flips (board.events + 1) (slot_states board)) k ≡ Some y
      → DidEvent past.boot.flips past.boot.cut k y e board new
      → StandsAt past (next_course flash.fault_model flash.state past session) new
  stands_event lit session k x y e new attached held at has flipped did =
      let tear = tear_at past.boot.cut (board.events + 1) in
      follows_as past.boot (starts_of flash.state past) (next_course flash.fault_model flash.state past session)
      (change_at (slot_flips_before flash.fault_model past.boot.flips (board.events + 1) (slot_states board)) k
      (slot_after flash.fault_model e tear)) (slot_states new) (board.events + 1) new.events (is_some tear) new.dark
      (notes_after flash.fault_model k (board.events + 1) e tear y board.notes.notes) new.notes.notes
      board.sessions.items new.sessions.items did.chips did.events did.dark did.notes did.sessions
      (follows_turn_event flash.fault_model past.boot (starts_of flash.state past) (course_of flash.fault_model flash.state past)
      (slot_states board) board.events board.dark board.notes.notes board.sessions.items
      on.stands lit session k x y e attached held at has flipped)

  pub stands_now : (lit : board.dark ≡ false) (session k : ℕ) (x : SlotState flash.FaultState) (e : PageEvent) (new : Board F C flash)
      → first_attaching (slot_states board) ≡ None
      → first_held_by session (slot_states board) ≡ Some k → slice_get (slot_states board) k ≡ Some x → stage_event x.stage ≡ Some e
      → (flips : List Flip) (cut : Option CutAt) → flips ≡ past.boot.flips → cut ≡ past.boot.cut
      → ((y : SlotState flash.FaultState) (e : PageEvent) → slice_get (slot_flips_before flash.fault_model flips (board.events + 1) (slot_states board)) k
      ≡ Some y → stage_event y.stage ≡ Some e
      → DidEvent flips cut k y e board new)
      → StandsAt past (next_course flash.fault_model flash.state past session) new
  stands_now lit session k x e new attached held at has flips cut same same_cut did =
      let flipped = flipped_at flash.fault_model past.boot.flips (board.events + 1) (slot_states board) k x at in
      let now = subst₂ (λ fs o. (y : SlotState flash.FaultState) (e : PageEvent) → slice_get
      (slot_flips_before flash.fault_model fs (board.events + 1) (slot_states board)) k ≡ Some y
      → stage_event y.stage ≡ Some e → DidEvent fs o k y e board new) same same_cut did in
      stands_event lit session k x flipped.0 e new attached held at has flipped.1 (now flipped.0 e flipped.1 (ap stage_event flipped.2.stage ∙ has))

  -- a board that differs in its room stands where it stood
  pub stands_alike : (course : Course flash.FaultState) (new : Board F C flash) → StandsAt past course board → StandsAlike board new → StandsAt past course new
  stands_alike course new stands alike =
      follows_as past.boot (starts_of flash.state past) course (slot_states board) (slot_states new) board.events new.events board.dark new.dark
      board.notes.notes new.notes.notes board.sessions.items new.sessions.items
      alike.chips alike.events alike.dark alike.notes alike.sessions stands

  -- a session that holds a chip has commands left
  pub held_not_done : (lit : board.dark ≡ false) (session k : ℕ) → first_held_by session (slot_states board) ≡ Some k → is_done (course_of flash.fault_model flash.state past) session
      ≡ false
  held_not_done lit session k h =
      let x = position_is (λ (y : SlotState flash.FaultState). is_held_by session y.holder) (slot_states board) k h in
      let holder = found_held flash.fault_model past.boot (starts_of flash.state past) (course_of flash.fault_model flash.state past)
      (slot_states board) board.events board.dark board.notes.notes board.sessions.items on.stands lit
      on.conditions.ascending holds session k x.0 h x.1 in
      let n = held_next flash.fault_model past.boot (starts_of flash.state past) (course_of flash.fault_model flash.state past)
      (slot_states board) board.events board.dark board.notes.notes board.sessions.items on.stands lit
      on.conditions.ascending holds k session x.0 x.1 holder in
      ap has_no_command n.2 ∙ asks_on n.0.replies n.1 n.0.commands n.3
    where
      asks_on : (replies : List Reply) (op : Op) (cs : List Command) → next_op_of (sizes_in flash.state past) cs replies ≡ Some op → is_finished cs ≡ false
      asks_on replies op [] e = cc
      asks_on replies op (command ∷ rest) e = refl

module _ {F C : Type 0} {flash : Ghosts F} (past : Past F) (board : Board F C flash) (session place : ℕ) (turn : IsAtTurn past session place board) where
  -- the session whose turn it is
  pub own_session : (s : Session) → s ≡ get_or board.sessions.items place s → (slice_get board.sessions.items place ≡ Some s) × (number_of s ≡ session)
  own_session s is =
      let m = mapped_some number_of (slice_get board.sessions.items place) session turn.own in
      let at = lent_at board.sessions.items place m.0 s m.1 is in
      let same : m.0 ≡ s = cc (m.1, at) in
      (at, ap number_of (sym same) ∙ m.2)

  module _ (s : Session) (at : slice_get board.sessions.items place ≡ Some s) (number : number_of s ≡ session) where
    pub own_place : Placed (sizes_in flash.state past) past.boot.sessions board.notes.notes (course_of flash.fault_model flash.state past).sessions place s
    own_place = placed (sizes_in flash.state past) past.boot.sessions board.notes.notes board.sessions.items
        (course_of flash.fault_model flash.state past).sessions turn.on_course.stands.mirrors place s at

    pub run_found : session_run (course_of flash.fault_model flash.state past) session ≡ Some own_place.run
    run_found = ap (session_run (course_of flash.fault_model flash.state past)) (sym number)
        ∙ found (sizes_in flash.state past) past.boot.sessions board.notes.notes board.sessions.items (course_of flash.fault_model flash.state past).sessions
        turn.on_course.stands.mirrors
        turn.on_course.conditions.ascending place s own_place.run at own_place.run_at

    -- the commands that are handed to the session are its own
    pub own_commands : (commands : List Command) → commands_at past.boot place ≡ Some commands → own_place.own.1 ≡ commands
    own_commands commands h = let own : commands_at past.boot place ≡ Some own_place.own.1 = ap (option_map (λ (x : ℕ × List Command). x.1))
        own_place.begun_at in cc (own, h)

    pub run_left : (commands : List Command) → commands_at past.boot place ≡ Some commands → own_place.run.commands
        ≡ commands_by commands (standing board.notes.notes s)
    run_left commands h = own_place.mirrors.shows.left ∙ ap (λ cs. commands_by cs (standing board.notes.notes s)) (own_commands commands h)

    -- the first command that is not finished
    pub record FirstLeft (command : Command) : Type 0 where
      pub rest : List Command
      pub left : own_place.run.commands ≡ command ∷ rest
      pub is_ready : Ready flash.fault_model past.boot (starts_of flash.state past) (course_of flash.fault_model flash.state past)
          (holds past board turn.on_course) command
      pub op : Op
      pub next : next_op (sizes_in flash.state past) (session_run (course_of flash.fault_model flash.state past) session) ≡ Some op
      pub device : device_of op ≡ command_device command
      pub taken : IsTaken (sizes_in flash.state past command) op
      pub chip : chip_of past.boot.partitions (device_of op) ≡ Some is_ready.part.chip

    pub first_left : (command : Command) → slice_get own_place.run.commands 0 ≡ Some command → FirstLeft command
    first_left command h =
        let f = first_of_list own_place.run.commands command h in
        let own_at : slice_get own_place.own.1 (length (outcomes_by own_place.own.1 (standing board.notes.notes s))) ≡ Some command =
        first_at (length (outcomes_by own_place.own.1 (standing board.notes.notes s))) own_place.own.1 command f.0 (sym own_place.mirrors.shows.left ∙ f.1) in
        let r = ready flash.fault_model past.boot (starts_of flash.state past) (course_of flash.fault_model flash.state past)
        (holds past board turn.on_course) turn.on_course.conditions
        place (length (outcomes_by own_place.own.1 (standing board.notes.notes s))) own_place.own command own_place.begun_at own_at in
        let o = next_of (sizes_in flash.state past) own_place.own.1 board.notes.notes s own_place.run own_place.mirrors command f.0 f.1 r.can in
        let all = drop_all (λ c. Fits (sizes_in flash.state past c) c) (length (outcomes_by own_place.own.1 (standing board.notes.notes s))) own_place.own.1
        own_place.mirrors.runnable in
        let taken = subst (First (λ c. (device_of o.0 ≡ command_device c) × IsTaken (sizes_in flash.state past c) o.0)) f.1
        (next_taken (sizes_in flash.state past) own_place.run o.0 (subst (All (λ c. Fits (sizes_in flash.state past c) c))
        (sym own_place.mirrors.shows.left) all) o.1) in
        record {
          rest = f.0;
          left = f.1;
          is_ready = r;
          op = o.0;
          next = ap (next_op (sizes_in flash.state past)) run_found ∙ o.1;
          device = taken.0;
          taken = taken.1;
          chip = ap (chip_of past.boot.partitions) taken.0 ∙ ap chip_of_part r.part_is;
        }

    -- the chip of the next operation, by the command that comes next
    pub chip_next : (command : Command) (first : FirstLeft command) → Some first.is_ready.part.chip
        ≡ next_chip past.boot.partitions (sizes_in flash.state past) (course_of flash.fault_model flash.state past) session
    chip_next command first = sym (ap (option_and_then (λ (op : Op). chip_of past.boot.partitions (device_of op))) first.next ∙ first.chip)

    pub not_done : (command : Command) (first : FirstLeft command) → false ≡ is_done (course_of flash.fault_model flash.state past) session
    not_done command first = sym (ap has_no_command run_found ∙ ap is_finished first.left)

    pub done_where_none : own_place.run.commands ≡ [] → (next_chip past.boot.partitions (sizes_in flash.state past)
        (course_of flash.fault_model flash.state past) session ≡ None)
        × (is_done (course_of flash.fault_model flash.state past) session ≡ true)
    done_where_none h =
        let none : next_op (sizes_in flash.state past) (session_run (course_of flash.fault_model flash.state past) session) ≡ None =
        ap (next_op (sizes_in flash.state past)) run_found ∙ ap (λ cs. next_op_of (sizes_in flash.state past) cs own_place.run.replies) h in
        (ap (option_and_then (λ (op : Op). chip_of past.boot.partitions (device_of op))) none, ap has_no_command run_found ∙ ap is_finished h)

    -- where a chip is next, a command is
    pub begins_with : (k : ℕ) → next_chip past.boot.partitions (sizes_in flash.state past) (course_of flash.fault_model flash.state past) session ≡ Some k
        → (command : Command) × (first : FirstLeft command) × (first.is_ready.part.chip ≡ k)
    begins_with k h = by_commands own_place.run.commands refl
      where
        by_commands : (cs : List Command) → own_place.run.commands ≡ cs → (command : Command) × (first : FirstLeft command) × (first.is_ready.part.chip ≡ k)
        by_commands [] e = let none : None ≡ Some k = sym (done_where_none e).0 ∙ h in cc
        by_commands (command ∷ rest) e =
            let first = first_left command (ap (λ cs. slice_get cs 0) e) in
            let both : Some first.is_ready.part.chip ≡ Some k = chip_next command first ∙ h in
            (command, first, cc)

    -- the next command, as it is lent
    pub none_next : (commands : List Command) (lent : Option (Bor Command)) → commands_at past.boot place ≡ Some commands
        → option_copied lent ≡ slice_get (commands_by commands (standing board.notes.notes s)) 0 → lent ≡ None
        → (next_chip past.boot.partitions (sizes_in flash.state past) (course_of flash.fault_model flash.state past) session ≡ None)
        × (is_done (course_of flash.fault_model flash.state past) session ≡ true)
    none_next commands lent h copied none = done_where_none
        (no_first own_place.run.commands (none_lent lent (slice_get own_place.run.commands 0) (copied ∙ ap (λ cs. slice_get cs 0) (sym (run_left commands h)))
        none))

    pub some_next : (commands : List Command) (lent : Option (Bor Command)) (command : Bor Command) → commands_at past.boot place ≡ Some commands
        → option_copied lent ≡ slice_get (commands_by commands (standing board.notes.notes s)) 0 → lent ≡ Some command → FirstLeft command.now
    some_next commands lent command h copied some = first_left command.now
        (some_lent lent (slice_get own_place.run.commands 0) command (copied ∙ ap (λ cs. slice_get cs 0) (sym (run_left commands h))) some)

    -- the part of its device, as it is lent
    pub part_next : (command : Command) (first : FirstLeft command) (partitions : Partitions) (dev : ℕ) (lent : Option (Bor Part)) → partitions
        ≡ past.boot.partitions → dev ≡ command_device command
        → option_copied lent ≡ part_of partitions dev → option_copied lent ≡ Some first.is_ready.part
    part_next command first partitions dev lent p d copied = copied ∙ (λ i. part_of (p i) (d i)) ∙ first.is_ready.part_is

  -- its course is not dark
  lit_course : (course_of flash.fault_model flash.state past).dark ≡ false
  lit_course = sym turn.on_course.stands.keeps.of_dark ∙ turn.lit

  -- the answers of a turn
  pub answers_done : is_done (course_of flash.fault_model flash.state past) session ≡ true
      → Done ≡ turn_answer past.boot.partitions (sizes_in flash.state past) (course_of flash.fault_model flash.state past) session
  answers_done h = sym (λ d. dark_if (lit_course d) (done_if (h d) (held_or_did (held_by past.boot.partitions (sizes_in flash.state past)
      (course_of flash.fault_model flash.state past) session))))

  answers_else : (p : Option ℕ) (k : Option ℕ) → is_done (course_of flash.fault_model flash.state past) session ≡ false
      → pending_chip (course_of flash.fault_model flash.state past) session ≡ p
      → next_chip past.boot.partitions (sizes_in flash.state past) (course_of flash.fault_model flash.state past) session ≡ k
      → held_or_did (held_unless_pending (course_of flash.fault_model flash.state past) p k)
      ≡ turn_answer past.boot.partitions (sizes_in flash.state past) (course_of flash.fault_model flash.state past) session
  answers_else p k h i j = sym ((λ d. dark_if (lit_course d) (done_if (h d) (held_or_did (held_unless_pending
      (course_of flash.fault_model flash.state past) (i d) (j d))))))

  pending_is_none : first_held_by session (slot_states board) ≡ None → pending_chip (course_of flash.fault_model flash.state past) session ≡ None
  pending_is_none h = pending_there flash.fault_model past.boot (starts_of flash.state past)
      (course_of flash.fault_model flash.state past) (slot_states board) board.events board.dark board.notes.notes board.sessions.items
      turn.on_course.stands session turn.attached ∙ h

  pub answers_did_pending : (k : ℕ) → is_done (course_of flash.fault_model flash.state past) session ≡ false → first_held_by session (slot_states board) ≡ Some k
      → Did ≡ turn_answer past.boot.partitions (sizes_in flash.state past) (course_of flash.fault_model flash.state past) session
  answers_did_pending k h i = answers_else (Some k) (next_chip past.boot.partitions (sizes_in flash.state past) (course_of flash.fault_model flash.state past)
      session) h
      (pending_there flash.fault_model past.boot (starts_of flash.state past) (course_of flash.fault_model flash.state past)
      (slot_states board) board.events board.dark board.notes.notes board.sessions.items
      turn.on_course.stands session turn.attached ∙ i) refl

  -- a chip in a slot, as the course has it
  chip_of_slot : (k : ℕ) (slot : Slot F C flash) → slice_get board.slots.items k ≡ Some slot
      → (c : ChipRun flash.FaultState) × (slice_get (course_of flash.fault_model flash.state past).chips k ≡ Some c)
      × (slot_as past.boot.partitions c ≡ slot_state slot)
  chip_of_slot k slot h = chip_there flash.fault_model past.boot (starts_of flash.state past)
      (course_of flash.fault_model flash.state past) (slot_states board) board.events board.dark board.notes.notes board.sessions.items
      turn.on_course.stands k (slot_state slot) (at_mapped slot_state board.slots.items k slot h)

  idle_where_blocked : first_held_by session (slot_states board) ≡ None
      → can_begin past.boot.partitions (course_of flash.fault_model flash.state past) (next_op (sizes_in flash.state past)
      (session_run (course_of flash.fault_model flash.state past) session)) ≡ false
      → is_idle past.boot.partitions (sizes_in flash.state past) (course_of flash.fault_model flash.state past) session ≡ true
  idle_where_blocked i blocked =
      let attached = unattached_there flash.fault_model past.boot (starts_of flash.state past)
      (course_of flash.fault_model flash.state past) (slot_states board) board.events board.dark board.notes.notes board.sessions.items
      turn.on_course.stands ∙ turn.attached in
      idle_else flash.fault_model past.boot (sizes_in flash.state past) (course_of flash.fault_model flash.state past) session lit_course
      attached (pending_is_none i) blocked

  pub busy_pending : (k : ℕ) → first_held_by session (slot_states board) ≡ Some k → is_idle past.boot.partitions (sizes_in flash.state past)
      (course_of flash.fault_model flash.state past) session ≡ false
  busy_pending k h =
      let attached = unattached_there flash.fault_model past.boot (starts_of flash.state past)
      (course_of flash.fault_model flash.state past) (slot_states board) board.events board.dark board.notes.notes board.sessions.items
      turn.on_course.stands ∙ turn.attached in
      busy_where_pending flash.fault_model past.boot (sizes_in flash.state past) (course_of flash.fault_model flash.state past) session
      lit_course attached k
      (pending_there flash.fault_model past.boot (starts_of flash.state past) (course_of flash.fault_model flash.state past)
      (slot_states board) board.events board.dark board.notes.notes board.sessions.items
      turn.on_course.stands session turn.attached ∙ h)

  -- nothing is done where the next operation cannot begin
  stays_where_blocked : first_held_by session (slot_states board) ≡ None
      → can_begin past.boot.partitions (course_of flash.fault_model flash.state past) (next_op (sizes_in flash.state past)
      (session_run (course_of flash.fault_model flash.state past) session)) ≡ false
      → next_course flash.fault_model flash.state past session ≡ course_of flash.fault_model flash.state past
  stays_where_blocked i blocked = turn_is_idle_by (idle_where_blocked i blocked)
    where
      turn_is_idle_by : is_idle past.boot.partitions (sizes_in flash.state past) (course_of flash.fault_model flash.state past) session ≡ true
          → next_course flash.fault_model flash.state past session ≡ course_of flash.fault_model flash.state past
      turn_is_idle_by h =
          let attached = unattached_there flash.fault_model past.boot (starts_of flash.state past)
          (course_of flash.fault_model flash.state past) (slot_states board) board.events board.dark board.notes.notes board.sessions.items
          turn.on_course.stands ∙ turn.attached in
          turn_is_idle flash.fault_model past.boot (sizes_in flash.state past) (course_of flash.fault_model flash.state past) session
          lit_course attached h

  -- a chip that no session holds is at rest
  pub rests_here : (k : ℕ) (slot : Slot F C flash) → slice_get board.slots.items k ≡ Some slot → slot.holder ≡ None → is_resting (chip_stage slot.chip) ≡ true
  rests_here k slot at holder =
      let c = chip_of_slot k slot at in
      let attached = unattached_there flash.fault_model past.boot (starts_of flash.state past)
      (course_of flash.fault_model flash.state past) (slot_states board) board.events board.dark board.notes.notes board.sessions.items
      turn.on_course.stands ∙ turn.attached in
      let known = position_none (λ (d : ChipRun flash.FaultState). is_none d.known) (course_of flash.fault_model flash.state past).chips attached k c.0 c.1 in
      let r = resting past.boot.partitions c.0 known (ap (λ (y : SlotState flash.FaultState). y.holder) c.2 ∙ holder) in
      ap (λ (y : SlotState flash.FaultState). is_resting y.stage) (sym c.2) ∙ (λ d. is_resting (stage_by past.boot.partitions c.0 (r.1 d) (r.2 d)))

  pub answers_held : (k by : ℕ) (slot : Slot F C flash) → is_done (course_of flash.fault_model flash.state past) session ≡ false
      → first_held_by session (slot_states board) ≡ None
      → next_chip past.boot.partitions (sizes_in flash.state past) (course_of flash.fault_model flash.state past) session ≡ Some k
      → slice_get board.slots.items k ≡ Some slot → slot.holder ≡ Some by
      → (Held by ≡ turn_answer past.boot.partitions (sizes_in flash.state past) (course_of flash.fault_model flash.state past) session)
      × (next_course flash.fault_model flash.state past session ≡ course_of flash.fault_model flash.state past)
      × (is_idle past.boot.partitions (sizes_in flash.state past) (course_of flash.fault_model flash.state past) session ≡ true)
  answers_held k by slot h i j at holder =
      let c = chip_of_slot k slot at in
      let p = holding past.boot.partitions c.0 by (ap (λ (y : SlotState flash.FaultState). y.holder) c.2 ∙ holder) in
      let found : session_at (course_of flash.fault_model flash.state past) (Some k) ≡ Some by = ap session_on c.1 ∙ ap session_of p.1 ∙ ap Some p.2 in
      let op = and_then_some (λ (op : Op). chip_of past.boot.partitions (device_of op))
      (next_op (sizes_in flash.state past) (session_run (course_of flash.fault_model flash.state past) session)) k j in
      let blocked : can_begin past.boot.partitions (course_of flash.fault_model flash.state past)
      (next_op (sizes_in flash.state past) (session_run (course_of flash.fault_model flash.state past) session)) ≡ false =
      ap (can_begin past.boot.partitions (course_of flash.fault_model flash.state past)) op.1
      ∙ ap (is_free_at (course_of flash.fault_model flash.state past)) op.2 ∙ ap is_free c.1 ∙ ap (λ (q : Option Pending). is_none q) p.1 in
      (ap held_or_did (sym found) ∙ answers_else None (Some k) h (pending_is_none i) j, stays_where_blocked i blocked, idle_where_blocked i blocked)

  -- a session that holds no chip begins on a free chip
  pub answers_did_begin : (k : ℕ) (slot : Slot F C flash) → is_done (course_of flash.fault_model flash.state past) session ≡ false
      → first_held_by session (slot_states board) ≡ None
      → next_chip past.boot.partitions (sizes_in flash.state past) (course_of flash.fault_model flash.state past) session ≡ Some k
      → slice_get board.slots.items k ≡ Some slot → slot.holder ≡ None
      → (Did ≡ turn_answer past.boot.partitions (sizes_in flash.state past) (course_of flash.fault_model flash.state past) session)
      × (is_idle past.boot.partitions (sizes_in flash.state past) (course_of flash.fault_model flash.state past) session ≡ false)
  answers_did_begin k slot h i j at holder =
      let c = chip_of_slot k slot at in
      let attached = unattached_there flash.fault_model past.boot (starts_of flash.state past)
      (course_of flash.fault_model flash.state past) (slot_states board) board.events board.dark board.notes.notes board.sessions.items
      turn.on_course.stands ∙ turn.attached in
      let known = position_none (λ (d : ChipRun flash.FaultState). is_none d.known) (course_of flash.fault_model flash.state past).chips attached k c.0 c.1 in
      let r = resting past.boot.partitions c.0 known (ap (λ (y : SlotState flash.FaultState). y.holder) c.2 ∙ holder) in
      let found : session_at (course_of flash.fault_model flash.state past) (Some k) ≡ None = ap session_on c.1 ∙ ap session_of r.2 in
      let op = and_then_some (λ (op : Op). chip_of past.boot.partitions (device_of op))
      (next_op (sizes_in flash.state past) (session_run (course_of flash.fault_model flash.state past) session)) k j in
      let begins : can_begin past.boot.partitions (course_of flash.fault_model flash.state past)
      (next_op (sizes_in flash.state past) (session_run (course_of flash.fault_model flash.state past) session)) ≡ true =
      ap (can_begin past.boot.partitions (course_of flash.fault_model flash.state past)) op.1
      ∙ ap (is_free_at (course_of flash.fault_model flash.state past)) op.2 ∙ ap is_free c.1 ∙ ap (λ (q : Option Pending). is_none q) r.2 in (
        ap held_or_did (sym found) ∙ answers_else None (Some k) h (pending_is_none i) j,
        busy_where_begins flash.fault_model past.boot (sizes_in flash.state past) (course_of flash.fault_model flash.state past) session
            lit_course attached begins,
      )

  -- nothing is done where no command is left
  pub stays_where_done : first_held_by session (slot_states board) ≡ None → is_done (course_of flash.fault_model flash.state past) session ≡ true
      → (next_course flash.fault_model flash.state past session ≡ course_of flash.fault_model flash.state past)
      × (is_idle past.boot.partitions (sizes_in flash.state past) (course_of flash.fault_model flash.state past) session ≡ true)
  stays_where_done i h =
      let blocked = blocked_by (session_run (course_of flash.fault_model flash.state past) session) h in
      (stays_where_blocked i blocked, idle_where_blocked i blocked)
    where
      by_commands : (run : SessionRun) (cs : List Command) → is_finished cs ≡ true → can_begin past.boot.partitions
          (course_of flash.fault_model flash.state past) (next_op_of (sizes_in flash.state past) cs run.replies) ≡ false
      by_commands run [] e = refl
      by_commands run (command ∷ rest) e = cc

      blocked_by : (o : Option SessionRun) → has_no_command o ≡ true → can_begin past.boot.partitions (course_of flash.fault_model flash.state past)
          (next_op (sizes_in flash.state past) o) ≡ false
      blocked_by None e = refl
      blocked_by (Some run) e = by_commands run run.commands e
