-- Sessions and the sessions of a course that they mirror.
use Rattle.std.proofs.Common.{◌≡◌, ℕ, zero, suc, ◌<◌, Bool, true, false, List, [], ◌∷◌, ◌++◌, length, Option, Some, None, Result, Ok, Err, OnOk, OnErr, IfOk, refl, sym, ap, ◌∙◌, subst, arith, length-append, slice_get, not, is_some, option_copied, Bor}
use Rattle.std.proofs.lemmas.List.Elements.{All-drop}
use Rattle.std.proofs.lemmas.Option.{slice_get_within}
use Rattle.nand_model.specs.declared.geometry.Geometry.{Geometry}
use Rattle.nand_model.specs.declared.words.Command.{Command}
use Rattle.nand_model.specs.declared.words.Note.{Note}
use Rattle.nand_model.specs.declared.words.Note.TheVariants.{Answered}
use Rattle.nand_model.specs.declared.words.Op.{Op}
use Rattle.nand_model.specs.declared.words.Outcome.{Outcome}
use Rattle.nand_model.specs.declared.words.Reply.{Reply}
use Rattle.command_model.specs.Command.{Script, End, Ask, Next, Do, Over, next_in, next_step, script_of}
use Rattle.command_model.specs.Session.{SessionRun, with_reply, next_op_of, is_finished}
use Rattle.command_model.specs.Runnable.{Fits}
use Rattle.tool_steps.specs.Steps.{after_last, asks_something, step_of, is_over}
use Rattle.tool_steps.specs.declared.step.Step.{Step}
use Rattle.tool_steps.specs.declared.step.Step.TheVariants.{Done as Finished}
use Rattle.tool_steps.proofs.Asks.{asks_first}
use Rattle.tool_steps.specs.Work.{left_of}
use Rattle.tool_steps.specs.declared.tool.Tool.{Tool}
use Rattle.session_steps.specs.declared.session.Session.{Session}
use Rattle.session_steps.specs.Standing.{Standing, standing, standing_alone, reply_in, reply_at, script_after, outcomes_by, commands_by, op_asked, put_down, begun, IsBetween, First, IsAsking, IsWaiting}
use Rattle.session_steps.specs.Mirrors.{CanAllRun, IsPlaced, Shows, Mirrors}
use Rattle.session_steps.proofs.Idle.{next_asks}
use Rattle.session_steps.proofs.Steps.{first_is, shows_put_down, shows_begun, shows_reply, shows_op}

-- a first step that is no operation is none of a command that asks for something
pub starts_with_op : (g : Geometry) (command : Command) (script : Script) (step : Step) → Fits g command → asks_something command ≡ true → script ≡ script_of g command
    → step ≡ step_of (next_in script) → step ≡ Finished → ⊥
starts_with_op g command script step runs asks e s f = by_next (next_in script) (ap next_in e) s
  where
    by_next : (next : Next) → next ≡ next_step g command [] → step ≡ step_of next → ⊥
    by_next (Do op) n s = cc
    by_next (Over outcome) n s =
        let over : true ≡ is_over (next_step g command []) = ap is_over n in
        let not_over : is_over (next_step g command []) ≡ false = asks_first g command runs asks in
        cc

-- a session with no last reply stands alone
pub stands_alone : (notes : List Note) (s : Session) → s.last ≡ None → standing notes s ≡ standing_alone s
stands_alone notes s e = ap (λ (last : Option ℕ). record {
  number = s.number;
  script = script_after (reply_at notes last) s.tool;
  outcomes = s.outcomes.items;
}) e

-- commands of which there is no first one are finished
pub none_left : (first : Option (Bor Command)) (commands : List Command) (over : Bool) → option_copied first ≡ slice_get commands 0 → is_some first ≡ not over
    → over ≡ is_finished commands
none_left None [] true e h = refl
none_left None [] false e h = cc
none_left None (command ∷ commands) over e h = cc
none_left (Some lent) [] over e h = cc
none_left (Some lent) (command ∷ commands) true e h = cc
none_left (Some lent) (command ∷ commands) false e h = refl

-- an operation that is not some is none
pub no_op : (o other : Option Op) → o ≡ other → ((op : Op) → o ≡ Some op → ⊥) → other ≡ None
no_op None other e h = sym e
no_op (Some op) other e h = absurd (h op refl)

-- a session whose tool gave no operation is between two commands
between : (script : Option Script) → op_asked script ≡ None → IsBetween script
between None e = tt
between (Some (End outcome)) e = tt
between (Some (Ask op go_on)) e = cc

-- where a command waits for a reply, the outcomes of the finished ones are all put down
pub asked_kept : (commands : List Command) (st alone : Standing) (o : Option Op) → alone ≡ st → o ≡ op_asked st.script → is_some o ≡ true
    → alone.outcomes ≡ outcomes_by commands st
asked_kept commands st alone o same e some = ap (λ (x : Standing). x.outcomes) same ∙ by_script st.script e
  where
    by_script : (script : Option Script) → o ≡ op_asked script → st.outcomes ≡ outcomes_by commands (record { number = st.number; script = script; outcomes = st.outcomes })
    by_script None e = cc
    by_script (Some (End outcome)) e = cc
    by_script (Some (Ask op go_on)) e = refl

-- the place of the next command is the number of those that are finished
place_of : (commands : List Command) (st alone put : Standing) (place : ℕ) → alone ≡ st → put ≡ put_down commands alone → place ≡ length put.outcomes
    → place ≡ length (outcomes_by commands st)
place_of commands st alone put place a p n = n ∙ ap (λ (x : Standing). length x.outcomes) p ∙ ap (λ (x : Standing). length (outcomes_by commands x)) a

-- the next command, as it is looked up after the last one is put down
pub next_there : (commands : List Command) (P : Command → Type 0) (st alone put : Standing) (place : ℕ) (command : Command) → alone ≡ st
    → put ≡ put_down commands alone → place ≡ length put.outcomes
    → First P (commands_by commands st) → slice_get commands place ≡ Some command → P command
next_there commands P st alone put place command a p n first there =
    (first_is P (length (outcomes_by commands st)) commands command first (subst (λ (k : ℕ). slice_get commands k ≡ Some command)
    (place_of commands st alone put place a p n) there)).2

-- the next command asks for something
pub next_asking : (commands : List Command) (P : Command → Type 0) (st alone put : Standing) (place : ℕ) (command : Command) → alone ≡ st
    → put ≡ put_down commands alone → place ≡ length put.outcomes
    → op_asked st.script ≡ None → First P (commands_by commands st) → slice_get commands place ≡ Some command → asks_something command ≡ true
next_asking commands P st alone put place command a p n none first there =
    let found = first_is P (length (outcomes_by commands st)) commands command first (subst (λ (k : ℕ). slice_get commands k ≡ Some command)
    (place_of commands st alone put place a p n) there) in
    next_asks commands st command found.0 (between st.script none) found.1

-- an item stays at its place where others are added
get_before : (notes more : List Note) (place : ℕ) → place < length notes → slice_get (notes ++ more) place ≡ slice_get notes place
get_before [] more place h = absurd (omega arith)
get_before (note ∷ notes) more zero h = refl
get_before (note ∷ notes) more (suc place) h = get_before notes more place (omega arith)

placed_later : (notes more : List Note) (last : Option ℕ) → IsPlaced (length notes) last → IsPlaced (length (notes ++ more)) last
placed_later notes more None h = tt
placed_later notes more (Some place) h = omega (arith, length-append notes more)

-- the last reply stays where notes are added
same_reply : (notes more : List Note) (last : Option ℕ) → IsPlaced (length notes) last → reply_at (notes ++ more) last ≡ reply_at notes last
same_reply notes more None h = refl
same_reply notes more (Some place) h = ap reply_in (get_before notes more place h)

module _ (sizes : Command → Geometry) (commands : List Command) where
  -- a session with no last reply mirrors what it shows
  pub mirrors_alone : (notes : List Note) (s : Session) (run : SessionRun) → CanAllRun sizes commands → s.last ≡ None
      → Shows sizes commands (standing_alone s) run → Mirrors sizes commands notes s run
  mirrors_alone notes s run runnable e shows = record {
    runnable = runnable;
    placed = subst (IsPlaced (length notes)) (sym e) tt;
    shows = subst (λ (st : Standing). Shows sizes commands st run) (sym (stands_alone notes s e)) shows;
  }

  -- the tool of a session that waits gets a reply
  reply_taken : (number : ℕ) (outcomes : List Outcome) (tool : Option Tool) (reply : Reply) (run : SessionRun) → CanAllRun sizes commands
      → IsAsking (script_after None tool)
      → Shows sizes commands (record { number = number; script = script_after None tool; outcomes = outcomes }) run
      → Shows sizes commands (record { number = number; script = script_after (Some reply) tool; outcomes = outcomes }) (with_reply sizes reply run)
  reply_taken number outcomes None reply run runnable asks shows = absurd asks
  reply_taken number outcomes (Some tool) reply run runnable asks shows = by_script (left_of tool) refl asks shows
    where
      by_script : (script : Script) → left_of tool ≡ script → IsAsking (Some script)
          → Shows sizes commands (record { number = number; script = Some script; outcomes = outcomes }) run
          → Shows sizes commands (record { number = number; script = Some (after_last (Some reply) (left_of tool)); outcomes = outcomes })
          (with_reply sizes reply run)
      by_script (End outcome) e asks shows = absurd asks
      by_script (Ask op go_on) e asks shows =
          subst (λ (script : Script). Shows sizes commands (record { number = number; script = Some (after_last (Some reply) script); outcomes = outcomes })
          (with_reply sizes reply run)) (sym e)
          (shows_reply sizes commands number outcomes op go_on run reply runnable shows)

  pub mirrors_reply : (notes later : List Note) (s : Session) (run : SessionRun) (session : ℕ) (reply : Reply) (place : ℕ)
      → Mirrors sizes commands notes s run → IsWaiting s → slice_get later place ≡ Some (Answered session reply)
      → Mirrors sizes commands later (record { number = s.number; tool = s.tool; last = Some place; outcomes = s.outcomes }) (with_reply sizes reply run)
  mirrors_reply notes later s run session reply place mirrors waits there = record {
    runnable = mirrors.runnable;
    placed = slice_get_within later place (Answered session reply) there;
    shows = subst (λ (r : Option Reply). Shows sizes commands (record { number = s.number; script = script_after r s.tool; outcomes = s.outcomes.items })
        (with_reply sizes reply run))
        (sym (ap reply_in there))
        (reply_taken s.number s.outcomes.items s.tool reply run mirrors.runnable waits.1
        (subst (λ (st : Standing). Shows sizes commands st run) (stands_alone notes s waits.0) mirrors.shows));
  }

  -- the next command is begun after the last one is put down
  pub next_begun : (st alone put : Standing) (run : SessionRun) (g : Geometry) (place : ℕ) (command : Command) → alone ≡ st → put ≡ put_down commands alone
      → place ≡ length put.outcomes
      → Shows sizes commands st run → op_asked st.script ≡ None → First (λ c. sizes c ≡ g) run.commands → Fits g command
      → slice_get commands place ≡ Some command
      → Shows sizes commands (begun (script_of g command) put) run
  next_begun st alone put run g place command a p n shows none sized runs there =
      subst (λ (x : Standing). Shows sizes commands (begun (script_of g command) x) run) (sym (p ∙ ap (put_down commands) a))
      (shows_begun sizes commands st run g command shows (between st.script none) sized runs
      (subst (λ (k : ℕ). slice_get commands k ≡ Some command) (place_of commands st alone put place a p n) there))

  -- the session mirrors the same run whether or not its next command was begun
  pub next_mirrors : {A E : Type 0} (result : Result A E) (notes : List Note) (old mid new : Session) (run : SessionRun) (g : Geometry) (place : ℕ)
      (command : Command) (alone : Standing)
      → Mirrors sizes commands notes old run → alone ≡ standing notes old → standing_alone mid ≡ put_down commands alone → place ≡ length mid.outcomes.items
      → op_asked (standing notes old).script ≡ None → First (λ c. sizes c ≡ g) run.commands → Fits g command → slice_get commands place ≡ Some command
      → OnOk result (standing_alone new ≡ begun (script_of g command) (standing_alone mid)) → OnErr result (standing_alone new ≡ standing_alone mid)
      → new.last ≡ None
      → Mirrors sizes commands notes new run
  next_mirrors (Ok x) notes old mid new run g place command alone mirrors a p n none sized runs there ok err last =
      mirrors_alone notes new run mirrors.runnable last (subst (λ (st : Standing). Shows sizes commands st run) (sym ok)
      (next_begun (standing notes old) alone (standing_alone mid) run g place command a p n mirrors.shows none sized runs there))
  next_mirrors (Err x) notes old mid new run g place command alone mirrors a p n none sized runs there ok err last =
      mirrors_alone notes new run mirrors.runnable last (subst (λ (st : Standing). Shows sizes commands st run) (sym (err ∙ p ∙ ap (put_down commands) a))
      (shows_put_down sizes commands (standing notes old) run (between (standing notes old).script none) mirrors.shows))

  -- the commands that are left can be run
  pub left_runs : (notes : List Note) (s : Session) (run : SessionRun) → Mirrors sizes commands notes s run → CanAllRun sizes run.commands
  left_runs notes s run mirrors =
      subst (CanAllRun sizes) (sym mirrors.shows.left) (All-drop (λ c. Fits (sizes c) c) (length (outcomes_by commands (standing notes s))) commands mirrors.runnable)

  -- the next command can be run with its own sizes
  pub next_runs : (notes : List Note) (s : Session) (run : SessionRun) (g : Geometry) → Mirrors sizes commands notes s run
      → First (λ c. sizes c ≡ g) run.commands
      → First (Fits g) (commands_by commands (standing notes s))
  next_runs notes s run g mirrors sized = subst (First (Fits g)) mirrors.shows.left (by_commands run.commands (left_runs notes s run mirrors) sized)
    where
      by_commands : (left : List Command) → CanAllRun sizes left → First (λ c. sizes c ≡ g) left → First (Fits g) left
      by_commands [] h sized = absurd sized
      by_commands (command ∷ left) h sized = subst (λ (k : Geometry). Fits k command) sized (h 0 command (omega arith))

  -- a session mirrors the same run where notes are added
  pub mirrors_later : (notes more : List Note) (s : Session) (run : SessionRun) → Mirrors sizes commands notes s run
      → Mirrors sizes commands (notes ++ more) s run
  mirrors_later notes more s run mirrors = record {
    runnable = mirrors.runnable;
    placed = placed_later notes more s.last mirrors.placed;
    shows = subst (λ (r : Option Reply). Shows sizes commands (record { number = s.number; script = script_after r s.tool; outcomes = s.outcomes.items }) run)
        (sym (same_reply notes more s.last mirrors.placed)) mirrors.shows;
  }

-- the operation with which the next command begins is the next one of the session of the course
pub next_op_if : {E : Type 0} (result : Result Op E) (commands : List Command) (notes : List Note) (old : Session) (alone put : Standing) (g : Geometry)
    (place : ℕ) (command : Command)
    → alone ≡ standing notes old → put ≡ put_down commands alone → place ≡ length put.outcomes
    → op_asked (standing notes old).script ≡ None → Fits g command → slice_get commands place ≡ Some command
    → IfOk result (λ op. op_asked (Some (script_of g command)) ≡ Some op)
    → IfOk result (λ op. (sizes : Command → Geometry) (run : SessionRun) → Mirrors sizes commands notes old run → First (λ c. sizes c ≡ g) run.commands
    → next_op_of sizes run.commands run.replies ≡ Some op)
next_op_if (Err e) commands notes old alone put g place command a p n none runs there asks = tt
next_op_if (Ok op) commands notes old alone put g place command a p n none runs there asks = λ sizes run mirrors sized.
    shows_op sizes commands (begun (script_of g command) put) run op
    (next_begun sizes commands (standing notes old) alone put run g place command a p n mirrors.shows none sized runs there) asks
