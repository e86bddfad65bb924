-- The steps of a session, and of the session of a course that it mirrors.
use Rattle.std.proofs.Common.{◌≡◌, ℕ, zero, suc, true, false, List, [], ◌∷◌, ◌++◌, length, drop, Option, Some, None, refl, sym, ap, ◌∙◌, subst, arith, length-append, slice_get}
use Rattle.std.proofs.lemmas.List.Elements.{All-drop}
use Rattle.nand_model.specs.declared.geometry.Geometry.{Geometry}
use Rattle.nand_model.specs.declared.words.Command.{Command}
use Rattle.nand_model.specs.declared.words.Op.{Op}
use Rattle.nand_model.specs.declared.words.Outcome.{Outcome}
use Rattle.nand_model.specs.declared.words.Reply.{Reply}
use Rattle.command_model.specs.Command.{Script, End, Ask, Over, next_in, next_step, after_replies, script_of}
use Rattle.command_model.specs.Session.{SessionRun, without_finished, with_reply, next_op_of, op_of_next}
use Rattle.command_model.specs.Runnable.{Fits}
use Rattle.tool_steps.specs.Steps.{asks_something, is_over}
use Rattle.tool_steps.proofs.Asks.{asks_first}
use Rattle.tool_steps.proofs.Scripts.{after_replies-append}
use Rattle.session_steps.specs.Standing.{Standing, outcomes_by, commands_by, op_asked, put_down, begun, IsBetween, First}
use Rattle.session_steps.specs.Mirrors.{IsUnderWay, CanAllRun, Shows}
use Rattle.session_steps.proofs.Idle.{next_asks, put_down-again}
use Rattle.session_steps.proofs.Scripts.{not_finished, one_finished, settled}

some_is : (x y : Command) → Some x ≡ Some y → x ≡ y
some_is x y e = cc

-- the first of some commands
pub first_is : (P : Command → Type 0) (n : ℕ) (xs : List Command) (command : Command) → First P (drop n xs) → slice_get xs n ≡ Some command
    → (rest : List Command) × (drop n xs ≡ command ∷ rest) × P command
first_is P zero [] command h e = absurd h
first_is P zero (x ∷ xs) command h e = (xs, ap (λ (y : Command). y ∷ xs) (some_is x command e), subst P (some_is x command e) h)
first_is P (suc n) [] command h e = absurd h
first_is P (suc n) (x ∷ xs) command h e = first_is P n xs command h e

module _ (sizes : Command → Geometry) (commands : List Command) where
  -- between two commands there is no reply
  no_reply : (left : List Command) (replies : List Reply) (script : Option Script) → IsBetween script → IsUnderWay sizes left replies script → replies ≡ []
  no_reply left replies None h g = g
  no_reply left replies (Some (End outcome)) h g = g
  no_reply left replies (Some (Ask op go_on)) h g = absurd h

  -- the outcomes of all finished commands are put down
  pub shows_put_down : (st : Standing) (run : SessionRun) → IsBetween st.script → Shows sizes commands st run
      → Shows sizes commands (put_down commands st) run
  shows_put_down st run h shows =
      let again = put_down-again commands st h in
      record {
        number = shows.number;
        outcomes = shows.outcomes ∙ sym again;
        left = shows.left ∙ ap (λ (os : List Outcome). drop (length os) commands) (sym again);
        goes_on = no_reply run.commands run.replies st.script h shows.goes_on;
      }

  -- the script of a command that asks for something asks for an operation
  script_asks : (g : Geometry) (command : Command) → Fits g command → asks_something command ≡ true → (script : Script) → script_of g command ≡ script
      → (op : Op) × (go_on : Reply → Script) × (script ≡ Ask op go_on)
  script_asks g command h asks (Ask op go_on) e = (op, go_on, refl)
  script_asks g command h asks (End outcome) e =
      let over : is_over (next_step g command []) ≡ true = ap (λ (s : Script). is_over (next_in s)) e in
      absurd (true-not-false (sym over ∙ asks_first g command h asks))
    where
      true-not-false : true ≡ false → ⊥
      true-not-false e = cc

  -- a session at its start
  pub shows_new : (number : ℕ) → CanAllRun sizes commands → Shows sizes commands (record { number = number; script = None; outcomes = [] })
      (without_finished sizes number commands [] [])
  shows_new number runnable = subst (Shows sizes commands (record { number = number; script = None; outcomes = [] }))
      (sym (settled sizes number commands [] runnable))
      (record { number = refl; outcomes = refl; left = refl; goes_on = refl })

  -- the first command is begun
  begins : (run : SessionRun) (number : ℕ) (outcomes : List Outcome) (command : Command) (rest : List Command) (op : Op) (go_on : Reply → Script)
      → run.number ≡ number → run.outcomes ≡ outcomes → run.commands ≡ drop (length outcomes) commands → run.replies ≡ []
      → run.commands ≡ command ∷ rest
      → script_of (sizes command) command ≡ Ask op go_on
      → Shows sizes commands (record { number = number; script = Some (Ask op go_on); outcomes = outcomes }) run
  begins run number outcomes command rest op go_on n o l r first asks = record {
    number = n;
    outcomes = o;
    left = l;
    goes_on = subst (λ (cs : List Command). IsUnderWay sizes cs run.replies (Some (Ask op go_on))) (sym first)
        (subst (λ (rs : List Reply). Ask op go_on ≡ after_replies rs (script_of (sizes command) command)) (sym r) (sym asks));
  }

  -- the next command is begun
  pub shows_begun : (st : Standing) (run : SessionRun) (g : Geometry) (command : Command) → Shows sizes commands st run → IsBetween st.script
      → First (λ c. sizes c ≡ g) run.commands → Fits g command → slice_get commands (length (outcomes_by commands st)) ≡ Some command
      → Shows sizes commands (begun (script_of g command) (put_down commands st)) run
  shows_begun st run g command shows h sized runs there =
      let sized_first : First (λ c. sizes c ≡ g) (commands_by commands st) = subst (First (λ c. sizes c ≡ g)) shows.left sized in
      let first : (rest : List Command) × (commands_by commands st ≡ command ∷ rest) × (sizes command ≡ g) =
      first_is (λ c. sizes c ≡ g) (length (outcomes_by commands st)) commands command sized_first there in
      let asks : (op : Op) × (go_on : Reply → Script) × (script_of g command ≡ Ask op go_on) = script_asks g command runs (next_asks commands st command first.0 h first.1) (script_of g command) refl in
      subst (λ (script : Script). Shows sizes commands (begun script (put_down commands st)) run) (sym asks.2)
      (begins run st.number (outcomes_by commands st) command first.0 asks.0 asks.1 shows.number shows.outcomes shows.left
      (no_reply run.commands run.replies st.script h shows.goes_on) (shows.left ∙ first.1)
      (ap (λ (k : Geometry). script_of k command) first.2 ∙ asks.2))

  -- the commands after the first one
  drop_first : (n : ℕ) (xs : List Command) (command : Command) (rest : List Command) → command ∷ rest ≡ drop n xs → rest ≡ drop (suc n) xs
  drop_first zero xs command rest e = ap (drop 1) e
  drop_first (suc n) [] command rest e = ap (drop 1) e
  drop_first (suc n) (x ∷ xs) command rest e = drop_first n xs command rest e

  -- where the session stands with what is left of its command
  abbrev at : ℕ → List Outcome → Script → Standing
  at number outcomes script = record { number = number; script = Some script; outcomes = outcomes }

  -- the reply ends the command
  reply_ends : (number : ℕ) (outcomes : List Outcome) (run : SessionRun) (reply : Reply) (command : Command) (rest : List Command) (outcome : Outcome)
      → CanAllRun sizes commands → run.number ≡ number → run.outcomes ≡ outcomes → command ∷ rest ≡ drop (length outcomes) commands
      → next_step (sizes command) command (run.replies ++ reply ∷ []) ≡ Over outcome
      → Shows sizes commands (at number outcomes (End outcome)) (without_finished sizes run.number (command ∷ rest) (run.replies ++ reply ∷ []) run.outcomes)
  reply_ends number outcomes run reply command rest outcome runnable n o l over =
      let one_more : suc (length outcomes) ≡ length (outcomes ++ outcome ∷ []) = omega (arith, length-append outcomes (outcome ∷ [])) in
      let later : rest ≡ drop (length (outcomes ++ outcome ∷ [])) commands = drop_first _ commands command rest l ∙ ap (λ (k : ℕ). drop k commands) one_more in
      let run_on : CanAllRun sizes (drop (length (outcomes ++ outcome ∷ [])) commands) = All-drop (λ c. Fits (sizes c) c)
      (length (outcomes ++ outcome ∷ [])) commands runnable in
      subst (Shows sizes commands (at number outcomes (End outcome)))
      (sym (one_finished sizes run.number command rest (run.replies ++ reply ∷ []) run.outcomes outcome over
      ∙ (λ i. without_finished sizes run.number (later i) [] (o i ++ outcome ∷ []))
      ∙ settled sizes run.number commands (outcomes ++ outcome ∷ []) run_on))
      (record { number = n; outcomes = refl; left = refl; goes_on = refl })

  -- the command asks for more
  reply_goes_on : (number : ℕ) (outcomes : List Outcome) (run : SessionRun) (reply : Reply) (command : Command) (rest : List Command) (op : Op)
      (go_on : Reply → Script)
      → run.number ≡ number → run.outcomes ≡ outcomes → command ∷ rest ≡ drop (length outcomes) commands
      → Ask op go_on ≡ after_replies (run.replies ++ reply ∷ []) (script_of (sizes command) command)
      → Shows sizes commands (at number outcomes (Ask op go_on)) (without_finished sizes run.number (command ∷ rest) (run.replies ++ reply ∷ []) run.outcomes)
  reply_goes_on number outcomes run reply command rest op go_on n o l asks =
      subst (Shows sizes commands (at number outcomes (Ask op go_on)))
      (sym (not_finished sizes run.number command rest (run.replies ++ reply ∷ []) run.outcomes op (ap next_in (sym asks))))
      (record { number = n; outcomes = o; left = l; goes_on = asks })

  -- a reply comes to the operation of a session that waits
  pub shows_reply : (number : ℕ) (outcomes : List Outcome) (op : Op) (go_on : Reply → Script) (run : SessionRun) (reply : Reply) → CanAllRun sizes commands
      → Shows sizes commands (at number outcomes (Ask op go_on)) run → Shows sizes commands (at number outcomes (go_on reply)) (with_reply sizes reply run)
  shows_reply number outcomes op go_on run reply runnable shows = by_commands run.commands refl shows.goes_on
    where
      by_script : (command : Command) (rest : List Command) → run.commands ≡ command ∷ rest → (script : Script)
          → script ≡ after_replies (run.replies ++ reply ∷ []) (script_of (sizes command) command)
          → Shows sizes commands (at number outcomes script) (without_finished sizes run.number (command ∷ rest) (run.replies ++ reply ∷ []) run.outcomes)
      by_script command rest e (End outcome) s = reply_ends number outcomes run reply command rest outcome runnable shows.number shows.outcomes
          (sym e ∙ shows.left) (ap next_in (sym s))
      by_script command rest e (Ask next more) s = reply_goes_on number outcomes run reply command rest next more shows.number shows.outcomes
          (sym e ∙ shows.left) s

      by_commands : (left : List Command) → run.commands ≡ left → IsUnderWay sizes left run.replies (Some (Ask op go_on))
          → Shows sizes commands (at number outcomes (go_on reply)) (with_reply sizes reply run)
      by_commands [] e g = absurd g
      by_commands (command ∷ rest) e g =
          let script : go_on reply ≡ after_replies (run.replies ++ reply ∷ []) (script_of (sizes command) command) =
          ap (after_replies (reply ∷ [])) g ∙ sym (after_replies-append run.replies (reply ∷ []) (script_of (sizes command) command)) in
          subst (λ (cs : List Command). Shows sizes commands (at number outcomes (go_on reply))
          (without_finished sizes run.number cs (run.replies ++ reply ∷ []) run.outcomes)) (sym e)
          (by_script command rest e (go_on reply) script)

  -- the operation that a session asks for is the next one of the session of the course
  pub shows_op : (st : Standing) (run : SessionRun) (op : Op) → Shows sizes commands st run → op_asked st.script ≡ Some op
      → next_op_of sizes run.commands run.replies ≡ Some op
  shows_op st run op shows e = by_script st.script run.commands e shows.goes_on
    where
      by_script : (script : Option Script) (left : List Command) → op_asked script ≡ Some op → IsUnderWay sizes left run.replies script
          → next_op_of sizes left run.replies ≡ Some op
      by_script None left e g = cc
      by_script (Some (End outcome)) left e g = cc
      by_script (Some (Ask other go_on)) [] e g = absurd g
      by_script (Some (Ask other go_on)) (command ∷ left) e g = ap (λ (s : Script). op_of_next (next_in s)) (sym g) ∙ e
