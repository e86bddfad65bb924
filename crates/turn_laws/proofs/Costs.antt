-- How many operations are left of sessions.
use Rattle.std.proofs.Common.{◌≡◌, ℕ, suc, ◌+◌, ◌-◌, ◌≤◌, ◌<◌, ◌⊎◌, inl, inr, Bool, true, false, List, [], ◌∷◌, ◌++◌, length, map, Option, Some, None, refl, ap, sym, ◌∙◌, subst, arith, length-append}
use Rattle.std.specs.Prelude.{⊤, sum_by, find, ◌==◌, if◌then◌else◌, All}
use Rattle.std.proofs.lemmas.Bool.{cases_lt, cond-true, cond-false}
use Rattle.std.proofs.lemmas.Option.{none-some, same_Some}
use Rattle.std.proofs.lemmas.List.Sums.{sum_by-cons}
use Rattle.nand_model.specs.declared.geometry.Geometry.{Geometry}
use Rattle.nand_model.specs.declared.words.Command.{Command}
use Rattle.nand_model.specs.declared.words.Op.{Op}
use Rattle.nand_model.specs.declared.words.Outcome.{Outcome}
use Rattle.nand_model.specs.declared.words.Reply.{Reply}
use Rattle.command_model.specs.Command.{Next, Do, Over, next_step}
use Rattle.command_model.specs.Session.{SessionRun, without_finished, with_reply, replied, next_op_of}
use Rattle.command_model.specs.Laws.{IsOver}
use Rattle.command_model.specs.Runnable.{Fits}
use Rattle.tool_steps.proofs.Ends.{command_ends_at_last}
use Rattle.command_model.specs.Cost.{command_cost, commands_cost, sessions_cost}

module _ (sizes : Command → Geometry) where
  -- each of these commands can be run
  abbrev pub EachRuns : List Command → Type 0
  EachRuns [] = ⊤
  EachRuns (command ∷ commands) = Fits (sizes command) command × EachRuns commands

  -- the first of these commands asks for an operation after these replies
  abbrev pub Settled : List Command → List Reply → Type 0
  Settled [] replies = ⊤
  Settled (command ∷ commands) replies = (op : Op) × (next_step (sizes command) command replies ≡ Do op)

  -- a session as it stands in courses
  abbrev pub Good : SessionRun → Type 0
  Good s = EachRuns s.commands × Settled s.commands s.replies

  abbrev pub EachGood : List SessionRun → Type 0
  EachGood [] = ⊤
  EachGood (s ∷ sessions) = Good s × EachGood sessions

  -- the operations that are left of a session at most
  abbrev pub ops_left : SessionRun → ℕ
  ops_left s = commands_cost sizes s.commands - length s.replies

  abbrev pub all_left : List SessionRun → ℕ
  all_left sessions = sum_by ops_left sessions

  goes_on : (number : ℕ) (command : Command) (commands : List Command) (replies : List Reply) (outcomes : List Outcome) (op : Op)
      → next_step (sizes command) command replies ≡ Do op
      → without_finished sizes number (command ∷ commands) replies outcomes ≡ record {
        number = number;
        commands = command ∷ commands;
        replies = replies;
        outcomes = outcomes;
      }
  goes_on number command commands replies outcomes op e = rw e refl

  ends : (number : ℕ) (command : Command) (commands : List Command) (replies : List Reply) (outcomes : List Outcome) (outcome : Outcome)
      → next_step (sizes command) command replies ≡ Over outcome
      → without_finished sizes number (command ∷ commands) replies outcomes ≡ without_finished sizes number commands [] (outcomes ++ outcome ∷ [])
  ends number command commands replies outcomes outcome e = rw e refl

  -- finished commands taken out
  pub good_without : (number : ℕ) (commands : List Command) (replies : List Reply) (outcomes : List Outcome) → EachRuns commands
      → Good (without_finished sizes number commands replies outcomes)
  good_without number [] replies outcomes h = (tt, tt)
  good_without number (command ∷ commands) replies outcomes h = by_next (next_step (sizes command) command replies) refl
      (λ outs. good_without number commands [] outs h.1)
    where
      by_next : (next : Next) → next_step (sizes command) command replies ≡ next →
          ((outs : List Outcome) → Good (without_finished sizes number commands [] outs))
          → Good (without_finished sizes number (command ∷ commands) replies outcomes)
      by_next (Do op) e later = subst Good (sym (goes_on number command commands replies outcomes op e)) (h, (op, e))
      by_next (Over outcome) e later = subst Good (sym (ends number command commands replies outcomes outcome e)) (later (outcomes ++ outcome ∷ []))

  pub left_without : (number : ℕ) (commands : List Command) (outcomes : List Outcome)
      → ops_left (without_finished sizes number commands [] outcomes) ≤ commands_cost sizes commands
  left_without number [] outcomes = omega arith
  left_without number (command ∷ commands) outcomes = by_next (next_step (sizes command) command []) refl (λ outs. left_without number commands outs)
    where
      by_next : (next : Next) → next_step (sizes command) command [] ≡ next → ((outs : List Outcome)
          → ops_left (without_finished sizes number commands [] outs) ≤ commands_cost sizes commands)
          → ops_left (without_finished sizes number (command ∷ commands) [] outcomes) ≤ commands_cost sizes (command ∷ commands)
      by_next (Do op) e later = subst (λ s. ops_left s ≤ commands_cost sizes (command ∷ commands)) (sym (goes_on number command commands [] outcomes op e))
          (omega arith)
      by_next (Over outcome) e later = subst (λ s. ops_left s ≤ commands_cost sizes (command ∷ commands))
          (sym (ends number command commands [] outcomes outcome e))
          (omega (arith, later (outcomes ++ outcome ∷ []), sum_by-cons (command_cost sizes) command commands))

  -- a command that is not over has had fewer replies than its cost
  fewer : (command : Command) (replies : List Reply) (op : Op) → Fits (sizes command) command → next_step (sizes command) command replies ≡ Do op
      → length replies < command_cost sizes command
  fewer command replies op runs e = by_order (cases_lt (length replies) (command_cost sizes command))
    where
      by_order : (length replies < command_cost sizes command) ⊎ (command_cost sizes command ≤ length replies) → length replies < command_cost sizes command
      by_order (inl less) = less
      by_order (inr enough) = absurd (subst IsOver e (command_ends_at_last (sizes command) command runs replies enough))

  -- a reply brings a session that is not over one operation further
  pub reply_costs : (s : SessionRun) (reply : Reply) (op : Op) → Good s → next_op_of sizes s.commands s.replies ≡ Some op
      → ops_left (with_reply sizes reply s) + 1 ≤ ops_left s
  reply_costs s reply op good e = by_commands s.commands good e
    where
      more : List Reply
      more = s.replies ++ reply ∷ []

      by_next : (command : Command) (commands : List Command) (next : Next) → next_step (sizes command) command more ≡ next
          → length s.replies < command_cost sizes command
          → ops_left (without_finished sizes s.number (command ∷ commands) more s.outcomes) + 1 ≤ commands_cost sizes (command ∷ commands) - length s.replies
      by_next command commands (Do op) e few =
          subst (λ t. ops_left t + 1 ≤ commands_cost sizes (command ∷ commands) - length s.replies)
          (sym (goes_on s.number command commands more s.outcomes op e))
          (omega (arith, length-append s.replies (reply ∷ []), sum_by-cons (command_cost sizes) command commands))
      by_next command commands (Over outcome) e few =
          subst (λ t. ops_left t + 1 ≤ commands_cost sizes (command ∷ commands) - length s.replies)
          (sym (ends s.number command commands more s.outcomes outcome e))
          (omega (arith, left_without s.number commands (s.outcomes ++ outcome ∷ []), sum_by-cons (command_cost sizes) command commands))

      by_commands : (commands : List Command) → EachRuns commands × Settled commands s.replies → next_op_of sizes commands s.replies ≡ Some op
          → ops_left (without_finished sizes s.number commands more s.outcomes) + 1 ≤ commands_cost sizes commands - length s.replies
      by_commands [] good e = absurd (none-some op e)
      by_commands (command ∷ commands) good e =
          by_next command commands (next_step (sizes command) command more) refl (fewer command s.replies good.1.0 good.0.0 good.1.1)

  -- no reply takes it back
  reply_keeps : (s : SessionRun) (reply : Reply) → Good s → ops_left (with_reply sizes reply s) ≤ ops_left s
  reply_keeps s reply good = by_commands s.commands refl good
    where
      by_commands : (commands : List Command) → s.commands ≡ commands → EachRuns commands × Settled commands s.replies
          → ops_left (with_reply sizes reply s) ≤ ops_left s
      by_commands [] e good =
          subst (λ (commands : List Command). ops_left (without_finished sizes s.number commands (s.replies ++ reply ∷ []) s.outcomes) ≤ ops_left s) (sym e)
          (omega arith)
      by_commands (command ∷ commands) e good =
          let next : next_op_of sizes s.commands s.replies ≡ Some good.1.0 =
          subst (λ (cs : List Command). next_op_of sizes cs s.replies ≡ Some good.1.0) (sym e) (ap next_op_in good.1.1) in
          let whole : Good s = subst (λ (cs : List Command). EachRuns cs × Settled cs s.replies) (sym e) good in
          omega (arith, reply_costs s reply good.1.0 whole next)
        where
          next_op_in : Next → Option Op
          next_op_in (Do op) = Some op
          next_op_in (Over outcome) = None

  -- one session among others, once the reply comes to those of its number
  abbrev after_reply : ℕ → Reply → SessionRun → SessionRun
  after_reply n reply s = if s.number == n then with_reply sizes reply s else s

  good_after : (n : ℕ) (reply : Reply) (s : SessionRun) → Good s → Good (after_reply n reply s)
  good_after n reply s good = by_test (s.number == n)
    where
      by_test : (b : Bool) → Good (if b then with_reply sizes reply s else s)
      by_test true = good_without s.number s.commands (s.replies ++ reply ∷ []) s.outcomes good.0
      by_test false = good

  left_after : (n : ℕ) (reply : Reply) (s : SessionRun) → Good s → ops_left (after_reply n reply s) ≤ ops_left s
  left_after n reply s good = by_test (s.number == n)
    where
      by_test : (b : Bool) → ops_left (if b then with_reply sizes reply s else s) ≤ ops_left s
      by_test true = reply_keeps s reply good
      by_test false = omega arith

  pub replied_good : (n : ℕ) (reply : Reply) (sessions : List SessionRun) → EachGood sessions → EachGood (replied sizes n reply sessions)
  replied_good n reply [] good = tt
  replied_good n reply (s ∷ sessions) good = (good_after n reply s good.0, replied_good n reply sessions good.1)

  replied_keeps : (n : ℕ) (reply : Reply) (sessions : List SessionRun) → EachGood sessions → all_left (replied sizes n reply sessions) ≤ all_left sessions
  replied_keeps n reply [] good = omega arith
  replied_keeps n reply (s ∷ sessions) good =
      omega (
        arith,
        left_after n reply s good.0,
        replied_keeps n reply sessions good.1,
        sum_by-cons ops_left s sessions,
        sum_by-cons ops_left
            (after_reply n reply s) (replied sizes n reply sessions),
      )

  -- the reply brings the session of its number one operation further
  pub replied_costs : (n : ℕ) (reply : Reply) (sessions : List SessionRun) (s : SessionRun) (op : Op) → EachGood sessions
      → find (λ (t : SessionRun). t.number == n) sessions ≡ Some s → next_op_of sizes s.commands s.replies ≡ Some op
      → all_left (replied sizes n reply sessions) + 1 ≤ all_left sessions
  replied_costs n reply [] s op good found e = absurd (none-some s found)
  replied_costs n reply (t ∷ sessions) s op good found e =
      omega (
        arith,
        by_test (t.number == n) refl (λ found_later. replied_costs n reply sessions s op good.1 found_later e),
        sum_by-cons ops_left t sessions,
        sum_by-cons ops_left (after_reply n reply t) (replied sizes n reply sessions),
      )
    where
      by_test : (b : Bool) → (t.number == n) ≡ b
          → (find (λ (u : SessionRun). u.number == n) sessions ≡ Some s → all_left (replied sizes n reply sessions) + 1 ≤ all_left sessions)
          → ops_left (after_reply n reply t) + all_left (replied sizes n reply sessions) + 1 ≤ ops_left t + all_left sessions
      by_test true h later =
          let same : t ≡ s = same_Some t s (sym (cond-true _ _ _ h) ∙ found) in
          let here : ops_left (with_reply sizes reply t) + 1 ≤ ops_left t = reply_costs t reply op good.0
          (subst (λ (u : SessionRun). next_op_of sizes u.commands u.replies ≡ Some op) (sym same) e) in
          subst (λ (b : Bool). ops_left (if b then with_reply sizes reply t else t) + all_left
          (replied sizes n reply sessions) + 1 ≤ ops_left t + all_left sessions) (sym h)
          (omega (arith, here, replied_keeps n reply sessions good.1))
      by_test false h later =
          let less : all_left (replied sizes n reply sessions) + 1 ≤ all_left sessions = later (sym (cond-false _ _ _ h) ∙ found) in
          subst (λ (b : Bool). ops_left (if b then with_reply sizes reply t else t) + all_left
          (replied sizes n reply sessions) + 1 ≤ ops_left t + all_left sessions) (sym h)
          (omega (arith, less))

  -- the sessions of a boot at its start
  abbrev pub at_start : List (ℕ × List Command) → List SessionRun
  at_start sessions = map (λ (s : ℕ × List Command). without_finished sizes s.0 s.1 [] []) sessions

  each_runs : (commands : List Command) → All (λ c. Fits (sizes c) c) commands → EachRuns commands
  each_runs [] h = tt
  each_runs (command ∷ commands) h = (h 0 command (omega arith), each_runs commands (λ k d less. h (suc k) d (omega arith)))

  pub start_good : (sessions : List (ℕ × List Command)) → All (λ (s : ℕ × List Command). All (λ c. Fits (sizes c) c) s.1) sessions
      → EachGood (at_start sessions)
  start_good [] h = tt
  start_good (s ∷ sessions) h = (good_without s.0 s.1 [] [] (each_runs s.1 (h 0 s (omega arith))), start_good sessions (λ k d less. h (suc k) d (omega arith)))

  pub start_left : (sessions : List (ℕ × List Command)) → all_left (at_start sessions) ≤ sessions_cost sizes sessions
  start_left [] = omega arith
  start_left (s ∷ sessions) =
      omega (
        arith,
        left_without s.0 s.1 [],
        start_left sessions,
        sum_by-cons ops_left (without_finished sizes s.0 s.1 [] []) (at_start sessions),
        sum_by-cons (λ (t : ℕ × List Command). commands_cost sizes t.1) s sessions,
      )
