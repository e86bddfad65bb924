-- The sessions of a boot, each with the end at its place among those of its controller.
use Rattle.std.proofs.Common.{◌≡◌, ◌<◌, ◌+◌, ◌⊎◌, inl, inr, ℕ, Bool, true, false, cond, List, [], ◌∷◌, ◌++◌, length, map, take, get_or, set, Some, ap, sym, ◌∙◌, subst, arith, append_assoc, length-append}
use Rattle.std.specs.Prelude.{slice_get, ◌==◌}
use Rattle.std.proofs.lemmas.Bool.{cases_eq, eq-eqb, ne_eqb}
use Rattle.std.proofs.lemmas.List.{get_or-set_other, get_or-set_same}
use Rattle.std.proofs.lemmas.Option.{get_or_from_slice_get, same_Some, slice_get_within}
use Rattle.nand_model.specs.declared.words.Command.{Command}
use Rattle.plan_model.specs.Plan.{PlanData, SessionPlan, sessions_from}
use Rattle.plan_grammar.specs.declared.lines.BootLines.{BootLines}
use Rattle.plan_grammar.specs.declared.lines.PlanLines.{PlanLines}
use Rattle.plan_grammar.specs.declared.lines.SessionLines.{SessionLines}
use Rattle.plan_grammar.specs.Meaning.{plan_of, session_plan}
use Rattle.plan_laws.specs.Ready.{boot_at, no_boot}
use Rattle.plan_laws.specs.Within.{IsGoodBoot}
use Rattle.plan_text.specs.Plan.{IsOfBytes, no_session, session_at}
use Rattle.plan_text.proofs.WasRead.{boot_is, limits_of}
use Rattle.report_model.specs.Report.{session_lines}
use Rattle.session_steps.specs.Ended.{EndOfSession}
use Rattle.ctl_core.proofs.Positions.{at_mapped}
use Rattle.plan_replay.specs.declared.controller.EndedController.{EndedController}
use Rattle.plan_replay.specs.Ends.{end_in, ended_text}
use Rattle.plan_replay.specs.Boots.{EndByNotes, notes_of}
use Rattle.plan_replay.proofs.Lines.{next_session}
use Rattle.plan_replay.proofs.Own.{own_next, own_of, own_place}

-- a session by its line
pub session_of_line : (plan : PlanLines) (n s : ℕ) (boot : BootLines) (line : SessionLines) → slice_get plan.boots n ≡ Some boot
    → slice_get boot.sessions s ≡ Some line → slice_get (boot_at (plan_of plan) n).sessions s ≡ Some (session_plan plan line)
session_of_line plan n s boot line at_boot at_line =
    ap (λ b. slice_get b.sessions s) (boot_is plan n boot at_boot) ∙ at_mapped (session_plan plan) boot.sessions s line at_line

-- the rules of a boot that was read
pub good_boot : (plan : PlanLines) (n : ℕ) → IsOfBytes plan → n < length (plan_of plan).boots
    → IsGoodBoot (length (plan_of plan).controllers) (boot_at (plan_of plan) n)
good_boot plan n read below = (limits_of plan read).boots n no_boot below

-- the controller of a session is there
pub controller_there : (plan : PlanLines) (n s : ℕ) (line : SessionLines) → IsOfBytes plan → n < length (plan_of plan).boots
    → slice_get (boot_at (plan_of plan) n).sessions s ≡ Some (session_plan plan line) → line.controller < length (plan_of plan).controllers
controller_there plan n s line read below at =
    let sessions = (boot_at (plan_of plan) n).sessions in
    subst (λ (x : SessionPlan). x.controller < length (plan_of plan).controllers)
    (get_or_from_slice_get sessions s (session_plan plan line) no_session at)
    ((good_boot plan n read below).own s no_session (slice_get_within sessions s (session_plan plan line) at))

-- a session by its line, as it is lent
pub line_at : (plan lines : PlanLines) (n s : ℕ) (boot : BootLines) (line : SessionLines) → lines ≡ plan → slice_get lines.boots n ≡ Some boot
    → slice_get boot.sessions s ≡ Some line → slice_get (boot_at (plan_of plan) n).sessions s ≡ Some (session_plan plan line)
line_at plan lines n s boot line same at_boot at_line =
    session_of_line plan n s boot line (ap (λ (p : PlanLines). slice_get p.boots n) (sym same) ∙ at_boot) at_line

-- the end of its controller's sessions is there
pub ends_there : (plan : PlanLines) (n s : ℕ) (line : SessionLines) (ends : List EndedController) → IsOfBytes plan → n < length (plan_of plan).boots
    → slice_get (boot_at (plan_of plan) n).sessions s ≡ Some (session_plan plan line) → EndByNotes (plan_of plan) n ends → line.controller < length ends
ends_there plan n s line ends read below at h =
    let there = controller_there plan n s line read below at in let many = h.many in omega (arith, there, many)

module _ (plan : PlanData) (n : ℕ) (ends : List EndedController) (h : EndByNotes plan n ends) (s : ℕ) (x : SessionPlan)
    (at : slice_get (boot_at plan n).sessions s ≡ Some x) where
  -- how many sessions of a controller come before a session
  abbrev pub count_own : ℕ → ℕ → ℕ
  count_own c k = length (sessions_from c 0 (take k (boot_at plan n).sessions))

  -- the end of a session stands at its place
  pub end_at : (ended : EndedController) → slice_get ends x.controller ≡ Some ended
      → slice_get ended.outcomes (count_own x.controller s) ≡ Some (end_in plan x.controller (notes_of ended) (s, x.commands))
  end_at ended is_ended =
      ap (λ os. slice_get os (count_own x.controller s)) (h.each x.controller ended is_ended).ends_are
      ∙ at_mapped (end_in plan x.controller (notes_of ended)) (sessions_from x.controller 0 (boot_at plan n).sessions) (count_own x.controller s) (s, x.commands)
      (own_place (boot_at plan n).sessions s x at)

  -- the lines of one more session
  pub session_on : (before out next : List ℕ) (ended : EndedController) (end : EndOfSession)
      → slice_get ends x.controller ≡ Some ended → slice_get ended.outcomes (count_own x.controller s) ≡ Some end
      → out ≡ before ++ session_lines plan 0 (take s (boot_at plan n).sessions) (map notes_of ends)
      → next ≡ out ++ ended_text s (session_at plan n s).commands end
      → next ≡ before ++ session_lines plan 0 (take (s + 1) (boot_at plan n).sessions) (map notes_of ends)
  session_on before out next ended end is_ended is_end so_far added =
      let sessions = (boot_at plan n).sessions in
      let own : EndOfSession = end_in plan x.controller (notes_of ended) (s, x.commands) in
      let same : end ≡ own = same_Some end own (sym is_end ∙ end_at ended is_ended) in
      let is_x : session_at plan n s ≡ x = get_or_from_slice_get sessions s x no_session at in
      added ∙ ap (λ (y : SessionPlan). out ++ ended_text s y.commands end) is_x
      ∙ ap (λ e. out ++ ended_text s x.commands e) same
      ∙ ap (λ o. o ++ ended_text s x.commands own) so_far
      ∙ append_assoc before (session_lines plan 0 (take s sessions) (map notes_of ends)) (ended_text s x.commands own)
      ∙ ap (λ t. before ++ t) (sym (next_session plan sessions s x (map notes_of ends) (notes_of ended) at
      (at_mapped notes_of ends x.controller ended is_ended)))

  count_on : (c : ℕ) (b : Bool) → (x.controller == c) ≡ b → count_own c (s + 1) ≡ count_own c s + cond b 1 0
  count_on c b test =
      ap length (own_next c (boot_at plan n).sessions s x at)
      ∙ length-append (sessions_from c 0 (take s (boot_at plan n).sessions)) (own_of c s x)
      ∙ ap (λ m. count_own c s + m) (by_test b test)
    where
      by_test : (b : Bool) → (x.controller == c) ≡ b → length (own_of c s x) ≡ cond b 1 0
      by_test true test = ap (λ (t : Bool). length {A = ℕ × List Command} (cond t ((s, x.commands) ∷ []) [])) test
      by_test false test = ap (λ (t : Bool). length {A = ℕ × List Command} (cond t ((s, x.commands) ∷ []) [])) test

  -- the place of its controller goes on by one, and the others stay
  pub places_on : (places next : List ℕ) (place : ℕ) → length places ≡ length ends → x.controller < length ends
      → ((c : ℕ) → c < length ends → get_or places c 0 ≡ count_own c s) → place ≡ get_or places x.controller 0
      → next ≡ set places x.controller (place + 1)
      → (c : ℕ) → c < length ends → get_or next c 0 ≡ count_own c (s + 1)
  places_on places next place long there placed is_place is_next c below = by_case (cases_eq c x.controller)
    where
      by_case : (c ≡ x.controller) ⊎ (c ≡ x.controller → ⊥) → get_or next c 0 ≡ count_own c (s + 1)
      by_case (inl e) =
          ap (λ ps. get_or ps c 0) is_next
          ∙ ap (λ k. get_or (set places x.controller (place + 1)) k 0) e
          ∙ get_or-set_same places x.controller (place + 1) 0 (omega (arith, long, there))
          ∙ ap (λ p. p + 1) (is_place ∙ ap (λ k. get_or places k 0) (sym e) ∙ placed c below)
          ∙ sym (count_on c true (eq-eqb x.controller c (sym e)))
      by_case (inr d) =
          ap (λ ps. get_or ps c 0) is_next
          ∙ get_or-set_other places x.controller c (place + 1) 0 d
          ∙ placed c below
          ∙ (let none : count_own c s ≡ count_own c s + 0 = omega arith in none)
          ∙ sym (count_on c false (ne_eqb x.controller c (λ e. d (sym e))))
