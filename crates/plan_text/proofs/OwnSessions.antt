-- The sessions of a controller.
use Rattle.std.proofs.Common.{◌≡◌, ◌∙◌, ℕ, zero, suc, ◌+◌, ◌-◌, ◌<◌, Bool, true, false, List, [], ◌∷◌, ◌++◌, length, map, sym, ap, refl, subst, arith, append_assoc, length-append}
use Rattle.std.specs.Prelude.{◌==◌, if◌then◌else◌}
use Rattle.std.proofs.lemmas.Bool.{eq-eqb, ne_eqb}
use Rattle.std.proofs.lemmas.List.{append-nil}
use Rattle.std.proofs.lemmas.List.Elements.{All-append, All-cons, All-nil, All-weaker}
use Rattle.nand_model.specs.declared.words.Command.{Command}
use Rattle.command_model.specs.Boot.{Boot, change_at}
use Rattle.tool_steps.specs.Boot.{with_command, with_one_more, with_session}
use Rattle.plan_grammar.specs.declared.lines.PlanLines.{PlanLines}
use Rattle.plan_grammar.specs.declared.lines.CommandLine.{CommandLine}
use Rattle.plan_grammar.specs.declared.lines.SessionLines.{SessionLines}
use Rattle.plan_grammar.specs.Meaning.{command_of}
use Rattle.plan_text.specs.Boot.{AreBelow, sessions_for, with_sessions}

-- a boot with other sessions
abbrev of_sessions : Boot → List (ℕ × List Command) → Boot
of_sessions boot sessions = record boot { sessions = sessions }

-- the last item of a list changed
end_changed : {A : Type 0} (xs : List A) (x : A) (f : A → A) (n : ℕ) → n ≡ length xs → change_at (xs ++ x ∷ []) n f ≡ xs ++ f x ∷ []
end_changed [] x f zero e = refl
end_changed [] x f (suc n) e = absurd (omega (arith, e))
end_changed (y ∷ xs) x f zero e = absurd (omega (arith, e))
end_changed (y ∷ xs) x f (suc n) e = ap (λ l. y ∷ l) (end_changed xs x f n (omega (arith, e)))

last_changed : {A : Type 0} (xs : List A) (x : A) (f : A → A) → change_at (xs ++ x ∷ []) (length (xs ++ x ∷ []) - 1) f ≡ xs ++ f x ∷ []
last_changed xs x f = let long = length-append xs (x ∷ []) in end_changed xs x f (length (xs ++ x ∷ []) - 1) (omega (arith, long))

-- one more command of the last session
command_added : (boot : Boot) (number : ℕ) (commands : List Command) (command : Command) →
    with_command (with_sessions boot ((number, commands) ∷ [])) command ≡ with_sessions boot ((number, commands ++ command ∷ []) ∷ [])
command_added boot number commands command =
    ap (of_sessions boot) (last_changed boot.sessions (number, commands) (with_one_more command))

-- a session is behind the others, with some of its commands; the others are left
pub record IsSoFar (start now : Boot) (number : ℕ) (left whole : List Command) : Type 0 where
  pub done : List Command
  pub boot_is : now ≡ with_sessions start ((number, done) ∷ [])
  pub whole_is : done ++ left ≡ whole

pub so_far_begins : (f : CommandLine → Command) (start now : Boot) (number : ℕ) (rest lines : List CommandLine) → now ≡ with_session start number →
    rest ≡ lines → IsSoFar start now number (map f rest) (map f lines)
so_far_begins f start now number rest lines e all = record { done = []; boot_is = e; whole_is = ap (map f) all }

pub so_far_some : (start now : Boot) (number : ℕ) (left whole : List Command) → IsSoFar start now number left whole → 0 < length now.sessions
so_far_some start now number left whole h =
    let size = ap (λ (b : Boot). length b.sessions) h.boot_is in
    omega (arith, size, length-append start.sessions ((number, h.done) ∷ []))

pub so_far_more : (f : CommandLine → Command) (start now next : Boot) (number : ℕ) (rest later : List CommandLine) (whole : List Command)
    (line : CommandLine) (command : Command) → IsSoFar start now number (map f rest) whole → rest ≡ line ∷ later → command ≡ f line →
    next ≡ with_command now command → IsSoFar start next number (map f later) whole
so_far_more f start now next number rest later whole line command h split is push = record {
  done = h.done ++ f line ∷ [];
  boot_is = push ∙ ap (λ (b : Boot). with_command b command) h.boot_is
      ∙ ap (with_command (with_sessions start ((number, h.done) ∷ []))) is ∙ command_added start number h.done (f line);
  whole_is = append_assoc h.done (f line ∷ []) (map f later) ∙ ap (λ (ls : List CommandLine). h.done ++ map f ls) (sym split) ∙ h.whole_is;
}

pub so_far_end : (f : CommandLine → Command) (start now : Boot) (number : ℕ) (rest : List CommandLine) (whole : List Command) →
    IsSoFar start now number (map f rest) whole → rest ≡ [] → now ≡ with_sessions start ((number, whole) ∷ [])
so_far_end f start now number rest whole h none =
    h.boot_is
    ∙ ap (λ (cs : List Command). with_sessions start ((number, cs) ∷ []))
    (sym (append-nil h.done) ∙ ap (λ (ls : List CommandLine). h.done ++ map f ls) (sym none) ∙ h.whole_is)

module _ (plan : PlanLines) (c n : ℕ) (session : SessionLines) where
  abbrev the_session : ℕ × List Command
  the_session = (n, map (command_of plan) session.commands)

  -- a session of this controller, and one of another
  pub own_session : session.controller ≡ c → sessions_for plan c n (session ∷ []) ≡ the_session ∷ []
  own_session same = ap (λ b. (if b then the_session ∷ [] else []) ++ []) (eq-eqb session.controller c same)

  pub other_session : (boot : Boot) → (session.controller ≡ c → ⊥) → boot ≡ with_sessions boot (sessions_for plan c n (session ∷ []))
  other_session boot other =
      ap (of_sessions boot)
      (sym (append-nil boot.sessions)
      ∙ ap (λ b. boot.sessions ++ ((if b then the_session ∷ [] else []) ++ [])) (sym (ne_eqb session.controller c other)))

  own_below : AreBelow (n + 1) (sessions_for plan c n (session ∷ []))
  own_below = by (session.controller == c)
    where
      by : (b : Bool) → AreBelow (n + 1) ((if b then the_session ∷ [] else []) ++ [])
      by true = All-cons (λ (s : ℕ × List Command). s.0 < n + 1) the_session [] (omega arith) (All-nil (λ (s : ℕ × List Command). s.0 < n + 1))
      by false = All-nil (λ (s : ℕ × List Command). s.0 < n + 1)

  pub below_more : (now next : Boot) → AreBelow n now.sessions → next ≡ with_sessions now (sessions_for plan c n (session ∷ [])) →
      AreBelow (n + 1) next.sessions
  below_more now next below push =
      subst (λ (b : Boot). AreBelow (n + 1) b.sessions) (sym push)
      (All-append (λ (s : ℕ × List Command). s.0 < n + 1) now.sessions (sessions_for plan c n (session ∷ []))
      (All-weaker (λ (s : ℕ × List Command). s.0 < n) (λ (s : ℕ × List Command). s.0 < n + 1) (λ (s : ℕ × List Command) h. omega (arith, h))
      now.sessions below)
      own_below)

-- where there is no session, all have numbers below any
pub below_none : (boot : Boot) → boot.sessions ≡ [] → AreBelow 0 boot.sessions
below_none boot none = subst (AreBelow 0) (sym none) (All-nil (λ (s : ℕ × List Command). s.0 < 0))

-- the sessions so far and what is left make the whole
module _ (plan : PlanLines) (c n : ℕ) (now whole : Boot) (rest : List SessionLines) (h : with_sessions now (sessions_for plan c n rest) ≡ whole) where
  pub sessions_end : rest ≡ [] → now ≡ whole
  sessions_end none =
      ap (of_sessions now) (sym (append-nil now.sessions))
      ∙ ap (λ (ss : List SessionLines). with_sessions now (sessions_for plan c n ss)) (sym none) ∙ h

  pub sessions_more : (later : List SessionLines) (session : SessionLines) (next : Boot) → rest ≡ session ∷ later →
      next ≡ with_sessions now (sessions_for plan c n (session ∷ [])) → with_sessions next (sessions_for plan c (n + 1) later) ≡ whole
  sessions_more later session next split push =
      let own : List (ℕ × List Command) = if session.controller == c then the_session plan c n session ∷ [] else [] in
      ap (λ (b : Boot). with_sessions b (sessions_for plan c (n + 1) later)) push
      ∙ ap (of_sessions now)
      (append_assoc now.sessions (own ++ []) (sessions_for plan c (n + 1) later)
      ∙ ap (λ (ss : List (ℕ × List Command)). now.sessions ++ (ss ++ sessions_for plan c (n + 1) later)) (append-nil own))
      ∙ ap (λ (ss : List SessionLines). with_sessions now (sessions_for plan c n ss)) (sym split) ∙ h
