-- A controller's own sessions among all sessions of a boot.
use Rattle.std.proofs.Common.{◌≡◌, ◌≤◌, ◌+◌, ℕ, suc, Bool, true, false, cond, List, [], ◌∷◌, ◌++◌, length, take, drop, Option, Some, None, refl, ap, sym, ◌∙◌, subst, arith, append_assoc, append-nil, length-append}
use Rattle.std.specs.Prelude.{All, filter, slice_get, option_map, ◌==◌, if◌then◌else◌}
use Rattle.std.proofs.lemmas.Bool.{eq-eqb, eqb-true}
use Rattle.std.proofs.lemmas.List.{drop_more, length-take-le, take-append-drop}
use Rattle.std.proofs.lemmas.List.Elements.{All-weaker, filter_passes}
use Rattle.std.proofs.lemmas.Option.{get_or_from_slice_get, slice_get_within}
use Rattle.nand_model.specs.declared.words.Command.{Command}
use Rattle.plan_model.specs.Plan.{BootPlan, ChipPlan, PlanData, SessionPlan, boot_part, sessions_from}
use Rattle.report_model.proofs.Printed.{take_next}
use Rattle.headline_model.specs.Headline.{is_own, is_session_of}
use Rattle.headline_laws.specs.Replays.{own_schedule}
use Rattle.ctl_core.specs.Start.{HasSession}

-- the item behind a list
pub got_at : {A : Type 0} (xs : List A) (y : A) (ys : List A) → slice_get (xs ++ y ∷ ys) (length xs) ≡ Some y
got_at [] y ys = refl
got_at (x ∷ xs) y ys = got_at xs y ys

-- the own session of an item, if it is one
abbrev pub own_of : ℕ → ℕ → SessionPlan → List (ℕ × List Command)
own_of c n s = if s.controller == c then (n, s.commands) ∷ [] else []

sessions_from-append : (c n : ℕ) (xs ys : List SessionPlan)
    → sessions_from c n (xs ++ ys) ≡ sessions_from c n xs ++ sessions_from c (n + length xs) ys
sessions_from-append c n [] ys = ap (λ k. sessions_from c k ys) (let e : n ≡ n + 0 = omega arith in e)
sessions_from-append c n (x ∷ xs) ys =
    ap (λ (later : List (ℕ × List Command)). own_of c n x ++ later)
    (sessions_from-append c (n + 1) xs ys
    ∙ ap (λ k. sessions_from c (n + 1) xs ++ sessions_from c k ys) (let e : n + 1 + length xs ≡ n + suc (length xs) = omega arith in e))
    ∙ sym (append_assoc (own_of c n x) (sessions_from c (n + 1) xs) (sessions_from c (n + suc (length xs)) ys))

-- the own sessions among one more session
pub own_next : (c : ℕ) (sessions : List SessionPlan) (s : ℕ) (x : SessionPlan) → slice_get sessions s ≡ Some x
    → sessions_from c 0 (take (s + 1) sessions) ≡ sessions_from c 0 (take s sessions) ++ own_of c s x
own_next c sessions s x at =
    let within = slice_get_within sessions s x at in
    let count : 0 + length (take s sessions) ≡ s = omega (arith, length-take-le s sessions (omega (arith, within))) in
    ap (sessions_from c 0) (take_next sessions s x at)
    ∙ sessions_from-append c 0 (take s sessions) (x ∷ [])
    ∙ ap (λ (own : List (ℕ × List Command)). sessions_from c 0 (take s sessions) ++ own) (append-nil (own_of c (0 + length (take s sessions)) x))
    ∙ ap (λ k. sessions_from c 0 (take s sessions) ++ own_of c k x) count

-- the place of a session among those of its controller is the number of these before it
pub own_place : (sessions : List SessionPlan) (s : ℕ) (x : SessionPlan) → slice_get sessions s ≡ Some x
    → slice_get (sessions_from x.controller 0 sessions) (length (sessions_from x.controller 0 (take s sessions))) ≡ Some (s, x.commands)
own_place sessions s x at =
    let c = x.controller in
    let before = sessions_from c 0 (take s sessions) in
    let within = slice_get_within sessions s x at in
    let count : 0 + length (take s sessions) ≡ s = omega (arith, length-take-le s sessions (omega (arith, within))) in
    let split : sessions ≡ take s sessions ++ x ∷ drop (s + 1) sessions =
    sym (take-append-drop s sessions) ∙ ap (λ later. take s sessions ++ later) (drop_more sessions s x within
    ∙ ap (λ y. y ∷ drop (s + 1) sessions) (get_or_from_slice_get sessions s x x at)) in
    let later = sessions_from c (s + 1) (drop (s + 1) sessions) in
    let all : sessions_from c 0 sessions ≡ before ++ (s, x.commands) ∷ later =
    ap (sessions_from c 0) split
    ∙ sessions_from-append c 0 (take s sessions) (x ∷ drop (s + 1) sessions)
    ∙ ap (λ k. before ++ sessions_from c k (x ∷ drop (s + 1) sessions)) count
    ∙ ap (λ (b : Bool). before ++ (cond b ((s, x.commands) ∷ []) [] ++ later)) (eq-eqb c c refl) in
    ap (λ (own : List (ℕ × List Command)). slice_get own (length before)) all ∙ got_at before (s, x.commands) later

-- there are no more own sessions than sessions
few_from : (c n : ℕ) (sessions : List SessionPlan) → length (sessions_from c n sessions) ≤ length sessions
few_from c n [] = omega arith
few_from c n (x ∷ sessions) =
    let more = few_from c (n + 1) sessions in
    let both = length-append (own_of c n x) (sessions_from c (n + 1) sessions) in
    by_test (x.controller == c) (omega (arith, more))
  where
    by_test : (b : Bool) → length (sessions_from c (n + 1) sessions) ≤ length sessions
        → length (cond b ((n, x.commands) ∷ []) [] ++ sessions_from c (n + 1) sessions) ≤ suc (length sessions)
    by_test true h = omega (arith, h)
    by_test false h = omega (arith, h)

pub few_own : (c : ℕ) (sessions : List SessionPlan) (s : ℕ) → s ≤ length sessions → length (sessions_from c 0 (take s sessions)) ≤ s
few_own c sessions s within =
    let few = few_from c 0 (take s sessions) in
    let count = length-take-le s sessions within in
    omega (arith, few, count)

module _ (plan : PlanData) (c : ℕ) (chips : List ChipPlan) (boot : BootPlan) where
  -- a session of a controller is one of its part of the boot
  own_session : (s : ℕ) → is_own boot c s ≡ true → HasSession (boot_part plan c chips boot) s
  own_session s h = by_item (slice_get boot.sessions s) refl h
    where
      by_item : (o : Option SessionPlan) → slice_get boot.sessions s ≡ o → is_session_of c o ≡ true → HasSession (boot_part plan c chips boot) s
      by_item None at test = cc
      by_item (Some x) at test =
          subst (λ d. HasSession (boot_part plan d chips boot) s) (eqb-true x.controller c test) (
            length (sessions_from x.controller 0 (take s boot.sessions)),
            ap (option_map (λ (own : ℕ × List Command). own.0)) (own_place boot.sessions s x at),
          )

  -- the turns of its schedule are of such sessions
  pub own_turns : All (HasSession (boot_part plan c chips boot)) (own_schedule boot c)
  own_turns = All-weaker (λ s. is_own boot c s ≡ true) (HasSession (boot_part plan c chips boot)) own_session (own_schedule boot c) (filter_passes (is_own boot c) boot.schedule)

-- one turn more is looked at
pub own_turn_on : (p : ℕ → Bool) (own next rest later whole : List ℕ) (s : ℕ) (b : Bool) → own ++ filter p rest ≡ whole → rest ≡ s ∷ later
    → p s ≡ b → next ≡ own ++ cond b (s ∷ []) [] → next ++ filter p later ≡ whole
own_turn_on p own next rest later whole s b so_far split test added =
    ap (λ o. o ++ filter p later) added
    ∙ append_assoc own (cond b (s ∷ []) []) (filter p later)
    ∙ ap (λ t. own ++ t) (by_test b)
    ∙ ap (λ t. own ++ cond t (s ∷ filter p later) (filter p later)) (sym test)
    ∙ ap (λ r. own ++ filter p r) (sym split) ∙ so_far
  where
    by_test : (t : Bool) → cond t (s ∷ []) [] ++ filter p later ≡ cond t (s ∷ filter p later) (filter p later)
    by_test true = refl
    by_test false = refl
