-- A controller's part of each boot of a plan: its partitions, its new chips, its sessions.
use Rattle.std.proofs.Common.{◌≡◌, ◌<◌, ◌+◌, ℕ, zero, suc, Bool, true, false, cond, List, [], ◌∷◌, ◌++◌, length, map, get_or, Some, ap, sym, ◌∙◌, arith}
use Rattle.std.specs.Prelude.{slice_get, Contains, ◌==◌}
use Rattle.std.proofs.lemmas.Option.{none-some, same_Some, slice_get-get_or}
use Rattle.nand_model.specs.declared.words.Command.{Command}
use Rattle.command_model.specs.Boot.{AreAscending, Boot}
use Rattle.run_model.specs.Run.{HaveOneNumberEach}
use Rattle.plan_model.specs.Plan.{BootPlan, ChipPlan, PlanData, SessionPlan, boot_part, devices_of, sessions_from}
use Rattle.headline_model.specs.Headline.{boot_parts}

-- all boots of a controller have its devices
pub same_devices : (plan : PlanData) (c : ℕ) (chips : List ChipPlan) (boot : Boot) → Contains (boot_parts plan c chips) boot
    → boot.partitions ≡ devices_of plan c chips
same_devices plan c chips boot has = at plan.boots has.0 has.1 has.2
  where
    at : (boots : List BootPlan) (n : ℕ) → n < length (map (boot_part plan c chips) boots)
        → get_or (map (boot_part plan c chips) boots) n boot ≡ boot → boot.partitions ≡ devices_of plan c chips
    at [] n there is = absurd (omega (arith, there))
    at (b ∷ boots) zero there is = ap (λ (x : Boot). x.partitions) (sym is)
    at (b ∷ boots) (suc n) there is = at boots n (omega (arith, there)) is

-- a session of a controller is that of its number in the boot
pub record IsSessionAt (n : ℕ) (sessions : List SessionPlan) (own : ℕ × List Command) : Type 0 where
  pub place : ℕ
  pub number : own.0 ≡ n + place
  pub commands : slice_get (map (λ (s : SessionPlan). s.commands) sessions) place ≡ Some own.1

later_session : (n : ℕ) (s : SessionPlan) (sessions : List SessionPlan) (own : ℕ × List Command) → IsSessionAt (n + 1) sessions own
    → IsSessionAt n (s ∷ sessions) own
later_session n s sessions own h = record {
  place = suc h.place;
  number = (let e = h.number in omega (arith, e));
  commands = h.commands;
}

pub session_at : (c n : ℕ) (sessions : List SessionPlan) (i : ℕ) (own : ℕ × List Command)
    → slice_get (sessions_from c n sessions) i ≡ Some own → IsSessionAt n sessions own
session_at c n [] i own h = absurd (none-some own h)
session_at c n (s ∷ sessions) i own h =
    by_test (s.controller == c) i (λ j e. later_session n s sessions own (session_at c (n + 1) sessions j own e)) h
  where
    by_test : (b : Bool) (j : ℕ) → ((j : ℕ) → slice_get (sessions_from c (n + 1) sessions) j ≡ Some own → IsSessionAt n (s ∷ sessions) own)
        → slice_get (cond b ((n, s.commands) ∷ []) [] ++ sessions_from c (n + 1) sessions) j ≡ Some own → IsSessionAt n (s ∷ sessions) own
    by_test true zero later e = record {
      place = 0;
      number = (let same : n ≡ own.0 = ap (λ (x : ℕ × List Command). x.0) (same_Some (n, s.commands) own e) in omega (arith, same));
      commands = ap (λ (x : ℕ × List Command). Some x.1) (same_Some (n, s.commands) own e);
    }
    by_test true (suc j) later e = later j e
    by_test false j later e = later j e

-- so no two sessions of a boot have one number
pub one_number : (plan : PlanData) (c : ℕ) (chips : List ChipPlan) (boot : BootPlan)
    → HaveOneNumberEach (boot_part plan c chips boot).sessions
one_number plan c chips boot n a b one other =
    let first = at a one in
    let second = at b other in
    let same : first.place ≡ second.place = (let e = first.number in let f = second.number in omega (arith, e, f)) in
    same_Some a b (sym first.commands ∙ ap (slice_get (map (λ (s : SessionPlan). s.commands) boot.sessions)) same ∙ second.commands)
  where
    at : (x : List Command) → Contains (sessions_from c 0 boot.sessions) (n, x) → IsSessionAt 0 boot.sessions (n, x)
    at x has =
        session_at c 0 boot.sessions has.0 (n, x)
        (slice_get-get_or (sessions_from c 0 boot.sessions) has.0 (n, x) has.1 ∙ ap Some has.2)

-- and their numbers ascend
ascending_from : (c n : ℕ) (sessions : List SessionPlan) → AreAscending (sessions_from c n sessions)
ascending_from c n [] i j a b lt at there = absurd (none-some a at)
ascending_from c n (s ∷ sessions) i j a b lt at there =
    by_test (s.controller == c) i j (λ i j. ascending_from c (n + 1) sessions i j a b) lt at there
  where
    by_test : (t : Bool) (i j : ℕ) → ((i j : ℕ) → i < j → slice_get (sessions_from c (n + 1) sessions) i ≡ Some a
        → slice_get (sessions_from c (n + 1) sessions) j ≡ Some b → a.0 < b.0) → i < j
        → slice_get (cond t ((n, s.commands) ∷ []) [] ++ sessions_from c (n + 1) sessions) i ≡ Some a
        → slice_get (cond t ((n, s.commands) ∷ []) [] ++ sessions_from c (n + 1) sessions) j ≡ Some b → a.0 < b.0
    by_test true i zero later lt at there = absurd (omega (arith, lt))
    by_test true zero (suc j) later lt at there =
        let first : n ≡ a.0 = ap (λ (x : ℕ × List Command). x.0) (same_Some (n, s.commands) a at) in
        let placed = session_at c (n + 1) sessions j b there in
        let number = placed.number in
        omega (arith, first, number)
    by_test true (suc i) (suc j) later lt at there = later i j (omega (arith, lt)) at there
    by_test false i j later lt at there = later i j lt at there

pub ascending : (plan : PlanData) (c : ℕ) (chips : List ChipPlan) (boot : BootPlan) → AreAscending (boot_part plan c chips boot).sessions
ascending plan c chips boot = ascending_from c 0 boot.sessions
