-- The turns of a replay: a controller's own of the schedule, and then rounds of its own sessions.
use Rattle.std.proofs.Common.{◌≡◌, ◌+◌, ℕ, zero, suc, Bool, true, false, cond, List, [], ◌∷◌, ◌++◌, length, map, replicate, refl, ap, ◌∙◌, arith}
use Rattle.std.specs.Prelude.{filter, slice_get, ◌==◌}
use Rattle.std.specs.List.{concat}
use Rattle.std.proofs.lemmas.List.Elements.{filter-append}
use Rattle.nand_model.specs.Sizes.{numbers_from}
use Rattle.nand_model.specs.declared.words.Command.{Command}
use Rattle.plan_model.specs.Plan.{BootPlan, ChipPlan, PlanData, SessionPlan, boot_part, sessions_from}
use Rattle.headline_model.specs.Headline.{is_own, is_session_of, replay_turns}
use Rattle.run_laws.specs.Replay.{rounds_after, session_numbers}
use Rattle.headline_laws.specs.Replays.{own_schedule}

-- what is kept of rounds are rounds of what is kept
kept_rounds : (p : ℕ → Bool) (numbers : List ℕ) (rounds : ℕ)
    → filter p (concat (replicate rounds numbers)) ≡ concat (replicate rounds (filter p numbers))
kept_rounds p numbers zero = refl
kept_rounds p numbers (suc rounds) =
    filter-append p numbers (concat (replicate rounds numbers)) ∙ ap (λ rest. filter p numbers ++ rest) (kept_rounds p numbers rounds)

module _ (boot : BootPlan) (c : ℕ) where
  -- the numbers of a controller's own sessions, the first of all of which has number n
  own_numbers : (n : ℕ) (sessions : List SessionPlan) → ((i : ℕ) → slice_get boot.sessions (n + i) ≡ slice_get sessions i)
      → filter (is_own boot c) (numbers_from n (length sessions)) ≡ map (λ (s : ℕ × List Command). s.0) (sessions_from c n sessions)
  own_numbers n [] there = refl
  own_numbers n (s ∷ sessions) there =
      ap (λ b. cond b (n ∷ later) later) first ∙ by_test (s.controller == c) (own_numbers (n + 1) sessions
      (λ i. ap (slice_get boot.sessions) (let e : n + 1 + i ≡ n + suc i = omega arith in e) ∙ there (suc i)))
    where
      later : List ℕ
      later = filter (is_own boot c) (numbers_from (n + 1) (length sessions))

      first : is_own boot c n ≡ (s.controller == c)
      first = ap (λ k. is_session_of c (slice_get boot.sessions k)) (let e : n ≡ n + 0 = omega arith in e) ∙ ap (is_session_of c) (there 0)

      by_test : (b : Bool) → later ≡ map (λ (s : ℕ × List Command). s.0) (sessions_from c (n + 1) sessions) → cond b (n ∷ later) later
          ≡ map (λ (s : ℕ × List Command). s.0) (cond b ((n, s.commands) ∷ []) [] ++ sessions_from c (n + 1) sessions)
      by_test true rest = ap (λ ns. n ∷ ns) rest
      by_test false rest = rest

-- the turns of a replay
pub replay_turns-rounds : (plan : PlanData) (c : ℕ) (chips : List ChipPlan) (boot : BootPlan) (rounds : ℕ)
    → replay_turns boot rounds c ≡ rounds_after (own_schedule boot c) (session_numbers (boot_part plan c chips boot)) rounds
replay_turns-rounds plan c chips boot rounds =
    filter-append (is_own boot c) boot.schedule (concat (replicate rounds (numbers_from 0 (length boot.sessions))))
    ∙ ap (λ rest. own_schedule boot c ++ rest) (kept_rounds (is_own boot c) (numbers_from 0 (length boot.sessions)) rounds
    ∙ ap (λ numbers. concat (replicate rounds numbers)) (own_numbers boot c 0 boot.sessions
    (λ i. ap (slice_get boot.sessions) (let e : 0 + i ≡ i = omega arith in e))))
