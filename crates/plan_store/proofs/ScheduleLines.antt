-- A schedule's line.
use Rattle.std.proofs.Common.{◌≡◌, ℕ, Bool, true, false, not, ltb, List, length, Result, Ok, Err, refl, sym, ap, ◌∙◌}
use Rattle.std.specs.List.{list_all}
use Rattle.plan_grammar.specs.declared.kind.PlanKind.{PlanKind}
use Rattle.plan_grammar.specs.declared.kind.PlanKind.TheVariants.{BadWords, OutOfChip}
use Rattle.plan_grammar.specs.declared.lines.PlanLines.{PlanLines}
use Rattle.plan_grammar.specs.declared.lines.BootLines.{BootLines}
use Rattle.plan_grammar.specs.Rules.{◌>>=◌, rule, is_empty}
use Rattle.plan_grammar.specs.Forms.{numbers}
use Rattle.plan_grammar.specs.Faults.{with_last_boot}
use Rattle.plan_grammar.specs.Sessions.{running_boot, schedule_line}
use Rattle.plan_words.specs.declared.error.LineError.{LineError}
use Rattle.plan_words.specs.declared.error.LineError.TheVariants.{Broken, OutOfMemory}
use Rattle.plan_words.specs.Answer.{Answers}
use Rattle.plan_index.specs.Boots.{with_schedule_line}
use Rattle.plan_store.specs.SessionCount.{session_numbers}

abbrev scheduled : PlanLines → List ℕ → Result PlanLines PlanKind
scheduled plan sessions = Ok (with_last_boot (with_schedule_line sessions) plan)

two_steps : {A C : Type 0} (r : Result A PlanKind) (test : A → Bool) (kind : PlanKind) (next : A → Result C PlanKind) →
    (r >>= λ a. rule (test a) kind >>= λ (u : Unit {0}). next a) ≡ ((r >>= λ a. rule (test a) kind >>= λ (u : Unit {0}). Ok a) >>= next)
two_steps (Err k) test kind next = refl
two_steps (Ok a) test kind next = by_test (test a)
  where
    by_test : (b : Bool) → (rule b kind >>= λ (u : Unit {0}). next a) ≡ ((rule b kind >>= λ (u : Unit {0}). Ok a) >>= next)
    by_test true = refl
    by_test false = refl

-- a schedule by its numbers
pub schedule_is : (plan : PlanLines) (words : List (List ℕ)) (boot : BootLines) (count : ℕ) → running_boot plan ≡ Ok boot →
    not (is_empty words) ≡ true → count ≡ length boot.sessions →
    schedule_line plan words ≡ (session_numbers count words >>= scheduled plan)
unfolding schedule_line session_numbers
schedule_is plan words boot count e f n =
    ap (λ (r : Result BootLines PlanKind). r >>= λ (b : BootLines). rule (not (is_empty words)) BadWords >>= λ (u : Unit {0}).
    numbers words >>= λ sessions. rule (list_all (λ s. ltb s (length b.sessions)) sessions) OutOfChip >>= λ (v : Unit {0}). scheduled plan sessions) e
    ∙ ap (λ b. rule b BadWords >>= λ (u : Unit {0}).
    numbers words >>= λ sessions. rule (list_all (λ s. ltb s (length boot.sessions)) sessions) OutOfChip >>= λ (v : Unit {0}). scheduled plan sessions) f
    ∙ two_steps (numbers words) (list_all (λ s. ltb s (length boot.sessions))) OutOfChip (scheduled plan)
    ∙ ap (λ k. (numbers words >>= λ sessions. rule (list_all (λ s. ltb s k) sessions) OutOfChip >>= λ (u : Unit {0}). Ok sessions) >>= scheduled plan) (sym n)

-- a schedule whose numbers are none, or for which memory ran out
pub schedule_refused : (plan : PlanLines) (words : List (List ℕ)) (boot : BootLines) (count : ℕ) (error : LineError) → running_boot plan ≡ Ok boot →
    not (is_empty words) ≡ true → count ≡ length boot.sessions → Answers {A = List ℕ} (Err error) (session_numbers count words) →
    Answers {A = PlanLines} (Err error) (schedule_line plan words)
schedule_refused plan words boot count (Broken kind) e f n broken =
    schedule_is plan words boot count e f n ∙ ap (λ (r : Result (List ℕ) PlanKind). r >>= scheduled plan) broken
schedule_refused plan words boot count OutOfMemory e f n broken = tt

-- a schedule that is taken
pub schedule_taken : (plan : PlanLines) (words : List (List ℕ)) (boot : BootLines) (count : ℕ) (sessions : List ℕ) → running_boot plan ≡ Ok boot →
    not (is_empty words) ≡ true → count ≡ length boot.sessions → session_numbers count words ≡ Ok sessions →
    schedule_line plan words ≡ Ok (with_last_boot (with_schedule_line sessions) plan)
schedule_taken plan words boot count sessions e f n good =
    schedule_is plan words boot count e f n ∙ ap (λ (r : Result (List ℕ) PlanKind). r >>= scheduled plan) good
