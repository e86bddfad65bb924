-- The sessions of boots, line by line.
use Rattle.std.proofs.Common.{◌≡◌, ℕ, ◌+◌, ◌<◌, ◌≤◌, Bool, true, false, ltb, leb, ◌&&◌, List, [], ◌∷◌, ◌++◌, Some, Result, Ok, length, refl, sym, ap, ◌∙◌, subst, arith, length-append}
use Rattle.std.specs.List.{list_all}
use Rattle.std.proofs.lemmas.Bool.{and_from, le-leb, leb-true, lt-ltb, ltb-true}
use Rattle.std.proofs.lemmas.List.Folds.{list_all-append}
use Rattle.plan_grammar.specs.declared.lines.BootLines.{BootLines}
use Rattle.plan_grammar.specs.declared.lines.SessionLines.{SessionLines}
use Rattle.plan_grammar.specs.Limits.{most_sessions}
use Rattle.plan_grammar.specs.Rules.{last_of, with_last}
use Rattle.plan_grammar.specs.declared.lines.CommandLine.{CommandLine}
use Rattle.plan_index.specs.Boots.{with_session_line, with_command_line, with_boot_command}
use Rattle.plan_index.proofs.LastItems.{length-with_last}
use Rattle.plan_store.specs.SessionCount.{has_few_sessions, HaveFewSessions}
use Rattle.plan_store.proofs.Controllers.{all-with_last, last_passes}

-- with one more boot, which has no session
pub few_push : (boots : List BootLines) (boot : BootLines) → boot.sessions ≡ [] → HaveFewSessions boots →
    HaveFewSessions (boots ++ boot ∷ [])
few_push boots boot none s =
    list_all-append has_few_sessions boots (boot ∷ [])
    ∙ and_from (list_all has_few_sessions boots) (has_few_sessions boot && true) s
    (and_from (has_few_sessions boot) true (ap (λ (sessions : List SessionLines). leb (length sessions) most_sessions) none) refl)

all_kept : {A : Type 0} (p : A → Bool) (g : A → A) → ((x : A) → p (g x) ≡ p x) → (xs : List A) →
    list_all p (with_last g xs) ≡ list_all p xs
all_kept p g same [] = refl
all_kept p g same (x ∷ []) = ap (λ b. b && true) (same x)
all_kept p g same (x ∷ y ∷ xs) = ap (λ b. p x && b) (all_kept p g same (y ∷ xs))

-- with another last boot of the same sessions
pub few_kept : (boots : List BootLines) (change : BootLines → BootLines) →
    ((boot : BootLines) → (change boot).sessions ≡ boot.sessions) → HaveFewSessions boots → HaveFewSessions (with_last change boots)
few_kept boots change same s =
    all_kept has_few_sessions change (λ (boot : BootLines). ap (λ (sessions : List SessionLines). leb (length sessions) most_sessions) (same boot)) boots ∙ s

-- with one more command in the last session
pub few_command : (boots : List BootLines) (command : CommandLine) → HaveFewSessions boots →
    HaveFewSessions (with_last (with_boot_command command) boots)
few_command boots command s =
    all_kept has_few_sessions (with_boot_command command)
    (λ (boot : BootLines). ap (λ n. leb n most_sessions) (length-with_last (with_command_line command) boot.sessions)) boots ∙ s

-- with one more session
pub few_session : (boots : List BootLines) (boot : BootLines) (session : SessionLines) → last_of boots ≡ Some boot →
    length boot.sessions < most_sessions → HaveFewSessions boots → HaveFewSessions (with_last (with_session_line session) boots)
few_session boots boot session e room s =
    all-with_last has_few_sessions (with_session_line session) boots boot e
    (le-leb (length (boot.sessions ++ session ∷ [])) most_sessions (omega (arith, length-append boot.sessions (session ∷ []), room))) s

-- the sessions of the last boot
pub few_in_last : (boots : List BootLines) (boot : BootLines) → last_of boots ≡ Some boot → HaveFewSessions boots →
    length boot.sessions ≤ most_sessions
few_in_last boots boot e s = leb-true (length boot.sessions) most_sessions (last_passes has_few_sessions boots boot e s)

-- numbers below a number are below a greater one
pub all_below : (m n : ℕ) → m ≤ n → (xs : List ℕ) → list_all (λ s. ltb s m) xs ≡ true → list_all (λ s. ltb s n) xs ≡ true
all_below m n e [] pass = refl
all_below m n e (x ∷ xs) pass = here (ltb x m) refl pass (all_below m n e xs)
  where
    here : (b : Bool) → ltb x m ≡ b → (b && list_all (λ s. ltb s m) xs) ≡ true →
        (list_all (λ s. ltb s m) xs ≡ true → list_all (λ s. ltb s n) xs ≡ true) → (ltb x n && list_all (λ s. ltb s n) xs) ≡ true
    here true f p later = and_from (ltb x n) (list_all (λ s. ltb s n) xs) (lt-ltb x n (omega (arith, ltb-true x m f, e))) (later p)
    here false f p later = absurd (cc p)
