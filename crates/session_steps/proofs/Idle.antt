-- Commands that ask for no operation, and what is put down of them.
use Rattle.std.proofs.Common.{◌≡◌, ℕ, zero, suc, ◌+◌, Bool, true, false, List, [], ◌∷◌, ◌++◌, length, drop, replicate, Option, Some, None, refl, sym, ap, ◌∙◌, subst, arith, append-nil, append_assoc, length-append}
use Rattle.std.specs.Prelude.{if◌then◌else◌, slice_get, ◌≤◌}
use Rattle.std.proofs.lemmas.Option.{none-some, same_Some}
use Rattle.std.proofs.lemmas.List.{length-replicate}
use Rattle.nand_model.specs.declared.geometry.Geometry.{Geometry}
use Rattle.nand_model.specs.declared.words.Command.{Command}
use Rattle.nand_model.specs.declared.words.Outcome.{Outcome}
use Rattle.command_model.specs.Command.{Script, End, Ask}
use Rattle.tool_steps.specs.Steps.{asks_something}
use Rattle.session_steps.specs.Standing.{Standing, idle_first, nothing_written, with_idle, outcomes_by, commands_by, put_down, IsBetween}

-- the first command asks for something, or not
pub idle-asks : (command : Command) (commands : List Command) → asks_something command ≡ true → idle_first (command ∷ commands) ≡ 0
idle-asks command commands e = ap (λ b. if b then 0 else suc (idle_first commands)) e

pub idle-not : (command : Command) (commands : List Command) → asks_something command ≡ false → idle_first (command ∷ commands) ≡ suc (idle_first commands)
idle-not command commands e = ap (λ b. if b then 0 else suc (idle_first commands)) e

-- the commands from the place of one on
drop-there : (commands : List Command) (k : ℕ) (command : Command) → slice_get commands k ≡ Some command
    → drop k commands ≡ command ∷ drop (k + 1) commands
drop-there [] k command e = absurd (none-some command e)
drop-there (first ∷ commands) zero command e = ap (λ c. c ∷ commands) (same_Some first command e)
drop-there (first ∷ commands) (suc k) command e =
    let one : suc k + 1 ≡ suc (k + 1) = omega arith in
    drop-there commands k command e ∙ ap (λ m. command ∷ drop m (first ∷ commands)) (sym one)

-- from a command on that asks for something, no such command stands first
pub idle-found : (commands : List Command) (k : ℕ) (command : Command) → slice_get commands k ≡ Some command
    → asks_something command ≡ true → idle_first (drop k commands) ≡ 0
idle-found commands k command e asks =
    ap idle_first (drop-there commands k command e) ∙ idle-asks command (drop (k + 1) commands) asks

-- one that asks for nothing is one more
pub idle-more : (commands : List Command) (k : ℕ) (command : Command) → slice_get commands k ≡ Some command
    → asks_something command ≡ false → idle_first (drop k commands) ≡ suc (idle_first (drop (k + 1) commands))
idle-more commands k command e none =
    ap idle_first (drop-there commands k command e) ∙ idle-not command (drop (k + 1) commands) none

-- there are no more of them than commands
pub idle-few : (commands : List Command) → idle_first commands ≤ length commands
idle-few [] = omega arith
idle-few (command ∷ commands) = by_test (asks_something command) refl (idle-few commands)
  where
    by_test : (b : Bool) → asks_something command ≡ b → idle_first commands ≤ length commands
        → idle_first (command ∷ commands) ≤ length (command ∷ commands)
    by_test true e later =
        let none : idle_first (command ∷ commands) ≡ 0 = idle-asks command commands e in
        omega (arith, none)
    by_test false e later =
        let more : idle_first (command ∷ commands) ≡ suc (idle_first commands) = idle-not command commands e in
        omega (arith, more, later)

-- no such command stands after those that were counted
idle-after : (commands : List Command) → idle_first (drop (idle_first commands) commands) ≡ 0
idle-after [] = refl
idle-after (command ∷ commands) = by_test (asks_something command) refl (idle-after commands)
  where
    by_test : (b : Bool) → asks_something command ≡ b → idle_first (drop (idle_first commands) commands) ≡ 0
        → idle_first (drop (idle_first (command ∷ commands)) (command ∷ commands)) ≡ 0
    by_test true e later =
        let none = idle-asks command commands e in
        ap (λ k. idle_first (drop k (command ∷ commands))) none ∙ none
    by_test false e later = ap (λ k. idle_first (drop k (command ∷ commands))) (idle-not command commands e) ∙ later

drop_drop : (n k : ℕ) (commands : List Command) → drop k (drop n commands) ≡ drop (n + k) commands
drop_drop zero k commands = let e : k ≡ 0 + k = omega arith in ap (λ m. drop m commands) e
drop_drop (suc n) zero [] =
    let e : suc n + 0 ≡ suc (n + 0) = omega arith in
    sym (ap (λ m. drop {A = Command} m []) e)
drop_drop (suc n) (suc k) [] =
    let e : suc n + suc k ≡ suc (n + suc k) = omega arith in
    sym (ap (λ m. drop {A = Command} m []) e)
drop_drop (suc n) k (command ∷ commands) =
    let e : suc n + k ≡ suc (n + k) = omega arith in
    drop_drop n k commands ∙ ap (λ m. drop m (command ∷ commands)) (sym e)

-- the commands after these outcomes and those that were added
pub drop-idle : (commands : List Command) (outcomes : List Outcome)
    → drop (length (with_idle commands outcomes)) commands ≡ drop (idle_first (drop (length outcomes) commands)) (drop (length outcomes) commands)
drop-idle commands outcomes =
    let k : ℕ = idle_first (drop (length outcomes) commands) in
    let long : length (outcomes ++ replicate (idle_first (drop (length outcomes) commands)) nothing_written) ≡ length outcomes + idle_first (drop (length outcomes) commands) =
    length-append outcomes (replicate k nothing_written) ∙ ap (λ m. length outcomes + m) (length-replicate {A = Outcome} k nothing_written) in
    ap (λ m. drop m commands) long ∙ sym (drop_drop (length outcomes) k commands)

-- no such command stands after outcomes to which they were added
none_idle : (commands : List Command) (outcomes : List Outcome) → idle_first (drop (length (with_idle commands outcomes)) commands) ≡ 0
none_idle commands outcomes = ap idle_first (drop-idle commands outcomes) ∙ idle-after (drop (length outcomes) commands)

pub with_idle-again : (commands : List Command) (outcomes : List Outcome) → with_idle commands (with_idle commands outcomes) ≡ with_idle commands outcomes
with_idle-again commands outcomes =
    ap (λ k. with_idle commands outcomes ++ replicate k nothing_written) (none_idle commands outcomes) ∙ append-nil (with_idle commands outcomes)

-- between two commands, no more is added
pub put_down-again : (commands : List Command) (st : Standing) → IsBetween st.script → with_idle commands (outcomes_by commands st) ≡ outcomes_by commands st
put_down-again commands st h = by_script st.script h
  where
    by_script : (script : Option Script) → IsBetween script
        → with_idle commands (outcomes_by commands (record { number = st.number; script = script; outcomes = st.outcomes }))
        ≡ outcomes_by commands (record { number = st.number; script = script; outcomes = st.outcomes })
    by_script None h = with_idle-again commands st.outcomes
    by_script (Some (End outcome)) h = with_idle-again commands (st.outcomes ++ outcome ∷ [])
    by_script (Some (Ask op go_on)) h = absurd h

-- between two commands, the first one that is not finished asks for something
pub next_asks : (commands : List Command) (st : Standing) (command : Command) (rest : List Command) → IsBetween st.script
    → commands_by commands st ≡ command ∷ rest → asks_something command ≡ true
next_asks commands st command rest h e = by_test (asks_something command) refl
  where
    none : (script : Option Script) → IsBetween script
        → idle_first (commands_by commands (record { number = st.number; script = script; outcomes = st.outcomes })) ≡ 0
    none None h = none_idle commands st.outcomes
    none (Some (End outcome)) h = none_idle commands (st.outcomes ++ outcome ∷ [])
    none (Some (Ask op go_on)) h = absurd h

    by_test : (b : Bool) → asks_something command ≡ b → asks_something command ≡ true
    by_test true a = a
    by_test false a =
        let zeros : idle_first (command ∷ rest) ≡ 0 = ap idle_first (sym e) ∙ none st.script h in
        let more : idle_first (command ∷ rest) ≡ suc (idle_first rest) = idle-not command rest a in
        absurd (omega (arith, zeros, more))
