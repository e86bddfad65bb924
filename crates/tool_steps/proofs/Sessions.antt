-- A command is added to the last session of a boot.
use Rattle.std.proofs.Common.{◌≡◌, ℕ, zero, suc, ◌-◌, ◌<◌, List, [], ◌∷◌, ◌++◌, length, map, set, get_or, refl, ap, ◌∙◌, arith}
use Rattle.nand_model.specs.Partitions.{Partitions}
use Rattle.nand_model.specs.declared.words.Command.{Command}
use Rattle.fault_plan.specs.BootFaults.{BootFaults}
use Rattle.command_model.specs.Boot.{change_at}
use Rattle.tool_steps.specs.Boot.{boot_with, with_command, with_one_more}
use Rattle.tool_steps.specs.declared.boot.Session.{Session}

-- a session as contracts see it
abbrev pub seen : Session → ℕ × List Command
seen s = (s.number, s.commands)

length-seen : (xs : List Session) → length (map seen xs) ≡ length xs
length-seen [] = refl
length-seen (x ∷ xs) = ap suc (length-seen xs)

one_changed : (xs : List Session) (n : ℕ) (s : Session) (after : List Command) (command : Command) → n < length xs → s ≡ get_or xs n s
    → after ≡ s.commands ++ command ∷ []
    → map seen (set xs n (record { number = s.number; commands = after })) ≡ change_at (map seen xs) n (with_one_more command)
one_changed [] n s after command h same pushed = absurd (omega arith)
one_changed (x ∷ xs) zero s after command h same pushed = rw pushed (ap (λ (y : Session). (y.number, y.commands ++ command ∷ []) ∷ map seen xs) same)
one_changed (x ∷ xs) (suc n) s after command h same pushed =
    ap (λ (ys : List (ℕ × List Command)). seen x ∷ ys) (one_changed xs n s after command (omega arith) same pushed)

pub last_changed : (partitions : Partitions) (faults : BootFaults) (xs : List Session) (n : ℕ) (s : Session) (after : List Command) (command : Command)
    → n ≡ length xs → 0 < length (map seen xs) → s ≡ get_or xs (n - 1) s → after ≡ s.commands ++ command ∷ []
    → boot_with partitions faults (map seen (set xs (n - 1) (record { number = s.number; commands = after })))
    ≡ with_command (boot_with partitions faults (map seen xs)) command
last_changed partitions faults xs n s after command count some same pushed =
    let place : n - 1 ≡ length (map seen xs) - 1 = omega (arith, length-seen xs) in
    ap (boot_with partitions faults)
    (one_changed xs (n - 1) s after command (omega (arith, length-seen xs)) same pushed
    ∙ ap (λ (k : ℕ). change_at (map seen xs) k (with_one_more command)) place)
