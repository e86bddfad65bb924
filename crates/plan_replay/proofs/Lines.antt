-- The lines of a boot, one controller, session or device after the other.
use Rattle.std.proofs.Common.{◌≡◌, ◌≤◌, ◌+◌, ◌⊎◌, inl, inr, not, ℕ, zero, suc, List, [], ◌∷◌, ◌++◌, length, map, take, Some, refl, ap, sym, ◌∙◌, subst, arith, append_assoc, append-nil}
use Rattle.std.specs.Prelude.{codes, decimal, flat_map, slice_get}
use Rattle.std.proofs.lemmas.List.{length-map, length-take-le, map_push}
use Rattle.std.proofs.lemmas.Option.{get_or_from_slice_get, slice_get_within}
use Rattle.nand_model.specs.Sizes.{numbers_from}
use Rattle.nand_model.specs.declared.words.Command.{Command}
use Rattle.nand_model.specs.declared.words.Note.{Note}
use Rattle.nand_model.specs.declared.words.Outcome.{Outcome}
use Rattle.command_model.specs.Reads.{reads_of}
use Rattle.command_model.specs.Session.{SessionRun, exchanges_of, is_finished, session_after, without_finished}
use Rattle.run_model.specs.Statistics.{device_numbers}
use Rattle.plan_model.specs.Plan.{PlanData, SessionPlan, devices_of}
use Rattle.plan_laws.specs.Ready.{boot_at}
use Rattle.report_model.specs.Report.{all_device_lines, chips_at, controller_lines, cut_line, device_line, device_lines, geometry_in, line, notes_at, outcome_lines, outcome_text, session_lines, session_text}
use Rattle.report_model.proofs.Printed.{take_next}
use Rattle.plan_replay.specs.declared.controller.EndedController.{EndedController}
use Rattle.plan_replay.specs.Ends.{cut_text, device_text, end_in, ended_text, notes_text, sums_of}
use Rattle.plan_replay.specs.Boots.{EndsByNotes, devices_text, notes_of}

outcome_lines-push : (commands : List Command) (outcomes : List Outcome) (command : Command) (outcome : Outcome) → length commands ≡ length outcomes
    → outcome_lines (commands ++ command ∷ []) (outcomes ++ outcome ∷ []) ≡ outcome_lines commands outcomes ++ outcome_text command outcome
outcome_lines-push [] [] command outcome same = append-nil (outcome_text command outcome)
outcome_lines-push [] (o ∷ outcomes) command outcome same = absurd (omega (arith, same))
outcome_lines-push (c ∷ commands) [] command outcome same = absurd (omega (arith, same))
outcome_lines-push (c ∷ commands) (o ∷ outcomes) command outcome same =
    ap (λ t. outcome_text c o ++ t) (outcome_lines-push commands outcomes command outcome (omega (arith, same)))
    ∙ sym (append_assoc (outcome_text c o) (outcome_lines commands outcomes) (outcome_text command outcome))

-- the lines of one more command
pub next_outcome : (commands : List Command) (outcomes : List Outcome) (n : ℕ) (command : Command) (outcome : Outcome)
    → slice_get commands n ≡ Some command → slice_get outcomes n ≡ Some outcome → n ≤ length commands → n ≤ length outcomes
    → outcome_lines (take (n + 1) commands) (take (n + 1) outcomes) ≡ outcome_lines (take n commands) (take n outcomes) ++ outcome_text command outcome
next_outcome commands outcomes n command outcome at_c at_o within_c within_o =
    ap (λ cs. outcome_lines cs (take (n + 1) outcomes)) (take_next commands n command at_c)
    ∙ ap (λ os. outcome_lines (take n commands ++ command ∷ []) os) (take_next outcomes n outcome at_o)
    ∙ outcome_lines-push (take n commands) (take n outcomes) command outcome (length-take-le n commands within_c ∙ sym (length-take-le n outcomes within_o))

-- the lines of so many commands are all, where there are no more commands or no more outcomes
pub all_outcomes : (commands : List Command) (outcomes : List Outcome) (n : ℕ) → (length commands ≤ n) ⊎ (length outcomes ≤ n)
    → outcome_lines (take n commands) (take n outcomes) ≡ outcome_lines commands outcomes
all_outcomes [] outcomes zero all = refl
all_outcomes [] outcomes (suc n) all = refl
all_outcomes (c ∷ commands) [] zero all = refl
all_outcomes (c ∷ commands) [] (suc n) all = refl
all_outcomes (c ∷ commands) (o ∷ outcomes) zero (inl all) = absurd (omega (arith, all))
all_outcomes (c ∷ commands) (o ∷ outcomes) zero (inr all) = absurd (omega (arith, all))
all_outcomes (c ∷ commands) (o ∷ outcomes) (suc n) (inl all) = ap (λ t. outcome_text c o ++ t) (all_outcomes commands outcomes n (inl (omega (arith, all))))
all_outcomes (c ∷ commands) (o ∷ outcomes) (suc n) (inr all) = ap (λ t. outcome_text c o ++ t) (all_outcomes commands outcomes n (inr (omega (arith, all))))

-- the line where commands are left
cut_same : (run : SessionRun) (commands : List Command) → cut_text (not (is_finished commands)) (length run.outcomes) ≡ cut_line run commands
cut_same run [] = refl
cut_same run (command ∷ commands) = refl

-- the lines of a session are those of its end by the notes
session_same : (plan : PlanData) (c s : ℕ) (commands : List Command) (notes : List Note)
    → ended_text s commands (end_in plan c notes (s, commands)) ≡ session_text (geometry_in plan c) s commands notes
session_same plan c s commands notes =
    let run : SessionRun = session_after (geometry_in plan c) (without_finished (geometry_in plan c) s commands [] []) (exchanges_of s notes) in
    ap (λ t. line (codes "session " ++ decimal s) ++ outcome_lines commands run.outcomes ++ t) (cut_same run run.commands)

session_lines-push : (plan : PlanData) (k : ℕ) (sessions : List SessionPlan) (x : SessionPlan) (notes : List (List Note))
    → session_lines plan k (sessions ++ x ∷ []) notes
    ≡ session_lines plan k sessions notes ++ session_text (geometry_in plan x.controller) (k + length sessions) x.commands (notes_at x.controller notes)
session_lines-push plan k [] x notes =
    append-nil (session_text (geometry_in plan x.controller) k x.commands (notes_at x.controller notes))
    ∙ ap (λ n. session_text (geometry_in plan x.controller) n x.commands (notes_at x.controller notes)) (let e : k ≡ k + 0 = omega arith in e)
session_lines-push plan k (s ∷ sessions) x notes =
    let first = session_text (geometry_in plan s.controller) k s.commands (notes_at s.controller notes) in
    ap (λ t. first ++ t) (session_lines-push plan (k + 1) sessions x notes
    ∙ ap (λ n. session_lines plan (k + 1) sessions notes ++ session_text (geometry_in plan x.controller) n x.commands (notes_at x.controller notes))
    (let e : k + 1 + length sessions ≡ k + suc (length sessions) = omega arith in e))
    ∙ sym (append_assoc first (session_lines plan (k + 1) sessions notes)
    (session_text (geometry_in plan x.controller) (k + suc (length sessions)) x.commands (notes_at x.controller notes)))

-- the lines of one more session, which ended as the notes of its controller say
pub next_session : (plan : PlanData) (sessions : List SessionPlan) (s : ℕ) (x : SessionPlan) (notes : List (List Note)) (own : List Note)
    → slice_get sessions s ≡ Some x → slice_get notes x.controller ≡ Some own
    → session_lines plan 0 (take (s + 1) sessions) notes
    ≡ session_lines plan 0 (take s sessions) notes ++ ended_text s x.commands (end_in plan x.controller own (s, x.commands))
next_session plan sessions s x notes own at of =
    ap (λ ss. session_lines plan 0 ss notes) (take_next sessions s x at)
    ∙ session_lines-push plan 0 (take s sessions) x notes
    ∙ ap (λ n. session_lines plan 0 (take s sessions) notes ++ session_text (geometry_in plan x.controller) n x.commands (notes_at x.controller notes)) (count at)
    ∙ ap (λ ns. session_lines plan 0 (take s sessions) notes ++ session_text (geometry_in plan x.controller) s x.commands ns)
    (get_or_from_slice_get notes x.controller own [] of)
    ∙ ap (λ t. session_lines plan 0 (take s sessions) notes ++ t) (sym (session_same plan x.controller s x.commands own))
  where
    count : slice_get sessions s ≡ Some x → 0 + length (take s sessions) ≡ s
    count at = let below = slice_get_within sessions s x at in omega (arith, length-take-le s sessions (omega (arith, below)))

-- the lines of a controller's devices are those of their sums
devices_same : (devices : List ℕ) (count : ℕ) (notes : List Note)
    → flat_map device_text (map (λ dev. (dev, sums_of (reads_of dev (numbers_from 0 count) notes))) devices)
    ≡ flat_map (λ dev. device_line dev (reads_of dev (numbers_from 0 count) notes)) devices
devices_same [] count notes = refl
devices_same (dev ∷ devices) count notes =
    ap (λ t. device_line dev (reads_of dev (numbers_from 0 count) notes) ++ t) (devices_same devices count notes)

-- the lines of the devices of all controllers
all_devices_from : (plan : PlanData) (n k : ℕ) (ends : List EndedController)
    → ((i : ℕ) (ended : EndedController) → slice_get ends i ≡ Some ended → EndsByNotes plan n (k + i) ended)
    → flat_map devices_text ends ≡ all_device_lines plan k (boot_at plan n) (map notes_of ends)
all_devices_from plan n k [] each = refl
all_devices_from plan n k (ended ∷ ends) each =
    let own = subst (λ c. EndsByNotes plan n c ended) (let e : k + 0 ≡ k = omega arith in e) (each zero ended refl) in
    ap (λ t. t ++ flat_map devices_text ends) (ap (flat_map device_text) own.sums_are
    ∙ devices_same (device_numbers (devices_of plan k (chips_at plan k))) (length (boot_at plan n).sessions) (notes_of ended))
    ∙ ap (λ t. device_lines plan k (boot_at plan n) (notes_of ended) ++ t) (all_devices_from plan n (k + 1) ends
    (λ i e at. subst (λ c. EndsByNotes plan n c e) (let same : k + suc i ≡ k + 1 + i = omega arith in same) (each (suc i) e at)))

pub all_devices : (plan : PlanData) (n : ℕ) (ends : List EndedController)
    → ((c : ℕ) (ended : EndedController) → slice_get ends c ≡ Some ended → EndsByNotes plan n c ended)
    → flat_map devices_text ends ≡ all_device_lines plan 0 (boot_at plan n) (map notes_of ends)
all_devices plan n ends each =
    all_devices_from plan n 0 ends (λ i e at. subst (λ c. EndsByNotes plan n c e) (let same : i ≡ 0 + i = omega arith in same) (each i e at))

controller_lines-push : (k : ℕ) (all : List (List Note)) (notes : List Note)
    → controller_lines k (all ++ notes ∷ []) ≡ controller_lines k all ++ notes_text (k + length all) notes
controller_lines-push k [] notes =
    append-nil (notes_text k notes) ∙ ap (λ c. notes_text c notes) (let e : k ≡ k + 0 = omega arith in e)
controller_lines-push k (first ∷ all) notes =
    ap (λ t. notes_text k first ++ t) (controller_lines-push (k + 1) all notes
    ∙ ap (λ c. controller_lines (k + 1) all ++ notes_text c notes) (let e : k + 1 + length all ≡ k + suc (length all) = omega arith in e))
    ∙ sym (append_assoc (notes_text k first) (controller_lines (k + 1) all) (notes_text (k + suc (length all)) notes))

-- the lines of one more controller
pub next_controller : (before out next : List ℕ) (ends : List EndedController) (ended : EndedController)
    → out ≡ before ++ controller_lines 0 (map notes_of ends) → next ≡ out ++ notes_text (length ends) (notes_of ended)
    → next ≡ before ++ controller_lines 0 (map notes_of (ends ++ ended ∷ []))
next_controller before out next ends ended so_far added =
    let count : length ends ≡ 0 + length (map notes_of ends) = omega (arith, length-map ends notes_of) in
    added ∙ ap (λ o. o ++ notes_text (length ends) (notes_of ended)) so_far
    ∙ append_assoc before (controller_lines 0 (map notes_of ends)) (notes_text (length ends) (notes_of ended))
    ∙ ap (λ c. before ++ (controller_lines 0 (map notes_of ends) ++ notes_text c (notes_of ended))) count
    ∙ ap (λ t. before ++ t) (sym (ap (controller_lines 0) (map_push notes_of ends ended)
    ∙ controller_lines-push 0 (map notes_of ends) (notes_of ended)))
