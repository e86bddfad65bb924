-- What follows for a plan that was read.
use Rattle.std.proofs.Common.{◌≡◌, ◌∙◌, ℕ, zero, suc, ◌^◌, ◌+◌, ◌≤◌, ◌<◌, List, [], ◌∷◌, ◌++◌, length, map, take, Option, Some, None, sym, ap, refl, subst, arith, length-append}
use Rattle.std.specs.Prelude.{All, slice_get, slice_index_or, sum_by, option_map}
use Rattle.std.proofs.lemmas.List.Elements.{All-weaker}
use Rattle.std.proofs.lemmas.Option.{get_or_from_slice_get, slice_get-map}
use Rattle.nand_model.specs.declared.words.Command.{Command}
use Rattle.plan_model.specs.Plan.{BootPlan, SessionPlan}
use Rattle.plan_grammar.specs.declared.lines.PlanLines.{PlanLines}
use Rattle.plan_grammar.specs.declared.lines.ChipLines.{ChipLines}
use Rattle.plan_grammar.specs.declared.lines.DataLine.{DataLine}
use Rattle.plan_grammar.specs.declared.lines.BootLines.{BootLines}
use Rattle.plan_grammar.specs.declared.lines.SessionLines.{SessionLines}
use Rattle.plan_grammar.specs.declared.lines.CommandLine.{CommandLine}
use Rattle.plan_grammar.specs.Costs.{device_in}
use Rattle.plan_grammar.specs.Meaning.{command_of, session_plan, boot_plan, plan_of}
use Rattle.plan_grammar.specs.Grammar.{IsPlan}
use Rattle.plan_laws.specs.Ready.{boot_at, no_boot}
use Rattle.plan_laws.specs.Within.{IsWithinLimits}
use Rattle.plan_laws.proofs.Limits.{plan_keeps, keep_limits, length_map}
use Rattle.plan_laws.proofs.Goods.{KeepsBoot}
use Rattle.plan_laws.proofs.Lists.{all_at, got_below, below_got}
use Rattle.plan_laws.proofs.SmallDevices.{small_devices}
use Rattle.plan_text.specs.Plan.{HasSmallDevice, HaveSmallDevices, IsOfBytes, IsKept, session_at, no_session, command_at, session_commands, all_commands}

-- the devices of its commands have small numbers
pub small_of : (plan : PlanLines) → IsOfBytes plan → All HaveSmallDevices plan.boots
small_of plan (bytes, h) = small_devices bytes plan h

pub limits_of : (plan : PlanLines) → IsOfBytes plan → IsWithinLimits (plan_of plan)
limits_of plan (bytes, h) = keep_limits bytes plan h

pub few_controllers : (plan : PlanLines) → IsOfBytes plan → length plan.controllers ≤ 8
few_controllers plan (bytes, h) = (plan_keeps bytes plan h).few_controllers

pub few_boots : (plan : PlanLines) → IsOfBytes plan → length plan.boots ≤ 64
few_boots plan (bytes, h) = (plan_keeps bytes plan h).few_boots

pub few_sessions : (plan : PlanLines) (n : ℕ) (boot : BootLines) → IsOfBytes plan → slice_get plan.boots n ≡ Some boot → length boot.sessions ≤ 64
few_sessions plan n boot (bytes, h) e =
    (all_at (KeepsBoot plan.controllers plan.payloads) plan.boots n boot e (plan_keeps bytes plan h).boots).few

-- a boot by its number
pub boot_is : (plan : PlanLines) (n : ℕ) (boot : BootLines) → slice_get plan.boots n ≡ Some boot → boot_at (plan_of plan) n ≡ boot_plan plan boot
boot_is plan n boot e =
    get_or_from_slice_get (plan_of plan).boots n (boot_plan plan boot) no_boot
    (slice_get-map (boot_plan plan) plan.boots n ∙ ap (option_map (boot_plan plan)) e)

pub boot_sessions : (plan : PlanLines) (n : ℕ) (boot : BootLines) → slice_get plan.boots n ≡ Some boot →
    length boot.sessions ≡ length (boot_at (plan_of plan) n).sessions
boot_sessions plan n boot e =
    sym (length_map (session_plan plan) boot.sessions) ∙ ap (λ (b : BootPlan). length b.sessions) (sym (boot_is plan n boot e))

pub boot_schedule : (plan : PlanLines) (n : ℕ) (boot : BootLines) → slice_get plan.boots n ≡ Some boot →
    boot.schedule ≡ (boot_at (plan_of plan) n).schedule
boot_schedule plan n boot e = ap (λ (b : BootPlan). b.schedule) (sym (boot_is plan n boot e))

-- the commands that are kept of a boot and a session
pub kept_boot : (plan : PlanLines) (commands : List (List (List Command))) (n : ℕ) (kept : List (List Command)) → IsKept plan commands →
    slice_get commands n ≡ Some kept → (boot : BootLines) × (slice_get plan.boots n ≡ Some boot) × (kept ≡ session_commands plan boot)
kept_boot plan commands n kept h e =
    let at = below_got plan.boots n (omega (arith, got_below commands n kept e, ap length h.commands_are, length_map (session_commands plan) plan.boots)) in
    let same : Some kept ≡ Some (session_commands plan at.0) =
    sym e ∙ ap (λ (cs : List (List (List Command))). slice_get cs n) h.commands_are ∙ slice_get-map (session_commands plan) plan.boots n
    ∙ ap (option_map (session_commands plan)) at.1 in
    (at.0, at.1, cc same)

pub boots_kept : (plan : PlanLines) (commands : List (List (List Command))) → IsKept plan commands → length commands ≡ length (plan_of plan).boots
boots_kept plan commands h =
    ap length h.commands_are ∙ length_map (session_commands plan) plan.boots ∙ sym (length_map (boot_plan plan) plan.boots)

pub sessions_kept : (plan : PlanLines) (commands : List (List (List Command))) (n : ℕ) (kept : List (List Command)) → IsKept plan commands →
    slice_get commands n ≡ Some kept → length kept ≡ length (boot_at (plan_of plan) n).sessions
sessions_kept plan commands n kept h e =
    let at = kept_boot plan commands n kept h e in
    ap length at.2 ∙ length_map (λ (session : SessionLines). map (command_of plan) session.commands) at.0.sessions ∙ boot_sessions plan n at.0 at.1

pub commands_kept : (plan : PlanLines) (commands : List (List (List Command))) (n s : ℕ) (kept : List (List Command)) (own : List Command) →
    IsKept plan commands → slice_get commands n ≡ Some kept → slice_get kept s ≡ Some own → own ≡ (session_at (plan_of plan) n s).commands
commands_kept plan commands n s kept own h e f =
    let at = kept_boot plan commands n kept h e in
    let there = below_got at.0.sessions s (omega (
      arith,
      got_below kept s own f,
      ap length at.2,
      length_map (λ (session : SessionLines). map (command_of plan) session.commands) at.0.sessions,
    )) in
    let same : Some own ≡ Some (map (command_of plan) there.0.commands) =
    sym f ∙ ap (λ (ks : List (List Command)). slice_get ks s) at.2
    ∙ slice_get-map (λ (session : SessionLines). map (command_of plan) session.commands) at.0.sessions s
    ∙ ap (option_map (λ (session : SessionLines). map (command_of plan) session.commands)) there.1 in
    let own_is : own ≡ map (command_of plan) there.0.commands = cc same in
    let session_is : session_at (plan_of plan) n s ≡ session_plan plan there.0 =
    ap (λ (b : BootPlan). slice_index_or b.sessions s no_session) (boot_is plan n at.0 at.1)
    ∙ get_or_from_slice_get (map (session_plan plan) at.0.sessions) s (session_plan plan there.0) no_session
    (slice_get-map (session_plan plan) at.0.sessions s ∙ ap (option_map (session_plan plan)) there.1) in
    own_is ∙ ap (λ (p : SessionPlan). p.commands) (sym session_is)

-- there is no item past the end
pub past_none : {A : Type 0} (xs : List A) (n : ℕ) → length xs ≤ n → slice_get xs n ≡ None
past_none [] n h = refl
past_none (x ∷ xs) zero h = absurd (omega (arith, h))
past_none (x ∷ xs) (suc n) h = past_none xs n (omega (arith, h))
