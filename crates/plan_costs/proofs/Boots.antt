-- The costs of a plan, line by line.
use Rattle.std.proofs.Common.{◌≡◌, ℕ, suc, ◌+◌, ◌*◌, ◌≤◌, true, false, Bool, cond, eqb, List, [], ◌∷◌, ◌++◌, length, Option, Some, None, refl, sym, ap, ◌∙◌, subst, arith, append_assoc, length-append}
use Rattle.std.specs.Prelude.{IfSome}
use Rattle.std.specs.List.{sum_by, count_by}
use Rattle.std.specs.Ordering.{nat_cmp}
use Rattle.std.specs.Map.{lookup}
use Rattle.std.specs.BTreeMap.{BTreeMap, get, is_at}
use Rattle.std.proofs.lemmas.Bool.{eqb-true, ne_eqb, eq-eqb}
use Rattle.std.proofs.lemmas.List.Sums.{sum_by-cons, sum_by-append, sum_by_push}
use Rattle.plan_grammar.specs.declared.lines.PlanLines.{PlanLines}
use Rattle.plan_grammar.specs.declared.lines.BootLines.{BootLines}
use Rattle.plan_grammar.specs.declared.lines.SessionLines.{SessionLines}
use Rattle.plan_grammar.specs.declared.lines.CommandLine.{CommandLine}
use Rattle.plan_grammar.specs.declared.lines.CommandLine.TheVariants.{FlashErase, NandWrite, NandDump, NandTest, MarkBad, IsBad, Stats}
use Rattle.plan_grammar.specs.Rules.{last_of, with_last}
use Rattle.plan_grammar.specs.Devices.{Device, device_at}
use Rattle.plan_grammar.specs.Faults.{with_last_boot}
use Rattle.plan_grammar.specs.Costs.{plan_cost, sessions_cost, line_cost, device_in, marks_one, marks_many, count_in}
use Rattle.plan_index.specs.Devices.{size_of}
use Rattle.plan_index.specs.declared.device.DeviceSize.{DeviceSize}
use Rattle.plan_index.specs.Boots.{with_session_line}
use Rattle.plan_index.proofs.LastItems.{last_of-with_last, last_of_push, sum_kept}
use Rattle.plan_costs.specs.declared.troubles.DeviceTroubles.{DeviceTroubles}
use Rattle.plan_costs.specs.declared.costs.CostIndex.{CostIndex}
use Rattle.plan_costs.specs.Room.{AreTroubles, Troubles, troubles_behind, no_troubles}
use Rattle.plan_costs.specs.Kept.{troubles_of, troubles_at, troubles_in, Knows}
use Rattle.plan_costs.specs.Costs.{AreCosts, KnowsBoot}
use Rattle.plan_costs.proofs.Rests.{SameMarks, write_same, other_same, sum_same}
use Rattle.plan_costs.proofs.Steps.{are_behind, are_none, behind_twice}

-- a session without commands marks nothing
quiet_marks : (dev : ℕ) (sessions : List SessionLines) (session : SessionLines) → session.commands ≡ [] →
    SameMarks dev (sessions ++ session ∷ []) sessions
quiet_marks dev sessions session none =
    let f : SessionLines → ℕ = λ s. count_by (marks_one dev) s.commands in
    let g : SessionLines → ℕ = λ s. count_by (marks_many dev) s.commands in
    record {
      ones = sum_by-append f sessions (session ∷ []) ∙ omega (arith, sum_by-cons f session [], ap (count_by (marks_one dev)) none);
      many = sum_by-append g sessions (session ∷ []) ∙ omega (arith, sum_by-cons g session [], ap (count_by (marks_many dev)) none);
    }

-- a command costs the same beside the same marks
line_same : (plan : PlanLines) (one other : List SessionLines) → ((d : ℕ) → SameMarks d one other) → (command : CommandLine) →
    line_cost plan one command ≡ line_cost plan other command
line_same plan one other same (NandWrite d mark raw oob pad off name) =
    write_same plan one other d mark raw oob pad off name (device_at plan d) (same d)
line_same plan one other same (FlashErase d no_scan start count) = other_same plan one other 0 (FlashErase d no_scan start count) (λ k e. same k)
line_same plan one other same (NandDump d off len raw oob bad) = other_same plan one other 0 (NandDump d off len raw oob bad) (λ k e. same k)
line_same plan one other same (NandTest d keep mark seed passes off len) =
    other_same plan one other 0 (NandTest d keep mark seed passes off len) (λ k e. same k)
line_same plan one other same (MarkBad d block) = other_same plan one other 0 (MarkBad d block) (λ k e. same k)
line_same plan one other same (IsBad d block) = other_same plan one other 0 (IsBad d block) (λ k e. same k)
line_same plan one other same (Stats d) = other_same plan one other 0 (Stats d) (λ k e. same k)

-- the costs of sessions with one more
sessions_push : (plan : PlanLines) (session : SessionLines) → session.commands ≡ [] → (sessions before : List SessionLines) →
    sessions_cost plan before (sessions ++ session ∷ []) ≡ sessions_cost plan before sessions
sessions_push plan session none [] before =
    ap (λ (cs : List CommandLine). sum_by (line_cost plan (before ++ [])) cs + 0) none
sessions_push plan session none (s ∷ later) before =
    let others : List SessionLines = before ++ (later ++ session ∷ []) in
    let same = sum_same (line_cost plan others) (line_cost plan (before ++ later))
    (line_same plan others (before ++ later) (λ d. subst (λ (ss : List SessionLines). SameMarks d ss (before ++ later)) (append_assoc before later (session ∷ []))
    (quiet_marks d (before ++ later) session none))) s.commands in
    omega (arith, same, sessions_push plan session none later (before ++ s ∷ []))

longer : (n : ℕ) → n + 1 ≡ suc n
longer n = omega arith

-- what is kept with one more session
knows_behind : (size : DeviceSize) (dev : ℕ) (sessions : List SessionLines) (session : SessionLines) (kept : Option DeviceTroubles) →
    session.commands ≡ [] → Knows size dev sessions kept → Knows size dev (sessions ++ session ∷ []) kept
knows_behind size dev sessions session None none k = record {
  in_time = tt;
  told = are_behind size dev sessions session (no_troubles size) none k.told;
}
knows_behind size dev sessions session (Some kept) none k =
    let count : length (sessions ++ session ∷ []) ≡ length sessions + 1 = length-append sessions (session ∷ []) in
    let before : kept.sessions ≤ length sessions = k.in_time in
    record {
      in_time = omega (arith, before, count);
      told = subst (λ (t : Troubles). AreTroubles size dev (sessions ++ session ∷ []) t) (behind (eqb kept.sessions (length sessions)) refl
          (ap (λ b. cond b (troubles_of kept) (troubles_behind (troubles_of kept)))
          (ne_eqb kept.sessions (length (sessions ++ session ∷ [])) (λ e. omega (arith, before, count, e)))))
          (are_behind size dev sessions session (troubles_at (length sessions) kept) none k.told);
    }
  where
    behind : (b : Bool) → eqb kept.sessions (length sessions) ≡ b →
        troubles_at (length (sessions ++ session ∷ [])) kept ≡ troubles_behind (troubles_of kept) →
        troubles_behind (cond b (troubles_of kept) (troubles_behind (troubles_of kept))) ≡ troubles_at (length (sessions ++ session ∷ [])) kept
    behind true e now = sym now
    behind false e now = behind_twice (troubles_of kept) ∙ sym now

-- with one more session in the last boot
pub costs_session : (plan : PlanLines) (index : CostIndex) (boot : BootLines) (session : SessionLines) → last_of plan.boots ≡ Some boot →
    session.commands ≡ [] → AreCosts plan index → AreCosts (with_last_boot (with_session_line session) plan) index
costs_session plan index boot session e none s =
    let old = subst (λ (o : Option BootLines). KnowsBoot plan o index.devices) e s.boot in
    record {
      cost_is = s.cost_is ∙ sym (sum_kept (λ (b : BootLines). sessions_cost plan [] b.sessions) (with_session_line session)
          (λ (b : BootLines). sessions_push plan session none b.sessions []) plan.boots);
      few = s.few;
      boot = subst (λ (o : Option BootLines). KnowsBoot (with_last_boot (with_session_line session) plan) o index.devices)
          (sym (last_of-with_last (with_session_line session) plan.boots boot e))
          (λ dev device at. knows_behind (size_of device) dev boot.sessions session (get nat_cmp index.devices dev) none (old dev device at));
    }

-- with another last boot of the same sessions
pub costs_kept : (plan : PlanLines) (index : CostIndex) (boot : BootLines) (change : BootLines → BootLines) →
    last_of plan.boots ≡ Some boot → ((b : BootLines) → (change b).sessions ≡ b.sessions) → AreCosts plan index →
    AreCosts (with_last_boot change plan) index
costs_kept plan index boot change e same s =
    let old = subst (λ (o : Option BootLines). KnowsBoot plan o index.devices) e s.boot in
    record {
      cost_is = s.cost_is ∙ sym (sum_kept (λ (b : BootLines). sessions_cost plan [] b.sessions) change
          (λ (b : BootLines). ap (sessions_cost plan []) (same b)) plan.boots);
      few = s.few;
      boot = subst (λ (o : Option BootLines). KnowsBoot (with_last_boot change plan) o index.devices)
          (sym (last_of-with_last change plan.boots boot e))
          (λ dev device at. subst (λ (ss : List SessionLines). Knows (size_of device) dev ss (get nat_cmp index.devices dev)) (sym (same boot))
          (old dev device at));
    }

-- without boots
pub costs_none : (plan : PlanLines) (index : CostIndex) → plan.boots ≡ [] → index.cost ≡ 0 → index.devices.entries ≡ [] → AreCosts plan index
costs_none plan index none cost empty = record {
  cost_is = cost ∙ sym (ap (sum_by (λ (b : BootLines). sessions_cost plan [] b.sessions)) none);
  few = omega (arith, cost);
  boot = subst (λ (boots : List BootLines). KnowsBoot plan (last_of boots) index.devices) (sym none) empty;
}

-- of a plan without boots, for another one without boots
pub costs_of_none : (old new : PlanLines) (index : CostIndex) → old.boots ≡ [] → new.boots ≡ [] → AreCosts old index → AreCosts new index
costs_of_none old new index none still s =
    costs_none new index still (s.cost_is ∙ ap (sum_by (λ (b : BootLines). sessions_cost old [] b.sessions)) none)
    (subst (λ (boots : List BootLines). KnowsBoot old (last_of boots) index.devices) none s.boot)

get_none : {X : Type 0} (m : BTreeMap ℕ X) (dev : ℕ) → m.entries ≡ [] → get nat_cmp m dev ≡ None
get_none m dev empty = ap (lookup (is_at (nat_cmp dev))) empty

-- with one more boot
pub costs_boot : (plan : PlanLines) (old new : CostIndex) (boot : BootLines) → boot.sessions ≡ [] → new.cost ≡ old.cost →
    new.devices.entries ≡ [] → AreCosts plan old → AreCosts (record plan { boots = plan.boots ++ boot ∷ [] }) new
costs_boot plan old new boot none cost empty s =
    let zero : sessions_cost plan [] boot.sessions ≡ 0 = ap (sessions_cost plan []) none in
    record {
      cost_is = cost ∙ s.cost_is ∙ sym (sum_by_push (λ (b : BootLines). sessions_cost plan [] b.sessions) plan.boots boot
          ∙ ap (λ n. plan_cost plan + n) zero ∙ omega arith);
      few = subst (λ n. n ≤ 65536) (sym cost) s.few;
      boot = subst (λ (o : Option BootLines). KnowsBoot (record plan { boots = plan.boots ++ boot ∷ [] }) o new.devices) (sym (last_of_push plan.boots boot))
          (λ dev device at.
          subst (λ (o : Option DeviceTroubles). Knows (size_of device) dev boot.sessions o) (sym (get_none new.devices dev empty))
          (subst (λ (ss : List SessionLines). Knows (size_of device) dev ss None) (sym none)
          (record { in_time = tt; told = are_none (size_of device) dev })));
    }
