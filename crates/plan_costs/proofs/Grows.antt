-- The costs of a plan with one more command.
use Rattle.std.proofs.Common.{◌≡◌, ℕ, ◌+◌, ◌*◌, ◌<◌, ◌≤◌, ◌^◌, true, false, Bool, cond, eqb, leb, List, [], ◌∷◌, ◌++◌, length, Option, Some, None, Ok, Err, refl, sym, ap, ◌∙◌, subst, arith}
use Rattle.std.specs.Prelude.{IfSome}
use Rattle.std.specs.Ordering.{nat_cmp}
use Rattle.std.specs.BTreeMap.{BTreeMap, get}
use Rattle.std.proofs.lemmas.Bool.{eqb-true, eq-eqb}
use Rattle.command_model.specs.Command.{cost_of}
use Rattle.plan_grammar.specs.declared.lines.PlanLines.{PlanLines}
use Rattle.plan_grammar.specs.declared.lines.BootLines.{BootLines}
use Rattle.plan_grammar.specs.declared.lines.SessionLines.{SessionLines}
use Rattle.plan_grammar.specs.declared.lines.CommandLine.{CommandLine}
use Rattle.plan_grammar.specs.Rules.{last_of, with_last}
use Rattle.plan_grammar.specs.Devices.{Device, device_at}
use Rattle.plan_grammar.specs.Commands.{with_command}
use Rattle.plan_grammar.specs.Costs.{plan_cost, device_in, command_on}
use Rattle.plan_index.specs.Devices.{size_of}
use Rattle.plan_index.specs.declared.device.DeviceSize.{DeviceSize}
use Rattle.plan_index.specs.Boots.{with_command_line, with_boot_command}
use Rattle.plan_index.proofs.LastItems.{last_of-with_last, length-with_last}
use Rattle.plan_costs.specs.declared.troubles.DeviceTroubles.{DeviceTroubles}
use Rattle.plan_costs.specs.declared.costs.CostIndex.{CostIndex}
use Rattle.plan_costs.specs.Troubles.{base_cost, base_on, troubles_cost}
use Rattle.plan_costs.specs.Room.{in_long, AreTroubles, Troubles, troubles_behind, troubles_with, more_lost, marks_of, room_of}
use Rattle.plan_costs.specs.Kept.{troubles_of, troubles_at, troubles_in, Knows}
use Rattle.plan_costs.specs.Costs.{AreCosts, KnowsBoot, IsNext}
use Rattle.plan_costs.proofs.Rests.{costs_grow}
use Rattle.plan_costs.proofs.Steps.{FitsWord, are_with, lost_grow}
use Rattle.plan_costs.proofs.Apart.{are_apart}
use Rattle.plan_costs.proofs.Sizes.{total_long}

-- what is kept of the command's device
known : (plan : PlanLines) (index : CostIndex) (command : CommandLine) (size : DeviceSize) (len sessions : ℕ) → AreCosts plan index →
    (n : IsNext plan command size len sessions) →
    AreTroubles (size_of n.device) (device_in command) n.boot.sessions
    (troubles_in sessions size (get nat_cmp index.devices (device_in command)))
known plan index command size len sessions s n =
    let boot = subst (λ (o : Option BootLines). KnowsBoot plan o index.devices) n.boot_is s.boot in
    let told = (boot (device_in command) n.device n.device_is).told in
    subst (λ k. AreTroubles (size_of n.device) (device_in command) n.boot.sessions (troubles_in k size (get nat_cmp index.devices (device_in command)))) n.count_is
    (subst (λ (z : DeviceSize). AreTroubles (size_of n.device) (device_in command) n.boot.sessions
    (troubles_in (length n.boot.sessions) z (get nat_cmp index.devices (device_in command)))) n.size_is told)

-- the costs grow by what is kept of the device
pub cost_grows : (plan : PlanLines) (index : CostIndex) (command : CommandLine) (size : DeviceSize) (len sessions : ℕ) → AreCosts plan index →
    IsNext plan command size len sessions → FitsWord (room_of size command) →
    plan_cost (with_command command plan)
    ≡ index.cost + cost_of size.geometry (command_on plan size.blocks command) 0
    + (size.geometry.pages_per_block + 2) * more_lost (marks_of size command) (room_of size command)
    (troubles_in sessions size (get nat_cmp index.devices (device_in command)))
cost_grows plan index command size len sessions s n fits =
    let dev : ℕ = device_in command in
    let t : Troubles = troubles_in sessions size (get nat_cmp index.devices dev) in
    let own : DeviceSize = size_of n.device in
    let here : eqb dev dev ≡ true = eq-eqb dev dev refl in
    let own_fits : FitsWord (room_of own command) = subst (λ (z : DeviceSize). FitsWord (room_of z command)) (sym n.size_is) fits in
    let lost = lost_grow n.device dev command n.boot.sessions n.session t n.session_is here own_fits (known plan index command size len sessions s n) in
    let grown = costs_grow plan n.boot n.session command n.device n.boot_is n.session_is n.device_is in
    let base : base_cost plan command ≡ cost_of own.geometry (command_on plan own.blocks command) 0 = ap (base_on plan command) n.device_is in
    let whole : plan_cost (with_command command plan)
    ≡ index.cost + cost_of own.geometry (command_on plan own.blocks command) 0
    + (own.geometry.pages_per_block + 2) * more_lost (marks_of own command) (room_of own command) t =
    balance (plan_cost (with_command command plan)) (plan_cost plan) (base_cost plan command)
    (troubles_cost n.device dev [] n.boot.sessions) (troubles_cost n.device dev [] (with_last (with_command_line command) n.boot.sessions))
    index.cost (cost_of own.geometry (command_on plan own.blocks command) 0)
    ((own.geometry.pages_per_block + 2) * more_lost (marks_of own command) (room_of own command) t)
    grown lost s.cost_is base in
    subst (λ (z : DeviceSize). plan_cost (with_command command plan)
    ≡ index.cost + cost_of z.geometry (command_on plan z.blocks command) 0
    + (z.geometry.pages_per_block + 2) * more_lost (marks_of z command) (room_of z command) t) n.size_is whole
  where
    balance : (new old base before after cost base' more : ℕ) → new + before ≡ old + base + after → after ≡ before + more →
        cost ≡ old → base ≡ base' → new ≡ cost + base' + more
    balance new old base before after cost base' more one two three four = omega (arith, one, two, three, four)

-- what is kept with one more command on the device
knows_with : (device : Device) (command : CommandLine) (sessions : List SessionLines) (session : SessionLines) (t : Troubles) (kept : DeviceTroubles) →
    last_of sessions ≡ Some session → FitsWord (room_of (size_of device) command) → AreTroubles (size_of device) (device_in command) sessions t →
    troubles_of kept ≡ troubles_with (marks_of (size_of device) command) (room_of (size_of device) command) t →
    kept.sessions ≡ length sessions →
    Knows (size_of device) (device_in command) (with_last (with_command_line command) sessions) (Some kept)
knows_with device command sessions session t kept e fits s is count =
    let dev : ℕ = device_in command in
    let changed : List SessionLines = with_last (with_command_line command) sessions in
    let now : kept.sessions ≡ length changed = count ∙ sym (length-with_last (with_command_line command) sessions) in
    record {
      in_time = omega (arith, now);
      told = subst (λ (u : Troubles). AreTroubles (size_of device) dev changed u)
          (sym (at_once kept (length changed) now ∙ is))
          (are_with (size_of device) dev command sessions session t e (eq-eqb dev dev refl) fits s);
    }
  where
    at_once : (k : DeviceTroubles) (n : ℕ) → k.sessions ≡ n → troubles_at n k ≡ troubles_of k
    at_once k n same = ap (λ b. cond b (troubles_of k) (troubles_behind (troubles_of k))) (eq-eqb k.sessions n same)

-- what is kept of another device
knows_apart : (device : Device) (dev : ℕ) (command : CommandLine) (sessions : List SessionLines) (session : SessionLines) (kept : Option DeviceTroubles) →
    last_of sessions ≡ Some session → eqb (device_in command) dev ≡ false → Knows (size_of device) dev sessions kept →
    Knows (size_of device) dev (with_last (with_command_line command) sessions) kept
knows_apart device dev command sessions session kept e apart k =
    let same : length sessions ≡ length (with_last (with_command_line command) sessions) = sym (length-with_last (with_command_line command) sessions) in
    record {
      in_time = subst (λ n. IfSome kept (λ (d : DeviceTroubles). d.sessions ≤ n)) same k.in_time;
      told = are_apart (size_of device) dev command sessions session _ e apart
          (subst (λ n. AreTroubles (size_of device) dev sessions (troubles_in n (size_of device) kept)) same k.told);
    }

-- what is kept with one more command
pub costs_with : (plan : PlanLines) (old new : CostIndex) (command : CommandLine) (size : DeviceSize) (len sessions : ℕ) (kept : DeviceTroubles) →
    AreCosts plan old → IsNext plan command size len sessions → FitsWord (room_of size command) →
    troubles_of kept ≡ troubles_with (marks_of size command) (room_of size command) (troubles_in sessions size (get nat_cmp old.devices (device_in command))) →
    kept.sessions ≡ sessions → new.cost ≡ plan_cost (with_command command plan) → new.cost ≤ 65536 →
    ((other : ℕ) → get nat_cmp new.devices other ≡ cond (eqb (device_in command) other) (Some kept) (get nat_cmp old.devices other)) →
    AreCosts (with_command command plan) new
costs_with plan old new command size len sessions kept s n fits is count cost few devices =
    let dev : ℕ = device_in command in
    let changed : List SessionLines = with_last (with_command_line command) n.boot.sessions in
    let own_fits : FitsWord (room_of (size_of n.device) command) = subst (λ (z : DeviceSize). FitsWord (room_of z command)) (sym n.size_is) fits in
    let own_is = subst (λ (z : DeviceSize). troubles_of kept
    ≡ troubles_with (marks_of z command) (room_of z command) (troubles_in sessions size (get nat_cmp old.devices dev))) (sym n.size_is) is in
    let boot = subst (λ (o : Option BootLines). KnowsBoot plan o old.devices) n.boot_is s.boot in
    record {
      cost_is = cost;
      few = few;
      boot = subst (λ (o : Option BootLines). KnowsBoot (with_command command plan) o new.devices)
          (sym (last_of-with_last (with_boot_command command) plan.boots n.boot n.boot_is))
          (λ other device at. by_test other device at (eqb dev other) refl
          (knows_with n.device command n.boot.sessions n.session (troubles_in sessions size (get nat_cmp old.devices dev)) kept n.session_is own_fits
          (known plan old command size len sessions s n) own_is (count ∙ sym n.count_is))
          (λ apart. knows_apart device other command n.boot.sessions n.session (get nat_cmp old.devices other) n.session_is apart (boot other device at)));
    }
  where
    by_test : (other : ℕ) (device : Device) → device_at plan other ≡ Some device → (b : Bool) → eqb (device_in command) other ≡ b →
        Knows (size_of n.device) (device_in command) (with_last (with_command_line command) n.boot.sessions) (Some kept) →
        (eqb (device_in command) other ≡ false → Knows (size_of device) other (with_last (with_command_line command) n.boot.sessions) (get nat_cmp old.devices other)) →
        Knows (size_of device) other (with_last (with_command_line command) n.boot.sessions) (get nat_cmp new.devices other)
    by_test other device at true e on apart =
        let same : device_in command ≡ other = eqb-true (device_in command) other e in
        let one : n.device ≡ device = let found : ◌≡◌ {A = Option Device} (Some n.device) (Some device) = sym n.device_is ∙ ap (device_at plan) same ∙ at in cc found in
        let entry = devices other ∙ ap (λ b. cond b (Some kept) (get nat_cmp old.devices other)) e in
        subst (λ (o : Option DeviceTroubles). Knows (size_of device) other (with_last (with_command_line command) n.boot.sessions) o) (sym entry)
        (subst (λ k. Knows (size_of device) k (with_last (with_command_line command) n.boot.sessions) (Some kept)) same
        (subst (λ (d : Device). Knows (size_of d) (device_in command) (with_last (with_command_line command) n.boot.sessions) (Some kept)) one on))
    by_test other device at false e on apart =
        let entry = devices other ∙ ap (λ b. cond b (Some kept) (get nat_cmp old.devices other)) e in
        subst (λ (o : Option DeviceTroubles). Knows (size_of device) other (with_last (with_command_line command) n.boot.sessions) o) (sym entry) (apart e)

-- the cost that is counted, as far as 64 bits hold it
pub total_is : (plan : PlanLines) (index : CostIndex) (command : CommandLine) (size : DeviceSize) (len sessions : ℕ) → AreCosts plan index →
    IsNext plan command size len sessions → (dev marks base lost cost : ℕ) (room : Option ℕ) (t : Troubles) →
    dev ≡ device_in command → t ≡ troubles_in sessions size (get nat_cmp index.devices dev) → marks ≡ marks_of size command →
    room ≡ room_of size command → FitsWord room → base ≡ in_long (cost_of size.geometry (command_on plan size.blocks command) 0) →
    lost ≡ in_long (more_lost marks room t) →
    cost ≡ in_long (index.cost + base + in_long ((size.geometry.pages_per_block + 2) * lost)) →
    cost ≡ in_long (plan_cost (with_command command plan))
total_is plan index command size len sessions s n dev marks base lost cost room t dev_is t_is marks_are room_is fits base_is lost_is cost_is =
    let pages : ℕ = size.geometry.pages_per_block in
    let whole : ℕ = cost_of size.geometry (command_on plan size.blocks command) 0 in
    let before : Troubles = troubles_in sessions size (get nat_cmp index.devices (device_in command)) in
    let more : ℕ = more_lost (marks_of size command) (room_of size command) before in
    let lost_now : lost ≡ in_long more =
    lost_is ∙ ap (λ m. in_long (more_lost m room t)) marks_are ∙ ap (λ r. in_long (more_lost (marks_of size command) r t)) room_is
    ∙ ap (λ u. in_long (more_lost (marks_of size command) (room_of size command) u))
    (t_is ∙ ap (λ d. troubles_in sessions size (get nat_cmp index.devices d)) dev_is) in
    cost_is
    ∙ ap (λ b. in_long (index.cost + b + in_long ((pages + 2) * lost))) base_is
    ∙ ap (λ l. in_long (index.cost + in_long whole + in_long ((pages + 2) * l))) lost_now
    ∙ total_long index.cost whole pages more
    ∙ ap in_long (sym (cost_grows plan index command size len sessions s n (subst FitsWord room_is fits)))

-- an entry that is put in takes the place of what was taken out
replaced : {X : Type 0} (b : Bool) (x y z : X) → (b ≡ false → x ≡ y) → cond b z x ≡ cond b z y
replaced true x y z same = refl
replaced false x y z same = same refl

-- what is kept, with the entry of the command's device put in
pub costs_put : (plan : PlanLines) (old new : CostIndex) (command : CommandLine) (size : DeviceSize) (len sessions : ℕ) → AreCosts plan old →
    IsNext plan command size len sessions → (dev marks : ℕ) (room : Option ℕ) (t : Troubles) (kept : DeviceTroubles) (out : BTreeMap ℕ DeviceTroubles) →
    dev ≡ device_in command → t ≡ troubles_in sessions size (get nat_cmp old.devices dev) → marks ≡ marks_of size command →
    room ≡ room_of size command → FitsWord room → troubles_of kept ≡ troubles_with marks room t → kept.sessions ≡ sessions →
    new.cost ≡ plan_cost (with_command command plan) → new.cost ≤ 65536 →
    ((other : ℕ) → eqb dev other ≡ false → get nat_cmp out other ≡ get nat_cmp old.devices other) →
    ((other : ℕ) → get nat_cmp new.devices other ≡ cond (eqb dev other) (Some kept) (get nat_cmp out other)) →
    AreCosts (with_command command plan) new
costs_put plan old new command size len sessions s n dev marks room t kept out dev_is t_is marks_are room_is fits is count cost few others put =
    costs_with plan old new command size len sessions kept s n (subst FitsWord room_is fits)
    (is ∙ ap (λ m. troubles_with m room t) marks_are ∙ ap (λ r. troubles_with (marks_of size command) r t) room_is
    ∙ ap (troubles_with (marks_of size command) (room_of size command))
    (t_is ∙ ap (λ d. troubles_in sessions size (get nat_cmp old.devices d)) dev_is))
    count cost few
    (λ other. put other ∙ replaced (eqb dev other) (get nat_cmp out other) (get nat_cmp old.devices other) (Some kept) (others other)
    ∙ ap (λ d. cond (eqb d other) (Some kept) (get nat_cmp old.devices other)) dev_is)
