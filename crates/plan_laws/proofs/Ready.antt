-- A plan gives each controller what it needs at its start.
use Rattle.std.proofs.Common.{◌≡◌, ◌∙◌, ℕ, zero, suc, ◌+◌, ◌-◌, ◌*◌, ◌/◌, ◌%◌, ◌≤◌, ◌<◌, Bool, true, false, eqb, leb, ltb, List, [], ◌∷◌, ◌++◌, length, map, take, Option, Some, None, Ok, inl, inr, sym, ap, refl, subst, arith, length-append}
use Rattle.std.specs.Prelude.{◌&&◌, ◌||◌, All, cond, flat_map, sum_by, count_by, find, slice_get, slice_index_or, option_map, replicate, bytes_eq}
use Rattle.std.specs.List.{list_all}
use Rattle.std.proofs.Math.Nat.{mul-le-mul_right}
use Rattle.std.proofs.lemmas.Bool.{and_parts, leb-true, ltb-true, eqb-true}
use Rattle.std.proofs.lemmas.List.Elements.{All-cons, All-nil, All-head, All-tail, All-append}
use Rattle.std.proofs.lemmas.List.Sums.{sum_by-cons}
use Rattle.std.proofs.lemmas.Option.{get_or_from_slice_get, slice_get-map}
use Rattle.nand_model.specs.Chip.{ChipState}
use Rattle.nand_model.specs.Flips.{FitsBits}
use Rattle.nand_model.specs.Partitions.{Partitions, part_of, chip_of_part, command_device, LiesWithin}
use Rattle.nand_model.specs.Seeds.{seed_byte}
use Rattle.nand_model.specs.Sizes.{numbers_from, page_count, raw_len, small_chip}
use Rattle.nand_model.specs.declared.geometry.Geometry.{Geometry}
use Rattle.nand_model.specs.declared.words.Command.{Command}
use Rattle.nand_model.specs.declared.words.Command.TheVariants.{FlashErase as Erases, NandWrite as Writes, NandDump as Dumps, NandTest as Tests, MarkBad as Marks, IsBad as Asks, Stats as Counts}
use Rattle.nand_model.specs.declared.words.Flip.{Flip}
use Rattle.nand_model.specs.declared.words.Part.{Part}
use Rattle.nand_model.proofs.Bounds.{bounds}
use Rattle.command_model.specs.Boot.{AreAscending, geometry_for, geometry_of_chip}
use Rattle.command_model.specs.Command.{block_size, cost_of, command_blocks, device_bytes}
use Rattle.command_model.specs.Cost.{troubled_blocks, command_cost, commands_cost, sessions_cost}
use Rattle.command_model.specs.Runnable.{Fits, IsDeviceSize}
use Rattle.run_model.specs.Start.{IsOfDevice, IsOnChip, IsOnFlash}
use Rattle.plan_model.specs.Plan.{ChipPlan, PartPlan, BootPlan, SessionPlan, part_count, parts_from, devices_of, items_of, sessions_from, boot_part}
use Rattle.plan_grammar.specs.declared.kind.PlanKind.TheVariants.{OutOfChip, NotMultiple, UnknownName}
use Rattle.plan_grammar.specs.declared.lines.PlanLines.{PlanLines}
use Rattle.plan_grammar.specs.declared.lines.ChipLines.{ChipLines}
use Rattle.plan_grammar.specs.declared.lines.PartLine.{PartLine}
use Rattle.plan_grammar.specs.declared.lines.DataLine.{DataLine}
use Rattle.plan_grammar.specs.declared.lines.Piece.{Piece}
use Rattle.plan_grammar.specs.declared.lines.Piece.TheVariants.{Fill, Seed, Hex}
use Rattle.plan_grammar.specs.declared.lines.BootLines.{BootLines}
use Rattle.plan_grammar.specs.declared.lines.FaultLine.{FaultLine}
use Rattle.plan_grammar.specs.declared.lines.FaultLine.TheVariants.{Flip as FlipOf, Cut as CutOf}
use Rattle.plan_grammar.specs.declared.lines.SessionLines.{SessionLines}
use Rattle.plan_grammar.specs.declared.lines.CommandLine.{CommandLine}
use Rattle.plan_grammar.specs.declared.lines.CommandLine.TheVariants.{FlashErase, NandWrite, NandDump, NandTest, MarkBad, IsBad, Stats}
use Rattle.plan_grammar.specs.Limits.{most_data}
use Rattle.plan_grammar.specs.Rules.{there}
use Rattle.plan_grammar.specs.Forms.{piece_bytes, piece_length}
use Rattle.plan_grammar.specs.Devices.{Device, device_at, devices_of_chips, data_length, data_named, pieces_length}
use Rattle.plan_grammar.specs.Faults.{is_flip, flips_of, chip_in}
use Rattle.plan_grammar.specs.Costs.{bytes_of, command_on, device_in}
use Rattle.plan_grammar.specs.Commands.{is_on, range_rules, write_rules, device_rules}
use Rattle.plan_grammar.specs.Meaning.{chip_plan, flips_in, blocks_of, command_of, session_plan, boot_plan, plan_of}
use Rattle.plan_laws.specs.Ready.{boot_at, chips_at, part_at, no_boot, HaveSizes, IsReady}
use Rattle.plan_laws.specs.Within.{PlansAreReady}
use Rattle.plan_laws.proofs.Steps.{rule_kept, rule_true, found}
use Rattle.plan_laws.proofs.Commands.{HasFit}
use Rattle.plan_laws.proofs.Lists.{item_le_sum, all_at, below_got}
use Rattle.plan_laws.proofs.Goods.{hardware_of, LiesOn, KeepsChip, KeepsChips, KeepsCommand, KeepsSession, KeepsFlip, KeepsFault, KeepsBoot, base_on, command_base, session_base, boot_base, KeepsLines}
use Rattle.plan_laws.proofs.Places.{on_chips, in_controllers, part_found}
use Rattle.plan_laws.proofs.Limits.{plan_keeps, length_map}

-- an item of a list of images
got_map : {A B : Type 0} (f : A → B) (xs : List A) (i : ℕ) (y : B) → slice_get (map f xs) i ≡ Some y →
    (x : A) × (slice_get xs i ≡ Some x) × (f x ≡ y)
got_map f [] i y e = absurd (cc e)
got_map f (x ∷ xs) zero y e = (x, refl, cc e)
got_map f (x ∷ xs) (suc i) y e = got_map f xs i y e

-- how many bytes data are
length-replicate : (n b : ℕ) → length (replicate n b) ≡ n
length-replicate zero b = refl
length-replicate (suc n) b = ap suc (length-replicate n b)

length-numbers : (n from : ℕ) → length (numbers_from from n) ≡ n
length-numbers zero from = refl
length-numbers (suc n) from = ap suc (length-numbers n (from + 1))

piece-length : (p : Piece) → length (piece_bytes p) ≡ piece_length p
piece-length (Fill byte len) = length-replicate len byte
piece-length (Seed seed len) = length_map (seed_byte seed) (numbers_from 0 len) ∙ length-numbers len 0
piece-length (Hex bytes) = refl

pieces-length : (ps : List Piece) → length (flat_map piece_bytes ps) ≡ pieces_length ps
pieces-length [] = refl
pieces-length (p ∷ ps) =
    omega (arith, length-append (piece_bytes p) (flat_map piece_bytes ps), piece-length p, pieces-length ps, sum_by-cons piece_length p ps)

found_by : (b : Bool) (p payload : DataLine) (payloads : List DataLine) (o : Option DataLine) →
    (o ≡ Some payload → data_length payload ≤ sum_by data_length payloads) → cond b (Some p) o ≡ Some payload →
    data_length payload ≤ sum_by data_length (p ∷ payloads)
found_by true p payload payloads o h e =
    let same : p ≡ payload = cc e in let here = ap data_length same in omega (arith, here, sum_by-cons data_length p payloads)
found_by false p payload payloads o h e = omega (arith, h e, sum_by-cons data_length p payloads)

find_le : (test : DataLine → Bool) (payloads : List DataLine) (payload : DataLine) → find test payloads ≡ Some payload →
    data_length payload ≤ sum_by data_length payloads
find_le test [] payload e = absurd (cc e)
find_le test (p ∷ payloads) payload e = found_by (test p) p payload payloads (find test payloads) (find_le test payloads payload) e

data_few : (payloads : List DataLine) (name : List ℕ) (o : Option DataLine) → find (λ (p : DataLine). bytes_eq p.name name) payloads ≡ o →
    sum_by data_length payloads ≤ most_data → length (bytes_of o) ≤ 4294967295
data_few payloads name None e few = omega arith
data_few payloads name (Some payload) e few =
    omega (arith, pieces-length payload.pieces, find_le (λ (p : DataLine). bytes_eq p.name name) payloads payload e, few)

-- the numbers of a command fit its device
range_fit : (unit size off len : ℕ) (u : Unit {0}) → range_rules unit size off len ≡ Ok u → (off < size) × (off + len ≤ size)
unfolding range_rules
range_fit unit size off len u e =
    let one = rule_kept (eqb (off % unit) 0 && eqb (len % unit) 0) NotMultiple _ u e in
    let parts = and_parts (ltb off size) (leb (off + len) size) (rule_true (ltb off size && leb (off + len) size) OutOfChip u one.1) in
    (ltb-true off size parts.0, leb-true (off + len) size parts.1)

write_fit : (plan : PlanLines) (device : Device) (oob pad : Bool) (off : ℕ) (name : List ℕ) (u : Unit {0}) →
    write_rules plan device oob pad off name ≡ Ok u → off < device_bytes device.chip.geometry device.part.count
unfolding write_rules
write_fit plan device oob pad off name u e =
    let one = found (data_named plan name) UnknownName _ u e in
    let two = rule_kept (eqb (off % device.chip.geometry.page) 0 && (pad || eqb (data_length one.value % _) 0)) NotMultiple _ u one.further in
    ltb-true off (device_bytes device.chip.geometry device.part.count)
    (rule_true (ltb off (device_bytes device.chip.geometry device.part.count)) OutOfChip u two.1)

fits_by : (plan : PlanLines) (device : Device) (command : CommandLine) → IsDeviceSize device.part.count → sum_by data_length plan.payloads ≤ most_data →
    HasFit command → device_rules plan device command ≡ Ok tt → Fits device.chip.geometry (command_on plan device.part.count command)
fits_by plan device (FlashErase dev no_scan start count) size few fit e =
    let parts = and_parts (ltb start device.part.count) (leb (start + count) device.part.count)
    (rule_true (ltb start device.part.count && leb (start + count) device.part.count) OutOfChip tt e) in
    record { size = size; first = ltb-true start device.part.count parts.0; last = leb-true (start + count) device.part.count parts.1 }
fits_by plan device (NandWrite dev mark raw oob pad off name) size few fit e =
    record {
      size = size;
      first = write_fit plan device oob pad off name tt e;
      few = data_few plan.payloads name (data_named plan name) refl few;
    }
fits_by plan device (NandDump dev off len raw oob bad) size few fit e =
    let range = range_fit device.chip.geometry.page (device_bytes device.chip.geometry device.part.count) off len tt e in
    record { size = size; first = range.0; last = range.1 }
fits_by plan device (NandTest dev keep mark seed passes off len) size few fit e =
    let range = range_fit (block_size device.chip.geometry) (device_bytes device.chip.geometry device.part.count) off len tt e in
    record { size = size; some = fit.2; first = range.0; last = range.1 }
fits_by plan device (MarkBad dev block) size few fit e = size
fits_by plan device (IsBad dev block) size few fit e = size
fits_by plan device (Stats dev) size few fit e = size

-- with trouble in each block a command is at most 131 times as dear as with none
cost_bound : (g : Geometry) (command : Command) → cost_of g command (troubled_blocks g command) ≤ 131 * cost_of g command 0
cost_bound g (Erases dev blocks no_scan start count) = omega arith
cost_bound g (Writes dev blocks mark raw oob pad off bytes) =
    let x : ℕ = blocks - off / block_size g in
    let pages : g.pages_per_block + 2 ≤ 130 = elim (bounds g).block [ inl p ↦ omega (arith, p) | inr q ↦ omega (arith, q) ] in
    omega (arith, mul-le-mul_right x pages)
cost_bound g (Dumps dev blocks off len raw oob bad) = omega arith
cost_bound g (Tests dev blocks keep mark seed passes off len) = omega arith
cost_bound g (Marks dev blocks block) = omega arith
cost_bound g (Asks dev blocks block) = omega arith
cost_bound g (Counts dev blocks) = omega arith

device-on : (plan : PlanLines) (n : ℕ) (command : CommandLine) → command_device (command_on plan n command) ≡ device_in command
device-on plan n (FlashErase dev no_scan start count) = refl
device-on plan n (NandWrite dev mark raw oob pad off name) = refl
device-on plan n (NandDump dev off len raw oob bad) = refl
device-on plan n (NandTest dev keep mark seed passes off len) = refl
device-on plan n (MarkBad dev block) = refl
device-on plan n (IsBad dev block) = refl
device-on plan n (Stats dev) = refl

blocks-on : (plan : PlanLines) (n : ℕ) (command : CommandLine) → command_blocks (command_on plan n command) ≡ n
blocks-on plan n (FlashErase dev no_scan start count) = refl
blocks-on plan n (NandWrite dev mark raw oob pad off name) = refl
blocks-on plan n (NandDump dev off len raw oob bad) = refl
blocks-on plan n (NandTest dev keep mark seed passes off len) = refl
blocks-on plan n (MarkBad dev block) = refl
blocks-on plan n (IsBad dev block) = refl
blocks-on plan n (Stats dev) = refl

-- a device of a controller
pub record IsOn (c : ℕ) (o : Option Device) (device : Device) : Type 0 where
  pub found : o ≡ Some device
  pub own : device.controller ≡ c

pub is_on_by : (c : ℕ) (o : Option Device) (device : Device) → is_on c o ≡ Some device → IsOn c o device
is_on_by c None device e = absurd (cc e)
is_on_by c (Some d) device e = by (eqb d.controller c) (eqb-true d.controller c) e
  where
    by : (b : Bool) → (b ≡ true → d.controller ≡ c) → cond b (Some d) None ≡ Some device → IsOn c (Some d) device
    by true own e =
        let same : d ≡ device = cc e in
        record { found = ap Some same; own = ap (λ (x : Device). x.controller) (sym same) ∙ own refl }
    by false own e = absurd (cc e)

-- one controller of a plan, its chips and their states
module _ {W : Type 0} (plan : PlanLines) (c : ℕ) (chips : List ChipLines) (starts : List (ChipState W))
    (keeps : KeepsLines plan) (at : slice_get plan.controllers c ≡ Some chips) (sizes : HaveSizes (map chip_plan chips) starts) where
  good_chips : All KeepsChip chips
  good_chips = (all_at KeepsChips plan.controllers c chips at keeps.chips).good

  -- the state of a chip
  state_at : (i : ℕ) (chip : ChipLines) → slice_get chips i ≡ Some chip →
      (s : ChipState W) × (slice_get starts i ≡ Some s) × (s.geometry ≡ chip.geometry)
  state_at i chip e =
      got_map (λ (s : ChipState W). s.geometry) starts i chip.geometry
      (ap (λ gs. slice_get gs i) sizes
      ∙ slice_get-map (λ (p : ChipPlan). p.geometry) (map chip_plan chips) i
      ∙ ap (option_map (λ (p : ChipPlan). p.geometry)) (slice_get-map chip_plan chips i ∙ ap (option_map chip_plan) e))

  geometry_at : (i : ℕ) (chip : ChipLines) → slice_get chips i ≡ Some chip →
      slice_index_or (map (λ (s : ChipState W). s.geometry) starts) i small_chip ≡ chip.geometry
  geometry_at i chip e =
      let (s, there, same) = state_at i chip e in
      get_or_from_slice_get (map (λ (s : ChipState W). s.geometry) starts) i chip.geometry small_chip
      (slice_get-map (λ (s : ChipState W). s.geometry) starts i ∙ ap (option_map (λ (s : ChipState W). s.geometry)) there ∙ ap Some same)

  -- the device of a command of this controller
  record OfCommand (command : CommandLine) (device : Device) : Type 0 where
    pub found : device_at (hardware_of plan.controllers plan.payloads) (device_in command) ≡ Some device
    pub i : ℕ
    pub chip_there : slice_get chips i ≡ Some device.chip
    pub lies : LiesOn device.chip.geometry device.part
    pub part_is : part_of (devices_of (plan_of plan) c (map chip_plan chips)) (device_in command)
        ≡ Some (record { chip = 0 + i; start = device.part.start; count = device.part.count })

  same_chips : (others : List ChipLines) → slice_get plan.controllers c ≡ Some others → others ≡ chips
  same_chips others e = let same : Some others ≡ Some chips = sym e ∙ at in cc same

  of_command : (command : CommandLine) (k : KeepsCommand plan.controllers plan.payloads c command) → OfCommand command k.device
  of_command command k =
      let on = is_on_by c (device_at (hardware_of plan.controllers plan.payloads) (device_in command)) k.device k.named in
      let inside = in_controllers 0 plan.controllers (device_in command) k.device on.found in
      let number : inside.i ≡ c = omega (arith, inside.controller_is, on.own) in
      let chips_are : inside.chips ≡ chips =
      same_chips inside.chips (ap (slice_get plan.controllers) (sym number) ∙ inside.chips_at) in
      let there : slice_get (devices_of_chips (0 + inside.i) chips) inside.j ≡ Some k.device =
      ap (λ (cs : List ChipLines). slice_get (devices_of_chips (0 + inside.i) cs) inside.j) (sym chips_are) ∙ inside.inside in
      let on_chip = on_chips (0 + inside.i) 0 chips inside.j k.device there in
      let first : device_in command ≡ sum_by part_count (take c (map (map chip_plan) plan.controllers)) + inside.j =
      inside.dev_is ∙ ap (λ n. sum_by part_count (take n (map (map chip_plan) plan.controllers)) + inside.j) number in
      record {
        found = on.found;
        i = on_chip.i;
        chip_there = on_chip.chip_at;
        lies = all_at (LiesOn k.device.chip.geometry) k.device.chip.parts on_chip.n k.device.part on_chip.part_at
            (all_at KeepsChip chips on_chip.i k.device.chip on_chip.chip_at good_chips).parts;
        part_is = part_found (sum_by part_count (take c (map (map chip_plan) plan.controllers))) (parts_from 0 (map chip_plan chips))
            (device_in command) inside.j (record { chip = 0 + on_chip.i; start = k.device.part.start; count = k.device.part.count })
            first on_chip.placed_at;
      }

  abbrev the_devices : Partitions
  the_devices = devices_of (plan_of plan) c (map chip_plan chips)

  abbrev the_sizes : Command → Geometry
  the_sizes command = geometry_for the_devices (map (λ (s : ChipState W). s.geometry) starts) command

  -- what a command of this controller is at its start
  record ReadyCommand (line : CommandLine) (command : Command) : Type 0 where
    pub device : IsOfDevice the_devices command
    pub fit : Fits (the_sizes command) command
    pub cost : command_cost the_sizes command ≤ 131 * command_base plan.controllers plan.payloads line

  device_size : (g : Geometry) (part : PartLine) → LiesOn g part → IsDeviceSize part.count
  device_size g part h =
      let high = (bounds g).blocks_high in
      let some = h.0 in
      let last = h.1 in
      (omega (arith, some), omega (arith, last, high))

  ready_by : (line : CommandLine) (device : Device) (on : OfCommand line device) →
      device_rules (hardware_of plan.controllers plan.payloads) device line ≡ Ok tt → HasFit line →
      ReadyCommand line (command_on plan device.part.count line)
  ready_by line device on rules fit =
      let command : Command = command_on plan device.part.count line in
      let part : Part = record { chip = 0 + on.i; start = device.part.start; count = device.part.count } in
      let part_is : part_of the_devices (command_device command) ≡ Some part =
      ap (part_of the_devices) (device-on plan device.part.count line) ∙ on.part_is in
      let size : the_sizes command ≡ device.chip.geometry =
      ap (λ (o : Option Part). geometry_of_chip (map (λ (s : ChipState W). s.geometry) starts) (chip_of_part o)) part_is
      ∙ ap (λ n. slice_index_or (map (λ (s : ChipState W). s.geometry) starts) n small_chip) (let none : 0 + on.i ≡ on.i = omega arith in none)
      ∙ geometry_at on.i device.chip on.chip_there in
      let base : command_base plan.controllers plan.payloads line ≡ cost_of device.chip.geometry command 0 =
      ap (base_on plan.controllers plan.payloads line) on.found in
      record {
        device = (part, part_is, blocks-on plan device.part.count line);
        fit = subst (λ (g : Geometry). Fits g command) (sym size)
            (fits_by (hardware_of plan.controllers plan.payloads) device line (device_size device.chip.geometry device.part on.lies) keeps.few_data fit rules);
        cost = (let bound = cost_bound device.chip.geometry command in
            let same = ap (λ (g : Geometry). cost_of g command (troubled_blocks g command)) size in
            omega (arith, bound, same, base));
      }

  ready_command : (line : CommandLine) → KeepsCommand plan.controllers plan.payloads c line → ReadyCommand line (command_of plan line)
  ready_command line k =
      let on = of_command line k in
      let same : command_of plan line ≡ command_on plan k.device.part.count line =
      ap (λ (o : Option Device). command_on plan (blocks_of o) line) on.found in
      subst (ReadyCommand line) (sym same) (ready_by line k.device on k.rules k.fits)

  -- and of commands one after the other
  record ReadyCommands (lines : List CommandLine) : Type 0 where
    pub devices : All (IsOfDevice the_devices) (map (command_of plan) lines)
    pub fit : All (λ (command : Command). Fits (the_sizes command) command) (map (command_of plan) lines)
    pub cost : commands_cost the_sizes (map (command_of plan) lines) ≤ 131 * sum_by (command_base plan.controllers plan.payloads) lines

  ready_commands : (lines : List CommandLine) → All (KeepsCommand plan.controllers plan.payloads c) lines → ReadyCommands lines
  ready_commands [] h = record {
    devices = All-nil (IsOfDevice the_devices);
    fit = All-nil (λ (command : Command). Fits (the_sizes command) command);
    cost = omega arith;
  }
  ready_commands (line ∷ lines) h =
      let here = ready_command line (All-head (KeepsCommand plan.controllers plan.payloads c) line lines h) in
      let more = ready_commands lines (All-tail (KeepsCommand plan.controllers plan.payloads c) line lines h) in
      let cost = here.cost in
      let costs = more.cost in
      record {
        devices = All-cons (IsOfDevice the_devices) (command_of plan line) (map (command_of plan) lines) here.device more.devices;
        fit = All-cons (λ (command : Command). Fits (the_sizes command) command) (command_of plan line) (map (command_of plan) lines) here.fit more.fit;
        cost = omega (
          arith,
          sum_by-cons (command_cost the_sizes) (command_of plan line) (map (command_of plan) lines),
          sum_by-cons (command_base plan.controllers plan.payloads) line lines,
          cost,
          costs,
        );
      }

  -- the sessions of this controller
  abbrev own_sessions : ℕ → List SessionLines → List (ℕ × List Command)
  own_sessions n sessions = sessions_from c n (map (session_plan plan) sessions)

  record ReadySessions (n : ℕ) (sessions : List SessionLines) : Type 0 where
    pub devices : All (λ (s : ℕ × List Command). All (IsOfDevice the_devices) s.1) (own_sessions n sessions)
    pub fit : All (λ (s : ℕ × List Command). All (λ (command : Command). Fits (the_sizes command) command) s.1) (own_sessions n sessions)
    pub cost : sessions_cost the_sizes (own_sessions n sessions) ≤ 131 * sum_by (session_base plan.controllers plan.payloads) sessions

  ready_session : (n : ℕ) (session : SessionLines) (sessions : List SessionLines) (own : Bool) → eqb session.controller c ≡ own →
      KeepsSession plan.controllers plan.payloads session → ReadySessions (n + 1) sessions → ReadySessions n (session ∷ sessions)
  ready_session n session sessions true e k more =
      let same : session.controller ≡ c = eqb-true session.controller c e in
      let commands = ready_commands session.commands (subst (λ m. All (KeepsCommand plan.controllers plan.payloads m) session.commands) same k.commands) in
      let is : own_sessions n (session ∷ sessions) ≡ (n, map (command_of plan) session.commands) ∷ own_sessions (n + 1) sessions =
      ap (λ b. cond b ((n, map (command_of plan) session.commands) ∷ []) [] ++ own_sessions (n + 1) sessions) e in
      let cost = commands.cost in
      let costs = more.cost in
      record {
        devices = subst (All (λ (s : ℕ × List Command). All (IsOfDevice the_devices) s.1)) (sym is)
            (All-cons (λ (s : ℕ × List Command). All (IsOfDevice the_devices) s.1) (n, map (command_of plan) session.commands) (own_sessions (n + 1) sessions)
            commands.devices more.devices);
        fit = subst (All (λ (s : ℕ × List Command). All (λ (command : Command). Fits (the_sizes command) command) s.1)) (sym is)
            (All-cons (λ (s : ℕ × List Command). All (λ (command : Command). Fits (the_sizes command) command) s.1)
            (n, map (command_of plan) session.commands) (own_sessions (n + 1) sessions) commands.fit more.fit);
        cost = subst (λ (ss : List (ℕ × List Command)). sessions_cost the_sizes ss ≤ 131 * sum_by (session_base plan.controllers plan.payloads) (session ∷ sessions))
            (sym is)
            (omega (
              arith,
              sum_by-cons (λ (s : ℕ × List Command). commands_cost the_sizes s.1) (n, map (command_of plan) session.commands) (own_sessions (n + 1) sessions),
              sum_by-cons (session_base plan.controllers plan.payloads) session sessions,
              cost,
              costs,
            ));
      }
  ready_session n session sessions false e k more =
      let is : own_sessions n (session ∷ sessions) ≡ own_sessions (n + 1) sessions =
      ap (λ b. cond b ((n, map (command_of plan) session.commands) ∷ []) [] ++ own_sessions (n + 1) sessions) e in
      let costs = more.cost in
      record {
        devices = subst (All (λ (s : ℕ × List Command). All (IsOfDevice the_devices) s.1)) (sym is) more.devices;
        fit = subst (All (λ (s : ℕ × List Command). All (λ (command : Command). Fits (the_sizes command) command) s.1)) (sym is) more.fit;
        cost = subst (λ (ss : List (ℕ × List Command)). sessions_cost the_sizes ss ≤ 131 * sum_by (session_base plan.controllers plan.payloads) (session ∷ sessions))
            (sym is) (omega (arith, sum_by-cons (session_base plan.controllers plan.payloads) session sessions, costs));
      }

  ready_sessions : (n : ℕ) (sessions : List SessionLines) → All (KeepsSession plan.controllers plan.payloads) sessions → ReadySessions n sessions
  ready_sessions n [] h = record {
    devices = All-nil (λ (s : ℕ × List Command). All (IsOfDevice the_devices) s.1);
    fit = All-nil (λ (s : ℕ × List Command). All (λ (command : Command). Fits (the_sizes command) command) s.1);
    cost = omega arith;
  }
  ready_sessions n (session ∷ sessions) h =
      ready_session n session sessions (eqb session.controller c) refl (All-head (KeepsSession plan.controllers plan.payloads) session sessions h)
      (ready_sessions (n + 1) sessions (All-tail (KeepsSession plan.controllers plan.payloads) session sessions h))

  -- partitions lie on chips
  on_starts : (k i : ℕ) (chip : ChipLines) (s : ChipState W) → k ≡ i → slice_get starts i ≡ Some s → s.geometry ≡ chip.geometry →
      (parts : List PartLine) → All (LiesOn chip.geometry) parts →
      All (IsOnChip starts) (map (λ (p : PartPlan). record { chip = k; start = p.start; count = p.count })
      (map (λ (part : PartLine). record { start = part.start; count = part.count }) parts))
  on_starts k i chip s same there size [] h = All-nil (IsOnChip starts)
  on_starts k i chip s same there size (part ∷ parts) h =
      let placed : Part = record { chip = k; start = part.start; count = part.count } in
      let lies = All-head (LiesOn chip.geometry) part parts h in
      All-cons (IsOnChip starts) placed (map (λ (p : PartPlan). record { chip = k; start = p.start; count = p.count })
      (map (λ (part : PartLine). record { start = part.start; count = part.count }) parts))
      (s, ap (slice_get starts) same ∙ there, subst (λ (g : Geometry). LiesWithin g.blocks placed) (sym size) lies)
      (on_starts k i chip s same there size parts (All-tail (LiesOn chip.geometry) part parts h))

  parts_ready : (k : ℕ) (more : List ChipLines) → ((i : ℕ) (chip : ChipLines) → slice_get more i ≡ Some chip → slice_get chips (k + i) ≡ Some chip) →
      All KeepsChip more → All (IsOnChip starts) (parts_from k (map chip_plan more))
  parts_ready k [] at_place h = All-nil (IsOnChip starts)
  parts_ready k (chip ∷ more) at_place h =
      let (s, there, size) = state_at (k + 0) chip (at_place 0 chip refl) in
      let same : k ≡ k + 0 = omega arith in
      All-append (IsOnChip starts) (map (λ (p : PartPlan). record { chip = k; start = p.start; count = p.count }) (chip_plan chip).parts)
      (parts_from (k + 1) (map chip_plan more))
      (on_starts k (k + 0) chip s same there size chip.parts (All-head KeepsChip chip more h).parts)
      (parts_ready (k + 1) more
      (λ i next e. ap (slice_get chips) (let place : k + 1 + i ≡ k + suc i = omega arith in place) ∙ at_place (suc i) next e)
      (All-tail KeepsChip chip more h))

  -- flips turn bits that are there
  abbrev own_flips : List FaultLine → List Flip
  own_flips faults = items_of c (flat_map flips_in faults)

  record ReadyFlips (faults : List FaultLine) : Type 0 where
    pub on_flash : All (IsOnFlash starts) (own_flips faults)
    pub short : All (λ (flip : Flip). length flip.bits ≤ 32768) (own_flips faults)
    pub few : length (own_flips faults) ≤ count_by is_flip faults

  below_all : (bits : List ℕ) (n : ℕ) → list_all (λ bit. ltb bit n) bits ≡ true → All (λ bit. bit < n) bits
  below_all [] n h = All-nil (λ bit. bit < n)
  below_all (b ∷ bits) n h =
      let parts = and_parts (ltb b n) (list_all (λ bit. ltb bit n) bits) h in
      All-cons (λ bit. bit < n) b bits (ltb-true b n parts.0) (below_all bits n parts.1)

  flip_ready : (controller : ℕ) (flip : Flip) → KeepsFlip plan.controllers controller flip → c ≡ controller → IsOnFlash starts flip
  flip_ready controller flip k same =
      let there : slice_get chips flip.chip ≡ Some k.chip =
      ap (chip_in flip.chip) (sym at ∙ ap (slice_get plan.controllers) same) ∙ k.named in
      let (s, found, size) = state_at flip.chip k.chip there in
      let within = and_parts (ltb flip.page (page_count k.chip.geometry)) (list_all (λ bit. ltb bit (8 * raw_len k.chip.geometry)) flip.bits) k.within in (
        s,
        found,
        subst (λ (g : Geometry). FitsBits g flip.page flip.bits) (sym size) (record {
          page_there = ltb-true flip.page (page_count k.chip.geometry) within.0;
          bits_there = below_all flip.bits (8 * raw_len k.chip.geometry) within.1;
        }),
      )

  flip_more : (controller : ℕ) (flip : Flip) (faults : List FaultLine) (own : Bool) → eqb c controller ≡ own →
      KeepsFlip plan.controllers controller flip → ReadyFlips faults → ReadyFlips (FlipOf controller flip ∷ faults)
  flip_more controller flip faults true e k more =
      let is : own_flips (FlipOf controller flip ∷ faults) ≡ flip ∷ own_flips faults = ap (λ b. cond b (flip ∷ []) [] ++ own_flips faults) e in
      let few = more.few in
      let size = ap length is in
      record {
        on_flash = subst (All (IsOnFlash starts)) (sym is)
            (All-cons (IsOnFlash starts) flip (own_flips faults) (flip_ready controller flip k (eqb-true c controller e)) more.on_flash);
        short = subst (All (λ (f : Flip). length f.bits ≤ 32768)) (sym is)
            (All-cons (λ (f : Flip). length f.bits ≤ 32768) flip (own_flips faults) k.short more.short);
        few = omega (arith, size, few, sum_by-cons (λ (f : FaultLine). cond (is_flip f) 1 0) (FlipOf controller flip) faults);
      }
  flip_more controller flip faults false e k more =
      let is : own_flips (FlipOf controller flip ∷ faults) ≡ own_flips faults = ap (λ b. cond b (flip ∷ []) [] ++ own_flips faults) e in
      let few = more.few in
      let size = ap length is in
      record {
        on_flash = subst (All (IsOnFlash starts)) (sym is) more.on_flash;
        short = subst (All (λ (f : Flip). length f.bits ≤ 32768)) (sym is) more.short;
        few = omega (arith, size, few, sum_by-cons (λ (f : FaultLine). cond (is_flip f) 1 0) (FlipOf controller flip) faults);
      }

  flips_ready : (faults : List FaultLine) → All (KeepsFault plan.controllers) faults → ReadyFlips faults
  flips_ready [] h = record {
    on_flash = All-nil (IsOnFlash starts);
    short = All-nil (λ (f : Flip). length f.bits ≤ 32768);
    few = omega arith;
  }
  flips_ready (FlipOf controller flip ∷ faults) h =
      flip_more controller flip faults (eqb c controller) refl (All-head (KeepsFault plan.controllers) (FlipOf controller flip) faults h)
      (flips_ready faults (All-tail (KeepsFault plan.controllers) (FlipOf controller flip) faults h))
  flips_ready (CutOf controller cut ∷ faults) h =
      let more = flips_ready faults (All-tail (KeepsFault plan.controllers) (CutOf controller cut) faults h) in
      let few = more.few in
      record {
        on_flash = more.on_flash;
        short = more.short;
        few = omega (arith, few, sum_by-cons (λ (f : FaultLine). cond (is_flip f) 1 0) (CutOf controller cut) faults);
      }

-- sessions ascend
sessions_high : (c n : ℕ) (sessions : List SessionPlan) (i : ℕ) (a : ℕ × List Command) →
    slice_get (sessions_from c n sessions) i ≡ Some a → n ≤ a.0
sessions_high c n [] i a e = absurd (cc e)
sessions_high c n (s ∷ sessions) i a e = high_by (eqb s.controller c) (n, s.commands) (sessions_from c (n + 1) sessions) n i a (omega arith)
    (λ j f. (let more = sessions_high c (n + 1) sessions j a f in omega (arith, more))) e
  where
    high_by : (b : Bool) (first : ℕ × List Command) (rest : List (ℕ × List Command)) (m i : ℕ) (a : ℕ × List Command) → m ≤ first.0 →
        ((j : ℕ) → slice_get rest j ≡ Some a → m ≤ a.0) → slice_get (cond b (first ∷ []) [] ++ rest) i ≡ Some a → m ≤ a.0
    high_by true first rest m zero a low h e = let same : first ≡ a = cc e in subst (λ (x : ℕ × List Command). m ≤ x.0) same low
    high_by true first rest m (suc i) a low h e = h i e
    high_by false first rest m i a low h e = h i e

ascend_by : (b : Bool) (first : ℕ × List Command) (rest : List (ℕ × List Command)) → ((j : ℕ) (a : ℕ × List Command) → slice_get rest j ≡ Some a → first.0 < a.0) →
    AreAscending rest → AreAscending (cond b (first ∷ []) [] ++ rest)
ascend_by true first rest high h zero zero a b less e f = absurd (omega (arith, less))
ascend_by true first rest high h zero (suc j) a b less e f =
    let same : first ≡ a = cc e in subst (λ (x : ℕ × List Command). x.0 < b.0) same (high j b f)
ascend_by true first rest high h (suc i) zero a b less e f = absurd (omega (arith, less))
ascend_by true first rest high h (suc i) (suc j) a b less e f = h i j a b (omega (arith, less)) e f
ascend_by false first rest high h i j a b less e f = h i j a b less e f

sessions_ascend : (c n : ℕ) (sessions : List SessionPlan) → AreAscending (sessions_from c n sessions)
sessions_ascend c n [] = λ i j a b less e f. absurd (cc e)
sessions_ascend c n (s ∷ sessions) =
    ascend_by (eqb s.controller c) (n, s.commands) (sessions_from c (n + 1) sessions)
    (λ j a e. (let high = sessions_high c (n + 1) sessions j a e in omega (arith, high)))
    (sessions_ascend c (n + 1) sessions)

-- a controller's part of a boot of these lines
boot_ready : {W : Type 0} (plan : PlanLines) (c : ℕ) (chips : List ChipLines) (boot : BootLines) (starts : List (ChipState W)) →
    KeepsLines plan → slice_get plan.controllers c ≡ Some chips → HaveSizes (map chip_plan chips) starts →
    KeepsBoot plan.controllers plan.payloads boot → flips_of boot ≤ 65536 → boot_base plan.controllers plan.payloads boot ≤ 65536 →
    IsReady (boot_part (plan_of plan) c (map chip_plan chips) (boot_plan plan boot)) starts
boot_ready plan c chips boot starts keeps at sizes k flips_few cheap =
    let flips = flips_ready plan c chips starts keeps at sizes boot.faults k.faults in
    let sessions = ready_sessions plan c chips starts keeps at sizes 0 boot.sessions k.sessions in
    let few = flips.few in
    let cost = sessions.cost in
    let lengths = ap length sizes in
    let count = (all_at KeepsChips plan.controllers c chips at keeps.chips).few in
    record {
      few = omega (
        arith,
        lengths,
        length_map (λ (s : ChipState _). s.geometry) starts,
        length_map (λ (p : ChipPlan). p.geometry) (map chip_plan chips),
        length_map chip_plan chips,
        count,
      );
      parts = parts_ready plan c chips starts keeps at sizes 0 chips
          (λ i chip e. ap (slice_get chips) (let none : 0 + i ≡ i = omega arith in none) ∙ e) (all_at KeepsChips plan.controllers c chips at keeps.chips).good;
      flips = flips.on_flash;
      few_flips = record { count = omega (arith, few, flips_few); bits = flips.short };
      devices = sessions.devices;
      fits = sessions.fit;
      ascending = sessions_ascend c 0 (map (session_plan plan) boot.sessions);
      cheap = omega (arith, cost, cheap);
    }

-- a controller's part of a boot of a plan that keeps its limits
ready_at : {W : Type 0} (plan : PlanLines) (c n : ℕ) (chips : List ChipLines) (boot : BootLines) (starts : List (ChipState W)) →
    KeepsLines plan → slice_get plan.controllers c ≡ Some chips → slice_get plan.boots n ≡ Some boot →
    HaveSizes (chips_at (plan_of plan) c) starts → IsReady (part_at (plan_of plan) n c) starts
ready_at plan c n chips boot starts keeps at boot_is sizes =
    let chips_are : chips_at (plan_of plan) c ≡ map chip_plan chips =
    get_or_from_slice_get (plan_of plan).controllers c (map chip_plan chips) []
    (slice_get-map (map chip_plan) plan.controllers c ∙ ap (option_map (map chip_plan)) at) in
    let boot_are : boot_at (plan_of plan) n ≡ boot_plan plan boot =
    get_or_from_slice_get (plan_of plan).boots n (boot_plan plan boot) no_boot
    (slice_get-map (boot_plan plan) plan.boots n ∙ ap (option_map (boot_plan plan)) boot_is) in
    let flips = item_le_sum flips_of plan.boots n boot boot_is in
    let base = item_le_sum (boot_base plan.controllers plan.payloads) plan.boots n boot boot_is in
    let few = keeps.few_flips in
    let cheap = keeps.cheap in
    let ready = boot_ready plan c chips boot starts keeps at (subst (λ (cs : List ChipPlan). HaveSizes cs starts) chips_are sizes)
    (all_at (KeepsBoot plan.controllers plan.payloads) plan.boots n boot boot_is keeps.boots) (omega (arith, flips, few)) (omega (arith, base, cheap)) in
    subst (λ (b : BootPlan). IsReady (boot_part (plan_of plan) c (chips_at (plan_of plan) c) b) starts) (sym boot_are)
    (subst (λ (cs : List ChipPlan). IsReady (boot_part (plan_of plan) c cs (boot_plan plan boot)) starts) (sym chips_are) ready)

pub are_ready : (W : Type 0) → PlansAreReady W
are_ready W bytes plan h starts n c below_boots below_controllers sizes =
    let keeps = plan_keeps bytes plan h in
    let boots = length_map (boot_plan plan) plan.boots in
    let controllers = length_map (map chip_plan) plan.controllers in
    let (chips, at) = below_got plan.controllers c (omega (arith, below_controllers, controllers)) in
    let (boot, boot_is) = below_got plan.boots n (omega (arith, below_boots, boots)) in
    ready_at plan c n chips boot starts keeps at boot_is sizes
