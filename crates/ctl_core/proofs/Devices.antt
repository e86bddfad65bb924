-- The chip and the sizes of a command that comes next.
use Rattle.std.proofs.Common.{◌≡◌, ◌+◌, ◌-◌, arith, ℕ, zero, suc, Bool, true, false, List, [], ◌∷◌, drop, Option, Some, None, refl, ap, sym, ◌∙◌, subst}
use Rattle.std.specs.Prelude.{slice_get, map, option_map, All, nat_lt, if◌then◌else◌}
use Rattle.std.proofs.lemmas.List.{get_or-drop, length-drop}
use Rattle.std.proofs.lemmas.Option.{slice_get_within, get_or_from_slice_get, slice_get-map}
use Rattle.nand_model.specs.Partitions.{LiesWithin, Partitions, part_of, chip_of_part, command_device}
use Rattle.nand_model.specs.declared.geometry.Geometry.{Geometry}
use Rattle.nand_model.specs.declared.words.Command.{Command}
use Rattle.nand_model.specs.declared.words.Op.{Op}
use Rattle.nand_model.specs.declared.words.Part.{Part}
use Rattle.nand_model.specs.declared.words.Note.{Note}
use Rattle.nand_model.specs.declared.words.Reply.{Reply}
use Rattle.nand_model.specs.Sizes.{small_chip}
use Rattle.nand_model.specs.Chip.{ChipState, FaultModel}
use Rattle.chip_paths.specs.ChipRun.{ChipRun}
use Rattle.command_model.specs.Command.{Script, End, Ask, next_in, next_step}
use Rattle.command_model.specs.Boot.{Boot, geometry_of_chip}
use Rattle.run_model.specs.Course.{Course, sizes_of}
use Rattle.command_model.specs.Session.{SessionRun, next_op_of, op_of_next}
use Rattle.run_model.specs.History.{events_in, notes_of_chip}
use Rattle.run_model.specs.Log.{Log}
use Rattle.run_laws.proofs.Traces.{geometry_after}
use Rattle.run_laws.proofs.Courses.{AtPlace, EndOf, by_log, Holds}
use Rattle.run_laws.proofs.Faithful.{log_of}
use Rattle.command_model.specs.Runnable.{Fits}
use Rattle.tool_steps.specs.Steps.{asks_something}
use Rattle.tool_steps.proofs.Asks.{asks_first}
use Rattle.session_steps.specs.declared.session.Session.{Session}
use Rattle.session_steps.specs.Standing.{IsBetween, standing}
use Rattle.session_steps.specs.Mirrors.{IsUnderWay, Mirrors}
use Rattle.session_steps.proofs.Idle.{next_asks}
use Rattle.session_steps.proofs.Scripts.{an_op}
use Rattle.run_model.specs.Start.{IsOnChip, IsOfDevice}
use Rattle.ctl_core.specs.Start.{CanStart}

-- what holds of all items holds of the one at a place
pub all_at : {A : Type 0} (P : A → Type 0) (xs : List A) (k : ℕ) (x : A) → All P xs → slice_get xs k ≡ Some x → P x
all_at P xs k x all h = subst P (get_or_from_slice_get xs k x x h) (all k x (slice_get_within xs k x h))

-- a device's part is in the list of parts
pub part_at : (partitions : Partitions) (dev : ℕ) (part : Part) → part_of partitions dev ≡ Some part → (k : ℕ) × (slice_get partitions.parts k ≡ Some part)
part_at partitions dev part h = by_test (nat_lt dev partitions.first) h
  where
    by_test : (b : Bool) → (if b then None else slice_get partitions.parts (dev - partitions.first)) ≡ Some part → (k : ℕ)
        × (slice_get partitions.parts k ≡ Some part)
    by_test true e = cc
    by_test false e = (dev - partitions.first, e)

module _ {W : Type 0} (model : FaultModel W) (boot : Boot) (starts : List (ChipState W)) (course : Course W) (holds : Holds model boot starts course) where
  -- a chip that was there at the start is in the course, with its sizes
  pub chip_stays : (k : ℕ) (s : ChipState W) → slice_get starts k ≡ Some s → (c : ChipRun W) × (slice_get course.chips k ≡ Some c)
      × (c.chip.geometry ≡ s.geometry)
  chip_stays k s h = let log = log_of model boot starts course holds in by_places log.0 (slice_get starts k) (slice_get course.chips k) h refl (log.2 k)
    where
      by_places : (log : Log) (os : Option (ChipState W)) (oc : Option (ChipRun W)) → os ≡ Some s → slice_get course.chips k ≡ oc
          → AtPlace (EndOf model boot starts (by_log model boot starts log) k) (notes_of_chip boot.partitions k course.notes) os oc
          → (c : ChipRun W) × (slice_get course.chips k ≡ Some c) × (c.chip.geometry ≡ s.geometry)
      by_places log None oc e f a = cc
      by_places log (Some t) None e f a = absurd a
      by_places log (Some t) (Some c) e f a =
          let same : t ≡ s = cc in (
            c,
            f,
            ap (λ (x : ChipState W). x.geometry) a.now_is ∙ geometry_after model t (events_in (by_log model boot starts log k t))
                ∙ ap (λ (x : ChipState W). x.geometry) same,
          )

  -- a command with its device and its chip
  pub record Ready (command : Command) : Type 0 where
    pub part : Part
    pub part_is : part_of boot.partitions (command_device command) ≡ Some part
    pub start : ChipState W
    pub start_at : slice_get starts part.chip ≡ Some start
    pub within : LiesWithin start.geometry.blocks part
    pub run : ChipRun W
    pub run_at : slice_get course.chips part.chip ≡ Some run
    pub same_sizes : run.chip.geometry ≡ start.geometry
    pub sizes_are : sizes_of boot starts command ≡ start.geometry
    pub can : Fits (sizes_of boot starts command) command

  -- each command of a boot that can be started is such a one
  pub ready : CanStart boot starts → (i n : ℕ) (own : ℕ × List Command) (command : Command) → slice_get boot.sessions i ≡ Some own → slice_get own.1 n
      ≡ Some command → Ready command
  ready start i n own command h g =
      let device = all_at (IsOfDevice boot.partitions) own.1 n command (all_at (λ (s : ℕ × List Command). All (IsOfDevice boot.partitions) s.1) boot.sessions
      i own start.devices h) g in
      let can = all_at (λ c. Fits (sizes_of boot starts c) c) own.1 n command (all_at
      (λ (s : ℕ × List Command). All (λ c. Fits (sizes_of boot starts c) c) s.1) boot.sessions i own start.runnable h) g in
      let place = part_at boot.partitions (command_device command) device.0 device.1 in
      let chip = all_at (IsOnChip starts) boot.partitions.parts place.0 device.0 start.parts place.1 in
      let stays = chip_stays device.0.chip chip.0 chip.1 in
      record {
        part = device.0;
        part_is = device.1;
        start = chip.0;
        start_at = chip.1;
        within = chip.2;
        run = stays.0;
        run_at = stays.1;
        same_sizes = stays.2;
        sizes_are = ap (λ o. geometry_of_chip (map (λ (c : ChipState W). c.geometry) starts) (chip_of_part o)) device.1
            ∙ get_or_from_slice_get (map (λ (c : ChipState W). c.geometry) starts) device.0.chip chip.0.geometry small_chip
            (slice_get-map (λ (c : ChipState W). c.geometry) starts device.0.chip ∙ ap (λ (o : Option (ChipState W)). option_map
            (λ (c : ChipState W). c.geometry) o) chip.1);
        can = can;
      }

-- the first of the commands after some others
pub first_at : (n : ℕ) (xs : List Command) (command : Command) (rest : List Command) → drop n xs ≡ command ∷ rest → slice_get xs n ≡ Some command
first_at zero [] command rest h = cc
first_at zero (x ∷ xs) command rest h = cc
first_at (suc n) [] command rest h = cc
first_at (suc n) (x ∷ xs) command rest h = first_at n xs command rest h

-- what holds of all holds of those after some others
pub drop_all : {A : Type 0} (P : A → Type 0) (n : ℕ) (xs : List A) → All P xs → All P (drop n xs)
drop_all P n xs all k d h =
    subst P (sym (get_or-drop n xs k d)) (all (n + k) d (omega (arith, length-drop n xs, h)))

-- commands that are not over ask for an operation
asks : (sizes : Command → Geometry) (command : Command) (rest : List Command) (replies : List Reply) (script : Option Script) → Fits (sizes command) command
    → (IsBetween script → asks_something command ≡ true) → IsUnderWay sizes (command ∷ rest) replies script
    → (op : Op) × (next_op_of sizes (command ∷ rest) replies ≡ Some op)
asks sizes command rest replies None can asking goes =
    let n = an_op (next_step (sizes command) command []) (asks_first (sizes command) command can (asking tt)) in
    (n.0, ap (λ rs. op_of_next (next_step (sizes command) command rs)) goes ∙ ap op_of_next n.1)
asks sizes command rest replies (Some (End outcome)) can asking goes =
    let n = an_op (next_step (sizes command) command []) (asks_first (sizes command) command can (asking tt)) in
    (n.0, ap (λ rs. op_of_next (next_step (sizes command) command rs)) goes ∙ ap op_of_next n.1)
asks sizes command rest replies (Some (Ask op go_on)) can asking goes = (op, ap (λ s. op_of_next (next_in s)) (sym goes))

-- a session's next operation, by its commands that are left
pub next_of : (sizes : Command → Geometry) (commands : List Command) (notes : List Note) (s : Session) (run : SessionRun) → Mirrors sizes commands notes s run
    → (command : Command) (rest : List Command) → run.commands ≡ command ∷ rest → Fits (sizes command) command
    → (op : Op) × (next_op_of sizes run.commands run.replies ≡ Some op)
next_of sizes commands notes s run m command rest h can =
    let a = asks sizes command rest run.replies (standing notes s).script can
    (λ between. next_asks commands (standing notes s) command rest between (sym m.shows.left ∙ h))
    (subst (λ cs. IsUnderWay sizes cs run.replies (standing notes s).script) h m.shows.goes_on) in
    (a.0, ap (λ cs. next_op_of sizes cs run.replies) h ∙ a.1)
