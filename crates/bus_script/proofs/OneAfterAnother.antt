-- One cycle after another at a chip.
use Rattle.std.proofs.Common.{◌≡◌, ◌∙◌, ℕ, suc, ◌+◌, ◌<◌, List, [], ◌∷◌, ◌++◌, Option, Some, None, Result, Ok, Err, drop-cons, get_or, length, take, drop, refl, sym, ap, subst}
use Rattle.std.proofs.lemmas.List.{take-append-drop}
use Rattle.std.specs.Prelude.{◌↔◌, IfSome, IsErr, Bool, false, replicate}
use Rattle.std.specs.Option.{option_to_list}
use Rattle.nand_model.specs.Chip.{ChipState, FaultModel}
use Rattle.nand_model.specs.Sizes.{raw_len}
use Rattle.nand_model.specs.declared.geometry.Geometry.{Geometry}
use Rattle.onfi_bus.specs.Device.{Device, after_act, answer}
use Rattle.onfi_bus.specs.Moves.{Move, step_of}
use Rattle.onfi_bus.specs.Runs.{HaveRun, IsFirstIllegal, event_in, event_of, new_device}
use Rattle.onfi_bus.specs.State.{device_of, failed_of, move_of, phase_of, register_of, sizes_of}
use Rattle.onfi_bus.specs.declared.cycle.BusEvent.{BusEvent}
use Rattle.onfi_bus.specs.declared.cycle.Cycle.{Cycle}
use Rattle.onfi_bus.specs.declared.cycle.Illegal.{Illegal}
use Rattle.onfi_bus.specs.declared.phase.Act.{Act}
use Rattle.onfi_bus.specs.declared.phase.Phase.{Phase}
use Rattle.onfi_bus.specs.declared.phase.Phase.TheVariants.{Idle}
use Rattle.onfi_bus.specs.declared.state.BusState.{BusState}
use Rattle.onfi_bus.proofs.Runs.{Going, going_begins, going_ends, going_stops, goes_on}

module _ {W : Type 0} (model : FaultModel W) where
  -- the cycles so far led the bus and its chip from what they were at the start
  pub record SoFar (old now : ChipState W) (bus : BusState) (cycles : List Cycle) (events : List BusEvent)
      (bytes : List ℕ) : Type 0 where
    pub going : Going model old (phase_of bus) (device_of now bus) cycles events bytes
    pub sizes : sizes_of bus ≡ old.geometry
    pub chip_sizes : now.geometry ≡ old.geometry

  device_is : (now : ChipState W) (bus : BusState) (register : List ℕ) (failed : Bool) →
      register_of bus ≡ register → failed_of bus ≡ failed →
      device_of now bus ≡ record { chip = now; register = register; failed = failed }
  device_is now bus register failed e f =
      ap (λ bytes. record { chip = now; register = bytes; failed = failed_of bus }) e
      ∙ ap (λ b. record { chip = now; register = register; failed = b }) f

  -- no cycle yet
  pub nothing_yet : (old : ChipState W) (g : Geometry) (bus : BusState) (events : List BusEvent) (bytes : List ℕ) →
      g ≡ old.geometry → sizes_of bus ≡ g → phase_of bus ≡ Idle → register_of bus ≡ replicate (raw_len g) 0xff →
      failed_of bus ≡ false → events ≡ [] → bytes ≡ [] → SoFar old old bus [] events bytes
  nothing_yet old g bus events bytes same sizes phase register failed none empty = record {
    going = subst (λ (p : Phase). Going model old p (device_of old bus) [] events bytes) (sym phase)
        (subst (λ (d : Device W). Going model old Idle d [] events bytes)
        (sym (device_is old bus (replicate (raw_len old.geometry) 0xff) false
        (register ∙ ap (λ (x : Geometry). replicate (raw_len x) 0xff) same) failed))
        (subst (λ es. Going model old Idle (new_device old) [] es bytes) (sym none)
        (subst (λ bs. Going model old Idle (new_device old) [] [] bs) (sym empty) (going_begins model old))));
    sizes = sizes ∙ same;
    chip_sizes = refl;
  }

  -- what a cycle that leads on did
  record Did (before after : ChipState W) (old_bus new_bus : BusState) (cycle : Cycle) (events : List BusEvent)
      (byte : Option ℕ) : Type 0 where
    next : Phase
    act : Act
    step : step_of (sizes_of old_bus) (phase_of old_bus) cycle ≡ Some (next, act)
    phase : phase_of new_bus ≡ next
    device : device_of after new_bus ≡ after_act model (device_of before old_bus) act
    event : events ≡ option_to_list (event_of act)
    given : byte ≡ answer (device_of before old_bus) act

  no_error : (byte : Option ℕ) → IsErr {T = Option ℕ} {E = Illegal} (Ok byte) → ⊥
  no_error byte e = cc e

  ok_same : (a b : Option ℕ) → ◌≡◌ {A = Result (Option ℕ) Illegal} (Ok a) (Ok b) → a ≡ b
  ok_same a b e = cc e

  did : (before after : ChipState W) (old_bus new_bus : BusState) (cycle : Cycle) (move : Move) (byte : Option ℕ)
      (event : Option BusEvent) → move ≡ move_of old_bus cycle →
      IsErr {T = Option ℕ} {E = Illegal} (Ok byte) ↔ (move ≡ None) → IfSome move (λ m. phase_of new_bus ≡ m.0) →
      IfSome move (λ m. device_of after new_bus ≡ after_act model (device_of before old_bus) m.1) →
      IfSome move (λ m. ◌≡◌ {A = Result (Option ℕ) Illegal} (Ok byte) (Ok (answer (device_of before old_bus) m.1))) →
      event ≡ event_in move → Did before after old_bus new_bus cycle (option_to_list event) byte
  did before after old_bus new_bus cycle None byte event e illegal phase device given is =
      absurd (no_error byte (illegal.1 refl))
  did before after old_bus new_bus cycle (Some (next, act)) byte event e illegal phase device given is = record {
    next = next;
    act = act;
    step = sym e;
    phase = phase;
    device = device;
    event = ap option_to_list is;
    given = ok_same byte (answer (device_of before old_bus) act) given;
  }

  -- one cycle more
  pub one_more : (old before after : ChipState W) (old_bus new_bus : BusState) (cycles more : List Cycle) (cycle : Cycle)
      (byte : Option ℕ) (event : Option BusEvent) (events all_events : List BusEvent) (bytes all_bytes : List ℕ) →
      SoFar old before old_bus cycles events bytes → more ≡ cycles ++ cycle ∷ [] →
      IsErr {T = Option ℕ} {E = Illegal} (Ok byte) ↔ (move_of old_bus cycle ≡ None) →
      IfSome (move_of old_bus cycle) (λ m. phase_of new_bus ≡ m.0) →
      IfSome (move_of old_bus cycle) (λ m. device_of after new_bus ≡ after_act model (device_of before old_bus) m.1) →
      IfSome (move_of old_bus cycle) (λ m. ◌≡◌ {A = Result (Option ℕ) Illegal} (Ok byte) (Ok (answer (device_of before old_bus) m.1))) →
      event ≡ event_in (move_of old_bus cycle) → sizes_of new_bus ≡ sizes_of old_bus →
      after.geometry ≡ before.geometry → all_events ≡ events ++ option_to_list event →
      all_bytes ≡ bytes ++ option_to_list byte → SoFar old after new_bus more all_events all_bytes
  one_more old before after old_bus new_bus cycles more cycle byte event events all_events bytes all_bytes h longer
      illegal phase device given is sizes chip_sizes kept given_too =
      let d = did before after old_bus new_bus cycle (move_of old_bus cycle) byte event refl illegal phase device given is in
      let step : step_of old.geometry (phase_of old_bus) cycle ≡ Some (d.next, d.act) =
      ap (λ (g : Geometry). step_of g (phase_of old_bus) cycle) (sym h.sizes) ∙ d.step in
      let on = goes_on model old (phase_of old_bus) d.next (device_of before old_bus) cycles events bytes cycle d.act h.going step in
      let with_events : Going model old d.next (after_act model (device_of before old_bus) d.act) (cycles ++ cycle ∷ []) all_events (bytes ++ option_to_list (answer (device_of before old_bus) d.act)) =
      subst (λ es. Going model old d.next (after_act model (device_of before old_bus) d.act) (cycles ++ cycle ∷ []) es (bytes ++ option_to_list (answer (device_of before old_bus) d.act)))
      (sym (kept ∙ ap (λ es. events ++ es) d.event)) on in
      let with_bytes : Going model old d.next (after_act model (device_of before old_bus) d.act) (cycles ++ cycle ∷ []) all_events all_bytes =
      subst (λ bs. Going model old d.next (after_act model (device_of before old_bus) d.act) (cycles ++ cycle ∷ []) all_events bs)
      (sym (given_too ∙ ap (λ b. bytes ++ option_to_list b) d.given)) with_events in
      let with_cycles : Going model old d.next (after_act model (device_of before old_bus) d.act) more all_events all_bytes =
      subst (λ cs. Going model old d.next (after_act model (device_of before old_bus) d.act) cs all_events all_bytes) (sym longer) with_bytes in
      record {
        going = subst (λ (p : Phase). Going model old p (device_of after new_bus) more all_events all_bytes) (sym d.phase)
            (subst (λ (x : Device W). Going model old d.next x more all_events all_bytes) (sym d.device) with_cycles);
        sizes = sizes ∙ h.sizes;
        chip_sizes = chip_sizes ∙ h.chip_sizes;
      }

  -- all cycles
  pub all_done : (old now : ChipState W) (bus : BusState) (cycles : List Cycle) (events : List BusEvent) (bytes : List ℕ) →
      SoFar old now bus cycles events bytes → HaveRun model old now cycles events bytes
  all_done old now bus cycles events bytes h =
      going_ends model old now (phase_of bus) (device_of now bus) cycles events bytes h.going refl

  -- the next one is illegal
  pub is_stopped : (old now : ChipState W) (bus : BusState) (all before later : List Cycle) (cycle : Cycle)
      (events : List BusEvent) (bytes : List ℕ) (n : ℕ) → SoFar old now bus before events bytes →
      all ≡ before ++ cycle ∷ later → n ≡ length before + 1 → move_of bus cycle ≡ None →
      IsFirstIllegal old.geometry all n
  is_stopped old now bus all before later cycle events bytes n h parts number none =
      subst (λ cs. IsFirstIllegal old.geometry cs n) (sym parts)
      (subst (λ m. IsFirstIllegal old.geometry (before ++ cycle ∷ later) m) (sym number)
      (going_stops model old (phase_of bus) (device_of now bus) before later cycle events bytes h.going
      (ap (λ (g : Geometry). step_of g (phase_of bus) cycle) (sym h.sizes) ∙ none)))

-- the first cycles, one, and the others
pub parts_at : (cycles : List Cycle) (i : ℕ) (d : Cycle) → i < length cycles →
    cycles ≡ take i cycles ++ get_or cycles i d ∷ drop (suc i) cycles
parts_at cycles i d within =
    sym (take-append-drop i cycles) ∙ ap (λ cs. take i cycles ++ cs) (drop-cons cycles i d within)
