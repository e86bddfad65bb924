-- Cycles one after another: what they come to, and that they come to one thing alone.
use Rattle.std.proofs.Common.{◌≡◌, ◌∙◌, ℕ, suc, ◌+◌, List, [], ◌∷◌, ◌++◌, Option, Some, None, length, map, take, drop, refl, sym, ap, subst, arith, append_assoc, add-one}
use Rattle.std.proofs.Math.Seq.{take-append-add}
use Rattle.std.proofs.lemmas.Grind.{flat_map-append}
use Rattle.std.proofs.lemmas.List.{append-nil, map-append, take-append-drop, take-map}
use Rattle.std.proofs.lemmas.List.Sums.{fold_push}
use Rattle.std.proofs.lemmas.Option.{some_pair_parts}
use Rattle.std.specs.Option.{option_to_list}
use Rattle.nand_model.specs.Chip.{ChipState, FaultModel}
use Rattle.nand_model.specs.declared.geometry.Geometry.{Geometry}
use Rattle.onfi_bus.specs.Device.{Device, after_act, answer}
use Rattle.onfi_bus.specs.Moves.{Move, step_of}
use Rattle.onfi_bus.specs.Phrases.{Beat, IsLegal, Leads, Phrases}
use Rattle.onfi_bus.specs.Runs.{AreLegal, HaveRun, IsFirstIllegal, after_beats, bytes_of, cycles_of, event_of, events_of, new_device}
use Rattle.onfi_bus.specs.declared.cycle.BusEvent.{BusEvent}
use Rattle.onfi_bus.specs.declared.cycle.Cycle.{Cycle}
use Rattle.onfi_bus.specs.declared.phase.Act.{Act}
use Rattle.onfi_bus.specs.declared.phase.Phase.{Phase}
use Rattle.onfi_bus.specs.declared.phase.Phase.TheVariants.{Idle}
use Rattle.onfi_bus.proofs.Going.{taken_legal}
use Rattle.onfi_bus.proofs.Taking.{Leads-append, legal_taken}

head_same : (x y : Cycle) (xs ys : List Cycle) → x ∷ xs ≡ y ∷ ys → x ≡ y
head_same x y xs ys e = cc e

tail_same : (x y : Cycle) (xs ys : List Cycle) → x ∷ xs ≡ y ∷ ys → xs ≡ ys
tail_same x y xs ys e = cc e

nothing_follows : (x : Cycle) (xs : List Cycle) → x ∷ xs ≡ [] → ⊥
nothing_follows x xs e = cc e

module _ (g : Geometry) where
  -- two ways by the same first cycle
  same_step : (from : Phase) (x y : Cycle) (n m : Phase) (a b : Act) → x ≡ y → step_of g from x ≡ Some (n, a) →
      step_of g from y ≡ Some (m, b) → (n ≡ m) × (a ≡ b)
  same_step from x y n m a b e f h = some_pair_parts n m a b (sym f ∙ ap (step_of g from) e ∙ h)

  -- cycles lead one way alone
  pub ways_same : (xs ys : List Beat) (from a b : Phase) → Leads g from xs a → Leads g from ys b →
      cycles_of xs ≡ cycles_of ys → xs ≡ ys
  ways_same [] [] from a b r s e = refl
  ways_same [] (y ∷ ys) from a b r s e = absurd (nothing_follows y.0 (cycles_of ys) (sym e))
  ways_same (x ∷ xs) [] from a b r s e = absurd (nothing_follows x.0 (cycles_of xs) e)
  ways_same (x ∷ xs) (y ∷ ys) from a b (n, f, r) (m, h, s) e =
      let cycle = head_same x.0 y.0 (cycles_of xs) (cycles_of ys) e in
      let same = same_step from x.0 y.0 n m x.1 y.1 cycle f h in
      let rest = ways_same xs ys n a b r (subst (λ (p : Phase). Leads g p ys b) (sym same.0) s)
      (tail_same x.0 y.0 (cycles_of xs) (cycles_of ys) e) in
      both_same x y xs ys cycle same.1 rest
    where
      both_same : (x y : Beat) (xs ys : List Beat) → x.0 ≡ y.0 → x.1 ≡ y.1 → xs ≡ ys → x ∷ xs ≡ y ∷ ys
      both_same (c, k) (d, l) xs ys e f h =
          ap (λ (z : Cycle). (z, k) ∷ xs) e ∙ ap (λ (z : Act). (d, z) ∷ xs) f ∙ ap (λ zs. (d, l) ∷ zs) h

  -- cycles that begin whole phrases do one thing alone
  pub one_meaning : (one other : List Beat) → IsLegal g one → IsLegal g other → cycles_of one ≡ cycles_of other → one ≡ other
  one_meaning one other legal also e =
      let r = legal_taken g one legal in
      let s = legal_taken g other also in
      ways_same one other Idle r.0 s.0 r.1 s.1 e

  -- no way goes on with a cycle that leads nowhere
  pub none_further : (done list : List Beat) (cycle : Cycle) (later : List Cycle) (from phase end : Phase) →
      Leads g from done phase → step_of g phase cycle ≡ None → Leads g from list end →
      cycles_of list ≡ cycles_of done ++ cycle ∷ later → ⊥
  none_further [] [] cycle later from phase end r none s e = nothing_follows cycle later (sym e)
  none_further [] (b ∷ bs) cycle later from phase end r none (n, f, s) e =
      let c = head_same b.0 cycle (cycles_of bs) later e in
      let here : step_of g from cycle ≡ Some (n, b.1) = sym (ap (step_of g from) c) ∙ f in
      let nowhere : step_of g from cycle ≡ None = ap (λ (p : Phase). step_of g p cycle) r ∙ none in
      cc (here, nowhere)
  none_further (d ∷ ds) [] cycle later from phase end r none s e =
      nothing_follows d.0 (cycles_of ds ++ cycle ∷ later) (sym e)
  none_further (d ∷ ds) (b ∷ bs) cycle later from phase end (m, h, r) none (n, f, s) e =
      let c = head_same b.0 d.0 (cycles_of bs) (cycles_of ds ++ cycle ∷ later) e in
      let same = same_step from b.0 d.0 n m b.1 d.1 c f h in
      none_further ds bs cycle later m phase end r none (subst (λ (p : Phase). Leads g p bs end) same.0 s)
      (tail_same b.0 d.0 (cycles_of bs) (cycles_of ds ++ cycle ∷ later) e)

  -- cycles that lead to a phase, and one that leads nowhere from there
  pub stops : (done : List Beat) (cycle : Cycle) (phase : Phase) → Leads g Idle done phase → step_of g phase cycle ≡ None →
      AreLegal g (cycles_of done ++ cycle ∷ []) → ⊥
  stops done cycle phase r none (list, are, legal) =
      let s = legal_taken g list legal in
      none_further done list cycle [] Idle phase s.0 r none s.1 are

  -- the first ones of legal cycles are legal
  first_legal : (list : List Beat) (n : ℕ) → IsLegal g list → IsLegal g (take n list)
  first_legal list n (more, phrases) = (
    drop n list ++ more,
    subst (λ (l : List Beat). Phrases g l)
        (sym (sym (append_assoc (take n list) (drop n list) more) ∙ ap (λ (l : List Beat). l ++ more) (take-append-drop n list))) phrases,
  )

  pub legal_before : (before : List Cycle) (cycle : Cycle) (later : List Cycle) → AreLegal g (before ++ cycle ∷ later) →
      AreLegal g (before ++ cycle ∷ [])
  legal_before before cycle later (list, are, legal) = (
    take (length before + 1) list,
    sym (take-map (λ (beat : Beat). beat.0) (length before + 1) list) ∙ ap (take (length before + 1)) are
        ∙ take-append-add before (cycle ∷ later) 1,
    first_legal list (length before + 1) legal,
  )

  -- legal cycles have no first illegal one
  pub legal_or_not : (cycles : List Cycle) (n : ℕ) → AreLegal g cycles → IsFirstIllegal g cycles n → ⊥
  legal_or_not cycles n legal first =
      first.illegal (legal_before first.before first.cycle first.later (subst (AreLegal g) first.parts legal))

module _ {W : Type 0} (model : FaultModel W) where
  -- the bytes of one more cycle
  bytes_push : (d : Device W) (list : List Beat) (beat : Beat) →
      bytes_of model d (list ++ beat ∷ []) ≡ bytes_of model d list ++ option_to_list (answer (after_beats model d list) beat.1)
  bytes_push d [] beat = append-nil (option_to_list (answer d beat.1))
  bytes_push d (first ∷ list) beat =
      ap (λ bytes. option_to_list (answer d first.1) ++ bytes) (bytes_push (after_act model d first.1) list beat)
      ∙ sym (append_assoc (option_to_list (answer d first.1)) (bytes_of model (after_act model d first.1) list)
      (option_to_list (answer (after_beats model (after_act model d first.1) list) beat.1)))

  -- cycles so far, from a chip over whose bus nothing went: where they led, and what they came to
  pub record Going (old : ChipState W) (phase : Phase) (d : Device W) (cycles : List Cycle) (events : List BusEvent)
      (bytes : List ℕ) : Type 0 where
    pub list : List Beat
    pub cycles_are : cycles_of list ≡ cycles
    pub leads : Leads old.geometry Idle list phase
    pub device : d ≡ after_beats model (new_device old) list
    pub events_are : events ≡ events_of list
    pub bytes_are : bytes ≡ bytes_of model (new_device old) list

  pub going_begins : (old : ChipState W) → Going old Idle (new_device old) [] [] []
  going_begins old =
      record { list = []; cycles_are = refl; leads = refl; device = refl; events_are = refl; bytes_are = refl }

  -- one cycle more
  pub goes_on : (old : ChipState W) (phase next : Phase) (d : Device W) (cycles : List Cycle) (events : List BusEvent)
      (bytes : List ℕ) (cycle : Cycle) (act : Act) → Going old phase d cycles events bytes →
      step_of old.geometry phase cycle ≡ Some (next, act) →
      Going old next (after_act model d act) (cycles ++ cycle ∷ []) (events ++ option_to_list (event_of act))
      (bytes ++ option_to_list (answer d act))
  goes_on old phase next d cycles events bytes cycle act h step = record {
    list = h.list ++ (cycle, act) ∷ [];
    cycles_are = map-append (λ (beat : Beat). beat.0) h.list ((cycle, act) ∷ []) ∙ ap (λ cs. cs ++ cycle ∷ []) h.cycles_are;
    leads = Leads-append old.geometry h.list ((cycle, act) ∷ []) Idle phase next h.leads (next, step, refl);
    device = ap (λ (x : Device W). after_act model x act) h.device
        ∙ sym (fold_push (λ (so_far : Device W) (beat : Beat). after_act model so_far beat.1) (new_device old) h.list (cycle, act));
    events_are = ap (λ es. es ++ option_to_list (event_of act)) h.events_are
        ∙ sym (flat_map-append (λ (beat : Beat). option_to_list (event_of beat.1)) h.list ((cycle, act) ∷ [])
        ∙ ap (λ es. events_of h.list ++ es) (append-nil (option_to_list (event_of act))));
    bytes_are = ap (λ bs. bs ++ option_to_list (answer d act)) h.bytes_are
        ∙ ap (λ (x : Device W). bytes_of model (new_device old) h.list ++ option_to_list (answer x act)) h.device
        ∙ sym (bytes_push (new_device old) h.list (cycle, act));
  }

  -- all of them
  pub going_ends : (old new : ChipState W) (phase : Phase) (d : Device W) (cycles : List Cycle) (events : List BusEvent)
      (bytes : List ℕ) → Going old phase d cycles events bytes → new ≡ d.chip → HaveRun model old new cycles events bytes
  going_ends old new phase d cycles events bytes h chip = record {
    list = h.list;
    cycles_are = h.cycles_are;
    legal = taken_legal old.geometry h.list phase h.leads;
    events_are = h.events_are;
    bytes_are = h.bytes_are;
    chip_is = chip ∙ ap (λ (x : Device W). x.chip) h.device;
  }

  -- the next one leads nowhere
  pub going_stops : (old : ChipState W) (phase : Phase) (d : Device W) (before later : List Cycle) (cycle : Cycle)
      (events : List BusEvent) (bytes : List ℕ) → Going old phase d before events bytes →
      step_of old.geometry phase cycle ≡ None →
      IsFirstIllegal old.geometry (before ++ cycle ∷ later) (length before + 1)
  going_stops old phase d before later cycle events bytes h none = record {
    before = before;
    cycle = cycle;
    later = later;
    parts = refl;
    number = refl;
    legal = (h.list, h.cycles_are, taken_legal old.geometry h.list phase h.leads);
    illegal = subst (λ cs. AreLegal old.geometry (cs ++ cycle ∷ []) → ⊥) h.cycles_are
        (stops old.geometry h.list cycle phase h.leads none);
  }
