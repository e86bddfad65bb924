-- The invariant of courses.
use Rattle.std.proofs.Common.{◌≡◌, ◌⊎◌, inl, inr, ℕ, ◌<◌, length, true, false, List, [], ◌∷◌, ◌++◌, map, Option, Some, None, refl, ap, sym, ◌∙◌, subst, subst₂, append_assoc, append-nil}
use mathlib.Core.Path.{fun_ext}
use Rattle.std.specs.Prelude.{⊤, slice_get, option_map, fold, filter, ◌==◌, if◌then◌else◌}
use Rattle.std.proofs.lemmas.Bool.{cases_eq, eq-eqb, ne_eqb}
use Rattle.std.proofs.lemmas.Option.{none-some, same_Some}
use Rattle.nand_model.specs.declared.geometry.Geometry.{Geometry}
use Rattle.nand_model.specs.declared.words.Note.{Note}
use Rattle.nand_model.specs.declared.words.Op.{Op}
use Rattle.nand_model.specs.declared.words.Flip.{Flip}
use Rattle.nand_model.specs.Chip.{ChipState, FaultModel, ChipEvent, PageEvent, Flipped, flip_events}
use Rattle.nand_model.specs.Partitions.{Partitions}
use Rattle.chip_paths.specs.Operation.{Known, operation_path}
use Rattle.nand_model.specs.Sizes.{raw_len}
use Rattle.nand_model.specs.Path.{Answer, next_event}
use Rattle.chip_paths.specs.Attach.{attach_path}
use Rattle.chip_paths.specs.ChipRun.{ChipRun, Pending, next_event_by, next_chip_event, with_flips}
use Rattle.command_model.specs.Boot.{Boot, change_at}
use Rattle.run_model.specs.Course.{Course, sizes_of, with_flip, with_flips_before}
use Rattle.command_model.specs.Session.{SessionRun}
use Rattle.run_model.specs.Log.{Log, flips_of, due_events, befalls}
use Rattle.run_model.specs.History.{notes_of_chip, AreOfChips}
use Rattle.run_laws.proofs.Traces.{geometry_after}
use Rattle.run_laws.proofs.ChipNotes.{lasts, AreOf, chip_notes-append}
use Rattle.run_laws.proofs.Places.{change_here, change_elsewhere}
use Rattle.run_laws.proofs.Life.{ChipLaw, ChipEnd}
use Rattle.run_laws.proofs.ChipSteps.{flip_all, chip_end_at}
use Rattle.run_laws.proofs.Sessions.{SessionLaw, nowhere}

-- both lists have a chip at this place, and P holds of it, or neither has one
abbrev pub AtPlace : {W : Type 0} → (ChipState W → ChipRun W → List Note → Type 0) → List Note → Option (ChipState W) → Option (ChipRun W) → Type 0
AtPlace P notes None None = ⊤
AtPlace P notes (Some s) (Some c) = P s c notes
AtPlace P notes None (Some c) = ⊥
AtPlace P notes (Some s) None = ⊥

pub place_mapped : {W : Type 0} (P Q : ChipState W → ChipRun W → List Note → Type 0) (notes : List Note) (os : Option (ChipState W)) (oc : Option (ChipRun W)) (f : ChipRun W → ChipRun W)
    → ((s : ChipState W) (c : ChipRun W) → P s c notes → Q s (f c) notes) → AtPlace P notes os oc → AtPlace Q notes os (option_map f oc)
place_mapped P Q notes None None f h a = tt
place_mapped P Q notes (Some s) (Some c) f h a = h s c a
place_mapped P Q notes None (Some c) f h a = absurd a
place_mapped P Q notes (Some s) None f h a = absurd a

pub place_weaker : {W : Type 0} (P Q : ChipState W → ChipRun W → List Note → Type 0) (notes : List Note) (os : Option (ChipState W)) (oc : Option (ChipRun W))
    → ((s : ChipState W) (c : ChipRun W) → P s c notes → Q s c notes) → AtPlace P notes os oc → AtPlace Q notes os oc
place_weaker P Q notes None None h a = tt
place_weaker P Q notes (Some s) (Some c) h a = h s c a
place_weaker P Q notes None (Some c) h a = absurd a
place_weaker P Q notes (Some s) None h a = absurd a

-- the chip there, from the one in the course
pub place_start : {W : Type 0} (P : ChipState W → ChipRun W → List Note → Type 0) (notes : List Note) (os : Option (ChipState W)) (oc : Option (ChipRun W)) (c : ChipRun W)
    → oc ≡ Some c → AtPlace P notes os oc → (s : ChipState W) × (os ≡ Some s) × P s c notes
place_start P notes None None c e a = absurd (none-some c e)
place_start P notes (Some s) (Some d) c e a = (s, refl, subst (λ x. P s x notes) (same_Some d c e) a)
place_start P notes None (Some d) c e a = absurd a
place_start P notes (Some s) None c e a = absurd a

-- which session has which operation pending
abbrev pub asked_by : Option Pending → Option (ℕ × Op)
asked_by None = None
asked_by (Some pending) = Some (pending.session, pending.op)

abbrev pub asked_on : {W : Type 0} → Option (ChipRun W) → Option (ℕ × Op)
asked_on None = None
asked_on (Some c) = asked_by c.pending

abbrev pub asked_at : {W : Type 0} → List (ChipRun W) → ℕ → Option (ℕ × Op)
asked_at chips k = asked_on (slice_get chips k)

-- what a flip does not change
pub record Rest : Type 0 where
  pub known : Option Known
  pub pending : Option Pending
  pub geometry : Geometry
  pub answers : List Answer

abbrev pub rest : {W : Type 0} → ChipRun W → Rest
rest c = record { known = c.known; pending = c.pending; geometry = c.chip.geometry; answers = c.attach_answers }

abbrev pub rest_of : {W : Type 0} → Option (ChipRun W) → Option Rest
rest_of None = None
rest_of (Some c) = Some (rest c)

abbrev rest_asked : Option Rest → Option (ℕ × Op)
rest_asked None = None
rest_asked (Some r) = asked_by r.pending

asked_rest : {W : Type 0} (o : Option (ChipRun W)) → asked_on o ≡ rest_asked (rest_of o)
asked_rest None = refl
asked_rest (Some c) = refl

abbrev next_by_rest : Partitions → Geometry → List Answer → Option Known → Option Pending → Option PageEvent
next_by_rest partitions g answers None pending = next_event (attach_path g) answers
next_by_rest partitions g answers (Some known) None = None
next_by_rest partitions g answers (Some known) (Some pending) = next_event (operation_path g partitions known pending.op) pending.answers

next_is_by_rest : {W : Type 0} (partitions : Partitions) (s : ChipState W) (answers : List Answer) (known : Option Known) (pending : Option Pending)
    → next_event_by partitions s answers known pending ≡ next_by_rest partitions s.geometry answers known pending
next_is_by_rest partitions s answers None pending = refl
next_is_by_rest partitions s answers (Some known) None = refl
next_is_by_rest partitions s answers (Some known) (Some pending) = refl

-- chips with the same rest have the same next event
pub same_next : {W : Type 0} (partitions : Partitions) (c d : ChipRun W) → rest c ≡ rest d → next_chip_event partitions c ≡ next_chip_event partitions d
same_next partitions c d e = next_is_by_rest partitions c.chip c.attach_answers c.known c.pending
    ∙ ap (λ (r : Rest). next_by_rest partitions r.geometry r.answers r.known r.pending) e
    ∙ sym (next_is_by_rest partitions d.chip d.attach_answers d.known d.pending)

rest_mapped : {W : Type 0} (f : ChipRun W → ChipRun W) (o : Option (ChipRun W)) → ((c : ChipRun W) → rest_of (Some (f c)) ≡ rest_of (Some c)) → rest_of (option_map f o) ≡ rest_of o
rest_mapped f None h = refl
rest_mapped f (Some c) h = h c

module _ {W : Type 0} (model : FaultModel W) (boot : Boot) (starts : List (ChipState W)) where
  abbrev pub ChipsHold : (ℕ → ChipState W → ChipRun W → List Note → Type 0) → List (ChipRun W) → List Note → Type 0
  ChipsHold P chips notes = (k : ℕ) → AtPlace (P k) (notes_of_chip boot.partitions k notes) (slice_get starts k) (slice_get chips k)

  abbrev pub SessionsHold : List (ChipRun W) → List SessionRun → List Note → Type 0
  SessionsHold chips sessions notes = (n : ℕ) → SessionLaw boot.partitions (sizes_of boot starts) boot.sessions n (asked_at chips) sessions notes

  -- what befell each chip, by its place and its start
  abbrev pub Befallen : Type 0
  Befallen = ℕ → ChipState W → List (ℕ × ChipEvent)

  abbrev pub LawOf : Befallen → ℕ → ChipState W → ChipRun W → List Note → Type 0
  LawOf w k s c notes = ChipLaw model boot.partitions k s c notes (w k s)

  abbrev pub EndOf : Befallen → ℕ → ChipState W → ChipRun W → List Note → Type 0
  EndOf w k s c notes = ChipEnd model boot.partitions k s c.chip c.quiet notes (w k s)

  -- what befell each chip by a log
  abbrev pub by_log : Log → Befallen
  by_log log k s = befalls boot k (raw_len s.geometry) 1 log

  abbrev pub with_due : ℕ → Befallen → Befallen
  with_due n w k s = w k s ++ due_events boot k n

  -- a log of a course so far
  pub record IsLog (course : Course W) (log : Log) : Type 0 where
    pub counted : course.events ≡ length log
    pub on_chips : (n : ℕ) (x : ℕ × PageEvent) → slice_get log n ≡ Some x → x.0 < length starts

  -- a course that is not dark
  pub record IsLive (course : Course W) : Type 0 where
    pub lit : course.dark ≡ false
    pub log : Log
    pub is_log : IsLog course log
    pub chips : ChipsHold (LawOf (by_log log)) course.chips course.notes
    pub sessions : SessionsHold course.chips course.sessions course.notes
    pub of_chips : AreOfChips boot.partitions (length starts) nowhere course.notes

  -- a course that a cut ended
  pub record IsCut (course : Course W) : Type 0 where
    pub dark : course.dark ≡ true
    pub log : Log
    pub is_log : IsLog course log
    pub chips : ChipsHold (EndOf (by_log log)) course.chips course.notes
    pub sessions : SessionsHold course.chips course.sessions course.notes
    pub of_chips : AreOfChips boot.partitions (length starts) nowhere course.notes

  abbrev pub Holds : Course W → Type 0
  Holds course = IsLive course ⊎ IsCut course

  pub live_ends : (w : Befallen) (chips : List (ChipRun W)) (notes : List Note) → ChipsHold (LawOf w) chips notes → ChipsHold (EndOf w) chips notes
  live_ends w chips notes h k = place_weaker (LawOf w k) (EndOf w k) (notes_of_chip boot.partitions k notes) (slice_get starts k) (slice_get chips k)
      (λ s c a. chip_end_at model boot.partitions k s c (notes_of_chip boot.partitions k notes) (w k s) c.known c.pending a) (h k)

  -- chip k and its notes change, and nothing of the others but what is said of them
  pub place_update : (P Q : ℕ → ChipState W → ChipRun W → List Note → Type 0) (k : ℕ) (chips : List (ChipRun W)) (notes new : List Note) (f : ChipRun W → ChipRun W)
      → ChipsHold P chips notes → AreOf boot.partitions (lasts boot.partitions nowhere notes) k new
      → ((s : ChipState W) (c : ChipRun W) → slice_get starts k ≡ Some s → slice_get chips k ≡ Some c → P k s c (notes_of_chip boot.partitions k notes) → Q k s (f c) (notes_of_chip boot.partitions k notes ++ new))
      → ((j : ℕ) → (k ≡ j → ⊥) → (s : ChipState W) (c : ChipRun W) → P j s c (notes_of_chip boot.partitions j notes) → Q j s c (notes_of_chip boot.partitions j notes))
      → ChipsHold Q (change_at chips k f) (notes ++ new)
  place_update P Q k chips notes new f h o law other j = by_case (cases_eq k j)
    where
      here : (x : Option (ChipRun W)) → slice_get chips k ≡ x → (y : Option (ChipState W)) → slice_get starts k ≡ y → AtPlace (P k) (notes_of_chip boot.partitions k notes) y x → AtPlace (Q k) (notes_of_chip boot.partitions k notes ++ new) y (option_map f x)
      here None e None w a = tt
      here None e (Some s) w a = absurd a
      here (Some c) e None w a = absurd a
      here (Some c) e (Some s) w a = law s c w e a

      by_case : (k ≡ j) ⊎ (k ≡ j → ⊥) → AtPlace (Q j) (notes_of_chip boot.partitions j (notes ++ new)) (slice_get starts j) (slice_get (change_at chips k f) j)
      by_case (inl e) = subst (λ i. AtPlace (Q i) (notes_of_chip boot.partitions i (notes ++ new)) (slice_get starts i) (slice_get (change_at chips k f) i)) e
          (subst₂ (λ ns x. AtPlace (Q k) ns (slice_get starts k) x)
          (sym (chip_notes-append boot.partitions nowhere k notes new ∙ ap (λ zs. notes_of_chip boot.partitions k notes ++ zs) o.here)) (sym (change_here chips k f))
          (here (slice_get chips k) refl (slice_get starts k) refl (h k)))
      by_case (inr d) = subst₂ (λ ns x. AtPlace (Q j) ns (slice_get starts j) x)
          (sym (chip_notes-append boot.partitions nowhere j notes new ∙ ap (λ zs. notes_of_chip boot.partitions j notes ++ zs) (o.elsewhere j d) ∙ append-nil _)) (sym (change_elsewhere chips k j f d))
          (place_weaker (P j) (Q j) (notes_of_chip boot.partitions j notes) (slice_get starts j) (slice_get chips j) (other j d) (h j))

  -- one flip, before event n
  abbrev flip_chip : Flip → ChipRun W → ChipRun W
  flip_chip flip c = with_flips model c flip.page flip.bits

  abbrev own_flips : ℕ → Flip → ℕ → List (ℕ × ChipEvent)
  own_flips n flip k = if flip.chip == k then map (λ bit. (n, Flipped flip.page bit)) flip.bits else []

  flip_holds : (n : ℕ) (w : Befallen) (chips : List (ChipRun W)) (notes : List Note) (flip : Flip) → ChipsHold (LawOf w) chips notes
      → ChipsHold (LawOf (λ k s. w k s ++ own_flips n flip k)) (with_flip model boot chips flip) notes
  flip_holds n w chips notes flip h j = by_case (cases_eq flip.chip j)
    where
      by_case : (flip.chip ≡ j) ⊎ (flip.chip ≡ j → ⊥) → AtPlace (LawOf (λ k s. w k s ++ own_flips n flip k) j) (notes_of_chip boot.partitions j notes) (slice_get starts j) (slice_get (change_at chips flip.chip (flip_chip flip)) j)
      by_case (inl e) = subst (λ x. AtPlace (LawOf (λ k s. w k s ++ own_flips n flip k) j) (notes_of_chip boot.partitions j notes) (slice_get starts j) x)
          (sym (ap (λ i. slice_get (change_at chips i (flip_chip flip)) j) e ∙ change_here chips j (flip_chip flip)))
          (place_mapped (LawOf w j) (LawOf (λ k s. w k s ++ own_flips n flip k) j) (notes_of_chip boot.partitions j notes) (slice_get starts j) (slice_get chips j) (flip_chip flip)
          (λ s c a. subst (λ b. ChipLaw model boot.partitions j s (flip_chip flip c) (notes_of_chip boot.partitions j notes) (w j s ++ (if b then map (λ bit. (n, Flipped flip.page bit)) flip.bits else []))) (sym (eq-eqb _ _ e))
          (flip_all model boot.partitions j s c (notes_of_chip boot.partitions j notes) (w j s) n flip.page flip.bits a)) (h j))
      by_case (inr d) = subst (λ x. AtPlace (LawOf (λ k s. w k s ++ own_flips n flip k) j) (notes_of_chip boot.partitions j notes) (slice_get starts j) x) (sym (change_elsewhere chips flip.chip j (flip_chip flip) d))
          (place_weaker (LawOf w j) (LawOf (λ k s. w k s ++ own_flips n flip k) j) (notes_of_chip boot.partitions j notes) (slice_get starts j) (slice_get chips j)
          (λ s c a. subst (λ zs. ChipLaw model boot.partitions j s c (notes_of_chip boot.partitions j notes) zs) (sym (ap (λ b. w j s ++ (if b then map (λ bit. (n, Flipped flip.page bit)) flip.bits else [])) (ne_eqb _ _ d) ∙ append-nil _)) a) (h j))

  flip_rest : (chips : List (ChipRun W)) (flip : Flip) (j : ℕ) → rest_of (slice_get (with_flip model boot chips flip) j) ≡ rest_of (slice_get chips j)
  flip_rest chips flip j = by_case (cases_eq flip.chip j)
    where
      by_case : (flip.chip ≡ j) ⊎ (flip.chip ≡ j → ⊥) → rest_of (slice_get (change_at chips flip.chip (flip_chip flip)) j) ≡ rest_of (slice_get chips j)
      by_case (inl e) = ap (λ i. rest_of (slice_get (change_at chips i (flip_chip flip)) j)) e ∙ ap rest_of (change_here chips j (flip_chip flip))
          ∙ rest_mapped (flip_chip flip) (slice_get chips j) (λ c. ap (λ g. Some (record { known = c.known; pending = c.pending; geometry = g; answers = c.attach_answers })) (geometry_after model c.chip (flip_events flip.page flip.bits)))
      by_case (inr d) = ap rest_of (change_elsewhere chips flip.chip j (flip_chip flip) d)

  flips_hold : (n : ℕ) (flips : List Flip) (w : Befallen) (chips : List (ChipRun W)) (notes : List Note) → ChipsHold (LawOf w) chips notes
      → ChipsHold (LawOf (λ k s. w k s ++ flips_of k n flips)) (fold (with_flip model boot) chips flips) notes
  flips_hold n [] w chips notes h j = place_weaker (LawOf w j) (LawOf (λ k s. w k s ++ []) j) (notes_of_chip boot.partitions j notes) (slice_get starts j) (slice_get chips j)
      (λ s c a. subst (λ zs. ChipLaw model boot.partitions j s c (notes_of_chip boot.partitions j notes) zs) (sym (append-nil (w j s))) a) (h j)
  flips_hold n (flip ∷ flips) w chips notes h j =
      place_weaker (LawOf (λ k s. w k s ++ own_flips n flip k ++ flips_of k n flips) j) (LawOf (λ k s. w k s ++ flips_of k n (flip ∷ flips)) j) (notes_of_chip boot.partitions j notes) (slice_get starts j)
      (slice_get (fold (with_flip model boot) (with_flip model boot chips flip) flips) j)
      (λ s c a. subst (λ zs. ChipLaw model boot.partitions j s c (notes_of_chip boot.partitions j notes) zs) (append_assoc (w j s) _ _) a)
      (flips_hold n flips (λ k s. w k s ++ own_flips n flip k) (with_flip model boot chips flip) notes (flip_holds n w chips notes flip h) j)

  flips_rest : (chips : List (ChipRun W)) (flips : List Flip) (j : ℕ) → rest_of (slice_get (fold (with_flip model boot) chips flips) j) ≡ rest_of (slice_get chips j)
  flips_rest chips [] j = refl
  flips_rest chips (flip ∷ flips) j = flips_rest (with_flip model boot chips flip) flips j ∙ flip_rest chips flip j

  -- the flips that are due before an event
  pub due_hold : (n : ℕ) (w : Befallen) (chips : List (ChipRun W)) (notes : List Note) → ChipsHold (LawOf w) chips notes → ChipsHold (LawOf (with_due n w)) (with_flips_before model boot n chips) notes
  due_hold n w chips notes h = flips_hold n (filter (λ (flip : Flip). flip.before == n) boot.flips) w chips notes h

  pub due_rest : (chips : List (ChipRun W)) (n j : ℕ) → rest_of (slice_get (with_flips_before model boot n chips) j) ≡ rest_of (slice_get chips j)
  due_rest chips n j = flips_rest chips (filter (λ (flip : Flip). flip.before == n) boot.flips) j

  pub due_asked : (chips : List (ChipRun W)) (n : ℕ) → asked_at (with_flips_before model boot n chips) ≡ asked_at chips
  due_asked chips n = fun_ext (λ j. asked_rest _ ∙ ap rest_asked (due_rest chips n j) ∙ sym (asked_rest _))

  -- chip k changes, and which operation is pending there stays
  pub same_asked : (chips : List (ChipRun W)) (k : ℕ) (f : ChipRun W → ChipRun W) → ((c : ChipRun W) → slice_get chips k ≡ Some c → asked_by (f c).pending ≡ asked_by c.pending) → asked_at (change_at chips k f) ≡ asked_at chips
  same_asked chips k f h = fun_ext (λ j. by_case j (cases_eq k j))
    where
      here : (x : Option (ChipRun W)) → slice_get chips k ≡ x → asked_on (option_map f x) ≡ asked_on x
      here None e = refl
      here (Some c) e = h c e

      by_case : (j : ℕ) → (k ≡ j) ⊎ (k ≡ j → ⊥) → asked_on (slice_get (change_at chips k f) j) ≡ asked_on (slice_get chips j)
      by_case j (inl e) = subst (λ i. asked_on (slice_get (change_at chips k f) i) ≡ asked_on (slice_get chips i)) e (ap asked_on (change_here chips k f) ∙ here (slice_get chips k) refl)
      by_case j (inr d) = ap asked_on (change_elsewhere chips k j f d)
