-- Chip k of a controller, from step to step of a course.
use Rattle.std.proofs.Common.{◌≡◌, ◌≢◌, ◌⊎◌, ◌≤◌, ℕ, zero, suc, ◌+◌, Bool, true, false, not, ◌&&◌, ◌||◌, ◌==◌, List, [], ◌∷◌, ◌++◌, refl, ap, sym, ◌∙◌, Option, Some, None, inl, inr, subst, arith}
use Rattle.std.specs.Prelude.{if◌then◌else◌, is_some, is_none, ⊤, slice_get, option_map, fold, filter}
use Rattle.std.proofs.lemmas.Bool.{false≢true, and_parts, cases_eq, eq-eqb}
use Rattle.std.proofs.lemmas.Option.{same_Some}
use Rattle.nand_model.specs.Chip.{ChipState, FaultModel, Complete, PowerCut, PageEvent, DoneBits, happens, done_bits}
use Rattle.nand_model.specs.Sizes.{raw_len}
use Rattle.chip_paths.specs.Operation.{Known, Finished}
use Rattle.nand_model.specs.Partitions.{device_of, chip_of}
use Rattle.chip_paths.specs.ChipRun.{ChipRun, Pending, next_chip_event, with_flips, advanced, torn_at, with_pending, with_finished, finished_by, notes_of_advance, notes_of_cut, attach_notes, answered_by, torn_by}
use Rattle.nand_model.specs.declared.geometry.Geometry.{Geometry}
use Rattle.nand_model.specs.declared.tear.Tear.{Tear}
use Rattle.nand_model.specs.declared.words.Command.{Command}
use Rattle.nand_model.specs.declared.words.Flip.{Flip}
use Rattle.nand_model.specs.declared.words.Note.{Note}
use Rattle.nand_model.specs.declared.words.Note.TheVariants.{Began, Answered, Attached, Torn}
use Rattle.nand_model.specs.declared.words.Op.{Op}
use Rattle.command_model.specs.Boot.{Boot, change_at}
use Rattle.run_model.specs.Course.{Course, sizes_of, with_flip, with_flips_before, event_done, event_on, event_or_answer, with_answer, finish, chip_step, began, begin_on, begin_at, begin_step, session_step, turn_unless, turn_step, attach_first, attach_step, attach_steps, turns_taken, course_after, start_of_boot, is_idle, unattached, pending_chip, session_run, can_begin}
use Rattle.nand_model.specs.Cuts.{tear_at}
use Rattle.command_model.specs.Session.{next_op}
use Rattle.run_model.specs.History.{notes_of_chip, notes_of_chip_from, is_chip}
use Rattle.run_model.specs.Run.{is_fair}
use Rattle.run_laws.proofs.ChipNotes.{chip_notes-append, lasts}
use Rattle.run_laws.proofs.Courses.{due_rest, same_next, rest_of, rest}
use Rattle.run_laws.proofs.Places.{change_here, change_elsewhere}
use Rattle.page_laws.specs.Keeping.{IsFairEvent}
use Rattle.crash_laws.specs.Marked.{WritesFill}
use Rattle.relocation_laws.proofs.MarkerTables.{AreFactoryBad}
use Rattle.crash_laws.proofs.ChipMoves.{Used, Later, Stands, StandsAt, flips_on, advance_on, cut_on, begin_on as begins_on, answer_on, darkened}
use Rattle.crash_laws.proofs.Fairness.{fair_parts, event_fair}
use Rattle.relocation_laws.specs.Tables.{IsTableBlock}
use Rattle.relocation_laws.proofs.Goes.{Setting}
use Rattle.nand_model.specs.Path.{answer_to}
use Rattle.run_model.specs.Survival.{WritesAPage}

pub fill_front : (g : Geometry) (xs ys : List Note) → WritesFill g (xs ++ ys) → WritesFill g xs
fill_front g [] ys h = tt
fill_front g (Began s op ∷ xs) ys h = (h.0, fill_front g xs ys h.1)
fill_front g (Answered s reply ∷ xs) ys h = fill_front g xs ys h
fill_front g (Attached a b c d e f ∷ xs) ys h = fill_front g xs ys h
fill_front g (Torn a b c d e ∷ xs) ys h = fill_front g xs ys h

pub fill_back : (g : Geometry) (xs ys : List Note) → WritesFill g (xs ++ ys) → WritesFill g ys
fill_back g [] ys h = h
fill_back g (Began s op ∷ xs) ys h = fill_back g xs ys h.1
fill_back g (Answered s reply ∷ xs) ys h = fill_back g xs ys h
fill_back g (Attached a b c d e f ∷ xs) ys h = fill_back g xs ys h
fill_back g (Torn a b c d e ∷ xs) ys h = fill_back g xs ys h

module _ {W : Type 0} (model : FaultModel W) (g : Geometry) (c : Setting g) (enough : 4 ≤ g.blocks) (F : ℕ → Type 0) (factory : AreFactoryBad g c.is_good F)
    (one two : ℕ) (in_one : IsTableBlock g c.is_good one) (in_two : IsTableBlock g c.is_good two) (apart : one ≢ two) (boot : Boot) (k : ℕ) where
  abbrev pub HoldO : Bool → Used → Option (ChipRun W) → Type 0
  HoldO dark y None = ⊤
  HoldO dark y (Some r) = StandsAt model g c enough F factory one two in_one in_two apart boot.partitions dark y r

  abbrev pub QuietO : Option (ChipRun W) → Type 0
  QuietO None = ⊤
  QuietO (Some r) = r.quiet ≡ true

  abbrev pub Hold : Used → Course W → Type 0
  Hold y course = HoldO course.dark y (slice_get course.chips k)

  -- so far no torn event of the chip was foul, its attach was quiet, and what was written filled
  -- its pages
  pub record IsGood (course : Course W) : Type 0 where
    pub fair : is_fair k course.notes ≡ true
    pub quiet : QuietO (slice_get course.chips k)
    pub fill : WritesFill g (notes_of_chip boot.partitions k course.notes)

  pub record Moves (course after : Course W) : Type 0 where
    pub back : IsGood after → IsGood course
    pub on : (y : Used) → Hold y course → IsGood after → (z : Used) × Later y z × Hold z after

  pub stays : (course : Course W) → Moves course course
  stays course = record { back = λ h. h; on = λ y h good. (y, (λ u. u), h) }

  pub and_then : (a b d : Course W) → Moves a b → Moves b d → Moves a d
  and_then a b d first second = record {
    back = λ h. first.back (second.back h);
    on = λ y h good.
        let x = first.on y h (second.back good) in
        let z = second.on x.0 x.2 good in
        (z.0, (λ u. z.1 (x.1 u)), z.2);
  }

  -- ---- flips
  one_flip : (dark : Bool) (y : Used) (flip : Flip) (o : Option (ChipRun W)) → HoldO dark y o → HoldO dark y (option_map (λ r. with_flips model r flip.page flip.bits) o)
  one_flip dark y flip None h = tt
  one_flip dark y flip (Some r) h = flips_on model g c enough F factory one two in_one in_two apart boot.partitions dark y r.chip r.attach_answers r.known r.pending flip.page flip.bits h

  one_quiet : (flip : Flip) (o : Option (ChipRun W)) → QuietO (option_map (λ r. with_flips model r flip.page flip.bits) o) → QuietO o
  one_quiet flip None h = tt
  one_quiet flip (Some r) h = h

  flip_hold : (dark : Bool) (y : Used) (chips : List (ChipRun W)) (flip : Flip) → HoldO dark y (slice_get chips k) → HoldO dark y (slice_get (with_flip model boot chips flip) k)
  flip_hold dark y chips flip h = on (cases_eq flip.chip k)
    where
      on : (flip.chip ≡ k) ⊎ (flip.chip ≡ k → ⊥) → HoldO dark y (slice_get (with_flip model boot chips flip) k)
      on (inl e) = subst (HoldO dark y) (sym (ap (λ i. slice_get (change_at chips i (λ r. with_flips model r flip.page flip.bits)) k) e ∙ change_here chips k (λ r. with_flips model r flip.page flip.bits))) (one_flip dark y flip (slice_get chips k) h)
      on (inr d) = subst (HoldO dark y) (sym (change_elsewhere chips flip.chip k (λ r. with_flips model r flip.page flip.bits) d)) h

  flip_quiet : (chips : List (ChipRun W)) (flip : Flip) → QuietO (slice_get (with_flip model boot chips flip) k) → QuietO (slice_get chips k)
  flip_quiet chips flip h = on (cases_eq flip.chip k)
    where
      on : (flip.chip ≡ k) ⊎ (flip.chip ≡ k → ⊥) → QuietO (slice_get chips k)
      on (inl e) = one_quiet flip (slice_get chips k) (subst QuietO (ap (λ i. slice_get (change_at chips i (λ r. with_flips model r flip.page flip.bits)) k) e ∙ change_here chips k (λ r. with_flips model r flip.page flip.bits)) h)
      on (inr d) = subst QuietO (change_elsewhere chips flip.chip k (λ r. with_flips model r flip.page flip.bits) d) h

  flips_hold : (dark : Bool) (y : Used) (flips : List Flip) (chips : List (ChipRun W)) → HoldO dark y (slice_get chips k) → HoldO dark y (slice_get (fold (with_flip model boot) chips flips) k)
  flips_hold dark y [] chips h = h
  flips_hold dark y (flip ∷ flips) chips h = flips_hold dark y flips (with_flip model boot chips flip) (flip_hold dark y chips flip h)

  flips_quiet : (flips : List Flip) (chips : List (ChipRun W)) → QuietO (slice_get (fold (with_flip model boot) chips flips) k) → QuietO (slice_get chips k)
  flips_quiet [] chips h = h
  flips_quiet (flip ∷ flips) chips h = flip_quiet chips flip (flips_quiet flips (with_flip model boot chips flip) h)

  -- ---- notes
  fair_before : (xs ys : List Note) → is_fair k (xs ++ ys) ≡ true → is_fair k xs ≡ true
  fair_before xs ys h = (fair_parts k xs ys h).0

  fill_before : (xs ys : List Note) → WritesFill g (notes_of_chip boot.partitions k (xs ++ ys)) → WritesFill g (notes_of_chip boot.partitions k xs)
  fill_before xs ys h = fill_front g (notes_of_chip boot.partitions k xs) (notes_of_chip_from boot.partitions (lasts boot.partitions (λ s. None) xs) k ys)
      (subst (WritesFill g) (chip_notes-append boot.partitions (λ s. None) k xs ys) h)

  fill_after : (xs ys : List Note) → WritesFill g (notes_of_chip boot.partitions k (xs ++ ys)) → WritesFill g (notes_of_chip_from boot.partitions (lasts boot.partitions (λ s. None) xs) k ys)
  fill_after xs ys h = fill_back g (notes_of_chip boot.partitions k xs) (notes_of_chip_from boot.partitions (lasts boot.partitions (λ s. None) xs) k ys)
      (subst (WritesFill g) (chip_notes-append boot.partitions (λ s. None) k xs ys) h)

  -- ---- one chip changes
  -- the chip at place j, which is there, becomes another
  changed : (P : Option (ChipRun W) → Type 0) (chips : List (ChipRun W)) (j : ℕ) (d now : ChipRun W) → slice_get chips j ≡ Some d → (j ≡ k → P (Some now)) → ((j ≡ k → ⊥) → P (slice_get chips k)) → P (slice_get (change_at chips j (λ old. now)) k)
  changed P chips j d now at here there = on (cases_eq j k)
    where
      on : (j ≡ k) ⊎ (j ≡ k → ⊥) → P (slice_get (change_at chips j (λ old. now)) k)
      on (inl e) = subst P (sym (ap (λ i. slice_get (change_at chips i (λ old. now)) k) e ∙ change_here chips k (λ old. now) ∙ ap (option_map (λ old. now)) (subst (λ i. slice_get chips i ≡ Some d) e at))) (here e)
      on (inr n) = subst P (sym (change_elsewhere chips j k (λ old. now) n)) (there n)

  unchanged : (P : Option (ChipRun W) → Type 0) (chips : List (ChipRun W)) (j : ℕ) (d now : ChipRun W) → slice_get chips j ≡ Some d → P (slice_get (change_at chips j (λ old. now)) k) → (P (Some now) → P (Some d)) → P (slice_get chips k)
  unchanged P chips j d now at h back = on (cases_eq j k)
    where
      on : (j ≡ k) ⊎ (j ≡ k → ⊥) → P (slice_get chips k)
      on (inl e) =
          let there : slice_get chips k ≡ Some d = subst (λ i. slice_get chips i ≡ Some d) e at in
          subst P (sym there) (back (subst P (ap (λ i. slice_get (change_at chips i (λ old. now)) k) e ∙ change_here chips k (λ old. now) ∙ ap (option_map (λ old. now)) there) h))
      on (inr n) = subst P (change_elsewhere chips j k (λ old. now) n) h

  advanced_quiet : (d : ChipRun W) (e : PageEvent) (o : Option Known) → d.known ≡ o → (advanced model d e).quiet ≡ true → d.quiet ≡ true
  advanced_quiet d e None is h = (and_parts d.quiet _ (subst (λ o. (answered_by d (happens model d.chip (Complete e)) (answer_to model d.chip e) o).quiet ≡ true) is h)).0
  advanced_quiet d e (Some known) is h = subst (λ o. (answered_by d (happens model d.chip (Complete e)) (answer_to model d.chip e) o).quiet ≡ true) is h

  torn_quiet : (d : ChipRun W) (e : PageEvent) (done : DoneBits) (o : Option Known) → d.known ≡ o → (torn_at model d e done).quiet ≡ true → d.quiet ≡ true
  torn_quiet d e done None is h = (and_parts d.quiet _ (subst (λ o. (torn_by d (happens model d.chip (PowerCut e done)) o).quiet ≡ true) is h)).0
  torn_quiet d e done (Some known) is h = subst (λ o. (torn_by d (happens model d.chip (PowerCut e done)) o).quiet ≡ true) is h

  hold_here : (y : Used) (chips : List (ChipRun W)) (j : ℕ) (d : ChipRun W) → slice_get chips j ≡ Some d → j ≡ k → HoldO false y (slice_get chips k) → StandsAt model g c enough F factory one two in_one in_two apart boot.partitions false y d
  hold_here y chips j d at e h = subst (HoldO false y) (subst (λ i. slice_get chips i ≡ Some d) e at) h

  darken : (y : Used) (o : Option (ChipRun W)) → HoldO false y o → HoldO true y o
  darken y None h = tt
  darken y (Some r) h = darkened model g c enough F factory one two in_one in_two apart boot.partitions y r.chip r.attach_answers r.known r.pending h

  -- an event of chip j
  event_moves : (course : Course W) (chips : List (ChipRun W)) (j n : ℕ) (d : ChipRun W) (e : PageEvent) (o : Option Tear) → course.dark ≡ false → slice_get chips j ≡ Some d → next_chip_event boot.partitions d ≡ Some e
      → (QuietO (slice_get chips k) → QuietO (slice_get course.chips k)) → ((y : Used) → HoldO false y (slice_get course.chips k) → HoldO false y (slice_get chips k)) → Moves course (event_done model boot course chips j n d e o)
  event_moves course chips j n d e None lit at next quiet_back hold_on = record {
    back = λ good. record {
      fair = fair_before course.notes new (fair_before (course.notes ++ new) more good.fair);
      quiet = quiet_back (unchanged QuietO chips j d (advanced model d e) at good.quiet (λ q. advanced_quiet d e d.known refl q));
      fill = fill_before course.notes new (fill_before (course.notes ++ new) more good.fill);
    };
    on = λ y h good. by (cases_eq j k) y (hold_on y (subst (λ t. HoldO t y (slice_get course.chips k)) lit h)) good;
  }
    where
      new : List Note
      new = notes_of_advance model j n d e

      more : List Note
      more = attach_notes j d (advanced model d e)

      after : Course W
      after = event_done model boot course chips j n d e None

      by : (j ≡ k) ⊎ (j ≡ k → ⊥) → (y : Used) → HoldO false y (slice_get chips k) → IsGood after → (z : Used) × Later y z × HoldO false z (slice_get (change_at chips j (λ old. advanced model d e)) k)
      by (inl same) y h good =
          let fair : IsFairEvent model d.chip (Complete e) = event_fair model j n d.chip (Complete e) (subst (λ i. is_fair i new ≡ true) (sym same) (fair_parts k course.notes new (fair_before (course.notes ++ new) more good.fair)).1) in
          let here : slice_get (change_at chips j (λ old. advanced model d e)) k ≡ Some (advanced model d e) =
          ap (λ i. slice_get (change_at chips i (λ old. advanced model d e)) k) same ∙ change_here chips k (λ old. advanced model d e) ∙ ap (option_map (λ old. advanced model d e)) (subst (λ i. slice_get chips i ≡ Some d) same at) in
          let z = advance_on model g c enough F factory one two in_one in_two apart boot.partitions y d e d.known d.pending refl refl (hold_here y chips j d at same h) next fair (subst QuietO here good.quiet) in
          (z.0, z.1, subst (HoldO false z.0) (sym here) z.2)
      by (inr other) y h good = (y, (λ u. u), subst (HoldO false y) (sym (change_elsewhere chips j k (λ old. advanced model d e) other)) h)
  event_moves course chips j n d e (Some tear) lit at next quiet_back hold_on = record {
    back = λ good. record {
      fair = fair_before course.notes new good.fair;
      quiet = quiet_back (unchanged QuietO chips j d now at good.quiet (λ q. torn_quiet d e done d.known refl q));
      fill = fill_before course.notes new good.fill;
    };
    on = λ y h good. by (cases_eq j k) y (hold_on y (subst (λ t. HoldO t y (slice_get course.chips k)) lit h)) good;
  }
    where
      done : DoneBits
      done = done_bits (raw_len d.chip.geometry) tear

      now : ChipRun W
      now = torn_at model d e done

      new : List Note
      new = notes_of_cut model j n d e done

      after : Course W
      after = event_done model boot course chips j n d e (Some tear)

      by : (j ≡ k) ⊎ (j ≡ k → ⊥) → (y : Used) → HoldO false y (slice_get chips k) → IsGood after → (z : Used) × Later y z × HoldO true z (slice_get (change_at chips j (λ old. now)) k)
      by (inl same) y h good =
          let fair : IsFairEvent model d.chip (PowerCut e done) = event_fair model j n d.chip (PowerCut e done) (subst (λ i. is_fair i new ≡ true) (sym same) (fair_parts k course.notes new good.fair).1) in
          let here : slice_get (change_at chips j (λ old. now)) k ≡ Some now =
          ap (λ i. slice_get (change_at chips i (λ old. now)) k) same ∙ change_here chips k (λ old. now) ∙ ap (option_map (λ old. now)) (subst (λ i. slice_get chips i ≡ Some d) same at) in
          let z = cut_on model g c enough F factory one two in_one in_two apart boot.partitions y d e done d.known d.pending refl refl (hold_here y chips j d at same h) next fair (subst QuietO here good.quiet) in
          (z.0, z.1, subst (HoldO true z.0) (sym here) z.2)
      by (inr other) y h good = (y, (λ u. u), subst (HoldO true y) (sym (change_elsewhere chips j k (λ old. now) other)) (darken y (slice_get chips k) h))

  -- the flips that are due, and then an event of chip j
  event_on_moves : (course : Course W) (j : ℕ) (r : ChipRun W) (e : PageEvent) → course.dark ≡ false → slice_get course.chips j ≡ Some r → next_chip_event boot.partitions r ≡ Some e
      → (o : Option (ChipRun W)) → slice_get (with_flips_before model boot (course.events + 1) course.chips) j ≡ o
      → Moves course (event_on model boot course (with_flips_before model boot (course.events + 1) course.chips) j o e)
  event_on_moves course j r e lit at next None is = stays course
  event_on_moves course j r e lit at next (Some d) is =
      event_moves course (with_flips_before model boot (course.events + 1) course.chips) j (course.events + 1) d e (tear_at boot.cut (course.events + 1)) lit is
      (same_next boot.partitions d r (same_Some (rest d) (rest r) (sym (ap rest_of is) ∙ due_rest model boot (starts_none) course.chips (course.events + 1) j ∙ ap rest_of at)) ∙ next)
      (flips_quiet (filter (λ (flip : Flip). flip.before == course.events + 1) boot.flips) course.chips)
      (λ y. flips_hold false y (filter (λ (flip : Flip). flip.before == course.events + 1) boot.flips) course.chips)
    where
      starts_none : List (ChipState W)
      starts_none = []

  -- an operation of chip j is answered
  answer_moves : (sizes : Command → Geometry) (course : Course W) (j : ℕ) (r : ChipRun W) → course.dark ≡ false → slice_get course.chips j ≡ Some r
      → (known : Option Known) → r.known ≡ known → (pending : Option Pending) → r.pending ≡ pending → Moves course (with_answer boot.partitions sizes course j r known pending)
  answer_moves sizes course j r lit at None is pending p = stays course
  answer_moves sizes course j r lit at (Some known) is None p = stays course
  answer_moves sizes course j r lit at (Some known) is (Some op) p = on (finished_by boot.partitions r known op) refl
    where
      on : (o : Option Finished) → finished_by boot.partitions r known op ≡ o → Moves course (finish sizes course j r op.session o)
      on None over = stays course
      on (Some finished) over = record {
        back = λ good. record {
          fair = fair_before course.notes (Answered op.session finished.reply ∷ []) good.fair;
          quiet = unchanged QuietO course.chips j r (with_finished r finished) at (subst (λ chips. QuietO (slice_get chips k)) (same_change course.chips j r (λ old. with_finished r finished)) good.quiet) (λ q. q);
          fill = fill_before course.notes (Answered op.session finished.reply ∷ []) good.fill;
        };
        on = λ y h good. (
          y,
          (λ u. u),
          subst (λ t. HoldO t y (slice_get (change_at course.chips j (λ old. with_finished r finished)) k)) (sym lit)
              (changed (HoldO false y) course.chips j r (with_finished r finished) at
              (λ e. answer_on model g c enough F factory one two in_one in_two apart boot.partitions y r known op finished
              (subst (λ o. Stands model g c enough F factory one two in_one in_two apart boot.partitions false y r.chip r.attach_answers o (Some op)) is (subst (λ o. Stands model g c enough F factory one two in_one in_two apart boot.partitions false y r.chip r.attach_answers r.known o) p
              (hold_here y course.chips j r at e (subst (λ t. HoldO t y (slice_get course.chips k)) lit h)))) over)
              (λ other. subst (λ t. HoldO t y (slice_get course.chips k)) lit h)),
        );
      }
        where
          same_change : (chips : List (ChipRun W)) (j : ℕ) (r : ChipRun W) (f : ChipRun W → ChipRun W) → change_at chips j f ≡ change_at chips j f
          same_change chips j r f = refl

  -- a step of chip j
  chip_moves : (sizes : Command → Geometry) (course : Course W) (j : ℕ) → course.dark ≡ false → (o : Option (ChipRun W)) → slice_get course.chips j ≡ o → Moves course (chip_step model boot sizes course j o)
  chip_moves sizes course j lit None at = stays course
  chip_moves sizes course j lit (Some r) at = on (next_chip_event boot.partitions r) refl
    where
      on : (o : Option PageEvent) → next_chip_event boot.partitions r ≡ o → Moves course (event_or_answer model boot sizes course j r o)
      on (Some e) next = event_on_moves course j r e lit at next (slice_get (with_flips_before model boot (course.events + 1) course.chips) j) refl
      on None next = answer_moves sizes course j r lit at r.known refl r.pending refl

  -- an operation begins on chip j
  begin_moves : (course : Course W) (session j : ℕ) (op : Op) → course.dark ≡ false → chip_of boot.partitions (device_of op) ≡ Some j → (o : Option (ChipRun W)) → slice_get course.chips j ≡ o
      → Moves course (begin_on model boot course session op j o)
  begin_moves course session j op lit on_chip None at = stays course
  begin_moves course session j op lit on_chip (Some r) at = by (is_some r.pending) refl
    where
      none : (o : Option Pending) → is_some o ≡ false → o ≡ None
      none None e = refl
      none (Some p) e = absurd (false≢true (sym e))

      fits : j ≡ k → WritesFill g (notes_of_chip_from boot.partitions (lasts boot.partitions (λ s. None) course.notes) k (Began session op ∷ [])) → WritesAPage g op
      fits same h = (subst (λ t. WritesFill g ((if t then Began session op ∷ [] else []) ++ [])) (ap (λ o. is_chip o k) on_chip ∙ eq-eqb j k same) h).0

      by : (t : Bool) → is_some r.pending ≡ t → Moves course (if t then course else began course session j op)
      by true e = stays course
      by false e = record {
        back = λ good. record {
          fair = fair_before course.notes (Began session op ∷ []) good.fair;
          quiet = on_quiet (cases_eq j k) good.quiet;
          fill = fill_before course.notes (Began session op ∷ []) good.fill;
        };
        on = λ y h good. (y, (λ u. u), subst (λ t. HoldO t y (slice_get (change_at course.chips j (λ c. with_pending c session op)) k)) (sym lit) (on_hold y (cases_eq j k) (subst (λ t. HoldO t y (slice_get course.chips k)) lit h) good));
      }
        where
          there : j ≡ k → slice_get (change_at course.chips j (λ c. with_pending c session op)) k ≡ Some (with_pending r session op)
          there same = ap (λ i. slice_get (change_at course.chips i (λ c. with_pending c session op)) k) same ∙ change_here course.chips k (λ c. with_pending c session op) ∙ ap (option_map (λ c. with_pending c session op)) (subst (λ i. slice_get course.chips i ≡ Some r) same at)

          on_quiet : (j ≡ k) ⊎ (j ≡ k → ⊥) → QuietO (slice_get (change_at course.chips j (λ c. with_pending c session op)) k) → QuietO (slice_get course.chips k)
          on_quiet (inl same) q = subst QuietO (sym (subst (λ i. slice_get course.chips i ≡ Some r) same at)) (subst QuietO (there same) q)
          on_quiet (inr other) q = subst QuietO (change_elsewhere course.chips j k (λ c. with_pending c session op) other) q

          on_hold : (y : Used) → (j ≡ k) ⊎ (j ≡ k → ⊥) → HoldO false y (slice_get course.chips k) → IsGood (began course session j op) → HoldO false y (slice_get (change_at course.chips j (λ c. with_pending c session op)) k)
          on_hold y (inl same) h good =
              subst (HoldO false y) (sym (there same))
              (begins_on model g c enough F factory one two in_one in_two apart boot.partitions y r session op r.known refl (none r.pending e) (fits same (fill_after course.notes (Began session op ∷ []) good.fill))
              (subst (λ o. Stands model g c enough F factory one two in_one in_two apart boot.partitions false y r.chip r.attach_answers r.known o) (none r.pending e) (hold_here y course.chips j r at same h)))
          on_hold y (inr other) h good = subst (HoldO false y) (sym (change_elsewhere course.chips j k (λ c. with_pending c session op) other)) h

  begin_at_moves : (course : Course W) (session : ℕ) (op : Op) → course.dark ≡ false → (o : Option ℕ) → chip_of boot.partitions (device_of op) ≡ o → Moves course (begin_at model boot course session op o)
  begin_at_moves course session op lit None is = stays course
  begin_at_moves course session op lit (Some j) is = begin_moves course session j op lit is (slice_get course.chips j) refl

  begin_step_moves : (course : Course W) (session : ℕ) → course.dark ≡ false → (o : Option Op) → Moves course (begin_step model boot course session o)
  begin_step_moves course session lit None = stays course
  begin_step_moves course session lit (Some op) = begin_at_moves course session op lit (chip_of boot.partitions (device_of op)) refl

  session_moves : (sizes : Command → Geometry) (course : Course W) (session : ℕ) → course.dark ≡ false → (o : Option ℕ) → Moves course (session_step model boot sizes course session o)
  session_moves sizes course session lit (Some j) = chip_moves sizes course j lit (slice_get course.chips j) refl
  session_moves sizes course session lit None = begin_step_moves course session lit (next_op sizes (session_run course session))

  lit_by : (a b d : Bool) → (a || b || d) ≡ false → a ≡ false
  lit_by true true d h = absurd (false≢true (sym h))
  lit_by true false d h = absurd (false≢true (sym h))
  lit_by false b d h = refl

  -- a turn of a session, and an attach step
  turn_moves : (sizes : Command → Geometry) (course : Course W) (session : ℕ) → Moves course (turn_step model boot sizes course session)
  turn_moves sizes course session = by (is_idle boot.partitions sizes course session) refl
    where
      by : (t : Bool) → is_idle boot.partitions sizes course session ≡ t → Moves course (turn_unless model boot t sizes course session)
      by true e = stays course
      by false e = session_moves sizes course session (lit_by course.dark (is_some (unattached course)) (is_none (pending_chip course session) && not (can_begin boot.partitions course (next_op sizes (session_run course session)))) e) (pending_chip course session)

  first_moves : (sizes : Command → Geometry) (course : Course W) → course.dark ≡ false → (o : Option ℕ) → Moves course (attach_first model boot sizes course o)
  first_moves sizes course lit None = stays course
  first_moves sizes course lit (Some j) = chip_moves sizes course j lit (slice_get course.chips j) refl

  attach_moves : (sizes : Command → Geometry) (course : Course W) → Moves course (attach_step model boot sizes course)
  attach_moves sizes course = by course.dark refl
    where
      by : (t : Bool) → course.dark ≡ t → Moves course (if t then course else attach_first model boot sizes course (unattached course))
      by true e = stays course
      by false e = first_moves sizes course e (unattached course)

  -- ---- whole courses
  module _ (starts : List (ChipState W)) where
    attaches_move : (n : ℕ) (course : Course W) → Moves course (attach_steps model boot starts n course)
    attaches_move zero course = stays course
    attaches_move (suc n) course =
        and_then course (attach_step model boot (sizes_of boot starts) course) (attach_steps model boot starts n (attach_step model boot (sizes_of boot starts) course))
        (attach_moves (sizes_of boot starts) course) (attaches_move n (attach_step model boot (sizes_of boot starts) course))

    turns_move : (turns : List ℕ) (course : Course W) → Moves course (turns_taken model boot starts turns course)
    turns_move [] course = stays course
    turns_move (turn ∷ turns) course =
        and_then course (turn_step model boot (sizes_of boot starts) course turn) (turns_taken model boot starts turns (turn_step model boot (sizes_of boot starts) course turn))
        (turn_moves (sizes_of boot starts) course turn) (turns_move turns (turn_step model boot (sizes_of boot starts) course turn))

    pub from_start : (attaches : ℕ) (turns : List ℕ) → Moves (start_of_boot boot starts) (course_after model boot starts attaches turns)
    from_start attaches turns =
        and_then (start_of_boot boot starts) (attach_steps model boot starts attaches (start_of_boot boot starts)) (course_after model boot starts attaches turns)
        (attaches_move attaches (start_of_boot boot starts)) (turns_move turns (attach_steps model boot starts attaches (start_of_boot boot starts)))

    more_attaches : (n m : ℕ) (course : Course W) → attach_steps model boot starts (n + m) course ≡ attach_steps model boot starts m (attach_steps model boot starts n course)
    more_attaches zero m course = let e : 0 + m ≡ m = omega arith in ap (λ i. attach_steps model boot starts i course) e
    more_attaches (suc n) m course =
        let e : suc n + m ≡ suc (n + m) = omega arith in
        ap (λ i. attach_steps model boot starts i course) e ∙ more_attaches n m (attach_step model boot (sizes_of boot starts) course)

    more_turns : (first later : List ℕ) (course : Course W) → turns_taken model boot starts (first ++ later) course ≡ turns_taken model boot starts later (turns_taken model boot starts first course)
    more_turns [] later course = refl
    more_turns (turn ∷ first) later course = more_turns first later (turn_step model boot (sizes_of boot starts) course turn)

    -- where attaching is over or the controller dark, no attach step does anything; else no turn
    -- does
    attached_still : (n : ℕ) (course : Course W) → attach_step model boot (sizes_of boot starts) course ≡ course → attach_steps model boot starts n course ≡ course
    attached_still zero course e = refl
    attached_still (suc n) course e = ap (attach_steps model boot starts n) e ∙ attached_still n course e

    idle_still : (turns : List ℕ) (course : Course W) → is_some (unattached course) ≡ true → turns_taken model boot starts turns course ≡ course
    idle_still [] course e = refl
    idle_still (turn ∷ turns) course e =
        ap (turns_taken model boot starts turns)
        (ap (λ t. turn_unless model boot t (sizes_of boot starts) course turn) (idle course.dark (is_some (unattached course)) (is_none (pending_chip course turn) && not (can_begin boot.partitions course (next_op (sizes_of boot starts) (session_run course turn)))) e))
        ∙ idle_still turns course e
      where
        idle : (a b d : Bool) → b ≡ true → (a || b || d) ≡ true
        idle true b d e = refl
        idle false true d e = refl
        idle false false d e = absurd (false≢true e)

    pub later_moves : (attaches more : ℕ) (turns later : List ℕ) → Moves (course_after model boot starts attaches turns) (course_after model boot starts (attaches + more) (turns ++ later))
    later_moves attaches more turns later = by first.dark refl (unattached first) refl
      where
        first : Course W
        first = attach_steps model boot starts attaches (start_of_boot boot starts)

        goal_is : course_after model boot starts (attaches + more) (turns ++ later) ≡ turns_taken model boot starts later (turns_taken model boot starts turns (attach_steps model boot starts more first))
        goal_is = ap (turns_taken model boot starts (turns ++ later)) (more_attaches attaches more (start_of_boot boot starts)) ∙ more_turns turns later (attach_steps model boot starts more first)

        still : attach_step model boot (sizes_of boot starts) first ≡ first → Moves (turns_taken model boot starts turns first) (course_after model boot starts (attaches + more) (turns ++ later))
        still e = subst (Moves (turns_taken model boot starts turns first)) (sym (goal_is ∙ ap (λ z. turns_taken model boot starts later (turns_taken model boot starts turns z)) (attached_still more first e)))
            (turns_move later (turns_taken model boot starts turns first))

        by : (t : Bool) → first.dark ≡ t → (o : Option ℕ) → unattached first ≡ o → Moves (turns_taken model boot starts turns first) (course_after model boot starts (attaches + more) (turns ++ later))
        by true dark o is = still (ap (λ t. if t then first else attach_first model boot (sizes_of boot starts) first (unattached first)) dark)
        by false lit None is = still (ap (λ t. if t then first else attach_first model boot (sizes_of boot starts) first (unattached first)) lit ∙ ap (attach_first model boot (sizes_of boot starts) first) is)
        by false lit (Some j) is =
            subst (λ z. Moves z (course_after model boot starts (attaches + more) (turns ++ later))) (sym (idle_still turns first (ap is_some is)))
            (subst (Moves first) (sym goal_is)
            (and_then first (attach_steps model boot starts more first) (turns_taken model boot starts later (turns_taken model boot starts turns (attach_steps model boot starts more first)))
            (attaches_move more first)
            (and_then (attach_steps model boot starts more first) (turns_taken model boot starts turns (attach_steps model boot starts more first)) (turns_taken model boot starts later (turns_taken model boot starts turns (attach_steps model boot starts more first)))
            (turns_move turns (attach_steps model boot starts more first)) (turns_move later (turns_taken model boot starts turns (attach_steps model boot starts more first))))))
