-- How many events the attaches of chips have.
use Rattle.std.proofs.Common.{◌≡◌, ◌⊎◌, inl, inr, ℕ, zero, suc, ◌+◌, ◌≤◌, ◌<◌, Bool, true, false, List, [], ◌∷◌, ◌++◌, length, map, Option, Some, None, refl, ap, sym, ◌∙◌, subst, arith, length-append}
use Rattle.std.specs.Prelude.{⊤, slice_get, sum_by, fold, filter, option_map, is_none, ◌==◌, if◌then◌else◌}
use Rattle.std.proofs.lemmas.Bool.{cases_eq, false≢true}
use Rattle.std.proofs.lemmas.Option.{same_Some}
use Rattle.std.proofs.lemmas.List.Sums.{sum_by-cons}
use Rattle.nand_model.specs.declared.geometry.Geometry.{Geometry}
use Rattle.nand_model.specs.declared.tear.Tear.{Tear}
use Rattle.nand_model.specs.declared.words.Command.{Command}
use Rattle.nand_model.specs.declared.words.Flip.{Flip}
use Rattle.nand_model.specs.Chip.{ChipState, FaultModel, PageEvent, Complete, flip_events, happens}
use Rattle.nand_model.specs.Path.{next_event, answer_to}
use Rattle.chip_paths.specs.Attach.{attach_path}
use Rattle.chip_paths.specs.Operation.{Known}
use Rattle.chip_paths.specs.ChipRun.{ChipRun, chip_at_start, next_event_by, next_chip_event, answered_by, advanced, with_flips}
use Rattle.command_model.specs.Boot.{Boot, change_at}
use Rattle.run_model.specs.Course.{Course, unattached, with_flip, with_flips_before, with_answer, event_done, event_on, event_or_answer, chip_step, attach_first, attach_step, attach_steps, start_of_boot, sizes_of, course_after}
use Rattle.nand_model.specs.Cuts.{tear_at}
use Rattle.run_laws.proofs.Traces.{geometry_after}
use Rattle.run_laws.proofs.Places.{change_here, change_elsewhere, position_is}
use Rattle.run_laws.proofs.Courses.{Rest, rest, rest_of, due_rest}
use Rattle.turn_laws.specs.Laws.{events_of_attach, events_of_attaches, AttachesAreShort}
use Rattle.turn_laws.proofs.Sums.{sum-change, sum-change_same, sum-under, sum-less}
use Rattle.turn_laws.proofs.Paths.{attach_within, some_left}

-- the attach of a chip has had no more events than it may have
abbrev Fits : Option Rest → Type 0
Fits None = ⊤
Fits (Some r) = length r.answers ≤ events_of_attach r.geometry

-- the events that the attaches have had, and those that they may have
abbrev pages_read : {W : Type 0} → List (ChipRun W) → ℕ
pages_read {W} chips = sum_by (λ (c : ChipRun W). length c.attach_answers) chips

abbrev blocks_in : {W : Type 0} → List (ChipRun W) → ℕ
blocks_in {W} chips = sum_by (λ (c : ChipRun W). events_of_attach c.chip.geometry) chips

module _ {W : Type 0} (model : FaultModel W) (boot : Boot) (starts : List (ChipState W)) where
  -- a course whose chips are being attached
  record Attaching (course : Course W) : Type 0 where
    pub lit : course.dark ≡ false
    pub counted : course.events ≡ pages_read course.chips
    pub blocks : blocks_in course.chips ≡ events_of_attaches starts
    pub fits : (k : ℕ) → Fits (rest_of (slice_get course.chips k))

  record Darkened (course : Course W) : Type 0 where
    pub dark : course.dark ≡ true
    pub few : course.events ≤ events_of_attaches starts

  abbrev Attaches : Course W → Type 0
  Attaches course = Attaching course ⊎ Darkened course

  -- flips read no page and leave the blocks
  flips_read : (flips : List Flip) (chips : List (ChipRun W)) → pages_read (fold (with_flip model boot) chips flips) ≡ pages_read chips
  flips_read [] chips = refl
  flips_read (flip ∷ flips) chips =
      flips_read flips (with_flip model boot chips flip)
      ∙ sum-change_same (λ (c : ChipRun W). length c.attach_answers) chips flip.chip (λ c. with_flips model c flip.page flip.bits) (λ c. refl)

  flips_blocks : (flips : List Flip) (chips : List (ChipRun W)) → blocks_in (fold (with_flip model boot) chips flips) ≡ blocks_in chips
  flips_blocks [] chips = refl
  flips_blocks (flip ∷ flips) chips =
      flips_blocks flips (with_flip model boot chips flip)
      ∙ sum-change_same (λ (c : ChipRun W). events_of_attach c.chip.geometry) chips flip.chip (λ c. with_flips model c flip.page flip.bits)
      (λ c. ap events_of_attach (geometry_after model c.chip (flip_events flip.page flip.bits)))

  few_read : (course : Course W) → Attaching course → pages_read course.chips ≤ blocks_in course.chips
  few_read course a = sum-under (λ (c : ChipRun W). length c.attach_answers) (λ (c : ChipRun W). events_of_attach c.chip.geometry) course.chips
      (λ k c at. subst Fits (ap rest_of at) (a.fits k))

  -- an event of a chip that is being attached
  module _ (course : Course W) (a : Attaching course) (k : ℕ) (c : ChipRun W) (at : slice_get course.chips k ≡ Some c) (unknown : c.known ≡ None)
      (e : PageEvent) (next : next_event (attach_path c.chip.geometry) c.attach_answers ≡ Some e) where
    abbrev flipped : List (ChipRun W)
    flipped = with_flips_before model boot (course.events + 1) course.chips

    fits_c : Fits (Some (rest c))
    fits_c = subst Fits (ap rest_of at) (a.fits k)

    one_left : length c.attach_answers < events_of_attach c.chip.geometry
    one_left = some_left (events_of_attach c.chip.geometry) (attach_path c.chip.geometry) (attach_within c.chip.geometry) c.attach_answers e next

    module _ (now : ChipRun W) (there : slice_get flipped k ≡ Some now) (same : rest now ≡ rest c) where
      after : ChipState W
      after = happens model now.chip (Complete e)

      abbrev grown : ChipRun W
      grown = advanced model now e

      same_geometry : grown.chip.geometry ≡ now.chip.geometry
      same_geometry = by_known now.known
        where
          by_known : (o : Option Known) → (answered_by now (happens model now.chip (Complete e)) (answer_to model now.chip e) o).chip.geometry ≡
              now.chip.geometry
          by_known None = geometry_after model now.chip (Complete e ∷ [])
          by_known (Some known) = geometry_after model now.chip (Complete e ∷ [])

      one_read : length grown.attach_answers ≡ length c.attach_answers + 1
      one_read =
          let longer : length (now.attach_answers ++ answer_to model now.chip e ∷ []) ≡ length now.attach_answers + 1 =
          length-append now.attach_answers (answer_to model now.chip e ∷ []) in
          let kept : length now.attach_answers ≡ length c.attach_answers = ap (λ (r : Rest). length r.answers) same in
          ap (λ (o : Option Known). length (answered_by now (happens model now.chip (Complete e)) (answer_to model now.chip e) o).attach_answers)
          (ap (λ (r : Rest). r.known) same ∙ unknown)
          ∙ omega (arith, longer, kept)

      c_geometry : grown.chip.geometry ≡ c.chip.geometry
      c_geometry = same_geometry ∙ ap (λ (r : Rest). r.geometry) same

      abbrev chips_after : List (ChipRun W)
      chips_after = change_at flipped k (λ old. grown)

      fits_after : (j : ℕ) → Fits (rest_of (slice_get chips_after j))
      fits_after j = by_case (cases_eq k j)
        where
          by_case : (k ≡ j) ⊎ (k ≡ j → ⊥) → Fits (rest_of (slice_get chips_after j))
          by_case (inl here) =
              let at_j : slice_get chips_after j ≡ Some grown =
              subst (λ (i : ℕ). slice_get chips_after i ≡ Some grown) here (change_here flipped k (λ old. grown)
              ∙ ap (λ (o : Option (ChipRun W)). option_map (λ (old : ChipRun W). grown) o) there) in
              let more : length grown.attach_answers ≤ events_of_attach c.chip.geometry = omega (arith, one_read, one_left) in
              subst (λ (o : Option (ChipRun W)). Fits (rest_of o)) (sym at_j)
              (subst (λ (g : Geometry). length grown.attach_answers ≤ events_of_attach g) (sym c_geometry) more)
          by_case (inr elsewhere) =
              subst (λ (o : Option (ChipRun W)). Fits (rest_of o)) (sym (change_elsewhere flipped k j (λ old. grown) elsewhere))
              (subst Fits (sym (due_rest model boot starts course.chips (course.events + 1) j)) (a.fits j))

      done_attaches : (tear : Option Tear) → Attaches (event_done model boot course flipped k (course.events + 1) now e tear)
      done_attaches None =
          let read = sum-change (λ (x : ChipRun W). length x.attach_answers) flipped k now (λ old. grown) there in
          let kept : length now.attach_answers ≡ length c.attach_answers = ap (λ (r : Rest). length r.answers) same in
          let unread : pages_read flipped ≡ pages_read course.chips = flips_read (filter (λ (flip : Flip). flip.before == course.events + 1) boot.flips)
          course.chips in
          let wide = sum-change (λ (x : ChipRun W). events_of_attach x.chip.geometry) flipped k now (λ old. grown) there in
          let as_wide : events_of_attach grown.chip.geometry ≡ events_of_attach now.chip.geometry = ap events_of_attach same_geometry in
          let unchanged : blocks_in flipped ≡ blocks_in course.chips = flips_blocks
          (filter (λ (flip : Flip). flip.before == course.events + 1) boot.flips) course.chips in
          inl (record {
            lit = refl;
            counted = omega (arith, read, kept, unread, one_read, a.counted);
            blocks = omega (arith, wide, as_wide, unchanged, a.blocks);
            fits = fits_after;
          })
      done_attaches (Some tear) =
          let less : pages_read course.chips + 1 ≤ blocks_in course.chips =
          sum-less (λ (x : ChipRun W). length x.attach_answers) (λ (x : ChipRun W). events_of_attach x.chip.geometry) course.chips k c
          (λ j y there. subst Fits (ap rest_of there) (a.fits j)) at (omega (arith, one_left)) in
          inr (record { dark = refl; few = omega (arith, less, a.counted, a.blocks) })

    event_attaches : (o : Option (ChipRun W)) → slice_get flipped k ≡ o → Attaches (event_on model boot course flipped k o e)
    event_attaches None there = inl a
    event_attaches (Some now) there =
        let same : Some (rest now) ≡ Some (rest c) = sym (ap rest_of there) ∙ due_rest model boot starts course.chips (course.events + 1) k ∙ ap rest_of at in
        done_attaches now there (same_Some (rest now) (rest c) same) (tear_at boot.cut (course.events + 1))

  chip_attaches : (sizes : Command → Geometry) (course : Course W) → Attaching course → (k : ℕ) (c : ChipRun W) → slice_get course.chips k ≡ Some c
      → c.known ≡ None
      → (o : Option PageEvent) → next_event (attach_path c.chip.geometry) c.attach_answers ≡ o → Attaches (event_or_answer model boot sizes course k c o)
  chip_attaches sizes course a k c at unknown (Some e) next =
      event_attaches course a k c at unknown e next (slice_get (with_flips_before model boot (course.events + 1) course.chips) k) refl
  chip_attaches sizes course a k c at unknown None next =
      subst (λ (o : Option Known). Attaches (with_answer boot.partitions sizes course k c o c.pending)) (sym unknown) (inl a)

  known_none : (o : Option Known) → is_none o ≡ true → o ≡ None
  known_none None e = refl
  known_none (Some known) e = absurd (false≢true e)

  first_attaches : (sizes : Command → Geometry) (course : Course W) → Attaching course → (o : Option ℕ) → unattached course ≡ o
      → Attaches (attach_first model boot sizes course o)
  first_attaches sizes course a None h = inl a
  first_attaches sizes course a (Some k) h =
      let c = position_is (λ (z : ChipRun W). is_none z.known) course.chips k h in
      let unknown : c.0.known ≡ None = known_none c.0.known c.2 in
      let next : next_event (attach_path c.0.chip.geometry) c.0.attach_answers ≡ next_chip_event boot.partitions c.0 =
      sym (ap (λ (o : Option Known). next_event_by boot.partitions c.0.chip c.0.attach_answers o c.0.pending) unknown) in
      subst (λ (o : Option (ChipRun W)). Attaches (chip_step model boot sizes course k o)) (sym c.1)
      (chip_attaches sizes course a k c.0 c.1 unknown (next_chip_event boot.partitions c.0) next)

  step_attaches : (sizes : Command → Geometry) (course : Course W) → Attaches course → Attaches (attach_step model boot sizes course)
  step_attaches sizes course (inl a) =
      subst (λ (b : Bool). Attaches (if b then course else attach_first model boot sizes course (unattached course))) (sym a.lit)
      (first_attaches sizes course a (unattached course) refl)
  step_attaches sizes course (inr d) =
      subst (λ (b : Bool). Attaches (if b then course else attach_first model boot sizes course (unattached course))) (sym d.dark) (inr d)

  steps_attach : (attaches : ℕ) (course : Course W) → Attaches course → Attaches (attach_steps model boot starts attaches course)
  steps_attach zero course h = h
  steps_attach (suc n) course h = steps_attach n (attach_step model boot (sizes_of boot starts) course) (step_attaches (sizes_of boot starts) course h)

  none_read : (chips : List (ChipState W)) → pages_read (map chip_at_start chips) ≡ 0
  none_read [] = refl
  none_read (s ∷ chips) = omega (arith, sum_by-cons (λ (c : ChipRun W). length c.attach_answers) (chip_at_start s) (map chip_at_start chips), none_read chips)

  all_blocks : (chips : List (ChipState W)) → blocks_in (map chip_at_start chips) ≡ events_of_attaches chips
  all_blocks [] = refl
  all_blocks (s ∷ chips) =
      omega (
        arith,
        sum_by-cons (λ (c : ChipRun W). events_of_attach c.chip.geometry) (chip_at_start s) (map chip_at_start chips),
        sum_by-cons
            (λ (t : ChipState W). events_of_attach t.geometry) s chips,
        all_blocks chips,
      )

  fit_at_start : (chips : List (ChipState W)) → (k : ℕ) → Fits (rest_of (slice_get (map chip_at_start chips) k))
  fit_at_start [] k = tt
  fit_at_start (s ∷ chips) zero = omega arith
  fit_at_start (s ∷ chips) (suc k) = fit_at_start chips k

  -- the events of the attaches
  pub attaches_few : (attaches : ℕ) → AttachesAreShort model boot starts attaches
  attaches_few attaches =
      by_state (course_after model boot starts attaches [])
      (steps_attach attaches (start_of_boot boot starts) (inl (record {
        lit = refl;
        counted = sym (none_read starts);
        blocks = all_blocks starts;
        fits = fit_at_start starts;
      })))
    where
      by_state : (course : Course W) → Attaches course → course.events ≤ events_of_attaches starts
      by_state course (inl a) = omega (arith, a.counted, a.blocks, few_read course a)
      by_state course (inr d) = d.few
