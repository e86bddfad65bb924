-- What holds of a chip and of the notes so far, from step to step of a course.
use Rattle.std.proofs.Common.{◌≡◌, ◌⊎◌, inl, inr, ◌+◌, ◌&&◌, ◌||◌, ◌==◌, not, ℕ, zero, suc, Bool, true, false, List, [], ◌∷◌, ◌++◌, Option, Some, None, refl, ap, sym, ◌∙◌, subst, arith}
use Rattle.std.specs.Prelude.{⊤, filter, fold, if◌then◌else◌, is_none, is_some, option_map, slice_get}
use Rattle.std.proofs.lemmas.Bool.{cases_eq, false≢true}
use Rattle.std.proofs.lemmas.Option.{same_Some, slice_get-map}
use Rattle.nand_model.specs.Chip.{ChipState, DoneBits, FaultModel, PageEvent, done_bits}
use Rattle.nand_model.specs.Cuts.{tear_at}
use Rattle.nand_model.specs.Partitions.{chip_of, device_of}
use Rattle.nand_model.specs.Sizes.{raw_len}
use Rattle.nand_model.specs.declared.geometry.Geometry.{Geometry}
use Rattle.nand_model.specs.declared.tear.Tear.{Tear}
use Rattle.nand_model.specs.declared.words.Command.{Command}
use Rattle.nand_model.specs.declared.words.Flip.{Flip}
use Rattle.nand_model.specs.declared.words.Note.{Note}
use Rattle.nand_model.specs.declared.words.Note.TheVariants.{Answered, Began}
use Rattle.nand_model.specs.declared.words.Op.{Op}
use Rattle.chip_paths.specs.ChipRun.{ChipRun, Pending, advanced, attach_notes, chip_at_start, finished_by, next_chip_event, notes_of_advance, notes_of_cut, torn_at, with_finished, with_flips, with_pending}
use Rattle.chip_paths.specs.Operation.{Finished, Known}
use Rattle.command_model.specs.Boot.{Boot, change_at}
use Rattle.command_model.specs.Session.{next_op}
use Rattle.run_model.specs.Course.{Course, attach_first, attach_step, attach_steps, begin_at, begin_on, begin_step, began, can_begin, chip_step, course_after, event_done, event_on, event_or_answer, finish, is_idle, pending_chip, session_run, session_step, sizes_of, start_of_boot, turn_step, turn_unless, turns_taken, unattached, with_answer, with_flip, with_flips_before}
use Rattle.run_laws.proofs.Courses.{due_rest, rest, rest_of, same_next}
use Rattle.run_laws.proofs.Places.{change_elsewhere, change_here}

module _ {W : Type 0} (model : FaultModel W) (boot : Boot) (k : ℕ) (P : ChipRun W → List Note → Type 0) where
  -- whatever befalls the chip keeps it, and so do notes of others
  pub record IsKept : Type 0 where
    pub more : (r : ChipRun W) (notes new : List Note) → P r notes → P r (notes ++ new)
    pub flips : (r : ChipRun W) (notes : List Note) (page : ℕ) (bits : List ℕ) → P r notes → P (with_flips model r page bits) notes
    pub event : (r : ChipRun W) (notes : List Note) (n : ℕ) (e : PageEvent) → next_chip_event boot.partitions r ≡ Some e → P r notes
        → P (advanced model r e) (notes ++ notes_of_advance model k n r e ++ attach_notes k r (advanced model r e))
    pub cut : (r : ChipRun W) (notes : List Note) (n : ℕ) (e : PageEvent) (done : DoneBits) → next_chip_event boot.partitions r ≡ Some e → P r notes
        → P (torn_at model r e done) (notes ++ notes_of_cut model k n r e done)
    pub begins : (r : ChipRun W) (notes : List Note) (session : ℕ) (op : Op) → P r notes → P (with_pending r session op) (notes ++ Began session op ∷ [])
    pub answers : (r : ChipRun W) (notes : List Note) (known : Known) (pending : Pending) (finished : Finished) → r.known ≡ Some known → r.pending ≡ Some pending
        → finished_by boot.partitions r known pending ≡ Some finished → P r notes → P (with_finished r finished) (notes ++ Answered pending.session finished.reply ∷ [])

  abbrev pub AtO : List Note → Option (ChipRun W) → Type 0
  AtO notes None = ⊤
  AtO notes (Some r) = P r notes

  abbrev pub At : Course W → Type 0
  At course = AtO course.notes (slice_get course.chips k)

  module _ (kept : IsKept) where
    more_at : (notes new : List Note) (o : Option (ChipRun W)) → AtO notes o → AtO (notes ++ new) o
    more_at notes new None h = tt
    more_at notes new (Some r) h = kept.more r notes new h

    flip_one : (notes : List Note) (flip : Flip) (o : Option (ChipRun W)) → AtO notes o → AtO notes (option_map (λ r. with_flips model r flip.page flip.bits) o)
    flip_one notes flip None h = tt
    flip_one notes flip (Some r) h = kept.flips r notes flip.page flip.bits h

    flip_at : (notes : List Note) (chips : List (ChipRun W)) (flip : Flip) → AtO notes (slice_get chips k) → AtO notes (slice_get (with_flip model boot chips flip) k)
    flip_at notes chips flip h = on (cases_eq flip.chip k)
      where
        on : (flip.chip ≡ k) ⊎ (flip.chip ≡ k → ⊥) → AtO notes (slice_get (with_flip model boot chips flip) k)
        on (inl e) = subst (AtO notes) (sym (ap (λ i. slice_get (change_at chips i (λ r. with_flips model r flip.page flip.bits)) k) e ∙ change_here chips k (λ r. with_flips model r flip.page flip.bits))) (flip_one notes flip (slice_get chips k) h)
        on (inr d) = subst (AtO notes) (sym (change_elsewhere chips flip.chip k (λ r. with_flips model r flip.page flip.bits) d)) h

    flips_at : (notes : List Note) (flips : List Flip) (chips : List (ChipRun W)) → AtO notes (slice_get chips k) → AtO notes (slice_get (fold (with_flip model boot) chips flips) k)
    flips_at notes [] chips h = h
    flips_at notes (flip ∷ flips) chips h = flips_at notes flips (with_flip model boot chips flip) (flip_at notes chips flip h)

    -- chip j, which is there, becomes another
    module _ (chips : List (ChipRun W)) (j : ℕ) (d now : ChipRun W) (at : slice_get chips j ≡ Some d) where
      changed : (notes : List Note) → (j ≡ k → P now notes) → AtO notes (slice_get chips k) → AtO notes (slice_get (change_at chips j (λ old. now)) k)
      changed notes here there = on (cases_eq j k)
        where
          on : (j ≡ k) ⊎ (j ≡ k → ⊥) → AtO notes (slice_get (change_at chips j (λ old. now)) k)
          on (inl e) =
              subst (AtO notes) (sym (ap (λ i. slice_get (change_at chips i (λ old. now)) k) e ∙ change_here chips k (λ old. now) ∙ ap (option_map (λ old. now)) (subst (λ i. slice_get chips i ≡ Some d) e at))) (here e)
          on (inr n) = subst (AtO notes) (sym (change_elsewhere chips j k (λ old. now) n)) there

      own : (notes : List Note) → j ≡ k → AtO notes (slice_get chips k) → P d notes
      own notes e h = subst (AtO notes) (subst (λ i. slice_get chips i ≡ Some d) e at) h

    -- an event of chip j
    event_at : (course : Course W) (chips : List (ChipRun W)) (j n : ℕ) (d : ChipRun W) (e : PageEvent) (o : Option Tear) → slice_get chips j ≡ Some d → next_chip_event boot.partitions d ≡ Some e
        → AtO course.notes (slice_get chips k) → At (event_done model boot course chips j n d e o)
    event_at course chips j n d e None at next h =
        changed chips j d now at (course.notes ++ new ++ last)
        (λ same. subst (λ i. P now (course.notes ++ notes_of_advance model i n d e ++ attach_notes i d now)) (sym same) (kept.event d course.notes n e next (own chips j d now at course.notes same h)))
        (more_at (course.notes ++ new) last (slice_get chips k) (more_at course.notes new (slice_get chips k) h))
      where
        now : ChipRun W
        now = advanced model d e

        new : List Note
        new = notes_of_advance model j n d e

        last : List Note
        last = attach_notes j d (advanced model d e)
    event_at course chips j n d e (Some tear) at next h =
        changed chips j d now at (course.notes ++ new)
        (λ same. subst (λ i. P now (course.notes ++ notes_of_cut model i n d e done)) (sym same) (kept.cut d course.notes n e done next (own chips j d now at course.notes same h)))
        (more_at course.notes new (slice_get chips k) h)
      where
        done : DoneBits
        done = done_bits (raw_len d.chip.geometry) tear

        now : ChipRun W
        now = torn_at model d e done

        new : List Note
        new = notes_of_cut model j n d e done

    event_on_at : (course : Course W) (j : ℕ) (r : ChipRun W) (e : PageEvent) → slice_get course.chips j ≡ Some r → next_chip_event boot.partitions r ≡ Some e
        → (o : Option (ChipRun W)) → slice_get (with_flips_before model boot (course.events + 1) course.chips) j ≡ o → At course
        → At (event_on model boot course (with_flips_before model boot (course.events + 1) course.chips) j o e)
    event_on_at course j r e at next None is h = h
    event_on_at course j r e at next (Some d) is h =
        event_at course (with_flips_before model boot (course.events + 1) course.chips) j (course.events + 1) d e (tear_at boot.cut (course.events + 1)) is
        (same_next boot.partitions d r (same_Some (rest d) (rest r) (sym (ap rest_of is) ∙ due_rest model boot nothing course.chips (course.events + 1) j ∙ ap rest_of at)) ∙ next)
        (flips_at course.notes (filter (λ (flip : Flip). flip.before == course.events + 1) boot.flips) course.chips h)
      where
        nothing : List (ChipState W)
        nothing = []

    -- an operation of chip j is answered
    answer_at : (sizes : Command → Geometry) (course : Course W) (j : ℕ) (r : ChipRun W) → slice_get course.chips j ≡ Some r
        → (known : Option Known) → r.known ≡ known → (pending : Option Pending) → r.pending ≡ pending → At course → At (with_answer boot.partitions sizes course j r known pending)
    answer_at sizes course j r at None is pending p h = h
    answer_at sizes course j r at (Some known) is None p h = h
    answer_at sizes course j r at (Some known) is (Some op) p h = on (finished_by boot.partitions r known op) refl
      where
        on : (o : Option Finished) → finished_by boot.partitions r known op ≡ o → At (finish sizes course j r op.session o)
        on None over = h
        on (Some finished) over =
            changed course.chips j r (with_finished r finished) at (course.notes ++ Answered op.session finished.reply ∷ [])
            (λ same. kept.answers r course.notes known op finished is p over (own course.chips j r (with_finished r finished) at course.notes same h))
            (more_at course.notes (Answered op.session finished.reply ∷ []) (slice_get course.chips k) h)

    chip_at : (sizes : Command → Geometry) (course : Course W) (j : ℕ) (o : Option (ChipRun W)) → slice_get course.chips j ≡ o → At course → At (chip_step model boot sizes course j o)
    chip_at sizes course j None at h = h
    chip_at sizes course j (Some r) at h = on (next_chip_event boot.partitions r) refl
      where
        on : (o : Option PageEvent) → next_chip_event boot.partitions r ≡ o → At (event_or_answer model boot sizes course j r o)
        on (Some e) next = event_on_at course j r e at next (slice_get (with_flips_before model boot (course.events + 1) course.chips) j) refl h
        on None next = answer_at sizes course j r at r.known refl r.pending refl h

    -- an operation begins on chip j
    begin_on_at : (course : Course W) (session j : ℕ) (op : Op) (o : Option (ChipRun W)) → slice_get course.chips j ≡ o → At course → At (begin_on model boot course session op j o)
    begin_on_at course session j op None at h = h
    begin_on_at course session j op (Some r) at h = by (is_some r.pending)
      where
        on : (j ≡ k) ⊎ (j ≡ k → ⊥) → AtO (course.notes ++ Began session op ∷ []) (slice_get (change_at course.chips j (λ c. with_pending c session op)) k)
        on (inl e) =
            let here : slice_get course.chips k ≡ Some r = subst (λ i. slice_get course.chips i ≡ Some r) e at in
            subst (AtO (course.notes ++ Began session op ∷ []))
            (sym (ap (λ i. slice_get (change_at course.chips i (λ c. with_pending c session op)) k) e ∙ change_here course.chips k (λ c. with_pending c session op) ∙ ap (option_map (λ c. with_pending c session op)) here))
            (kept.begins r course.notes session op (subst (AtO course.notes) here h))
        on (inr n) =
            subst (AtO (course.notes ++ Began session op ∷ [])) (sym (change_elsewhere course.chips j k (λ c. with_pending c session op) n))
            (more_at course.notes (Began session op ∷ []) (slice_get course.chips k) h)

        by : (t : Bool) → At (if t then course else began course session j op)
        by true = h
        by false = on (cases_eq j k)

    begin_at_at : (course : Course W) (session : ℕ) (op : Op) (o : Option ℕ) → At course → At (begin_at model boot course session op o)
    begin_at_at course session op None h = h
    begin_at_at course session op (Some j) h = begin_on_at course session j op (slice_get course.chips j) refl h

    begin_step_at : (course : Course W) (session : ℕ) (o : Option Op) → At course → At (begin_step model boot course session o)
    begin_step_at course session None h = h
    begin_step_at course session (Some op) h = begin_at_at course session op (chip_of boot.partitions (device_of op)) h

    session_at : (sizes : Command → Geometry) (course : Course W) (session : ℕ) (o : Option ℕ) → At course → At (session_step model boot sizes course session o)
    session_at sizes course session (Some j) h = chip_at sizes course j (slice_get course.chips j) refl h
    session_at sizes course session None h = begin_step_at course session (next_op sizes (session_run course session)) h

    turn_at : (sizes : Command → Geometry) (course : Course W) (session : ℕ) → At course → At (turn_step model boot sizes course session)
    turn_at sizes course session h = by (is_idle boot.partitions sizes course session)
      where
        by : (t : Bool) → At (turn_unless model boot t sizes course session)
        by true = h
        by false = session_at sizes course session (pending_chip course session) h

    first_at : (sizes : Command → Geometry) (course : Course W) (o : Option ℕ) → At course → At (attach_first model boot sizes course o)
    first_at sizes course None h = h
    first_at sizes course (Some j) h = chip_at sizes course j (slice_get course.chips j) refl h

    attach_at : (sizes : Command → Geometry) (course : Course W) → At course → At (attach_step model boot sizes course)
    attach_at sizes course h = by course.dark
      where
        by : (t : Bool) → At (if t then course else attach_first model boot sizes course (unattached course))
        by true = h
        by false = first_at sizes course (unattached course) h

    -- ---- whole courses
    module _ (starts : List (ChipState W)) where
      attaches_at : (n : ℕ) (course : Course W) → At course → At (attach_steps model boot starts n course)
      attaches_at zero course h = h
      attaches_at (suc n) course h = attaches_at n (attach_step model boot (sizes_of boot starts) course) (attach_at (sizes_of boot starts) course h)

      turns_at : (turns : List ℕ) (course : Course W) → At course → At (turns_taken model boot starts turns course)
      turns_at [] course h = h
      turns_at (turn ∷ turns) course h = turns_at turns (turn_step model boot (sizes_of boot starts) course turn) (turn_at (sizes_of boot starts) course turn h)

      -- it holds at each moment, if it does at the start
      pub each_moment : ((s : ChipState W) → slice_get starts k ≡ Some s → P (chip_at_start s) []) → (attaches : ℕ) (turns : List ℕ) → At (course_after model boot starts attaches turns)
      each_moment at_start attaches turns =
          turns_at turns (attach_steps model boot starts attaches (start_of_boot boot starts)) (attaches_at attaches (start_of_boot boot starts) (begins (slice_get starts k) refl))
        where
          begins : (o : Option (ChipState W)) → slice_get starts k ≡ o → At (start_of_boot boot starts)
          begins None e = subst (AtO []) (sym (slice_get-map chip_at_start starts k ∙ ap (option_map chip_at_start) e)) tt
          begins (Some s) e = subst (AtO []) (sym (slice_get-map chip_at_start starts k ∙ ap (option_map chip_at_start) e)) (at_start s e)

      more_attaches : (n m : ℕ) (course : Course W) → attach_steps model boot starts (n + m) course ≡ attach_steps model boot starts m (attach_steps model boot starts n course)
      more_attaches zero m course = let e : 0 + m ≡ m = omega arith in ap (λ i. attach_steps model boot starts i course) e
      more_attaches (suc n) m course =
          let e : suc n + m ≡ suc (n + m) = omega arith in
          ap (λ i. attach_steps model boot starts i course) e ∙ more_attaches n m (attach_step model boot (sizes_of boot starts) course)

      more_turns : (first later : List ℕ) (course : Course W) → turns_taken model boot starts (first ++ later) course ≡ turns_taken model boot starts later (turns_taken model boot starts first course)
      more_turns [] later course = refl
      more_turns (turn ∷ first) later course = more_turns first later (turn_step model boot (sizes_of boot starts) course turn)

      attached_still : (n : ℕ) (course : Course W) → attach_step model boot (sizes_of boot starts) course ≡ course → attach_steps model boot starts n course ≡ course
      attached_still zero course e = refl
      attached_still (suc n) course e = ap (attach_steps model boot starts n) e ∙ attached_still n course e

      idle_still : (turns : List ℕ) (course : Course W) → is_some (unattached course) ≡ true → turns_taken model boot starts turns course ≡ course
      idle_still [] course e = refl
      idle_still (turn ∷ turns) course e =
          ap (turns_taken model boot starts turns)
          (ap (λ t. turn_unless model boot t (sizes_of boot starts) course turn) (idle course.dark (is_some (unattached course)) (is_none (pending_chip course turn) && not (can_begin boot.partitions course (next_op (sizes_of boot starts) (session_run course turn)))) e))
          ∙ idle_still turns course e
        where
          idle : (a b d : Bool) → b ≡ true → (a || b || d) ≡ true
          idle true b d e = refl
          idle false true d e = refl
          idle false false d e = absurd (false≢true e)

      -- and at each later moment, if it does at one
      pub each_later : (attaches more : ℕ) (turns later : List ℕ) → At (course_after model boot starts attaches turns) → At (course_after model boot starts (attaches + more) (turns ++ later))
      each_later attaches more turns later h = by first.dark refl (unattached first) refl
        where
          first : Course W
          first = attach_steps model boot starts attaches (start_of_boot boot starts)

          goal_is : course_after model boot starts (attaches + more) (turns ++ later) ≡ turns_taken model boot starts later (turns_taken model boot starts turns (attach_steps model boot starts more first))
          goal_is = ap (turns_taken model boot starts (turns ++ later)) (more_attaches attaches more (start_of_boot boot starts)) ∙ more_turns turns later (attach_steps model boot starts more first)

          still : attach_step model boot (sizes_of boot starts) first ≡ first → At (course_after model boot starts (attaches + more) (turns ++ later))
          still e =
              subst At (sym (goal_is ∙ ap (λ z. turns_taken model boot starts later (turns_taken model boot starts turns z)) (attached_still more first e)))
              (turns_at later (turns_taken model boot starts turns first) h)

          by : (t : Bool) → first.dark ≡ t → (o : Option ℕ) → unattached first ≡ o → At (course_after model boot starts (attaches + more) (turns ++ later))
          by true dark o is = still (ap (λ t. if t then first else attach_first model boot (sizes_of boot starts) first (unattached first)) dark)
          by false lit None is = still (ap (λ t. if t then first else attach_first model boot (sizes_of boot starts) first (unattached first)) lit ∙ ap (attach_first model boot (sizes_of boot starts) first) is)
          by false lit (Some j) is =
              subst At (sym goal_is)
              (turns_at later (turns_taken model boot starts turns (attach_steps model boot starts more first))
              (turns_at turns (attach_steps model boot starts more first)
              (attaches_at more first (subst At (idle_still turns first (ap is_some is)) h))))
