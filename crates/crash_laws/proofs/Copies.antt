-- At each moment of a boot the copies agree, a whole copy stays, and two whole copies hold the
-- table.
use Rattle.std.proofs.Common.{◌≡◌, ◌≢◌, ◌≤◌, ◌<◌, ℕ, ◌+◌, Bool, true, false, ◌&&◌, List, [], ◌∷◌, ◌++◌, refl, ap, sym, ◌∙◌, Option, Some, None, subst, arith}
use Rattle.std.specs.Prelude.{IsTrue, IsSome, slice_get, option_map, map, Contains, if◌then◌else◌}
use Rattle.std.specs.List.{list_all}
use Rattle.std.proofs.lemmas.Bool.{false≢true, and_parts}
use Rattle.std.proofs.lemmas.Option.{same_Some, slice_get-map}
use Rattle.std.proofs.lemmas.List.Folds.{list_all-append}
use Rattle.nand_model.specs.Sizes.{first_page}
use Rattle.nand_model.specs.Chip.{ChipState, SimFaults, sim_faults, new_chip, FaultModel, PageEvent, after_trace}
use Rattle.nand_model.specs.Table.{Copy, copy_in, has_tables, read_again, calls_bad}
use Rattle.chip_paths.specs.Writing.{place_of}
use Rattle.nand_model.specs.Partitions.{Partitions}
use Rattle.chip_paths.specs.Operation.{Known}
use Rattle.chip_paths.specs.ChipRun.{ChipRun, chip_at_start, next_chip_event}
use Rattle.nand_model.specs.Quiet.{is_quiet}
use Rattle.nand_model.proofs.Bounds.{bounds}
use Rattle.nand_model.specs.declared.geometry.Geometry.{Geometry}
use Rattle.nand_model.specs.declared.words.Weak.{Weak}
use Rattle.nand_model.specs.declared.words.Which.{Which}
use Rattle.nand_model.specs.declared.words.Which.TheVariants.{Primary, Mirror}
use Rattle.command_model.specs.Boot.{Boot}
use Rattle.run_model.specs.Course.{Course, course_after, start_of_boot}
use Rattle.run_model.specs.History.{notes_of_chip, trace_of}
use Rattle.nand_model.specs.declared.words.Note.{Note}
use Rattle.run_laws.proofs.Faithful.{course_holds}
use Rattle.run_model.specs.Run.{AreBoots, HasTableBlocks, is_fair, quiet_at, IsFairAndQuiet, IsFairAndQuietNow, CopiesAgree, HoldsTheTable, KeepsACopy, IsFoundNow, block_changed, block_in_change, copy_in_use}
use Rattle.page_laws.specs.Keeping.{IsIn, PageLaws}
use Rattle.page_laws.proofs.PagesHold.{page_laws}
use Rattle.page_laws.proofs.Quiet.{quiet_table}
use Rattle.relocation_laws.specs.Shelves.{HoldsBoth}
use Rattle.relocation_laws.specs.Tables.{IsTable, IsTableBlock, Shows}
use Rattle.relocation_laws.specs.Tables.{is_good_of}
use Rattle.relocation_laws.proofs.Agreeing.{copies-agree, found-now, used-shows}
use Rattle.relocation_laws.specs.Agreement.{copy_of}
use Rattle.relocation_laws.proofs.Goes.{Setting}
use Rattle.relocation_laws.proofs.Lives.{Lives, lives-fewer}
use Rattle.relocation_laws.proofs.MarkerTables.{AreFactoryBad}
use Rattle.relocation_laws.proofs.NewChip.{are_bad, new_lives, two_good, TwoBlocks, two-blocks}
use Rattle.crash_laws.specs.Marked.{WritesFill}
use Rattle.crash_laws.specs.Theorem.{ends_of, OneCopyStaysInRuns, WholeCopiesHoldInRuns}
use Rattle.crash_laws.proofs.Boots.{Acked, Begun, BootOf, LivesAfter, boot_at, lives_after, lives_through, quiet_run}
use Rattle.crash_laws.proofs.Chain.{Kind}
use Rattle.crash_laws.proofs.ChipMoves.{Used, Later, Once, AnyBlock, AliveBefore, AliveOn, MemoryOn, Stands, StandsAt, alive_at, any-attach-safe, before_event, wakes}
use Rattle.crash_laws.proofs.CourseMoves.{Hold, HoldO, QuietO, IsGood, from_start, later_moves}
use Rattle.crash_laws.proofs.Tabled.{with_tables}

-- a copy that is found in a block other than this one, and the copy in use
pub record FoundBeside {W : Type 0} (changing : Option ℕ) (s : ChipState W) : Type 0 where
  pub block : ℕ
  pub copy : Copy
  pub other : changing ≢ Some block
  pub is_found : IsFoundNow s block copy
  pub newest : ℕ × Copy
  pub used : copy_in_use s ≡ Some newest

module _ {W : Type 0} (model : FaultModel W) (g : Geometry) (c : Setting g) (enough : 4 ≤ g.blocks) (F : ℕ → Type 0) (factory : AreFactoryBad g c.is_good F)
    (one two : ℕ) (in_one : IsTableBlock g c.is_good one) (in_two : IsTableBlock g c.is_good two) (apart : one ≢ two) (boot : Boot) (k : ℕ) where
  -- two whole copies hold the table in memory
  holds_table : (y : Used) (known : Known) (s : ChipState W) → MemoryOn model g c enough F factory one two in_one in_two apart boot.partitions y known s → 2 ≤ known.copies → is_quiet g s.pages ≡ true → HoldsTheTable s known
  holds_table y known s h enough_copies quiet = record { primary = at_place Primary; mirror = at_place Mirror }
    where
      both : HoldsBoth (IsTableBlock g c.is_good) (IsTable g) (Shows g F (Once g y) AnyBlock) ((b : ℕ) → Once g y b → ⊥) known.table known.version known.places h.holds
      both = h.both enough_copies

      at_place : (which : Which) → copy_in s.geometry (s.pages (first_page s.geometry (place_of known.places which))).cells ≡ Some (record { which = which; version = known.version; states = read_again known.table })
      at_place which =
          subst (λ i. copy_in i (s.pages (first_page i (place_of known.places which))).cells ≡ Some (record { which = which; version = known.version; states = read_again known.table })) (sym h.holding.geometry)
          ((h.holding.stands.tables (place_of known.places which) (both.fit.inside which).0).copies (both.fit.inside which).1 []
          (quiet_table g s.pages quiet (place_of known.places which) c.tables (both.fit.inside which).0) ∙ ap copy_of (both.at which))

  table_by : (y : Used) (r : ChipRun W) (dark : Bool) (known : Known) → r.known ≡ Some known → r.pending ≡ None → StandsAt model g c enough F factory one two in_one in_two apart boot.partitions dark y r → known.copies ≡ 2 → is_quiet g r.chip.pages ≡ true → HoldsTheTable r.chip known
  table_by y r dark known e f h are_two quiet =
      on dark (subst (λ o. Stands model g c enough F factory one two in_one in_two apart boot.partitions dark y r.chip r.attach_answers (Some known) o) f (subst (λ o. Stands model g c enough F factory one two in_one in_two apart boot.partitions dark y r.chip r.attach_answers o r.pending) e h))
    where
      enough_copies : 2 ≤ known.copies
      enough_copies = omega (arith, are_two)

      on : (dark : Bool) → Stands model g c enough F factory one two in_one in_two apart boot.partitions dark y r.chip r.attach_answers (Some known) None → HoldsTheTable r.chip known
      on true i = holds_table y known r.chip i enough_copies quiet
      on false i = holds_table y known r.chip i enough_copies quiet

  module _ (starts : List (ChipState W)) (past : List (Course W)) (s : ChipState W) (at : slice_get starts k ≡ Some s) (alive : AliveOn model g c enough F factory one two in_one in_two apart boot.partitions false s)
      (fill : (attaches : ℕ) (turns : List ℕ) → WritesFill g (notes_of_chip boot.partitions k (course_after model boot starts attaches turns).notes)) where
    start_holds : Hold model g c enough F factory one two in_one in_two apart boot k false (start_of_boot boot starts)
    start_holds = subst (HoldO model g c enough F factory one two in_one in_two apart boot k false false) (sym (slice_get-map chip_at_start starts k ∙ ap (option_map chip_at_start) at)) (any-attach-safe model g c enough F factory one two in_one in_two apart boot.partitions false s alive)

    good_now : (attaches : ℕ) (turns : List ℕ) (r : ChipRun W) → IsFairAndQuietNow k past (course_after model boot starts attaches turns) r → IsGood model g c enough F factory one two in_one in_two apart boot k (course_after model boot starts attaches turns)
    good_now attaches turns r h = record {
      fair = first.0;
      quiet = subst (QuietO model g c enough F factory one two in_one in_two apart boot k) (sym h.is_chip) (quiet_run k (course_after model boot starts attaches turns) r h.is_chip first.1);
      fill = fill attaches turns;
    }
      where
        last : IsTrue (list_all (λ (z : Course W). is_fair k z.notes && quiet_at k z) (course_after model boot starts attaches turns ∷ []))
        last = (and_parts (list_all (λ (z : Course W). is_fair k z.notes && quiet_at k z) past) (list_all (λ (z : Course W). is_fair k z.notes && quiet_at k z) (course_after model boot starts attaches turns ∷ []))
            (sym (list_all-append (λ (z : Course W). is_fair k z.notes && quiet_at k z) past (course_after model boot starts attaches turns ∷ [])) ∙ h.so_far)).1

        first : (is_fair k (course_after model boot starts attaches turns).notes ≡ true) × (quiet_at k (course_after model boot starts attaches turns) ≡ true)
        first = and_parts (is_fair k (course_after model boot starts attaches turns).notes) (quiet_at k (course_after model boot starts attaches turns))
            (and_parts (is_fair k (course_after model boot starts attaches turns).notes && quiet_at k (course_after model boot starts attaches turns)) true last).0

    -- how the chip stands at a moment
    pub record Moment (attaches : ℕ) (turns : List ℕ) (r : ChipRun W) : Type 0 where
      pub used : Used
      pub stands : StandsAt model g c enough F factory one two in_one in_two apart boot.partitions (course_after model boot starts attaches turns).dark used r
      pub quiet : is_quiet g r.chip.pages ≡ true

    pub moment : (attaches : ℕ) (turns : List ℕ) (r : ChipRun W) → IsFairAndQuietNow k past (course_after model boot starts attaches turns) r → Moment attaches turns r
    moment attaches turns r h = record {
      used = y.0;
      stands = stood;
      quiet = subst (λ i. is_quiet i r.chip.pages ≡ true) (alive_at model g c enough F factory one two in_one in_two apart boot.partitions (course_after model boot starts attaches turns).dark y.0 r.chip r.attach_answers r.known r.pending stood).holding.geometry h.now;
    }
      where
        y : (y : Used) × Hold model g c enough F factory one two in_one in_two apart boot k y (course_after model boot starts attaches turns)
        y = let z = (from_start model g c enough F factory one two in_one in_two apart boot k starts attaches turns).on false start_holds (good_now attaches turns r h) in (z.0, z.2)

        stood : StandsAt model g c enough F factory one two in_one in_two apart boot.partitions (course_after model boot starts attaches turns).dark y.0 r
        stood = subst (HoldO model g c enough F factory one two in_one in_two apart boot k (course_after model boot starts attaches turns).dark y.0) h.is_chip y.1

    pub geometry_at : (attaches : ℕ) (turns : List ℕ) (r : ChipRun W) → IsFairAndQuietNow k past (course_after model boot starts attaches turns) r → r.chip.geometry ≡ g
    geometry_at attaches turns r h =
        let m = moment attaches turns r h in
        (alive_at model g c enough F factory one two in_one in_two apart boot.partitions (course_after model boot starts attaches turns).dark m.used r.chip r.attach_answers r.known r.pending m.stands).holding.geometry

    pub agree_now : (attaches : ℕ) (turns : List ℕ) (r : ChipRun W) → IsFairAndQuietNow k past (course_after model boot starts attaches turns) r → CopiesAgree r.chip
    agree_now attaches turns r h =
        let m = moment attaches turns r h in
        copies-agree g c enough (Shows g F (Once g m.used) AnyBlock) ((b : ℕ) → Once g m.used b → ⊥) r.chip
        (alive_at model g c enough F factory one two in_one in_two apart boot.partitions (course_after model boot starts attaches turns).dark m.used r.chip r.attach_answers r.known r.pending m.stands) m.quiet

    pub whole_hold : (attaches : ℕ) (turns : List ℕ) (r : ChipRun W) (known : Known) → IsFairAndQuietNow k past (course_after model boot starts attaches turns) r
        → r.known ≡ Some known → r.pending ≡ None → known.copies ≡ 2 → HoldsTheTable r.chip known
    whole_hold attaches turns r known h e f are_two =
        let m = moment attaches turns r h in
        table_by m.used r (course_after model boot starts attaches turns).dark known e f m.stands are_two m.quiet

    -- ---- a chip of which a copy is in use stays used
    hold_wakes : (dark : Bool) (y : Used) (o : Option (ChipRun W)) (r : ChipRun W) → o ≡ Some r → HoldO model g c enough F factory one two in_one in_two apart boot k dark y o → IsSome (copy_in_use r.chip) → is_quiet g r.chip.pages ≡ true
        → HoldO model g c enough F factory one two in_one in_two apart boot k dark true o
    hold_wakes dark true o r is h used quiet = h
    hold_wakes dark false o r is h used quiet =
        subst (HoldO model g c enough F factory one two in_one in_two apart boot k dark true) (sym is)
        (wakes model g c enough F factory one two in_one in_two apart boot.partitions dark r.chip r.attach_answers r.known r.pending (subst (HoldO model g c enough F factory one two in_one in_two apart boot k dark false) is h) (used, quiet))

    stays_used : (attaches more : ℕ) (turns later : List ℕ) (before now : ChipRun W) → IsFairAndQuietNow k past (course_after model boot starts attaches turns) before → IsSome (copy_in_use before.chip)
        → IsFairAndQuietNow k past (course_after model boot starts (attaches + more) (turns ++ later)) now
        → StandsAt model g c enough F factory one two in_one in_two apart boot.partitions (course_after model boot starts (attaches + more) (turns ++ later)).dark true now
    stays_used attaches more turns later before now h used i =
        subst (HoldO model g c enough F factory one two in_one in_two apart boot k (course_after model boot starts (attaches + more) (turns ++ later)).dark true) i.is_chip
        (subst (λ z. Hold model g c enough F factory one two in_one in_two apart boot k z (course_after model boot starts (attaches + more) (turns ++ later))) (z.1 refl) z.2)
      where
        m : Moment attaches turns before
        m = moment attaches turns before h

        hold : Hold model g c enough F factory one two in_one in_two apart boot k true (course_after model boot starts attaches turns)
        hold = hold_wakes (course_after model boot starts attaches turns).dark m.used (slice_get (course_after model boot starts attaches turns).chips k) before h.is_chip
            (subst (HoldO model g c enough F factory one two in_one in_two apart boot k (course_after model boot starts attaches turns).dark m.used) (sym h.is_chip) m.stands) used m.quiet

        z : (z : Used) × Later true z × Hold model g c enough F factory one two in_one in_two apart boot k z (course_after model boot starts (attaches + more) (turns ++ later))
        z = (later_moves model g c enough F factory one two in_one in_two apart boot k starts attaches more turns later).on true hold (good_now (attaches + more) (turns ++ later) now i)

    -- a copy that the next event leaves alone, and the copy in use
    pub found_at : (attaches more : ℕ) (turns later : List ℕ) (before now : ChipRun W) → IsFairAndQuietNow k past (course_after model boot starts attaches turns) before → IsSome (copy_in_use before.chip)
        → IsFairAndQuietNow k past (course_after model boot starts (attaches + more) (turns ++ later)) now
        → FoundBeside (block_in_change boot.partitions (course_after model boot starts (attaches + more) (turns ++ later)) now) now.chip
    found_at attaches more turns later before now h used i = on (course_after model boot starts (attaches + more) (turns ++ later)).dark (stays_used attaches more turns later before now h used i)
      where
        quiet : is_quiet g now.chip.pages ≡ true
        quiet = (moment (attaches + more) (turns ++ later) now i).quiet

        awake : ((b : ℕ) → Once g true b → ⊥) → ⊥
        awake f = f g.blocks (refl, refl)

        beside : (next : Option PageEvent) → AliveBefore model g c enough F factory one two in_one in_two apart boot.partitions true next now.chip → FoundBeside (block_changed now.chip.geometry next) now.chip
        beside next alive =
            let f = found-now g c enough (Shows g F (Once g true) AnyBlock) ((b : ℕ) → Once g true b → ⊥) next now.chip alive awake quiet in
            record { block = f.block; copy = f.copy; other = subst (λ q. block_changed q next ≢ Some f.block) (sym alive.holding.geometry) f.other; is_found = f.is_found; newest = f.newest; used = f.used }

        on : (dark : Bool) → StandsAt model g c enough F factory one two in_one in_two apart boot.partitions dark true now → FoundBeside (if dark then None else block_changed now.chip.geometry (next_chip_event boot.partitions now)) now.chip
        on true stands = beside None (alive_at model g c enough F factory one two in_one in_two apart boot.partitions true true now.chip now.attach_answers now.known now.pending stands)
        on false stands = beside (next_chip_event boot.partitions now) (before_event model g c enough F factory one two in_one in_two apart boot.partitions true now.chip now.attach_answers now.known now.pending stands)

front_of : {W : Type 0} (k : ℕ) (past : List (Course W)) (course : Course W) → IsFairAndQuiet k (past ++ course ∷ []) → IsFairAndQuiet k past
front_of k past course h =
    (and_parts (list_all (λ z. is_fair k z.notes && quiet_at k z) past) (list_all (λ z. is_fair k z.notes && quiet_at k z) (course ∷ []))
    (sym (list_all-append (λ z. is_fair k z.notes && quiet_at k z) past (course ∷ [])) ∙ h)).0

last_of : {W : Type 0} (k : ℕ) (past : List (Course W)) (course : Course W) → IsFairAndQuiet k (past ++ course ∷ []) → (is_fair k course.notes ≡ true) × (quiet_at k course ≡ true)
last_of k past course h =
    and_parts (is_fair k course.notes) (quiet_at k course)
    (and_parts (is_fair k course.notes && quiet_at k course) true
    (and_parts (list_all (λ z. is_fair k z.notes && quiet_at k z) past) (list_all (λ z. is_fair k z.notes && quiet_at k z) (course ∷ []))
    (sym (list_all-append (λ z. is_fair k z.notes && quiet_at k z) past (course ∷ [])) ∙ h)).1).0

module _ (g : Geometry) (c : Setting g) (enough : 4 ≤ g.blocks) (F : ℕ → Type 0) (factory : AreFactoryBad g c.is_good F)
    (one two : ℕ) (in_one : IsTableBlock g c.is_good one) (in_two : IsTableBlock g c.is_good two) (apart : one ≢ two)
    (partitions : Partitions) (news : List (ChipState SimFaults)) (boots : List Boot) (turns : List (List ℕ)) (past : List (Course SimFaults)) (boot : Boot)
    (k : ℕ) (new : ChipState SimFaults) (alive : Lives sim_faults g c enough F factory one two in_one in_two apart (λ b. ⊥) (λ b. ⊥) new)
    (has : (b : Boot) → Contains boots b → b.partitions ≡ partitions) (same : boot.partitions ≡ partitions) (runs : AreBoots sim_faults news boots turns past)
    (at : slice_get news k ≡ Some new) (fill : (course : Course SimFaults) → Contains past course → WritesFill g (notes_of_chip partitions k course.notes))
    (fill_now : (attaches : ℕ) (turns : List ℕ) → WritesFill g (notes_of_chip partitions k (course_after sim_faults boot (ends_of news past) attaches turns).notes)) where
  abbrev kind : Kind sim_faults g F partitions
  kind = with_tables sim_faults g c enough F factory one two in_one in_two apart partitions

  abbrev notes_before : List (List Note)
  notes_before = map (λ (z : Course SimFaults). z.notes) past

  record AtEnd : Type 0 where
    chip : ChipState SimFaults
    there : slice_get (ends_of news past) k ≡ Some chip
    lives : Lives sim_faults g c enough F factory one two in_one in_two apart (Acked partitions k notes_before) (Begun g partitions k notes_before) chip
    standing : AliveOn sim_faults g c enough F factory one two in_one in_two apart boot.partitions false chip

  at_end : IsFairAndQuiet k past → AtEnd
  unfolding with_tables
  at_end good =
      let l : LivesAfter sim_faults partitions k g F (with_tables sim_faults g c enough F factory one two in_one in_two apart partitions) (ends_of news past) notes_before =
      lives_after sim_faults partitions k g F (with_tables sim_faults g c enough F factory one two in_one in_two apart partitions) past boots turns news [] new has runs at
      (lives-fewer sim_faults g c enough F factory one two in_one in_two apart (λ b. ⊥) (λ b. ⊥) (Acked partitions k []) (Begun g partitions k []) (λ b a. false≢true a) (λ b x. absurd x) new alive) fill good in
      record {
        chip = l.chip;
        there = l.at;
        lives = l.alive;
        standing = lives-fewer sim_faults g c enough F factory one two in_one in_two apart (Acked partitions k notes_before) (Begun g partitions k notes_before) (Once g false) AnyBlock (λ b a. absurd (false≢true a.0)) (λ b z. tt) l.chip l.alive;
      }

  fill_here : (attaches : ℕ) (turns : List ℕ) → WritesFill g (notes_of_chip boot.partitions k (course_after sim_faults boot (ends_of news past) attaches turns).notes)
  fill_here attaches turns = subst (λ p. WritesFill g (notes_of_chip p k (course_after sim_faults boot (ends_of news past) attaches turns).notes)) (sym same) (fill_now attaches turns)

  pub copies_agree : (attaches : ℕ) (turns : List ℕ) (r : ChipRun SimFaults) → IsFairAndQuietNow k past (course_after sim_faults boot (ends_of news past) attaches turns) r → CopiesAgree r.chip
  copies_agree attaches turns r h =
      let e = at_end (front_of k past (course_after sim_faults boot (ends_of news past) attaches turns) h.so_far) in
      agree_now sim_faults g c enough F factory one two in_one in_two apart boot k (ends_of news past) past e.chip e.there e.standing fill_here attaches turns r h

  pub whole_copies : (attaches : ℕ) (turns : List ℕ) (r : ChipRun SimFaults) (known : Known) → IsFairAndQuietNow k past (course_after sim_faults boot (ends_of news past) attaches turns) r
      → r.known ≡ Some known → r.pending ≡ None → known.copies ≡ 2 → HoldsTheTable r.chip known
  whole_copies attaches turns r known h =
      let e = at_end (front_of k past (course_after sim_faults boot (ends_of news past) attaches turns) h.so_far) in
      whole_hold sim_faults g c enough F factory one two in_one in_two apart boot k (ends_of news past) past e.chip e.there e.standing fill_here attaches turns r known h

  -- the copy in use has every mark that was acknowledged so far
  newest_marks : (attaches : ℕ) (turns : List ℕ) (r : ChipRun SimFaults) → IsFairAndQuietNow k past (course_after sim_faults boot (ends_of news past) attaches turns) r
      → (b : ℕ) → b < g.blocks → Acked partitions k (notes_before ++ (course_after sim_faults boot (ends_of news past) attaches turns).notes ∷ []) b → (x : ℕ × Copy) → copy_in_use r.chip ≡ Some x → calls_bad x.1.states b ≡ true
  unfolding with_tables
  newest_marks attaches turns r h b small acked x used =
      used-shows g c enough (Shows g F (Acked partitions k all) (Begun g partitions k all)) ((d : ℕ) → Acked partitions k all d → ⊥) r.chip now (λ f. f b acked)
      (subst (λ q. is_quiet q r.chip.pages ≡ true) now.holding.geometry h.now) b (λ table s. s.acked b small acked) x used
    where
      course : Course SimFaults
      course = course_after sim_faults boot (ends_of news past) attaches turns

      all : List (List Note)
      all = notes_before ++ (course_after sim_faults boot (ends_of news past) attaches turns).notes ∷ []

      e : AtEnd
      e = at_end (front_of k past (course_after sim_faults boot (ends_of news past) attaches turns) h.so_far)

      last : (is_fair k (course_after sim_faults boot (ends_of news past) attaches turns).notes ≡ true) × (quiet_at k (course_after sim_faults boot (ends_of news past) attaches turns) ≡ true)
      last = last_of k past (course_after sim_faults boot (ends_of news past) attaches turns) h.so_far

      through : BootOf sim_faults partitions k e.chip (course_after sim_faults boot (ends_of news past) attaches turns)
      through = subst (λ p. BootOf sim_faults p k e.chip (course_after sim_faults boot (ends_of news past) attaches turns)) same
          (boot_at sim_faults boot (ends_of news past) (course_after sim_faults boot (ends_of news past) attaches turns) (course_holds sim_faults boot (ends_of news past) attaches turns) k e.chip e.there)

      lives : Lives sim_faults g c enough F factory one two in_one in_two apart (Acked partitions k all) (Begun g partitions k all) (after_trace sim_faults e.chip (trace_of through.life))
      lives = lives_through sim_faults partitions k g F (with_tables sim_faults g c enough F factory one two in_one in_two apart partitions) notes_before e.chip (course_after sim_faults boot (ends_of news past) attaches turns) through e.lives
          (fill_now attaches turns) last.0 last.1

      chip_is : after_trace sim_faults e.chip (trace_of through.life) ≡ r.chip
      chip_is = same_Some _ _ (sym through.next ∙ slice_get-map (λ (z : ChipRun SimFaults). z.chip) (course_after sim_faults boot (ends_of news past) attaches turns).chips k ∙ ap (option_map (λ (z : ChipRun SimFaults). z.chip)) h.is_chip)

      now : Lives sim_faults g c enough F factory one two in_one in_two apart (Acked partitions k all) (Begun g partitions k all) r.chip
      now = subst (Lives sim_faults g c enough F factory one two in_one in_two apart (Acked partitions k all) (Begun g partitions k all)) chip_is lives

  -- a whole copy stays
  pub one_copy : (attaches more : ℕ) (turns later : List ℕ) (before now : ChipRun SimFaults) → IsFairAndQuietNow k past (course_after sim_faults boot (ends_of news past) attaches turns) before → IsSome (copy_in_use before.chip)
      → IsFairAndQuietNow k past (course_after sim_faults boot (ends_of news past) (attaches + more) (turns ++ later)) now
      → CopiesAgree now.chip × KeepsACopy boot.partitions k now.chip (notes_before ++ (course_after sim_faults boot (ends_of news past) (attaches + more) (turns ++ later)).notes ∷ [])
      (block_in_change boot.partitions (course_after sim_faults boot (ends_of news past) (attaches + more) (turns ++ later)) now)
  one_copy attaches more turns later before now h used i = (
    copies_agree (attaches + more) (turns ++ later) now i,
    record {
      block = f.block;
      copy = f.copy;
      other = f.other;
      is_found = f.is_found;
      newest = f.newest;
      used = f.used;
      marks = λ b small acked.
          newest_marks (attaches + more) (turns ++ later) now i b (subst (λ q. b < q.blocks) geometry small)
          (subst (λ p. Acked p k (notes_before ++ (course_after sim_faults boot (ends_of news past) (attaches + more) (turns ++ later)).notes ∷ []) b) same acked) f.newest f.used;
    },
  )
    where
      e : AtEnd
      e = at_end (front_of k past (course_after sim_faults boot (ends_of news past) attaches turns) h.so_far)

      f : FoundBeside (block_in_change boot.partitions (course_after sim_faults boot (ends_of news past) (attaches + more) (turns ++ later)) now) now.chip
      f = found_at sim_faults g c enough F factory one two in_one in_two apart boot k (ends_of news past) past e.chip e.there e.standing fill_here attaches more turns later before now h used i

      geometry : now.chip.geometry ≡ g
      geometry = geometry_at sim_faults g c enough F factory one two in_one in_two apart boot k (ends_of news past) past e.chip e.there e.standing fill_here (attaches + more) (turns ++ later) now i

-- what is kept of a new chip with tables
pub record Tables (g : Geometry) (bad : List ℕ) (weak : List Weak) : Type 0 where
  pub c : Setting g
  pub enough : 4 ≤ g.blocks
  pub factory : AreFactoryBad g c.is_good (IsIn bad)
  pub one : ℕ
  pub two : ℕ
  pub in_one : IsTableBlock g c.is_good one
  pub in_two : IsTableBlock g c.is_good two
  pub apart : one ≢ two
  pub alive : Lives sim_faults g c enough (IsIn bad) factory one two in_one in_two apart (λ b. ⊥) (λ b. ⊥) (new_chip g bad weak)

pub tables_of : (g : Geometry) (bad : List ℕ) (weak : List Weak) → has_tables g ≡ true → HasTableBlocks g bad → Tables g bad weak
tables_of g bad weak tables few = record {
  c = record { is_good = is_good_of bad; laws = laws; tables = tables };
  enough = enough;
  factory = are_bad g bad;
  one = blocks.one;
  two = blocks.another;
  in_one = blocks.one_good;
  in_two = blocks.another_good;
  apart = blocks.apart;
  alive = new_lives g bad weak laws tables enough blocks.one blocks.another blocks.one_good blocks.another_good blocks.apart;
}
  where
    laws : PageLaws g
    laws = page_laws g

    enough : 4 ≤ g.blocks
    enough = omega (arith, (bounds g).blocks_low)

    blocks : TwoBlocks g (is_good_of bad)
    blocks = two-blocks g (is_good_of bad) enough (two_good g bad tables few)

pub one_copy_stays : OneCopyStaysInRuns
one_copy_stays partitions news boots turns past boot k g bad weak run next tables few attaches more taken later before now h used i =
    let t = tables_of g bad weak tables few in
    one_copy g t.c t.enough (IsIn bad) t.factory t.one t.two t.in_one t.in_two t.apart partitions news boots turns past boot k (new_chip g bad weak) t.alive run.one_list next.one_list run.runs run.new run.fills next.fills
    attaches more taken later before now h used i

pub whole_copies_hold : WholeCopiesHoldInRuns
whole_copies_hold partitions news boots turns past boot k g bad weak run next tables few attaches taken r known h e f are_two =
    let t = tables_of g bad weak tables few in
    whole_copies g t.c t.enough (IsIn bad) t.factory t.one t.two t.in_one t.in_two t.apart partitions news boots turns past boot k (new_chip g bad weak) t.alive run.one_list next.one_list run.runs run.new run.fills next.fills
    attaches taken r known h e f are_two
