-- What a controller leaves of a boot, by its notes.
use Rattle.std.proofs.Common.{◌≡◌, ◌≤◌, ◌<◌, ◌+◌, ◌⊎◌, inl, inr, ℕ, zero, suc, Bool, true, false, cond, List, [], length, map, Some, refl, ap, sym, ◌∙◌, subst, arith}
use Rattle.std.specs.Prelude.{count_by, ◌==◌}
use Rattle.std.proofs.lemmas.Bool.{cases_eq, eq-eqb, ne_eqb}
use Rattle.std.proofs.lemmas.List.{length-map}
use Rattle.std.proofs.lemmas.List.Sums.{sum_by-cons}
use Rattle.std.proofs.lemmas.Option.{slice_get-get_or, slice_get_within}
use Rattle.nand_model.specs.Chip.{ChipState, SimFaults, sim_faults}
use Rattle.nand_model.specs.Partitions.{chip_of}
use Rattle.nand_model.specs.Sizes.{numbers_from}
use Rattle.nand_model.specs.declared.geometry.Geometry.{Geometry}
use Rattle.nand_model.specs.declared.words.Command.{Command}
use Rattle.nand_model.specs.declared.words.Note.{Note}
use Rattle.command_model.specs.Boot.{Boot, geometry_for}
use Rattle.command_model.specs.Reads.{reads_of}
use Rattle.command_model.specs.Session.{exchanges_of, session_after, without_finished}
use Rattle.run_model.specs.Course.{Course, course_after, sizes_of}
use Rattle.run_model.specs.Statistics.{device_numbers, device_statistics, statistics_at}
use Rattle.run_laws.specs.Replay.{rounds_after, session_numbers}
use Rattle.statistics_laws.specs.Counts.{StandOnce, StatisticsFollow}
use Rattle.statistics_laws.proofs.Follows.{statistics_follow}
use Rattle.plan_model.specs.Plan.{PlanData, SessionPlan, devices_of, sessions_from}
use Rattle.plan_laws.specs.Ready.{HaveSizes, boot_at, chips_at, part_at}
use Rattle.report_model.specs.Report.{geometry_in}
use Rattle.ctl_core.specs.Ended.{end_of_run, ends_by_notes}
use Rattle.headline_laws.specs.Replays.{own_schedule}
use Rattle.headline_laws.proofs.Parts.{IsSessionAt, session_at}
use Rattle.headline_laws.proofs.Replays.{of_replayed}
use Rattle.onfi_bus.specs.Lab.{lab_state}
use Rattle.plan_replay.specs.declared.controller.EndedController.{EndedController}
use Rattle.plan_replay.specs.Ends.{ends_in, sums_in, sums_of}
use Rattle.plan_replay.specs.Boots.{EndsBoot, EndsReplay, notes_of}

-- each number from m on stands once among n of them
none_before : (s m n : ℕ) → s < m → count_by (λ k. k == s) (numbers_from m n) ≡ 0
none_before s m zero low = refl
none_before s m (suc n) low =
    let later = none_before s (m + 1) n (omega arith) in
    sum_by-cons (λ k. cond (k == s) 1 0) m (numbers_from (m + 1) n)
    ∙ ap (λ b. cond b 1 0 + count_by (λ k. k == s) (numbers_from (m + 1) n)) (ne_eqb m s (λ e. omega (arith, e)))
    ∙ (let none : 0 + count_by (λ k. k == s) (numbers_from (m + 1) n) ≡ 0 = omega (arith, later) in none)

stands_once : (s m n : ℕ) → m ≤ s → s < m + n → count_by (λ k. k == s) (numbers_from m n) ≡ 1
stands_once s m zero low high = absurd (omega arith)
stands_once s m (suc n) low high = by_case (cases_eq m s) (λ more. stands_once s (m + 1) n more (omega arith))
  where
    counted : (b : Bool) → (m == s) ≡ b → count_by (λ k. k == s) (numbers_from m (suc n)) ≡ cond b 1 0 + count_by (λ k. k == s) (numbers_from (m + 1) n)
    counted b e = sum_by-cons (λ k. cond (k == s) 1 0) m (numbers_from (m + 1) n) ∙ ap (λ v. cond v 1 0 + count_by (λ k. k == s) (numbers_from (m + 1) n)) e

    by_case : (m ≡ s) ⊎ (m ≡ s → ⊥) → (m + 1 ≤ s → count_by (λ k. k == s) (numbers_from (m + 1) n) ≡ 1) → count_by (λ k. k == s) (numbers_from m (suc n)) ≡ 1
    by_case (inl e) later =
        let none = none_before s (m + 1) n (omega (arith, e)) in
        counted true (eq-eqb m s e) ∙ (let one : 1 + count_by (λ k. k == s) (numbers_from (m + 1) n) ≡ 1 = omega (arith, none) in one)
    by_case (inr d) later =
        let above : m + 1 ≤ s = omega (arith, d) in
        let one = later above in
        counted false (ne_eqb m s d) ∙ (let all : 0 + count_by (λ k. k == s) (numbers_from (m + 1) n) ≡ 1 = omega (arith, one) in all)

-- each session of a controller stands once among all sessions of a boot
once : (plan : PlanData) (n c : ℕ) → StandOnce (part_at plan n c) (numbers_from 0 (length (boot_at plan n).sessions))
once plan n c session commands has =
    let sessions = (boot_at plan n).sessions in
    let own : IsSessionAt 0 sessions (session, commands) =
    session_at c 0 sessions has.0 (session, commands)
    (slice_get-get_or (part_at plan n c).sessions has.0 (session, commands) has.1 ∙ ap Some has.2) in
    let within = slice_get_within (map (λ (s : SessionPlan). s.commands) sessions) own.place commands own.commands in
    let many = length-map sessions (λ (s : SessionPlan). s.commands) in
    let number = own.number in
    stands_once session 0 (length sessions) (omega arith) (omega (arith, within, many, number))

module _ (plan : PlanData) (n c : ℕ) (starts : List (ChipState SimFaults)) where
  abbrev part : Boot
  part = part_at plan n c

  -- the sizes of a controller's commands are those of its flashes
  same_sizes : HaveSizes (chips_at plan c) starts → sizes_of part starts ≡ geometry_in plan c
  same_sizes sizes = ap (geometry_for (devices_of plan c (chips_at plan c))) sizes

  -- how the sessions ended
  same_ends : HaveSizes (chips_at plan c) starts → (notes : List Note) → ends_by_notes part starts notes ≡ ends_in plan c (boot_at plan n) notes
  same_ends sizes notes =
      ap (λ (g : Command → Geometry). map (λ (own : ℕ × List Command). end_of_run (session_after g (without_finished g own.0 own.1 [] []) (exchanges_of own.0 notes)))
      (sessions_from c 0 (boot_at plan n).sessions)) (same_sizes sizes)

  -- what the devices counted
  same_sums : (attaches : ℕ) (turns : List ℕ) (course : Course SimFaults) → course ≡ course_after sim_faults part starts attaches turns
      → device_statistics part.partitions course ≡ sums_in plan c (boot_at plan n) course.notes
  same_sums attaches turns course steps = λ i. map (λ dev. (dev, sums dev i)) (device_numbers part.partitions)
    where
      sums : (dev : ℕ) → statistics_at course (chip_of part.partitions dev) dev
          ≡ sums_of (reads_of dev (numbers_from 0 (length (boot_at plan n).sessions)) course.notes)
      sums dev =
          subst (λ (x : Course SimFaults). statistics_at x (chip_of part.partitions dev) dev
          ≡ sums_of (reads_of dev (numbers_from 0 (length (boot_at plan n).sessions)) x.notes)) (sym steps)
          (λ i. record { corrected = counted.corrected i; failed = counted.failed i })
        where
          counted : StatisticsFollow sim_faults part starts attaches turns (numbers_from 0 (length (boot_at plan n).sessions)) dev
          counted = statistics_follow sim_faults part starts attaches turns (numbers_from 0 (length (boot_at plan n).sessions)) (once plan n c) dev

  -- a controller that was replayed went through the boot
  pub ends_boot : (ended : EndedController) → HaveSizes (chips_at plan c) starts
      → EndsReplay part starts (own_schedule (boot_at plan n) c) (map lab_state ended.flashes) (notes_of ended) ended.outcomes ended.stats ended.bad
      → (course : Course SimFaults) × EndsBoot plan n c starts course ended
  ends_boot ended sizes h = (
    h.course,
    record {
      replay = of_replayed plan c (chips_at plan c) (boot_at plan n) starts h.course h.replayed;
      flashes_are = h.flashes_are;
      notes_are = h.notes_are;
      by_notes = record {
        ends_are = h.ends_are ∙ same_ends sizes h.course.notes ∙ ap (ends_in plan c (boot_at plan n)) (sym h.notes_are);
        sums_are = h.sums_are
            ∙ same_sums h.replayed.attaches (rounds_after (own_schedule (boot_at plan n) c) (session_numbers part) h.replayed.rounds) h.course h.replayed.steps
            ∙ ap (sums_in plan c (boot_at plan n)) (sym h.notes_are);
      };
      bad_are = h.bad_are;
    },
  )
