-- How much the devices of a course have counted.
use Rattle.std.proofs.Common.{◌≡◌, ◌⊎◌, inl, inr, ℕ, zero, suc, ◌+◌, ◌*◌, ◌≤◌, List, [], ◌∷◌, ◌++◌, length, map, Option, Some, None, refl, ap, sym, subst, arith}
use Rattle.std.specs.Prelude.{⊤, slice_get, option_map}
use Rattle.std.proofs.lemmas.Bool.{cases_eq}
use Rattle.nand_model.specs.declared.geometry.Geometry.{Geometry}
use Rattle.nand_model.specs.declared.tear.Tear.{Tear}
use Rattle.nand_model.specs.declared.words.Command.{Command}
use Rattle.chip_paths.specs.Attach.{Attaching, attach_path}
use Rattle.nand_model.specs.Chip.{ChipState, Complete, FaultModel, PageEvent, PowerCut, done_bits, happens}
use Rattle.chip_paths.specs.Operation.{Finished, Known}
use Rattle.nand_model.specs.Path.{Answer, Over, Path, Then, after_answers, answer_to}
use Rattle.chip_paths.specs.ChipRun.{ChipRun, Pending, advanced, answered_by, chip_at_start, finished_by, known_once_over, torn_at, torn_by, with_finished, with_pending}
use Rattle.nand_model.specs.Sizes.{raw_len}
use Rattle.command_model.specs.Boot.{Boot, change_at}
use Rattle.run_model.specs.Course.{Course, attach_step, attach_steps, course_after, event_done, finish, sizes_of, start_of_boot, turn_step, turns_taken, with_flips_before}
use Rattle.run_laws.proofs.Courses.{Rest, due_rest, rest, rest_of}
use Rattle.run_laws.proofs.Places.{change_elsewhere, change_here}
use Rattle.statistics_laws.specs.Counts.{CountsAreSmall, HasCounted}
use Rattle.statistics_laws.proofs.Steps.{by_attach, by_turn, flipped_chips}
use Rattle.statistics_laws.proofs.Operations.{ending_counts, operation_ending}

-- what is known of a chip, if anything is, has counted at most so many
abbrev KnownCounts : ℕ → Option Known → Type 0
KnownCounts most None = ⊤
KnownCounts most (Some known) = HasCounted most known

abbrev Counts : ℕ → Option Rest → Type 0
Counts most None = ⊤
Counts most (Some r) = KnownCounts most r.known

more_known : (n m : ℕ) (o : Option Known) → n ≤ m → KnownCounts n o → KnownCounts m o
more_known n m None le h = tt
more_known n m (Some known) le h = λ dev. let both = h dev in (omega (arith, both.0, le), omega (arith, both.1, le))

more_counts : (n m : ℕ) (o : Option Rest) → n ≤ m → Counts n o → Counts m o
more_counts n m None le h = tt
more_counts n m (Some r) le h = more_known n m r.known le h

module _ {W : Type 0} (model : FaultModel W) (boot : Boot) (starts : List (ChipState W)) where
  -- the devices of these chips have counted at most so many
  abbrev ChipsCount : ℕ → List (ChipRun W) → Type 0
  ChipsCount most chips = (k : ℕ) → Counts most (rest_of (slice_get chips k))

  more_all : (n m : ℕ) (chips : List (ChipRun W)) → n ≤ m → ChipsCount n chips → ChipsCount m chips
  more_all n m chips le h k = more_counts n m (rest_of (slice_get chips k)) le (h k)

  -- the chips with one of them changed to one that has counted no more
  changed_counts : (most : ℕ) (chips : List (ChipRun W)) (k : ℕ) (f : ChipRun W → ChipRun W) → ChipsCount most chips
      → ((c : ChipRun W) → slice_get chips k ≡ Some c → KnownCounts most (f c).known) → ChipsCount most (change_at chips k f)
  changed_counts most chips k f h new j = by_case (cases_eq k j)
    where
      here : (o : Option (ChipRun W)) → slice_get chips k ≡ o → Counts most (rest_of (option_map f o))
      here None e = tt
      here (Some c) e = new c e

      by_case : (k ≡ j) ⊎ (k ≡ j → ⊥) → Counts most (rest_of (slice_get (change_at chips k f) j))
      by_case (inl same) =
          subst (λ i. Counts most (rest_of (slice_get (change_at chips k f) i))) same
          (subst (λ (o : Option (ChipRun W)). Counts most (rest_of o)) (sym (change_here chips k f)) (here (slice_get chips k) refl))
      by_case (inr other) = subst (λ (o : Option (ChipRun W)). Counts most (rest_of o)) (sym (change_elsewhere chips k j f other)) (h j)

  -- flips count nothing
  flips_count : (most n : ℕ) (chips : List (ChipRun W)) → ChipsCount most chips → ChipsCount most (with_flips_before model boot n chips)
  flips_count most n chips h k = subst (Counts most) (sym (due_rest model boot starts chips n k)) (h k)

  -- an attach begins at 0
  once_over : (most : ℕ) (path : Path Attaching) → KnownCounts most (known_once_over path)
  once_over most (Over attaching) = λ dev. (omega arith, omega arith)
  once_over most (Then event rest) = tt

  -- an event counts nothing
  answered_counts : (most : ℕ) (c : ChipRun W) (after : ChipState W) (answer : Answer) (known : Option Known) → KnownCounts most known → c.known ≡ known
      → KnownCounts most (answered_by c after answer known).known
  answered_counts most c after answer None h e = once_over most (after_answers (c.attach_answers ++ answer ∷ []) (attach_path c.chip.geometry))
  answered_counts most c after answer (Some known) h e = subst (KnownCounts most) (sym e) h

  torn_counts : (most : ℕ) (c : ChipRun W) (after : ChipState W) (known : Option Known) → KnownCounts most c.known → KnownCounts most (torn_by c after known).known
  torn_counts most c after None h = h
  torn_counts most c after (Some known) h = h

  of_chip : (most : ℕ) (chips : List (ChipRun W)) (k : ℕ) (c : ChipRun W) → slice_get chips k ≡ Some c → ChipsCount most chips → KnownCounts most c.known
  of_chip most chips k c e h = subst (Counts most) (ap rest_of e) (h k)

  done_counts : (most : ℕ) (course : Course W) (chips : List (ChipRun W)) (k n : ℕ) (c : ChipRun W) (e : PageEvent) (tear : Option Tear)
      → slice_get chips k ≡ Some c → ChipsCount most chips → ChipsCount most (event_done model boot course chips k n c e tear).chips
  done_counts most course chips k n c e None there h =
      changed_counts most chips k (λ old. advanced model c e) h
      (λ old at. answered_counts most c (happens model c.chip (Complete e)) (answer_to model c.chip e) c.known (of_chip most chips k c there h) refl)
  done_counts most course chips k n c e (Some tear) there h =
      changed_counts most chips k (λ old. torn_at model c e (done_bits (raw_len c.chip.geometry) tear)) h
      (λ old at. torn_counts most c (happens model c.chip (PowerCut e (done_bits (raw_len c.chip.geometry) tear))) c.known (of_chip most chips k c there h))

  -- an answer counts at most 128 more
  answered_more : (most : ℕ) (sizes : Command → Geometry) (course : Course W) (k : ℕ) (c : ChipRun W) (known : Known) (pending : Pending) (finished : Finished)
      → ChipsCount most course.chips → HasCounted most known → finished_by boot.partitions c known pending ≡ Some finished
      → ChipsCount (most + 128) (finish sizes course k c pending.session (Some finished)).chips
  answered_more most sizes course k c known pending finished h own e =
      changed_counts (most + 128) course.chips k (λ old. with_finished c finished) (more_all most (most + 128) course.chips (omega arith) h)
      (λ old at dev. let before = own dev in
      let ending = operation_ending c.chip.geometry boot.partitions known pending.op pending.answers finished e in
      let more = ending_counts c.chip.geometry known pending.op finished ending dev in
      (omega (arith, before.0, more.0), omega (arith, before.1, more.1)))

  -- a turn counts at most 128 more
  turn_counts : (most : ℕ) (course : Course W) (session : ℕ) → ChipsCount most course.chips
      → ChipsCount (most + 128) (turn_step model boot (sizes_of boot starts) course session).chips
  turn_counts most course session h =
      by_turn model boot (sizes_of boot starts) course (λ (after : Course W). ChipsCount (most + 128) after.chips) (record {
        same = more_all most (most + 128) course.chips (omega arith) h;
        event = λ k c e tear there. done_counts (most + 128) course (flipped_chips model boot (sizes_of boot starts) course) k (course.events + 1) c e tear there
            (flips_count (most + 128) (course.events + 1) course.chips (more_all most (most + 128) course.chips (omega arith) h));
        begins = λ asker k op at. changed_counts (most + 128) course.chips k (λ c. with_pending c asker op)
            (more_all most (most + 128) course.chips (omega arith) h)
            (λ c there. more_known most (most + 128) c.known (omega arith) (of_chip most course.chips k c there h));
        answers = λ k c known pending finished there knows asks e. answered_more most (sizes_of boot starts) course k c known pending finished h
            (subst (KnownCounts most) knows (of_chip most course.chips k c there h)) e;
      }) session

  turns_count : (turns : List ℕ) (most last : ℕ) (course : Course W) → last ≡ most + 128 * length turns → ChipsCount most course.chips
      → ChipsCount last (turns_taken model boot starts turns course).chips
  turns_count [] most last course e h = more_all most last course.chips (omega (arith, e)) h
  turns_count (session ∷ turns) most last course e h =
      turns_count turns (most + 128) last (turn_step model boot (sizes_of boot starts) course session) (omega (arith, e)) (turn_counts most course session h)

  -- an attach step counts nothing
  attaches_count : (most attaches : ℕ) (course : Course W) → ChipsCount most course.chips → ChipsCount most (attach_steps model boot starts attaches course).chips
  attaches_count most zero course h = h
  attaches_count most (suc n) course h =
      attaches_count most n (attach_step model boot (sizes_of boot starts) course)
      (by_attach model boot (sizes_of boot starts) course (λ (after : Course W). ChipsCount most after.chips) (record {
        same = h;
        event = λ k c e tear there. done_counts most course (flipped_chips model boot (sizes_of boot starts) course) k (course.events + 1) c e tear there
            (flips_count most (course.events + 1) course.chips h);
      }))

  none_known : (chips : List (ChipState W)) (k : ℕ) → Counts 0 (rest_of (slice_get (map chip_at_start chips) k))
  none_known [] k = tt
  none_known (s ∷ chips) zero = tt
  none_known (s ∷ chips) (suc k) = none_known chips k

  pub counts_small : (attaches : ℕ) (turns : List ℕ) → CountsAreSmall model boot starts attaches turns
  counts_small attaches turns k c known there e =
      let all = turns_count turns 0 (128 * length turns) (attach_steps model boot starts attaches (start_of_boot boot starts)) (omega arith)
      (attaches_count 0 attaches (start_of_boot boot starts) (none_known starts)) in
      subst (KnownCounts (128 * length turns)) e (of_chip (128 * length turns) (course_after model boot starts attaches turns).chips k c there all)
