-- What is left of a course that is over, by what its controller keeps.
use Rattle.std.proofs.Common.{◌≡◌, ◌<◌, ◌≤◌, ◌+◌, arith, ℕ, zero, suc, not, List, [], ◌∷◌, ◌++◌, length, map, take, Option, Some, None, refl, ap, sym, ◌∙◌, get_or, add-one}
use Rattle.std.specs.Prelude.{slice_get, option_map, All, sum_by}
use Rattle.std.proofs.lemmas.List.{take_more}
use Rattle.std.proofs.lemmas.List.Sums.{sum_by-cons, sum_by_push}
use Rattle.std.proofs.lemmas.Option.{slice_get-map, slice_get-get_or}
use Rattle.nand_iface.specs.declared.flash.Flash.{Ghosts}
use Rattle.nand_model.specs.declared.geometry.Geometry.{Geometry}
use Rattle.nand_model.specs.declared.words.Command.{Command}
use Rattle.nand_model.specs.declared.words.Note.{Note}
use Rattle.nand_model.specs.declared.words.Part.{Part}
use Rattle.nand_model.specs.declared.words.Stats.{Stats}
use Rattle.nand_model.specs.Sizes.{numbers_from}
use Rattle.nand_model.specs.Partitions.{Partitions, chip_of}
use Rattle.chip_paths.specs.Operation.{Known}
use Rattle.chip_paths.specs.ChipRun.{ChipRun, Pending, bad_blocks, bad_blocks_in}
use Rattle.nand_model.proofs.Bounds.{bounds_of}
use Rattle.command_model.specs.Session.{SessionRun, is_finished}
use Rattle.run_model.specs.Course.{end_states}
use Rattle.session_steps.specs.declared.session.Session.{Session}
use Rattle.session_steps.specs.Standing.{standing}
use Rattle.chip_paths.proofs.Tables.{one_table}
use Rattle.chip_paths.specs.Stage.{stage_by, stage_statistics}
use Rattle.ctl_core.specs.declared.board.Board.{Board}
use Rattle.ctl_core.specs.SlotState.{SlotState, slot_as, slots_as}
use Rattle.ctl_core.specs.Past.{Past, starts_of, course_of}
use Rattle.run_model.specs.Start.{IsOnChip}
use Rattle.ctl_core.specs.Ended.{end_beside, ends_beside, end_of_run, all_bad_blocks, slot_flash, slot_statistics_on, slot_statistics_at, slot_statistics, slot_bad_blocks}
use Rattle.run_model.specs.Statistics.{statistics_known, statistics_on, statistics_at, device_numbers, device_statistics}
use Rattle.ctl_core.specs.Board.{slot_states, IsOnCourse}
use Rattle.ctl_core.proofs.Devices.{all_at, chip_stays}
use Rattle.ctl_core.proofs.OnCourse.{holds, slot_there}

-- the numbers from one on, and one more
pub one_number_more : (a n : ℕ) → numbers_from a (n + 1) ≡ numbers_from a n ++ (a + n) ∷ []
one_number_more a n = ap (numbers_from a) (add-one n) ∙ later a n
  where
    later : (b m : ℕ) → numbers_from b (suc m) ≡ numbers_from b m ++ (b + m) ∷ []
    later b zero = let same : b ≡ b + 0 = omega arith in ap (λ x. x ∷ []) same
    later b (suc m) =
        let same : (b + 1) + m ≡ b + suc m = omega arith in
        ap (λ zs. b ∷ zs) (later (b + 1) m) ∙ ap (λ x. b ∷ numbers_from (b + 1) m ++ x ∷ []) same

pub mapped_push : {A B : Type 0} (f : A → B) (xs : List A) (x : A) → map f (xs ++ x ∷ []) ≡ map f xs ++ f x ∷ []
mapped_push f [] x = refl
mapped_push f (y ∷ xs) x = ap (λ zs. f y ∷ zs) (mapped_push f xs x)

-- one more item of a sum
pub sum_more : {A B : Type 0} (g : B → ℕ) (f : A → B) (xs : List A) (i : ℕ) (x : A) → i < length xs → x ≡ get_or xs i x → sum_by g (map f (take (i + 1) xs))
    ≡ sum_by g (map f (take i xs)) + g (f x)
sum_more g f xs i x h is =
    ap (λ zs. sum_by g (map f zs)) (take_more xs i x h) ∙ ap (sum_by g) (mapped_push f (take i xs) (get_or xs i x))
    ∙ sum_by_push g (map f (take i xs)) (f (get_or xs i x)) ∙ ap (λ y. sum_by g (map f (take i xs)) + g (f y)) (sym is)

-- lists whose items are alike
pub same_mapped : {A B C : Type 0} (f : A → C) (g : B → C) (xs : List A) (ys : List B) → length xs ≡ length ys
    → ((i : ℕ) (x : A) (y : B) → slice_get xs i ≡ Some x → slice_get ys i ≡ Some y → f x ≡ g y) → map f xs ≡ map g ys
same_mapped f g [] [] l h = refl
same_mapped f g [] (y ∷ ys) l h = absurd (omega (arith, l))
same_mapped f g (x ∷ xs) [] l h = absurd (omega (arith, l))
same_mapped f g (x ∷ xs) (y ∷ ys) l h = λ d. h zero x y refl refl d ∷ same_mapped f g xs ys (omega (arith, l)) (λ i a b e k. h (suc i) a b e k) d

pub same_sums : {A B : Type 0} (f : A → B) (g : B → ℕ) (h : A → ℕ) (xs : List A) → ((i : ℕ) (x : A) → slice_get xs i ≡ Some x → g (f x) ≡ h x)
    → sum_by g (map f xs) ≡ sum_by h xs
same_sums f g h [] same = refl
same_sums f g h (x ∷ xs) same =
    sum_by-cons g (f x) (map f xs) ∙ (λ d. same zero x refl d + same_sums f g h xs (λ i y e. same (suc i) y e) d) ∙ sym (sum_by-cons h x xs)

pub few_blocks_of : (g : Geometry) → g.blocks ≤ 4096
few_blocks_of g = (bounds_of g.page g.spare g.pages_per_block g.blocks g.t g.bbt g.threshold g.in_bounds).blocks_high

states_kept : {W : Type 0} (partitions : Partitions) (chips : List (ChipRun W)) → map slot_flash (slots_as partitions chips) ≡ map (λ c. c.chip) chips
states_kept partitions [] = refl
states_kept partitions (c ∷ chips) = ap (λ zs. c.chip ∷ zs) (states_kept partitions chips)

pub statistics_by : {W : Type 0} (partitions : Partitions) (c : ChipRun W) (known : Option Known) (pending : Option Pending) (dev : ℕ)
    → stage_statistics (stage_by partitions c known pending) dev ≡ statistics_known known dev
statistics_by partitions c None pending dev = refl
statistics_by partitions c (Some known) None dev = refl
statistics_by partitions c (Some known) (Some pending) dev = refl

statistics_kept : {W : Type 0} (partitions : Partitions) (chips : List (ChipRun W)) (k dev : ℕ)
    → slot_statistics_on (slice_get (slots_as partitions chips) k) dev ≡ statistics_on (slice_get chips k) dev
statistics_kept {W} partitions chips k dev = ap (λ (o : Option (SlotState W)). slot_statistics_on o dev) (slice_get-map (slot_as partitions) chips k)
    ∙ by_place (slice_get chips k)
  where
    by_place : (o : Option (ChipRun W)) → slot_statistics_on (option_map (slot_as partitions) o) dev ≡ statistics_on o dev
    by_place None = refl
    by_place (Some c) = statistics_by partitions c c.known c.pending dev

-- sessions that ended each as the one at its place ended alike
ends_alike : (begun : List (ℕ × List Command)) (notes : List Note) (sessions : List Session) (runs : List SessionRun) → length sessions ≡ length begun
    → length runs ≡ length begun
    → ((i : ℕ) (own : ℕ × List Command) (s : Session) (run : SessionRun) → slice_get begun i ≡ Some own → slice_get sessions i ≡ Some s
    → slice_get runs i ≡ Some run → end_beside own.1 (standing notes s) ≡ end_of_run run)
    → ends_beside begun notes sessions ≡ map end_of_run runs
ends_alike [] notes sessions [] many runs_many same = refl
ends_alike [] notes sessions (run ∷ runs) many runs_many same = absurd (omega arith)
ends_alike (own ∷ begun) notes [] runs many runs_many same = absurd (omega arith)
ends_alike (own ∷ begun) notes (s ∷ sessions) [] many runs_many same = absurd (omega arith)
ends_alike (own ∷ begun) notes (s ∷ sessions) (run ∷ runs) many runs_many same =
    let first : end_beside own.1 (standing notes s) ≡ end_of_run run = same 0 own s run refl refl refl in
    let rest : ends_beside begun notes sessions ≡ map end_of_run runs =
    ends_alike begun notes sessions runs (omega (arith, many)) (omega (arith, runs_many)) (λ i. same (suc i)) in
    λ d. first d ∷ rest d

-- no session ended yet
pub ends_none : (begun : List (ℕ × List Command)) (notes : List Note) → ends_beside begun notes [] ≡ []
ends_none [] notes = refl
ends_none (own ∷ begun) notes = refl

-- one more session ends
pub ends_push : (begun : List (ℕ × List Command)) (notes : List Note) (sessions : List Session) (s : Session) (commands : List Command)
    → option_map (λ (x : ℕ × List Command). x.1) (slice_get begun (length sessions)) ≡ Some commands
    → ends_beside begun notes (sessions ++ s ∷ []) ≡ ends_beside begun notes sessions ++ end_beside commands (standing notes s) ∷ []
ends_push [] notes sessions s commands here = cc
ends_push (own ∷ begun) notes [] s commands here =
    let own_first : Some own.1 ≡ Some commands = here in
    let same : own.1 ≡ commands = cc in
    ap (λ ends. end_beside own.1 (standing notes s) ∷ ends) (ends_none begun notes) ∙ ap (λ commands. end_beside commands (standing notes s) ∷ []) same
ends_push (own ∷ begun) notes (first ∷ sessions) s commands here =
    ap (λ ends. end_beside own.1 (standing notes first) ∷ ends) (ends_push begun notes sessions s commands here)

module _ {F C : Type 0} {flash : Ghosts F} (past : Past F) (board : Board F C flash) (on : IsOnCourse past board) where
  -- the parts lie on chips that are there
  pub parts_there : All (λ (part : Part). part.chip < length board.slots.items) past.boot.partitions.parts
  parts_there k d h =
      let part : Part = get_or past.boot.partitions.parts k d in
      let chip = all_at (IsOnChip (starts_of flash.state past)) past.boot.partitions.parts k part on.conditions.parts
      (slice_get-get_or past.boot.partitions.parts k d h) in
      let stays = chip_stays flash.fault_model past.boot (starts_of flash.state past) (course_of flash.fault_model flash.state past) (holds past board on)
      part.chip chip.0 chip.1 in
      (slot_there past board on part.chip stays.0 stays.1).1

  pub last_states : map slot_flash (slot_states board) ≡ end_states (course_of flash.fault_model flash.state past)
  last_states = ap (map slot_flash) on.stands.keeps.of_chips ∙ states_kept past.boot.partitions (course_of flash.fault_model flash.state past).chips

  pub last_outcomes : ends_beside past.boot.sessions board.notes.notes board.sessions.items ≡ map end_of_run (course_of flash.fault_model flash.state past).sessions
  last_outcomes = ends_alike past.boot.sessions board.notes.notes board.sessions.items
      (course_of flash.fault_model flash.state past).sessions on.stands.mirrors.many on.stands.mirrors.runs_many same_end
    where
      same_end : (i : ℕ) (own : ℕ × List Command) (s : Session) (run : SessionRun) → slice_get past.boot.sessions i ≡ Some own
          → slice_get board.sessions.items i ≡ Some s
          → slice_get (course_of flash.fault_model flash.state past).sessions i ≡ Some run
          → end_beside own.1 (standing board.notes.notes s) ≡ end_of_run run
      same_end i own s run begun at there =
          let m = (on.stands.mirrors.each i own s run begun at there).1 in
          λ d. record { session = sym m.shows.number d; cut = not (is_finished (sym m.shows.left d)); outcomes = sym m.shows.outcomes d }

  pub last_statistics : slot_statistics past.boot.partitions (slot_states board) (device_numbers past.boot.partitions)
      ≡ device_statistics past.boot.partitions (course_of flash.fault_model flash.state past)
  last_statistics =
      ap (λ cs. slot_statistics past.boot.partitions cs (device_numbers past.boot.partitions)) on.stands.keeps.of_chips
      ∙ same_mapped (λ dev. (
        dev,
        slot_statistics_at (slots_as past.boot.partitions (course_of flash.fault_model flash.state past).chips)
            (chip_of past.boot.partitions dev) dev,
      ))
      (λ dev. (dev, statistics_at (course_of flash.fault_model flash.state past) (chip_of past.boot.partitions dev) dev))
      (device_numbers past.boot.partitions) (device_numbers past.boot.partitions) refl same_device
    where
      by_chip : (o : Option ℕ) (dev : ℕ) → slot_statistics_at (slots_as past.boot.partitions (course_of flash.fault_model flash.state past).chips) o dev
          ≡ statistics_at (course_of flash.fault_model flash.state past) o dev
      by_chip None dev = refl
      by_chip (Some k) dev = statistics_kept past.boot.partitions (course_of flash.fault_model flash.state past).chips k dev

      same_device : (i : ℕ) (x y : ℕ) → slice_get (device_numbers past.boot.partitions) i ≡ Some x → slice_get (device_numbers past.boot.partitions) i ≡ Some y
          → ◌≡◌ {A = ℕ × Stats} (
            x,
            slot_statistics_at (slots_as past.boot.partitions (course_of flash.fault_model flash.state past).chips)
                (chip_of past.boot.partitions x) x,
          )
          (y, statistics_at (course_of flash.fault_model flash.state past) (chip_of past.boot.partitions y) y)
      same_device i x y h g =
          let same : x ≡ y = cc (h, g) in
          (λ d. (x, by_chip (chip_of past.boot.partitions x) x d)) ∙ ap (λ z. (
            z,
            statistics_at (course_of flash.fault_model flash.state past)
                (chip_of past.boot.partitions z) z,
          )) same

  pub last_bad : sum_by slot_bad_blocks (slot_states board)
      ≡ all_bad_blocks past.boot.partitions (course_of flash.fault_model flash.state past)
  last_bad =
      ap (sum_by slot_bad_blocks) on.stands.keeps.of_chips
      ∙ same_sums (slot_as past.boot.partitions) slot_bad_blocks (λ (c : ChipRun flash.FaultState). bad_blocks past.boot.partitions c)
      (course_of flash.fault_model flash.state past).chips same_bad
    where
      same_bad : (i : ℕ) (c : ChipRun flash.FaultState) → slice_get (course_of flash.fault_model flash.state past).chips i ≡ Some c
          → slot_bad_blocks (slot_as past.boot.partitions c) ≡ bad_blocks past.boot.partitions c
      same_bad i c at = ap bad_blocks_in (one_table past.boot.partitions c c.known c.pending)
