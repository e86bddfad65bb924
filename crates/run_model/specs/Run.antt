-- Runs of several boots of one controller: each boot starts from the states that the one before it
-- left.
use Rattle.std.specs.Prelude.{◌≡◌, ◌≢◌, ◌⊎◌, ◌==◌, ℕ, ◌+◌, ◌/◌, ◌%◌, Bool, true, IsTrue, false, not, count_by, ◌≤◌, ◌<◌, ◌&&◌, if◌then◌else◌, List, [], ◌∷◌, ◌++◌, length, map, take, slice_get, Option, Some, None, IsSome, ⊤, Contains}
use Rattle.std.specs.List.{list_all, list_any, AllZip}
use Rattle.nand_model.specs.Sizes.{first_page}
use Rattle.nand_model.specs.Chip.{ChipState, FaultModel, PageEvent, ReadEvent, ProgramEvent, EraseEvent}
use Rattle.nand_model.specs.Table.{Copy, copy_in, calls_bad, has_tables, table_blocks, read_again}
use Rattle.chip_paths.specs.Copies.{candidates, chosen, used_copy, found, copies_held, is_disowned}
use Rattle.nand_model.specs.Partitions.{Partitions}
use Rattle.chip_paths.specs.Operation.{Known}
use Rattle.nand_model.specs.Quiet.{is_quiet}
use Rattle.chip_paths.specs.ChipRun.{ChipRun, next_chip_event}
use Rattle.command_model.specs.Boot.{Boot}
use Rattle.run_model.specs.Course.{Course, IsWholeCourse, course_after, end_states, sizes_of, is_over}
use Rattle.command_model.specs.Session.{SessionRun, without_finished, is_finished, FollowsCommands, exchanges_of, session_after}
use Rattle.run_model.specs.History.{events_in, was_quiet, ChipBoot, AreOneThread}
use Rattle.run_model.specs.Log.{Log, AreOfLog, AreOfLogs, first_boots, later_boots}
use Rattle.run_model.specs.Marking.{ShowsMarks, marking_acknowledged}
use Rattle.nand_model.specs.declared.geometry.Geometry.{Geometry}
use Rattle.nand_model.specs.declared.words.Which.TheVariants.{Primary, Mirror}
use Rattle.nand_model.specs.declared.words.Command.{Command}
use Rattle.nand_model.specs.declared.words.Origin.{Origin}
use Rattle.nand_model.specs.declared.words.Fairness.TheVariants.{Foul}
use Rattle.nand_model.specs.declared.words.Note.{Note}
use Rattle.nand_model.specs.declared.words.Note.TheVariants.{Attached, Torn}

-- the boots of a run, each with its turns and its course
abbrev pub AreBoots : {W : Type 0} → FaultModel W → List (ChipState W) → List Boot → List (List ℕ) → List (Course W)
    → Type 0
AreBoots model starts [] [] [] = ⊤
AreBoots model starts (boot ∷ boots) (turns ∷ more) (course ∷ courses) =
    IsWholeCourse model boot starts turns course × AreBoots model (end_states course) boots more courses
AreBoots model starts _ _ _ = ⊥

-- no torn event of chip k in these notes was foul
abbrev pub is_fair_note : ℕ → Note → Bool
is_fair_note k (Torn chip number event cut Foul) = not (chip == k)
is_fair_note k _ = true

-- no torn event of chip k was foul
abbrev pub is_fair : ℕ → List Note → Bool
is_fair k notes = list_all (is_fair_note k) notes

-- the attach of this chip was quiet so far (a chip that is not there: as well)
abbrev pub quiet_of : {W : Type 0} → Option (ChipRun W) → Bool
quiet_of None = true
quiet_of (Some c) = c.quiet

-- each attach of chip k so far was quiet, one that a cut ended too
abbrev pub quiet_at : {W : Type 0} → ℕ → Course W → Bool
quiet_at k course = quiet_of (slice_get course.chips k)

-- in a course, the attach of each chip was quiet just where the trace of what befell the chip says
-- so
abbrev pub AreQuietAsTraced : {W : Type 0} → FaultModel W → List (ChipState W) → List ChipBoot → Course W → Type 0
AreQuietAsTraced {W} model starts lives course =
    (k : ℕ) (s : ChipState W) (b : ChipBoot) → slice_get starts k ≡ Some s → slice_get lives k ≡ Some b →
    quiet_at k course ≡ was_quiet model s (events_in b.attach)

-- and so in each course of a run, the boots of which began in these states and in those that the
-- courses left
abbrev pub AreAllQuietAsTraced : {W : Type 0} → FaultModel W → List (ChipState W) → List (List ChipBoot)
    → List (Course W) → Type 0
AreAllQuietAsTraced model starts lives [] = ⊤
AreAllQuietAsTraced model starts lives (course ∷ courses) =
    AreQuietAsTraced model starts (first_boots lives) course
    × AreAllQuietAsTraced model (end_states course) (later_boots lives) courses

-- a session of a boot at its start
abbrev pub session_at_start : {W : Type 0} → Boot → List (ChipState W) → ℕ → List Command → SessionRun
session_at_start boot starts session commands = without_finished (sizes_of boot starts) session commands [] []

-- the operations of each session of a boot are those of its commands, in order and each once, as
-- far as the notes go, and no other session has any
pub record AreInOrder {W : Type 0} (boot : Boot) (starts : List (ChipState W)) (notes : List Note) : Type 0 where
  pub own : (session : ℕ) (commands : List Command) → Contains boot.sessions (session, commands)
      → FollowsCommands (sizes_of boot starts) (session_at_start boot starts session commands)
      (exchanges_of session notes)
  pub no_other : (session : ℕ) → ((commands : List Command) → Contains boot.sessions (session, commands) → ⊥)
      → exchanges_of session notes ≡ []

-- and nothing of any session is left
abbrev pub AreComplete : {W : Type 0} → Boot → List (ChipState W) → List Note → Type 0
AreComplete boot starts notes =
    (session : ℕ) (commands : List Command) → Contains boot.sessions (session, commands) →
    is_finished (session_after (sizes_of boot starts) (session_at_start boot starts session commands)
    (exchanges_of session notes)).commands ≡ true

-- no two sessions have one number, unless they have the same commands
abbrev pub HaveOneNumberEach : List (ℕ × List Command) → Type 0
HaveOneNumberEach sessions = (n : ℕ) (a b : List Command) → Contains sessions (n, a) → Contains sessions (n, b) → a ≡ b

-- for every list of turns: the notes of a course are those of one thread, whose traces are what
-- befell the chips by one list of page events, with the boot's flips and cut; they lead to the
-- states that the course leaves; and each session's operations are those of its commands
pub record CoursesAreFaithful {W : Type 0} (model : FaultModel W) (boot : Boot) (starts : List (ChipState W))
    (attaches : ℕ) (turns : List ℕ) : Type 0 where
  pub lives : List ChipBoot
  pub log : Log
  pub counted : (course_after model boot starts attaches turns).events ≡ length log
  pub of_log : AreOfLog model boot starts lives (end_states (course_after model boot starts attaches turns)) log
  pub quiet : AreQuietAsTraced model starts lives (course_after model boot starts attaches turns)
  pub one_thread : AreOneThread model boot.partitions starts (map (λ (b : ChipBoot). b ∷ []) lives)
      ((course_after model boot starts attaches turns).notes ∷ [])
  pub in_order : HaveOneNumberEach boot.sessions
      → AreInOrder boot starts (course_after model boot starts attaches turns).notes
  pub complete : HaveOneNumberEach boot.sessions → is_over (course_after model boot starts attaches turns) ≡ true
      → (course_after model boot starts attaches turns).dark ≡ false
      → AreComplete boot starts (course_after model boot starts attaches turns).notes

-- over all boots, each from the states that the one before it left
pub record RunsAreFaithful {W : Type 0} (model : FaultModel W) (partitions : Partitions) (starts : List (ChipState W))
    (boots : List Boot) (courses : List (Course W)) : Type 0 where
  pub lives : List (List ChipBoot)
  pub logs : List Log
  pub counted : map (λ (c : Course W). c.events) courses ≡ map (λ (log : Log). length log) logs
  pub of_logs : AreOfLogs model starts boots courses lives logs
  pub quiet : AreAllQuietAsTraced model starts lives courses
  pub one_thread : AreOneThread model partitions starts lives (map (λ (c : Course W). c.notes) courses)
  pub in_order : AllZip (λ boot notes. HaveOneNumberEach boot.sessions → AreInOrder boot starts notes) boots
      (map (λ (c : Course W). c.notes) courses)
  pub complete : AllZip (λ boot (course : Course W). HaveOneNumberEach boot.sessions → course.dark ≡ false
      → AreComplete boot starts course.notes) boots courses

-- all boots up to one: no torn event of the chip was foul, and each attach of it was quiet
abbrev pub IsFairAndQuiet : {W : Type 0} → ℕ → List (Course W) → Type 0
IsFairAndQuiet k courses = IsTrue (list_all (λ course. is_fair k course.notes && quiet_at k course) courses)

-- at most two of the last four blocks of a chip with tables are factory-bad
abbrev pub HasTableBlocks : Geometry → List ℕ → Type 0
HasTableBlocks g factory_bad =
    has_tables g ≡ true → count_by (λ block. list_any (λ b. b == block) factory_bad) (table_blocks g) ≤ 2

-- each attach note of a quiet attach shows the marks of the boots before it, where no torn event of
-- the chip before it was foul and each earlier attach was quiet. A course's cut has a `Tear`, so
-- this speaks of the done bits that tears have; of a chip's life the same is to be said for all
-- done bits.
abbrev pub MarksSurvive : {W : Type 0} → Partitions → ℕ → Geometry → List ℕ → List (Course W) → Type 0
MarksSurvive {W} partitions k g factory_bad courses =
    HasTableBlocks g factory_bad →
    (n : ℕ) (course : Course W) (before after : List Note) (origin : Origin) (version copies : ℕ) (states : List ℕ) →
    slice_get courses n ≡ Some course → course.notes ≡ before ++ Attached k origin version copies true states ∷ after →
    IsFairAndQuiet k (take n courses) → IsTrue (is_fair k before) →
    ShowsMarks g partitions k factory_bad (map (λ (c : Course W). c.notes) (take n courses)) before states

-- the first pages of the last four blocks whose marker is good, as they stand now
abbrev pub candidates_now : {W : Type 0} → ChipState W → List (ℕ × List ℕ)
candidates_now s =
    candidates s.geometry (map (λ b. (s.pages (first_page s.geometry b)).cells) (table_blocks s.geometry))

-- the copy that an attach would use, if it began now
abbrev pub copy_in_use : {W : Type 0} → ChipState W → Option (ℕ × Copy)
copy_in_use s =
    let cs : List (ℕ × List ℕ) = candidates_now s in
    used_copy (chosen s.geometry cs) (found s.geometry Primary cs) (found s.geometry Mirror cs)

-- a copy that an attach would find, if it began now
abbrev pub IsFoundNow : {W : Type 0} → ChipState W → ℕ → Copy → Type 0
IsFoundNow s block copy = found s.geometry copy.which (candidates_now s) ≡ Some (block, copy)

-- a copy calls bad each block whose marking was acknowledged in these notes
abbrev pub HasAcknowledged : Geometry → Partitions → ℕ → List (List Note) → Copy → Type 0
HasAcknowledged g partitions k boots copy =
    (b : ℕ) → b < g.blocks → IsTrue (list_any (marking_acknowledged partitions k b) boots)
    → IsTrue (calls_bad copy.states b)

-- a block of the last four, other than the one that is being changed, holds a copy that an attach
-- would find, and the newest copy that it would find has every mark that was acknowledged in these
-- notes
pub record KeepsACopy {W : Type 0} (partitions : Partitions) (k : ℕ) (s : ChipState W) (boots : List (List Note))
    (changing : Option ℕ) : Type 0 where
  pub block : ℕ
  pub copy : Copy
  pub other : changing ≢ Some block
  pub is_found : IsFoundNow s block copy
  pub newest : ℕ × Copy
  pub used : copy_in_use s ≡ Some newest
  pub marks : HasAcknowledged s.geometry partitions k boots newest.1

-- the later of two found copies: its version is at most three steps ahead, and where they are
-- equal, so are the tables
pub record IsLater (earlier later : Copy) : Type 0 where
  pub steps : ℕ
  pub few : steps ≤ 3
  pub version : later.version ≡ (earlier.version + steps) % 256
  pub same : steps ≡ 0 → earlier.states ≡ later.states
  pub covers : (b : ℕ) → calls_bad earlier.states b ≡ true → calls_bad later.states b ≡ true

-- what the last four blocks hold, at each moment: the parts of the invariant that relocation names
pub record CopiesAgree {W : Type 0} (s : ChipState W) : Type 0 where
  pub two : (p m : ℕ) (primary mirror : Copy) → found s.geometry Primary (candidates_now s) ≡ Some (p, primary)
      → found s.geometry Mirror (candidates_now s) ≡ Some (m, mirror)
      → IsLater primary mirror ⊎ IsLater mirror primary
  pub covers : (n b : ℕ) (newest copy : Copy) → copy_in_use s ≡ Some (n, newest)
      → Contains (copies_held s.geometry (candidates_now s)) (b, copy)
      → (c : ℕ) → calls_bad copy.states c ≡ true → calls_bad newest.states c ≡ true
  pub disowned : (n b : ℕ) (newest copy : Copy) → copy_in_use s ≡ Some (n, newest)
      → Contains (copies_held s.geometry (candidates_now s)) (b, copy)
      → is_disowned (copies_held s.geometry (candidates_now s)) b ≡ true → calls_bad newest.states b ≡ true
  pub own : (n : ℕ) (newest : Copy) → copy_in_use s ≡ Some (n, newest) → calls_bad newest.states n ≡ false

-- both places hold the table in memory, with reserved entries as good, under the version in memory
pub record HoldsTheTable {W : Type 0} (s : ChipState W) (known : Known) : Type 0 where
  pub primary : copy_in s.geometry (s.pages (first_page s.geometry known.places.primary)).cells
      ≡ Some (record { which = Primary; version = known.version; states = read_again known.table })
  pub mirror : copy_in s.geometry (s.pages (first_page s.geometry known.places.mirror)).cells
      ≡ Some (record { which = Mirror; version = known.version; states = read_again known.table })

-- the block that an event changes
abbrev pub block_changed : Geometry → Option PageEvent → Option ℕ
block_changed g None = None
block_changed g (Some (ReadEvent page)) = None
block_changed g (Some (ProgramEvent page image)) = Some (page / g.pages_per_block)
block_changed g (Some (EraseEvent block)) = Some block

-- the block of a chip that is being erased or programmed: the one that its next event changes,
-- unless the controller is dark
abbrev pub block_in_change : {W : Type 0} → Partitions → Course W → ChipRun W → Option ℕ
block_in_change partitions course c =
    if course.dark then None else block_changed c.chip.geometry (next_chip_event partitions c)

-- a moment at which an attach of chip k that began there would be fair and quiet: no torn event of
-- it so far was foul, each attach of it so far was quiet, and it is quiet now
pub record IsFairAndQuietNow {W : Type 0} (k : ℕ) (past : List (Course W)) (course : Course W) (c : ChipRun W) :
    Type 0 where
  pub is_chip : slice_get course.chips k ≡ Some c
  pub so_far : IsFairAndQuiet k (past ++ course ∷ [])
  pub now : IsTrue (is_quiet c.chip.geometry c.chip.pages)

-- In a boot that comes after these courses of a run of new chips: once an attach
-- would use a copy of a chip with tables, at each later moment the copies agree, a block of its
-- last four that is not being changed holds a copy that an attach would find, and the newest copy
-- that it would find has every acknowledged mark. The first moment of a boot is the last one of the
-- boot before it.
abbrev pub OneCopyStays : {W : Type 0} → FaultModel W → ℕ → Geometry → List ℕ → List (Course W) → Boot
    → List (ChipState W) → Type 0
OneCopyStays {W} model k g factory_bad past boot starts =
    has_tables g ≡ true → HasTableBlocks g factory_bad →
    (attaches more : ℕ) (turns later : List ℕ) (before now : ChipRun W) →
    IsFairAndQuietNow k past (course_after model boot starts attaches turns) before → IsSome (copy_in_use before.chip) →
    IsFairAndQuietNow k past (course_after model boot starts (attaches + more) (turns ++ later)) now →
    CopiesAgree now.chip × KeepsACopy boot.partitions k now.chip
    (map (λ (c : Course W). c.notes) past ++ (course_after model boot starts (attaches + more) (turns ++ later)).notes
    ∷ [])
    (block_in_change boot.partitions (course_after model boot starts (attaches + more) (turns ++ later)) now)

-- In such a boot: while a chip with tables is attached, nothing is pending on it
-- and its whole copies are two, both places hold the table in memory.
abbrev pub WholeCopiesHoldTheTable : {W : Type 0} → FaultModel W → ℕ → Geometry → List ℕ → List (Course W) → Boot
    → List (ChipState W) → Type 0
WholeCopiesHoldTheTable {W} model k g factory_bad past boot starts =
    has_tables g ≡ true → HasTableBlocks g factory_bad →
    (attaches : ℕ) (turns : List ℕ) (c : ChipRun W) (known : Known) →
    IsFairAndQuietNow k past (course_after model boot starts attaches turns) c →
    c.known ≡ Some known → c.pending ≡ None → known.copies ≡ 2 → HoldsTheTable c.chip known
