-- What is known once an attach is over, and once a read is answered.
use Rattle.std.proofs.Common.{◌≡◌, ℕ, true, List, [], ◌∷◌, length, Option, Some, refl, ap, sym, subst, ◌∙◌, arith}
use Rattle.std.proofs.lemmas.Bool.{false≢true}
use Rattle.std.specs.Prelude.{IfSome, IsSome, if◌then◌else◌}
use Rattle.chip_paths.specs.Attach.{Attaching}
use Rattle.chip_paths.specs.ChipRun.{known_at_first}
use Rattle.chip_paths.specs.Operation.{Finished, Known, after_writing, mark_reply, with_statistics, writing_reply}
use Rattle.nand_model.specs.Page.{Decoding}
use Rattle.nand_model.specs.declared.geometry.Geometry.{Geometry}
use Rattle.nand_model.specs.declared.words.PageKind.{PageKind}
use Rattle.nand_model.specs.declared.words.PageRead.{PageRead}
use Rattle.nand_model.specs.declared.words.Stats.{Stats}
use Rattle.chip_paths.specs.Stage.{Stage, Rests, finished_in, is_resting, stage_statistics}
use Rattle.chip_core.specs.Knowledge.{KnowsFound, known_in}
use Rattle.chip_core.specs.Phase.{PhaseFits, WorkFits, known_before, phase_stage}
use Rattle.chip_core.specs.Sums.{AreSmall, stats_in}
use Rattle.chip_core.specs.Task.{decoding_from}
use Rattle.chip_core.specs.declared.knowledge.Knowledge.{Knowledge}
use Rattle.chip_core.specs.declared.phase.Phase.{Phase}
use Rattle.chip_core.specs.declared.phase.Phase.TheVariants.{Attaching as IsAttaching, Resting, Working}
use Rattle.chip_core.specs.declared.sums.DeviceSums.{DeviceSums}
use Rattle.chip_core.specs.declared.table_writing.TableWriting.{TableWriting}
use Rattle.chip_core.specs.declared.task.Task.TheVariants.{Decoded, Marked, Writing as IsWriting}
use Rattle.chip_core.proofs.Scanning.{no_tables}
use Rattle.chip_core.proofs.WritingTables.{tables-over}
use Rattle.chip_paths.specs.Writing.{next_version}
use Rattle.nand_model.specs.Table.{has_tables}
use Rattle.bbt_flash.specs.Copies.{places_in}
use Rattle.bbt_flash.specs.Events.{answer_of}
use Rattle.bbt_flash.specs.Update.{update_writing}
use Rattle.bbt_ram.specs.declared.table.BlockTable.{BlockTable}
use Rattle.std.specs.declared.snapshot.Snapshot.{Snapshot}

-- what is known of a chip, with these statistics
abbrev pub with_stats : Knowledge → (ℕ → Stats) → Known
with_stats known stats = record (known_in known) { statistics = stats }

no_entry : (sums : List DeviceSums) → length sums ≡ 0 → stats_in sums ≡ stats_in []
no_entry [] none = refl
no_entry (entry ∷ entries) none = absurd (omega arith)

-- after an attach what it found is known, and all statistics are 0
pub known_found : (old new : Knowledge) (found : Attaching) → KnowsFound old new found → length old.sums ≡ 0 → known_in new ≡ known_at_first found
known_found old new found knows none = (λ i. record {
  table = knows.table i;
  version = knows.version i;
  places = knows.places i;
  copies = knows.copies i;
  statistics = (ap stats_in knows.sums ∙ no_entry old.sums none) i;
})

pub stats_fresh : (sums : List DeviceSums) → length sums ≡ 0 → (dev : ℕ) → stats_in sums dev ≡ record { corrected = 0; failed = 0 }
stats_fresh sums none dev = ap (λ (stats : ℕ → Stats). stats dev) (no_entry sums none)

-- the counts of a read are added as it is answered
pub read_answered : (known : Knowledge) (phase : Phase) (dev : ℕ) (kind : PageKind) (read : PageRead) (image : List ℕ)
    → phase ≡ Working (Decoded dev kind read image) → (stage : Stage) (sums : List DeviceSums) → stage ≡ Rests (with_stats known (stats_in sums))
    → ((d : Decoding) → d.corrected ≡ read.corrected → d.failed ≡ read.failed → stats_in sums ≡ with_statistics (stats_in known.sums) dev d)
    → IfSome (finished_in (phase_stage known phase)) (λ finished. stage ≡ Rests finished.known)
read_answered known phase dev kind read image is stage sums rests added =
    let Answered : Phase → Type 0 = λ p. IfSome (finished_in (phase_stage known p)) (λ finished. stage ≡ Rests finished.known) in
    let d : Decoding = decoding_from read image in
    subst Answered (sym is) (rests ∙ ap (λ stats. Rests (with_stats known stats)) (added d refl refl))

-- a chip at rest
module _ (known : Knowledge) where
  pub rests_fit : (g : Geometry) (table : List ℕ) (sums : List DeviceSums) (phase : Phase) → is_resting (phase_stage known phase) ≡ true
      → PhaseFits g table sums phase
  rests_fit g table sums Resting rests = tt
  rests_fit g table sums (IsAttaching run) rests = absurd (false≢true rests)
  rests_fit g table sums (Working task) rests = absurd (false≢true rests)

  -- statistics that have room have it under each name of theirs
  pub small_at : (phase : Phase) → is_resting (phase_stage known phase) ≡ true → (read : Option ℕ)
      → IfSome read (λ dev. AreSmall (stage_statistics (phase_stage known phase) dev))
      → (stats : ℕ → Stats) → stats ≡ stats_in known.sums → (dev : ℕ) → read ≡ Some dev → AreSmall (stats dev)
  small_at Resting rests read small stats same dev is =
      let Small : Option ℕ → Type 0 = λ read. IfSome read (λ dev. AreSmall (stats_in known.sums dev)) in
      subst (λ (s : ℕ → Stats). AreSmall (s dev)) (sym same) (subst Small is small)
  small_at (IsAttaching run) rests read small stats same dev is = absurd (false≢true rests)
  small_at (Working task) rests read small stats same dev is = absurd (false≢true rests)

-- a mark without tables is answered
pub marked_answered : (known : Knowledge) (phase : Phase) (block : ℕ) (before : Snapshot BlockTable) → phase ≡ Working (Marked block before)
    → PhaseFits known.geometry known.table known.sums phase → (stage : Stage) → stage ≡ Rests (known_in known)
    → IfSome (finished_in (phase_stage known phase)) (λ finished. stage ≡ Rests finished.known)
marked_answered known phase block before is fits stage rests =
    let Answered : Phase → Type 0 = λ p. IfSome (finished_in (phase_stage known p)) (λ finished. stage ≡ Rests finished.known) in
    let work : WorkFits known.geometry known.table known.sums (Marked block before) = subst (PhaseFits known.geometry known.table known.sums) is fits in
    let version : known.version ≡ (if has_tables known.geometry then next_version known.version else known.version) =
    sym (ap (λ b. if b then next_version known.version else known.version) (no_tables known.geometry work.task_fits)) in
    subst Answered (sym is)
    (rests ∙ ap Rests (λ i. record {
      table = work.marked i;
      version = version i;
      places = places_in known.places;
      copies = known.copies;
      statistics = stats_in known.sums;
    }))

-- and one with tables, once its writing is over
pub written_answered : (known : Knowledge) (phase : Phase) (w : TableWriting) → phase ≡ Working (IsWriting w) → (P : Finished → Type 0)
    → P (record {
      reply = mark_reply (answer_of w.marker) (writing_reply w.update.failed);
      known = after_writing (known_in known) (update_writing w.update known.table);
    })
    → IsSome (finished_in (phase_stage known phase)) → IfSome (finished_in (phase_stage known phase)) P
written_answered known phase w is P holds =
    let Answered : Phase → Type 0 = λ p. IsSome (finished_in (phase_stage known p)) → IfSome (finished_in (phase_stage known p)) P in
    let k = known_before known (IsWriting w) in
    subst Answered (sym is)
    (λ over.
    let ends = tables-over known.geometry k w.marker (update_writing w.update known.table) over in
    subst (λ o. IfSome o P) (sym ends) holds)
