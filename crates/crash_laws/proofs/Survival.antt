-- The marks outlive cuts, from a new chip on: of a chip's life, and of the courses of a run.
use Rattle.std.proofs.Common.{refl, ℕ, List, [], map}
use Rattle.std.specs.Prelude.{take}
use Rattle.std.proofs.lemmas.Bool.{false≢true}
use Rattle.nand_model.specs.Chip.{sim_faults, new_chip}
use Rattle.nand_model.specs.Partitions.{Partitions}
use Rattle.nand_model.specs.Table.{has_tables}
use Rattle.nand_model.specs.Chip.{SimFaults}
use Rattle.nand_model.specs.declared.geometry.Geometry.{Geometry}
use Rattle.nand_model.specs.declared.words.Weak.{Weak}
use Rattle.run_model.specs.Course.{Course}
use Rattle.run_model.specs.Survival.{MarksOutliveCuts}
use Rattle.page_laws.specs.Keeping.{IsIn}
use Rattle.crash_laws.specs.Theorem.{MarksSurviveRuns}
use Rattle.crash_laws.proofs.Boots.{Acked, Begun, survive}
use Rattle.crash_laws.proofs.Lives.{life_shows}
use Rattle.crash_laws.proofs.NewChips.{Start, start, shows_marks}

-- nothing was acknowledged and nothing has begun before the first boot
fresh_start : (g : Geometry) (bad : List ℕ) (weak : List Weak) (partitions : Partitions) (k : ℕ) (s : Start g bad weak partitions)
    → s.kind.Lives (Acked partitions k []) (Begun g partitions k []) (new_chip g bad weak)
fresh_start g bad weak partitions k s =
    s.kind.fewer (λ b. ⊥) (λ b. ⊥) (Acked partitions k []) (Begun g partitions k []) (new_chip g bad weak) (λ b a. false≢true a) (λ b x. absurd x) s.alive

pub marks_outlive_cuts : (partitions : Partitions) (k : ℕ) (g : Geometry) (bad : List ℕ) (weak : List Weak) → MarksOutliveCuts partitions k g bad weak
marks_outlive_cuts partitions k g bad weak few life notes fill h =
    let s = start g bad weak partitions (has_tables g) refl few in
    life_shows sim_faults partitions k g bad s.kind [] (new_chip g bad weak) life notes fill h (fresh_start g bad weak partitions k s)

pub marks_survive_runs : MarksSurviveRuns
marks_survive_runs partitions starts boots turns courses k g bad weak run few n course before after origin version copies states here e fair_quiet fair =
    let s = start g bad weak partitions (has_tables g) refl few in
    shows_marks g partitions k bad (map (λ (c : Course SimFaults). c.notes) (take n courses)) before states
    (survive sim_faults partitions k g (IsIn bad) s.kind courses boots turns starts [] (new_chip g bad weak) run.one_list run.runs run.new
    (fresh_start g bad weak partitions k s) run.fills n course before after origin version copies states here e fair_quiet fair)
