use Rattle.std.proofs.Common.{◌≡◌, List, ◌++◌, take}
use Rattle.nand_model.specs.declared.words.Note.{Note}
use Rattle.made_plan.specs.Summary.{sums_of}
use Rattle.made_plan.proofs.summary.Sums.add_notes.Given as goal

-- the sums of earlier notes and the notes so far
abbrev pub invariant-loop-n : goal.invariant-loop-n
invariant-loop-n l = (before : List Note) → l.fn.self ≡ sums_of before → l.self ≡ sums_of (before ++ take l.n l.notes.notes)
