use Rattle.std.proofs.Common.{◌≡◌, ◌++◌, take}
use Rattle.std.specs.Prelude.{flat_map}
use Rattle.report_model.specs.Report.{note_text}
use Rattle.report_text.proofs.notes.put_notes.Given as goal

-- the lines of the notes so far stand at the end
abbrev pub invariant-loop-n : goal.invariant-loop-n
invariant-loop-n l = l.out ≡ l.initial.out ++ flat_map (note_text l.controller) (take l.n l.notes.notes)
