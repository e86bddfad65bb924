use Rattle.std.proofs.Common.{◌<◌, ◌≤◌, length, map, List, sym, ap, ◌∙◌, subst}
use Rattle.std.specs.Prelude.{All, sum_by}
use Rattle.nand_model.specs.Partitions.{Partitions}
use Rattle.nand_model.specs.declared.words.Part.{Part}
use Rattle.run_model.specs.Course.{end_states}
use Rattle.ctl_core.specs.declared.board.Slot.{Slot}
use Rattle.ctl_core.specs.Past.{Past, course_of, starts_of}
use Rattle.ctl_core.specs.Board.{past_of, slot_state}
use Rattle.ctl_core.specs.Ended.{end_of_run, ends_by_notes, all_bad_blocks, slot_statistics, slot_bad_blocks}
use Rattle.run_model.specs.Statistics.{device_numbers, device_statistics}
use Rattle.ctl_core.proofs.Limits.{few_slots}
use Rattle.ctl_core.proofs.LastStates.{parts_there, last_states, last_outcomes, last_statistics, last_bad}
use Rattle.ctl_core.proofs.LastEnds.{last_ends}
use Rattle.ctl_core.proofs.controller.Core.finish.Goals as goal

pub all_statistics-requires : goal.all_statistics-requires
all_statistics-requires g c =
    subst (λ (partitions : Partitions). All (λ (part : Part). part.chip < length c.deref.result.now) partitions.parts) (sym c.parts.ensures)
    (subst (λ (slots : List (Slot g.row.F.Denot g.row.C.Denot g.F.Flash)). All (λ (part : Part). part.chip < length slots)
    c.self.inside.journal.boot.partitions.parts) (sym c.deref.ensures.value)
    (parts_there (past_of c.self.inside.journal) c.self.inside.board c.self.invariant))

pub all_bad-bad-requires : goal.all_bad-bad-requires
all_bad-bad-requires g c =
    subst (λ (slots : List (Slot g.row.F.Denot g.row.C.Denot g.F.Flash)). length slots ≤ 8) (sym c.deref-2.ensures.value)
    (few_slots (past_of c.self.inside.journal) c.self.inside.board c.self.invariant)

pub returns-clause-flashes : goal.returns-clause-flashes
returns-clause-flashes g c =
    c.in_ok-flashes.ensures ∙ last_states (past_of c.self.inside.journal) c.self.inside.board c.self.invariant
    ∙ ap (λ (p : Past g.row.F.Denot). end_states (course_of g.F.Flash.fault_model g.F.Flash.state p)) c.self.view_is

pub returns-clause-notes : goal.returns-clause-notes
returns-clause-notes g c = c.self.invariant.stands.keeps.of_notes ∙ ap (λ (p : Past g.row.F.Denot). (course_of g.F.Flash.fault_model g.F.Flash.state p).notes)
    c.self.view_is

pub returns-clause-outcomes : goal.returns-clause-outcomes
returns-clause-outcomes g c =
    c.in_ok-outcomes.ensures ∙ last_outcomes (past_of c.self.inside.journal) c.self.inside.board c.self.invariant
    ∙ ap (λ (p : Past g.row.F.Denot). map end_of_run (course_of g.F.Flash.fault_model g.F.Flash.state p).sessions) c.self.view_is

pub returns-clause-ends : goal.returns-clause-ends
returns-clause-ends g c =
    c.in_ok-outcomes.ensures ∙ last_outcomes (past_of c.self.inside.journal) c.self.inside.board c.self.invariant
    ∙ last_ends (past_of c.self.inside.journal) c.self.inside.board c.self.invariant
    ∙ ap (λ (p : Past g.row.F.Denot). ends_by_notes p.boot (starts_of g.F.Flash.state p) (course_of g.F.Flash.fault_model g.F.Flash.state p).notes)
    c.self.view_is

pub returns-clause-stats : goal.returns-clause-stats
returns-clause-stats g c =
    c.in_ok-stats.ensures
    ∙ (λ d. slot_statistics (c.parts.ensures d) (map slot_state (c.deref.ensures.value d)) (device_numbers (c.parts.ensures d)))
    ∙ last_statistics (past_of c.self.inside.journal) c.self.inside.board c.self.invariant
    ∙ ap (λ (p : Past g.row.F.Denot). device_statistics p.boot.partitions (course_of g.F.Flash.fault_model g.F.Flash.state p)) c.self.view_is

pub returns-clause-bad : goal.returns-clause-bad
returns-clause-bad g c =
    c.all_bad-bad.ensures ∙ ap (λ (slots : List (Slot g.row.F.Denot g.row.C.Denot g.F.Flash)). sum_by slot_bad_blocks (map slot_state slots))
    c.deref-2.ensures.value
    ∙ last_bad (past_of c.self.inside.journal) c.self.inside.board c.self.invariant
    ∙ ap (λ (p : Past g.row.F.Denot). all_bad_blocks p.boot.partitions (course_of g.F.Flash.fault_model g.F.Flash.state p)) c.self.view_is
