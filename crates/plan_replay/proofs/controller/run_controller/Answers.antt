use Rattle.std.proofs.Common.{◌++◌, ◌∙◌, ap, append_assoc}
use Rattle.std.specs.Prelude.{codes, decimal, flat_map}
use Rattle.report_model.specs.Report.{line, note_text}
use Rattle.plan_replay.proofs.controller.run_controller.Goals as goal

pub returns-clause-text : goal.returns-clause-text
returns-clause-text c =
    let first = line (codes "controller " ++ decimal c.args.controller) in
    c.in_ok-put_notes.ensures
    ∙ ap (λ o. o ++ flat_map (note_text c.args.controller) c.in_ok-ended.notes.notes) c.in_ok-put_controller.ensures
    ∙ append_assoc c.args.out.now first (flat_map (note_text c.args.controller) c.in_ok-ended.notes.notes)
    ∙ ap (λ notes. c.args.out.now ++ (first ++ flat_map (note_text c.args.controller) notes)) c.in_ok-ended.ensures.notes
