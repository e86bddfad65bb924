-- The report of a plan's replay, and each legal report, with all that is true of them.
use Rattle.std.proofs.Common.{◌≡◌, ℕ, List, ap, sym, ◌∙◌}
use Rattle.plan_model.specs.Plan.{PlanData}
use Rattle.report_model.specs.Report.{report_text}
use Rattle.headline_model.specs.Headline.{AreReplay, Courses, IsLegalReport, IsReplayOf, IsReportOfRun, all_replay_turns, notes_of_run}
use Rattle.headline_laws.proofs.Histories.{run_histories}
use Rattle.headline_laws.proofs.Marks.{run_marks}
use Rattle.headline_laws.proofs.Replays.{only_replay}

pub replay_reported : (plan : PlanData) (courses : Courses) (text : List ℕ) → AreReplay plan courses → text ≡ report_text plan (notes_of_run plan courses)
    → IsReplayOf plan text
replay_reported plan courses text h printed = record {
  courses = courses;
  replay = h;
  only = λ other g. only_replay plan courses other h g;
  histories = run_histories plan (all_replay_turns plan h.rounds) courses h.run;
  marks = run_marks plan (all_replay_turns plan h.rounds) courses h.run;
  printed = printed;
}

-- a legal report is that of a run, with all that is true of it
pub legal_reported : (plan : PlanData) (text : List ℕ) → IsLegalReport plan text → IsReportOfRun plan text
legal_reported plan text h = record {
  turns = h.turns;
  courses = h.courses;
  run = h.run;
  histories = run_histories plan h.turns h.courses h.run;
  marks = run_marks plan h.turns h.courses h.run;
  printed = h.printed;
}

-- a plan has one report of its replay
pub one_report : (plan : PlanData) (text other : List ℕ) → IsReplayOf plan text → IsReplayOf plan other → other ≡ text
one_report plan text other h g =
    g.printed ∙ ap (λ courses. report_text plan (notes_of_run plan courses)) (h.only g.courses g.replay) ∙ sym h.printed
