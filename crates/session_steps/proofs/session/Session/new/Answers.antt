use Rattle.std.proofs.Common.{List, [], None, sym, subst}
use Rattle.nand_model.specs.declared.words.Outcome.{Outcome}
use Rattle.command_model.specs.Session.{without_finished}
use Rattle.session_steps.specs.Mirrors.{Shows}
use Rattle.session_steps.proofs.Steps.{shows_new}
use Rattle.session_steps.proofs.session.Session.new.Goals as goal

pub returns : goal.returns
returns c sizes commands notes runnable = record {
  runnable = runnable;
  placed = tt;
  shows = subst (λ (outcomes : List Outcome). Shows sizes commands (record { number = c.args.number; script = None; outcomes = outcomes })
      (without_finished sizes c.args.number commands [] []))
      (sym c.new.ensures.items) (shows_new sizes commands c.args.number runnable);
}
