use Rattle.std.proofs.Common.{◌≡◌, ◌+◌, ◌∷◌, ◌++◌, [], Bool, not, ap, length, length-append, sym, ◌∙◌}
use Rattle.tool_steps.specs.Boot.{commands_at}
use Rattle.session_steps.specs.Standing.{end_of, standing}
use Rattle.ctl_core.specs.Ended.{ends_beside}
use Rattle.ctl_core.proofs.LastStates.{ends_none, ends_push}
use Rattle.ctl_core.proofs.ending.end_all.Goals as goal

pub loop-session-init : goal.loop-session-init
loop-session-init c = record {
  ended = c.new-ends.ensures ∙ sym (ends_none c.args.boot.now.sessions c.args.notes.now.notes);
  many = ap length c.new-ends.ensures;
}

pub loop-session-preserved : goal.loop-session-preserved
loop-session-preserved c =
    let begun = c.args.boot.now.sessions in
    let notes = c.args.notes.now.notes in
    let yielded = c.loop-session.yielded in
    let session = c.in-Some.session in
    let place : length yielded ≡ c.len.result = sym (c.len.ensures ∙ c.loop-session.invariant.many) in
    let here = ap (commands_at c.args.boot.now) place ∙ c.commands-commands.ensures in
    record {
      ended =
          c.in_ok-append.ensures.ok ∙ ap (λ ends. ends ++ c.in_ok-end.end ∷ []) c.loop-session.invariant.ended
          ∙ ap (λ end. ends_beside begun notes yielded ++ end ∷ [])
          (c.in_ok-end.ensures ∙ ap (λ (over : Bool). end_of c.commands-commands.result.now (not over) (standing notes session)) c.is_over-cut.ensures)
          ∙ sym (ends_push begun notes yielded session c.commands-commands.result.now here);
      many =
          ap length c.in_ok-append.ensures.ok ∙ length-append c.loop-session.ends (c.in_ok-end.end ∷ []) ∙ ap (λ n. n + 1) c.loop-session.invariant.many
          ∙ sym (length-append yielded (session ∷ []));
    }
