use Rattle.std.proofs.Common.{◌<◌, length, sym, subst, ◌∙◌}
use Rattle.std.proofs.lemmas.Result.{on_ok_weaker}
use Rattle.command_model.specs.Boot.{Boot}
use Rattle.tool_steps.proofs.Sessions.{last_changed}
use Rattle.tool_steps.proofs.boot.ControllerBoot.add_command.Goals as goal

pub returns-clause-ok : goal.returns-clause-ok
returns-clause-ok c =
    let HasOne : Boot → Type 0 = λ b. 0 < length b.sessions in
    rw (← c.self.view_is)
    (on_ok_weaker c.push.result
    (last_changed c.self.inside.partitions c.self.inside.faults c.self.inside.order.items c.len-last.result c.index_mut.result.now c.push.new.self c.args.command
    (c.len-last.ensures ∙ c.self.inside.order.ok.0) (subst HasOne (sym c.self.view_is) c.requires) c.index_mut.ensures.value)
    c.push.ensures.ok)
