use Rattle.std.proofs.Common.{◌∙◌}
use Rattle.std.proofs.lemmas.Result.{IfOk-equal}
use Rattle.plan_print.proofs.Parts.{schedule_put}
use Rattle.plan_print.proofs.boots.put_schedule.Goals as goal

pub returns : goal.returns
returns c =
    IfOk-equal _ _ _ _ c.put_text-2.ensures
    (schedule_put c.args.out.now c.put_text.new.out c.put_list.new.out c.args.numbers.now
    (λ none. c.if-len-eq0.false (c.len.ensures ∙ none)) c.in_ok-put_text.ensures c.in_ok-put_list.ensures)
