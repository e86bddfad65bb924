use Rattle.std.specs.Prelude.{codes}
use Rattle.std.proofs.lemmas.Result.{IfOk-equal}
use Rattle.plan_grammar.specs.Canonical.{decimals}
use Rattle.plan_print.proofs.Parts.{line_put}
use Rattle.plan_print.proofs.hardware.put_bad.Goals as goal

pub returns : goal.returns
returns c =
    IfOk-equal _ _ _ _ c.put_text-2.ensures
    (line_put c.args.out.now c.put_text.new.out c.put_list.new.out (codes "bad")
    (decimals c.args.blocks.now) c.in_ok-put_text.ensures c.in_ok-put_list.ensures)
