use Rattle.std.specs.Prelude.{option_copied}
use Rattle.std.proofs.lemmas.Result.{on_ok_weaker}
use Rattle.tool_steps.proofs.Scripts.{had_more}
use Rattle.tool_steps.proofs.tool.Tool.next.Goals as goal

pub returns-clause-replies : goal.returns-clause-replies
returns-clause-replies c =
    λ g command replies had. on_ok_weaker c.resume.result (had_more g command replies (option_copied c.args.last) _ _ had) c.resume.ensures.goes_on
