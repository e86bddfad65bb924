use Rattle.std.proofs.Common.{◌≡◌, ◌∙◌, List, length, ap, sym, subst, arith}
use Rattle.std.specs.Prelude.{slice_get}
use Rattle.nand_model.specs.declared.words.Command.{Command}
use Rattle.plan_grammar.specs.declared.lines.PlanLines.{PlanLines}
use Rattle.plan_text.specs.Plan.{IsKept}
use Rattle.plan_text.proofs.WasRead.{sessions_kept, commands_kept, past_none}
use Rattle.plan_text.proofs.plan.Plan.command.Goals as goal

pub get-commands-requires : goal.get-commands-requires
get-commands-requires c =
    let kept = subst (λ (p : PlanLines). IsKept p c.self.inside.commands) c.self.view_is c.self.invariant in
    omega (arith, sessions_kept c.args.self.now c.self.inside.commands c.args.boot c.get.result.now kept c.get.ensures, c.requires.sessions)

pub returns-then-n-len : goal.returns-then-n-len
returns-then-n-len c =
    let kept = subst (λ (p : PlanLines). IsKept p c.self.inside.commands) c.self.view_is c.self.invariant in
    let own = commands_kept c.args.self.now c.self.inside.commands c.args.boot c.args.session c.get.result.now c.get-commands.result.now kept c.get.ensures c.get-commands.ensures in
    sym c.get-then-n-len.ensures ∙ ap (λ (cs : List Command). slice_get cs c.args.n) own

pub returns-else-n-len : goal.returns-else-n-len
returns-else-n-len c =
    let kept = subst (λ (p : PlanLines). IsKept p c.self.inside.commands) c.self.view_is c.self.invariant in
    let own = commands_kept c.args.self.now c.self.inside.commands c.args.boot c.args.session c.get.result.now c.get-commands.result.now kept c.get.ensures c.get-commands.ensures in
    sym (past_none c.get-commands.result.now c.args.n (omega (arith, c.len.ensures, c.if-n-len.false)))
    ∙ ap (λ (cs : List Command). slice_get cs c.args.n) own
