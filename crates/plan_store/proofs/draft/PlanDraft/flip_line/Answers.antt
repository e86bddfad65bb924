use Rattle.std.proofs.Common.{◌≡◌, Result, Err, IsSome, is_some, sym, ap, subst}
use Rattle.std.proofs.lemmas.Result.{err_from_is_err_and}
use Rattle.plan_grammar.specs.declared.kind.PlanKind.{PlanKind}
use Rattle.plan_grammar.specs.declared.lines.PlanLines.{PlanLines}
use Rattle.plan_grammar.specs.Rules.{last_of}
use Rattle.plan_grammar.specs.Faults.{flip_line}
use Rattle.plan_store.specs.Flips.{flip_rules}
use Rattle.plan_words.specs.Answer.{Answers}
use Rattle.plan_store.proofs.Found.{open_boot_found}
use Rattle.plan_store.proofs.FlipLines.{flip_refused_place, flip_refused_words, flip_goes_on}
use Rattle.plan_store.proofs.draft.PlanDraft.flip_line.Goals as goal

pub returns-in_err-_boot : goal.returns-in_err-_boot
returns-in_err-_boot c =
    let p = err_from_is_err_and c.from_residual.result c.from_residual.ensures.1 in
    rw (p.1, p.2) (subst (λ (plan : PlanLines). flip_line plan c.args.words ≡ Err c.in_err-_boot.field-0.0) c.self.view_is
    (flip_refused_place c.self.inside.lines c.args.words c.in_err-_boot.field-0.0 c.in_err-_boot.ensures))

pub returns-in_err-flip : goal.returns-in_err-flip
returns-in_err-flip c =
    let p = err_from_is_err_and c.from_residual-in_err-flip.result c.from_residual-in_err-flip.ensures.1 in
    rw (p.1, p.2) (subst (λ (plan : PlanLines). Answers {A = PlanLines} (Err c.in_err-flip.field-0.0) (flip_line plan c.args.words)) c.self.view_is
    (flip_refused_words c.self.inside.lines c.args.words c.in_ok-_boot._boot.now c.in_err-flip.field-0.0 c.in_ok-_boot.ensures c.in_err-flip.ensures))

pub add_flip-requires : goal.add_flip-requires
add_flip-requires c =
    let last = open_boot_found c.self.inside.lines c.in_ok-_boot._boot.now c.in_ok-_boot.ensures in
    subst (λ (plan : PlanLines). IsSome (last_of plan.boots)) c.self.view_is (ap is_some last)

pub returns : goal.returns
returns c =
    subst (λ (plan : PlanLines). Answers c.add_flip.result (flip_line plan c.args.words)) c.self.view_is
    (subst (λ (r : Result PlanLines PlanKind). Answers c.add_flip.result r)
    (sym (flip_goes_on c.self.inside.lines c.args.words c.in_ok-_boot._boot.now c.in_ok-flip.flip c.in_ok-_boot.ensures c.in_ok-flip.ensures))
    (subst (λ (plan : PlanLines). Answers c.add_flip.result (flip_rules plan c.in_ok-flip.flip)) (sym c.self.view_is) c.add_flip.ensures))
