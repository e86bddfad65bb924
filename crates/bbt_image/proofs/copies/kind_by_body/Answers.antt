use Rattle.std.proofs.Common.{◌≡◌, true, sym, ap, ◌∙◌}
use Rattle.std.specs.Prelude.{is_some}
use Rattle.nand_model.specs.Page.{step_read}
use Rattle.nand_model.specs.Table.{kind_in}
use Rattle.bbt_image.proofs.KindLemmas.{body_failed, body_none}
use Rattle.bbt_image.proofs.StepLemmas.{first_readable}
use Rattle.bbt_image.proofs.copies.kind_by_body.Goals as goal
use Rattle.bbt_image.proofs.copies.kind_by_body.Goals.{then-failed-eq0-2, else-failed-eq0-2}

pub returns-else-failed-eq0-clause-kind : goal.returns-else-failed-eq0-clause-kind
returns-else-failed-eq0-clause-kind g c =
    body_failed c.args.g.now c.args.image.now c.in-Some.which c.requires.in_body
    (sym (c.in-Some.ensures ∙ ap (kind_in c.args.g.now) c.decode-failed.ensures.image))
    (λ e. c.if-failed-eq0.false (c.decode-failed.ensures.failed ∙ e))

pub returns-then-is_first_step_readable-clause-kind : goal.returns-then-is_first_step_readable-clause-kind
returns-then-is_first_step_readable-clause-kind g c =
    let first : is_some (step_read c.args.g.now c.args.image.now 0).corrected ≡ true =
    elim c.if-failed-eq0-2.branch [
      | then-failed-eq0-2 w ↦ first_readable c.args.g.now c.args.image.now (sym c.decode-failed.ensures.failed ∙ w.if-failed-eq0-2.true)
      | else-failed-eq0-2 w ↦ sym (w.is_first_step_readable.ensures c.args.image.now c.put_first_step.ensures.step) ∙ sym w.value-is ∙ c.if-is_first_step_readable.true
    ] in
    body_none c.args.g.now c.args.image.now c.requires.in_body
    (sym (c.in-None.ensures ∙ ap (kind_in c.args.g.now) c.decode-failed.ensures.image)) first
