use Rattle.std.proofs.Common.{[], ◌∷◌}
use Rattle.std.specs.Prelude.{codes}
use Rattle.std.proofs.lemmas.Result.{IfOk-equal}
use Rattle.plan_grammar.specs.Canonical.{decimals, chip_name}
use Rattle.plan_print.specs.Lines.{behind_blanks}
use Rattle.plan_print.proofs.Parts.{then_text, then_words, line_put}
use Rattle.plan_print.proofs.boots.put_flip.Goals as goal

pub returns : goal.returns
returns c =
    let flip = c.args.flip.now in
    let name = chip_name c.args.controller flip.chip in
    let numbers = decimals (flip.page ∷ flip.before ∷ flip.bits) in
    let begun = c.put_text.new.out in
    let named = c.put_chip_name.new.out in
    let all = c.put_list.new.out in
    IfOk-equal _ _ _ _ c.put_text-2.ensures
    (line_put c.args.out.now begun all (codes "flip") (name ∷ numbers) c.in_ok-put_text.ensures
    (then_text begun named all (32 ∷ name) (behind_blanks numbers) c.in_ok-put_chip_name.ensures
    (then_words named c.put_decimals.new.out all (decimals (flip.page ∷ flip.before ∷ []))
    (decimals flip.bits) c.in_ok-put_decimals.ensures c.in_ok-put_list.ensures)))
