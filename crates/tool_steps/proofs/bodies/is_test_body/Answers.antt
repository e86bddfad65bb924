use Rattle.std.proofs.Common.{◌+◌, ◌*◌, sym, ◌∙◌, refl, arith}
use Rattle.nand_model.specs.Seeds.{seed_byte}
use Rattle.tool_steps.proofs.Numbered.{other_byte, other_length, same_so_far, same_whole}
use Rattle.tool_steps.proofs.bodies.is_test_body.Goals as goal

pub returns-then-body-g : goal.returns-then-body-g
returns-then-body-g c =
    other_length (λ j. seed_byte c.args.seed (c.args.page * c.args.g.now.page + j)) c.args.body.now c.args.g.now.page c.if-body-g.true

pub loop-place-init : goal.loop-place-init
loop-place-init c = refl

pub returns-then-body-place : goal.returns-then-body-place
returns-then-body-place c =
    other_byte (λ j. seed_byte c.args.seed (c.args.page * c.args.g.now.page + j)) c.args.body.now c.args.g.now.page c.loop-place.place c.loop-place-test.true
    (λ e. c.if-body-place.true (e ∙ sym c.test_byte.ensures))

pub loop-place-preserved : goal.loop-place-preserved
loop-place-preserved c =
    same_so_far (λ j. seed_byte c.args.seed (c.args.page * c.args.g.now.page + j)) c.args.body.now c.loop-place.place
    (omega (arith, c.loop-place-test.true, c.if-body-g.false)) c.loop-place.invariant (c.if-body-place.false ∙ c.test_byte.ensures)

pub returns : goal.returns
returns c =
    same_whole (λ j. seed_byte c.args.seed (c.args.page * c.args.g.now.page + j)) c.args.body.now c.args.g.now.page c.loop-place.place
    c.if-body-g.false (omega (arith, c.loop-place-test.false)) (omega (arith, c.loop-place.auto.place-end)) c.loop-place.invariant
