use Rattle.std.proofs.Common.{◌+◌, ◌-◌, ◌*◌, ◌^◌, ◌∙◌, min, arith}
use Rattle.nand_model.specs.Flips.{flips_between}
use Rattle.nand_model.proofs.Bounds.{bounds}
use Rattle.nand_model.specs.Sizes.{parity_bytes, parity_start}
use Rattle.chip_core.proofs.Words.{few-flips, page-few, parity-few}
use Rattle.chip_core.proofs.quiet.step_is_correctable.Goals as goal

pub overflow_mul-parity : goal.overflow_mul-parity
overflow_mul-parity g c =
    let few = parity-few c.args.g.now c.args.step c.requires.step in rw c.parity_len.ensures (omega arith)

pub overflow_add-parity-2 : goal.overflow_add-parity-2
overflow_add-parity-2 g c =
    let few = parity-few c.args.g.now c.args.step c.requires.step in
    let page = page-few c.args.g.now in
    rw (c.parity_len.ensures, c.parity_start.ensures) (omega arith)

pub overflow_mul-parity-2 : goal.overflow_mul-parity-2
overflow_mul-parity-2 g c =
    let few = parity-few c.args.g.now c.args.step c.requires.step in
    let page = page-few c.args.g.now in
    rw (c.parity_len.ensures, c.parity_start.ensures) (omega arith)

pub overflow_mul-g : goal.overflow_mul-g
overflow_mul-g g c = let high = (bounds c.args.g.now).t_high in omega arith

pub overflow_add-parity-3 : goal.overflow_add-parity-3
overflow_add-parity-3 g c =
    let few = parity-few c.args.g.now c.args.step c.requires.step in
    let page = page-few c.args.g.now in
    let high = (bounds c.args.g.now).t_high in
    rw (c.parity_len.ensures, c.parity_start.ensures) (omega arith)

pub returns-then-in_body-g : goal.returns-then-in_body-g
returns-then-in_body-g g c =
    let chip = c.args.g.now in
    let flips = ((g.F.Flash.state c.args.flash.now).pages c.args.page).flips in
    let strength = (bounds chip).t_high in
    few-flips (flips_between flips (4096 * c.args.step) (4096 * (c.args.step + 1)))
    (flips_between flips (8 * (chip.page + parity_start chip + c.args.step * parity_bytes chip))
    (8 * (chip.page + parity_start chip + c.args.step * parity_bytes chip) + 13 * chip.t)) chip.t c.flips-in_body.result c.flips-in_parity.result
    c.flips-in_body.ensures
    (c.flips-in_parity.ensures
    ∙ (λ i. min (flips_between flips (8 * (chip.page + c.parity_start.ensures i + c.args.step * c.parity_len.ensures i))
    (8 * (chip.page + c.parity_start.ensures i + c.args.step * c.parity_len.ensures i) + 13 * chip.t)) (2 ^ 32 - 1)))
    strength c.if-in_body-g.true
