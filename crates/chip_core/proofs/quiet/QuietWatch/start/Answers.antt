use Rattle.std.proofs.Common.{◌≡◌, ◌∙◌, ℕ, Bool, ap, sym, arith}
use Rattle.std.specs.Prelude.{count_by, not}
use Rattle.std.proofs.lemmas.List.Sums.{count_by-le-length}
use Rattle.nand_model.proofs.Bounds.{bounds}
use Rattle.nand_model.specs.Sizes.{numbers_from}
use Rattle.chip_paths.specs.Writing.{count_if}
use Rattle.chip_core.specs.Quiet.{is_quiet_block}
use Rattle.chip_core.proofs.Numbers.{count_next, length-numbers}
use Rattle.chip_core.proofs.quiet.QuietWatch.start.Goals as goal
use Rattle.chip_core.proofs.quiet.QuietWatch.start.Goals.{then-not-block_is_quiet, else-not-block_is_quiet}

pub overflow_add-unquiet : goal.overflow_add-unquiet
overflow_add-unquiet g c =
    let pages = (g.F.Flash.state c.args.flash.now).pages in
    let unquiet : ℕ → Bool = λ b. not (is_quiet_block c.args.g.now pages b) in
    let few = count_by-le-length unquiet (numbers_from 0 c.loop-block.block) in
    let long = length-numbers 0 c.loop-block.block in
    let blocks = (bounds c.args.g.now).blocks_high in
    omega (arith, c.loop-block.invariant, c.loop-block-test.true)

pub loop-block-preserved : goal.loop-block-preserved
loop-block-preserved g c =
    let quiet : ℕ → Bool = is_quiet_block c.args.g.now (g.F.Flash.state c.args.flash.now).pages in
    let next = count_next (λ b. not (quiet b)) c.loop-block.block in
    let here = c.block_is_quiet.ensures in
    elim c.if-not-block_is_quiet.branch [
      | then-not-block_is_quiet w ↦
          let one : count_if (not (quiet c.loop-block.block)) ≡ 1 = ap (λ b. count_if (not b)) (sym here ∙ w.if-not-block_is_quiet.true) in
          omega (arith, c.loop-block.invariant, w.unquiet-is)
      | else-not-block_is_quiet w ↦
          let none : count_if (not (quiet c.loop-block.block)) ≡ 0 = ap (λ b. count_if (not b)) (sym here ∙ w.if-not-block_is_quiet.false) in
          omega (arith, c.loop-block.invariant, w.unquiet-is)
    ]
