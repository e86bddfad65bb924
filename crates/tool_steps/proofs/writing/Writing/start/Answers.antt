use Rattle.std.proofs.Common.{◌≡◌, ℕ, suc, ◌+◌, ◌-◌, ◌*◌, ◌/◌, ◌%◌, ◌<◌, ◌++◌, length, replicate, ap, ◌∙◌, sym, arith}
use Rattle.std.proofs.Math.Nat.{mod-lt}
use Rattle.nand_model.proofs.Bounds.{pages-le, pages-some}
use Rattle.command_model.specs.Command.{unit_size}
use Rattle.tool_steps.proofs.Sizes.{block_of_offset-lt, unit_count-few, unit_size-low}
use Rattle.tool_steps.proofs.Writes.{write_starts}
use Rattle.tool_steps.proofs.writing.Writing.start.Goals as goal

pub overflow_sub-at : goal.overflow_sub-at
overflow_sub-at c = rw c.block_len.ensures (omega (arith, block_of_offset-lt c.args.g.now c.args.blocks c.args.off c.requires.first))

pub overflow_sub-at-2 : goal.overflow_sub-at-2
overflow_sub-at-2 c = rw c.block_len.ensures (omega (arith, block_of_offset-lt c.args.g.now c.args.blocks c.args.off c.requires.first))

pub invariant_of-at-clause-in_device : goal.invariant_of-at-clause-in_device
invariant_of-at-clause-in_device c =
    rw c.block_len.ensures (omega (arith, block_of_offset-lt c.args.g.now c.args.blocks c.args.off c.requires.first, c.requires.size.1))

pub invariant_of-at-clause-in_block : goal.invariant_of-at-clause-in_block
invariant_of-at-clause-in_block c =
    rw c.from-2.ensures (omega (arith, mod-lt (c.args.off / c.from.result) (pages-some c.args.g.now), pages-le c.args.g.now))

pub invariant_of-at-clause-units : goal.invariant_of-at-clause-units
invariant_of-at-clause-units c =
    rw c.unit_len-len.ensures
    (omega (arith, unit_count-few (unit_size c.args.g.now c.args.called.oob) (length c.args.bytes.now) (unit_size-low c.args.g.now c.args.called.oob) c.requires.few))

pub returns : goal.returns
returns c =
    let a = c.args in
    let below : c.args.off / c.block_len.result < c.args.blocks = rw c.block_len.ensures (block_of_offset-lt c.args.g.now c.args.blocks c.args.off c.requires.first) in
    let rest : suc (c.args.blocks - c.args.off / c.block_len.result - 1) ≡ c.args.blocks - c.args.off / c.block_len.result = omega arith in
    let all : suc ((length c.args.bytes.now + (c.unit_len-len.result - 1)) / c.unit_len-len.result - 1)
    ≡ (length c.args.bytes.now + (c.unit_len-len.result - 1)) / c.unit_len-len.result = omega arith in
    write_starts a.g.now a.called a.blocks a.off (c.args.off / c.block_len.result) (c.args.off / c.from.result % c.from-2.result)
    (c.args.blocks - c.args.off / c.block_len.result - 1) ((length c.args.bytes.now + (c.unit_len-len.result - 1)) / c.unit_len-len.result - 1)
    a.bytes.now c.in_ok-units.units
    (ap (λ (n : ℕ). c.args.off / n) c.block_len.ensures)
    (λ i. c.args.off / c.from.ensures i % c.from-2.ensures i)
    rest
    (all ∙ ap (λ (n : ℕ). (length c.args.bytes.now + (n - 1)) / n) c.unit_len-len.ensures)
    (c.in_ok-units.ensures ∙ (λ i. c.args.bytes.now ++ replicate (sym all i * c.unit_len-len.ensures i - length c.args.bytes.now) 0xff))
