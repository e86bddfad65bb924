use Rattle.std.proofs.Common.{◌*◌, ◌<◌, length, fold, ap, sym, ◌∙◌}
use Rattle.std.proofs.lemmas.List.Elements.{All-rest}
use Rattle.std.specs.VecDeque.Iter.{deque_iter_rest}
use Rattle.nand_model.specs.Flips.{with_bit_turned}
use Rattle.chip_sim.proofs.page.turn_bits.Goals as goal

pub loop-bit-preserved : goal.loop-bit-preserved
loop-bit-preserved c =
    let steps = c.in-Some.ensures.steps in
    record {
      left = rw c.turn_bit.ensures (ap (fold with_bit_turned c.loop-bit.cells) (sym steps) ∙ c.loop-bit.invariant.left);
      there = All-rest (λ bit. bit < 8 * length c.args.cells.now) c.in-Some.bit.now (deque_iter_rest c.next.new.self)
          (deque_iter_rest c.loop-bit.bit-iterator) steps c.loop-bit.invariant.there;
    }
