use Rattle.std.proofs.Common.{◌≡◌, ◌*◌, ◌<◌, fold, length, All}
use Rattle.std.specs.VecDeque.Iter.{deque_iter_rest}
use Rattle.nand_model.specs.Flips.{with_bit_turned}
use Rattle.chip_sim.proofs.page.turn_bits.Given as goal

abbrev pub invariant-loop-bit : goal.invariant-loop-bit
invariant-loop-bit l =
    record {
      left : fold with_bit_turned l.cells (deque_iter_rest l.bit-iterator) ≡ fold with_bit_turned l.initial.cells l.bits;
      there : All (λ bit. bit < 8 * length l.initial.cells) (deque_iter_rest l.bit-iterator);
    }
