use Rattle.std.proofs.Common.{◌≡◌, ◌≤◌, ◌+◌, ℕ, ◌==◌, ◌++◌, if◌then◌else◌, length}
use Rattle.std.specs.VecDeque.Iter.{deque_iter_rest}
use Rattle.chip_sim.specs.FlipLog.{flips_of}
use Rattle.chip_sim.proofs.flip_log.FlipLog.add.Given as goal

abbrev pub invariant-loop-bit : goal.invariant-loop-bit
invariant-loop-bit l =
    record {
      flips : (p : ℕ) → (if p == l.page then flips_of l.self.flips p ++ deque_iter_rest l.bit-iterator else flips_of l.self.flips p)
          ≡ (if p == l.page then flips_of l.initial.self.flips p ++ l.bits else flips_of l.initial.self.flips p);
      pages : length l.self.flips ≡ length l.initial.self.flips;
      room : l.self.room + length l.bits ≡ l.initial.self.room + length (deque_iter_rest l.bit-iterator);
      left : length (deque_iter_rest l.bit-iterator) ≤ l.self.room;
    }
