use Rattle.std.proofs.Common.{◌≡◌, ◌-◌, ◌≤◌, length, bit_or}
use Rattle.bbt_flash.proofs.Reserving.{changed_to}
use Rattle.bbt_flash.proofs.markers.reserve_last.Given as goal

-- the blocks so far are reserved
abbrev pub invariant-loop-block : goal.invariant-loop-block
invariant-loop-block l =
    record {
      low : l.g.blocks - 4 ≤ l.block;
      whole : length l.table ≡ length l.fn.table;
      states : l.table ≡ changed_to (λ s. bit_or s 2) l.fn.table (l.g.blocks - 4) l.block;
    }
