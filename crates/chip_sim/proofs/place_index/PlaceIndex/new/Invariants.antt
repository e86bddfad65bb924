-- The places from here on are in the index.
use Rattle.std.proofs.Common.{◌≡◌, ◌≤◌, length, drop}
use Rattle.nand_model.specs.Chip.{Call}
use Rattle.chip_sim.specs.Weakness.{first_weak, place_in}
use Rattle.chip_sim.proofs.place_index.PlaceIndex.new.Given as goal

abbrev pub invariant-loop-n : goal.invariant-loop-n
invariant-loop-n l =
    record {
      within : l.n ≤ length l.list;
      found : (call : Call) → place_in l.index call ≡ first_weak l.n (drop l.n l.list) call;
    }

abbrev pub decreases-loop-n : goal.decreases-loop-n
decreases-loop-n l = l.n
