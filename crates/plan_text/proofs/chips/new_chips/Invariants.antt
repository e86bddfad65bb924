use Rattle.std.proofs.Common.{◌≡◌, ◌++◌, map}
use Rattle.std.specs.Prelude.{All}
use Rattle.std.specs.VecDeque.Iter.{deque_iter_rest}
use Rattle.chip_sim.specs.State.{sim_state}
use Rattle.plan_model.specs.Plan.{new_chips}
use Rattle.plan_grammar.specs.Meaning.{chip_plan}
use Rattle.plan_text.specs.Plan.{IsMadeChip}
use Rattle.plan_text.proofs.chips.new_chips.Given as goal

-- the chips so far and what is left make the whole
abbrev pub invariant-loop-chip : goal.invariant-loop-chip
invariant-loop-chip l = record {
  whole : map sim_state l.flashes ++ new_chips (map chip_plan (deque_iter_rest l.chip-iterator)) ≡ new_chips (map chip_plan l.chips);
  made : All IsMadeChip (deque_iter_rest l.chip-iterator);
}
