use Rattle.std.proofs.Common.{◌≡◌}
use Rattle.std.specs.Prelude.{All}
use Rattle.std.specs.VecDeque.Iter.{deque_iter_rest}
use Rattle.nand_model.specs.Partitions.{LiesWithin}
use Rattle.plan_grammar.specs.declared.lines.PartLine.{PartLine}
use Rattle.plan_text.specs.Boot.{placed, with_parts}
use Rattle.plan_text.proofs.parts.add_parts.Given as goal

-- the partitions so far and what is left make the whole
abbrev pub invariant-loop-line : goal.invariant-loop-line
invariant-loop-line l = record {
  whole : with_parts l.parts (placed l.number (deque_iter_rest l.line-iterator)) ≡ with_parts l.fn.parts (placed l.number l.chip.parts);
  within : All (λ (p : PartLine). LiesWithin l.chip.geometry.blocks (record { chip = 0; start = p.start; count = p.count }))
      (deque_iter_rest l.line-iterator);
}
