use Rattle.std.proofs.Common.{arith}
use Rattle.lab_outside.proofs.KnownBytes.{append_known_more}
use Rattle.lab_outside.proofs.writing.write_all.Goals as goal

pub loop-written-preserved : goal.loop-written-preserved
loop-written-preserved g c = record {
  in_text = omega (arith, c.in_ok-written.ensures.within);
  count = omega (arith, c.in_ok-written.ensures.count);
  held = append_known_more _ _ _ _ _ _ c.loop-written.invariant.held c.in_ok-written.ensures.grown;
}
