use Rattle.std.proofs.Common.{refl, arith, None, slice_index_or}
use Rattle.chip_sim.specs.declared.flip_log.FlippedBit.{FlippedBit}
use Rattle.chip_sim.proofs.LogLemmas.{comes_nearer, counts_end, counts_step, leads_back, read_there}
use Rattle.chip_sim.proofs.flip_log.count_flips.Goals as goal

pub loop-next-init : goal.loop-next-init
loop-next-init c = record { seen = 0; is = refl; all = omega arith; there = c.requires.there }

pub loop-next-smaller : goal.loop-next-smaller
loop-next-smaller c =
    let flip : FlippedBit = slice_index_or c.args.flips.now c.in-Some.place (record { bit = 0; before = None }) in
    comes_nearer c.in-Some.place c.loop-next.next flip.before c.in-Some.is (leads_back c.args.flips.now c.in-Some.place flip c.loop-next.next c.requires.back
    c.loop-next.invariant.there c.in-Some.is (read_there c.args.flips.now c.loop-next.next c.in-Some.place _ c.in-Some.is c.loop-next.invariant.there))

pub loop-next-preserved : goal.loop-next-preserved
loop-next-preserved c =
    let flip : FlippedBit = slice_index_or c.args.flips.now c.in-Some.place (record { bit = 0; before = None }) in
    counts_step c.args.flips.now c.args.last c.loop-next.next c.args.from c.args.to c.loop-next.count c.count_flip-count.result c.in-Some.place flip
    c.requires.back c.loop-next.invariant c.in-Some.is (read_there c.args.flips.now c.loop-next.next c.in-Some.place _ c.in-Some.is c.loop-next.invariant.there)
    c.count_flip-count.ensures

pub returns : goal.returns
returns c =
    counts_end c.args.flips.now c.args.last c.loop-next.next c.args.from c.args.to c.loop-next.count c.loop-next.invariant c.in_default.is
