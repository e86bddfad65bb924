use Rattle.std.proofs.Common.{◌≡◌, ◌<◌, ◌≤◌, ◌+◌, arith, length, ap, sym, ◌∙◌}
use Rattle.nand_model.specs.Flips.{due_flips}
use Rattle.ctl_core.specs.Board.{slot_state, HasRoom}
use Rattle.ctl_core.specs.Flips.{bit_count, flips_on}
use Rattle.ctl_core.proofs.FlipSteps.{first_all, first_set}
use Rattle.ctl_core.proofs.OnCourse.{kept_same, lent_within}
use Rattle.ctl_core.proofs.Positions.{mapped_length}
use Rattle.ctl_core.proofs.flips.reserve_for.Goals as goal

pub returns-in_err-reserve-clause-same : goal.returns-in_err-reserve-clause-same
returns-in_err-reserve-clause-same g c =
    let many : length c.loop-k.slots.items ≡ length c.args.slots.now.items =
    sym (mapped_length slot_state c.loop-k.slots.items) ∙ ap length c.loop-k.invariant.same ∙ mapped_length slot_state c.args.slots.now.items in
    let within : c.loop-k.k < length c.loop-k.slots.items = omega (arith, many, c.loop-k-test.true, c.len-k-end.ensures, c.args.slots.now.ok.0) in
    kept_same slot_state c.loop-k.slots.items c.loop-k.k c.index_mut.result.now _ (lent_within c.loop-k.slots.items c.loop-k.k c.index_mut.result.now within
    c.index_mut.ensures.value)
    (λ j. record {
      state = c.reserve.ensures.state j;
      stage = c.reserve.ensures.stage j;
      pending_note = c.reserve.ensures.pending_note j;
      holder =
          c.index_mut.result.now.holder;
    })
    ∙ c.loop-k.invariant.same

pub loop-k-preserved : goal.loop-k-preserved
loop-k-preserved g c =
    let many : length c.loop-k.slots.items ≡ length c.args.slots.now.items =
    sym (mapped_length slot_state c.loop-k.slots.items) ∙ ap length c.loop-k.invariant.same ∙ mapped_length slot_state c.args.slots.now.items in
    let within : c.loop-k.k < length c.loop-k.slots.items = omega (arith, many, c.loop-k-test.true, c.len-k-end.ensures, c.args.slots.now.ok.0) in
    record {
      room = first_set (λ j. HasRoom (1 + length (flips_on j (due_flips c.args.faults.now.flips c.args.event)))
          (bit_count (flips_on j (due_flips c.args.faults.now.flips c.args.event)))) c.loop-k.slots.items c.loop-k.k _ within
          (record {
            page_room = omega (arith, c.due_counts-pages.ensures.few, c.due_counts-pages.ensures.pages, c.in_ok-reserve.ensures.page_room);
            bits_room = omega (arith, c.due_counts-pages.ensures.bits, c.in_ok-reserve.ensures.bits);
          }) c.loop-k.invariant.room;
      same = kept_same slot_state c.loop-k.slots.items c.loop-k.k c.index_mut.result.now _
          (lent_within c.loop-k.slots.items c.loop-k.k c.index_mut.result.now within c.index_mut.ensures.value)
          (λ j. record {
            state = c.reserve.ensures.state j;
            stage = c.reserve.ensures.stage j;
            pending_note = c.reserve.ensures.pending_note j;
            holder =
                c.index_mut.result.now.holder;
          })
          ∙ c.loop-k.invariant.same;
    }

pub returns-clause-room : goal.returns-clause-room
returns-clause-room g c =
    let many : length c.loop-k.slots.items ≡ length c.args.slots.now.items =
    sym (mapped_length slot_state c.loop-k.slots.items) ∙ ap length c.loop-k.invariant.same ∙ mapped_length slot_state c.args.slots.now.items in
    let end : length c.loop-k.slots.items ≤ c.loop-k.k = omega (arith, many, c.len-k-end.ensures, c.args.slots.now.ok.0) in
    first_all (λ j. HasRoom (1 + length (flips_on j (due_flips c.args.faults.now.flips c.args.event)))
    (bit_count (flips_on j (due_flips c.args.faults.now.flips c.args.event)))) c.loop-k.slots.items c.loop-k.k end c.loop-k.invariant.room
