use Rattle.std.proofs.Common.{◌*◌, ◌+◌, length, take, sym, ap, ◌∙◌, arith}
use Rattle.std.proofs.lemmas.List.{take_all}
use Rattle.nand_model.specs.Table.{states_in}
use Rattle.bbt_image.proofs.StateBytes.{states_more, states_long}
use Rattle.bbt_image.proofs.states.take_states.Goals as goal

pub set_byte-requires : goal.set_byte-requires
set_byte-requires c = omega (arith, c.loop-n.invariant.long)

pub loop-n-preserved : goal.loop-n-preserved
loop-n-preserved c =
    let long = c.loop-n.invariant.long in
    let new = c.set_byte.ensures in
    record {
      done =
          ap (take (4 * (c.loop-n.n + 1))) new
          ∙ states_more c.args.bytes.now c.loop-n.table c.loop-n.n c.states_read.result (omega arith) long c.states_read.ensures c.loop-n.invariant.done;
      long = ap length new ∙ states_long c.loop-n.table c.loop-n.n c.states_read.result (omega arith) ∙ long;
    }

pub returns : goal.returns
returns c =
    let long = c.loop-n.invariant.long in
    sym (take_all (4 * c.loop-n.n) c.loop-n.table (omega arith)) ∙ c.loop-n.invariant.done
    ∙ ap states_in (take_all c.loop-n.n c.args.bytes.now (omega arith))
