use Rattle.std.proofs.Common.{sym, ◌∙◌, arith}
use Rattle.std.proofs.lemmas.List.{take_all}
use Rattle.nand_model.specs.Table.{table_bytes}
use Rattle.bbt_image.proofs.StateBytes.{byte_more, length-table_bytes}
use Rattle.bbt_image.proofs.states.put_bytes.Goals as goal

pub loop-n-preserved : goal.loop-n-preserved
loop-n-preserved c =
    byte_more c.args.table.now c.loop-n.out c.loop-n.n c.byte.result c.byte_written.result (omega arith) (omega (arith, c.requires.whole))
    c.byte.ensures.entries c.byte_written.ensures c.loop-n.invariant

pub returns : goal.returns
returns c =
    let long = length-table_bytes c.args.table.now in
    let whole = c.requires.whole in
    sym (take_all c.loop-n.n c.loop-n.out (omega arith)) ∙ c.loop-n.invariant ∙ take_all c.loop-n.n (table_bytes c.args.table.now) (omega arith)
