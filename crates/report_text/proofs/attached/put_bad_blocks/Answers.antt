use Rattle.report_text.proofs.Entries.{block_printed, blocks_ended}
use Rattle.report_text.proofs.attached.put_bad_blocks.Goals as goal

pub loop-block-preserved : goal.loop-block-preserved
loop-block-preserved c =
    block_printed c.loop-block.out c.put_bad_block.new.out _ c.loop-block.any c.in_ok-any.any c.loop-block.block c.args.states.now c.loop-block-test.true
    c.in_ok-any.ensures.text c.in_ok-any.ensures.any c.loop-block.invariant

pub returns-then-any : goal.returns-then-any
returns-then-any c =
    blocks_ended c.loop-block.out _ c.loop-block.any c.loop-block.block c.args.states.now c.loop-block-test.false c.if-any.true c.loop-block.invariant
