use Rattle.std.proofs.Common.{◌∙◌, ◌/◌}
use Rattle.command_model.specs.NandTest.{test_passes}
use Rattle.tool_steps.specs.Testing.{test_mode}
use Rattle.tool_steps.proofs.Testings.{first_of_pass}
use Rattle.tool_steps.proofs.testing.Testing.start.Goals as goal

pub returns : goal.returns
returns c =
    let g = c.args.g.now in
    first_of_pass g (test_mode c.args.called) (c.args.off / c.block_len.result) c.blocks_in_range-count.result c.args.called.passes
    (record { blocks = 0; bad = 0; worn = 0; mismatched = 0; corrected = 0; failed = 0 }) c.blocks_in_range-count.ensures.some c.requires.some
    ∙ (λ i. test_passes g (test_mode c.args.called) (c.args.off / c.block_len.ensures i) (c.blocks_in_range-count.ensures.blocks i) c.args.called.passes
    (record { blocks = 0; bad = 0; worn = 0; mismatched = 0; corrected = 0; failed = 0 }))
