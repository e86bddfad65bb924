use Rattle.std.proofs.Common.{[], ◌∷◌, ◌++◌}
use Rattle.std.specs.Prelude.{codes}
use Rattle.std.proofs.lemmas.Result.{IfOk-equal}
use Rattle.report_model.specs.Report.{device_name}
use Rattle.plan_print.specs.Lines.{dump_options, test_options}
use Rattle.plan_print.proofs.Parts.{then_word, words_put}
use Rattle.plan_print.proofs.commands.put_words.Goals as goal

pub returns-in_ok-put_dump_options-in-NandDump : goal.returns-in_ok-put_dump_options-in-NandDump
returns-in_ok-put_dump_options-in-NandDump c =
    let w = c.in-NandDump in
    let options = dump_options w.off w.len w.raw w.oob w.bad in
    let begun = c.put_text-in-NandDump.new.out in
    let given = c.put_dump_options.new.out in
    let device = device_name w.dev in
    rw w.is (IfOk-equal _ _ _ _ c.put_device-in-NandDump.ensures
    (words_put c.args.out.now begun (given ++ 32 ∷ device) (codes "nanddump") (options ++ device ∷ [])
    c.in_ok-put_text-in-NandDump.ensures
    (then_word begun given options device c.in_ok-put_dump_options-in-NandDump.ensures)))

pub returns-in_ok-put_test_options-in-NandTest : goal.returns-in_ok-put_test_options-in-NandTest
returns-in_ok-put_test_options-in-NandTest c =
    let w = c.in-NandTest in
    let options = test_options w.keep w.mark w.seed w.passes w.off w.len in
    let begun = c.put_text-in-NandTest.new.out in
    let given = c.put_test_options.new.out in
    let device = device_name w.dev in
    rw w.is (IfOk-equal _ _ _ _ c.put_device-in-NandTest.ensures
    (words_put c.args.out.now begun (given ++ 32 ∷ device) (codes "nandtest") (options ++ device ∷ [])
    c.in_ok-put_text-in-NandTest.ensures
    (then_word begun given options device c.in_ok-put_test_options-in-NandTest.ensures)))

pub returns-in-MarkBad : goal.returns-in-MarkBad
returns-in-MarkBad c = rw c.in-MarkBad.is c.put_block_command.ensures
