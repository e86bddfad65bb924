use Rattle.std.proofs.Common.{ℕ, List, ◌++◌, ◌∷◌, [], ap, ◌∙◌}
use Rattle.std.specs.Prelude.{codes, decimal}
use Rattle.nand_model.specs.Partitions.{command_device}
use Rattle.report_model.specs.Report.{device_name}
use Rattle.report_text.proofs.Pieces.{halves}
use Rattle.report_text.proofs.outcomes.put_outcome.Goals as goal

pub returns-in_ok-put_tested-in-NandTest : goal.returns-in_ok-put_tested-in-NandTest
returns-in_ok-put_tested-in-NandTest c =
    let w = c.in-NandTest in
    let half : ℕ → List ℕ = λ dev.
    codes "nandtest " ++ device_name dev ++ codes ": passes " ++ decimal w.passes ++ codes ", blocks "
    ++ decimal w.blocks ++ codes ", bad " ++ decimal w.bad ++ codes ", worn " ++ decimal w.worn in
    rw w.is (halves _ c.args.out.now c.put_tested.new.out _ (half (command_device c.args.command.now))
    (codes ", mismatched ") (decimal w.mismatched) (codes ", corrected ") (decimal w.corrected) (codes ", failed ")
    (decimal w.failed) (10 ∷ [])
    (c.in_ok-put_tested-in-NandTest.ensures ∙ ap (λ (dev : ℕ). c.args.out.now ++ half dev) c.device-dev.ensures)
    c.put_compared.ensures)
