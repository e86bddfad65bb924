use Rattle.std.proofs.Common.{◌∙◌, ap, sym}
use Rattle.nand_model.specs.Chip.{Complete, ProgramEvent, happens}
use Rattle.nand_iface.proofs.FlashLemmas.{after_trace-push}
use Rattle.nand_iface.proofs.laws.program_one_page.Goals as goal

pub returns-clause-trace : goal.returns-clause-trace
returns-clause-trace g c =
    λ start events past.
    c.program_page.ensures.state ∙ ap (λ s. happens g.F.Flash.fault_model s (Complete (ProgramEvent c.args.page c.args.image.now))) past
    ∙ sym (after_trace-push g.F.Flash.fault_model start events (Complete (ProgramEvent c.args.page c.args.image.now)))
