use Rattle.std.proofs.Common.{◌∙◌, ap, sym}
use Rattle.nand_model.specs.Chip.{Complete, EraseEvent, happens}
use Rattle.nand_iface.proofs.FlashLemmas.{after_trace-push}
use Rattle.nand_iface.proofs.laws.erase_one_block.Goals as goal

pub returns-clause-trace : goal.returns-clause-trace
returns-clause-trace g c =
    λ start events past.
    c.erase_block.ensures.state ∙ ap (λ s. happens g.F.Flash.fault_model s (Complete (EraseEvent c.args.block))) past
    ∙ sym (after_trace-push g.F.Flash.fault_model start events (Complete (EraseEvent c.args.block)))
