use Rattle.std.proofs.Common.{◌∙◌, ap, sym}
use Rattle.nand_model.specs.Chip.{PowerCut, EraseEvent, done_bits, happens}
use Rattle.nand_model.specs.Sizes.{raw_len}
use Rattle.nand_iface.proofs.FlashLemmas.{after_trace-push, happens-torn_block, happens-torn_erase_others}
use Rattle.nand_iface.proofs.laws.tear_one_erase.Goals as goal

pub returns-clause-torn : goal.returns-clause-torn
returns-clause-torn g c =
    λ p inside. ap (λ s. s.pages p) c.torn_erase.ensures.state
    ∙ happens-torn_block g.F.Flash.fault_model (g.F.Flash.state c.args.flash.now) c.args.block
    (done_bits (raw_len (g.F.Flash.state c.args.flash.now).geometry) c.args.tear.now) p inside

pub returns-clause-others : goal.returns-clause-others
returns-clause-others g c =
    λ p other. ap (λ s. s.pages p) c.torn_erase.ensures.state
    ∙ happens-torn_erase_others g.F.Flash.fault_model (g.F.Flash.state c.args.flash.now) c.args.block
    (done_bits (raw_len (g.F.Flash.state c.args.flash.now).geometry) c.args.tear.now) p other

pub returns-clause-trace : goal.returns-clause-trace
returns-clause-trace g c =
    let cut = PowerCut (EraseEvent c.args.block) (done_bits (raw_len (g.F.Flash.state c.args.flash.now).geometry) c.args.tear.now) in
    λ start events past.
    c.torn_erase.ensures.state ∙ ap (λ s. happens g.F.Flash.fault_model s cut) past
    ∙ sym (after_trace-push g.F.Flash.fault_model start events cut)
