use Rattle.std.proofs.Common.{◌∙◌, ap, sym}
use Rattle.nand_model.specs.Chip.{PowerCut, ProgramEvent, done_bits, happens}
use Rattle.nand_model.specs.Sizes.{raw_len}
use Rattle.nand_iface.proofs.FlashLemmas.{after_trace-push, happens-torn_page, happens-torn_program_others}
use Rattle.nand_iface.proofs.laws.tear_one_program.Goals as goal

pub returns-clause-torn : goal.returns-clause-torn
returns-clause-torn g c =
    ap (λ s. s.pages c.args.page) c.torn_program.ensures.state
    ∙ happens-torn_page g.F.Flash.fault_model (g.F.Flash.state c.args.flash.now) c.args.page c.args.image.now
    (done_bits (raw_len (g.F.Flash.state c.args.flash.now).geometry) c.args.tear.now)

pub returns-clause-others : goal.returns-clause-others
returns-clause-others g c =
    λ p other. ap (λ s. s.pages p) c.torn_program.ensures.state
    ∙ happens-torn_program_others g.F.Flash.fault_model (g.F.Flash.state c.args.flash.now) c.args.page c.args.image.now
    (done_bits (raw_len (g.F.Flash.state c.args.flash.now).geometry) c.args.tear.now) p other

pub returns-clause-trace : goal.returns-clause-trace
returns-clause-trace g c =
    let cut = PowerCut (ProgramEvent c.args.page c.args.image.now) (done_bits (raw_len (g.F.Flash.state c.args.flash.now).geometry) c.args.tear.now) in
    λ start events past.
    c.torn_program.ensures.state ∙ ap (λ s. happens g.F.Flash.fault_model s cut) past
    ∙ sym (after_trace-push g.F.Flash.fault_model start events cut)
