use Rattle.std.proofs.Common.{◌∙◌, ap, sym}
use Rattle.nand_model.specs.Chip.{after_trace, flip_events}
use Rattle.nand_iface.proofs.FlashLemmas.{after_trace-append, after_trace-geometry, flips-counted, flips-faults, flips-others, flips-turned}
use Rattle.nand_iface.proofs.laws.turn_bits.Goals as goal

pub returns-clause-turned : goal.returns-clause-turned
returns-clause-turned g c =
    ap (λ s. (s.pages c.args.page).cells) c.flip.ensures.state ∙ flips-turned g.F.Flash.fault_model (g.F.Flash.state c.args.flash.now) c.args.page c.args.bits.now

pub returns-clause-counted : goal.returns-clause-counted
returns-clause-counted g c =
    ap (λ s. (s.pages c.args.page).flips) c.flip.ensures.state ∙ flips-counted g.F.Flash.fault_model (g.F.Flash.state c.args.flash.now) c.args.page c.args.bits.now

pub returns-clause-others : goal.returns-clause-others
returns-clause-others g c =
    λ p other. ap (λ s. s.pages p) c.flip.ensures.state
    ∙ flips-others g.F.Flash.fault_model (g.F.Flash.state c.args.flash.now) c.args.page c.args.bits.now p other

pub returns-clause-geometry : goal.returns-clause-geometry
returns-clause-geometry g c =
    ap (λ s. s.geometry) c.flip.ensures.state
    ∙ after_trace-geometry g.F.Flash.fault_model (g.F.Flash.state c.args.flash.now) (flip_events c.args.page c.args.bits.now)

pub returns-clause-faults : goal.returns-clause-faults
returns-clause-faults g c =
    ap (λ s. s.faults) c.flip.ensures.state ∙ flips-faults g.F.Flash.fault_model (g.F.Flash.state c.args.flash.now) c.args.page c.args.bits.now

pub returns-clause-trace : goal.returns-clause-trace
returns-clause-trace g c =
    λ start events past.
    c.flip.ensures.state ∙ ap (λ s. after_trace g.F.Flash.fault_model s (flip_events c.args.page c.args.bits.now)) past
    ∙ sym (after_trace-append g.F.Flash.fault_model start events (flip_events c.args.page c.args.bits.now))
