use Rattle.std.proofs.Common.{◌≡◌, ◌∙◌, Some, refl, ap, sym, subst, arith}
use Rattle.std.specs.Prelude.{IsSome, is_some}
use Rattle.chip_paths.specs.Stage.{Rests}
use Rattle.nand_model.specs.Path.{first_event}
use Rattle.nand_model.specs.declared.geometry.Geometry.{Geometry}
use Rattle.bbt_flash.specs.Attach.{attach_left}
use Rattle.chip_core.specs.AttachRun.{RunFits, attaching_found}
use Rattle.chip_core.specs.Phase.{KnowsQuiet, PhaseFits, pending_note_in, phase_stage, programs_left}
use Rattle.chip_core.proofs.Answering.{known_found}
use Rattle.chip_core.proofs.Attaching.{advanced-sizes, comes-to-rest, goes-on}
use Rattle.chip_core.proofs.Named.{is_named, is_unnamed}
use Rattle.chip_core.proofs.chip.Chip.attach_on.Goals as goal

pub advance-told-requires-clause-fits : goal.advance-told-requires-clause-fits
advance-told-requires-clause-fits g c =
    let chip = c.args.self.now in subst (λ (h : Geometry). RunFits h c.args.run) (sym chip.sizes) c.requires.fits.run_fits

pub advance-told-requires-clause-sizes : goal.advance-told-requires-clause-sizes
advance-told-requires-clause-sizes g c = let chip = c.args.self.now in chip.judge_sizes ∙ sym chip.sizes

pub returns-then-is_some-clause-advanced : goal.returns-then-is_some-clause-advanced
returns-then-is_some-clause-advanced g c =
    let chip = c.args.self.now in
    let run = c.advance-told.new.self in
    let there : IsSome (first_event (attach_left run.attach)) =
    is_named (first_event (attach_left run.attach)) (sym (c.is_some.ensures ∙ ap is_some c.event.ensures.next) ∙ c.if-is_some.true) in
    goes-on g.F.Flash.fault_model (g.F.Flash.state chip.flash) (g.F.Flash.state c.advance-told.new.flash) c.args.run run c.advance-told.result
    c.requires.watches c.advance-told.ensures.advanced there _ _ refl refl

pub returns-clause-advanced : goal.returns-clause-advanced
returns-clause-advanced g c =
    let chip = c.args.self.now in
    let run = c.advance-told.new.self in
    let finding = c.into_finding.result in
    comes-to-rest g.F.Flash.fault_model (g.F.Flash.state chip.flash) (g.F.Flash.state c.advance-told.new.flash) c.args.run run c.advance-told.result
    c.requires.watches c.advance-told.ensures.advanced (attaching_found finding) c.into_finding.ensures.found _ _
    (ap (phase_stage c.into_finding.new.known) c.requires.rests
    ∙ ap Rests (known_found chip.known c.into_finding.new.known (attaching_found finding) c.into_finding.ensures.known c.requires.fits.fresh))
    (ap (λ p. pending_note_in p (Some finding)) c.requires.rests ∙ ap (λ q. Some (q, attaching_found finding)) c.into_finding.ensures.quiet)

pub into_finding-requires-clause-over : goal.into_finding-requires-clause-over
into_finding-requires-clause-over g c =
    let run = c.advance-told.new.self in
    is_unnamed (first_event (attach_left run.attach)) (sym (c.is_some.ensures ∙ ap is_some c.event.ensures.next) ∙ c.if-is_some.false)

pub into_finding-requires-clause-fits : goal.into_finding-requires-clause-fits
into_finding-requires-clause-fits g c =
    let chip = c.args.self.now in subst (λ (h : Geometry). RunFits h c.advance-told.new.self) chip.sizes c.advance-told.ensures.fits

pub invariant_of-self-2 : goal.invariant_of-self-2
invariant_of-self-2 g c =
    let chip = c.args.self.now in
    let run = c.advance-told.new.self in
    let s = g.F.Flash.state chip.flash in
    let now = g.F.Flash.state c.advance-told.new.flash in
    let known = c.into_finding.new.known in
    let rests = c.requires.rests in
    let sizes : now.geometry ≡ s.geometry =
    advanced-sizes g.F.Flash.fault_model s now c.args.run run c.advance-told.result c.requires.event c.advance-told.ensures.advanced in
    let kept : known.geometry ≡ chip.known.geometry = c.into_finding.ensures.known.geometry in
    let none : programs_left known.geometry chip.phase ≡ 0 = ap (programs_left known.geometry) rests in
    record {
      sizes = sizes ∙ chip.sizes ∙ sym kept;
      judge_sizes = c.advance-told.ensures.sizes ∙ chip.judge_sizes ∙ sym kept;
      quiet = subst (KnowsQuiet now) (sym rests) tt;
      fits = subst (PhaseFits known.geometry known.table known.sums) (sym rests) tt;
      few = chip.few;
      room = omega (arith, none, c.requires.room, c.advance-told.ensures.room);
    }
