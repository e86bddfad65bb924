use Rattle.std.proofs.Common.{◌≡◌, ◌<◌, ◌∙◌, ap, arith}
use Rattle.nand_model.specs.declared.geometry.Geometry.{Geometry}
use Rattle.chip_core.specs.Chip.{chip_pending_note, chip_stage, chip_state}
use Rattle.chip_core.proofs.Attached.{begins, goes_on, has_next, now_pending_note, now_rests}
use Rattle.chip_core.proofs.whole.attach.Goals as goal

pub loop-init : goal.loop-init
loop-init g c =
    begins (g.F.Flash.state c.args.flash) c.requires (chip_state c.in_ok-chip.chip) (chip_stage c.in_ok-chip.chip) (chip_pending_note c.in_ok-chip.chip)
    c.in_ok-chip.ensures.state c.in_ok-chip.ensures.stage c.in_ok-chip.ensures.pending_note

pub advance-requires : goal.advance-requires
advance-requires g c =
    let start = g.F.Flash.state c.args.flash in
    let sizes : c.geometry-end.result ≡ start.geometry = c.geometry-end.ensures ∙ ap (λ s. s.geometry) c.in_ok-chip.ensures.state in
    let there : c.loop.counter < start.geometry.blocks = rw (← sizes) c.loop-test.true in
    has_next start c.loop.counter (chip_state c.loop.chip) (chip_stage c.loop.chip) (chip_pending_note c.loop.chip) c.loop.invariant there

pub loop-preserved : goal.loop-preserved
loop-preserved g c =
    let start = g.F.Flash.state c.args.flash in
    let sizes : c.geometry-end.result ≡ start.geometry = c.geometry-end.ensures ∙ ap (λ s. s.geometry) c.in_ok-chip.ensures.state in
    let there : c.loop.counter < start.geometry.blocks = rw (← sizes) c.loop-test.true in
    goes_on start c.loop.counter (chip_state c.loop.chip) (chip_stage c.loop.chip) (chip_pending_note c.loop.chip) c.loop.invariant there
    g.F.Flash.fault_model (chip_state c.advance.new.self) (chip_stage c.advance.new.self)
    (chip_pending_note c.advance.new.self)
    c.advance.ensures.state c.advance.ensures.stage c.advance.ensures.pending_note

pub returns-clause-stage : goal.returns-clause-stage
returns-clause-stage g c =
    let start = g.F.Flash.state c.args.flash in
    let sizes : c.geometry-end.result ≡ start.geometry = c.geometry-end.ensures ∙ ap (λ s. s.geometry) c.in_ok-chip.ensures.state in
    let last : c.loop.counter ≡ c.geometry-end.result.blocks = omega (arith, c.loop-test.false, c.loop.auto.counter-end) in
    now_rests start c.loop.counter (chip_state c.loop.chip) (chip_stage c.loop.chip) (chip_pending_note c.loop.chip) c.loop.invariant
    (last ∙ ap (λ (g : Geometry). g.blocks) sizes)

pub returns-clause-pending_note : goal.returns-clause-pending_note
returns-clause-pending_note g c =
    let start = g.F.Flash.state c.args.flash in
    let sizes : c.geometry-end.result ≡ start.geometry = c.geometry-end.ensures ∙ ap (λ s. s.geometry) c.in_ok-chip.ensures.state in
    let last : c.loop.counter ≡ c.geometry-end.result.blocks = omega (arith, c.loop-test.false, c.loop.auto.counter-end) in
    now_pending_note start c.loop.counter (chip_state c.loop.chip) (chip_stage c.loop.chip) (chip_pending_note c.loop.chip) c.loop.invariant
    (last ∙ ap (λ (g : Geometry). g.blocks) sizes)
