use Rattle.std.proofs.Common.{◌≡◌, ◌∙◌, ◌-◌, ◌+◌, ap, arith, refl, subst, sym}
use Rattle.std.specs.Prelude.{IsSome, is_some, option_map}
use Rattle.chip_paths.specs.ChipRun.{name_of}
use Rattle.chip_paths.specs.Stage.{stage_event}
use Rattle.nand_model.specs.Quiet.{is_quiet}
use Rattle.chip_core.specs.Chip.{chip_pending_note, chip_stage, chip_state}
use Rattle.chip_core.proofs.Named.{is_named, is_unnamed}
use Rattle.chip_core.proofs.Performing.{HasCome, begins, ends_at, has_cause, has_performed, is_at_rest, is_finished, no_event, no_note, one_event}
use Rattle.chip_core.proofs.whole.perform.Goals as goal
use Rattle.chip_core.proofs.whole.perform.Goals.{then-is_some, else-is_some}

pub loop-init : goal.loop-init
loop-init g c =
    let chip = c.args.chip.now in
    record {
      come = begins g.F.Flash.fault_model c.args.parts.now c.args.op.now (chip_state chip)
          (chip_stage chip) (chip_stage c.begin.new.self) (chip_state c.begin.new.self) c.requires.rests c.in_ok-begin.ensures.begun
          c.in_ok-begin.ensures.state;
      note = c.in_ok-begin.ensures.pending_note;
      page_room = c.in_ok-begin.ensures.page_room;
      bits = c.in_ok-begin.ensures.bits;
    }

pub loop-preserved : goal.loop-preserved
loop-preserved g c =
    let model = g.F.Flash.fault_model in
    let parts = c.args.parts.now in
    let op = c.args.op.now in
    let start = chip_state c.args.chip.now in
    let first = chip_stage c.args.chip.now in
    let now = chip_state c.loop.chip in
    let stage = chip_stage c.loop.chip in
    let n = 14 - c.loop.counter in
    let one_less : n - 1 ≡ 14 - (c.loop.counter + 1) = omega arith in
    let come = c.loop.invariant.come in
    let named : c.is_some.result ≡ is_some (option_map name_of (stage_event stage)) = c.is_some.ensures ∙ ap is_some c.next_event.ensures in
    elim c.if-is_some.branch [
      | then-is_some w ↦
          let there : IsSome (stage_event stage) = is_named (stage_event stage) (sym named ∙ w.if-is_some.true) in
          let quiet = is_quiet now.geometry now.pages in
          rw w.chip-is
          (record {
            come = subst (λ n. HasCome model parts op start n first (chip_state w.advance.new.self) (chip_stage w.advance.new.self)) one_less
                (one_event model parts op start n first now stage come (chip_state w.advance.new.self) (chip_stage w.advance.new.self) quiet
                (stage_event stage) refl there w.advance.ensures.state w.advance.ensures.stage);
            note = no_note model parts op start n first now stage come quiet (chip_pending_note c.loop.chip) (chip_pending_note w.advance.new.self)
                (stage_event stage) there w.advance.ensures.pending_note
                ∙ c.loop.invariant.note;
            page_room = w.advance.ensures.page_room ∙ c.loop.invariant.page_room;
            bits = omega (arith, c.loop.invariant.bits, w.advance.ensures.bits);
          })
      | else-is_some w ↦
          let none = is_unnamed (stage_event stage) (sym named ∙ w.if-is_some.false) in
          rw w.chip-is
          (record {
            come = no_event model parts op start n first now stage come (14 - (c.loop.counter + 1)) none;
            note = c.loop.invariant.note;
            page_room = c.loop.invariant.page_room;
            bits = c.loop.invariant.bits;
          })
    ]

pub answer-requires : goal.answer-requires
answer-requires g c =
    let done : 14 - c.loop.counter ≡ 0 = omega (arith, c.loop-test.false) in
    is_finished g.F.Flash.fault_model c.args.parts.now c.args.op.now (chip_state c.args.chip.now) (chip_state c.loop.chip)
    (chip_stage c.args.chip.now) (chip_stage c.loop.chip)
    (ends_at g.F.Flash.fault_model c.args.parts.now c.args.op.now (chip_state c.args.chip.now) (14 - c.loop.counter) done (chip_stage c.args.chip.now) (chip_state c.loop.chip) (chip_stage c.loop.chip) c.loop.invariant.come)

pub returns-clause-performed : goal.returns-clause-performed
returns-clause-performed g c =
    let done : 14 - c.loop.counter ≡ 0 = omega (arith, c.loop-test.false) in
    has_performed g.F.Flash.fault_model c.args.parts.now c.args.op.now (chip_state c.args.chip.now) (chip_state c.loop.chip)
    (chip_stage c.args.chip.now) (chip_stage c.loop.chip)
    (ends_at g.F.Flash.fault_model c.args.parts.now c.args.op.now (chip_state c.args.chip.now) (14 - c.loop.counter) done (chip_stage c.args.chip.now) (chip_state c.loop.chip) (chip_stage c.loop.chip) c.loop.invariant.come)
    c.answer.result c.answer.ensures.reply (chip_state c.answer.new.self) c.answer.ensures.state (chip_stage c.answer.new.self) c.answer.ensures.stage

pub returns-clause-causes : goal.returns-clause-causes
returns-clause-causes g c =
    let done : 14 - c.loop.counter ≡ 0 = omega (arith, c.loop-test.false) in
    has_cause g.F.Flash.fault_model c.args.parts.now c.args.op.now (chip_state c.args.chip.now) (chip_state c.loop.chip)
    (chip_stage c.args.chip.now) (chip_stage c.loop.chip)
    (ends_at g.F.Flash.fault_model c.args.parts.now c.args.op.now (chip_state c.args.chip.now) (14 - c.loop.counter) done (chip_stage c.args.chip.now) (chip_state c.loop.chip) (chip_stage c.loop.chip) c.loop.invariant.come)
    c.answer.result c.answer.ensures.reply (chip_state c.answer.new.self) c.answer.ensures.state

pub returns-clause-rests : goal.returns-clause-rests
returns-clause-rests g c =
    let done : 14 - c.loop.counter ≡ 0 = omega (arith, c.loop-test.false) in
    is_at_rest g.F.Flash.fault_model c.args.parts.now c.args.op.now (chip_state c.args.chip.now) (chip_state c.loop.chip)
    (chip_stage c.args.chip.now) (chip_stage c.loop.chip)
    (ends_at g.F.Flash.fault_model c.args.parts.now c.args.op.now (chip_state c.args.chip.now) (14 - c.loop.counter) done (chip_stage c.args.chip.now) (chip_state c.loop.chip) (chip_stage c.loop.chip) c.loop.invariant.come)
    (chip_stage c.answer.new.self) c.answer.ensures.stage
