use Rattle.std.proofs.Common.{◌≡◌, ap, sym, subst, refl, ◌∙◌, arith}
use Rattle.chip_paths.specs.Stage.{Rests}
use Rattle.chip_core.specs.Phase.{KnowsQuiet, PhaseFits, phase_stage, programs_left}
use Rattle.chip_core.specs.declared.phase.Phase.TheVariants.{Working}
use Rattle.chip_core.specs.declared.task.Task.TheVariants.{Decoded, Marked, Writing}
use Rattle.chip_core.proofs.Answering.{marked_answered, read_answered, written_answered}
use Rattle.chip_core.proofs.chip.Chip.answer.Goals as goal

pub returns-in-Working-Marked-clause-stage : goal.returns-in-Working-Marked-clause-stage
returns-in-Working-Marked-clause-stage g c =
    let chip = c.args.self.now in
    let at = c.in-Working-Marked in
    let phase : chip.phase ≡ Working (Marked at.field-0-0 at.field-0-1) = sym c.replace.ensures.value ∙ at.is ∙ ap Working at.field-0-is in
    marked_answered chip.known chip.phase at.field-0-0 at.field-0-1 phase chip.fits _ (ap (phase_stage chip.known) c.replace.ensures.after)

pub invariant_of-self-in-Working-Writing : goal.invariant_of-self-in-Working-Writing
invariant_of-self-in-Working-Writing g c =
    let chip = c.args.self.now in
    let known = c.take_written.new.self in
    let rests = c.replace.ensures.after in
    let kept = c.take_written.ensures.geometry in
    let none : programs_left known.geometry c.replace.new.dest ≡ 0 = ap (programs_left known.geometry) rests in
    record {
      sizes = chip.sizes ∙ sym kept;
      judge_sizes = chip.judge_sizes ∙ sym kept;
      quiet = subst (KnowsQuiet (g.F.Flash.state chip.flash)) (sym rests) tt;
      fits = subst (PhaseFits known.geometry known.table known.sums) (sym rests) tt;
      few = chip.few;
      room = omega (arith, none, chip.room);
    }

pub returns-in-Working-Writing-clause-reply : goal.returns-in-Working-Writing-clause-reply
returns-in-Working-Writing-clause-reply g c =
    let chip = c.args.self.now in
    let at = c.in-Working-Writing in
    let phase : chip.phase ≡ Working (Writing at.writing) = sym c.replace.ensures.value ∙ at.is ∙ ap Working at.field-0-is in
    written_answered chip.known chip.phase at.writing phase (λ finished. c.take_written.result ≡ finished.reply)
    (c.take_written.ensures.reply chip.known.table) c.requires

pub returns-in-Working-Writing-clause-stage : goal.returns-in-Working-Writing-clause-stage
returns-in-Working-Writing-clause-stage g c =
    let chip = c.args.self.now in
    let at = c.in-Working-Writing in
    let phase : chip.phase ≡ Working (Writing at.writing) = sym c.replace.ensures.value ∙ at.is ∙ ap Working at.field-0-is in
    written_answered chip.known chip.phase at.writing phase
    (λ finished. phase_stage c.take_written.new.self c.replace.new.dest ≡ Rests finished.known)
    (ap (phase_stage c.take_written.new.self) c.replace.ensures.after ∙ ap Rests c.take_written.ensures.known) c.requires

pub returns-in-Working-Decoded-clause-stage : goal.returns-in-Working-Decoded-clause-stage
returns-in-Working-Decoded-clause-stage g c =
    let chip = c.args.self.now in
    let at = c.in-Working-Decoded in
    let phase : chip.phase ≡ Working (Decoded at.dev at.kind at.read at.image) = sym c.replace.ensures.value ∙ at.is ∙ ap Working at.field-0-is in
    read_answered chip.known chip.phase at.dev at.kind at.read at.image phase _ c.add.new.self (rw c.replace.ensures.after refl) c.add.ensures
