use Rattle.std.proofs.Common.{◌≡◌, arith, ap, sym, subst, ◌∙◌}
use Rattle.nand_model.specs.Chip.{ChipState}
use Rattle.nand_model.specs.declared.geometry.Geometry.{Geometry}
use Rattle.chip_core.specs.Phase.{KnowsQuiet, programs_left}
use Rattle.chip_core.specs.Begin.{read_device}
use Rattle.chip_core.specs.Sums.{stats_in}
use Rattle.chip_core.proofs.Answering.{rests_fit, small_at}
use Rattle.chip_core.proofs.Begun.{after_refusal, begun_so, rests_so}
use Rattle.chip_core.proofs.Marking.{fresh_has_no_mark}
use Rattle.chip_core.proofs.chip.Chip.begin.Goals as goal

pub returns-in_err-expect-clause-no_memory : goal.returns-in_err-expect-clause-no_memory
returns-in_err-expect-clause-no_memory g c =
    let chip = c.args.self.now in
    after_refusal _ _ (rests_so chip.known c.expect.new.self c.expect.ensures.known c.expect.ensures.table chip.phase c.requires.rests)

pub returns-in_err-task-clause-no_memory : goal.returns-in_err-task-clause-no_memory
returns-in_err-task-clause-no_memory g c =
    let chip = c.args.self.now in
    after_refusal _ _ (rests_so chip.known c.expect.new.self c.expect.ensures.known c.expect.ensures.table chip.phase c.requires.rests)

pub returns-in_err-reserve-clause-no_memory : goal.returns-in_err-reserve-clause-no_memory
returns-in_err-reserve-clause-no_memory g c =
    let chip = c.args.self.now in
    after_refusal _ _ (rests_so chip.known c.expect.new.self c.expect.ensures.known c.expect.ensures.table chip.phase c.requires.rests)

pub returns-clause-begun : goal.returns-clause-begun
returns-clause-begun g c =
    let chip = c.args.self.now in
    begun_so chip.known c.expect.new.self c.expect.ensures.known c.expect.ensures.table (g.F.Flash.state chip.flash).geometry c.args.parts.now
    c.args.op.now c.in_ok-task.task (c.expect.ensures.geometry ∙ sym chip.sizes) c.in_ok-task.ensures chip.phase c.requires.rests

pub invariant_of-self-in-Break-branch-3 : goal.invariant_of-self-in-Break-branch-3
invariant_of-self-in-Break-branch-3 g c =
    let chip = c.args.self.now in
    let programs : programs_left c.expect.new.self.geometry chip.phase ≡ programs_left chip.known.geometry chip.phase =
    ap (λ (h : Geometry). programs_left h chip.phase) c.expect.ensures.geometry in
    record {
      sizes = ap (λ (s : ChipState g.F.Flash.FaultState). s.geometry) c.reserve.ensures.state ∙ chip.sizes ∙ sym c.expect.ensures.geometry;
      judge_sizes = chip.judge_sizes ∙ sym c.expect.ensures.geometry;
      quiet = subst (λ (s : ChipState g.F.Flash.FaultState). KnowsQuiet s chip.phase) (sym c.reserve.ensures.state) chip.quiet;
      fits = rests_fit chip.known c.expect.new.self.geometry c.expect.new.self.table c.expect.new.self.sums chip.phase c.requires.rests;
      few = chip.few;
      room = omega (arith, chip.room, c.reserve.ensures.no_less, programs);
    }

pub invariant_of-self-3 : goal.invariant_of-self-3
invariant_of-self-3 g c =
    let chip = c.args.self.now in
    let begun = c.in_ok-task.ensures in
    record {
      sizes = ap (λ (s : ChipState g.F.Flash.FaultState). s.geometry) c.reserve.ensures.state ∙ chip.sizes ∙ sym c.expect.ensures.geometry;
      judge_sizes = chip.judge_sizes ∙ sym c.expect.ensures.geometry;
      quiet = tt;
      fits = record {
        task_fits = begun.fits;
        marked = fresh_has_no_mark c.expect.new.self.table c.in_ok-task.task begun.fresh;
        there = λ dev counted. c.in_ok-expect.ensures.there dev (begun.counted dev counted);
        small =
            λ dev counted.
            small_at chip.known chip.phase c.requires.rests (read_device c.args.op.now) c.requires.can.sums (stats_in c.expect.new.self.sums)
            c.expect.ensures.stats dev (begun.counted dev counted);
      };
      few = chip.few;
      room = omega (arith, c.in_ok-reserve.ensures.room, c.programs-programs.ensures);
    }
