use Rattle.std.proofs.Common.{◌≡◌, ◌≤◌, ◌+◌, ◌∙◌, sym, subst, arith}
use Rattle.std.proofs.lemmas.Option.{IfSome_then}
use Rattle.nand_model.specs.Path.{first_event}
use Rattle.nand_model.specs.Quiet.{is_quiet}
use Rattle.nand_model.specs.declared.geometry.Geometry.{Geometry}
use Rattle.chip_paths.specs.Stage.{Attaches}
use Rattle.bbt_flash.specs.Attach.{attach_left}
use Rattle.chip_core.specs.AttachRun.{RunFits}
use Rattle.chip_core.specs.Phase.{PhaseFits, WorkFits, phase_stage, programs_left}
use Rattle.chip_core.specs.Task.{task_event}
use Rattle.chip_core.specs.Torn.{stage_torn, state_torn, tear_told}
use Rattle.chip_core.specs.declared.phase.Phase.{Phase}
use Rattle.chip_core.specs.declared.phase.Phase.TheVariants.{Attaching, Working}
use Rattle.chip_core.proofs.Advancing.{attach_fits, attach_has_event, attach_watches, of_attach, working_has_event}
use Rattle.chip_core.proofs.Attaching.{quiet-seen}
use Rattle.chip_core.proofs.Tearing.{of_work, torn-sizes, work-stays}
use Rattle.chip_core.proofs.chip.Chip.torn.Goals as goal

pub tear-told-requires-clause-event : goal.tear-told-requires-clause-event
tear-told-requires-clause-event g c =
    let chip = c.args.self.now in
    attach_has_event (g.F.Flash.state chip.flash) chip.known chip.phase c.in-Attaching.run' (sym c.replace.ensures.value ∙ c.in-Attaching.is)
    c.requires.event

pub tear-told-requires-clause-fits : goal.tear-told-requires-clause-fits
tear-told-requires-clause-fits g c =
    let chip = c.args.self.now in
    let fits = attach_fits (g.F.Flash.state chip.flash) chip.known chip.phase c.in-Attaching.run' (sym c.replace.ensures.value ∙ c.in-Attaching.is) chip.fits in
    subst (λ (h : Geometry). RunFits h c.in-Attaching.run') (sym chip.sizes) fits.run_fits

pub tear-told-requires-clause-watches : goal.tear-told-requires-clause-watches
tear-told-requires-clause-watches g c =
    let chip = c.args.self.now in
    attach_watches (g.F.Flash.state chip.flash) chip.known chip.phase c.in-Attaching.run' (sym c.replace.ensures.value ∙ c.in-Attaching.is) chip.quiet

pub tear-task-requires-clause-event : goal.tear-task-requires-clause-event
tear-task-requires-clause-event g c =
    let chip = c.args.self.now in
    working_has_event chip.known chip.phase c.in-Working.task (sym c.replace.ensures.value ∙ c.in-Working.is) c.requires.event

pub returns-in-Attaching-clause-state : goal.returns-in-Attaching-clause-state
returns-in-Attaching-clause-state g c =
    let chip = c.args.self.now in
    let s = g.F.Flash.state chip.flash in
    of_attach s chip.known chip.phase c.in-Attaching.run' (sym c.replace.ensures.value ∙ c.in-Attaching.is)
    (λ stage e. g.F.Flash.state c.tear-told.new.flash ≡ state_torn g.F.Flash.fault_model c.args.tear.now e s)
    (IfSome_then (first_event (attach_left c.in-Attaching.run'.attach)) c.tear-told.ensures.torn (λ e torn. torn.state))

pub returns-in-Attaching-clause-told : goal.returns-in-Attaching-clause-told
returns-in-Attaching-clause-told g c =
    let chip = c.args.self.now in
    let s = g.F.Flash.state chip.flash in
    of_attach s chip.known chip.phase c.in-Attaching.run' (sym c.replace.ensures.value ∙ c.in-Attaching.is)
    (λ stage e. c.tear-told.result ≡ tear_told g.F.Flash.fault_model c.args.tear.now s e)
    (IfSome_then (first_event (attach_left c.in-Attaching.run'.attach)) c.tear-told.ensures.torn (λ e torn. torn.left))

pub returns-in-Attaching-clause-stage : goal.returns-in-Attaching-clause-stage
returns-in-Attaching-clause-stage g c =
    let chip = c.args.self.now in
    let s = g.F.Flash.state chip.flash in
    let run = c.in-Attaching.run' in
    let is = sym c.replace.ensures.value ∙ c.in-Attaching.is in
    let watches = attach_watches s chip.known chip.phase run is chip.quiet in
    of_attach s chip.known chip.phase run is
    (λ stage e. phase_stage chip.known (Attaching c.tear-told.new.self) ≡ stage_torn (is_quiet s.geometry s.pages) stage)
    (IfSome_then (first_event (attach_left run.attach)) c.tear-told.ensures.torn
    (λ e torn. (λ i. Attaches (c.tear-told.ensures.left i) ((c.tear-told.ensures.quiet ∙ sym (quiet-seen s run watches)) i))))

pub returns-in-Working-clause-state : goal.returns-in-Working-clause-state
returns-in-Working-clause-state g c =
    let chip = c.args.self.now in
    let s = g.F.Flash.state chip.flash in
    of_work chip.known chip.phase c.in-Working.task (sym c.replace.ensures.value ∙ c.in-Working.is)
    (λ stage e. g.F.Flash.state c.tear-task.new.flash ≡ state_torn g.F.Flash.fault_model c.args.tear.now e s)
    (IfSome_then (task_event chip.known.geometry chip.known.table c.in-Working.task) c.tear-task.ensures.torn (λ e torn. torn.state))

pub returns-in-Working-clause-told : goal.returns-in-Working-clause-told
returns-in-Working-clause-told g c =
    let chip = c.args.self.now in
    let s = g.F.Flash.state chip.flash in
    of_work chip.known chip.phase c.in-Working.task (sym c.replace.ensures.value ∙ c.in-Working.is)
    (λ stage e. c.tear-task.result.1 ≡ tear_told g.F.Flash.fault_model c.args.tear.now s e)
    (IfSome_then (task_event chip.known.geometry chip.known.table c.in-Working.task) c.tear-task.ensures.torn (λ e torn. torn.left))

pub returns-in-Working-clause-stage : goal.returns-in-Working-clause-stage
returns-in-Working-clause-stage g c =
    let chip = c.args.self.now in
    let s = g.F.Flash.state chip.flash in
    of_work chip.known chip.phase c.in-Working.task (sym c.replace.ensures.value ∙ c.in-Working.is)
    (λ stage e. phase_stage chip.known (Working c.tear-task.result.0) ≡ stage_torn (is_quiet s.geometry s.pages) stage)
    (IfSome_then (task_event chip.known.geometry chip.known.table c.in-Working.task) c.tear-task.ensures.torn
    (λ e torn. work-stays chip.known c.in-Working.task c.tear-task.result.0 c.tear-task.ensures.stays))

pub invariant_of-self-in-Working : goal.invariant_of-self-in-Working
invariant_of-self-in-Working g c =
    let chip = c.args.self.now in
    let s = g.F.Flash.state chip.flash in
    let known = chip.known in
    let task = c.in-Working.task in
    let stays = c.tear-task.ensures.stays in
    let phase : chip.phase ≡ Working task = sym c.replace.ensures.value ∙ c.in-Working.is in
    let Room : Phase → Type 0 = λ p. chip.page_room + programs_left known.geometry p ≤ g.F.Flash.room chip.flash in
    let room = subst Room phase chip.room in
    let work : WorkFits known.geometry known.table known.sums task = subst (PhaseFits known.geometry known.table known.sums) phase chip.fits in
    let there = working_has_event known chip.phase task phase c.requires.event in
    record {
      sizes =
          torn-sizes g.F.Flash.fault_model c.args.tear.now s (g.F.Flash.state c.tear-task.new.flash) c.tear-task.result.1
          (task_event known.geometry known.table task) there c.tear-task.ensures.torn ∙ chip.sizes;
      judge_sizes = c.tear-task.ensures.judge ∙ chip.judge_sizes;
      quiet = tt;
      fits = record {
        task_fits = stays.fits;
        marked = stays.marked work.marked;
        there = λ dev counted. work.there dev (sym stays.counted ∙ counted);
        small = λ dev counted. work.small dev (sym stays.counted ∙ counted);
      };
      few = omega (arith, chip.few);
      room = omega (arith, room, c.requires.page_room, c.tear-task.ensures.room, stays.programs);
    }
