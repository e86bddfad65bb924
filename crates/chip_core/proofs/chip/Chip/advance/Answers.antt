use Rattle.std.proofs.Common.{◌≡◌, ◌≤◌, ◌+◌, ◌∙◌, ap, sym, subst, arith}
use Rattle.std.specs.Prelude.{IsSome, IfSome, is_some}
use Rattle.std.proofs.lemmas.Option.{IfSome_then}
use Rattle.nand_model.specs.Chip.{Complete, happens}
use Rattle.nand_model.specs.Counts.{HasRisen}
use Rattle.nand_model.specs.Path.{answer_to, first_event, is_failure}
use Rattle.nand_model.specs.Quiet.{is_quiet}
use Rattle.nand_model.specs.declared.geometry.Geometry.{Geometry}
use Rattle.chip_paths.specs.Stage.{failure_told, pending_note_after, stage_after}
use Rattle.bbt_flash.specs.Attach.{attach_left}
use Rattle.chip_core.specs.Chip.{chip_pending_note, chip_stage}
use Rattle.chip_core.specs.Phase.{AttachGoesOn, PhaseFits, WorkFits, programs_left}
use Rattle.chip_core.specs.Task.{TaskFits, programs_of, task_event}
use Rattle.chip_core.specs.Sums.{AreSmall, place_of, stats_in}
use Rattle.chip_core.specs.declared.phase.Phase.{Phase}
use Rattle.chip_core.specs.declared.phase.Phase.TheVariants.{Working}
use Rattle.chip_core.proofs.Advancing.{attach_fits, attach_has_event, attach_watches, of_attach, of_event, of_operation, sizes_kept, some_where_failed, working_has_event, works_on}
use Rattle.chip_core.proofs.Named.{from_some}
use Rattle.chip_core.proofs.chip.Chip.advance.Goals as goal

pub invariant_of-self-in-Working : goal.invariant_of-self-in-Working
invariant_of-self-in-Working g c =
    let chip = c.args.self.now in
    let task = c.in-Working.task in
    let left = c.advance-left.result.0 in
    let told = c.advance-left.result.1 in
    let model = g.F.Flash.fault_model in
    let before = g.F.Flash.state chip.flash in
    let after = g.F.Flash.state c.advance-left.new.flash in
    let known = chip.known in
    let later = c.advance-left.new.known in
    let phase : chip.phase ≡ Working task = sym c.replace.ensures.value ∙ c.in-Working.is in
    let event = working_has_event known chip.phase task phase c.requires in
    let sizes : after.geometry ≡ before.geometry =
    of_event model before after known later task left told (task_event known.geometry known.table task) event c.advance-left.ensures.advanced
    (after.geometry ≡ before.geometry) (sizes_kept model before after known later task left told) in
    let Room : Phase → Type 0 = λ p. chip.page_room + programs_left known.geometry p ≤ g.F.Flash.room chip.flash in
    let room = subst Room phase chip.room in
    let work : WorkFits known.geometry known.table known.sums task = subst (PhaseFits known.geometry known.table known.sums) phase chip.fits in
    let keeps = c.advance-left.ensures.known in
    let programs : programs_of later.geometry left ≡ programs_of known.geometry left = ap (λ (h : Geometry). programs_of h left) keeps.geometry in
    record {
      sizes = sizes ∙ chip.sizes ∙ sym keeps.geometry;
      judge_sizes = c.advance-left.ensures.judge ∙ chip.judge_sizes ∙ sym keeps.geometry;
      quiet = tt;
      fits =
          record {
            task_fits = subst (λ (h : Geometry). TaskFits h later.table left) (sym keeps.geometry) c.advance-left.ensures.fits;
            marked = keeps.marked;
            there =
                λ dev counted. subst (λ sums. IsSome (place_of sums dev)) (sym keeps.sums) (work.there dev (sym c.advance-left.ensures.counted ∙ counted));
            small =
                λ dev counted. subst (λ sums. AreSmall (stats_in sums dev)) (sym keeps.sums) (work.small dev (sym c.advance-left.ensures.counted ∙ counted));
          };
      few = chip.few;
      room = omega (arith, room, c.advance-left.ensures.room, programs);
    }

pub advance-left-requires-clause-event : goal.advance-left-requires-clause-event
advance-left-requires-clause-event g c =
    let chip = c.args.self.now in
    working_has_event chip.known chip.phase c.in-Working.task (sym c.replace.ensures.value ∙ c.in-Working.is) c.requires

pub attach_on-requires-clause-fits : goal.attach_on-requires-clause-fits
attach_on-requires-clause-fits g c =
    let chip = c.args.self.now in
    attach_fits (g.F.Flash.state chip.flash) chip.known chip.phase c.in-Attaching.run' (sym c.replace.ensures.value ∙ c.in-Attaching.is) chip.fits

pub attach_on-requires-clause-watches : goal.attach_on-requires-clause-watches
attach_on-requires-clause-watches g c =
    let chip = c.args.self.now in
    attach_watches (g.F.Flash.state chip.flash) chip.known chip.phase c.in-Attaching.run' (sym c.replace.ensures.value ∙ c.in-Attaching.is) chip.quiet

pub attach_on-requires-clause-room : goal.attach_on-requires-clause-room
attach_on-requires-clause-room g c =
    let chip = c.args.self.now in
    let Room : Phase → Type 0 = λ p. chip.page_room + programs_left chip.known.geometry p ≤ g.F.Flash.room chip.flash in
    subst Room (sym c.replace.ensures.value ∙ c.in-Attaching.is) chip.room

pub attach_on-requires-clause-event : goal.attach_on-requires-clause-event
attach_on-requires-clause-event g c =
    let chip = c.args.self.now in
    attach_has_event (g.F.Flash.state chip.flash) chip.known chip.phase c.in-Attaching.run' (sym c.replace.ensures.value ∙ c.in-Attaching.is) c.requires

pub returns-in-Attaching-clause-state : goal.returns-in-Attaching-clause-state
returns-in-Attaching-clause-state g c =
    let chip = c.args.self.now in
    let s = g.F.Flash.state chip.flash in
    of_attach s chip.known chip.phase c.in-Attaching.run' (sym c.replace.ensures.value ∙ c.in-Attaching.is)
    (λ stage e. g.F.Flash.state c.attach_on.new.self.flash ≡ happens g.F.Flash.fault_model s (Complete e))
    (IfSome_then (first_event (attach_left c.in-Attaching.run'.attach)) c.attach_on.ensures.advanced (λ e done. done.state))

pub returns-in-Attaching-clause-stage : goal.returns-in-Attaching-clause-stage
returns-in-Attaching-clause-stage g c =
    let chip = c.args.self.now in
    let s = g.F.Flash.state chip.flash in
    of_attach s chip.known chip.phase c.in-Attaching.run' (sym c.replace.ensures.value ∙ c.in-Attaching.is)
    (λ stage e. chip_stage c.attach_on.new.self ≡ stage_after (is_quiet s.geometry s.pages) (answer_to g.F.Flash.fault_model s e) stage)
    (IfSome_then (first_event (attach_left c.in-Attaching.run'.attach)) c.attach_on.ensures.advanced (λ e done. done.stage_is))

pub returns-in-Attaching-clause-pending_note : goal.returns-in-Attaching-clause-pending_note
returns-in-Attaching-clause-pending_note g c =
    let chip = c.args.self.now in
    let s = g.F.Flash.state chip.flash in
    of_attach s chip.known chip.phase c.in-Attaching.run' (sym c.replace.ensures.value ∙ c.in-Attaching.is)
    (λ stage e. chip_pending_note c.attach_on.new.self
    ≡ pending_note_after (is_quiet s.geometry s.pages) (answer_to g.F.Flash.fault_model s e) stage (chip_pending_note chip))
    (IfSome_then (first_event (attach_left c.in-Attaching.run'.attach)) c.attach_on.ensures.advanced (λ e done. done.note_is (chip_pending_note chip)))

pub returns-in-Attaching-clause-told : goal.returns-in-Attaching-clause-told
returns-in-Attaching-clause-told g c =
    let chip = c.args.self.now in
    let s = g.F.Flash.state chip.flash in
    of_attach s chip.known chip.phase c.in-Attaching.run' (sym c.replace.ensures.value ∙ c.in-Attaching.is)
    (λ stage e. c.attach_on.result ≡ failure_told g.F.Flash.fault_model s e)
    (IfSome_then (first_event (attach_left c.in-Attaching.run'.attach)) c.attach_on.ensures.advanced (λ e done. done.told))

pub returns-in-Attaching-clause-failed : goal.returns-in-Attaching-clause-failed
returns-in-Attaching-clause-failed g c =
    let chip = c.args.self.now in
    let s = g.F.Flash.state chip.flash in
    of_attach s chip.known chip.phase c.in-Attaching.run' (sym c.replace.ensures.value ∙ c.in-Attaching.is)
    (λ stage e. is_some c.attach_on.result ≡ is_failure (answer_to g.F.Flash.fault_model s e))
    (IfSome_then (first_event (attach_left c.in-Attaching.run'.attach)) c.attach_on.ensures.advanced
    (λ e done. some_where_failed g.F.Flash.fault_model s e c.attach_on.result done.told))

pub returns-in-Attaching-clause-risen : goal.returns-in-Attaching-clause-risen
returns-in-Attaching-clause-risen g c =
    let chip = c.args.self.now in
    let s = g.F.Flash.state chip.flash in
    let now = c.attach_on.new.self in
    let run = c.in-Attaching.run' in
    let there = attach_has_event s chip.known chip.phase run (sym c.replace.ensures.value ∙ c.in-Attaching.is) c.requires in
    from_some
    (AttachGoesOn g.F.Flash.fault_model s (g.F.Flash.state now.flash) run (chip_stage now) (chip_pending_note now) c.attach_on.result)
    (IfSome c.attach_on.result (λ fairness. HasRisen s.faults (g.F.Flash.state now.flash).faults))
    (first_event (attach_left run.attach)) there c.attach_on.ensures.advanced (λ e done. done.risen)

pub returns-in-Working-clause-state : goal.returns-in-Working-clause-state
returns-in-Working-clause-state g c =
    let chip = c.args.self.now in
    let s = g.F.Flash.state chip.flash in
    let now = g.F.Flash.state c.advance-left.new.flash in
    of_operation g.F.Flash.fault_model s now chip.known c.advance-left.new.known c.in-Working.task c.advance-left.result.0 c.advance-left.result.1
    chip.sizes chip.phase (sym c.replace.ensures.value ∙ c.in-Working.is) c.advance-left.ensures.advanced
    (λ stage e. now ≡ happens g.F.Flash.fault_model s (Complete e)) (λ e done. done.state)

pub returns-in-Working-clause-stage : goal.returns-in-Working-clause-stage
returns-in-Working-clause-stage g c =
    let chip = c.args.self.now in
    let s = g.F.Flash.state chip.flash in
    works_on g.F.Flash.fault_model s (g.F.Flash.state c.advance-left.new.flash) chip.known c.advance-left.new.known c.in-Working.task
    c.advance-left.result.0 c.advance-left.result.1 chip.sizes chip.phase (sym c.replace.ensures.value ∙ c.in-Working.is)
    c.advance-left.ensures.advanced c.advance-left.ensures.known (is_quiet s.geometry s.pages)

pub returns-in-Working-clause-told : goal.returns-in-Working-clause-told
returns-in-Working-clause-told g c =
    let chip = c.args.self.now in
    let s = g.F.Flash.state chip.flash in
    of_operation g.F.Flash.fault_model s (g.F.Flash.state c.advance-left.new.flash) chip.known c.advance-left.new.known c.in-Working.task
    c.advance-left.result.0 c.advance-left.result.1 chip.sizes chip.phase (sym c.replace.ensures.value ∙ c.in-Working.is)
    c.advance-left.ensures.advanced (λ stage e. c.advance-left.result.1 ≡ failure_told g.F.Flash.fault_model s e) (λ e done. done.told)

pub returns-in-Working-clause-failed : goal.returns-in-Working-clause-failed
returns-in-Working-clause-failed g c =
    let chip = c.args.self.now in
    let s = g.F.Flash.state chip.flash in
    of_operation g.F.Flash.fault_model s (g.F.Flash.state c.advance-left.new.flash) chip.known c.advance-left.new.known c.in-Working.task
    c.advance-left.result.0 c.advance-left.result.1 chip.sizes chip.phase (sym c.replace.ensures.value ∙ c.in-Working.is)
    c.advance-left.ensures.advanced
    (λ stage e. is_some c.advance-left.result.1 ≡ is_failure (answer_to g.F.Flash.fault_model s e))
    (λ e done. some_where_failed g.F.Flash.fault_model s e c.advance-left.result.1 done.told)

pub returns-in-Working-clause-risen : goal.returns-in-Working-clause-risen
returns-in-Working-clause-risen g c =
    let chip = c.args.self.now in
    let s = g.F.Flash.state chip.flash in
    let now = g.F.Flash.state c.advance-left.new.flash in
    let task = c.in-Working.task in
    let told = c.advance-left.result.1 in
    let event = working_has_event chip.known chip.phase task (sym c.replace.ensures.value ∙ c.in-Working.is) c.requires in
    of_event g.F.Flash.fault_model s now chip.known c.advance-left.new.known task c.advance-left.result.0 told
    (task_event chip.known.geometry chip.known.table task) event c.advance-left.ensures.advanced
    (IfSome told (λ fairness. HasRisen s.faults now.faults)) (λ e done. done.risen)
