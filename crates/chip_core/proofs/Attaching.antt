-- An attach from event to event.
use Rattle.std.proofs.Common.{◌≡◌, ℕ, ◌+◌, ◌-◌, ◌≤◌, Bool, List, [], length, Option, Some, None, refl, ap, sym, subst, ◌∙◌, arith}
use Rattle.std.specs.Prelude.{IsSome, IfSome, ◌&&◌, ◌==◌, is_none}
use Rattle.std.proofs.lemmas.Option.{IfSome_then}
use Rattle.nand_model.specs.Chip.{ChipState, Complete, FaultModel, PageEvent, ReadEvent, happens}
use Rattle.nand_model.specs.Counts.{HasRisen}
use Rattle.nand_model.specs.Path.{Answer, Data, Path, Over, Then, first_event}
use Rattle.nand_model.specs.Quiet.{is_quiet}
use Rattle.nand_model.specs.declared.geometry.Geometry.{Geometry}
use Rattle.nand_model.specs.declared.words.Fairness.{Fairness}
use Rattle.chip_paths.specs.Attach.{Attaching}
use Rattle.chip_paths.specs.ChipRun.{known_at_first}
use Rattle.chip_paths.specs.Stage.{Stage, Attaches, Rests, attach_end, attach_stage, path_after}
use Rattle.bbt_flash.specs.Attach.{attach_left, attach_sizes}
use Rattle.bbt_flash.specs.Events.{answer_of}
use Rattle.chip_core.specs.AttachRun.{AttachAdvances, RunFits, Watches, quiet_to_next}
use Rattle.chip_core.specs.Events.{IsDone, ProgramsAtMost, programs_in}
use Rattle.chip_core.specs.Phase.{AttachGoesOn}
use Rattle.chip_core.specs.declared.attach_run.AttachRun.{AttachRun}
use Rattle.nand_iface.proofs.FlashLemmas.{happens-geometry}
use Rattle.chip_core.proofs.Named.{from_some, of_some}
use Rattle.chip_core.proofs.Programs.{programs-after}
use Rattle.chip_core.proofs.QuietBlocks.{quiet-by_count}

module _ {W : Type 0} (model : FaultModel W) (before after : ChipState W) (old new : AttachRun) (told : Option Fairness) where
  -- a page was read
  pub has_read : (page : ℕ) (cells : List ℕ) → first_event (attach_left old.attach) ≡ Some (ReadEvent page) → after ≡ before
      → cells ≡ (before.pages page).cells → attach_left new.attach ≡ path_after (Data cells) (attach_left old.attach)
      → new.watch.so_far ≡ quiet_to_next old → told ≡ None
      → IfSome (first_event (attach_left old.attach)) (AttachAdvances model before after old new told)
  has_read page cells is same saw left quiet none =
      of_some (AttachAdvances model before after old new told) (first_event (attach_left old.attach)) (ReadEvent page) is
      (record {
        state = same;
        left = left ∙ ap (λ c. path_after (Data c) (attach_left old.attach)) saw;
        quiet = quiet;
        told = none;
        risen = subst (λ o. IfSome o (λ fairness. HasRisen before.faults after.faults)) (sym none) tt;
      })

  -- a page was programmed, or a block erased
  pub has_changed : (e : PageEvent) → first_event (attach_left old.attach) ≡ Some e → IsDone model before after e told → (ok : Bool) → ok ≡ is_none told
      → attach_left new.attach ≡ path_after (answer_of ok) (attach_left old.attach) → new.watch.so_far ≡ quiet_to_next old
      → IfSome (first_event (attach_left old.attach)) (AttachAdvances model before after old new told)
  has_changed e is done ok good left quiet =
      of_some (AttachAdvances model before after old new told) (first_event (attach_left old.attach)) e is
      (record {
        state = done.state;
        left = left ∙ ap (λ a. path_after a (attach_left old.attach)) (ap answer_of good ∙ sym done.answer);
        quiet = quiet;
        told = done.told;
        risen = done.risen;
      })

-- an event leaves the sizes of a chip
pub advanced-sizes : {W : Type 0} (model : FaultModel W) (before after : ChipState W) (old new : AttachRun) (told : Option Fairness)
    → IsSome (first_event (attach_left old.attach))
    → IfSome (first_event (attach_left old.attach)) (AttachAdvances model before after old new told) → after.geometry ≡ before.geometry
advanced-sizes {W} model before after old new told there advanced =
    from_some (AttachAdvances model before after old new told) (after.geometry ≡ before.geometry) (first_event (attach_left old.attach)) there advanced
    (λ e done. ap (λ (s : ChipState W). s.geometry) done.state ∙ happens-geometry model before (Complete e))

-- what fits goes on to fit
pub fits-on : (g : Geometry) (old new : AttachRun) (e : PageEvent) (answer : Answer) → RunFits g old
    → first_event (attach_left old.attach) ≡ Some e → attach_left new.attach ≡ path_after answer (attach_left old.attach)
    → attach_sizes new.attach ≡ attach_sizes old.attach → length new.cells ≡ length old.cells → new.states ≡ old.states
    → new.programs + programs_in e ≡ old.programs → RunFits g new
fits-on g old new e answer fits is left sizes cells states fewer =
    let later = programs-after old.programs (attach_left old.attach) e answer is fits.programs in
    let count : old.programs - programs_in e ≡ new.programs = omega arith in
    record {
      sizes = sizes ∙ fits.sizes;
      cells = cells ∙ fits.cells;
      states = ap (λ (s : List ℕ). length s) states ∙ fits.states;
      few = omega (arith, fits.few);
      programs = subst (ProgramsAtMost new.programs) (sym left) (subst (λ n. ProgramsAtMost n (path_after answer (attach_left old.attach))) count later.1);
    }

-- there is room for the next program
pub has-room : (g : Geometry) (run : AttachRun) (e : PageEvent) (room : ℕ) → RunFits g run → first_event (attach_left run.attach) ≡ Some e
    → run.programs ≤ room → programs_in e ≤ room
has-room g run e room fits is low =
    let later = programs-after run.programs (attach_left run.attach) e (Data []) is fits.programs in omega (arith, later.0)

-- an attach sees whether its chip is quiet
pub quiet-seen : {W : Type 0} (s : ChipState W) (run : AttachRun) → Watches s run
    → (run.watch.so_far && is_quiet s.geometry s.pages) ≡ quiet_to_next run
quiet-seen s run watches =
    ap (λ q. run.watch.so_far && q) (quiet-by_count s.geometry s.pages ∙ ap (λ n. n == 0) (sym watches))

-- an attach that has an event left still attaches, and one that is over rests
attach-on : (path : Path Attaching) (quiet : Bool) → IsSome (first_event path) → attach_stage path quiet ≡ Attaches path quiet
attach-on (Over found) quiet there = cc
attach-on (Then event rest) quiet there = refl

no-end : (path : Path Attaching) (quiet : Bool) → IsSome (first_event path) → attach_end path quiet ≡ None
no-end (Over found) quiet there = cc
no-end (Then event rest) quiet there = refl

module _ {W : Type 0} (model : FaultModel W) (before after : ChipState W) (old new : AttachRun) (told : Option Fairness) (watches : Watches before old) where
  module _ (advanced : IfSome (first_event (attach_left old.attach)) (AttachAdvances model before after old new told)) where
    -- an attach goes on
    pub goes-on : IsSome (first_event (attach_left new.attach)) → (stage : Stage) (pending : Option (Bool × Attaching))
        → stage ≡ Attaches (attach_left new.attach) new.watch.so_far → pending ≡ None
        → IfSome (first_event (attach_left old.attach)) (AttachGoesOn model before after old stage pending told)
    goes-on there stage pending stage_is none = IfSome_then (first_event (attach_left old.attach)) advanced (λ e done.
        let quiet : (old.watch.so_far && is_quiet before.geometry before.pages) ≡ new.watch.so_far = quiet-seen before old watches ∙ sym done.quiet in
        record {
          state = done.state;
          stage_is =
              stage_is ∙ sym (attach-on (attach_left new.attach) new.watch.so_far there)
              ∙ (λ i. attach_stage (done.left i) (sym quiet i));
          note_is = λ earlier. none ∙ sym (no-end (attach_left new.attach) new.watch.so_far there) ∙ (λ i. attach_end (done.left i) (sym quiet i));
          told = done.told;
          risen = done.risen;
        })

    -- or comes to rest
    pub comes-to-rest : (found : Attaching) → attach_left new.attach ≡ Over found → (stage : Stage) (pending : Option (Bool × Attaching))
        → stage ≡ Rests (known_at_first found) → pending ≡ Some (new.watch.so_far, found)
        → IfSome (first_event (attach_left old.attach)) (AttachGoesOn model before after old stage pending told)
    comes-to-rest found over stage pending stage_is note_is = IfSome_then (first_event (attach_left old.attach)) advanced (λ e done.
        let quiet : (old.watch.so_far && is_quiet before.geometry before.pages) ≡ new.watch.so_far = quiet-seen before old watches ∙ sym done.quiet in
        record {
          state = done.state;
          stage_is = stage_is ∙ sym (ap (λ path. attach_stage path new.watch.so_far) over) ∙ (λ i. attach_stage (done.left i) (sym quiet i));
          note_is = λ earlier. note_is ∙ sym (ap (λ path. attach_end path new.watch.so_far) over) ∙ (λ i. attach_end (done.left i) (sym quiet i));
          told = done.told;
          risen = done.risen;
        })
