use Rattle.std.proofs.Common.{◌≡◌, map, sym, subst}
use Rattle.nand_iface.specs.NotesAndRoom.{NotesAndRoom}
use Rattle.onfi_bus.specs.Lab.{lab_state}
use Rattle.plan_grammar.specs.Meaning.{plan_of}
use Rattle.plan_laws.specs.Ready.{boot_at, part_at}
use Rattle.headline_laws.specs.Replays.{own_schedule}
use Rattle.plan_replay.specs.Boots.{EndsReplay}
use Rattle.plan_replay.proofs.Ended.{ends_boot}
use Rattle.plan_replay.proofs.controller.go_through.Goals as goal

pub returns-clause-ends : goal.returns-clause-ends
returns-clause-ends c =
    let noted : c.in_ok-flashes.field-0.notes ≡ c.of.result.value = sym c.of.ensures in
    ends_boot (plan_of c.args.plan.now) c.args.boot c.args.controller (map lab_state c.args.flashes) (record {
      notes = c.of.result;
      flashes = c.in_ok-flashes.field-0.flashes;
      outcomes = c.in_ok-flashes.field-0.outcomes;
      stats = c.in_ok-flashes.field-0.stats;
      bad = c.in_ok-flashes.field-0.bad;
    }) c.requires.sizes
    (subst (λ (h : NotesAndRoom). EndsReplay (part_at (plan_of c.args.plan.now) c.args.boot c.args.controller) (map lab_state c.args.flashes)
    (own_schedule (boot_at (plan_of c.args.plan.now) c.args.boot) c.args.controller) (map lab_state c.in_ok-flashes.field-0.flashes) h.notes
    c.in_ok-flashes.field-0.outcomes c.in_ok-flashes.field-0.stats c.in_ok-flashes.field-0.bad) noted c.in_ok-flashes.ensures)
