use Rattle.std.proofs.Common.{◌≡◌, ◌+◌, ℕ, length, sym, ap, subst, refl, arith}
use Rattle.plan_grammar.specs.declared.lines.PartLine.{PartLine}
use Rattle.plan_grammar.specs.Hardware.{part_in_force}
use Rattle.plan_index.specs.declared.marks.ChipMarks.{ChipMarks}
use Rattle.plan_index.specs.Places.{IsFreeRun, IsTakenRun, HasRun}
use Rattle.plan_index.specs.Chip.{IsMarked, with_part_line}
use Rattle.plan_index.proofs.Parts.{marked_part, refused_part}
use Rattle.plan_index.proofs.marks.ChipMarks.add_part.Goals as goal

pub returns-in-Some : goal.returns-in-Some
returns-in-Some c =
    let chip = c.args.chip.now in
    let in_force : c.count_in_force-count.result ≡ (part_in_force chip c.args.start c.args.count).count = c.count_in_force-count.ensures in
    let run = subst (λ n. IsFreeRun c.args.self.used.items c.args.start n × (length c.in-Some.used.items ≡ length c.args.self.used.items)
    × HasRun c.args.self.used.items c.in-Some.used.items c.args.start (c.args.start + n)) in_force c.in-Some.ensures in
    let same : ◌≡◌ {A = PartLine} (record { start = c.args.start; count = c.count_in_force-count.result }) (part_in_force chip c.args.start c.args.count) =
    ap (λ (n : ℕ). record { start = c.args.start; count = n }) in_force in
    let new : ChipMarks = record { bad = c.args.self.bad; programs = c.args.self.programs; erases = c.args.self.erases; used = c.in-Some.used; weak_programs = c.args.self.weak_programs; bus = c.args.self.bus } in
    let done = marked_part chip c.args.self new
    c.args.start c.args.count c.requires (omega arith) (omega arith) run.0 run.1 run.2 refl refl refl refl refl in
    (done.0, same, subst (λ (p : PartLine). IsMarked (with_part_line p chip) new) (sym same) done.1)

pub returns-in-None : goal.returns-in-None
returns-in-None c =
    let chip = c.args.chip.now in
    let in_force : c.count_in_force-count.result ≡ (part_in_force chip c.args.start c.args.count).count = c.count_in_force-count.ensures in
    refused_part chip c.args.self c.args.start c.args.count c.requires (omega arith) (omega arith)
    (subst (λ n. IsTakenRun c.args.self.used.items c.args.start n) in_force c.in-None.ensures)
