use Rattle.std.proofs.Common.{◌≡◌, ◌<◌, length, Option, Some, None, refl, sym, ap, ◌∙◌, subst}
use Rattle.std.specs.Prelude.{is_none}
use Rattle.nand_model.specs.declared.words.Part.{Part}
use Rattle.ctl_core.specs.Board.{past_of}
use Rattle.ctl_core.proofs.OnCourse.{own_session, none_next, some_next, part_next, none_lent, some_lent, chip_next, not_done, slot_there}
use Rattle.ctl_core.proofs.board.Board.next_chip.Goals as goal

pub returns-in_err-command-clause-chip : goal.returns-in_err-command-clause-chip
returns-in_err-command-clause-chip g c =
    let past = past_of c.args.journal.now in
    let own = own_session past c.args.self.now c.args.session c.args.place c.requires c.index.result.now c.index.ensures in
    c.from_residual.ensures ∙ sym (none_next past c.args.self.now c.args.session c.args.place c.requires c.index.result.now own.0 own.1
    c.commands-commands.result.now c.next_command.result c.commands-commands.ensures c.next_command.ensures c.in_err-command.was).0

pub returns-in_err-command-clause-over : goal.returns-in_err-command-clause-over
returns-in_err-command-clause-over g c =
    let past = past_of c.args.journal.now in
    let own = own_session past c.args.self.now c.args.session c.args.place c.requires c.index.result.now c.index.ensures in
    ap is_none c.from_residual.ensures ∙ sym (none_next past c.args.self.now c.args.session c.args.place c.requires c.index.result.now own.0 own.1
    c.commands-commands.result.now c.next_command.result c.commands-commands.ensures c.next_command.ensures c.in_err-command.was).1

no_part : (c : Option Part) (part : Part) → None ≡ c → c ≡ Some part → ⊥
no_part c part h i = cc

pub returns-in_err-part-clause-chip : goal.returns-in_err-part-clause-chip
returns-in_err-part-clause-chip g c =
    let past = past_of c.args.journal.now in
    let own = own_session past c.args.self.now c.args.session c.args.place c.requires c.index.result.now c.index.ensures in
    let first = some_next past c.args.self.now c.args.session c.args.place c.requires c.index.result.now own.0 own.1
    c.commands-commands.result.now c.next_command.result c.in_ok-command.command c.commands-commands.ensures c.next_command.ensures c.in_ok-command.was in
    let there = part_next past c.args.self.now c.args.session c.args.place c.requires c.index.result.now own.0 own.1 c.in_ok-command.command.now first
    c.parts.result.now c.device.result c.get.result c.parts.ensures c.device.ensures c.get.ensures.lent in
    absurd (no_part _ first.is_ready.part (none_lent c.get.result _ refl c.in_err-part.was) there)

pub returns-in_err-part-clause-over : goal.returns-in_err-part-clause-over
returns-in_err-part-clause-over g c =
    let past = past_of c.args.journal.now in
    let own = own_session past c.args.self.now c.args.session c.args.place c.requires c.index.result.now c.index.ensures in
    let first = some_next past c.args.self.now c.args.session c.args.place c.requires c.index.result.now own.0 own.1
    c.commands-commands.result.now c.next_command.result c.in_ok-command.command c.commands-commands.ensures c.next_command.ensures c.in_ok-command.was in
    let there = part_next past c.args.self.now c.args.session c.args.place c.requires c.index.result.now own.0 own.1 c.in_ok-command.command.now first
    c.parts.result.now c.device.result c.get.result c.parts.ensures c.device.ensures c.get.ensures.lent in
    absurd (no_part _ first.is_ready.part (none_lent c.get.result _ refl c.in_err-part.was) there)

same_part : (one other : Part) → Some one ≡ Some other → one ≡ other
same_part one other h = cc

pub returns-clause-chip : goal.returns-clause-chip
returns-clause-chip g c =
    let past = past_of c.args.journal.now in
    let own = own_session past c.args.self.now c.args.session c.args.place c.requires c.index.result.now c.index.ensures in
    let first = some_next past c.args.self.now c.args.session c.args.place c.requires c.index.result.now own.0 own.1
    c.commands-commands.result.now c.next_command.result c.in_ok-command.command c.commands-commands.ensures c.next_command.ensures c.in_ok-command.was in
    let there = part_next past c.args.self.now c.args.session c.args.place c.requires c.index.result.now own.0 own.1 c.in_ok-command.command.now first
    c.parts.result.now c.device.result c.get.result c.parts.ensures c.device.ensures c.get.ensures.lent in
    let part = same_part c.in_ok-part.part.now first.is_ready.part (sym (some_lent c.get.result _ c.in_ok-part.part refl c.in_ok-part.was) ∙ there) in
    ap (λ (p : Part). Some p.chip) part ∙ chip_next past c.args.self.now c.args.session c.args.place c.requires c.index.result.now own.0 own.1
    c.in_ok-command.command.now first

pub returns-clause-over : goal.returns-clause-over
returns-clause-over g c =
    let past = past_of c.args.journal.now in
    let own = own_session past c.args.self.now c.args.session c.args.place c.requires c.index.result.now c.index.ensures in
    let first = some_next past c.args.self.now c.args.session c.args.place c.requires c.index.result.now own.0 own.1
    c.commands-commands.result.now c.next_command.result c.in_ok-command.command c.commands-commands.ensures c.next_command.ensures c.in_ok-command.was in
    not_done past c.args.self.now c.args.session c.args.place c.requires c.index.result.now own.0 own.1 c.in_ok-command.command.now first

pub returns-clause-there : goal.returns-clause-there
returns-clause-there g c =
    let past = past_of c.args.journal.now in
    let own = own_session past c.args.self.now c.args.session c.args.place c.requires c.index.result.now c.index.ensures in
    let first = some_next past c.args.self.now c.args.session c.args.place c.requires c.index.result.now own.0 own.1
    c.commands-commands.result.now c.next_command.result c.in_ok-command.command c.commands-commands.ensures c.next_command.ensures c.in_ok-command.was in
    let there = part_next past c.args.self.now c.args.session c.args.place c.requires c.index.result.now own.0 own.1 c.in_ok-command.command.now first
    c.parts.result.now c.device.result c.get.result c.parts.ensures c.device.ensures c.get.ensures.lent in
    let part = same_part c.in_ok-part.part.now first.is_ready.part (sym (some_lent c.get.result _ c.in_ok-part.part refl c.in_ok-part.was) ∙ there) in
    subst (λ (p : Part). p.chip < length c.args.self.now.slots.items) (sym part) (slot_there past c.args.self.now c.requires.on_course
    first.is_ready.part.chip first.is_ready.run first.is_ready.run_at).1
