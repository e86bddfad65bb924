use Rattle.std.proofs.Common.{◌≡◌, ℕ, suc, ◌+◌, ◌-◌, ◌*◌, Bool, true, [], ◌∷◌, ◌++◌, sym, ap, ◌∙◌, arith}
use Rattle.std.specs.Prelude.{if◌then◌else◌}
use Rattle.std.proofs.lemmas.Bool.{ne_eqb}
use Rattle.command_model.specs.Command.{DumpCounts, after_replies, next_in, says_bad, with_page_read}
use Rattle.tool_steps.specs.Steps.{is_over}
use Rattle.tool_steps.specs.declared.dumping.Place.{Place}
use Rattle.tool_steps.specs.Dumping.{counts_with, dump_mode, later_left, pages_left, passed_part, place_left, read_left}
use Rattle.tool_steps.proofs.Dumps.{later_left-over}
use Rattle.tool_steps.proofs.dumping.Place.ends_at.Goals as goal

pub returns-then-tells_bad : goal.returns-then-tells_bad
returns-then-tells_bad c =
    λ g dump.
    let d = c.in-Looking.at in
    let bad : says_bad c.args.reply.now ≡ true = sym c.tells_bad.ensures ∙ c.if-tells_bad.true in
    let counts : DumpCounts = record (counts_with d.counts (dump ++ passed_part g d.called (suc d.rest))) { bad = d.counts.bad + 1 } in
    sym (ap (λ (p : Place). is_over (next_in (after_replies (c.args.reply.now ∷ []) (place_left g dump p)))) c.in-Looking.is
    ∙ ap (λ (b : Bool). is_over (next_in (if b then later_left g d counts else read_left g d dump))) bad
    ∙ later_left-over g d counts)

pub returns-then-at-eq0 : goal.returns-then-at-eq0
returns-then-at-eq0 c =
    λ g dump.
    let d = c.in-Reading.at in
    let counts : DumpCounts = with_page_read g (dump_mode d.called) (counts_with d.counts dump) c.args.reply.now in
    sym (ap (λ (p : Place). is_over (next_in (after_replies (c.args.reply.now ∷ []) (place_left g dump p)))) c.in-Reading.is
    ∙ ap (λ (n : ℕ). is_over (next_in (pages_left g d n (d.block * g.pages_per_block + d.place + 1) counts))) c.if-at-eq0.true
    ∙ later_left-over g d counts)

pub returns-else-at-eq0 : goal.returns-else-at-eq0
returns-else-at-eq0 c =
    λ g dump.
    let d = c.in-Reading.at in
    let counts : DumpCounts = with_page_read g (dump_mode d.called) (counts_with d.counts dump) c.args.reply.now in
    let some : d.rest ≡ suc (d.rest - 1) = omega arith in
    sym (ap (λ (p : Place). is_over (next_in (after_replies (c.args.reply.now ∷ []) (place_left g dump p)))) c.in-Reading.is
    ∙ ap (λ (n : ℕ). is_over (next_in (pages_left g d n (d.block * g.pages_per_block + d.place + 1) counts))) some
    ∙ sym (ne_eqb d.rest 0 (λ e. omega arith)))
