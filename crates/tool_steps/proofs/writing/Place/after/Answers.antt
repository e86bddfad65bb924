use Rattle.std.proofs.Common.{◌≡◌, Bool, false, [], ◌∷◌, sym, ap, ◌∙◌}
use Rattle.std.specs.Prelude.{if◌then◌else◌}
use Rattle.command_model.specs.Command.{says_bad, after_replies}
use Rattle.tool_steps.specs.declared.writing.Place.{Place}
use Rattle.tool_steps.specs.Writing.{pages_left, place_left, skipped_left, taken}
use Rattle.tool_steps.proofs.Writes.{pages_left-first}
use Rattle.tool_steps.proofs.writing.Place.after.Goals as goal

pub returns-else-tells_bad : goal.returns-else-tells_bad
returns-else-tells_bad c =
    λ bytes.
    let g = c.args.g.now in
    let b = c.in-Scanning.at in
    let good : says_bad c.args.reply.now ≡ false = sym c.tells_bad.ensures ∙ c.if-tells_bad.false in
    c.next.ensures bytes ∙ pages_left-first g bytes b
    ∙ ap (λ (bad : Bool). if bad then skipped_left g bytes b else pages_left g bytes b 0 b.place (taken g bytes b)) (sym good)
    ∙ ap (λ (p : Place). after_replies (c.args.reply.now ∷ []) (place_left g bytes p)) (sym c.in-Scanning.is)
