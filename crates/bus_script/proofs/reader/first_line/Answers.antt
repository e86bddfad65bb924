use Rattle.std.proofs.Common.{◌≡◌, ◌+◌, ◌-◌, ◌<◌, ◌≤◌, length, take, drop, List, ℕ, sym, subst, arith, rules, refl}
use Rattle.std.proofs.lemmas.List.{length-drop, take_all}
use Rattle.std.proofs.lemmas.Grind.{common_steps}
use Rattle.lab_text.specs.Text.{line_length, longest_line}
use Rattle.bus_script.specs.Reading.{IsFirstLine}
use Rattle.bus_script.proofs.FirstLine.{first_ended, first_last, first_too_long}
use Rattle.bus_script.proofs.reader.first_line.Goals as goal

pub returns-then-end-bytes : goal.returns-then-end-bytes
returns-then-end-bytes c =
    let place = c.in-Ok.ensures.place in
    let same : c.in-Ok.end ≡ line_length c.args.bytes.now = omega (arith, place) in
    let whole : take (length c.args.bytes.now - (c.in-Ok.end + 1)) (drop (c.in-Ok.end + 1) c.args.bytes.now) ≡ drop (c.in-Ok.end + 1) c.args.bytes.now =
    take_all (length c.args.bytes.now - (c.in-Ok.end + 1)) (drop (c.in-Ok.end + 1) c.args.bytes.now)
    (omega (arith, length-drop (c.in-Ok.end + 1) c.args.bytes.now)) in
    subst (λ (later : List ℕ). IsFirstLine c.args.bytes.now (take c.in-Ok.end c.args.bytes.now) later) (sym whole)
    (first_ended c.args.bytes.now c.in-Ok.end same (c.in-Ok.ensures.short.0 refl) c.if-end-bytes.true)

pub returns-else-end-bytes : goal.returns-else-end-bytes
returns-else-end-bytes c =
    let place = c.in-Ok.ensures.place in
    let same : c.in-Ok.end ≡ line_length c.args.bytes.now = omega (arith, place) in
    first_last c.args.bytes.now c.in-Ok.end same (c.in-Ok.ensures.short.0 refl) c.if-end-bytes.false c.requires

pub returns-in_default : goal.returns-in_default
returns-in_default c =
    let long : longest_line < line_length c.args.bytes.now = search (rules, c.in_default.ensures) in
    first_too_long c.args.bytes.now c.requires long
