use Rattle.std.proofs.Common.{sym, subst}
use Rattle.plan_text.specs.Reading.{IsRefusalOf}
use Rattle.plan_text.proofs.ReadLines.{reading_goes_on, reading_stops}
use Rattle.plan_text.proofs.reader.read_lines.Goals as goal

pub loop-rest-preserved : goal.loop-rest-preserved
loop-rest-preserved c =
    reading_goes_on c.args.bytes.now c.loop-rest.rest.now c.in-Ok.later.now c.loop-rest.draft c.in-Ok.next c.loop-rest.line
    c.loop-rest.invariant c.in-Ok.ensures

pub returns-in-Err : goal.returns-in-Err
returns-in-Err c =
    subst (IsRefusalOf c.args.bytes.now) (sym c.refusal.ensures)
    (reading_stops c.args.bytes.now c.loop-rest.rest.now c.loop-rest.draft c.loop-rest.line c.in-Err.error
    c.loop-rest.invariant c.requires c.in-Err.ensures)
