use Rattle.std.proofs.Common.{◌≡◌, ◌∙◌, true, not, drop, ap, arith}
use Rattle.std.proofs.lemmas.Bool.{ne_eqb}
use Rattle.nand_model.specs.Table.{has_tables, table_blocks}
use Rattle.nand_model.proofs.Bounds.{bounds}
use Rattle.bbt_flash.specs.Held.{copies_of}
use Rattle.bbt_flash.specs.Step.{search_left}
use Rattle.bbt_flash.proofs.Scanning.{attach-scans}
use Rattle.bbt_flash.proofs.Searching.{attach-searches}
use Rattle.bbt_flash.proofs.attach.first_step.Goals as goal

pub returns-then-g-eq0-clause-fits : goal.returns-then-g-eq0-clause-fits
returns-then-g-eq0-clause-fits c =
    let low = (bounds c.args.g).blocks_low in record { next = omega arith; primary = omega arith; mirror = omega arith }

pub returns-then-g-eq0-clause-left : goal.returns-then-g-eq0-clause-left
returns-then-g-eq0-clause-left c = λ table. attach-scans c.args.g (record { primary = 0; mirror = 0 }) c.if-g-eq0.true

pub returns-in_ok-start-clause-left : goal.returns-in_ok-start-clause-left
returns-in_ok-start-clause-left c =
    let g = c.args.g in
    let tables : has_tables g ≡ true = ap not (ne_eqb g.bbt 0 c.if-g-eq0.false) in
    let start = c.in_ok-start.ensures in
    λ table. (λ i. search_left g (copies_of (start.copies i)) (start.candidates i) (drop (start.next i) (table_blocks g))) ∙ attach-searches g tables
