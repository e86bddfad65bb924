use Rattle.std.proofs.Common.{◌≡◌, ◌∙◌, ◌≤◌, ◌+◌, true, false, not, length, set, take, ap, sym, arith}
use Rattle.std.proofs.lemmas.Bool.{ne_eqb}
use Rattle.std.proofs.lemmas.List.{length-set}
use Rattle.nand_model.specs.Table.{has_tables}
use Rattle.bbt_flash.specs.Copies.{places_in}
use Rattle.bbt_flash.specs.Markers.{marker_state}
use Rattle.bbt_flash.specs.Step.{after_markers, scan_left, step_left}
use Rattle.bbt_flash.proofs.Scanning.{blocks_from, no_tables, scan-over, scan-read}
use Rattle.bbt_flash.proofs.attach.Attach.scan_on.Goals as goal

pub returns-then-next-self-clause-left : goal.returns-then-next-self-clause-left
returns-then-next-self-clause-left c =
    let a = c.args.self.now in
    let g = a.geometry in
    let scan = c.args.scan in
    let go_on = after_markers (has_tables g) g (places_in scan.places) in
    ap (λ table. scan_left go_on g (take (scan.next + 1) table) (blocks_from g (scan.next + 1)))
    (c.set.ensures ∙ ap (set a.table scan.next) c.marker_state-state.ensures.state)
    ∙ sym (scan-read g go_on a.table scan.next c.args.image.now c.requires.fits.next a.all_there)

pub returns-then-self-ne0-clause-left : goal.returns-then-self-ne0-clause-left
returns-then-self-ne0-clause-left c =
    let a = c.args.self.now in
    let g = a.geometry in
    let scan = c.args.scan in
    let go_on = after_markers (has_tables g) g (places_in scan.places) in
    let table = c.set.new.self in
    let tables : has_tables g ≡ true = ap not (ne_eqb g.bbt 0 c.if-self-ne0.true) in
    let all : length table ≡ g.blocks = ap length c.set.ensures ∙ length-set a.table scan.next c.marker_state-state.result ∙ a.all_there in
    c.write_again.ensures.left
    ∙ ap (λ b. after_markers b g (places_in scan.places) table) (sym tables)
    ∙ sym (scan-over g go_on table (scan.next + 1) c.if-next-self.false all)
    ∙ ap (λ t. scan_left go_on g (take (scan.next + 1) t) (blocks_from g (scan.next + 1)))
    (c.set.ensures ∙ ap (set a.table scan.next) c.marker_state-state.ensures.state)
    ∙ sym (scan-read g go_on a.table scan.next c.args.image.now c.requires.fits.next a.all_there)

pub returns-else-self-ne0-clause-left : goal.returns-else-self-ne0-clause-left
returns-else-self-ne0-clause-left c =
    let a = c.args.self.now in
    let g = a.geometry in
    let scan = c.args.scan in
    let go_on = after_markers (has_tables g) g (places_in scan.places) in
    let table = c.set.new.self in
    let none : has_tables g ≡ false = no_tables g c.if-self-ne0.false in
    let all : length table ≡ g.blocks = ap length c.set.ensures ∙ length-set a.table scan.next c.marker_state-state.result ∙ a.all_there in
    ap (step_left g table) c.requires.rests
    ∙ ap (λ b. after_markers b g (places_in scan.places) table) (sym none)
    ∙ sym (scan-over g go_on table (scan.next + 1) c.if-next-self.false all)
    ∙ ap (λ t. scan_left go_on g (take (scan.next + 1) t) (blocks_from g (scan.next + 1)))
    (c.set.ensures ∙ ap (set a.table scan.next) c.marker_state-state.ensures.state)
    ∙ sym (scan-read g go_on a.table scan.next c.args.image.now c.requires.fits.next a.all_there)
