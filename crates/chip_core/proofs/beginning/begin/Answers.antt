use Rattle.std.proofs.Common.{◌≡◌, None, ap, subst, sym, ◌∙◌}
use Rattle.std.specs.Prelude.{IfOk}
use Rattle.chip_paths.specs.Operation.{mark_block}
use Rattle.nand_model.specs.Partitions.{device_of, part_of}
use Rattle.std.proofs.lemmas.Result.{IfOk-weaker}
use Rattle.nand_model.specs.declared.words.Op.{Op}
use Rattle.nand_model.specs.declared.words.Op.TheVariants.{Mark, RawWrite, Write}
use Rattle.chip_core.specs.Begin.{HasDevice}
use Rattle.chip_core.specs.Beginning.{Begins, StandsFor, in_range, raw_write_from, write_from}
use Rattle.chip_core.proofs.Marking.{mark_goes}
use Rattle.chip_core.proofs.Ranges.{erase_goes, raw_write_goes, write_goes}
use Rattle.chip_core.proofs.beginning.begin.Goals as goal

pub returns-in-Write : goal.returns-in-Write
returns-in-Write g c =
    let known = c.args.known.now in
    let found = part_of c.args.parts.now c.in-Write.dev in
    let body = c.as_slice.result.now in
    let free = c.as_slice-in-Write.result.now in
    let is : c.args.op.now ≡ Write c.in-Write.dev c.in-Write.page body free =
    c.in-Write.is ∙ (λ i. Write c.in-Write.dev c.in-Write.page (sym c.as_slice.ensures i) (sym c.as_slice-in-Write.ensures i)) in
    let Goes : Op → Type 0 = λ op. IfOk c.write.result (λ task. Begins known c.args.parts.now op task) in
    subst Goes (sym is)
    (IfOk-weaker c.write.result (λ task. StandsFor known (λ k. in_range k c.page_of-page.result (write_from known.geometry k body free)) None task)
    (λ task. Begins known c.args.parts.now (Write c.in-Write.dev c.in-Write.page body free) task)
    (write_goes known found c.in-Write.dev c.in-Write.page c.page_of-page.result c.page_of-page.ensures.place body free) c.write.ensures)

pub returns-in-RawWrite : goal.returns-in-RawWrite
returns-in-RawWrite g c =
    let known = c.args.known.now in
    let found = part_of c.args.parts.now c.in-RawWrite.dev in
    let image = c.as_slice-in-RawWrite.result.now in
    let is : c.args.op.now ≡ RawWrite c.in-RawWrite.dev c.in-RawWrite.page image =
    c.in-RawWrite.is ∙ ap (RawWrite c.in-RawWrite.dev c.in-RawWrite.page) (sym c.as_slice-in-RawWrite.ensures) in
    let place = c.page_of-page-in-RawWrite.result in
    let Goes : Op → Type 0 = λ op. IfOk c.raw_write.result (λ task. Begins known c.args.parts.now op task) in
    subst Goes (sym is)
    (IfOk-weaker c.raw_write.result (λ task. StandsFor known (λ k. in_range k place (raw_write_from known.geometry k image)) None task)
    (λ task. Begins known c.args.parts.now (RawWrite c.in-RawWrite.dev c.in-RawWrite.page image) task)
    (raw_write_goes known found c.in-RawWrite.dev c.in-RawWrite.page place c.page_of-page-in-RawWrite.ensures.place image) c.raw_write.ensures)

pub returns-in-Erase : goal.returns-in-Erase
returns-in-Erase g c =
    let Goes : Op → Type 0 = λ op. Begins c.args.known.now c.args.parts.now op c.erase.result in
    let Has : Op → Type 0 = λ op. HasDevice c.args.known.now.geometry c.args.parts.now (device_of op) in
    let device = subst Has c.in-Erase.is c.requires.device in
    subst Goes (sym c.in-Erase.is)
    (erase_goes c.args.known.now (part_of c.args.parts.now c.in-Erase.dev) c.in-Erase.dev c.in-Erase.block c.block.result device.there c.block.ensures
    c.erase.result c.erase.ensures)

pub returns-in-Mark : goal.returns-in-Mark
returns-in-Mark g c =
    let known = c.args.known.now in
    let dev = c.in-Mark.dev in
    let block = c.in-Mark.block in
    let place = c.block-in-Mark.result in
    let Goes : Op → Type 0 = λ op. IfOk c.mark.result (λ task. Begins known c.args.parts.now op task) in
    let Has : Op → Type 0 = λ op. HasDevice known.geometry c.args.parts.now (device_of op) in
    let device = subst Has c.in-Mark.is c.requires.device in
    subst Goes (sym c.in-Mark.is)
    (IfOk-weaker c.mark.result (λ task. StandsFor known (λ k. in_range k place (mark_block known.geometry k)) None task)
    (λ task. Begins known c.args.parts.now (Mark dev block) task)
    (mark_goes known (part_of c.args.parts.now dev) dev block place device.there c.block-in-Mark.ensures) c.mark.ensures)
