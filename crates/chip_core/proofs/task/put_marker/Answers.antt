use Rattle.std.proofs.Common.{◌≡◌, ◌*◌, ◌∙◌, ℕ, List, length, ap, arith}
use Rattle.nand_model.specs.Chip.{PageEvent, ProgramEvent}
use Rattle.nand_model.specs.declared.geometry.Geometry.{Geometry}
use Rattle.bbt_flash.proofs.Sizes.{first_page-small, first_page-there}
use Rattle.chip_core.specs.Task.{marker_event}
use Rattle.chip_core.proofs.Imaging.{refilled}
use Rattle.chip_core.proofs.Marking.{marker-advances}
use Rattle.chip_core.proofs.Named.{none-where}
use Rattle.chip_core.proofs.task.put_marker.Goals as goal

pub overflow_mul-block : goal.overflow_mul-block
overflow_mul-block g c =
    rw c.requires.judge (omega (arith, first_page-small c.args.known.now.geometry c.args.block c.requires.fits.there))

pub program-told-requires-clause-place : goal.program-told-requires-clause-place
program-told-requires-clause-place g c =
    let Long : List ℕ → ℕ = λ xs. length xs in
    let kept : length c.put_marker.new.image ≡ length c.args.image = c.put_marker.auto.image ∙ ap Long c.as_mut_slice.ensures.value in
    record {
      page_there = rw (c.requires.judge, c.requires.sizes) (first_page-there c.args.known.now.geometry c.args.block c.requires.fits.there);
      length_right =
          rw c.requires.sizes (ap Long (c.as_slice.ensures ∙ refilled c.args.image c.put_marker.new.image kept) ∙ kept ∙ c.requires.fits.whole);
    }

pub returns-clause-advanced : goal.returns-clause-advanced
returns-clause-advanced g c =
    let Long : List ℕ → ℕ = λ xs. length xs in
    let old = c.args.known.now in
    let kept : length c.put_marker.new.image ≡ length c.args.image = c.put_marker.auto.image ∙ ap Long c.as_mut_slice.ensures.value in
    let image = c.as_slice.ensures ∙ refilled c.args.image c.put_marker.new.image kept ∙ c.put_marker.ensures in
    let e : PageEvent = ProgramEvent (c.args.block * c.args.judge.now.geometry.pages_per_block) c.as_slice.result.now in
    let is : e ≡ marker_event old.geometry c.args.block =
    ap (λ i. ProgramEvent (c.args.block * c.args.judge.now.geometry.pages_per_block) i) image
    ∙ ap (λ (h : Geometry). marker_event h c.args.block) c.requires.judge in
    marker-advances g.F.Flash.fault_model (g.F.Flash.state c.args.flash.now) (g.F.Flash.state c.program-told.new.flash) old c.after_marker.new.known
    c.args.block c.args.image _ c.after_marker.result c.program-told.result c.is_none.result c.requires.sizes e is c.program-told.ensures.done
    (none-where c.program-told.result c.is_none.result c.is_none.ensures) c.after_marker.ensures
