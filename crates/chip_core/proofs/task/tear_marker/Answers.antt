use Rattle.std.proofs.Common.{◌≡◌, ◌*◌, ◌∙◌, ℕ, List, length, ap, subst, arith}
use Rattle.nand_model.specs.Chip.{ProgramEvent}
use Rattle.bbt_flash.proofs.Sizes.{first_page-small, first_page-there}
use Rattle.chip_core.specs.Torn.{IsTorn}
use Rattle.chip_core.proofs.Imaging.{refilled}
use Rattle.chip_core.proofs.task.tear_marker.Goals as goal

pub overflow_mul-page : goal.overflow_mul-page
overflow_mul-page g c = omega (arith, first_page-small c.args.judge.now.geometry c.args.block c.requires.fits.there)

pub tear_program-fairness-requires-clause-place : goal.tear_program-fairness-requires-clause-place
tear_program-fairness-requires-clause-place g c =
    let Long : List ℕ → ℕ = λ xs. length xs in
    let kept : length c.put_marker.new.image ≡ length c.args.image = c.put_marker.auto.image ∙ ap Long c.as_mut_slice.ensures.value in
    rw (← c.requires.judge)
    (record {
      page_there = first_page-there c.args.judge.now.geometry c.args.block c.requires.fits.there;
      length_right = ap Long (c.as_slice.ensures ∙ refilled c.args.image c.put_marker.new.image kept) ∙ kept ∙ c.requires.fits.whole;
    })

pub returns-clause-torn : goal.returns-clause-torn
returns-clause-torn g c =
    let Long : List ℕ → ℕ = λ xs. length xs in
    let h = c.args.judge.now.geometry in
    let kept : length c.put_marker.new.image ≡ length c.args.image = c.put_marker.auto.image ∙ ap Long c.as_mut_slice.ensures.value in
    let image = c.as_slice.ensures ∙ refilled c.args.image c.put_marker.new.image kept ∙ c.put_marker.ensures in
    subst (λ i. IsTorn g.F.Flash.fault_model c.args.tear.now (g.F.Flash.state c.args.flash.now) (g.F.Flash.state c.tear_program-fairness.new.flash)
    c.tear_program-fairness.result (ProgramEvent (c.args.block * h.pages_per_block) i)) image c.tear_program-fairness.ensures.torn
