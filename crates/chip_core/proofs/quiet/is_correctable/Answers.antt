use Rattle.std.proofs.Common.{◌≡◌, ◌<◌, ◌∙◌, ℕ, Bool, below_more, sym, true, false, arith}
use Rattle.std.specs.Prelude.{nat_le}
use Rattle.std.specs.List.{list_all}
use Rattle.std.proofs.lemmas.Bool.{both_ways, false_from_ne_true}
use Rattle.nand_model.specs.Quiet.{word_flips}
use Rattle.nand_model.specs.Sizes.{numbers_from, step_count}
use Rattle.chip_core.proofs.Numbers.{all_at, all_from}
use Rattle.chip_core.proofs.quiet.is_correctable.Goals as goal

pub returns-then-not-step_is_correctable : goal.returns-then-not-step_is_correctable
returns-then-not-step_is_correctable g c =
    let chip = c.args.g.now in
    let flips = ((g.F.Flash.state c.args.flash.now).pages c.args.page).flips in
    let few : ℕ → Bool = λ s. nat_le (word_flips chip flips s) chip.t in
    let there : c.loop-step.step < step_count chip = omega (arith, c.loop-step-test.true, c.steps-step-end.ensures) in
    let many : few c.loop-step.step ≡ false = sym c.step_is_correctable.ensures ∙ c.if-not-step_is_correctable.true in
    sym (false_from_ne_true (list_all few (numbers_from 0 (step_count chip)))
    (λ all. both_ways (few c.loop-step.step) many (all_at few 0 (step_count chip) c.loop-step.step all (omega arith) (omega arith))))

pub loop-step-preserved : goal.loop-step-preserved
loop-step-preserved g c = below_more _ _ c.loop-step.invariant (sym c.step_is_correctable.ensures ∙ c.if-not-step_is_correctable.false)

pub returns : goal.returns
returns g c =
    let chip = c.args.g.now in
    let flips = ((g.F.Flash.state c.args.flash.now).pages c.args.page).flips in
    sym (all_from (λ s. nat_le (word_flips chip flips s) chip.t) 0 (step_count chip)
    (λ s low high. let before : s < c.loop-step.step = omega (arith, c.loop-step-test.false, c.steps-step-end.ensures) in c.loop-step.invariant s before))
