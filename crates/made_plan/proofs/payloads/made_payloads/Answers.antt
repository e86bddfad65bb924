use Rattle.std.proofs.Common.{◌≡◌, ◌∙◌, map, ap, arith}
use Rattle.nand_model.specs.Sizes.{numbers_from}
use Rattle.made_plan.specs.Made.{made_data, made_payloads}
use Rattle.made_plan.proofs.Lists.{made_one_more}
use Rattle.made_plan.proofs.payloads.made_payloads.Goals as goal

pub loop-dev-preserved : goal.loop-dev-preserved
loop-dev-preserved c =
    made_one_more (made_data c.args.n) c.loop-dev.payloads c.append.new.self c.loop-dev.dev c.in_ok-made_data.field-0 c.loop-dev.invariant
    c.in_ok-made_data.ensures c.in_ok-append.ensures.ok

pub returns : goal.returns
unfolding made_payloads
returns c =
    let all : c.loop-dev.dev ≡ 16 = omega arith in
    c.loop-dev.invariant ∙ ap (λ count. map (made_data c.args.n) (numbers_from 0 count)) all
