use Rattle.std.proofs.Common.{◌≡◌, ◌≤◌, ap, ◌∙◌, arith}
use Rattle.std.proofs.lemmas.Bool.{lt-leb, le-leb}
use Rattle.plan_grammar.specs.declared.kind.PlanKind.TheVariants.{TooLarge}
use Rattle.plan_grammar.specs.Rules.{rule}
use Rattle.plan_grammar.specs.Commands.{with_command}
use Rattle.plan_grammar.specs.Costs.{plan_cost}
use Rattle.plan_costs.proofs.Grows.{total_is, costs_put}
use Rattle.plan_costs.proofs.costs.CostIndex.with_command.Goals as goal

pub returns-then-cost-gt-MOST_OPERATIONS : goal.returns-then-cost-gt-MOST_OPERATIONS
returns-then-cost-gt-MOST_OPERATIONS c = λ plan s n.
    let total = total_is plan c.args.self c.args.command.now c.args.size.now c.args.len c.args.sessions s n c.device_in-dev.result c.marks_of.result
    c.base_cost-base.result c.in_ok-kept-2.lost c.cost_with-cost.result c.room_of.result _
    c.device_in-dev.ensures c.in_ok-kept.ensures.troubles c.marks_of.ensures c.room_of.ensures.room c.room_of.ensures.fits
    (c.base_cost-base.ensures plan n.len_is) c.in_ok-kept-2.ensures.lost c.cost_with-cost.ensures in
    ap (λ b. rule b TooLarge) (lt-leb (plan_cost (with_command c.args.command.now plan)) 65536 (omega (arith, total)))

pub returns : goal.returns
returns c = λ plan s n.
    let total = total_is plan c.args.self c.args.command.now c.args.size.now c.args.len c.args.sessions s n c.device_in-dev.result c.marks_of.result
    c.base_cost-base.result c.in_ok-kept-2.lost c.cost_with-cost.result c.room_of.result _
    c.device_in-dev.ensures c.in_ok-kept.ensures.troubles c.marks_of.ensures c.room_of.ensures.room c.room_of.ensures.fits
    (c.base_cost-base.ensures plan n.len_is) c.in_ok-kept-2.ensures.lost c.cost_with-cost.ensures in
    let few : c.cost_with-cost.result ≤ 65536 = omega arith in
    let within : plan_cost (with_command c.args.command.now plan) ≤ 65536 = omega (arith, total, few) in
    let same : c.cost_with-cost.result ≡ plan_cost (with_command c.args.command.now plan) = omega (arith, total, within) in (
      ap (λ b. rule b TooLarge) (le-leb (plan_cost (with_command c.args.command.now plan)) 65536 within),
      costs_put plan c.args.self _ c.args.command.now c.args.size.now c.args.len c.args.sessions s n c.device_in-dev.result c.marks_of.result
          c.room_of.result _ c.in_ok-kept-2.kept c.take_out.new.devices
          c.device_in-dev.ensures c.in_ok-kept.ensures.troubles c.marks_of.ensures c.room_of.ensures.room c.room_of.ensures.fits
          c.in_ok-kept-2.ensures.troubles (c.in_ok-kept-2.ensures.sessions ∙ c.in_ok-kept.ensures.sessions) same few
          c.in_ok-kept.ensures.others c.in_ok-put.ensures,
    )
