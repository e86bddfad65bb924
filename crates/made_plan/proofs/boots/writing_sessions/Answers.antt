use Rattle.std.proofs.Common.{◌≡◌, ◌∙◌, map, ap, arith}
use Rattle.nand_model.specs.Sizes.{numbers_from}
use Rattle.made_plan.specs.Made.{writing_session}
use Rattle.made_plan.proofs.Lists.{made_one_more}
use Rattle.made_plan.proofs.boots.writing_sessions.Goals as goal

pub loop-dev-preserved : goal.loop-dev-preserved
loop-dev-preserved c =
    made_one_more writing_session c.loop-dev.sessions c.append.new.self c.loop-dev.dev c.in_ok-writing_session.field-0 c.loop-dev.invariant
    c.in_ok-writing_session.ensures c.in_ok-append.ensures.ok

pub returns : goal.returns
returns c =
    let all : c.loop-dev.dev ≡ 16 = omega arith in
    c.loop-dev.invariant ∙ ap (λ count. map writing_session (numbers_from 0 count)) all
