use Rattle.std.proofs.Common.{◌≡◌, ◌∙◌, map, ap, arith}
use Rattle.nand_model.specs.Sizes.{numbers_from}
use Rattle.made_plan.specs.Made.{reading_session}
use Rattle.made_plan.proofs.Lists.{made_one_more}
use Rattle.made_plan.proofs.boots.reading_sessions.Goals as goal

pub loop-dev-preserved : goal.loop-dev-preserved
loop-dev-preserved c =
    made_one_more reading_session c.loop-dev.sessions c.append.new.self c.loop-dev.dev c.in_ok-reading_session.field-0 c.loop-dev.invariant
    c.in_ok-reading_session.ensures c.in_ok-append.ensures.ok

pub returns : goal.returns
returns c =
    let all : c.loop-dev.dev ≡ 16 = omega arith in
    c.loop-dev.invariant ∙ ap (λ count. map reading_session (numbers_from 0 count)) all
