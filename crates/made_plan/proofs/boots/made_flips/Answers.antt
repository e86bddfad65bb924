use Rattle.std.proofs.Common.{◌≡◌, ◌∙◌, List, ◌++◌, ap, sym, arith}
use Rattle.std.specs.Prelude.{flat_map}
use Rattle.nand_model.specs.Sizes.{numbers_from}
use Rattle.ecc_page.proofs.Runs.{flat_map-numbers_more}
use Rattle.plan_grammar.specs.declared.lines.FaultLine.{FaultLine}
use Rattle.made_plan.specs.Made.{made_flip, made_flips}
use Rattle.made_plan.proofs.boots.made_flips.Goals as goal

pub loop-dev-preserved : goal.loop-dev-preserved
loop-dev-preserved c =
    c.in_ok-put_flip.ensures ∙ ap (λ (faults : List FaultLine). faults ++ made_flip c.args.n c.loop-dev.dev) c.loop-dev.invariant
    ∙ sym (flat_map-numbers_more (made_flip c.args.n) c.loop-dev.dev)

pub returns : goal.returns
unfolding made_flips
returns c =
    let all : c.loop-dev.dev ≡ 16 = omega arith in
    c.loop-dev.invariant ∙ ap (λ count. flat_map (made_flip c.args.n) (numbers_from 0 count)) all
