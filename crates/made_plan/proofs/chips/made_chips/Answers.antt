use Rattle.std.proofs.Common.{◌≡◌, ◌∙◌, List, [], ◌∷◌, ◌++◌, ap, arith}
use Rattle.std.specs.Prelude.{replicate}
use Rattle.std.proofs.lemmas.List.{replicate-append-replicate}
use Rattle.plan_grammar.specs.declared.lines.ChipLines.{ChipLines}
use Rattle.made_plan.specs.Made.{made_chip}
use Rattle.made_plan.proofs.chips.made_chips.Goals as goal

pub loop-chip-preserved : goal.loop-chip-preserved
loop-chip-preserved c =
    c.in_ok-append.ensures.ok ∙ ap (λ (chips : List ChipLines). chips ++ c.in_ok-made_chip.field-0 ∷ []) c.loop-chip.invariant
    ∙ ap (λ (chip : ChipLines). replicate c.loop-chip._chip made_chip ++ chip ∷ []) c.in_ok-made_chip.ensures
    ∙ replicate-append-replicate c.loop-chip._chip 1 made_chip

pub returns : goal.returns
returns c =
    let all : c.loop-chip._chip ≡ 4 = omega arith in
    c.loop-chip.invariant ∙ ap (λ count. replicate count made_chip) all
