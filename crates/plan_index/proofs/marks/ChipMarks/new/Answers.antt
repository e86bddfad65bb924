use Rattle.std.proofs.Common.{refl}
use Rattle.plan_index.proofs.Chips.{marked_none}
use Rattle.plan_index.proofs.marks.ChipMarks.new.Goals as goal

pub returns : goal.returns
returns c = marked_none c.args.chip.now _ c.requires.details c.requires.parts (c.in_ok-vec.ensures.items_if_clones_equal (λ y e. e))
    (c.in_ok-vec-2.ensures.items_if_clones_equal (λ y e. e)) (c.in_ok-vec-3.ensures.items_if_clones_equal (λ y e. e)) (c.in_ok-vec-4.ensures.items_if_clones_equal (λ y e. e)) refl refl
