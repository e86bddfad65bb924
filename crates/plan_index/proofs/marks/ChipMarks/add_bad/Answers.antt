use Rattle.std.proofs.Common.{◌∙◌, ◌++◌, sym, refl, subst}
use Rattle.plan_grammar.specs.Devices.{bad_blocks, has_number}
use Rattle.plan_index.specs.Places.{Tells}
use Rattle.plan_index.proofs.BadBlocks.{bad_kept, marked_bad}
use Rattle.plan_index.proofs.marks.ChipMarks.add_bad.Goals as goal

pub returns-in-Some : goal.returns-in-Some
returns-in-Some c =
    let chip = c.args.chip.now in
    let m = c.requires in
    let count = m.bad.count_is in
    let as_long = subst (λ n. Tells c.args.self.bad.items n (has_number (bad_blocks chip))) (sym count) m.bad in
    let done = c.in-Some.ensures (bad_blocks chip) as_long m.different in
    let lent = subst (λ fs. Tells fs chip.geometry.blocks (has_number (bad_blocks chip))) (sym c.deref.ensures.value) m.bad in
    let leaves = c.leaves_table_blocks.ensures (bad_blocks chip) lent in (
      bad_kept _ _ _ (sym c.are_below.ensures ∙ c.if-not-are_below.false) (sym leaves ∙ c.if-not-leaves_table_blocks.false) done.0,
      marked_bad chip c.args.self _ c.args.blocks.now m
          (subst (λ n. Tells c.in-Some.bad.items n (has_number (bad_blocks chip ++ c.args.blocks.now))) count done.1) done.0 refl refl refl refl refl,
    )
