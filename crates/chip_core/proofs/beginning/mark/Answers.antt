use Rattle.std.proofs.Common.{◌≡◌, ◌∙◌, Option, ℕ, List, length, refl, ap, sym, subst, true}
use Rattle.std.specs.Prelude.{IfSome, ◌<◌, ◌||◌, not, nat_le}
use Rattle.std.proofs.lemmas.List.{length-replicate}
use Rattle.chip_paths.specs.Operation.{mark_block}
use Rattle.nand_model.specs.Table.{has_tables}
use Rattle.chip_core.specs.Beginning.{in_range}
use Rattle.chip_core.specs.Knowledge.{known_in}
use Rattle.chip_core.proofs.Marking.{marks-good, no-copies, two-copies}
use Rattle.chip_core.proofs.beginning.mark.Goals as goal
use Rattle.chip_core.proofs.beginning.mark.Goals.{else-known-ne0-via-then-known-ne0+else-known-lt2, else-known-ne0-via-else-known-ne0}

pub returns : goal.returns
returns c =
    let known = c.args.known.now in
    let g = known.geometry in
    let block = c.in-Some.block in
    let There : Option ℕ → Type 0 = λ b. IfSome b (λ b. b < g.blocks) in
    let copies : (not (has_tables g) || nat_le 2 known.copies) ≡ true = elim c.else-known-ne0.branch [
      | else-known-ne0-via-then-known-ne0+else-known-lt2 w ↦ two-copies g known.copies w.if-known-lt2.false
      | else-known-ne0-via-else-known-ne0 w ↦ no-copies g known.copies w.if-known-ne0.false
    ] in
    record {
      follows =
          marks-good g (known_in known) block (sym c.is_reserved.ensures ∙ c.if-is_reserved.false) copies
          (sym c.is_good.ensures ∙ c.if-not-is_good.false)
          ∙ sym (ap (λ b. in_range (known_in known) b (mark_block g (known_in known))) c.in-Some.is);
      fresh = refl;
      fits = record {
        there = subst There c.in-Some.is c.requires;
        whole = ap (λ (xs : List ℕ). length xs) c.in_ok-image.ensures ∙ length-replicate c.raw_len.result 0 ∙ c.raw_len.ensures;
      };
      counted = λ d none. none;
    }
