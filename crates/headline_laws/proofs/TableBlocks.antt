-- A plan that was read leaves each chip with tables two good blocks among its last four.
use Rattle.std.proofs.Common.{◌≡◌, ◌≤◌, ◌+◌, ◌-◌, ℕ, true, not, cond, List, [], ◌∷◌, ap, sym, ◌∙◌, arith, inl, inr, ◌⊎◌}
use Rattle.std.specs.Prelude.{count_by, sum_by, nat_le, ◌==◌}
use Rattle.std.proofs.lemmas.Bool.{false≢true, leb-true, or_cases}
use Rattle.std.proofs.lemmas.List.Sums.{sum_by-cons}
use Rattle.nand_model.specs.Table.{table_blocks}
use Rattle.nand_model.proofs.Bounds.{bounds}
use Rattle.nand_model.specs.declared.geometry.Geometry.{Geometry}
use Rattle.plan_grammar.specs.Devices.{bad_table_blocks, has_number}
use Rattle.plan_grammar.specs.Hardware.{leaves_table_blocks}
use Rattle.plan_grammar.specs.Limits.{most_bad_table_blocks}
use Rattle.plan_laws.proofs.Lists.{all_at}
use Rattle.plan_laws.specs.Within.{AreGoodChips, IsGoodChip, IsWithinLimits}
use Rattle.plan_model.specs.Plan.{ChipPlan, PlanData}
use Rattle.headline_laws.specs.TableBlocks.{HaveTableBlocks}
use Rattle.run_model.specs.Run.{HasTableBlocks}

four_counted : (f : ℕ → ℕ) (a b c d : ℕ) → sum_by f (a ∷ b ∷ c ∷ d ∷ []) ≡ f a + (f b + (f c + (f d + sum_by f [])))
four_counted f a b c d =
    sum_by-cons f a (b ∷ c ∷ d ∷ []) ∙ ap (λ n. f a + n) (sum_by-cons f b (c ∷ d ∷ [])
    ∙ ap (λ n. f b + n) (sum_by-cons f c (d ∷ []) ∙ ap (λ n. f c + n) (sum_by-cons f d [])))

module _ (g : Geometry) (bad : List ℕ) where
  abbrev counts : ℕ → ℕ
  counts b = cond (has_number bad b) 1 0

  -- the last four blocks upwards are those downwards
  same_blocks : 4 ≤ g.blocks → count_by (has_number bad) (table_blocks g) ≡ bad_table_blocks g bad
  same_blocks enough =
      let first : g.blocks - 4 + 1 ≡ g.blocks - 3 = omega (arith, enough) in
      let second : g.blocks - 4 + 1 + 1 ≡ g.blocks - 2 = omega (arith, enough) in
      let third : g.blocks - 4 + 1 + 1 + 1 ≡ g.blocks - 1 = omega (arith, enough) in
      let one = ap counts first in
      let two = ap counts second in
      let three = ap counts third in
      let down = four_counted counts (g.blocks - 1) (g.blocks - 2) (g.blocks - 3) (g.blocks - 4) in
      let up = four_counted counts (g.blocks - 4) (g.blocks - 4 + 1) (g.blocks - 4 + 1 + 1) (g.blocks - 4 + 1 + 1 + 1) in
      omega (arith, one, two, three, down, up)

pub blocks_left : (g : Geometry) (bad : List ℕ) → leaves_table_blocks g bad ≡ true → HasTableBlocks g bad
blocks_left g bad left tables = by_case (or_cases (g.bbt == 0) (nat_le (bad_table_blocks g bad) most_bad_table_blocks) left)
  where
    by_case : ((g.bbt == 0) ≡ true) ⊎ (nat_le (bad_table_blocks g bad) most_bad_table_blocks ≡ true)
        → count_by (has_number bad) (table_blocks g) ≤ 2
    by_case (inl none) = absurd (false≢true (ap not (sym none) ∙ tables))
    by_case (inr few) =
        let low = (bounds g).blocks_low in
        let same = same_blocks g bad (omega (arith, low)) in
        let most = leb-true (bad_table_blocks g bad) most_bad_table_blocks few in
        omega (arith, same, most)

-- and so each chip of a plan within its limits
pub plan_blocks_left : (plan : PlanData) → IsWithinLimits plan → HaveTableBlocks plan
plan_blocks_left plan within c k chips chip at_c at_k =
    let own : AreGoodChips chips = all_at AreGoodChips plan.controllers c chips at_c within.chips in
    let good : IsGoodChip chip = all_at IsGoodChip chips k chip at_k own.good in
    blocks_left chip.geometry chip.bad good.tables
