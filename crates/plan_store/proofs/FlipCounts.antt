-- The flip lines of boots, line by line.
use Rattle.std.proofs.Common.{◌≡◌, ℕ, ◌+◌, ◌≤◌, cond, List, [], ◌∷◌, ◌++◌, Some, refl, sym, ap, ◌∙◌, arith}
use Rattle.std.specs.List.{sum_by, count_by}
use Rattle.std.proofs.lemmas.List.Sums.{sum_by_push}
use Rattle.plan_grammar.specs.declared.lines.BootLines.{BootLines}
use Rattle.plan_grammar.specs.declared.lines.FaultLine.{FaultLine}
use Rattle.plan_grammar.specs.Limits.{most_flips}
use Rattle.plan_grammar.specs.Rules.{last_of, with_last}
use Rattle.plan_grammar.specs.Faults.{is_flip, flips_of}
use Rattle.plan_index.specs.Boots.{with_fault_line}
use Rattle.plan_store.specs.FlipCount.{AreFlips}
use Rattle.plan_index.proofs.LastItems.{sum-with_last, sum_kept}

-- with one more boot, which has no fault
pub flips_push : (boots : List BootLines) (flips : ℕ) (boot : BootLines) → boot.faults ≡ [] → AreFlips boots flips →
    AreFlips (boots ++ boot ∷ []) flips
flips_push boots flips boot none s =
    let zero : flips_of boot ≡ 0 = ap (count_by is_flip) none in
    record {
      count_is = s.count_is ∙ sym (sum_by_push flips_of boots boot ∙ ap (λ n. sum_by flips_of boots + n) zero ∙ omega arith);
      few = s.few;
    }

-- with another last boot of the same faults
pub flips_kept : (boots : List BootLines) (flips : ℕ) (change : BootLines → BootLines) →
    ((boot : BootLines) → (change boot).faults ≡ boot.faults) → AreFlips boots flips → AreFlips (with_last change boots) flips
flips_kept boots flips change same s = record {
  count_is = s.count_is ∙ sym (sum_kept flips_of change (λ (boot : BootLines). ap (count_by is_flip) (same boot)) boots);
  few = s.few;
}

-- with one more fault
pub flips_fault : (boots : List BootLines) (flips more : ℕ) (boot : BootLines) (fault : FaultLine) → last_of boots ≡ Some boot →
    more ≡ flips + cond (is_flip fault) 1 0 → more ≤ most_flips → AreFlips boots flips →
    AreFlips (with_last (with_fault_line fault) boots) more
flips_fault boots flips more boot fault e one few s = record {
  count_is = one ∙ ap (λ n. n + cond (is_flip fault) 1 0) s.count_is
      ∙ sym (sum-with_last flips_of (with_fault_line fault) (cond (is_flip fault) 1 0) boots boot e
      (sum_by_push (λ (f : FaultLine). cond (is_flip f) 1 0) boot.faults fault));
  few = few;
}
