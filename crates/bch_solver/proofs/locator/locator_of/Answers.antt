use Rattle.std.proofs.Common.{◌≡◌, ◌<◌, ◌+◌, ◌∙◌, length, get_or, sym, ap, arith, inl, inr, length-set}
use Rattle.std.proofs.lemmas.Bool.{cases_lt}
use Rattle.std.proofs.lemmas.List.{get_or_past}
use Rattle.bch_solver.proofs.RowLemmas.{read_set}
use Rattle.bch_solver.proofs.locator.locator_of.Goals as goal

pub loop-l-preserved : goal.loop-l-preserved
loop-l-preserved c =
    let i = c.loop-l.l in
    let now = c.loop-l.coefficients in
    let row = c.args.row.now in
    let room : i < length now = omega arith in
    record {
      long = length-set now i (get_or row (16 + i) 0) ∙ c.loop-l.invariant.long;
      done = λ k h. read_set (λ x. x ≡ get_or row (16 + k) 0) now i k _ room (λ e. ap (λ j. get_or row (16 + j) 0) (sym e)) (λ ne. c.loop-l.invariant.done k (omega arith));
    }

pub returns-clause-coefficients : goal.returns-clause-coefficients
returns-clause-coefficients c = λ l. elim (cases_lt l 17) [
  | inl h ↦ c.loop-l.invariant.done l (omega arith)
  | inr h ↦ get_or_past c.loop-l.coefficients l 0 (omega arith) ∙ sym (get_or_past c.args.row.now (16 + l) 0 (omega arith))
]
