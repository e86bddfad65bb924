use Rattle.std.proofs.Common.{◌≡◌, ◌≢◌, ◌<◌, ◌+◌, ◌∙◌, suc, length, get_or, set, sym, ap, refl, arith, get_or-set_same, get_or-set_other, length-set}
use Rattle.bch_solver.proofs.RowLemmas.{read_set}
use Rattle.bch_solver.proofs.FirstLemmas.{zeros_33, against_unit}
use Rattle.bch_solver.proofs.rows.first_row.Goals as goal

pub loop-j-init : goal.loop-j-init
loop-j-init g c =
    let m = g.F.BinaryField.DEGREE in
    let f = g.F.BinaryField.MODULUS in
    let p = g.F.BinaryField.primitive in
    record { long = refl; done = λ k h. absurd (omega arith); rest = λ k h. zeros_33 k }

pub loop-j-preserved : goal.loop-j-preserved
loop-j-preserved g c =
    let m = g.F.BinaryField.DEGREE in
    let f = g.F.BinaryField.MODULUS in
    let p = g.F.BinaryField.primitive in
    let j = c.loop-j.j in
    let row = c.loop-j.row in
    let syn = c.args.syndromes.now in
    let room : j < length row = omega arith in
    record {
      long = length-set row j (get_or syn (c.args.degree + j) 0) ∙ c.loop-j.invariant.long;
      done = λ k h. read_set (λ x. x ≡ get_or syn (c.args.degree + k) 0) row j k _ room (λ e. ap (λ i. get_or syn (c.args.degree + i) 0) (sym e)) (λ ne. c.loop-j.invariant.done k (omega arith));
      rest = λ k h. read_set (λ x. x ≡ 0) row j k _ room (λ e. absurd (omega arith)) (λ ne. c.loop-j.invariant.rest k (omega arith));
    }

pub returns-clause-monic : goal.returns-clause-monic
returns-clause-monic g c =
    let m = g.F.BinaryField.DEGREE in
    let f = g.F.BinaryField.MODULUS in
    let p = g.F.BinaryField.primitive in
    let row = c.loop-j.row in
    let room : 16 + c.args.degree < length row = omega arith in (
      get_or-set_same row (16 + c.args.degree) 1 0 room,
      λ l h. read_set (λ x. x ≡ 0) row (16 + c.args.degree) (16 + l) 1 room (λ e. absurd (omega arith)) (λ ne. c.loop-j.invariant.rest (16 + l) (omega arith)),
    )

pub returns-clause-holds : goal.returns-clause-holds
returns-clause-holds g c =
    let m = g.F.BinaryField.DEGREE in
    let f = g.F.BinaryField.MODULUS in
    let p = g.F.BinaryField.primitive in
    λ j h.
    let row = c.loop-j.row in
    let d = c.args.degree in
    let room : 16 + d < length row = omega arith in
    let ne : j ≢ 16 + d = omega arith in
    get_or-set_other row (16 + d) j 1 0 ne ∙ c.loop-j.invariant.done j (omega arith)
    ∙ ap (λ i. get_or c.args.syndromes.now i 0) (omega arith)
    ∙ against_unit m f p c.args.syndromes.now 17 d (suc j) (λ i. get_or (set row (16 + d) 1) (16 + i) 0) (c.requires.small_syndromes _) c.requires.room
    (get_or-set_same row (16 + d) 1 0 room)
    (λ i g. read_set (λ x. x ≡ 0) row (16 + d) (16 + i) 1 room (λ e. absurd (g (omega arith))) (λ q. c.loop-j.invariant.rest (16 + i) (omega arith)))
