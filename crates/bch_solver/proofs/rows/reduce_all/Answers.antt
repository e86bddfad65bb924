use Rattle.std.proofs.Common.{[], get_or, ap, ◌∙◌, arith, inl, inr}
use Rattle.std.proofs.lemmas.Bool.{cases_eq}
use Rattle.bch_solver.proofs.RowLemmas.{holds_step, monic_step, kept_where_zero}
use Rattle.bch_solver.proofs.rows.reduce_all.Goals as goal

pub loop-k-preserved : goal.loop-k-preserved
loop-k-preserved g c =
    let m = g.F.BinaryField.DEGREE in
    let f = g.F.BinaryField.MODULUS in
    let p = g.F.BinaryField.primitive in
    let i = c.loop-k.k in
    let old = c.loop-k.target in
    let new = c.reduce.new.target in
    let source = get_or c.args.rows.now i [] in
    let table = c.requires.table in
    record {
      small = c.reduce.ensures.small;
      monic = monic_step m f p i c.args.count old new source c.reduce.ensures.sums (table.monic i c.loop-k-test.true) c.loop-k-test.true c.loop-k.invariant.monic;
      gone = λ k h. elim (cases_eq k i) [
        | inl e ↦ ap (λ x. get_or new (get_or c.args.pivots.now x 0) 0) e ∙ c.reduce.ensures.gone
        | inr ne ↦ kept_where_zero m f p old new source _ c.reduce.ensures.sums (table.echelon k i (omega arith) c.loop-k-test.true) ∙ c.loop-k.invariant.gone k (omega arith)
      ];
      kept = λ s t room rows start. holds_step m f p s t old new source c.reduce.ensures.sums (rows i c.loop-k-test.true) (c.loop-k.invariant.kept s t room rows start);
    }
