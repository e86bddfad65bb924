use Rattle.std.proofs.Common.{suc, subst, ◌^◌, ◌<◌, ◌+◌, ◌∙◌, ℕ, [], length, get_or, sym, ap, arith, length-set}
use Rattle.code_model.specs.Binary.{times}
use Rattle.code_model.proofs.BinaryLemmas.{times_comm}
use Rattle.code_model.proofs.Elimination.{against-same}
use Rattle.code_model.proofs.Instances.{domain_from_primitive}
use Rattle.bch_solver.specs.Rows.{Holds, syndrome_at}
use Rattle.bch_solver.proofs.TableLemmas.{no_solution, table_more, after_set, row_polynomial}
use Rattle.bch_solver.proofs.locator.solve.Goals as goal

pub returns-in-None-clause-solved : goal.returns-in-None-clause-solved
returns-in-None-clause-solved g c =
    let m = g.F.BinaryField.DEGREE in
    let f = g.F.BinaryField.MODULUS in
    let p = g.F.BinaryField.primitive in
    let s = syndrome_at c.args.syndromes.now in
    let same = c.locator_of.ensures.coefficients in
    let degree = c.locator_of.ensures.degree in
    let monic = c.reduce_all.ensures.monic in
    let holds = c.reduce_all.ensures.kept s 16 (omega arith) c.loop-degree.invariant.holds c.first_row-row.ensures.holds in (
      omega arith,
      record {
        lead = ap (λ e. get_or c.locator_of.result.coefficients e 0) degree ∙ same c.loop-degree.degree ∙ monic.0;
        above = λ l h. same l ∙ monic.1 l (omega arith);
        small = λ l. subst (λ (x : ℕ). x < 2 ^ m) (sym (same l)) (c.reduce_all.ensures.small (16 + l));
        rows = λ j h. against-same (2 ^ m) (times m f) (domain_from_primitive m f p) s 17 _ (row_polynomial c.reduce_all.new.target) (suc j) same ∙ sym (holds j (omega arith)) ∙ c.in-None.ensures.none j h;
      },
    )

pub returns-in-None-clause-least : goal.returns-in-None-clause-least
returns-in-None-clause-least g c =
    let m = g.F.BinaryField.DEGREE in
    let f = g.F.BinaryField.MODULUS in
    let p = g.F.BinaryField.primitive in
    let i = c.loop-degree.invariant in
    let degree = c.locator_of.ensures.degree in
    λ e c' h. no_solution m f p (syndrome_at c.args.syndromes.now) c.loop-degree.rows c.loop-degree.pivots c.loop-degree.inverses c.loop-degree.degree c.args.count c.requires.room i.table i.in_range i.holds e c' (omega arith)

pub loop-degree-preserved : goal.loop-degree-preserved
loop-degree-preserved g c =
    let m = g.F.BinaryField.DEGREE in
    let f = g.F.BinaryField.MODULUS in
    let p = g.F.BinaryField.primitive in
    let i = c.loop-degree.invariant in
    let n = c.loop-degree.degree in
    let row = c.reduce_all.new.target in
    let at = c.in-Some.place in
    let place = c.in-Some.ensures.found in
    let room_r : n < length c.loop-degree.rows = omega arith in
    let room_p : n < length c.loop-degree.pivots = omega arith in
    let room_i : n < length c.loop-degree.inverses = omega arith in
    record {
      rows_long = length-set c.loop-degree.rows n row ∙ i.rows_long;
      pivots_long = length-set c.loop-degree.pivots n at ∙ i.pivots_long;
      inverses_long = length-set c.loop-degree.inverses n c.inverse.result ∙ i.inverses_long;
      table = table_more m f c.loop-degree.rows c.loop-degree.pivots c.loop-degree.inverses n row at c.inverse.result room_r room_p room_i
          i.table (omega arith) c.reduce_all.ensures.small c.inverse.ensures.small (times_comm m f _ _ ∙ c.inverse.ensures.value) c.reduce_all.ensures.monic c.reduce_all.ensures.gone;
      in_range = after_set (λ k x. x < c.args.count) c.loop-degree.pivots n at 0 room_p i.in_range place.0;
      holds = after_set (λ k x. Holds m f (syndrome_at c.args.syndromes.now) 16 x) c.loop-degree.rows n row [] room_r i.holds
          (c.reduce_all.ensures.kept (syndrome_at c.args.syndromes.now) 16 (omega arith) i.holds c.first_row-row.ensures.holds);
    }

pub returns-clause-none : goal.returns-clause-none
returns-clause-none g c =
    let m = g.F.BinaryField.DEGREE in
    let f = g.F.BinaryField.MODULUS in
    let p = g.F.BinaryField.primitive in
    let i = c.loop-degree.invariant in
    λ e c' h. no_solution m f p (syndrome_at c.args.syndromes.now) c.loop-degree.rows c.loop-degree.pivots c.loop-degree.inverses c.loop-degree.degree c.args.count c.requires.room i.table i.in_range i.holds e c' (omega arith)
