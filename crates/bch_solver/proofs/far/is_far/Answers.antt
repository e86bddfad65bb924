use Rattle.std.proofs.Common.{◌≡◌, ℕ, suc, length, slice_index, sym, ◌∙◌, arith}
use Rattle.code_model.specs.Binary.{times, power}
use Rattle.code_model.specs.Poly.{value}
use Rattle.code_model.specs.Word.{differences, distance}
use Rattle.code_model.proofs.FieldLemmas.{power-lt}
use Rattle.code_model.proofs.ValueLemmas.{places, are_places, length-places}
use Rattle.bch_solver.specs.Rows.{listed, syndrome_at}
use Rattle.bch_solver.specs.Residues.{value_17}
use Rattle.bch_solver.proofs.LocatorLemmas.{AreSyndromes, found, solvable}
use Rattle.bch_solver.proofs.NearLemmas.{different_from_place}
use Rattle.bch_solver.proofs.RemainderLemmas.{syndromes_counted}
use Rattle.bch_solver.proofs.ResidueLemmas.{value-degree, every_as}
use Rattle.bch_solver.proofs.far.is_far.Goals as goal

pub returns-in-None : goal.returns-in-None
returns-in-None g c = λ _. λ w word bits long rem near.
    let m = g.F.BinaryField.DEGREE in
    let f = g.F.BinaryField.MODULUS in
    let p = g.F.BinaryField.primitive in
    let t = c.args.strength in
    let s = syndrome_at c.syndromes-values.result in
    let syn : AreSyndromes m f p t w s = syndromes_counted m f p t c.args.word_remainder w c.syndromes-values.result rem c.syndromes-values.ensures.values in
    let u = solvable m f p t w word s c.requires.strength bits near.bits (sym near.long) near.code near.near syn in
    c.in-None.ensures.none (distance w word) u.0 near.near u.1

pub returns-then-has_root_beyond : goal.returns-then-has_root_beyond
returns-then-has_root_beyond g c = λ beyond. λ w word bits long rem near.
    let m = g.F.BinaryField.DEGREE in
    let f = g.F.BinaryField.MODULUS in
    let p = g.F.BinaryField.primitive in
    let t = c.args.strength in
    let s = syndrome_at c.syndromes-values.result in
    let syn : AreSyndromes m f p t w s = syndromes_counted m f p t c.args.word_remainder w c.syndromes-values.result rem c.syndromes-values.ensures.values in
    let e = c.in-Some.locator.degree in
    let cs = c.in-Some.locator.coefficients in
    let room = c.requires.below_order in
    let d = c.args.degree in
    let r = found m f p t e w word s (λ l. slice_index cs l) c.requires.strength c.in-Some.ensures.solved.0 bits near.bits (sym near.long) (omega arith) near.code near.near syn
    c.in-Some.ensures.solved.1 c.in-Some.ensures.least in
    let at = c.has_root_beyond.ensures beyond in
    let inside = different_from_place m f p d w word (sym near.long) at.within (omega arith) (r.2 (power m f 2 d) (power-lt m f p 2 d) at.root) in
    let far = at.outside in
    let here = inside.0 in
    omega arith

pub returns-else-has_root_beyond : goal.returns-else-has_root_beyond
returns-else-has_root_beyond g c = λ lacks. λ w word bits long rem near.
    let m = g.F.BinaryField.DEGREE in
    let f = g.F.BinaryField.MODULUS in
    let p = g.F.BinaryField.primitive in
    let t = c.args.strength in
    let s = syndrome_at c.syndromes-values.result in
    let syn : AreSyndromes m f p t w s = syndromes_counted m f p t c.args.word_remainder w c.syndromes-values.result rem c.syndromes-values.ensures.values in
    let e = c.in-Some.locator.degree in
    let cs = c.in-Some.locator.coefficients in
    let room = c.requires.below_order in
    let few = c.in-Some.ensures.solved.0 in
    let most = c.requires.strength in
    let r = found m f p t e w word s (λ l. slice_index cs l) c.requires.strength c.in-Some.ensures.solved.0 bits near.bits (sym near.long) (omega arith) near.code near.near syn
    c.in-Some.ensures.solved.1 c.in-Some.ensures.least in
    let same : (x : ℕ) → value (times m f) (listed (λ l. slice_index cs l) (suc e)) x ≡ 0 → value_17 m f cs x ≡ 0 =
    λ x z. value-degree m f p cs (suc e) x (omega arith) (λ l h. c.in-Some.ensures.solved.1.above l h) ∙ z in
    c.lacks_roots.ensures lacks (places m f p (differences w word)) (are_places m f p (length w) w word (omega arith) (omega arith))
    (length-places m f p (differences w word) ∙ sym r.0) (every_as m f p _ _ _ same r.1)
