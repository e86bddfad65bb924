use Rattle.std.proofs.Common.{◌≡◌, ◌<◌, ◌≤◌, ◌+◌, ◌-◌, ◌*◌, ◌/◌, ◌^◌, ℕ, List, length, get_or, take, Some, sym, ap, ap₂, ◌∙◌, subst, arith, Fits, w8}
use Rattle.std.specs.Prelude.{count_ones}
use Rattle.std.specs.List.{count_by}
use Rattle.std.proofs.Math.Nat.{div-le_self}
use Rattle.std.proofs.lemmas.Nat.{ones_le_self}
use Rattle.code_model.specs.Bits.{bits_of}
use Rattle.code_model.specs.Code.{code_512, parity_len}
use Rattle.ecc_page.specs.Erased.{is_zero, zero_bits, IsErasedRead}
use Rattle.ecc_page.specs.Steps.{read_of}
use Rattle.ecc_page.proofs.ErasedLemmas.{zero_bits_parts, erased_reads}
use Rattle.ecc_page.proofs.erased.erased_check.Goals as goal

pub overflow_add-zeros-2 : goal.overflow_add-zeros-2
overflow_add-zeros-2 c =
    let byte = get_or c.args.parity.now (length c.args.parity.now - 1) 0 in
    let few = ones_le_self ((255 - byte) / 2 ^ (8 * length c.args.parity.now - 13 * c.args.t)) in
    let small : (255 - byte) / 2 ^ (8 * length c.args.parity.now - 13 * c.args.t) ≤ 255 - byte = div-le_self (255 - byte) _ in
    let first = c.zeros_of.ensures.most in
    let second = c.zeros_of-2.ensures.most in
    omega arith

same_some : {a b : ℕ} → Some a ≡ Some b → a ≡ b
same_some e = cc

-- what was counted
total : (t first second : ℕ) (step parity : List ℕ) → 0 < t → length parity ≡ parity_len (code_512 t) → Fits w8 (get_or parity (length parity - 1) 0)
    → first ≡ count_by is_zero (bits_of step) → second ≡ count_by is_zero (bits_of (take (length parity - 1) parity))
    → first + second + count_ones ((255 - get_or parity (length parity - 1) 0) / 2 ^ (8 * length parity - 13 * t)) ≡ zero_bits t step parity
total t first second step parity low long small e e' =
    let byte : get_or parity (length parity - 1) 0 < 256 = omega arith in
    let last : ℕ = count_ones ((255 - get_or parity (length parity - 1) 0) / 2 ^ (8 * length parity - 13 * t)) in
    ap₂ (λ m n. m + n + last) e e' ∙ zero_bits_parts t step parity low long byte

pub returns-then-zeros-t-clause-some : goal.returns-then-zeros-t-clause-some
returns-then-zeros-t-clause-some c = λ few.
    ap (λ n. Some n) (total c.args.t _ _ c.args.step.now c.args.parity.now c.requires.strength.0 c.requires.room (c.type_inv.parity (length c.args.parity.now - 1)) c.zeros_of.ensures.zeros c.zeros_of-2.ensures.zeros)

pub returns-then-zeros-t-clause-none : goal.returns-then-zeros-t-clause-none
returns-then-zeros-t-clause-none c = λ many.
    let sum = total c.args.t _ _ c.args.step.now c.args.parity.now c.requires.strength.0 c.requires.room (c.type_inv.parity (length c.args.parity.now - 1)) c.zeros_of.ensures.zeros c.zeros_of-2.ensures.zeros in
    let few = c.if-zeros-t.true in
    absurd (omega arith)

pub returns-then-zeros-t-clause-decoded : goal.returns-then-zeros-t-clause-decoded
returns-then-zeros-t-clause-decoded c = λ n e.
    let t = c.args.t in
    let sum = total t _ _ c.args.step.now c.args.parity.now c.requires.strength.0 c.requires.room (c.type_inv.parity (length c.args.parity.now - 1)) c.zeros_of.ensures.zeros c.zeros_of-2.ensures.zeros in
    let few = c.if-zeros-t.true in
    let within : zero_bits t c.args.step.now c.args.parity.now ≤ t = omega arith in
    subst (λ (k : ℕ). IsErasedRead t c.args.parity.now k (read_of t c.args.step.now c.args.parity.now)) (sym sum ∙ same_some e)
    (erased_reads t c.args.step.now c.args.parity.now c.requires.strength.1 c.told-step c.requires.room within)

pub returns-else-zeros-t-clause-some : goal.returns-else-zeros-t-clause-some
returns-else-zeros-t-clause-some c = λ few.
    let sum = total c.args.t _ _ c.args.step.now c.args.parity.now c.requires.strength.0 c.requires.room (c.type_inv.parity (length c.args.parity.now - 1)) c.zeros_of.ensures.zeros c.zeros_of-2.ensures.zeros in
    let many = c.if-zeros-t.false in
    absurd (omega arith)
