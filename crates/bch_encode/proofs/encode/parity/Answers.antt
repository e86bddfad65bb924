-- The remainder that the register writes is the code's parity; the laws of the parity do the rest.
use Rattle.std.proofs.Common.{◌≡◌, ◌≤◌, ◌+◌, ◌*◌, ◌^◌, ◌-◌, ◌/◌, ◌++◌, ℕ, List, [], ◌∷◌, take, drop, arith, ap, sym, subst, ◌∙◌}
use Rattle.code_model.specs.Binary.{remainder}
use Rattle.code_model.specs.Bits.{bits_of, bytes_of}
use Rattle.code_model.specs.Word.{number_from, AreBits}
use Rattle.code_model.specs.Code.{code_512, parity_of, parity_number, IsCodeWord}
use Rattle.code_model.proofs.NearestLemmas.{code_512-bch}
use Rattle.code_model.proofs.ParityLemmas.{parity-completes, parity-only, parity-padding}
use Rattle.bch_encode.proofs.encode.parity.Goals as goal

-- the bits behind others
AreBits-behind : (xs ys : List ℕ) → AreBits (xs ++ ys) → AreBits ys
AreBits-behind [] ys s = s
AreBits-behind (x ∷ xs) ys s = AreBits-behind xs ys s.1

pub returns-clause-parity : goal.returns-clause-parity
unfolding parity_of parity_number
returns-clause-parity c =
    let t = c.args.t in
    let g : c.bits.result ≡ c.generator-generator.result = c.bits.ensures.value in
    c.put_parity.ensures
    ∙ ap (λ f. bytes_of ((13 * t + 7) / 8) (remainder (13 * t) f (number_from 0 (bits_of c.args.step.now) * 2 ^ (13 * t)) * 2 ^ (8 * ((13 * t + 7) / 8) - 13 * t)))
    (g ∙ c.generator-generator.ensures.product)

pub returns-clause-completes : goal.returns-clause-completes
returns-clause-completes c =
    let t = c.args.t in
    let step = c.args.step.now in
    let P : List ℕ → Type 0 = λ out. IsCodeWord (code_512 t) (bits_of step ++ take (13 * t) (bits_of out)) in
    subst P (sym (returns-clause-parity c)) (parity-completes (code_512 t) (code_512-bch t c.requires.strength.1) step (omega arith))

pub returns-clause-only : goal.returns-clause-only
returns-clause-only c = λ bits long word.
    let t = c.args.t in
    let step = c.args.step.now in
    parity-only (code_512 t) (code_512-bch t c.requires.strength.1) step bits long (AreBits-behind (bits_of step) bits word.bits) word
    ∙ ap (λ out. take (13 * t) (bits_of out)) (sym (returns-clause-parity c))

pub returns-clause-padding : goal.returns-clause-padding
returns-clause-padding c =
    let t = c.args.t in
    ap (λ out. drop (13 * t) (bits_of out)) (returns-clause-parity c) ∙ parity-padding (code_512 t) (code_512-bch t c.requires.strength.1) c.args.step.now
