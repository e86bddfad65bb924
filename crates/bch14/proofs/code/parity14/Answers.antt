use Rattle.std.proofs.Common.{◌*◌, ◌++◌, ℕ, List, [], ◌∷◌, take, drop, arith, ap, sym, subst, ◌∙◌}
use Rattle.code_model.specs.Bits.{bits_of}
use Rattle.code_model.specs.Word.{AreBits}
use Rattle.code_model.specs.Code.{code_1024, IsCodeWord}
use Rattle.code_model.proofs.NearestLemmas.{code_1024-bch}
use Rattle.code_model.proofs.ParityLemmas.{parity-completes, parity-only, parity-padding}
use Rattle.bch14.proofs.code.parity14.Goals as goal

-- the bits behind others
AreBits-behind : (xs ys : List ℕ) → AreBits (xs ++ ys) → AreBits ys
AreBits-behind [] ys s = s
AreBits-behind (x ∷ xs) ys s = AreBits-behind xs ys s.1

pub returns-clause-parity : goal.returns-clause-parity
returns-clause-parity c = c.parity14_of_slice.ensures

pub returns-clause-completes : goal.returns-clause-completes
returns-clause-completes c =
    let t = c.args.t in
    let step = c.args.step.now in
    let P : List ℕ → Type 0 = λ out. IsCodeWord (code_1024 t) (bits_of step ++ take (14 * t) (bits_of out)) in
    subst P (sym (returns-clause-parity c)) (parity-completes (code_1024 t) (code_1024-bch t c.requires.strength.1) step (omega arith))

pub returns-clause-only : goal.returns-clause-only
returns-clause-only c = λ bits long word.
    let t = c.args.t in
    let step = c.args.step.now in
    parity-only (code_1024 t) (code_1024-bch t c.requires.strength.1) step bits long (AreBits-behind (bits_of step) bits word.bits) word
    ∙ ap (λ out. take (14 * t) (bits_of out)) (sym (returns-clause-parity c))

pub returns-clause-padding : goal.returns-clause-padding
returns-clause-padding c =
    let t = c.args.t in
    ap (λ out. drop (14 * t) (bits_of out)) (returns-clause-parity c) ∙ parity-padding (code_1024 t) (code_1024-bch t c.requires.strength.1) c.args.step.now
