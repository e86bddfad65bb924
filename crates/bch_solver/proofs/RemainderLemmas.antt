use Rattle.std.proofs.Common.{◌≡◌, ℕ, suc, ◌-◌, ◌*◌, ◌^◌, ◌<◌, ◌≤◌, List, get_or, sym, ap, ◌∙◌, arith}
use Rattle.std.specs.Prelude.{bit_xor}
use Rattle.std.proofs.lemmas.Nat.{xor_comm}
use lib.Bits.{xor_zero_r}
use Rattle.code_model.specs.Binary.{IsPrimitive, product, remainder, times, power, value_at}
use Rattle.code_model.specs.Generator.{generator_of}
use Rattle.code_model.specs.Word.{number_from}
use Rattle.code_model.proofs.BinaryLemmas.{quotient, times-zero}
use Rattle.code_model.proofs.RootLemmas.{generator-roots, generator-degree}
use Rattle.code_model.proofs.ValueLemmas.{value_at-product, value_at-xor}
use Rattle.bch_solver.specs.Rows.{syndrome_at}
use Rattle.bch_solver.proofs.LocatorLemmas.{AreSyndromes}

-- a number and its remainder by b have the same value at each root of b
pub value_at-remainder : (m f : ℕ) (p : IsPrimitive m f) (x d b a : ℕ) → 2 ^ d ≤ b → b < 2 * 2 ^ d → value_at m f x b ≡ 0 → value_at m f x (remainder d b a) ≡ value_at m f x a
value_at-remainder m f p x d b a low high root =
    let q = quotient d b a low high in
    let rest = value_at m f x (remainder d b a) in
    sym (ap (value_at m f x) q.1 ∙ value_at-xor m f p x (product q.0 b) (remainder d b a)
    ∙ ap (λ v. bit_xor v rest) (value_at-product m f p x q.0 b ∙ ap (times m f (value_at m f x q.0)) root ∙ times-zero m f (value_at m f x q.0))
    ∙ xor_comm 0 rest ∙ xor_zero_r rest)

-- the syndromes of a word's remainder by the generator are those of the word
pub syndromes-remainder : (m f : ℕ) (p : IsPrimitive m f) (t n : ℕ) (w : List ℕ) (s : ℕ → ℕ)
    → n ≡ remainder (m * t) (generator_of m f t) (number_from 0 w)
    → ((j : ℕ) → 0 < j → j ≤ 2 * t → s j ≡ value_at m f (power m f 2 j) n) → AreSyndromes m f p t w s
syndromes-remainder m f p t n w s e h j a b =
    let degree = generator-degree m f p t in
    h j a b ∙ ap (value_at m f (power m f 2 j)) e
    ∙ value_at-remainder m f p (power m f 2 j) (m * t) (generator_of m f t) (number_from 0 w) degree.0 degree.1 (generator-roots m f p t j a b)

-- syndromes in a list, counted from 1
pub syndromes_counted : (m f : ℕ) (p : IsPrimitive m f) (t n : ℕ) (w all : List ℕ)
    → n ≡ remainder (m * t) (generator_of m f t) (number_from 0 w)
    → ((j : ℕ) → j < 2 * t → get_or all j 0 ≡ value_at m f (power m f 2 (suc j)) n) → AreSyndromes m f p t w (syndrome_at all)
syndromes_counted m f p t n w all e h =
    syndromes-remainder m f p t n w (syndrome_at all) e
    (λ j a b. let q : suc (j - 1) ≡ j = omega arith in h (j - 1) (omega arith) ∙ ap (λ k. value_at m f (power m f 2 k) n) q)
