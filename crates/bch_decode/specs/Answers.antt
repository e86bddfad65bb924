-- Words of steps, and what the decoder's answers say of them.
use Rattle.std.specs.Prelude.{ℕ, List, ◌++◌, take, Option, Some, None}
use Rattle.code_model.specs.Bits.{bits_of}
use Rattle.code_model.specs.Code.{Code, code_512, parity_bits}
use Rattle.bch_decode.specs.declared.decoder.Decoded.{Decoded}
use Rattle.bch_decode.specs.declared.decoder.Decoded.TheVariants.{Corrected, Failed}

-- the word of a step and its parity: all bits of the step and then those of the parity, without the
-- padding
abbrev pub joined_word : Code → List ℕ → List ℕ → List ℕ
joined_word code step parity = bits_of step ++ take (parity_bits code) (bits_of parity)

-- the word of a step of 512 bytes and its parity
abbrev pub step_and_parity : ℕ → List ℕ → List ℕ → List ℕ
step_and_parity t step parity = joined_word (code_512 t) step parity

-- an answer beside the word that the decoder left: the nearest code word and its distance, or
-- nothing
abbrev pub answer_of : Decoded → List ℕ → Option (List ℕ × ℕ)
answer_of (Corrected n) c = Some (c, n)
answer_of Failed c = None
