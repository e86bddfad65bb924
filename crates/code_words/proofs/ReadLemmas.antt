-- What the decoder leaves of a step, as what is read of it.
use Rattle.std.proofs.Common.{◌≡◌, ℕ, ◌+◌, ◌*◌, ◌<◌, ◌≤◌, List, ◌++◌, length, take, Option, sym, ap, ◌∙◌, arith}
use Rattle.std.specs.Prelude.{slice_index}
use Rattle.std.proofs.lemmas.List.{take_at}
use Rattle.code_model.specs.Bits.{bits_of, bytes_of_bits, xor_bytes}
use Rattle.code_model.specs.Code.{code_1024, Decodes, nearest, masked, mask_of, parity_len}
use Rattle.code_model.proofs.ByteLemmas.{length-bits_of, AreBits-append, AreBits-take, AreBits-bits_of}
use Rattle.code_model.proofs.NearestLemmas.{decodes-nearest, code_1024-bch}
use Rattle.code_laws.proofs.BytesLemmas.{bytes_of_bits-bits_of}
use Rattle.nand_model.specs.Page.{read_as, received_word}
use Rattle.bch_decode.specs.Answers.{joined_word}
use Rattle.bch_quick.proofs.Nearest.{joined_word-long}
use Rattle.code_words.specs.Units.{read_of}

-- what is read is what a decoder answers
pub read_is : (t : ℕ) (step stored parity : List ℕ) (answer : Option (List ℕ × ℕ)) → t ≤ 16 → length step ≡ 1024 → length parity ≡ parity_len (code_1024 t)
    → parity ≡ masked (code_1024 t) stored → Decodes (code_1024 t) (joined_word (code_1024 t) step parity) answer
    → read_of t step stored ≡ read_as (code_1024 t) step stored answer
read_is t step stored parity answer few ls lp same decodes =
    let code = code_1024 t in
    let word = joined_word code step parity in
    let bits = AreBits-append (bits_of step) (take (14 * t) (bits_of parity)) (AreBits-bits_of step) (AreBits-take (14 * t) (bits_of parity) (AreBits-bits_of parity)) in
    let long : length word ≡ 8192 + 14 * t = joined_word-long 14 0x402b t 1024 step parity ls (omega arith) in
    let near : answer ≡ nearest code word = decodes-nearest code (code_1024-bch t few) word answer bits long decodes in
    let here : nearest code word ≡ nearest code (received_word code step stored) = ap (λ p. nearest code (joined_word code step p)) same in
    ap (read_as code step stored) (sym (near ∙ here))

-- the step of a code word
pub step_of_word : (step rest : List ℕ) → length step ≡ 1024 → ((k : ℕ) → k < length step → slice_index step k < 256) → bytes_of_bits (take 8192 (bits_of step ++ rest)) ≡ step
step_of_word step rest len small =
    let bits : length (bits_of step) ≡ 8192 = length-bits_of step ∙ ap (λ n. 8 * n) len in
    ap bytes_of_bits (take_at (bits_of step) rest 8192 bits) ∙ bytes_of_bits-bits_of step small

-- the mask put on
pub masked_by : (t : ℕ) (stored mask new : List ℕ) → new ≡ xor_bytes stored mask → mask ≡ mask_of (code_1024 t) → new ≡ masked (code_1024 t) stored
unfolding masked
masked_by t stored mask new e same = e ∙ ap (xor_bytes stored) same
