-- The first step of a page by itself: steps that are erased can be decoded.
use Rattle.std.proofs.Common.{◌≡◌, ℕ, zero, suc, ◌+◌, ◌-◌, ◌*◌, ◌<◌, ◌≤◌, Bool, true, false, cond, List, ◌++◌, Option, Some, None, take, map, replicate, refl, sym, ap, ap₂, ◌∙◌, subst, arith}
use Rattle.std.specs.Prelude.{◌==◌, count_by, is_none, is_some}
use Rattle.std.proofs.lemmas.List.Sums.{sum_by-cons}
use Rattle.code_model.specs.Bits.{bits_of}
use Rattle.code_model.specs.Code.{code_512, IsCodeWord, IsNearest, masked, nearest, parity_len, parity_of}
use Rattle.code_model.proofs.DistanceLemmas.{distance-same}
use Rattle.code_model.proofs.NearestLemmas.{code_512-bch, decodes-nearest}
use Rattle.code_model.proofs.ParityLemmas.{length-parity_of, masked-erased, masked-masked, parity-completes}
use Rattle.std.proofs.lemmas.List.{length-replicate}
use Rattle.nand_model.specs.Page.{StepRead, decoded, read_as, received_word, step_body, step_read, stored_parity}
use Rattle.nand_model.specs.Sizes.{numbers_from, step_count}
use Rattle.nand_model.specs.declared.geometry.Geometry.{Geometry}
use Rattle.nand_model.proofs.Bounds.{bounds}
use Rattle.bbt_image.specs.FirstStep.{HasFirstStepAlone}
use Rattle.bbt_image.proofs.Pages.{step_count-some}

-- what is read of a body and its stored parity
abbrev read_of : ℕ → List ℕ → List ℕ → StepRead
read_of t body stored = read_as (code_512 t) body stored (nearest (code_512 t) (received_word (code_512 t) body stored))

none : (t : ℕ) → 0 ≤ t
none t = omega arith

-- an erased step is a code word, and is read as it is
erased_corrected : (t : ℕ) → t ≤ 16 → (read_of t (replicate 512 0xff) (replicate (parity_len (code_512 t)) 0xff)).corrected ≡ Some 0
erased_corrected t small =
    let code = code_512 t in
    let body = replicate 512 0xff in
    let stored = replicate (parity_len code) 0xff in
    let parity : masked code stored ≡ parity_of code body =
    ap (masked code) (sym (masked-erased code)) ∙ masked-masked code (parity_of code body) (length-parity_of code body) in
    let word = received_word code body stored in
    let whole : IsCodeWord code word =
    subst (λ (p : List ℕ). IsCodeWord code (bits_of body ++ take (13 * t) (bits_of p))) (sym parity)
    (parity-completes code (code_512-bch t small) body (length-replicate {A = ℕ} 512 0xff)) in
    let near : IsNearest code word word 0 = record { word = whole; apart = distance-same word; near = none t } in
    let answer : Some (word, 0) ≡ nearest code word = decodes-nearest code (code_512-bch t small) word (Some (word, 0)) whole.bits whole.long near in
    ap (λ (o : Option (List ℕ × ℕ)). (read_as code body stored o).corrected) (sym answer)

-- what is read of a step goes by its body and its stored parity
same_read : (g : Geometry) (xs ys : List ℕ) (s r : ℕ) → step_body g xs s ≡ step_body g ys r → stored_parity g xs s ≡ stored_parity g ys r
    → step_read g xs s ≡ step_read g ys r
same_read g xs ys s r body parity = ap₂ (read_of g.t) body parity

counted : (f : ℕ → StepRead) (first n : ℕ) → ((s : ℕ) → first ≤ s → s < first + n → is_none (f s).corrected ≡ false)
    → count_by (λ (r : StepRead). is_none r.corrected) (map f (numbers_from first n)) ≡ 0
counted f first zero all = refl
counted f first (suc n) all =
    sum_by-cons (λ (r : StepRead). cond (is_none r.corrected) 1 0) (f first) (map f (numbers_from (first + 1) n))
    ∙ ap₂ (λ (t : Bool) (m : ℕ). cond t 1 0 + m) (all first (omega arith) (omega arith)) (counted f (first + 1) n (λ s low high. all s (omega arith) (omega arith)))

-- the failed steps are the first one, if it failed, and those behind it
failed_parts : (f : ℕ → StepRead) (n later : ℕ) → n ≡ suc later
    → count_by (λ (r : StepRead). is_none r.corrected) (map f (numbers_from 0 n))
    ≡ cond (is_none (f 0).corrected) 1 0 + count_by (λ (r : StepRead). is_none r.corrected) (map f (numbers_from 1 later))
failed_parts f n later e =
    ap (λ k. count_by (λ (r : StepRead). is_none r.corrected) (map f (numbers_from 0 k))) e
    ∙ sum_by-cons (λ (r : StepRead). cond (is_none r.corrected) 1 0) (f 0) (map f (numbers_from 1 later))

readable : (o : Option ℕ) (rest : ℕ) → cond (is_none o) 1 0 + rest ≡ 0 → is_some o ≡ true
readable (Some n) rest e = refl
readable None rest e = absurd (omega arith)

-- where no step failed, the first one can be decoded
pub first_readable : (g : Geometry) (cells : List ℕ) → (decoded g cells).failed ≡ 0 → is_some (step_read g cells 0).corrected ≡ true
first_readable g cells e =
    let some = step_count-some g in
    readable (step_read g cells 0).corrected (count_by (λ (r : StepRead). is_none r.corrected) (map (step_read g cells) (numbers_from 1 (step_count g - 1))))
    (sym (failed_parts (step_read g cells) (step_count g) (step_count g - 1) (omega arith)) ∙ e)

none_failed : (o : Option ℕ) → (cond (is_none o) 1 0 == 0) ≡ is_some o
none_failed (Some n) = refl
none_failed None = refl

-- a page that has the step alone fails where the step does
pub alone_tells : (g : Geometry) (image alone : List ℕ) (failed : ℕ) → HasFirstStepAlone g image alone → failed ≡ (decoded g alone).failed
    → (failed == 0) ≡ is_some (step_read g image 0).corrected
alone_tells g image alone failed has count =
    let t = g.t in
    let small : t ≤ 16 = (bounds g).t_high in
    let steps = step_count g in
    let some = step_count-some g in
    let later : (s : ℕ) → 1 ≤ s → s < 1 + (steps - 1) → is_none (step_read g alone s).corrected ≡ false =
    λ s low high. ap (λ (r : StepRead). is_none r.corrected)
    (ap₂ (read_of t) (has.erased_bodies s (omega arith) (omega arith)) (has.erased_parities s (omega arith) (omega arith)))
    ∙ ap (λ (o : Option ℕ). is_none o) (erased_corrected t small) in
    let first : step_read g alone 0 ≡ step_read g image 0 = same_read g alone image 0 0 has.body has.parity in
    let parts : (decoded g alone).failed ≡ cond (is_none (step_read g image 0).corrected) 1 0 + 0 =
    failed_parts (step_read g alone) steps (steps - 1) (omega arith)
    ∙ ap₂ (λ (r : StepRead) (n : ℕ). cond (is_none r.corrected) 1 0 + n) first (counted (step_read g alone) 1 (steps - 1) later) in
    let alone_failed : failed ≡ cond (is_none (step_read g image 0).corrected) 1 0 = count ∙ parts ∙ omega arith in
    ap (λ n. n == 0) alone_failed ∙ none_failed (step_read g image 0).corrected
