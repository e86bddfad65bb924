-- The page that has the first step of another one alone.
use Rattle.std.proofs.Common.{◌≡◌, ℕ, ◌+◌, ◌*◌, ◌≤◌, List, length, replicate, sym, ap, ap₂, ◌∙◌, arith}
use Rattle.std.specs.Prelude.{slice_range}
use Rattle.std.proofs.Math.Nat.{mul-le-mul_right}
use Rattle.std.proofs.lemmas.List.{length-replicate}
use Rattle.nand_model.specs.Sizes.{parity_bytes, parity_start, raw_len, step_count}
use Rattle.nand_model.specs.declared.geometry.Geometry.{Geometry}
use Rattle.bbt_image.specs.FirstStep.{HasFirstStepAlone}
use Rattle.bbt_image.proofs.Pages.{first_parity, page-low, page-steps, parities-end}
use Rattle.bbt_image.proofs.Parts.{overlaid, part_there, part_before, part_behind, overlaid-long, part_of_same}

-- a page of 0xFF with the first step and its parity of another page
pub alone_has : (g : Geometry) (image erased alone : List ℕ) (start end : ℕ) → length image ≡ raw_len g → erased ≡ replicate (raw_len g) 0xff
    → start ≡ g.page + parity_start g → end ≡ start + parity_bytes g
    → alone ≡ overlaid (overlaid erased image 0 512) image start end
    → HasFirstStepAlone g image alone
alone_has g image erased alone start end long empty first last made =
    let e = parity_bytes g in
    let p = g.page + parity_start g in
    let steps = step_count g in
    let whole_page = page-steps g in
    let low = page-low g in
    let rest = parities-end g in
    let inside = first_parity g in
    let with_body = overlaid erased image 0 512 in
    let erased_long : length erased ≡ length image = ap length empty ∙ length-replicate (raw_len g) 0xff ∙ sym long in
    let body_end : 512 ≤ length image = omega arith in
    let none : 0 ≤ 512 = omega arith in
    let body_long : length with_body ≡ length image = overlaid-long erased image 0 512 none body_end erased_long ∙ erased_long in
    let order : start ≤ end = omega arith in
    let within : end ≤ length image = omega arith in
    let start_at : p + 0 * e ≡ start = omega arith in
    let end_at : p + (0 + 1) * e ≡ end = omega arith in
    record {
      body =
          ap (λ xs. slice_range xs 0 512) made ∙ part_before with_body image start end order within body_long 0 512 (omega arith)
          ∙ part_there erased image 0 512 none body_end erased_long;
      parity =
          ap₂ (slice_range alone) start_at end_at ∙ ap (λ xs. slice_range xs start end) made
          ∙ part_there with_body image start end order within body_long ∙ sym (ap₂ (slice_range image) start_at end_at);
      erased_bodies =
          λ s some below.
          let high : 512 * (s + 1) ≤ start = omega arith in
          ap (λ xs. slice_range xs (512 * s) (512 * (s + 1))) made
          ∙ part_before with_body image start end order within body_long (512 * s) (512 * (s + 1)) high
          ∙ part_behind erased image 0 512 none body_end erased_long (512 * s) (512 * (s + 1)) (omega arith)
          ∙ ap (λ xs. slice_range xs (512 * s) (512 * (s + 1))) empty
          ∙ part_of_same (raw_len g) 0xff (512 * s) (512 * (s + 1)) 512 (omega arith) (omega arith);
      erased_parities =
          λ s some below.
          let one : 1 * e ≤ s * e = mul-le-mul_right e some in
          let more : s + 1 ≤ steps = omega arith in
          let last_end : (s + 1) * e ≤ steps * e = mul-le-mul_right e more in
          ap (λ xs. slice_range xs (p + s * e) (p + (s + 1) * e)) made
          ∙ part_behind with_body image start end order within body_long (p + s * e) (p + (s + 1) * e) (omega arith)
          ∙ part_behind erased image 0 512 none body_end erased_long (p + s * e) (p + (s + 1) * e) (omega arith)
          ∙ ap (λ xs. slice_range xs (p + s * e) (p + (s + 1) * e)) empty
          ∙ part_of_same (raw_len g) 0xff (p + s * e) (p + (s + 1) * e) e (omega arith) (omega arith);
    }
