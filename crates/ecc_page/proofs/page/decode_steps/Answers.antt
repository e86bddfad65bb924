use Rattle.std.proofs.Common.{◌≡◌, ◌<◌, ◌≤◌, ◌+◌, ◌-◌, ◌*◌, ℕ, ◌++◌, max, length, take, drop, map, cond, Option, Some, None, sym, ap, ap₂, ◌∙◌, arith}
use Rattle.std.specs.Prelude.{unwrap_or, is_none, IfSome, slice_range}
use Rattle.std.specs.List.{flat_map, sum_by, count_by, fold}
use Rattle.std.proofs.lemmas.List.{take_all}
use Rattle.std.proofs.lemmas.List.Edits.{length-between}
use borrow.Rule.Slice.PartMut.{put_mid}
use Rattle.nand_model.specs.Page.{StepRead}
use Rattle.nand_model.specs.Sizes.{numbers_from, parity_bytes, step_count}
use Rattle.ecc_page.specs.Steps.{read_at, read_of}
use Rattle.ecc_page.proofs.Parts.{part_done, part_left}
use Rattle.ecc_page.proofs.PageLemmas.{strength, parity-inside, page-steps, read-left}
use Rattle.ecc_page.proofs.Runs.{flat_map-more, fold-more}
use Rattle.ecc_page.proofs.page.decode_steps.Goals as goal

pub mask_of_code-mask-requires : goal.mask_of_code-mask-requires
mask_of_code-mask-requires c = strength c.args.g.now

pub decode_step-corrected-requires-clause-strength : goal.decode_step-corrected-requires-clause-strength
decode_step-corrected-requires-clause-strength c = strength c.args.g.now

few : (o : Option ℕ) → IfSome o (λ n. n ≤ 16) → unwrap_or o 0 ≤ 16
few (Some n) h = h
few None h = omega arith

one_at_most : (o : Option ℕ) → cond (is_none o) 1 0 ≤ 1
one_at_most (Some n) = omega arith
one_at_most None = omega arith

-- the read of the step that the loop decodes
read : (c : goal.After-with_step-read)
    → read_of c.args.g.now.t (slice_range c.loop-s.body (512 * c.loop-s.s) (512 * (c.loop-s.s + 1)))
    (slice_range c.loop-s.parities (c.loop-s.s * c.parity_len-len.result) ((c.loop-s.s + 1) * c.parity_len-len.result))
    ≡ read_at c.args.g.now c.args.body.now c.args.parities.now c.loop-s.s
read c =
    read-left c.args.g.now c.loop-s.body c.args.body.now c.loop-s.parities c.args.parities.now c.loop-s.s c.parity_len-len.result c.parity_len-len.ensures
    c.loop-s.invariant.body_left c.loop-s.invariant.parities_left

pub loop-s-preserved : goal.loop-s-preserved
loop-s-preserved c =
    let g = c.args.g.now in
    let s = c.loop-s.s in
    let e = parity_bytes g in
    let len = c.parity_len-len.result in
    let le = c.parity_len-len.ensures in
    let body = c.loop-s.body in
    let parities = c.loop-s.parities in
    let step = c.decode_step-corrected.new.step in
    let stored = c.decode_step-corrected.new.stored in
    let f = read_at g c.args.body.now c.args.parities.now in
    let reads = map f (numbers_from 0 s) in
    let inv = c.loop-s.invariant in
    let below : s < step_count g = omega arith in
    let high : (s + 1) * e ≤ length parities = (let inside = parity-inside g s below in let l = c.loop-s.auto.parities in let r = c.requires.parities in omega arith) in
    let low : s * e ≤ (s + 1) * e = omega arith in
    let high' : 512 * (s + 1) ≤ length body = (let whole = page-steps g in let l = c.loop-s.auto.body in let r = c.requires.body in omega arith) in
    let low' : 512 * s ≤ 512 * (s + 1) = omega arith in
    let lstored : length stored ≡ (s + 1) * e - s * e =
    c.decode_step-corrected.auto.stored ∙ ap (λ n. length (slice_range parities (s * n) ((s + 1) * n))) le
    ∙ length-between parities (s * e) ((s + 1) * e) high in
    let lstep : length step ≡ 512 * (s + 1) - 512 * s = c.decode_step-corrected.auto.step ∙ length-between body (512 * s) (512 * (s + 1)) high' in
    let estep : step ≡ (f s).body = c.decode_step-corrected.ensures.body ∙ ap (λ (r : StepRead). r.body) (read c) in
    let estored : stored ≡ (f s).parity = c.decode_step-corrected.ensures.parity ∙ ap (λ (r : StepRead). r.parity) (read c) in
    let answer : c.decode_step-corrected.result ≡ (f s).corrected = c.decode_step-corrected.ensures.corrected ∙ ap (λ (r : StepRead). r.corrected) (read c) in
    let counted = c.with_step-read.ensures in
    let at_most = few c.decode_step-corrected.result c.decode_step-corrected.ensures.few in
    let at_most' = one_at_most c.decode_step-corrected.result in
    record {
      body_done =
          part_done body step (flat_map (λ (r : StepRead). r.body) reads) (512 * s) (512 * (s + 1)) low' high' lstep inv.body_done
          ∙ ap (λ xs. flat_map (λ (r : StepRead). r.body) reads ++ xs) estep ∙ sym (flat_map-more (λ (r : StepRead). r.body) f s);
      body_left = part_left body c.args.body.now step (512 * s) (512 * (s + 1)) low' high' lstep inv.body_left;
      parities_done =
          ap (λ n. take ((s + 1) * e) (put_mid (s * n) ((s + 1) * n - s * n) parities stored)) le
          ∙ part_done parities stored (flat_map (λ (r : StepRead). r.parity) reads) (s * e) ((s + 1) * e) low high lstored inv.parities_done
          ∙ ap (λ xs. flat_map (λ (r : StepRead). r.parity) reads ++ xs) estored ∙ sym (flat_map-more (λ (r : StepRead). r.parity) f s);
      parities_left =
          ap (λ n. drop ((s + 1) * e) (put_mid (s * n) ((s + 1) * n - s * n) parities stored)) le
          ∙ part_left parities c.args.parities.now stored (s * e) ((s + 1) * e) low high lstored inv.parities_left;
      corrected =
          counted.corrected ∙ ap₂ (λ m o. m + unwrap_or o 0) inv.corrected answer
          ∙ sym (fold-more (λ n (r : StepRead). n + unwrap_or r.corrected 0) f s);
      greatest =
          counted.greatest ∙ ap₂ (λ m o. max m (unwrap_or o 0)) inv.greatest answer
          ∙ sym (fold-more (λ n (r : StepRead). max n (unwrap_or r.corrected 0)) f s);
      failed =
          counted.failed ∙ ap₂ (λ m o. m + cond (is_none o) 1 0) inv.failed answer
          ∙ sym (fold-more (λ n (r : StepRead). n + cond (is_none r.corrected) 1 0) f s);
      corrected_small = (let small = inv.corrected_small in let sum = counted.corrected in omega arith);
      failed_small = (let small = inv.failed_small in let sum = counted.failed in omega arith);
    }

-- at the end all steps are read
pub returns-clause-body : goal.returns-clause-body
returns-clause-body c =
    let g = c.args.g.now in
    let end : c.loop-s.s ≡ step_count g = omega arith in
    let whole = page-steps g in
    let l = c.loop-s.auto.body in
    let r = c.requires.body in
    let all : length c.loop-s.body ≤ 512 * c.loop-s.s = omega arith in
    sym (take_all (512 * c.loop-s.s) c.loop-s.body all) ∙ c.loop-s.invariant.body_done
    ∙ ap (λ n. flat_map (λ (r : StepRead). r.body) (map (read_at g c.args.body.now c.args.parities.now) (numbers_from 0 n))) end

pub returns-clause-parities : goal.returns-clause-parities
returns-clause-parities c =
    let g = c.args.g.now in
    let s = c.loop-s.s in
    let e = parity_bytes g in
    let end : s ≡ step_count g = omega arith in
    let long : length c.loop-s.parities ≡ s * e = c.loop-s.auto.parities ∙ c.requires.parities ∙ ap (λ n. n * e) (sym end) in
    let all : length c.loop-s.parities ≤ s * e = omega arith in
    sym (take_all (s * e) c.loop-s.parities all) ∙ c.loop-s.invariant.parities_done
    ∙ ap (λ n. flat_map (λ (r : StepRead). r.parity) (map (read_at g c.args.body.now c.args.parities.now) (numbers_from 0 n))) end

pub returns-clause-corrected : goal.returns-clause-corrected
returns-clause-corrected c =
    let g = c.args.g.now in
    let end : c.loop-s.s ≡ step_count g = omega arith in
    c.loop-s.invariant.corrected
    ∙ ap (λ n. sum_by (λ (r : StepRead). unwrap_or r.corrected 0) (map (read_at g c.args.body.now c.args.parities.now) (numbers_from 0 n))) end

pub returns-clause-greatest : goal.returns-clause-greatest
returns-clause-greatest c =
    let g = c.args.g.now in
    let end : c.loop-s.s ≡ step_count g = omega arith in
    c.loop-s.invariant.greatest
    ∙ ap (λ n. fold (λ n (r : StepRead). max n (unwrap_or r.corrected 0)) 0 (map (read_at g c.args.body.now c.args.parities.now) (numbers_from 0 n))) end

pub returns-clause-failed : goal.returns-clause-failed
returns-clause-failed c =
    let g = c.args.g.now in
    let end : c.loop-s.s ≡ step_count g = omega arith in
    c.loop-s.invariant.failed
    ∙ ap (λ n. count_by (λ (r : StepRead). is_none r.corrected) (map (read_at g c.args.body.now c.args.parities.now) (numbers_from 0 n))) end
