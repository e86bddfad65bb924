use Rattle.std.proofs.Common.{◌≡◌, ◌<◌, ◌≤◌, ◌+◌, ◌-◌, ◌*◌, ℕ, ◌++◌, length, take, sym, ap, ◌∙◌, arith}
use Rattle.std.specs.List.{flat_map}
use Rattle.std.proofs.lemmas.List.{take_all}
use borrow.Rule.Slice.PartMut.{put_mid}
use Rattle.nand_model.specs.Page.{step_body}
use Rattle.nand_model.specs.Sizes.{numbers_from, parity_bytes, step_count}
use Rattle.ecc_page.specs.Steps.{parity_stored}
use Rattle.ecc_page.proofs.Parts.{part_done}
use Rattle.ecc_page.proofs.PageLemmas.{strength, parity-inside}
use Rattle.ecc_page.proofs.Runs.{flat_map-numbers_more}
use Rattle.ecc_page.proofs.StepLemmas.{length-parity_stored}
use Rattle.ecc_page.proofs.page.fill_parities.Goals as goal

pub mask_of_code-mask-requires : goal.mask_of_code-mask-requires
mask_of_code-mask-requires c = strength c.args.g.now

pub encode_step-requires-clause-strength : goal.encode_step-requires-clause-strength
encode_step-requires-clause-strength c = strength c.args.g.now

pub loop-s-preserved : goal.loop-s-preserved
loop-s-preserved c =
    let g = c.args.g.now in
    let s = c.loop-s.s in
    let e = parity_bytes g in
    let done = λ (n : ℕ). flat_map (λ s. parity_stored g.t (step_body g c.args.body.now s)) (numbers_from 0 n) in
    let below : s < step_count g = omega arith in
    let high : (s + 1) * e ≤ length c.loop-s.parities = (let inside = parity-inside g s below in let l = c.loop-s.auto.parities in let r = c.requires.parities in omega arith) in
    let low : s * e ≤ (s + 1) * e = omega arith in
    let count : (s + 1) * e - s * e ≡ e = omega arith in
    let new : c.encode_step.new.out ≡ parity_stored g.t (step_body g c.args.body.now s) = c.encode_step.ensures in
    let long : length c.encode_step.new.out ≡ (s + 1) * e - s * e = ap length new ∙ length-parity_stored g.t (step_body g c.args.body.now s) ∙ sym count in
    ap (λ n. take ((s + 1) * e) (put_mid (s * n) ((s + 1) * n - s * n) c.loop-s.parities c.encode_step.new.out)) c.parity_len-len.ensures
    ∙ part_done c.loop-s.parities c.encode_step.new.out (done s) (s * e) ((s + 1) * e) low high long c.loop-s.invariant
    ∙ ap (λ xs. done s ++ xs) new ∙ sym (flat_map-numbers_more (λ s. parity_stored g.t (step_body g c.args.body.now s)) s)

pub returns : goal.returns
returns c =
    let g = c.args.g.now in
    let s = c.loop-s.s in
    let e = parity_bytes g in
    let end : s ≡ step_count g = omega arith in
    let long : length c.loop-s.parities ≡ s * e = c.loop-s.auto.parities ∙ c.requires.parities ∙ ap (λ n. n * e) (sym end) in
    let all : length c.loop-s.parities ≤ s * e = omega arith in
    sym (take_all (s * e) c.loop-s.parities all) ∙ c.loop-s.invariant
    ∙ ap (λ n. flat_map (λ s. parity_stored g.t (step_body g c.args.body.now s)) (numbers_from 0 n)) end
