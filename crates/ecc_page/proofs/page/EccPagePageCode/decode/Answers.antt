use Rattle.std.proofs.Common.{◌≤◌, ◌-◌, max, length, drop, ap, ◌∙◌, arith}
use Rattle.std.specs.Prelude.{unwrap_or, is_none}
use Rattle.std.specs.List.{flat_map, sum_by, count_by, fold}
use Rattle.std.proofs.lemmas.List.{length-drop, take_rest, drop_all}
use borrow.Rule.Slice.PartMut.{post_of}
use Rattle.nand_model.specs.Page.{StepRead}
use Rattle.ecc_page.proofs.PageLemmas.{decoded_parts, decoded_reads, parities-room}
use Rattle.ecc_page.proofs.page.EccPagePageCode.decode.Goals as goal

pub decode_steps-requires-clause-parities : goal.decode_steps-requires-clause-parities
decode_steps-requires-clause-parities c =
    let spare = c.split_at_mut-body.result.1.now in
    let start = c.parity_start-start.result in
    let room = (parities-room c.args.g.now).1 in
    let back = c.split_at_mut-body.ensures.back_len in
    let whole = c.requires in
    let place = c.parity_start-start.ensures in
    ap length (take_rest spare start) ∙ length-drop start spare ∙ omega arith

pub returns-clause-image : goal.returns-clause-image
returns-clause-image c =
    let reads =
    decoded_reads c.args.g.now c.args.image.now c.split_at_mut-body.result.0.now c.split_at_mut-body.result.1.now c.parity_start-start.result
    c.split_at_mut-body.ensures.front c.split_at_mut-body.ensures.back c.parity_start-start.ensures in
    let spare = c.split_at_mut-body.result.1.now in
    let start = c.parity_start-start.result in
    let rest : length (drop start spare) ≤ length spare - start = omega (arith, length-drop start spare) in
    decoded_parts c.args.g.now c.args.image.now spare c.decode_steps.new.body c.decode_steps.new.parities (post_of start (length spare - start) spare) start
    c.split_at_mut-body.ensures.back c.parity_start-start.ensures
    (c.decode_steps.ensures.body ∙ ap (flat_map (λ (r : StepRead). r.body)) reads)
    (c.decode_steps.ensures.parities ∙ ap (flat_map (λ (r : StepRead). r.parity)) reads)
    (drop_all (length spare - start) (drop start spare) rest)

pub returns-clause-corrected : goal.returns-clause-corrected
returns-clause-corrected c =
    let reads =
    decoded_reads c.args.g.now c.args.image.now c.split_at_mut-body.result.0.now c.split_at_mut-body.result.1.now c.parity_start-start.result
    c.split_at_mut-body.ensures.front c.split_at_mut-body.ensures.back c.parity_start-start.ensures in
    c.decode_steps.ensures.corrected ∙ ap (sum_by (λ (r : StepRead). unwrap_or r.corrected 0)) reads

pub returns-clause-greatest : goal.returns-clause-greatest
returns-clause-greatest c =
    let reads =
    decoded_reads c.args.g.now c.args.image.now c.split_at_mut-body.result.0.now c.split_at_mut-body.result.1.now c.parity_start-start.result
    c.split_at_mut-body.ensures.front c.split_at_mut-body.ensures.back c.parity_start-start.ensures in
    c.decode_steps.ensures.greatest ∙ ap (fold (λ n (r : StepRead). max n (unwrap_or r.corrected 0)) 0) reads

pub returns-clause-failed : goal.returns-clause-failed
returns-clause-failed c =
    let reads =
    decoded_reads c.args.g.now c.args.image.now c.split_at_mut-body.result.0.now c.split_at_mut-body.result.1.now c.parity_start-start.result
    c.split_at_mut-body.ensures.front c.split_at_mut-body.ensures.back c.parity_start-start.ensures in
    c.decode_steps.ensures.failed ∙ ap (count_by (λ (r : StepRead). is_none r.corrected)) reads
