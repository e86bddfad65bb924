use Rattle.std.proofs.Common.{◌≡◌, ◌≤◌, ◌-◌, ℕ, List, ◌++◌, length, take, drop, ap, ◌∙◌, arith}
use Rattle.std.proofs.Math.ListN.{set}
use Rattle.std.proofs.lemmas.List.{length-set, length-drop, take_rest, drop_all}
use borrow.Rule.Slice.PartMut.{post_of}
use Rattle.ecc_page.proofs.PageLemmas.{encoded_parts, parities-room}
use Rattle.ecc_page.proofs.page.EccPagePageCode.encode.Goals as goal

marked-long : (xs : List ℕ) → length (set (set xs 0 0xff) 1 0xff) ≡ length xs
marked-long xs = length-set (set xs 0 0xff) 1 0xff ∙ length-set xs 0 0xff

pub fill_parities-requires-clause-parities : goal.fill_parities-requires-clause-parities
fill_parities-requires-clause-parities c =
    let spare = c.split_at_mut-body.result.1.now in
    let marked = set (set spare 0 0xff) 1 0xff in
    let start = c.parity_start-start.result in
    let room = (parities-room c.args.g.now).1 in
    let long = marked-long spare in
    let back = c.split_at_mut-body.ensures.back_len in
    let whole = c.requires in
    let place = c.parity_start-start.ensures in
    ap length (take_rest marked start) ∙ length-drop start marked ∙ omega arith

pub returns : goal.returns
returns c =
    let spare = c.split_at_mut-body.result.1.now in
    let marked = set (set spare 0 0xff) 1 0xff in
    let start = c.parity_start-start.result in
    let body = c.split_at_mut-body.result.0.now in
    let post = post_of start (length marked - start) marked in
    let rest : length (drop start marked) ≤ length marked - start = omega (arith, length-drop start marked) in
    ap (λ n. body ++ (take n marked ++ (c.fill_parities.new.parities ++ post))) c.parity_start-start.ensures
    ∙ encoded_parts c.args.g.now c.args.image.now body spare c.fill_parities.new.parities post c.requires
    c.split_at_mut-body.ensures.front c.split_at_mut-body.ensures.back c.fill_parities.ensures (drop_all (length marked - start) (drop start marked) rest)
