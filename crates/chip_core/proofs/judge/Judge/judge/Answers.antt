use Rattle.std.proofs.Common.{◌≡◌, ◌∙◌, ℕ, List, length, ap, sym}
use Rattle.chip_core.proofs.Imaging.{refilled}
use Rattle.bbt_flash.proofs.Lengths.{copy-length}
use Rattle.chip_core.proofs.Judging.{taken-whole}
use Rattle.chip_core.proofs.judge.Judge.judge.Goals as goal

pub invariant_of-self-2-clause-seen_states : goal.invariant_of-self-2-clause-seen_states
invariant_of-self-2-clause-seen_states g c =
    let judge = c.args.self.now in
    let Long : List ℕ → ℕ = λ xs. length xs in
    copy-length judge.geometry c.read_page.new.out _ c.in-Ok.ensures.copy
    (sym (ap Long c.in-Ok.ensures.decoded) ∙ c.take.auto.image ∙ c.read_page.auto.out ∙ ap Long c.as_mut_slice-seen_page.ensures.value ∙ judge.seen_whole)

pub invariant_of-self-2-clause-seen_whole : goal.invariant_of-self-2-clause-seen_whole
invariant_of-self-2-clause-seen_whole g c =
    let judge = c.args.self.now in
    let Long : List ℕ → ℕ = λ xs. length xs in
    let kept : length c.take.new.image ≡ length judge.seen = c.take.auto.image ∙ c.read_page.auto.out ∙ ap Long c.as_mut_slice-seen_page.ensures.value in
    ap Long (refilled judge.seen c.take.new.image kept) ∙ kept ∙ judge.seen_whole

pub invariant_of-self-2-clause-wanted_states : goal.invariant_of-self-2-clause-wanted_states
invariant_of-self-2-clause-wanted_states g c =
    let judge = c.args.self.now in
    let Long : List ℕ → ℕ = λ xs. length xs in
    taken-whole judge.geometry c.as_mut_slice-wanted_page.result.now c.take-2.new.image c.take-2.result judge.wanted_table c.take-2.new.table judge.wanted_states
    c.take-2.ensures.copy c.take-2.ensures.decoded c.take-2.ensures.unchanged
    (c.take-2.auto.image ∙ ap Long c.as_mut_slice-wanted_page.ensures.value ∙ judge.wanted_whole)
