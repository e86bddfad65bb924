use Rattle.std.proofs.Common.{◌≡◌, ◌∙◌, ℕ, ◌+◌, ◌-◌, ◌≤◌, ◌<◌, All, length, ap, sym, subst, arith}
use Rattle.std.proofs.lemmas.List.Elements.{All-push}
use Rattle.bbt_flash.specs.Held.{HeldFits}
use Rattle.bbt_flash.specs.declared.held.Held.{Held}
use Rattle.bbt_flash.proofs.Lengths.{copy-length}
use Rattle.bbt_flash.proofs.search.Search.read.Goals as goal

pub invariant_of-self : goal.invariant_of-self
invariant_of-self g c =
    let s = c.args.self.now in
    let next = c.requires.next in
    let There : ℕ → Type 0 = λ block. block < s.geometry.blocks in
    let Fits : Held → Type 0 = HeldFits s.geometry.blocks in
    let candidate = c.push_reserved.ensures in
    let pushed = c.push_reserved-in-Ok.ensures in
    let taken = c.take-table.ensures in
    record {
      tables = s.tables;
      few = omega (arith, next);
      few_candidates = omega (arith, s.few_candidates, candidate.len);
      candidate_room = omega (arith, s.candidate_room, candidate.capacity);
      few_helds = omega (arith, s.few_helds, pushed.len);
      held_room = omega (arith, s.held_room, pushed.capacity);
      spare_blocks = taken.blocks ∙ s.spare_blocks;
      spare_room = omega (arith, s.spare_room, taken.left);
      candidates_there = subst (All There) (sym candidate.items) (All-push There _ _ s.candidates_there c.block-block.ensures.there);
      helds_fit =
          subst (All Fits) (sym pushed.items) (All-push Fits _ _ s.helds_fit
          (record {
            there = c.block-block.ensures.there;
            whole = copy-length s.geometry c.args.image.now _ c.in-Ok.ensures.copy (sym (ap length c.in-Ok.ensures.decoded) ∙ c.take.auto.image ∙ c.requires.whole);
          }));
    }

pub invariant_of-self-in-Err-1 : goal.invariant_of-self-in-Err-1
invariant_of-self-in-Err-1 g c =
    let s = c.args.self.now in
    let next = c.requires.next in
    let There : ℕ → Type 0 = λ block. block < s.geometry.blocks in
    let candidate = c.push_reserved.ensures in
    let taken = c.take-table.ensures in
    record {
      tables = s.tables;
      few = omega (arith, next);
      few_candidates = omega (arith, s.few_candidates, candidate.len);
      candidate_room = omega (arith, s.candidate_room, candidate.capacity);
      few_helds = omega (arith, s.few_helds);
      held_room = s.held_room;
      spare_blocks = taken.blocks ∙ s.spare_blocks;
      spare_room = omega (arith, s.spare_room, taken.left);
      candidates_there = subst (All There) (sym candidate.items) (All-push There _ _ s.candidates_there c.block-block.ensures.there);
      helds_fit = s.helds_fit;
    }
