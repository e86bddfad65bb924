use Rattle.std.proofs.Common.{◌≡◌, ◌<◌, ◌∷◌, ◌++◌, [], List, length, map, arith, refl, ap, sym, ◌∙◌, subst, append-nil}
use Rattle.std.specs.Prelude.{IsSome}
use Rattle.ctl_core.specs.Board.{slot_state}
use Rattle.ctl_core.specs.SlotState.{slot_first}
use Rattle.ctl_core.proofs.FirstAndLast.{moved_on}
use Rattle.ctl_core.proofs.starting.first_slots.Goals as goal

pub loop-flash-preserved : goal.loop-flash-preserved
loop-flash-preserved g c = record {
  so_far = ap (λ ss. map slot_state ss ++ map slot_first (map g.F.Flash.state c.take_first.new.self)) c.in_ok-push.ensures.items
      ∙ moved_on slot_state c.loop-flash.slots.items c.in_ok-first_slot.field-0 (slot_first (g.F.Flash.state c.in-Some.flash))
      (map slot_first (map g.F.Flash.state c.take_first.new.self)) c.in_ok-first_slot.ensures
      ∙ ap (λ fs. map slot_state c.loop-flash.slots.items ++ map slot_first (map g.F.Flash.state fs)) (sym c.in-Some.ensures.taken)
      ∙ c.loop-flash.invariant.so_far;
}

-- a list without a first item
emptied : {A : Type 0} (xs : List A) → (0 < length xs → ⊥) → xs ≡ []
emptied [] h = refl
emptied (x ∷ xs) h = absurd (h (omega arith))

pub returns : goal.returns
returns g c =
    let none : c.loop-flash.rest ≡ [] = emptied c.loop-flash.rest (λ h. let some = subst (λ o. IsSome o) c.in_default.is (c.take_first.ensures.some.1 h) in
    cc) in
    sym (append-nil (map slot_state c.loop-flash.slots.items))
    ∙ ap (λ fs. map slot_state c.loop-flash.slots.items ++ map slot_first (map g.F.Flash.state fs)) (sym none) ∙ c.loop-flash.invariant.so_far
