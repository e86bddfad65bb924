-- The flips that are due, one after the other, and the room that they take.
use Rattle.std.proofs.Common.{◌≡◌, ◌<◌, ◌≤◌, ◌+◌, inl, inr, arith, ℕ, zero, suc, Bool, true, false, cond, List, [], ◌∷◌, length, drop, map, Option, Some, None, refl, ap, sym, ◌∙◌, subst, get_or}
use Rattle.std.specs.Prelude.{◌==◌, slice_get, filter, fold, option_and_then, All, IsSome, IfSome, not}
use Rattle.std.proofs.Math.ListN.{set}
use Rattle.std.proofs.lemmas.Bool.{cases_eq, cases_lt, eq-eqb, ne_eqb}
use Rattle.std.proofs.lemmas.List.Filters.{length-filter_both, sum_by-filter_both}
use Rattle.std.proofs.lemmas.List.Sums.{sum_by-cons, sum_by-le}
use Rattle.std.proofs.lemmas.Option.{slice_get_within, slice_get_past, slice_get-get_or}
use Rattle.nand_model.specs.Flips.{is_due, due_flips}
use Rattle.nand_iface.specs.declared.flash.Flash.{Ghosts}
use Rattle.nand_model.specs.Chip.{PageEvent}
use Rattle.nand_model.specs.declared.words.Flip.{Flip}
use Rattle.fault_plan.specs.Due.{first_due}
use Rattle.fault_plan.proofs.Due.{next_due, none_due, place_due}
use Rattle.chip_core.specs.Chip.{chip_bits, chip_page_room}
use Rattle.chip_paths.specs.Stage.{stage_event}
use Rattle.run_model.specs.Start.{AreFewFlips}
use Rattle.ctl_core.specs.declared.board.Slot.{Slot}
use Rattle.ctl_core.specs.Board.{HasRoom, HasRoomFor, slot_state}
use Rattle.ctl_core.specs.Flips.{CanFlip, bit_count, flips_on, slot_flip, slot_flips_before}
use Rattle.ctl_core.specs.SlotState.{SlotState}
use Rattle.ctl_core.proofs.Flipped.{can_still_flip, flipped_at}
use Rattle.ctl_core.proofs.OnCourse.{and_then_some, some_of}
use Rattle.ctl_core.proofs.Places.{set_changes}
use Rattle.ctl_core.proofs.Positions.{mapped_length}
use Rattle.ctl_core.proofs.Slots.{at_some}

-- flips that are left of those that are due: all from a place on, the first of which is the next
pub record AreLeft (flips : List Flip) (event : ℕ) (next : Option ℕ) (left : List Flip) : Type 0 where
  pub from : ℕ
  pub is_next : next ≡ first_due flips event from
  pub are : left ≡ due_flips (drop from flips) event

-- all are left at first
pub left_at_first : (flips : List Flip) (event : ℕ) (next : Option ℕ) → next ≡ first_due flips event 0 → AreLeft flips event next (due_flips flips event)
left_at_first flips event next is = record { from = zero; is_next = is; are = refl }

-- the next one is passed
pub left_after : (flips : List Flip) (event n : ℕ) (flip : Flip) (next after : Option ℕ) (left : List Flip) → AreLeft flips event next left → next ≡ Some n
    → slice_get flips n ≡ Some flip → after ≡ first_due flips event (n + 1) → (rest : List Flip) × (left ≡ flip ∷ rest) × AreLeft flips event after rest
left_after flips event n flip next after left of at there is = (
  due_flips (drop (n + 1) flips) event,
  of.are ∙ next_due flips event of.from n flip (sym of.is_next ∙ at) there,
  record { from = n + 1; is_next = is; are = refl },
)

-- the next one is in the list
pub next_within : (flips : List Flip) (event from : ℕ) (next : Option ℕ) → next ≡ first_due flips event from → IfSome next (λ n. n < length flips)
next_within flips event from None is = tt
next_within flips event from (Some n) is = (place_due flips event from n (sym is)).1

-- none is left where there is no next one
pub left_none : (flips : List Flip) (event : ℕ) (next : Option ℕ) (left : List Flip) → AreLeft flips event next left → next ≡ None → left ≡ []
left_none flips event next left of none = of.are ∙ none_due flips event of.from (sym of.is_next ∙ none)

on_or_off : (chip : ℕ) (flip : Flip) (rest : List Flip) (on : Bool) → (flip.chip == chip) ≡ on
    → flips_on chip (flip ∷ rest) ≡ cond on (flip ∷ flips_on chip rest) (flips_on chip rest)
on_or_off chip flip rest on is = ap (λ b. cond b (flip ∷ flips_on chip rest) (flips_on chip rest)) is

-- a flip of the chip is counted
pub counted_on : (chip : ℕ) (flip : Flip) (rest : List Flip) → flip.chip ≡ chip
    → (length (flips_on chip (flip ∷ rest)) ≡ 1 + length (flips_on chip rest))
    × (bit_count (flips_on chip (flip ∷ rest)) ≡ length flip.bits + bit_count (flips_on chip rest))
counted_on chip flip rest same =
    let on = on_or_off chip flip rest true (eq-eqb flip.chip chip same) in
    let longer : length (flip ∷ flips_on chip rest) ≡ 1 + length (flips_on chip rest) = omega arith in
    (ap length on ∙ longer, ap bit_count on ∙ sum_by-cons (λ (f : Flip). length f.bits) flip (flips_on chip rest))

-- one of another chip is not
pub counted_off : (chip : ℕ) (flip : Flip) (rest : List Flip) → (flip.chip ≡ chip → ⊥) → flips_on chip (flip ∷ rest) ≡ flips_on chip rest
counted_off chip flip rest other = on_or_off chip flip rest false (ne_eqb flip.chip chip other)

module _ (flips : List Flip) (event chip : ℕ) (next : Option ℕ) (left : List Flip) (of : AreLeft flips event next left) where
  -- the next flip is counted among those that are left of its chip
  pub counted_next : (n : ℕ) (flip : Flip) → next ≡ Some n → slice_get flips n ≡ Some flip → flip.chip ≡ chip
      → (1 ≤ length (flips_on chip left)) × (length flip.bits ≤ bit_count (flips_on chip left))
  counted_next n flip at there same =
      let after = left_after flips event n flip next (first_due flips event (n + 1)) left of at there refl in
      let count = counted_on chip flip after.0 same in
      let many : length (flips_on chip left) ≡ length (flips_on chip (flip ∷ after.0)) = ap (λ fs. length (flips_on chip fs)) after.1 in
      let bits : bit_count (flips_on chip left) ≡ bit_count (flips_on chip (flip ∷ after.0)) = ap (λ fs. bit_count (flips_on chip fs)) after.1 in
      (omega (arith, many, count.0), omega (arith, bits, count.1))

  -- none is counted where none is left
  pub counted_none : next ≡ None → (length (flips_on chip left) ≡ 0) × (bit_count (flips_on chip left) ≡ 0)
  counted_none none =
      let empty = left_none flips event next left of none in
      (ap (λ fs. length (flips_on chip fs)) empty, ap (λ fs. bit_count (flips_on chip fs)) empty)

fewer : (test : Flip → Bool) (flips : List Flip) → (length (filter test flips) ≤ length flips) × (bit_count (filter test flips) ≤ bit_count flips)
fewer test flips =
    let kept = length-filter_both test (λ flip. not (test flip)) (λ flip. refl) flips in
    let turned = sum_by-filter_both test (λ flip. not (test flip)) (λ flip. refl) (λ (flip : Flip). length flip.bits) flips in
    (omega (arith, kept), omega (arith, turned))

-- flips of a chip that are due are few where all flips are
pub few_due : (flips : List Flip) (event chip : ℕ) → AreFewFlips flips
    → (length (flips_on chip (due_flips flips event)) ≤ 65536) × (bit_count (flips_on chip (due_flips flips event)) ≤ 2147483648)
few_due flips event chip few =
    let due = fewer (is_due event) flips in
    let on = fewer (λ (flip : Flip). flip.chip == chip) (due_flips flips event) in
    let all = sum_by-le (λ (flip : Flip). length flip.bits) 32768 flips few.bits in
    (omega (arith, due.0, on.0, few.count), omega (arith, due.1, on.1, all, few.count))

-- what holds of the first items, one item later
pub first_set : {A : Type 0} (P : ℕ → A → Type 0) (xs : List A) (k : ℕ) (new : A) → k < length xs → P k new
    → ((j : ℕ) → j < k → IfSome (slice_get xs j) (P j)) → (j : ℕ) → j < k + 1 → IfSome (slice_get (set xs k new) j) (P j)
first_set P [] k new within now before j h = absurd (omega arith)
first_set P (y ∷ ys) zero new within now before zero h = now
first_set P (y ∷ ys) zero new within now before (suc j) h = absurd (omega arith)
first_set P (y ∷ ys) (suc k) new within now before zero h = before zero (omega arith)
first_set P (y ∷ ys) (suc k) new within now before (suc j) h =
    first_set (λ i. P (suc i)) ys k new (omega arith) now (λ i l. before (suc i) (omega arith)) j (omega arith)

-- what holds of the first items holds of all, where these are all
pub first_all : {A : Type 0} (P : ℕ → A → Type 0) (xs : List A) (k : ℕ) → length xs ≤ k
    → ((j : ℕ) → j < k → IfSome (slice_get xs j) (P j)) → (j : ℕ) → IfSome (slice_get xs j) (P j)
first_all P xs k end before j =
    elim (cases_lt j k) [
      | inl first ↦ before j first
      | inr past ↦ subst (λ o. IfSome o (P j)) (sym (slice_get_past xs j (omega arith))) tt
    ]

module _ {F C : Type 0} {flash : Ghosts F} where
  -- there is room for the first of some flips
  pub room_first : (flip : Flip) (slots : List (Slot F C flash)) (slot : Slot F C flash) → ((rest : List Flip) × HasRoomFor (flip ∷ rest) slots)
      → slice_get slots flip.chip ≡ Some slot → HasRoom 1 (length flip.bits) slot
  room_first flip slots slot room at =
      let count = counted_on flip.chip flip room.0 refl in
      let all = at_some (HasRoom (1 + length (flips_on flip.chip (flip ∷ room.0))) (bit_count (flips_on flip.chip (flip ∷ room.0))))
      (slice_get slots flip.chip) slot (room.1 flip.chip) at in
      record { page_room = omega (arith, all.page_room, count.0); bits_room = omega (arith, all.bits_room, count.1) }

  -- and after it for the others
  pub room_after : (flip : Flip) (rest : List Flip) (slots : List (Slot F C flash)) (slot now : Slot F C flash) → slice_get slots flip.chip ≡ Some slot
      → chip_page_room slot.chip ≤ chip_page_room now.chip + 1 → chip_bits slot.chip ≤ chip_bits now.chip + length flip.bits
      → HasRoomFor (flip ∷ rest) slots → HasRoomFor rest (set slots flip.chip now)
  room_after flip rest slots slot now at pages bits room k =
      let Has : ℕ → List Flip → Option (Slot F C flash) → Type 0 = λ j fs o. IfSome o (HasRoom (1 + length (flips_on j fs)) (bit_count (flips_on j fs))) in
      let changed = set_changes slots flip.chip now (slice_get_within slots flip.chip slot at) in
      let count = counted_on flip.chip flip rest refl in
      let all = at_some (HasRoom (1 + length (flips_on flip.chip (flip ∷ rest))) (bit_count (flips_on flip.chip (flip ∷ rest))))
      (slice_get slots flip.chip) slot (room flip.chip) at in
      let here : HasRoom (1 + length (flips_on flip.chip rest)) (bit_count (flips_on flip.chip rest)) now =
      record { page_room = omega (arith, all.page_room, count.0, pages); bits_room = omega (arith, all.bits_room, count.1, bits) } in
      elim (cases_eq flip.chip k) [
        | inl same ↦ subst (λ j. Has j rest (slice_get (set slots flip.chip now) j)) same (subst (Has flip.chip rest) (sym changed.here) here)
        | inr other ↦ subst (Has k rest) (sym (changed.elsewhere k other))
            (subst (λ fs. IfSome (slice_get slots k) (HasRoom (1 + length fs) (bit_count fs))) (counted_off k flip rest other) (room k))
      ]

  -- the loop over the flips stands before the next of them: chips and room are those after the ones
  -- before, and those that are left can be made, with room for one page more
  pub record FlipsLeft (flips : List Flip) (event : ℕ) (next : Option ℕ) (start : List (SlotState flash.FaultState)) (slots : List (Slot F C flash)) :
      Type 0 where
    pub left : List Flip
    pub are_left : AreLeft flips event next left
    pub there : All (CanFlip (map slot_state slots)) flips
    pub room : HasRoomFor left slots
    pub so_far : fold (slot_flip flash.fault_model) (map slot_state slots) left ≡ slot_flips_before flash.fault_model flips event start

  module _ (flips : List Flip) (event : ℕ) (next : Option ℕ) (start : List (SlotState flash.FaultState)) (slots : List (Slot F C flash))
      (made : FlipsLeft flips event next start slots) where
    -- there is room for the next flip
    pub flip_room : (n : ℕ) (flip : Flip) → next ≡ Some n → slice_get flips n ≡ Some flip → (rest : List Flip) × HasRoomFor (flip ∷ rest) slots
    flip_room n flip at there =
        let after = left_after flips event n flip next (first_due flips event (n + 1)) made.left made.are_left at there refl in
        (after.0, subst (λ fs. HasRoomFor fs slots) after.1 made.room)

    -- it is made
    pub one_flipped : (n : ℕ) (flip : Flip) (after : Option ℕ) (now : List (Slot F C flash)) → next ≡ Some n → slice_get flips n ≡ Some flip
        → after ≡ first_due flips event (n + 1) → map slot_state now ≡ slot_flip flash.fault_model (map slot_state slots) flip
        → ((rest : List Flip) → HasRoomFor (flip ∷ rest) slots → HasRoomFor rest now)
        → FlipsLeft flips event after start now
    one_flipped n flip after now at there is chips room =
        let rest = left_after flips event n flip next after made.left made.are_left at there is in
        record {
          left = rest.0;
          are_left = rest.2;
          there = λ k d h. subst (λ cs. CanFlip cs (get_or flips k d)) (sym chips) (can_still_flip flash.fault_model (map slot_state slots) flip
              (get_or flips k d) (made.there k d h));
          room = room rest.0 (subst (λ fs. HasRoomFor fs slots) rest.1 made.room);
          so_far = ap (λ cs. fold (slot_flip flash.fault_model) cs rest.0) chips
              ∙ ap (fold (slot_flip flash.fault_model) (map slot_state slots)) (sym rest.1) ∙ made.so_far;
        }

    -- at the end all flips are made
    pub all_flipped : next ≡ None → map slot_state slots ≡ slot_flips_before flash.fault_model flips event start
    all_flipped none =
        ap (fold (slot_flip flash.fault_model) (map slot_state slots)) (sym (left_none flips event next made.left made.are_left none)) ∙ made.so_far

    -- and room for a page is left
    pub room_at_end : next ≡ None → All (HasRoom 1 0) slots
    room_at_end none =
        let room = subst (λ fs. HasRoomFor fs slots) (left_none flips event next made.left made.are_left none) made.room in
        λ k d h. at_some (HasRoom 1 0) (slice_get slots k) (get_or slots k d) (room k) (slice_get-get_or slots k d h)

  -- a chip in a slot after the flips, which has an event before them
  pub event_there : (flips : List Flip) (event : ℕ) (before now : List (Slot F C flash)) (k : ℕ)
      → IsSome (option_and_then (λ (c : SlotState flash.FaultState). stage_event c.stage) (slice_get (map slot_state before) k))
      → map slot_state now ≡ slot_flips_before flash.fault_model flips event (map slot_state before)
      → (x : SlotState flash.FaultState) × (e : PageEvent) × (slice_get (map slot_state now) k ≡ Some x) × (stage_event x.stage ≡ Some e) × (k < length before)
      × (k < length now)
  event_there flips event before now k some made =
      let e = some_of (option_and_then (λ (c : SlotState flash.FaultState). stage_event c.stage) (slice_get (map slot_state before) k)) some in
      let x = and_then_some (λ (c : SlotState flash.FaultState). stage_event c.stage) (slice_get (map slot_state before) k) e.0 e.1 in
      let flipped = flipped_at flash.fault_model flips event (map slot_state before) k x.0 x.1 in
      let there : slice_get (map slot_state now) k ≡ Some flipped.0 = ap (λ cs. slice_get cs k) made ∙ flipped.1 in
      let within = slice_get_within (map slot_state before) k x.0 x.1 in
      let within_now = slice_get_within (map slot_state now) k flipped.0 there in (
        flipped.0,
        e.0,
        there,
        ap stage_event flipped.2.stage ∙ x.2,
        omega (arith, within, mapped_length slot_state before),
        omega (arith, within_now, mapped_length slot_state now),
      )
