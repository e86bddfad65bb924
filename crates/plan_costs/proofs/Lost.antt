-- The pages that the nandwrites of a boot may lose, beside their gaps.
use Rattle.std.proofs.Common.{◌≡◌, ℕ, ◌+◌, ◌-◌, ◌*◌, ◌/◌, eqb, cond, true, min, List, [], ◌∷◌, ◌++◌, map, Option, Some, None, refl, sym, ap, ◌∙◌, arith, append_assoc, mul-add}
use Rattle.std.specs.List.{sum_by, sum}
use Rattle.std.proofs.lemmas.List.{append-nil, map-append}
use Rattle.std.proofs.lemmas.List.Sums.{sum_by-cons, sum_by-append}
use Rattle.command_model.specs.Command.{block_size}
use Rattle.plan_grammar.specs.declared.lines.SessionLines.{SessionLines}
use Rattle.plan_grammar.specs.declared.lines.CommandLine.{CommandLine}
use Rattle.plan_grammar.specs.declared.lines.CommandLine.TheVariants.{FlashErase, NandWrite, NandDump, NandTest, MarkBad, IsBad, Stats}
use Rattle.plan_grammar.specs.Rules.{last_of, with_last}
use Rattle.plan_grammar.specs.Devices.{Device}
use Rattle.plan_grammar.specs.Costs.{device_in, weak_for, marks_one, marks_many, count_in}
use Rattle.plan_index.specs.declared.device.DeviceSize.{DeviceSize}
use Rattle.plan_index.specs.Devices.{size_of}
use Rattle.plan_index.specs.Boots.{with_command_line}
use Rattle.plan_costs.specs.Troubles.{offset_on, offsets_on, trouble_cost, troubles_cost}
use Rattle.plan_costs.specs.Room.{room_at, may_fail, gap_beside, earlier_gaps, last_gaps, without_last, room_of, lost_of, gaps_of}
use Rattle.plan_costs.proofs.Gaps.{offsets_push}

-- a sum of numbers
abbrev pub total : List ℕ → ℕ
total ns = sum_by (λ n. n) ns

-- the rooms of the nandwrites on a device
abbrev pub rooms : DeviceSize → ℕ → List SessionLines → ℕ
rooms size dev [] = 0
rooms size dev (session ∷ later) = sum_by (room_at size) (offsets_on dev session.commands) + rooms size dev later

-- what nandwrites lose and their gaps are their rooms
lost_and_gap : (k room spoilt : ℕ) → k * min room spoilt + k * (room - spoilt) ≡ k * room
lost_and_gap k room spoilt = sym (mul-add k (min room spoilt) (room - spoilt)) ∙ ap (λ n. k * n) (whole room spoilt)
  where
    whole : (r s : ℕ) → min r s + (r - s) ≡ r
    whole r s = omega arith

lost_by : (device : Device) (dev : ℕ) (others : List SessionLines) (offs : List ℕ) →
    trouble_cost device dev others offs
    + (device.chip.geometry.pages_per_block + 2) * total (map (gap_beside (size_of device) dev others) offs)
    ≡ (device.chip.geometry.pages_per_block + 2) * sum_by (room_at (size_of device)) offs
lost_by device dev others [] = omega arith
lost_by device dev others (off ∷ offs) =
    let k : ℕ = device.chip.geometry.pages_per_block + 2 in
    let gap : ℕ → ℕ = gap_beside (size_of device) dev others in
    let one = lost_and_gap k (room_at (size_of device) off) (may_fail (size_of device) dev others) in
    omega (
      arith,
      sum_by-cons (λ o. (device.chip.geometry.pages_per_block + 2) * weak_for device dev o others) off offs,
      ap (λ n. k * n) (sum_by-cons (λ n. n) (gap off) (map gap offs)) ∙ mul-add k (gap off) (total (map gap offs)),
      ap (λ n. k * n) (sum_by-cons (room_at (size_of device)) off offs) ∙ mul-add k (room_at (size_of device) off) (sum_by (room_at (size_of device)) offs),
      one,
      lost_by device dev others offs,
    )

-- the costs of the pages that may be lost, and the gaps, are the rooms
pub lost_are : (device : Device) (dev : ℕ) (sessions before : List SessionLines) →
    troubles_cost device dev before sessions
    + (device.chip.geometry.pages_per_block + 2) * (total (earlier_gaps (size_of device) dev before sessions)
    + total (last_gaps (size_of device) dev before sessions))
    ≡ (device.chip.geometry.pages_per_block + 2) * rooms (size_of device) dev sessions
lost_are device dev [] before = omega arith
lost_are device dev (s ∷ []) before =
    let k : ℕ = device.chip.geometry.pages_per_block + 2 in
    let offs : List ℕ = offsets_on dev s.commands in
    ap (λ (ss : List SessionLines). trouble_cost device dev ss offs + 0
    + k * (0 + total (map (gap_beside (size_of device) dev before) offs))) (append-nil before)
    ∙ ap (λ n. trouble_cost device dev before offs + 0 + k * n) zero_left
    ∙ omega (arith, lost_by device dev before offs, ap (λ n. k * n) zero_right)
  where
    zero_left : 0 + total (map (gap_beside (size_of device) dev before) (offsets_on dev s.commands))
        ≡ total (map (gap_beside (size_of device) dev before) (offsets_on dev s.commands))
    zero_left = omega arith

    zero_right : sum_by (room_at (size_of device)) (offsets_on dev s.commands) + 0
        ≡ sum_by (room_at (size_of device)) (offsets_on dev s.commands)
    zero_right = omega arith
lost_are device dev (s ∷ next ∷ later) before =
    let k : ℕ = device.chip.geometry.pages_per_block + 2 in
    let offs : List ℕ = offsets_on dev s.commands in
    let others : List SessionLines = before ++ next ∷ later in
    let gaps : List ℕ = map (gap_beside (size_of device) dev others) offs in
    let size : DeviceSize = size_of device in
    let further : List ℕ = earlier_gaps size dev (before ++ s ∷ []) (next ∷ later) in
    let last : ℕ = total (last_gaps size dev (before ++ s ∷ []) (next ∷ later)) in
    omega (
      arith,
      ap (λ n. k * (n + last)) (sum_by-append (λ n. n) gaps further)
          ∙ ap (λ n. k * n) (three (total gaps) (total further) last)
          ∙ mul-add k (total gaps) (total further + last),
      mul-add k (sum_by (room_at size) offs) (rooms size dev (next ∷ later)),
      lost_by device dev others offs,
      lost_are device dev (next ∷ later) (before ++ s ∷ []),
    )
  where
    three : (a b c : ℕ) → a + b + c ≡ a + (b + c)
    three a b c = omega arith

-- the room of a command on the device
pub room_in : Option ℕ → ℕ
room_in None = 0
room_in (Some room) = room

offset_room : (size : DeviceSize) (dev : ℕ) (command : CommandLine) → eqb (device_in command) dev ≡ true →
    sum_by (room_at size) (offset_on dev command) ≡ room_in (room_of size command)
unfolding room_in
offset_room size dev (NandWrite d mark raw oob pad off name) e =
    ap (λ b. sum_by (room_at size) (cond b (off ∷ []) [])) e ∙ sum_by-cons (room_at size) off [] ∙ omega arith
offset_room size dev (FlashErase d no_scan start count) e = refl
offset_room size dev (NandDump d off len raw oob bad) e = refl
offset_room size dev (NandTest d keep mark seed passes off len) e = refl
offset_room size dev (MarkBad d block) e = refl
offset_room size dev (IsBad d block) e = refl
offset_room size dev (Stats d) e = refl

-- the rooms with one more command on the device
pub rooms_with : (size : DeviceSize) (dev : ℕ) (command : CommandLine) (sessions : List SessionLines) (session : SessionLines) →
    last_of sessions ≡ Some session → eqb (device_in command) dev ≡ true →
    rooms size dev (with_last (with_command_line command) sessions) ≡ rooms size dev sessions + room_in (room_of size command)
rooms_with size dev command [] session e here = absurd (cc e)
rooms_with size dev command (s ∷ []) session e here =
    ap (λ offs. sum_by (room_at size) offs + 0) (offsets_push dev s.commands command)
    ∙ omega (arith, sum_by-append (room_at size) (offsets_on dev s.commands) (offset_on dev command), offset_room size dev command here)
rooms_with size dev command (s ∷ next ∷ later) session e here =
    omega (arith, rooms_with size dev command (next ∷ later) session e here)

-- a command's room is what it loses and its gap
pub room_is : (room : Option ℕ) (spoilt : ℕ) → lost_of room spoilt + total (gaps_of room spoilt) ≡ room_in room
unfolding room_in
room_is None spoilt = refl
room_is (Some room) spoilt = omega (arith, sum_by-cons (λ n. n) (room - spoilt) [])
