-- What is kept of a boot's commands on a device, command by command and session by session.
use Rattle.std.proofs.Common.{◌≡◌, ℕ, zero, suc, ◌+◌, ◌-◌, ◌*◌, ◌<◌, ◌≤◌, ◌^◌, eqb, true, cond, min, List, [], ◌∷◌, ◌++◌, map, length, Option, Some, None, refl, sym, ap, ◌∙◌, subst, arith, append_assoc, mul-add}
use Rattle.std.specs.List.{sum_by, count_by}
use Rattle.std.specs.Prelude.{IfSome}
use Rattle.std.proofs.lemmas.Bool.{lt-ltb, ne_eqb}
use Rattle.std.proofs.lemmas.List.{append-nil}
use Rattle.std.proofs.lemmas.List.Elements.{filter-append}
use Rattle.std.proofs.lemmas.List.Sums.{sum_by-cons, sum_by-append}
use Rattle.plan_grammar.specs.declared.lines.SessionLines.{SessionLines}
use Rattle.plan_grammar.specs.declared.lines.CommandLine.{CommandLine}
use Rattle.plan_grammar.specs.Rules.{last_of, with_last}
use Rattle.plan_grammar.specs.Devices.{Device}
use Rattle.plan_grammar.specs.Costs.{device_in, marks_one, marks_many, count_in}
use Rattle.plan_index.specs.declared.device.DeviceSize.{DeviceSize}
use Rattle.plan_index.specs.Devices.{size_of}
use Rattle.plan_index.specs.Boots.{with_command_line}
use Rattle.plan_costs.specs.Troubles.{offsets_on, troubles_cost}
use Rattle.plan_costs.specs.Room.{room_at, may_fail, gap_beside, earlier_gaps, last_gaps, without_last, positive, in_word, Troubles, AreTroubles, marks_of, room_of, lost_of, gaps_of, gaps_less, troubles_with, more_lost, troubles_behind, no_troubles}
use Rattle.plan_costs.proofs.Gaps.{earlier_with, last_with, before_with, fail_of}
use Rattle.plan_costs.proofs.Lost.{total, rooms, room_in, lost_are, rooms_with, room_is}

pub positive-append : (xs ys : List ℕ) → positive (xs ++ ys) ≡ positive xs ++ positive ys
positive-append xs ys = filter-append _ xs ys

-- a number that is not zero is kept
kept : (n : ℕ) (xs : List ℕ) → positive (suc n ∷ xs) ≡ suc n ∷ positive xs
kept n xs = ap (λ b. cond b (suc n ∷ positive xs) (positive xs)) (lt-ltb 0 (suc n) (omega arith))

-- a list may lose its zeros before its items are made less
positive_less : (marks : ℕ) (xs : List ℕ) → positive (map (λ gap. gap - marks) (positive xs)) ≡ positive (map (λ gap. gap - marks) xs)
positive_less marks [] = refl
positive_less marks (zero ∷ xs) =
    positive_less marks xs ∙ ap (λ n. positive (n ∷ map (λ gap. gap - marks) xs)) nothing
  where
    nothing : 0 ≡ 0 - marks
    nothing = omega arith
positive_less marks (suc n ∷ xs) =
    ap (λ gs. positive (map (λ gap. gap - marks) gs)) (kept n xs)
    ∙ positive-append ((suc n - marks) ∷ []) (map (λ gap. gap - marks) (positive xs))
    ∙ ap (λ gs. positive ((suc n - marks) ∷ []) ++ gs) (positive_less marks xs)
    ∙ sym (positive-append ((suc n - marks) ∷ []) (map (λ gap. gap - marks) xs))

less_none : (xs : List ℕ) → map (λ gap. gap - 0) xs ≡ xs
less_none [] = refl
less_none (x ∷ xs) = ap (λ n. n ∷ map (λ gap. gap - 0) xs) same ∙ ap (λ ns. x ∷ ns) (less_none xs)
  where
    same : x - 0 ≡ x
    same = omega arith

gaps_are : (marks : ℕ) (xs : List ℕ) → gaps_less marks (positive xs) ≡ positive (map (λ gap. gap - marks) xs)
gaps_are zero xs = ap positive (sym (less_none xs))
gaps_are (suc n) xs =
    ap (λ b. cond b (positive xs) (positive (map (λ gap. gap - suc n) (positive xs)))) (ne_eqb (suc n) 0 (λ e. omega (arith, e)))
    ∙ positive_less (suc n) xs

-- a sum of values that are zero at zero
sum_positive : (f : ℕ → ℕ) → f 0 ≡ 0 → (xs : List ℕ) → sum_by f (positive xs) ≡ sum_by f xs
sum_positive f none [] = refl
sum_positive f none (zero ∷ xs) = omega (arith, sum_positive f none xs, sum_by-cons f 0 xs, none)
sum_positive f none (suc n ∷ xs) =
    ap (sum_by f) (kept n xs) ∙ omega (arith, sum_positive f none xs, sum_by-cons f (suc n) xs, sum_by-cons f (suc n) (positive xs))

-- what is taken from numbers, and what is left of them
taken_and_left : (marks : ℕ) (xs : List ℕ) →
    sum_by (λ gap. min gap marks) xs + total (map (λ gap. gap - marks) xs) ≡ total xs
taken_and_left marks [] = refl
taken_and_left marks (x ∷ xs) =
    omega (
      arith,
      sum_by-cons (λ gap. min gap marks) x xs,
      sum_by-cons (λ n. n) (x - marks) (map (λ gap. gap - marks) xs),
      sum_by-cons (λ n. n) x xs,
      taken_and_left marks xs,
    )

-- a nandwrite's room is a number of 32 bits
abbrev pub FitsWord : Option ℕ → Type 0
FitsWord room = IfSome room (λ n. n < 2 ^ 32)

gaps_in_word : (room : Option ℕ) (spoilt : ℕ) → FitsWord room → gaps_of room (in_word spoilt) ≡ gaps_of room spoilt
gaps_in_word None spoilt fits = refl
gaps_in_word (Some room) spoilt fits = ap (λ n. n ∷ []) (same room spoilt fits)
  where
    same : (r s : ℕ) → r < 2 ^ 32 → r - min s (2 ^ 32 - 1) ≡ r - s
    same r s f = omega arith

lost_in_word : (room : Option ℕ) (spoilt : ℕ) → FitsWord room → lost_of room (in_word spoilt) ≡ lost_of room spoilt
lost_in_word None spoilt fits = refl
lost_in_word (Some room) spoilt fits = omega arith

word_twice : (a b : ℕ) → min (min a (2 ^ 32 - 1) + b) (2 ^ 32 - 1) ≡ min (a + b) (2 ^ 32 - 1)
word_twice a b = omega arith

-- with one more command on the device
pub are_with : (size : DeviceSize) (dev : ℕ) (command : CommandLine) (sessions : List SessionLines) (session : SessionLines)
    (t : Troubles) → last_of sessions ≡ Some session → eqb (device_in command) dev ≡ true → FitsWord (room_of size command) →
    AreTroubles size dev sessions t →
    AreTroubles size dev (with_last (with_command_line command) sessions) (troubles_with (marks_of size command) (room_of size command) t)
are_with size dev command sessions session t e here fits s =
    let marks : ℕ = marks_of size command in
    let spoilt : ℕ = may_fail size dev (without_last sessions) in
    record {
      elsewhere = s.elsewhere ∙ ap (λ (ss : List SessionLines). in_word (may_fail size dev ss)) (sym (before_with (with_command_line command) sessions));
      everywhere = ap (λ n. in_word (n + marks)) s.everywhere ∙ word_twice (may_fail size dev sessions) marks
          ∙ ap in_word (sym (fail_of size dev command sessions session e here));
      earlier = ap (gaps_less marks) s.earlier ∙ gaps_are marks (earlier_gaps size dev [] sessions)
          ∙ ap positive (sym (earlier_with size dev command sessions [] session e here));
      here = ap (λ gs. gs ++ positive (gaps_of (room_of size command) t.elsewhere)) s.here
          ∙ ap (λ n. positive (last_gaps size dev [] sessions) ++ positive (gaps_of (room_of size command) n)) s.elsewhere
          ∙ ap (λ gs. positive (last_gaps size dev [] sessions) ++ positive gs) (gaps_in_word (room_of size command) spoilt fits)
          ∙ sym (positive-append (last_gaps size dev [] sessions) (gaps_of (room_of size command) spoilt))
          ∙ ap positive (sym (last_with size dev command sessions [] session e here));
    }

-- the pages that may be lost cost so much more with one more command on the device
pub lost_grow : (device : Device) (dev : ℕ) (command : CommandLine) (sessions : List SessionLines) (session : SessionLines)
    (t : Troubles) → last_of sessions ≡ Some session → eqb (device_in command) dev ≡ true → FitsWord (room_of (size_of device) command) →
    AreTroubles (size_of device) dev sessions t →
    troubles_cost device dev [] (with_last (with_command_line command) sessions)
    ≡ troubles_cost device dev [] sessions
    + (device.chip.geometry.pages_per_block + 2) * more_lost (marks_of (size_of device) command) (room_of (size_of device) command) t
lost_grow device dev command sessions session t e here fits s =
    let size : DeviceSize = size_of device in
    let k : ℕ = device.chip.geometry.pages_per_block + 2 in
    let marks : ℕ = marks_of size command in
    let room : Option ℕ = room_of size command in
    let spoilt : ℕ = may_fail size dev (without_last sessions) in
    let earlier : List ℕ = earlier_gaps size dev [] sessions in
    let last : List ℕ = last_gaps size dev [] sessions in
    let changed : List SessionLines = with_last (with_command_line command) sessions in
    let taken : ℕ = sum_by (λ gap. min gap marks) earlier in
    let lost : ℕ = lost_of room spoilt in
    let more : more_lost marks room t ≡ taken + lost =
    ap (λ gs. sum_by (λ gap. min gap marks) gs + lost_of room t.elsewhere) s.earlier
    ∙ ap (λ n. n + lost_of room t.elsewhere) (sum_positive (λ gap. min gap marks) (omega arith) earlier)
    ∙ ap (λ n. taken + n) (ap (lost_of room) s.elsewhere ∙ lost_in_word room spoilt fits) in
    let new_earlier = ap total (earlier_with size dev command sessions [] session e here) in
    let new_last = ap total (last_with size dev command sessions [] session e here) ∙ sum_by-append (λ n. n) last (gaps_of room spoilt) in
    balance k (troubles_cost device dev [] sessions) (troubles_cost device dev [] changed) (total earlier) (total last)
    (total (earlier_gaps size dev [] changed)) (total (last_gaps size dev [] changed)) (rooms size dev sessions) (rooms size dev changed)
    taken lost (total (gaps_of room spoilt)) (room_in room) (more_lost marks room t)
    (lost_are device dev sessions []) (lost_are device dev changed [])
    (ap (λ n. taken + n) new_earlier ∙ taken_and_left marks earlier) new_last (rooms_with size dev command sessions session e here)
    (room_is room spoilt) more
  where
    balance : (k a b e l e' l' r r' taken lost gap room more : ℕ) → a + k * (e + l) ≡ k * r → b + k * (e' + l') ≡ k * r' →
        taken + e' ≡ e → l' ≡ l + gap → r' ≡ r + room → lost + gap ≡ room → more ≡ taken + lost → b ≡ a + k * more
    balance k a b e l e' l' r r' taken lost gap room more old new one two three four five =
        omega (
          arith,
          old ∙ ap (λ n. k * n) refl,
          new ∙ ap (λ n. k * n) three ∙ mul-add k r room,
          mul-add k e l,
          mul-add k e' l',
          ap (λ n. k * n) (sym one) ∙ mul-add k taken e',
          ap (λ n. k * n) two ∙ mul-add k l gap,
          ap (λ n. k * n) (sym four) ∙ mul-add k lost gap,
          ap (λ n. k * n) five ∙ mul-add k taken lost,
        )

-- a session without commands spoils nothing
fail_behind : (size : DeviceSize) (dev : ℕ) (sessions : List SessionLines) (session : SessionLines) → session.commands ≡ [] →
    may_fail size dev (sessions ++ session ∷ []) ≡ may_fail size dev sessions
fail_behind size dev sessions session none =
    let f : SessionLines → ℕ = λ s. count_by (marks_one dev) s.commands in
    let g : SessionLines → ℕ = λ s. count_by (marks_many dev) s.commands in
    let one : count_in (marks_one dev) (sessions ++ session ∷ []) ≡ count_in (marks_one dev) sessions =
    sum_by-append f sessions (session ∷ []) ∙ omega (arith, sum_by-cons f session [], ap (count_by (marks_one dev)) none) in
    let many : count_in (marks_many dev) (sessions ++ session ∷ []) ≡ count_in (marks_many dev) sessions =
    sum_by-append g sessions (session ∷ []) ∙ omega (arith, sum_by-cons g session [], ap (count_by (marks_many dev)) none) in
    ap (λ n. size.weak + n + count_in (marks_many dev) (sessions ++ session ∷ []) * size.blocks) one
    ∙ ap (λ n. size.weak + count_in (marks_one dev) sessions + n * size.blocks) many

pub map_same : (f g : ℕ → ℕ) → ((n : ℕ) → f n ≡ g n) → (xs : List ℕ) → map f xs ≡ map g xs
map_same f g same [] = refl
map_same f g same (x ∷ xs) = ap (λ y. y ∷ map f xs) (same x) ∙ ap (λ ys. g x ∷ ys) (map_same f g same xs)

-- with one more session the last one is an earlier one
earlier_behind : (size : DeviceSize) (dev : ℕ) (sessions before : List SessionLines) (session : SessionLines) → session.commands ≡ [] →
    earlier_gaps size dev before (sessions ++ session ∷ []) ≡ earlier_gaps size dev before sessions ++ last_gaps size dev before sessions
earlier_behind size dev [] before session none = refl
earlier_behind size dev (s ∷ []) before session none =
    append-nil (map (gap_beside size dev (before ++ session ∷ [])) (offsets_on dev s.commands))
    ∙ map_same (gap_beside size dev (before ++ session ∷ [])) (gap_beside size dev before)
    (λ off. ap (λ n. room_at size off - n) (fail_behind size dev before session none)) (offsets_on dev s.commands)
earlier_behind size dev (s ∷ next ∷ later) before session none =
    let others : List SessionLines = before ++ next ∷ later in
    let more : List SessionLines = before ++ ((next ∷ later) ++ session ∷ []) in
    let offs : List ℕ = offsets_on dev s.commands in
    let grown : may_fail size dev more ≡ may_fail size dev others =
    ap (may_fail size dev) (sym (append_assoc before (next ∷ later) (session ∷ []))) ∙ fail_behind size dev others session none in
    ap (λ gs. gs ++ earlier_gaps size dev (before ++ s ∷ []) ((next ∷ later) ++ session ∷ []))
    (map_same (gap_beside size dev more) (gap_beside size dev others) (λ off. ap (λ n. room_at size off - n) grown) offs)
    ∙ ap (λ gs. map (gap_beside size dev others) offs ++ gs) (earlier_behind size dev (next ∷ later) (before ++ s ∷ []) session none)
    ∙ sym (append_assoc (map (gap_beside size dev others) offs) (earlier_gaps size dev (before ++ s ∷ []) (next ∷ later))
    (last_gaps size dev (before ++ s ∷ []) (next ∷ later)))

last_behind : (size : DeviceSize) (dev : ℕ) (sessions before : List SessionLines) (session : SessionLines) → session.commands ≡ [] →
    last_gaps size dev before (sessions ++ session ∷ []) ≡ []
last_behind size dev [] before session none =
    ap (λ (cs : List CommandLine). map (gap_beside size dev before) (offsets_on dev cs)) none
last_behind size dev (s ∷ []) before session none = last_behind size dev [] (before ++ s ∷ []) session none
last_behind size dev (s ∷ next ∷ later) before session none = last_behind size dev (next ∷ later) (before ++ s ∷ []) session none

pub before_push : {A : Type 0} (xs : List A) (x : A) → without_last (xs ++ x ∷ []) ≡ xs
before_push [] x = refl
before_push (y ∷ []) x = refl
before_push (y ∷ z ∷ xs) x = ap (λ l. y ∷ l) (before_push (z ∷ xs) x)

-- with one more session
pub are_behind : (size : DeviceSize) (dev : ℕ) (sessions : List SessionLines) (session : SessionLines) (t : Troubles) →
    session.commands ≡ [] → AreTroubles size dev sessions t → AreTroubles size dev (sessions ++ session ∷ []) (troubles_behind t)
are_behind size dev sessions session t none s = record {
  elsewhere = s.everywhere ∙ ap (λ (ss : List SessionLines). in_word (may_fail size dev ss)) (sym (before_push sessions session));
  everywhere = s.everywhere ∙ ap in_word (sym (fail_behind size dev sessions session none));
  earlier = ap (λ gs. gs ++ t.here) s.earlier ∙ ap (λ gs. positive (earlier_gaps size dev [] sessions) ++ gs) s.here
      ∙ sym (positive-append (earlier_gaps size dev [] sessions) (last_gaps size dev [] sessions))
      ∙ ap positive (sym (earlier_behind size dev sessions [] session none));
  here = ap positive (sym (last_behind size dev sessions [] session none));
}

-- a session that is told twice to be an earlier one
pub behind_twice : (t : Troubles) → troubles_behind (troubles_behind t) ≡ troubles_behind t
behind_twice t =
    ap (λ (gs : List ℕ). made t.everywhere gs) (append-nil (t.earlier ++ t.here))
  where
    made : ℕ → List ℕ → Troubles
    made spoilt gs = record { elsewhere = spoilt; everywhere = spoilt; earlier = gs; here = [] }

-- before any session
pub are_none : (size : DeviceSize) (dev : ℕ) → AreTroubles size dev [] (no_troubles size)
are_none size dev = record {
  elsewhere = ap in_word (omega arith);
  everywhere = ap in_word (omega arith);
  earlier = refl;
  here = refl;
}

-- no marks take nothing
pub none_taken : (xs : List ℕ) → sum_by (λ gap. min gap 0) xs ≡ 0
none_taken [] = refl
none_taken (x ∷ xs) = omega (arith, sum_by-cons (λ gap. min gap 0) x xs, none_taken xs)
