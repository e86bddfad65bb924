-- The gaps of nandwrites, command by command.
use Rattle.std.proofs.Common.{◌≡◌, ℕ, ◌+◌, ◌-◌, ◌*◌, Bool, true, false, cond, eqb, List, [], ◌∷◌, ◌++◌, map, Some, refl, sym, ap, ◌∙◌, arith, append_assoc, add-mul}
use Rattle.std.proofs.lemmas.List.{append-nil, map-append}
use Rattle.plan_grammar.specs.declared.lines.SessionLines.{SessionLines}
use Rattle.plan_grammar.specs.declared.lines.CommandLine.{CommandLine}
use Rattle.plan_grammar.specs.declared.lines.CommandLine.TheVariants.{FlashErase, NandWrite, NandDump, NandTest, MarkBad, IsBad, Stats}
use Rattle.plan_grammar.specs.Rules.{last_of, with_last}
use Rattle.plan_grammar.specs.Costs.{device_in, marks_one, marks_many, count_in}
use Rattle.plan_index.specs.declared.device.DeviceSize.{DeviceSize}
use Rattle.plan_index.specs.Boots.{with_command_line}
use Rattle.plan_costs.specs.Troubles.{offset_on, offsets_on}
use Rattle.plan_costs.specs.Room.{room_at, may_fail, gap_beside, earlier_gaps, last_gaps, without_last, marks_of, room_of, gaps_of}
use Rattle.plan_costs.proofs.Rests.{count_with}

-- what a command may mark is among the marks on its device
marks_are : (size : DeviceSize) (dev : ℕ) (command : CommandLine) → eqb (device_in command) dev ≡ true →
    cond (marks_one dev command) 1 0 + cond (marks_many dev command) 1 0 * size.blocks ≡ marks_of size command
marks_are size dev (FlashErase d no_scan start count) e = omega arith
marks_are size dev (NandWrite d true raw oob pad off name) e = ap (λ b. 0 + cond b 1 0 * size.blocks) e ∙ omega arith
marks_are size dev (NandWrite d false raw oob pad off name) e = omega arith
marks_are size dev (NandDump d off len raw oob bad) e = omega arith
marks_are size dev (NandTest d keep true seed passes off len) e = ap (λ b. 0 + cond b 1 0 * size.blocks) e ∙ omega arith
marks_are size dev (NandTest d keep false seed passes off len) e = omega arith
marks_are size dev (MarkBad d block) e = ap (λ b. cond b 1 0 + 0 * size.blocks) e ∙ omega arith
marks_are size dev (IsBad d block) e = omega arith
marks_are size dev (Stats d) e = omega arith

-- what sessions may spoil, with one more command on the device
fail_with : (size : DeviceSize) (dev : ℕ) (command : CommandLine) (before sessions : List SessionLines) (session : SessionLines) →
    last_of sessions ≡ Some session → eqb (device_in command) dev ≡ true →
    may_fail size dev (before ++ with_last (with_command_line command) sessions) ≡ may_fail size dev (before ++ sessions) + marks_of size command
fail_with size dev command before sessions session e here =
    let one = count_with (marks_one dev) command before sessions session e in
    let many = count_with (marks_many dev) command before sessions session e in
    ap (λ n. size.weak + n + count_in (marks_many dev) (before ++ with_last (with_command_line command) sessions) * size.blocks) one
    ∙ ap (λ n. size.weak + (count_in (marks_one dev) (before ++ sessions) + cond (marks_one dev command) 1 0) + n * size.blocks) many
    ∙ omega (
      arith,
      marks_are size dev command here,
      add-mul (count_in (marks_many dev) (before ++ sessions)) (cond (marks_many dev command) 1 0) size.blocks,
    )

-- lists whose items are as before less the marks
less_in : (f g : ℕ → ℕ) (marks : ℕ) → ((off : ℕ) → f off ≡ g off - marks) → (offs : List ℕ) →
    map f offs ≡ map (λ gap. gap - marks) (map g offs)
less_in f g marks same [] = refl
less_in f g marks same (off ∷ offs) = ap (λ n. n ∷ map f offs) (same off) ∙ ap (λ ns. (g off - marks) ∷ ns) (less_in f g marks same offs)

less_twice : (room spoilt more marks : ℕ) → more ≡ spoilt + marks → room - more ≡ (room - spoilt) - marks
less_twice room spoilt more marks e = omega (arith, e)

-- the gaps of the earlier sessions, with one more command on the device
pub earlier_with : (size : DeviceSize) (dev : ℕ) (command : CommandLine) (sessions before : List SessionLines) (session : SessionLines) →
    last_of sessions ≡ Some session → eqb (device_in command) dev ≡ true →
    earlier_gaps size dev before (with_last (with_command_line command) sessions)
    ≡ map (λ gap. gap - marks_of size command) (earlier_gaps size dev before sessions)
earlier_with size dev command [] before session e here = absurd (cc e)
earlier_with size dev command (s ∷ []) before session e here = refl
earlier_with size dev command (s ∷ next ∷ []) before session e here =
    let less : ℕ → ℕ = λ gap. gap - marks_of size command in
    let first = less_in (gap_beside size dev (before ++ with_last (with_command_line command) (next ∷ []))) (gap_beside size dev (before ++ next ∷ []))
    (marks_of size command) (λ off. less_twice (room_at size off) (may_fail size dev (before ++ next ∷ []))
    (may_fail size dev (before ++ with_last (with_command_line command) (next ∷ []))) (marks_of size command)
    (fail_with size dev command before (next ∷ []) session e here)) (offsets_on dev s.commands) in
    ap (λ gs. gs ++ []) first
    ∙ sym (map-append less (map (gap_beside size dev (before ++ next ∷ [])) (offsets_on dev s.commands)) [])
earlier_with size dev command (s ∷ next ∷ more ∷ later) before session e here =
    let less : ℕ → ℕ = λ gap. gap - marks_of size command in
    let first = less_in (gap_beside size dev (before ++ with_last (with_command_line command) (next ∷ more ∷ later))) (gap_beside size dev (before ++ next ∷ more ∷ later))
    (marks_of size command) (λ off. less_twice (room_at size off) (may_fail size dev (before ++ next ∷ more ∷ later))
    (may_fail size dev (before ++ with_last (with_command_line command) (next ∷ more ∷ later))) (marks_of size command)
    (fail_with size dev command before (next ∷ more ∷ later) session e here)) (offsets_on dev s.commands) in
    ap (λ gs. gs ++ earlier_gaps size dev (before ++ s ∷ []) (with_last (with_command_line command) (next ∷ more ∷ later))) first
    ∙ ap (λ gs. map less (map (gap_beside size dev (before ++ next ∷ more ∷ later)) (offsets_on dev s.commands)) ++ gs)
    (earlier_with size dev command (next ∷ more ∷ later) (before ++ s ∷ []) session e here)
    ∙ sym (map-append less (map (gap_beside size dev (before ++ next ∷ more ∷ later)) (offsets_on dev s.commands)) (earlier_gaps size dev (before ++ s ∷ []) (next ∷ more ∷ later)))

-- the offset of a nandwrite on the device
offset_is : (size : DeviceSize) (dev : ℕ) (command : CommandLine) (spoilt : ℕ) → eqb (device_in command) dev ≡ true →
    map (λ off. room_at size off - spoilt) (offset_on dev command) ≡ gaps_of (room_of size command) spoilt
offset_is size dev (NandWrite d mark raw oob pad off name) spoilt e =
    ap (λ b. map (λ o. room_at size o - spoilt) (cond b (off ∷ []) [])) e
offset_is size dev (FlashErase d no_scan start count) spoilt e = refl
offset_is size dev (NandDump d off len raw oob bad) spoilt e = refl
offset_is size dev (NandTest d keep mark seed passes off len) spoilt e = refl
offset_is size dev (MarkBad d block) spoilt e = refl
offset_is size dev (IsBad d block) spoilt e = refl
offset_is size dev (Stats d) spoilt e = refl

pub offsets_push : (dev : ℕ) (commands : List CommandLine) (command : CommandLine) →
    offsets_on dev (commands ++ command ∷ []) ≡ offsets_on dev commands ++ offset_on dev command
offsets_push dev [] command = append-nil (offset_on dev command)
offsets_push dev (c ∷ commands) command =
    ap (λ offs. offset_on dev c ++ offs) (offsets_push dev commands command)
    ∙ sym (append_assoc (offset_on dev c) (offsets_on dev commands) (offset_on dev command))

-- the gaps of the last session, with one more command on the device
pub last_with : (size : DeviceSize) (dev : ℕ) (command : CommandLine) (sessions before : List SessionLines) (session : SessionLines) →
    last_of sessions ≡ Some session → eqb (device_in command) dev ≡ true →
    last_gaps size dev before (with_last (with_command_line command) sessions)
    ≡ last_gaps size dev before sessions ++ gaps_of (room_of size command) (may_fail size dev (before ++ without_last sessions))
last_with size dev command [] before session e here = absurd (cc e)
last_with size dev command (s ∷ []) before session e here =
    ap (map (gap_beside size dev before)) (offsets_push dev s.commands command)
    ∙ map-append (gap_beside size dev before) (offsets_on dev s.commands) (offset_on dev command)
    ∙ ap (λ gs. map (gap_beside size dev before) (offsets_on dev s.commands) ++ gs)
    (offset_is size dev command (may_fail size dev before) here
    ∙ ap (λ (ss : List SessionLines). gaps_of (room_of size command) (may_fail size dev ss)) (sym (append-nil before)))
last_with size dev command (s ∷ next ∷ []) before session e here =
    last_with size dev command (next ∷ []) (before ++ s ∷ []) session e here
    ∙ ap (λ (ss : List SessionLines). last_gaps size dev (before ++ s ∷ []) (next ∷ []) ++ gaps_of (room_of size command) (may_fail size dev ss))
    (append_assoc before (s ∷ []) [])
last_with size dev command (s ∷ next ∷ more ∷ later) before session e here =
    last_with size dev command (next ∷ more ∷ later) (before ++ s ∷ []) session e here
    ∙ ap (λ (ss : List SessionLines). last_gaps size dev (before ++ s ∷ []) (next ∷ more ∷ later) ++ gaps_of (room_of size command) (may_fail size dev ss))
    (append_assoc before (s ∷ []) (without_last (next ∷ more ∷ later)))

-- the sessions before the last are the same with one more command
pub before_with : {A : Type 0} (change : A → A) (xs : List A) → without_last (with_last change xs) ≡ without_last xs
before_with change [] = refl
before_with change (x ∷ []) = refl
before_with change (x ∷ y ∷ []) = refl
before_with change (x ∷ y ∷ z ∷ xs) = ap (λ l. x ∷ l) (before_with change (y ∷ z ∷ xs))

-- what all sessions may spoil, with one more command
pub fail_of : (size : DeviceSize) (dev : ℕ) (command : CommandLine) (sessions : List SessionLines) (session : SessionLines) →
    last_of sessions ≡ Some session → eqb (device_in command) dev ≡ true →
    may_fail size dev (with_last (with_command_line command) sessions) ≡ may_fail size dev sessions + marks_of size command
fail_of size dev command sessions session e here = fail_with size dev command [] sessions session e here
