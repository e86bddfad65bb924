-- What is kept of a device is the same with a command on another one.
use Rattle.std.proofs.Common.{◌≡◌, ℕ, ◌+◌, ◌-◌, ◌*◌, true, false, cond, eqb, List, [], ◌∷◌, ◌++◌, map, Some, refl, sym, ap, ◌∙◌, arith, append_assoc}
use Rattle.std.proofs.lemmas.List.{append-nil, map-append}
use Rattle.plan_grammar.specs.declared.lines.SessionLines.{SessionLines}
use Rattle.plan_grammar.specs.declared.lines.CommandLine.{CommandLine}
use Rattle.plan_grammar.specs.declared.lines.CommandLine.TheVariants.{FlashErase, NandWrite, NandDump, NandTest, MarkBad, IsBad, Stats}
use Rattle.plan_grammar.specs.Rules.{last_of, with_last}
use Rattle.plan_grammar.specs.Costs.{device_in, marks_one, marks_many, count_in}
use Rattle.plan_index.specs.declared.device.DeviceSize.{DeviceSize}
use Rattle.plan_index.specs.Boots.{with_command_line}
use Rattle.plan_costs.specs.Troubles.{offset_on, offsets_on}
use Rattle.plan_costs.specs.Room.{room_at, may_fail, gap_beside, earlier_gaps, last_gaps, without_last, positive, in_word, Troubles, AreTroubles}
use Rattle.plan_costs.proofs.Rests.{SameMarks, same_marks}
use Rattle.plan_costs.proofs.Gaps.{offsets_push, before_with}
use Rattle.plan_costs.proofs.Steps.{map_same}

fail_same : (size : DeviceSize) (dev : ℕ) (one other : List SessionLines) → SameMarks dev one other →
    may_fail size dev one ≡ may_fail size dev other
fail_same size dev one other same =
    ap (λ n. size.weak + n + count_in (marks_many dev) one * size.blocks) same.ones
    ∙ ap (λ n. size.weak + count_in (marks_one dev) other + n * size.blocks) same.many

fail_apart : (size : DeviceSize) (dev : ℕ) (command : CommandLine) (before sessions : List SessionLines) (session : SessionLines) →
    last_of sessions ≡ Some session → eqb (device_in command) dev ≡ false →
    may_fail size dev (before ++ with_last (with_command_line command) sessions) ≡ may_fail size dev (before ++ sessions)
fail_apart size dev command before sessions session e apart =
    fail_same size dev (before ++ with_last (with_command_line command) sessions) (before ++ sessions)
    (same_marks dev command before sessions session e apart)

offset_apart : (dev : ℕ) (command : CommandLine) → eqb (device_in command) dev ≡ false → offset_on dev command ≡ []
offset_apart dev (NandWrite d mark raw oob pad off name) e = ap (λ b. cond b (off ∷ []) []) e
offset_apart dev (FlashErase d no_scan start count) e = refl
offset_apart dev (NandDump d off len raw oob bad) e = refl
offset_apart dev (NandTest d keep mark seed passes off len) e = refl
offset_apart dev (MarkBad d block) e = refl
offset_apart dev (IsBad d block) e = refl
offset_apart dev (Stats d) e = refl

earlier_apart : (size : DeviceSize) (dev : ℕ) (command : CommandLine) (sessions before : List SessionLines) (session : SessionLines) →
    last_of sessions ≡ Some session → eqb (device_in command) dev ≡ false →
    earlier_gaps size dev before (with_last (with_command_line command) sessions) ≡ earlier_gaps size dev before sessions
earlier_apart size dev command [] before session e apart = refl
earlier_apart size dev command (s ∷ []) before session e apart = refl
earlier_apart size dev command (s ∷ next ∷ []) before session e apart =
    ap (λ gs. gs ++ [])
    (map_same (gap_beside size dev (before ++ with_last (with_command_line command) (next ∷ []))) (gap_beside size dev (before ++ next ∷ []))
    (λ off. ap (λ n. room_at size off - n) (fail_apart size dev command before (next ∷ []) session e apart)) (offsets_on dev s.commands))
earlier_apart size dev command (s ∷ next ∷ more ∷ later) before session e apart =
    ap (λ gs. gs ++ earlier_gaps size dev (before ++ s ∷ []) (with_last (with_command_line command) (next ∷ more ∷ later)))
    (map_same (gap_beside size dev (before ++ with_last (with_command_line command) (next ∷ more ∷ later))) (gap_beside size dev (before ++ next ∷ more ∷ later))
    (λ off. ap (λ n. room_at size off - n) (fail_apart size dev command before (next ∷ more ∷ later) session e apart)) (offsets_on dev s.commands))
    ∙ ap (λ gs. map (gap_beside size dev (before ++ next ∷ more ∷ later)) (offsets_on dev s.commands) ++ gs)
    (earlier_apart size dev command (next ∷ more ∷ later) (before ++ s ∷ []) session e apart)

last_apart : (size : DeviceSize) (dev : ℕ) (command : CommandLine) (sessions before : List SessionLines) →
    eqb (device_in command) dev ≡ false →
    last_gaps size dev before (with_last (with_command_line command) sessions) ≡ last_gaps size dev before sessions
last_apart size dev command [] before apart = refl
last_apart size dev command (s ∷ []) before apart =
    ap (map (gap_beside size dev before)) (offsets_push dev s.commands command
    ∙ ap (λ offs. offsets_on dev s.commands ++ offs) (offset_apart dev command apart) ∙ append-nil (offsets_on dev s.commands))
last_apart size dev command (s ∷ next ∷ []) before apart = last_apart size dev command (next ∷ []) (before ++ s ∷ []) apart
last_apart size dev command (s ∷ next ∷ more ∷ later) before apart =
    last_apart size dev command (next ∷ more ∷ later) (before ++ s ∷ []) apart

-- with a command on another device
pub are_apart : (size : DeviceSize) (dev : ℕ) (command : CommandLine) (sessions : List SessionLines) (session : SessionLines)
    (t : Troubles) → last_of sessions ≡ Some session → eqb (device_in command) dev ≡ false → AreTroubles size dev sessions t →
    AreTroubles size dev (with_last (with_command_line command) sessions) t
are_apart size dev command sessions session t e apart s = record {
  elsewhere = s.elsewhere ∙ ap (λ (ss : List SessionLines). in_word (may_fail size dev ss)) (sym (before_with (with_command_line command) sessions));
  everywhere = s.everywhere ∙ ap in_word (sym (fail_apart size dev command [] sessions session e apart));
  earlier = s.earlier ∙ ap positive (sym (earlier_apart size dev command sessions [] session e apart));
  here = s.here ∙ ap positive (sym (last_apart size dev command sessions [] apart));
}
