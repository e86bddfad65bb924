-- How many more pages the nandwrites of a boot on one device may come to lose, by the marks of
-- other sessions.
use Rattle.std.specs.Prelude.{◌≡◌, ℕ, ◌+◌, ◌-◌, ◌*◌, ◌/◌, ◌^◌, nat_lt, ◌==◌, if◌then◌else◌, min, List, [], ◌∷◌, ◌++◌, map, filter, sum_by, Option, Some, None}
use Rattle.command_model.specs.Command.{block_size}
use Rattle.plan_grammar.specs.declared.lines.SessionLines.{SessionLines}
use Rattle.plan_grammar.specs.declared.lines.CommandLine.{CommandLine}
use Rattle.plan_grammar.specs.declared.lines.CommandLine.TheVariants.{FlashErase, NandWrite, NandDump, NandTest, MarkBad, IsBad, Stats}
use Rattle.plan_grammar.specs.Costs.{marks_one, marks_many, count_in}
use Rattle.plan_index.specs.declared.device.DeviceSize.{DeviceSize}
use Rattle.plan_costs.specs.Troubles.{offsets_on}

-- the blocks to which a nandwrite at this offset comes
abbrev pub room_at : DeviceSize → ℕ → ℕ
room_at size off = size.blocks - off / block_size size.geometry

-- the weak pages of a device's chip, and the blocks of the device that these sessions may mark
abbrev pub may_fail : DeviceSize → ℕ → List SessionLines → ℕ
may_fail size dev sessions =
    size.weak + count_in (marks_one dev) sessions + count_in (marks_many dev) sessions * size.blocks

-- how many of the blocks to which a nandwrite comes none of these can spoil
abbrev pub gap_beside : DeviceSize → ℕ → List SessionLines → ℕ → ℕ
gap_beside size dev others off = room_at size off - may_fail size dev others

-- the gaps of the nandwrites of all sessions but the last, beside the others of the boot, of which
-- some stand before them
abbrev pub earlier_gaps : DeviceSize → ℕ → (before sessions : List SessionLines) → List ℕ
earlier_gaps size dev before [] = []
earlier_gaps size dev before (last ∷ []) = []
earlier_gaps size dev before (session ∷ next ∷ later) =
    map (gap_beside size dev (before ++ next ∷ later)) (offsets_on dev session.commands)
    ++ earlier_gaps size dev (before ++ session ∷ []) (next ∷ later)

-- the gaps of the nandwrites of the last session
abbrev pub last_gaps : DeviceSize → ℕ → (before sessions : List SessionLines) → List ℕ
last_gaps size dev before [] = []
last_gaps size dev before (last ∷ []) = map (gap_beside size dev before) (offsets_on dev last.commands)
last_gaps size dev before (session ∷ next ∷ later) = last_gaps size dev (before ++ session ∷ []) (next ∷ later)

-- all items but the last
abbrev pub without_last : {A : Type 0} → List A → List A
without_last [] = []
without_last (x ∷ []) = []
without_last (x ∷ y ∷ xs) = x ∷ without_last (y ∷ xs)

-- the numbers that are not zero
abbrev pub positive : List ℕ → List ℕ
positive numbers = filter (λ n. nat_lt 0 n) numbers

-- a number as 32 bits hold it
abbrev pub in_word : ℕ → ℕ
in_word n = min n (2 ^ 32 - 1)

-- a number as 64 bits hold it
abbrev pub in_long : ℕ → ℕ
in_long n = min n (2 ^ 64 - 1)

-- what is kept of a boot's commands on one device
pub record Troubles : Type 0 where
  pub elsewhere : ℕ
  pub everywhere : ℕ
  pub earlier : List ℕ
  pub here : List ℕ

-- it tells what the sessions may spoil, and the gaps that are left
pub record AreTroubles (size : DeviceSize) (dev : ℕ) (sessions : List SessionLines) (troubles : Troubles) :
    Type 0 where
  pub elsewhere : troubles.elsewhere ≡ in_word (may_fail size dev (without_last sessions))
  pub everywhere : troubles.everywhere ≡ in_word (may_fail size dev sessions)
  pub earlier : troubles.earlier ≡ positive (earlier_gaps size dev [] sessions)
  pub here : troubles.here ≡ positive (last_gaps size dev [] sessions)

-- how many blocks of its device a command may mark
abbrev pub marks_of : DeviceSize → CommandLine → ℕ
marks_of size (NandWrite dev mark raw oob pad off name) = if mark then size.blocks else 0
marks_of size (NandTest dev keep mark seed passes off len) = if mark then size.blocks else 0
marks_of size (MarkBad dev block) = 1
marks_of size _ = 0

-- the blocks to which a nandwrite comes
abbrev pub room_of : DeviceSize → CommandLine → Option ℕ
room_of size (NandWrite dev mark raw oob pad off name) = Some (room_at size off)
room_of size _ = None

-- the pages that a nandwrite of so many blocks may lose, and the gap that is left to it
abbrev pub lost_of : Option ℕ → ℕ → ℕ
lost_of None spoilt = 0
lost_of (Some room) spoilt = min room spoilt

-- its gap
abbrev pub gaps_of : Option ℕ → ℕ → List ℕ
gaps_of None spoilt = []
gaps_of (Some room) spoilt = (room - spoilt) ∷ []

-- gaps that so many marks make less, without those that are gone
abbrev pub gaps_less : ℕ → List ℕ → List ℕ
gaps_less marks gaps = if marks == 0 then gaps else positive (map (λ gap. gap - marks) gaps)

-- with one more command, which may mark so many blocks and is a nandwrite of so many blocks
abbrev pub troubles_with : ℕ → Option ℕ → Troubles → Troubles
troubles_with marks room t = record {
  elsewhere = t.elsewhere;
  everywhere = in_word (t.everywhere + marks);
  earlier = gaps_less marks t.earlier;
  here = t.here ++ positive (gaps_of room t.elsewhere);
}

-- how many more pages may be lost then
abbrev pub more_lost : ℕ → Option ℕ → Troubles → ℕ
more_lost marks room t = sum_by (λ gap. min gap marks) t.earlier + lost_of room t.elsewhere

-- with one more session
abbrev pub troubles_behind : Troubles → Troubles
troubles_behind t =
    record { elsewhere = t.everywhere; everywhere = t.everywhere; earlier = t.earlier ++ t.here; here = [] }

-- before any command
abbrev pub no_troubles : DeviceSize → Troubles
no_troubles size =
    record { elsewhere = in_word size.weak; everywhere = in_word size.weak; earlier = []; here = [] }
