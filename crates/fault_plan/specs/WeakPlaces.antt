-- Weak places of a chip.
use Rattle.std.specs.Prelude.{ℕ, Bool, true, ◌&&◌, not, List, [], ◌∷◌}
use Rattle.std.specs.List.{list_any}
use Rattle.nand_model.specs.Chip.{Call, ProgramCall, EraseCall, is_weak_at}
use Rattle.nand_model.specs.declared.words.Weak.{Weak}
use Rattle.nand_model.specs.declared.words.WeakKind.{WeakKind}
use Rattle.nand_model.specs.declared.words.WeakKind.TheVariants.{Program, Erase}

-- the call of this kind at this page or block
abbrev pub call_at : WeakKind → ℕ → Call
call_at Program page = ProgramCall page
call_at Erase block = EraseCall block

-- two weak places of one kind at one page or block
abbrev pub is_same_place : Weak → Weak → Bool
is_same_place a b = is_weak_at a (call_at b.kind b.at)

-- no two of these weak places are the same place
abbrev pub are_apart : List Weak → Bool
are_apart [] = true
are_apart (weak ∷ rest) = not (list_any (is_same_place weak) rest) && are_apart rest
