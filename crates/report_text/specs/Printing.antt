-- The pieces of the list of bad blocks.
use Rattle.std.specs.Prelude.{ℕ, Bool, true, false, ◌||◌, ◌==◌, if◌then◌else◌, List, [], ◌∷◌, ◌++◌, codes, decimal}

-- a comma after an earlier block
abbrev pub comma : Bool → List ℕ
comma true = 44 ∷ []
comma false = []

-- a block in the list of bad blocks, where an earlier one stands before it or not
abbrev pub entry_text : Bool → ℕ → ℕ → List ℕ
entry_text any block state =
    if state == 1 then comma any ++ decimal block ++ codes "w"
    else (if state == 3 then comma any ++ decimal block ++ codes "f" else [])

-- whether a bad block has come
abbrev pub any_after : Bool → ℕ → Bool
any_after any state = any || (state == 1 || state == 3)
