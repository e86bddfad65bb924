-- Histories, and what a pass has seen of one.
use Rattle.std.specs.Prelude.{◌≡◌, ◌≢◌, ◌⊎◌, ℕ, List, [], ◌∷◌, ◌++◌}

-- a history with at most one entry more, which names the pass
abbrev pub Appends : {E : Type 0} → (E → ℕ) → ℕ → List E → List E → Type 0
Appends {E} name number before after =
    (after ≡ before) ⊎ ((entry : E) × (after ≡ before ++ entry ∷ []) × (name entry ≡ number))

-- none of these entries names the pass
abbrev pub NamesNowhere : {E : Type 0} → (E → ℕ) → ℕ → List E → Type 0
NamesNowhere name number [] = Unit {0}
NamesNowhere name number (entry ∷ entries) = (name entry ≢ number) × NamesNowhere name number entries

-- the history begins with what the pass has seen, and names the pass nowhere after that
pub record HasSeen {E : Type 0} (name : E → ℕ) (history : List E) (number : ℕ) (seen : List E) : Type 0 where
  pub later : List E
  pub begins : history ≡ seen ++ later
  pub own : NamesNowhere name number later
