-- What contracts see of a turnstile and of its passes.
use Rattle.std.specs.Prelude.{◌≡◌, ℕ, zero, suc, List, [], ◌∷◌, length, slice_get, Option, Some}
use Rattle.atomic_table.specs.Seated.{TableId}
use Rattle.atomic_table.specs.Table.{Me}
use Rattle.turnstile.specs.declared.view.View.{View}
use Rattle.turnstile.specs.declared.view.Seen.{Seen}
use Rattle.turnstile.specs.History.{Appends, HasSeen}
use Rattle.turnstile.specs.Turns.{idle_view}
use Rattle.turnstile.specs.Seats.{pass_of}

-- a turnstile: its table, the tag of its value, and how many passes were made
pub record Lock (G : Type 0) : Type 0 where
  pub table : TableId
  pub tag : G
  pub passes : ℕ

-- a pass: the table that it is of, the tag, its number, and the history that it has seen
pub record Standing (G E : Type 0) : Type 0 where
  pub table : TableId
  pub tag : Option G
  pub number : ℕ
  pub seen : List E

module _ {G E : Type 0} where
  -- a pass of this turnstile
  pub record IsPassOf (lock : Lock G) (pass : Standing G E) : Type 0 where
    pub table : pass.table ≡ lock.table
    pub tag : pass.tag ≡ Some lock.tag

  -- passes of this turnstile
  abbrev pub AreOf : Lock G → List (Standing G E) → Type 0
  AreOf lock passes = (k : ℕ) (pass : Standing G E) → slice_get passes k ≡ Some pass → IsPassOf lock pass

  -- a pass of this turnstile that has seen nothing
  abbrev pub new_standing : Lock G → ℕ → Standing G E
  new_standing lock number = record { table = lock.table; tag = Some lock.tag; number = number; seen = [] }

  -- so many of them, from this number on
  abbrev pub new_standings : Lock G → ℕ → ℕ → List (Standing G E)
  new_standings lock from zero = []
  new_standings lock from (suc many) = new_standing lock from ∷ new_standings lock (suc from) many

  -- all passes of this turnstile, in order
  pub record AreAllPasses (lock : Lock G) (passes : List (Standing G E)) : Type 0 where
    pub all : length passes ≡ lock.passes
    pub each : (k : ℕ) (pass : Standing G E) → slice_get passes k ≡ Some pass
        → IsPassOf lock pass × (pass.number ≡ k)

  -- A turn of a pass. The act found a value with the tag, whose history begins with all that the
  -- pass had seen and names it nowhere after that. It worked on this value once, kept the tag, and
  -- added at most one entry, which names the pass. The pass has then seen the history that the act
  -- left.
  pub record TakesTurn {T A : Type 0} (tag_of : T → G) (history_of : T → List E) (names : G → E → ℕ)
      (does : A → T → A → T → Type 0) (lock : Lock G) (act act' : A) (pass pass' : Standing G E) : Type 0 where
    pub found : T
    pub left : T
    pub tagged : tag_of found ≡ lock.tag
    pub kept : tag_of left ≡ lock.tag
    pub saw : HasSeen (names lock.tag) (history_of found) pass.number pass.seen
    pub appended : Appends (names lock.tag) pass.number (history_of found) (history_of left)
    pub worked : does act found act' left
    pub sees : pass' ≡ record pass { seen = history_of left }

  -- what each pass has seen begins this history, which names that pass nowhere after it
  abbrev pub AllSaw : (names : G → E → ℕ) → Lock G → List E → List (Standing G E) → Type 0
  AllSaw names lock history passes = (k : ℕ) (pass : Standing G E) → slice_get passes k ≡ Some pass
      → HasSeen (names lock.tag) history pass.number pass.seen

  -- a pass as its seat knows it
  abbrev pub own : Standing G E → Seen E
  own pass = pass_of pass.number pass.seen

  -- the seat of a pass
  pub record IsSeatOf {T : Type 0} (pass : Standing G E) (m : Me T (View G E)) : Type 0 where
    pub tag : G
    pub tag_is : pass.tag ≡ Some tag
    pub me : m ≡ (idle_view tag (own pass ∷ []), [])
