-- Paths that keep account of the blocks that fail: whatever the answers to their events, what they
-- come to is so by the blocks that have failed then.
use Rattle.std.proofs.Common.{◌≡◌, ℕ, Bool, true, false, List, [], ◌∷◌, ◌++◌, Some, refl, sym, subst}
use Rattle.std.specs.Prelude.{⊤}
use Rattle.std.proofs.lemmas.Option.{none-some, same_Some}
use Rattle.nand_model.specs.Chip.{PageEvent, ReadEvent, ProgramEvent, EraseEvent}
use Rattle.nand_model.specs.Path.{Answer, Path, Over, Then, after_answers, first_event, is_good, result_of}
use Rattle.nand_model.specs.declared.geometry.Geometry.{Geometry}
use Rattle.chip_paths.specs.ChipRun.{name_of}
use Rattle.run_model.specs.Marking.{is_failure_at}

-- the blocks that have failed
abbrev pub Failing : Type 0
Failing = ℕ → Bool

-- at least these have failed
abbrev pub AreAmong : Failing → Failing → Type 0
AreAmong before now = (b : ℕ) → before b ≡ true → now b ≡ true

pub among_all : (x y z : Failing) → AreAmong x y → AreAmong y z → AreAmong x z
among_all x y z f h b e = h b (f b e)

-- where an erase or a program was not good, its block is among those that have failed
abbrev pub IsTold : Geometry → PageEvent → Answer → Failing → Type 0
IsTold g (ReadEvent page) answer failing = ⊤
IsTold g (ProgramEvent page image) answer failing =
    is_good answer ≡ false → (b : ℕ) → is_failure_at g b (name_of (ProgramEvent page image)) ≡ true → failing b ≡ true
IsTold g (EraseEvent block) answer failing =
    is_good answer ≡ false → (b : ℕ) → is_failure_at g b (name_of (EraseEvent block)) ≡ true → failing b ≡ true

module _ {A : Type 0} (g : Geometry) (Ends : A → Failing → Type 0) where
  abbrev pub Sound : Path A → Failing → Type 0
  Sound (Over a) failing = Ends a failing
  Sound (Then e rest) failing =
      (answer : Answer) (now : Failing) → AreAmong failing now → IsTold g e answer now → Sound (rest answer) now

  -- more blocks may fail
  pub sound_more : ((a : A) (x y : Failing) → AreAmong x y → Ends a x → Ends a y) → (path : Path A) (x y : Failing) → AreAmong x y → Sound path x → Sound path y
  sound_more more (Over a) x y among h = more a x y among h
  sound_more more (Then e rest) x y among h = λ answer now later told. h answer now (among_all x y now among later) told

  -- what a sound path comes to
  pub sound_result : (path : Path A) (a : A) (failing : Failing) → result_of path ≡ Some a → Sound path failing → Ends a failing
  sound_result (Over b) a failing e h = subst (λ x. Ends x failing) (same_Some b a e) h
  sound_result (Then e rest) a failing none h = absurd (none-some a none)

  -- and what is left of it after an event
  pub sound_event : (path : Path A) (e : PageEvent) (answer : Answer) (x y : Failing) → first_event path ≡ Some e → AreAmong x y → IsTold g e answer y → Sound path x
      → Sound (after_answers (answer ∷ []) path) y
  sound_event (Over a) e answer x y none among told h = absurd (none-some e none)
  sound_event (Then f rest) e answer x y is among told h = h answer y among (subst (λ z. IsTold g z answer y) (sym (same_Some f e is)) told)

  over_stays : (answers : List Answer) (a : A) → after_answers answers (Over a) ≡ Over a
  over_stays [] a = refl
  over_stays (answer ∷ answers) a = refl

  pub answers_joined : (first second : List Answer) (path : Path A) → after_answers (first ++ second) path ≡ after_answers second (after_answers first path)
  answers_joined [] second path = refl
  answers_joined (answer ∷ first) second (Over a) = sym (over_stays second a)
  answers_joined (answer ∷ first) second (Then e rest) = answers_joined first second (rest answer)
