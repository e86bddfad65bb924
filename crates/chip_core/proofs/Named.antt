-- An event by its name.
use Rattle.std.proofs.Common.{◌≡◌, ℕ, Bool, true, false, Option, Some, None, refl, ap, sym, subst}
use Rattle.std.specs.Prelude.{IsSome, IfSome, is_none, is_some, not, option_map}
use Rattle.std.proofs.lemmas.Bool.{false≢true, true≢false}
use Rattle.chip_paths.specs.ChipRun.{name_of}
use Rattle.nand_model.specs.Chip.{PageEvent, ReadEvent, ProgramEvent, EraseEvent}
use Rattle.nand_model.specs.declared.words.Event.TheVariants.{Read, Program, Erase}
use Rattle.bbt_flash.specs.Events.{image_of}

module _ (event : Option PageEvent) where
  pub named-read : (page : ℕ) → option_map name_of event ≡ Some (Read page) → event ≡ Some (ReadEvent page)
  named-read page named = on event named
    where
      on : (event : Option PageEvent) → option_map name_of event ≡ Some (Read page) → event ≡ Some (ReadEvent page)
      on None e = cc
      on (Some (ReadEvent p)) e = let same : p ≡ page = cc in ap (λ p. Some (ReadEvent p)) same
      on (Some (ProgramEvent p image)) e = cc
      on (Some (EraseEvent b)) e = cc

  pub named-program : (page : ℕ) → option_map name_of event ≡ Some (Program page) → event ≡ Some (ProgramEvent page (image_of event))
  named-program page named = on event named
    where
      on : (event : Option PageEvent) → option_map name_of event ≡ Some (Program page) → event ≡ Some (ProgramEvent page (image_of event))
      on None e = cc
      on (Some (ReadEvent p)) e = cc
      on (Some (ProgramEvent p image)) e = let same : p ≡ page = cc in ap (λ p. Some (ProgramEvent p image)) same
      on (Some (EraseEvent b)) e = cc

  pub named-erase : (block : ℕ) → option_map name_of event ≡ Some (Erase block) → event ≡ Some (EraseEvent block)
  named-erase block named = on event named
    where
      on : (event : Option PageEvent) → option_map name_of event ≡ Some (Erase block) → event ≡ Some (EraseEvent block)
      on None e = cc
      on (Some (ReadEvent p)) e = cc
      on (Some (ProgramEvent p image)) e = cc
      on (Some (EraseEvent b)) e = let same : b ≡ block = cc in ap (λ b. Some (EraseEvent b)) same

  pub unnamed : option_map name_of event ≡ None → event ≡ None
  unnamed named = on event named
    where
      on : (event : Option PageEvent) → option_map name_of event ≡ None → event ≡ None
      on None e = refl
      on (Some e) n = cc

-- an event is there where it has a name
pub is_named : (event : Option PageEvent) → is_some (option_map name_of event) ≡ true → IsSome event
is_named None named = absurd (false≢true named)
is_named (Some e) named = refl

pub is_unnamed : (event : Option PageEvent) → is_some (option_map name_of event) ≡ false → event ≡ None
is_unnamed None unnamed = refl
is_unnamed (Some e) unnamed = absurd (true≢false unnamed)

-- what holds of the next event holds where there is one
pub of_some : {A : Type 0} (P : A → Type 0) (o : Option A) (x : A) → o ≡ Some x → P x → IfSome o P
of_some P o x is holds = subst (λ o. IfSome o P) (sym is) holds

pub from_some : {A : Type 0} (P : A → Type 0) (Q : Type 0) (o : Option A) → IsSome o → IfSome o P → ((x : A) → P x → Q) → Q
from_some P Q None there holds all = absurd (false≢true there)
from_some P Q (Some x) there holds all = all x holds

-- nothing is told exactly where it is so
pub none-where : {A : Type 0} (o : Option A) (none : Bool) → is_some o ≡ not none → none ≡ is_none o
none-where None true e = refl
none-where None false e = cc
none-where (Some x) true e = cc
none-where (Some x) false e = refl
