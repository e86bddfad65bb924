-- Pages and chips as they are before anything is programmed.
use Rattle.std.specs.Prelude.{◌≡◌, ℕ, ◌<◌, [], length, replicate}
use Rattle.code_model.specs.Code.{word_bits}
use Rattle.nand_model.specs.Page.{step_word}
use Rattle.nand_model.specs.Chip.{ChipState, PageState}
use Rattle.nand_model.specs.Sizes.{code_of, step_count, raw_len}
use Rattle.nand_model.specs.declared.geometry.Geometry.{Geometry}

-- each step's word has ones alone, and no bit was flipped; the bytes that belong to no word, as the
-- marker, may be anything
pub record IsFreshPage (g : Geometry) (page : PageState) : Type 0 where
  pub whole : length page.cells ≡ raw_len g
  pub ones : (s : ℕ) → s < step_count g → step_word g page.cells s ≡ replicate (word_bits (code_of g)) 1
  pub no_flips : page.flips ≡ []

-- all pages of the chip are fresh, as those of a new chip
abbrev pub IsFresh : {W : Type 0} → ChipState W → Type 0
IsFresh s = (page : ℕ) → IsFreshPage s.geometry (s.pages page)
