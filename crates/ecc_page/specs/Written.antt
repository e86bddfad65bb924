-- Pages that were written and then had few bits turned over.
use Rattle.std.specs.Prelude.{◌≡◌, ℕ, ◌<◌, ◌≤◌, max, List, take, sum_by, fold}
use Rattle.code_model.specs.Word.{distance}
use Rattle.nand_model.specs.Page.{decoded, step_word}
use Rattle.nand_model.specs.Sizes.{step_count, numbers_from}
use Rattle.nand_model.specs.declared.geometry.Geometry.{Geometry}

-- the bits of a step's word that differ from those of an image
abbrev pub bits_off : Geometry → List ℕ → List ℕ → ℕ → ℕ
bits_off g image cells s = distance (step_word g cells s) (step_word g image s)

-- each step's word differs from the image's in at most t bits
abbrev pub IsNearImage : Geometry → List ℕ → List ℕ → Type 0
IsNearImage g image cells = (s : ℕ) → s < step_count g → bits_off g image cells s ≤ g.t

-- the decoding of the cells has the image's body and parity bits, and counts the bits that were off
pub record GivesBack (g : Geometry) (image cells : List ℕ) : Type 0 where
  pub body : take g.page (decoded g cells).image ≡ take g.page image
  pub words : (s : ℕ) → s < step_count g → step_word g (decoded g cells).image s ≡ step_word g image s
  pub corrected : (decoded g cells).corrected ≡ sum_by (bits_off g image cells) (numbers_from 0 (step_count g))
  pub greatest : (decoded g cells).greatest ≡ fold (λ n s. max n (bits_off g image cells s)) 0 (numbers_from 0 (step_count g))
  pub failed : (decoded g cells).failed ≡ 0
