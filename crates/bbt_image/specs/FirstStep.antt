-- A page that has the first step of another page and is erased elsewhere, by which that step is
-- read alone.
use Rattle.std.specs.Prelude.{◌≡◌, ℕ, ◌<◌, List, replicate}
use Rattle.nand_model.specs.Page.{step_body, stored_parity}
use Rattle.nand_model.specs.Sizes.{parity_bytes, step_count}
use Rattle.nand_model.specs.declared.geometry.Geometry.{Geometry}

-- the page has the other's first step, and all its other steps are erased
pub record HasFirstStepAlone (g : Geometry) (image alone : List ℕ) : Type 0 where
  pub body : step_body g alone 0 ≡ step_body g image 0
  pub parity : stored_parity g alone 0 ≡ stored_parity g image 0
  pub erased_bodies : (s : ℕ) → 0 < s → s < step_count g
      → step_body g alone s ≡ replicate 512 0xff
  pub erased_parities : (s : ℕ) → 0 < s → s < step_count g
      → stored_parity g alone s ≡ replicate (parity_bytes g) 0xff
