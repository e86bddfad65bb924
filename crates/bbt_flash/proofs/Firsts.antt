-- The first item of a list that passes a test, and the blocks that are found so.
use Rattle.std.proofs.Common.{◌≡◌, ℕ, ◌<◌, Bool, true, false, cond, List, [], ◌∷◌, Option, Some, None, All, find, unwrap_or, sym, subst, arith}
use Rattle.std.specs.Prelude.{◌==◌, ◌&&◌, not, slice_index, IfSome}
use Rattle.std.proofs.lemmas.List.Elements.{All-head, All-tail}
use Rattle.nand_model.specs.Table.{Copy, table_blocks}
use Rattle.nand_model.proofs.Bounds.{bounds}
use Rattle.chip_paths.specs.Copies.{first_free, first_other, found_calls_bad, is_other}
use Rattle.chip_paths.specs.Writing.{next_place}
use Rattle.nand_model.specs.declared.geometry.Geometry.{Geometry}
use Rattle.bbt_flash.proofs.Sizes.{table_blocks-there}

-- what holds of each item holds of the one that is found
found-holds : {X : Type 0} (P : X → Type 0) (test : X → Bool) (xs : List X) → All P xs → IfSome (find test xs) P
found-holds P test [] all = tt
found-holds P test (x ∷ xs) all = on (found-holds P test xs (All-tail P x xs all)) (test x)
  where
    on : IfSome (find test xs) P → (b : Bool) → IfSome (cond b (Some x) (find test xs)) P
    on later true = All-head P x xs all
    on later false = later

found-some : {X : Type 0} (P : X → Type 0) (test : X → Bool) (xs : List X) (x : X) → Some x ≡ find test xs → All P xs → P x
found-some P test xs x e all = subst (λ o. IfSome o P) (sym e) (found-holds P test xs all)

unwrapped-holds : {X : Type 0} (P : X → Type 0) (o : Option X) (d : X) → IfSome o P → P d → P (unwrap_or o d)
unwrapped-holds P None d some here = here
unwrapped-holds P (Some x) d some here = some

module _ (g : Geometry) where
  abbrev IsThere : ℕ → Type 0
  IsThere block = block < g.blocks

  -- the block that takes the place of one that failed is there
  pub next_place-there : (table : List ℕ) (other block : ℕ) → Some block ≡ next_place g table other → block < g.blocks
  next_place-there table other block e =
      found-some IsThere (λ b. slice_index table b == 2 && not (b == other)) (table_blocks g) block e (table_blocks-there g)

  -- and so is the highest one that is not the other copy's
  pub first_other-there : (other : Option ℕ) (block : ℕ) → block ≡ unwrap_or (first_other other (table_blocks g)) 0 → block < g.blocks
  first_other-there other block e =
      let low = (bounds g).blocks_low in
      subst IsThere (sym e)
      (unwrapped-holds IsThere (first_other other (table_blocks g)) 0 (found-holds IsThere (is_other other) (table_blocks g) (table_blocks-there g)) (omega arith))

  -- and the highest one that is free, where all candidates are there
  pub first_free-there : (primary mirror : Option (ℕ × Copy)) (other : Option ℕ) (candidates : List ℕ) (block : ℕ)
      → Some block ≡ first_free primary mirror other candidates → All (λ b. b < g.blocks) candidates → block < g.blocks
  first_free-there primary mirror other candidates block e all =
      found-some IsThere (λ b. is_other other b && not (found_calls_bad primary b) && not (found_calls_bad mirror b)) candidates block e all
