-- The laws of the crate, by the numbers of the bad blocks.
use Rattle.std.proofs.Common.{◌≡◌, ◌≤◌, ℕ, false, List, arith}
use Rattle.nand_model.specs.Path.{Over}
use Rattle.nand_model.specs.declared.geometry.Geometry.{Geometry}
use Rattle.nand_model.proofs.Bounds.{bounds}
use Rattle.chip_paths.specs.Writing.{Writing}
use Rattle.page_laws.specs.Keeping.{IsIn}
use Rattle.relocation_laws.specs.Agreement.{copies_on}
use Rattle.relocation_laws.specs.Laws.{IsNew, RestsWith, ShowsThese, WritingEnds, WritingGoesOn, WritingKeeps}
use Rattle.relocation_laws.specs.Shelves.{Shelf, TableLaws}
use Rattle.relocation_laws.specs.Tables.{IsTable, IsTableBlock, is_good_of}
use Rattle.relocation_laws.proofs.Agreeing.{AgreeOn, empty-agrees, newest-agrees}
use Rattle.relocation_laws.proofs.Going.{goes-along}
use Rattle.relocation_laws.proofs.NewChip.{are_bad}
use Rattle.relocation_laws.proofs.Tables.{table-laws}
use Rattle.std.proofs.Common.{inl, inr}
use Rattle.std.specs.Prelude.{⊤}

pub agree : (g : Geometry) (bad acked begun : List ℕ) (holds : Shelf) → RestsWith g bad acked begun holds → AgreeOn (copies_on g holds)
agree g bad acked begun holds (inl e) = empty-agrees g holds e.0
agree g bad acked begun holds (inr j) = newest-agrees g (is_good_of bad) (ShowsThese g bad acked begun) holds j

pub writing-goes-on : (g : Geometry) (bad acked begun : List ℕ) (w : Writing) (holds : Shelf) → w.erased ≡ false → WritingKeeps g bad acked begun w holds → WritingGoesOn g bad acked begun w holds
writing-goes-on g bad acked begun w holds erased keeps =
    goes-along g (IsTableBlock g (is_good_of bad)) (IsIn begun) (IsTable g) (ShowsThese g bad acked begun) (IsNew acked) laws (WritingEnds g bad acked begun) Over (λ v. ⊤) (λ v good u. tt)
    (λ fresh v h u k. k) w holds erased tt keeps
  where
    enough : 4 ≤ g.blocks
    enough = omega (arith, (bounds g).blocks_low)

    laws : TableLaws g (IsTableBlock g (is_good_of bad)) (IsIn begun) (IsTable g) (ShowsThese g bad acked begun)
    laws = table-laws g enough (is_good_of bad) (IsIn bad) (IsIn acked) (IsIn begun) (IsIn begun) (are_bad g bad).good (λ b i. i)
