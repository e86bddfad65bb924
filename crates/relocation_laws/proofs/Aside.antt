-- While a block is erased, another one holds a copy that is found.
use Rattle.std.proofs.Common.{◌≡◌, ◌≢◌, ◌⊎◌, ℕ, Bool, true, false, ◌==◌, List, ap, sym, ◌∙◌, Some, inl, inr, subst}
use Rattle.std.proofs.lemmas.Bool.{true≢false}
use Rattle.std.proofs.lemmas.Bool.Decides.{eqb_tells}
use Rattle.std.proofs.lemmas.Option.{none-some}
use Rattle.nand_model.specs.Table.{table_blocks, calls_bad}
use Rattle.chip_paths.specs.Copies.{found_among}
use Rattle.nand_model.specs.declared.geometry.Geometry.{Geometry}
use Rattle.relocation_laws.specs.Shelves.{Held, Shelf, Newest, IsAside}
use Rattle.relocation_laws.specs.Tables.{IsTable, IsTableBlock}
use Rattle.relocation_laws.specs.Agreement.{copy_as, listed}
use Rattle.relocation_laws.proofs.Seeing.{Alone, Two, found-newest, found-second}

module _ (g : Geometry) (is_good : ℕ → Bool) (Good : List ℕ → Type 0) (holds : Shelf) (j : Newest (IsTableBlock g is_good) (IsTable g) Good holds) where
  -- a copy that an attach would find, in another block
  pub record FoundBeside (b : ℕ) : Type 0 where
    pub block : ℕ
    pub copy : Held
    pub other : block ≢ b
    pub is_found : found_among (listed holds (table_blocks g)) copy.which ≡ Some (block, copy_as copy)

  second : (b d : ℕ) (c : Held) → d ≢ b → holds d ≡ Some c → calls_bad j.copy.table d ≡ false → j.place ≡ b → Alone g is_good Good holds j ⊎ Two g is_good Good holds j → FoundBeside b
  second b d c apart at free same (inl a) = absurd (true≢false (sym (a.rest d c at (λ e. apart (e ∙ same))) ∙ free))
  second b d c apart at free same (inr t) =
      record {
        block = t.m;
        copy = t.older;
        other = λ e. t.apart (e ∙ sym same);
        is_found = subst (λ k. found_among (listed holds (table_blocks g)) k ≡ Some (t.m, copy_as t.older)) (sym t.kind_is) t.found;
      }

  pub found-beside : (b : ℕ) → IsAside holds b → FoundBeside b
  found-beside b aside = on (eqb_tells j.place b)
    where
      by : j.place ≡ b → IsAside holds b → FoundBeside b
      by same (inl none) = absurd (none-some j.copy (sym none ∙ ap holds (sym same) ∙ j.at))
      by same (inr o) = second b o.block o.copy o.apart o.at (o.uncalled j.place j.copy j.at) same (found-second g is_good Good holds j)

      on : ((j.place == b) ≡ true) × (j.place ≡ b) ⊎ (((j.place == b) ≡ false) × (j.place ≢ b)) → FoundBeside b
      on (inl t) = by t.1 aside
      on (inr t) = record { block = j.place; copy = j.copy; other = t.1; is_found = found-newest g is_good Good holds j }
