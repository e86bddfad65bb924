-- A chip with tables keeps its copies through the boots of its life.
use Rattle.std.proofs.Common.{◌≡◌, ◌≢◌, ◌≤◌, ℕ, true, List, [], ◌∷◌, ◌++◌, map, None, refl}
use Rattle.std.proofs.lemmas.Bool.{false≢true}
use Rattle.std.proofs.lemmas.List.Elements.{All-head, All-tail}
use Rattle.nand_model.specs.Chip.{ChipState, FaultModel, sim_faults, new_chip, after_trace}
use Rattle.nand_model.specs.Partitions.{Partitions}
use Rattle.nand_model.specs.Quiet.{is_quiet}
use Rattle.nand_model.specs.declared.geometry.Geometry.{Geometry}
use Rattle.nand_model.specs.declared.words.Note.{Note}
use Rattle.nand_model.specs.declared.words.Weak.{Weak}
use Rattle.run_model.specs.History.{ChipBoot, IsChipLife, notes_of_chip, trace_of}
use Rattle.run_model.specs.Survival.{AllWritePages}
use Rattle.page_laws.specs.Keeping.{IsIn}
use Rattle.relocation_laws.specs.Tables.{IsTableBlock, Shows}
use Rattle.relocation_laws.proofs.Agreeing.{copies-agree, found-now, used-shows}
use Rattle.relocation_laws.proofs.Goes.{Setting}
use Rattle.relocation_laws.proofs.Lives.{Lives, lives-fewer}
use Rattle.relocation_laws.proofs.MarkerTables.{AreFactoryBad}
use Rattle.crash_laws.specs.Copies.{CopiesOutliveCuts, KeepsCopies, LifeKeepsCopies}
use Rattle.crash_laws.proofs.Boots.{Acked, Begun, boot_through}
use Rattle.crash_laws.proofs.Copies.{tables_of}
use Rattle.crash_laws.proofs.Histories.{own_notes}
use Rattle.crash_laws.proofs.Lives.{Fills, fill_boot}
use Rattle.crash_laws.proofs.Tabled.{with_tables}

module _ {W : Type 0} (model : FaultModel W) (g : Geometry) (c : Setting g) (enough : 4 ≤ g.blocks) (F : ℕ → Type 0) (factory : AreFactoryBad g c.is_good F)
    (one two : ℕ) (in_one : IsTableBlock g c.is_good one) (in_two : IsTableBlock g c.is_good two) (apart : one ≢ two) (partitions : Partitions) (k : ℕ) where
  abbrev LivesWith : List (List Note) → ChipState W → Type 0
  LivesWith notes s = Lives model g c enough F factory one two in_one in_two apart (Acked partitions k notes) (Begun g partitions k notes) s

  -- a chip that lives and is quiet keeps its copies
  keeps : (notes : List (List Note)) (s : ChipState W) → LivesWith notes s → is_quiet g s.pages ≡ true → KeepsCopies partitions k g s notes
  keeps notes s h quiet = record {
    agree = copies-agree g c enough (Shows g F (Acked partitions k notes) (Begun g partitions k notes)) ((b : ℕ) → Acked partitions k notes b → ⊥) s h quiet;
    marks = λ b small acked.
        let f = found-now g c enough (Shows g F (Acked partitions k notes) (Begun g partitions k notes)) ((b : ℕ) → Acked partitions k notes b → ⊥) None s h (λ none. none b acked) quiet in
        record {
          newest = f.newest;
          used = f.used;
          bad = used-shows g c enough (Shows g F (Acked partitions k notes) (Begun g partitions k notes)) ((b : ℕ) → Acked partitions k notes b → ⊥) s h (λ none. none b acked) quiet b (λ table s. s.acked b small acked) f.newest f.used;
        };
  }

  pub life_keeps : (past : List (List Note)) (s : ChipState W) (life : List ChipBoot) (notes : List (List Note)) → AllWritePages g life → IsChipLife model partitions k s life notes
      → LivesWith past s → LifeKeepsCopies model partitions k g s life (map (notes_of_chip partitions k) notes) past
  unfolding with_tables
  life_keeps past s [] [] fill h alive = tt
  life_keeps past s [] (n ∷ notes) fill h alive = absurd h
  life_keeps past s (b ∷ bs) [] fill h alive = absurd h
  life_keeps past s (b ∷ bs) (n ∷ notes) fill h alive = λ quiet fair.
      let after = boot_through model partitions k g F (with_tables model g c enough F factory one two in_one in_two apart partitions) past s b (notes_of_chip partitions k n) (notes_of_chip partitions k n) h.0
      (own_notes partitions k g (λ session. None) n (fill_boot model partitions k g s b (notes_of_chip partitions k n) h.0 (All-head (Fills g) b bs fill))) (λ d. refl) (λ d e. e) alive fair quiet in (
        (λ quiet_now. keeps (past ++ notes_of_chip partitions k n ∷ []) (after_trace model s (trace_of b)) after quiet_now),
        life_keeps (past ++ notes_of_chip partitions k n ∷ []) (after_trace model s (trace_of b)) bs notes (All-tail (Fills g) b bs fill) h.1 after,
      )

pub copies_outlive_cuts : (partitions : Partitions) (k : ℕ) (g : Geometry) (bad : List ℕ) (weak : List Weak) → CopiesOutliveCuts partitions k g bad weak
copies_outlive_cuts partitions k g bad weak tables few life notes fill h =
    let t = tables_of g bad weak tables few in
    life_keeps sim_faults g t.c t.enough (IsIn bad) t.factory t.one t.two t.in_one t.in_two t.apart partitions k [] (new_chip g bad weak) life notes fill h
    (lives-fewer sim_faults g t.c t.enough (IsIn bad) t.factory t.one t.two t.in_one t.in_two t.apart (λ b. ⊥) (λ b. ⊥) (Acked partitions k []) (Begun g partitions k []) (λ b a. false≢true a) (λ b x. absurd x) (new_chip g bad weak) t.alive)
