-- What is done with the copies that were found.
use Rattle.std.proofs.Common.{◌≡◌, ℕ, Bool, true, false, cond, List, [], Option, Some, None, option_map, refl, ap, sym, ◌∙◌}
use Rattle.std.specs.Prelude.{◌==◌, ◌||◌, not, slice_get}
use Rattle.nand_model.specs.Path.{Path}
use Rattle.nand_model.specs.Sizes.{numbers_from}
use Rattle.nand_model.specs.Table.{Copy, has_tables}
use Rattle.chip_paths.specs.Attach.{Attaching, marker_table, read_first_pages, rewrite_copies, use_copy, use_found}
use Rattle.chip_paths.specs.Copies.{choice_of, found_among, is_newer, places_for, used_copy, version_found}
use Rattle.chip_paths.specs.Writing.{Places}
use Rattle.nand_model.specs.declared.geometry.Geometry.{Geometry}
use Rattle.nand_model.specs.declared.words.Choice.{Choice}
use Rattle.nand_model.specs.declared.words.Choice.TheVariants.{Primary as UsePrimary, Mirror as UseMirror, Neither}
use Rattle.nand_model.specs.declared.words.Which.TheVariants.{Primary, Mirror}
use Rattle.bbt_flash.specs.Held.{copies_of, copy_at, held_copy, use_copies}
use Rattle.bbt_flash.specs.Step.{after_markers, scan_left}
use Rattle.bbt_flash.specs.declared.held.Held.{Held}
use Rattle.bbt_flash.proofs.Scanning.{blocks_from, scan-all}

module _ (g : Geometry) (places : Places) (choice : Choice) (primary mirror : Option (ℕ × Copy)) (chosen : choice ≡ choice_of (version_found primary) (version_found mirror)) where
  found-used : (used : Option (ℕ × Copy)) → used ≡ used_copy choice primary mirror → use_found g places primary mirror ≡ use_copy g places choice used
  found-used used e =
      ap (λ c. use_copy g places c (used_copy c primary mirror)) (sym chosen) ∙ ap (use_copy g places choice) (sym e)

  -- a copy is used
  pub with-copy : (block : ℕ) (copy : Copy) → Some (block, copy) ≡ used_copy choice primary mirror
      → use_found g places primary mirror ≡ rewrite_copies g places choice copy.version copy.states
  with-copy block copy e = found-used (Some (block, copy)) e

  -- no copy is used
  pub without-copy : None ≡ used_copy choice primary mirror → choice ≡ Neither
      → use_found g places primary mirror
      ≡ read_first_pages g (numbers_from 0 g.blocks) [] (λ pages. rewrite_copies g places Neither 1 (marker_table g pages))
  without-copy e neither = found-used None e ∙ ap (λ c. use_copy g places c None) neither

some-used : (test rewrite : Bool) (primary mirror : ℕ × Copy)
    → None ≡ used_copy (cond test (UsePrimary rewrite) (UseMirror true)) (Some primary) (Some mirror) → cond test (UsePrimary rewrite) (UseMirror true) ≡ Neither
some-used true rewrite primary mirror e = cc
some-used false rewrite primary mirror e = cc

-- no copy is used only where none was found
none-found : (primary mirror : Option (ℕ × Copy)) → None ≡ used_copy (choice_of (version_found primary) (version_found mirror)) primary mirror
    → choice_of (version_found primary) (version_found mirror) ≡ Neither
none-found None None e = refl
none-found (Some (block, copy)) None e = cc
none-found None (Some (block, copy)) e = cc
none-found (Some (block, copy)) (Some (other, second)) e =
    some-used (is_newer copy.version second.version || copy.version == second.version) (not (copy.version == second.version)) (block, copy) (other, second) e

pub chooses-neither : (choice : Choice) (primary mirror : Option (ℕ × Copy)) → choice ≡ choice_of (version_found primary) (version_found mirror)
    → None ≡ used_copy choice primary mirror → choice ≡ Neither
chooses-neither choice primary mirror chosen e =
    chosen ∙ none-found primary mirror (e ∙ ap (λ c. used_copy c primary mirror) chosen)

-- the copies that were found, by their places in the list, and what is done with them
module _ (g sizes : Geometry) (same : sizes ≡ g) (helds : List Held) (candidates : List ℕ) (first second : Option ℕ)
    (primary : copy_at helds first ≡ found_among (copies_of helds) Primary) (mirror : copy_at helds second ≡ found_among (copies_of helds) Mirror) (places : Places)
    (placed : places ≡ places_for sizes candidates (copy_at helds first) (copy_at helds second)) (choice : Choice)
    (chosen : choice ≡ choice_of (version_found (copy_at helds first)) (version_found (copy_at helds second))) where
  all_used : use_found g places (copy_at helds first) (copy_at helds second) ≡ use_copies g (copies_of helds) candidates
  all_used =
      ap (λ p. use_found g p (copy_at helds first) (copy_at helds second)) (placed ∙ ap (λ h. places_for h candidates (copy_at helds first) (copy_at helds second)) same)
      ∙ (λ i. use_found g (places_for g candidates (primary i) (mirror i)) (primary i) (mirror i))

  -- the copy that is used is written again
  pub decides-copy : (n : ℕ) (held : Held) → copy_at helds (Some n) ≡ used_copy choice (copy_at helds first) (copy_at helds second) → slice_get helds n ≡ Some held
      → rewrite_copies g places choice held.version held.table ≡ use_copies g (copies_of helds) candidates
  decides-copy n held used at =
      sym (with-copy g places choice (copy_at helds first) (copy_at helds second) chosen held.block
      (record { which = held.which; version = held.version; states = held.table }) (sym (ap (option_map held_copy) at) ∙ used))
      ∙ all_used

  -- or all markers are read
  pub decides-none : has_tables g ≡ true → None ≡ used_copy choice (copy_at helds first) (copy_at helds second)
      → scan_left (after_markers (has_tables g) g places) g [] (blocks_from g 0) ≡ use_copies g (copies_of helds) candidates
  decides-none tables used =
      ap (λ b. scan_left (after_markers b g places) g [] (blocks_from g 0)) tables
      ∙ sym (scan-all g (λ states. rewrite_copies g places Neither 1 states))
      ∙ sym (without-copy g places choice (copy_at helds first) (copy_at helds second) chosen used
      (chooses-neither choice (copy_at helds first) (copy_at helds second) chosen used))
      ∙ all_used
