-- A copy has a state for each block.
use Rattle.std.proofs.Common.{◌≡◌, ℕ, ◌+◌, ◌-◌, ◌*◌, ◌/◌, ◌≤◌, Bool, true, false, cond, List, [], ◌∷◌, length, flat_map, Option, Some, None, refl, ap, sym, ◌∙◌, arith, inl, inr}
use Rattle.std.specs.Prelude.{◌==◌, slice_range}
use Rattle.std.proofs.lemmas.List.{length-map}
use Rattle.std.proofs.lemmas.List.Edits.{length-between}
use Rattle.nand_model.specs.Page.{Decoding, decoded}
use Rattle.nand_model.specs.Sizes.{raw_len}
use Rattle.nand_model.specs.Table.{Copy, copy_if, copy_in, copy_of_kind, copy_under, entries_of, header_at, kind_in, state_read, states_in, table_at}
use Rattle.nand_model.specs.declared.geometry.Geometry.{Geometry}
use Rattle.nand_model.specs.declared.words.Which.{Which}
use Rattle.nand_model.proofs.Bounds.{bounds}

entries-length : (bytes : List ℕ) → length (flat_map entries_of bytes) ≡ 4 * length bytes
entries-length [] = refl
entries-length (byte ∷ bytes) = let more = entries-length bytes in omega arith

states-length : (bytes : List ℕ) → length (states_in bytes) ≡ 4 * length bytes
states-length bytes = length-map (flat_map entries_of bytes) state_read ∙ entries-length bytes

module _ (g : Geometry) (cells : List ℕ) (copy : Copy) where
  abbrev states_of : Decoding → List ℕ
  states_of d = states_in (slice_range d.image (table_at g) (table_at g + g.blocks / 4))

  by-test : (test : Bool) (found : Copy) → cond test (Some found) None ≡ Some copy → copy.states ≡ found.states
  by-test true found e = let same : found ≡ copy = cc in sym (ap (λ (c : Copy). c.states) same)
  by-test false found e = cc

  by-kind : (d : Decoding) (kind : Option Which) → copy_of_kind g d kind ≡ Some copy → copy.states ≡ states_of d
  by-kind d None e = cc
  by-kind d (Some which) e = by-test (d.failed == 0) _ e

  under-kind : (kind : Option Which) → copy_under g cells kind ≡ Some copy → copy.states ≡ states_of (decoded g cells)
  under-kind None e = cc
  under-kind (Some which) e = by-kind (decoded g cells) (Some which) e

  by-place : (in_spare : Bool) → copy_if in_spare g cells ≡ Some copy → copy.states ≡ states_of (decoded g cells)
  by-place true e = under-kind (kind_in g cells) e
  by-place false e = by-kind (decoded g cells) (kind_in g (decoded g cells).image) e

  at-le : table_at g ≤ 5
  at-le = on (g.bbt == 1)
    where
      on : (test : Bool) → cond test 0 5 ≤ 5
      on true = omega arith
      on false = omega arith

  -- where the decoded page is whole
  pub copy-length : copy_in g cells ≡ Some copy → length (decoded g cells).image ≡ raw_len g → length copy.states ≡ g.blocks
  copy-length found whole =
      let b = bounds g in
      let high = b.blocks_high in
      let even = b.blocks_even in
      let low = at-le in
      let page : 2048 ≤ g.page = elim b.pages [ inl e ↦ omega (arith, e.0) | inr others ↦ elim others [ inl e ↦ omega (arith, e.0) | inr e ↦ omega (arith, e.0) ] ] in
      let end : table_at g + g.blocks / 4 ≤ length (decoded g cells).image = omega arith in
      let part = length-between (decoded g cells).image (table_at g) (table_at g + g.blocks / 4) end in
      let all = states-length (slice_range (decoded g cells).image (table_at g) (table_at g + g.blocks / 4)) in
      ap length (by-place (g.bbt == 1) found) ∙ omega arith
