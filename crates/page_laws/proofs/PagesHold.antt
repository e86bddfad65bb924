-- The laws of table pages, for every chip.
use Rattle.std.proofs.Common.{◌≡◌, ◌<◌, ◌≤◌, ℕ, ◌+◌, ◌-◌, Bool, true, false, ◌==◌, List, [], ◌∷◌, ◌++◌, length, take, refl, ap, ap₂, sym, ◌∙◌, subst, arith, Some, None, inl, inr, ◌⊎◌}
use Rattle.std.specs.Prelude.{slice_range, slice_index, replicate}
use Rattle.std.proofs.lemmas.List.{length-replicate, take-replicate, get_or-replicate}
use Rattle.std.proofs.lemmas.List.Elements.{All-replicate}
use Rattle.nand_model.specs.Sizes.{parity_start, raw_len}
use Rattle.nand_model.specs.Page.{decoded, marker_byte}
use Rattle.nand_model.specs.Chip.{PageState, blank_page, flipped}
use Rattle.nand_model.specs.Table.{copy_if, copy_under, copy_of_kind, which_of, table_page, read_again}
use Rattle.nand_model.specs.Quiet.{has_no_flip_in}
use Rattle.nand_model.proofs.Bounds.{bounds}
use Rattle.nand_model.specs.declared.geometry.Geometry.{Geometry}
use Rattle.nand_model.specs.declared.words.Which.{Which}
use Rattle.ecc_page.proofs.Parts.{slice-take}
use Rattle.ecc_page.proofs.PageLemmas.{parities-room}
use Rattle.page_laws.specs.Keeping.{after_flips, KeepsCopy, KeepsMarker, TablePage, IsImage, PageLaws}
use Rattle.page_laws.proofs.Closeness.{blank_flipped, near_by_flips, quiet_correctable, quiet_header, blank_byte}
use Rattle.page_laws.proofs.Images.{slice_four, image-marker, read-body, erased_image}
use Rattle.page_laws.proofs.Markers.{blank_marker, good_program_marker}
use Rattle.page_laws.proofs.TablePages.{sized, page_is, lb, lf, image_by, image_holds, image_kept, header_in_spare, header_in_body, body_by, spare_by}
use Rattle.ecc_page.specs.Written.{bits_off}

abbrev erased_body : Geometry → List ℕ
erased_body g = replicate g.page 0xff

abbrev erased_free : Geometry → List ℕ
erased_free g = replicate (parity_start g - 2) 0xff

four_erased : (n : ℕ) → n ≡ 4 → which_of (replicate n 0xff) ≡ None
four_erased n e = ap (λ k. which_of (replicate k 0xff)) e

nothing_named : (xs : List ℕ) → xs ≡ 0xff ∷ 0xff ∷ 0xff ∷ 0xff ∷ [] → which_of xs ≡ None
nothing_named xs e = ap which_of e

-- an erased page holds nothing, whatever few bits of it flipped
blank_keeps : (g : Geometry) (t : Bool) → (g.bbt == 1) ≡ t → KeepsCopy g (blank_page g) None
blank_keeps g true is_t bits quiet =
    let page = after_flips (blank_page g) bits in
    let close = blank_flipped g bits in
    let head = header_in_spare g is_t in
    let room = (sized g).spare_room in
    let z : g.page + 8 ≡ g.page + 8 + 0 = omega arith in
    let byte : (j : ℕ) → j < 5 → slice_index page.cells (g.page + 8 + j) ≡ 0xff =
    (λ j h. blank_byte g bits (g.page + 8) (g.page + 13) (g.page + 8 + j) (omega arith) (omega (arith, h)) (omega (arith, room)) (quiet_header g page is_t quiet)) in
    ap (λ t. copy_if t g page.cells) is_t
    ∙ ap (copy_under g page.cells) (ap (λ k. which_of (slice_range page.cells k (k + 4))) head
    ∙ ap which_of (slice_four (g.page + 8) page.cells (omega (arith, room, close.whole))
    ∙ ap₂ (λ p r. p ∷ r) (ap (slice_index page.cells) z ∙ byte 0 (omega arith)) (ap₂ (λ p r. p ∷ r) (byte 1 (omega arith)) (ap₂ (λ p r. p ∷ r) (byte 2 (omega arith)) (ap (λ p. p ∷ []) (byte 3 (omega arith)))))))
blank_keeps g false is_t bits quiet =
    let page = after_flips (blank_page g) bits in
    let close = blank_flipped g bits in
    let head = header_in_body g is_t in
    let fits = (sized g).fits in
    let same = erased_image g in
    let free_room = (parities-room g).0 in
    let long_free : length (erased_free g) ≡ parity_start g - 2 = length-replicate (parity_start g - 2) 0xff in
    let long : length (replicate (raw_len g) 0xff) ≡ raw_len g = length-replicate (raw_len g) 0xff in
    let near = near_by_flips g (replicate (raw_len g) 0xff) page long close (quiet_correctable g page quiet) in
    let read : take g.page (decoded g page.cells).image ≡ replicate g.page 0xff =
    read-body g (erased_body g) (erased_free g) (length-replicate g.page 0xff) (omega (arith, free_room, long_free)) (All-replicate (λ byte. byte < 256) g.page 0xff (omega arith)) page.cells close.whole
    (λ s below. subst (λ xs. bits_off g xs page.cells s ≤ g.t) (sym same) (near s below)) in
    ap (λ t. copy_if t g page.cells) is_t
    ∙ ap (copy_of_kind g (decoded g page.cells)) (ap (λ k. which_of (slice_range (decoded g page.cells).image k (k + 4))) head
    ∙ ap which_of (sym (slice-take (decoded g page.cells).image 0 4 g.page (omega arith) (omega (arith, fits))) ∙ ap (λ xs. slice_range xs 0 4) read ∙ take-replicate (4 - 0) g.page 0xff (omega (arith, fits))))

erased_marker : (g : Geometry) → slice_index (blank_page g).cells g.page ≡ 0xff
erased_marker g = let room = (sized g).spare_room in get_or-replicate (raw_len g) g.page 0xff 0 (omega (arith, room))

-- a marker stays through flips before others
after_more : (page : PageState) (first second : List ℕ) → after_flips (after_flips page first) second ≡ after_flips page (first ++ second)
after_more page [] second = refl
after_more page (bit ∷ first) second = after_more (flipped page bit) first second

keeps_flipped : (g : Geometry) (page : PageState) (good : Bool) (bits : List ℕ) → KeepsMarker g page good → KeepsMarker g (after_flips page bits) good
keeps_flipped g page good bits h more none =
    subst (λ p. (marker_byte g p.cells == 0xff) ≡ good) (sym (after_more page bits more))
    (h (bits ++ more) (subst (λ p. has_no_flip_in p g.page (g.page + 1) ≡ true) (after_more page bits more) none))

blank_holds : (g : Geometry) → TablePage g (blank_page g) true None
blank_holds g = record { copies = λ e. blank_keeps g (g.bbt == 1) refl; marker = blank_marker g (erased_marker g) }

module _ (g : Geometry) (which : Which) (version : ℕ) (states : List ℕ) (small : version < 256) (long : length states ≡ g.blocks) where
  image_is : table_page g which version states ≡ image_by g which version states small long (g.bbt == 1)
  image_is = page_is g which version states small long (g.bbt == 1) refl

  marked : slice_index (image_by g which version states small long (g.bbt == 1)) g.page ≡ 0xff
  marked =
      image-marker g (body_by (g.bbt == 1) g which version states) (slice_range (spare_by (g.bbt == 1) g which version) 2 (parity_start g))
      (lb g which version states small long (g.bbt == 1) refl) (lf g which version states small long (g.bbt == 1) refl)

  pub image_law : IsImage g (table_page g which version states) (Some (record { which = which; version = version; states = read_again states }))
  image_law =
      subst (λ xs. IsImage g xs (Some (record { which = which; version = version; states = read_again states }))) (sym image_is) (record {
        here = image_holds g which version states small long (g.bbt == 1) refl;
        marker = marked;
        written = λ before. record {
          copies = λ e after quiet. image_kept g which version states small long (g.bbt == 1) refl before after quiet;
          marker = good_program_marker g (after_flips (blank_page g) before) (image_by g which version states small long (g.bbt == 1)) marked
              (keeps_flipped g (blank_page g) true before (blank_marker g (erased_marker g)));
        };
      })

pages_sized : (g : Geometry) → 0 < g.pages_per_block
pages_sized g = on (bounds g).block
  where
    on : (g.pages_per_block ≡ 64) ⊎ (g.pages_per_block ≡ 128) → 0 < g.pages_per_block
    on (inl e) = omega (arith, e)
    on (inr e) = omega (arith, e)

-- the laws of table pages hold of every chip
pub page_laws : (g : Geometry) → PageLaws g
page_laws g = record { sized = pages_sized g; blank = blank_holds g; image = λ which version states small long. image_law g which version states small long }
