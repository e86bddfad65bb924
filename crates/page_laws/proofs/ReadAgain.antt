-- A copy is read back from its page with few bits turned.
use Rattle.std.proofs.Common.{◌≡◌, ◌<◌, ◌≤◌, ℕ, ◌+◌, ◌*◌, Bool, true, false, ◌==◌, List, [], ◌∷◌, ◌++◌, refl, ap, sym, ◌∙◌, subst, arith, append_assoc, append-nil, inl, inr, ◌&&◌}
use Rattle.std.specs.Prelude.{slice_index, nat_le}
use Rattle.std.specs.List.{list_all}
use Rattle.std.proofs.lemmas.Bool.{false≢true, eqb-true, eq-eqb}
use Rattle.std.proofs.lemmas.Bool.Decides.{nat_tests}
use Rattle.code_model.proofs.DistanceLemmas.{distance-same}
use Rattle.nand_model.specs.Sizes.{step_count, numbers_from}
use Rattle.nand_model.specs.Chip.{PageState, flipped}
use Rattle.nand_model.specs.Flips.{flips_between, with_bits_turned}
use Rattle.nand_model.specs.Quiet.{has_no_flip_in, is_correctable, word_flips}
use Rattle.nand_model.specs.Table.{table_page, copy_in, pattern}
use Rattle.nand_model.specs.declared.geometry.Geometry.{Geometry}
use Rattle.run_model.specs.Laws.{CopiesReadBack}
use Rattle.read_laws.proofs.Words.{word_at}
use Rattle.read_laws.proofs.Pasts.{IsClose}
use Rattle.page_laws.specs.Keeping.{IsIn, after_flips}
use Rattle.page_laws.proofs.Closeness.{flips_close, near_by_flips, byte_of_header}
use Rattle.page_laws.proofs.Markers.{flips_elsewhere}
use Rattle.page_laws.proofs.Quiet.{numbers_small}
use Rattle.page_laws.proofs.TablePages.{page_is, image_by, copy_near, image_header, image_raw}

-- the page with these cells, of which no bit was turned yet
abbrev page_of : List ℕ → PageState
page_of cells = record { cells = cells; flips = []; torn = false; flipped_since = false }

turned_cells : (page : PageState) (bits : List ℕ) → (after_flips page bits).cells ≡ with_bits_turned page.cells bits
turned_cells page [] = refl
turned_cells page (bit ∷ bits) = turned_cells (flipped page bit) bits

turned_flips : (page : PageState) (bits : List ℕ) → (after_flips page bits).flips ≡ page.flips ++ bits
turned_flips page [] = sym (append-nil page.flips)
turned_flips page (bit ∷ bits) = turned_flips (flipped page bit) bits ∙ append_assoc page.flips (bit ∷ []) bits

all_by : (test : ℕ → Bool) (xs : List ℕ) → ((b : ℕ) → IsIn xs b → test b ≡ true) → list_all test xs ≡ true
all_by test [] h = refl
all_by test (x ∷ xs) h = both (test x) (list_all test xs) (h x (inl refl)) (all_by test xs (λ b i. h b (inr i)))
  where
    both : (s t : Bool) → s ≡ true → t ≡ true → (s && t) ≡ true
    both s t e f = ap (λ u. u && t) e ∙ f

le_is : (a b : ℕ) → a ≤ b → nat_le a b ≡ true
le_is a b h = grind (arith, nat_tests)

pub copies_read_back : (g : Geometry) → CopiesReadBack g
copies_read_back g which version states bits long small codes few header =
    ap (λ xs. copy_in g xs) (ap (λ xs. with_bits_turned xs bits) image_is ∙ sym (turned_cells (page_of image) bits))
    ∙ copy_near g which version states small long (g.bbt == 1) refl page.cells close.whole (near_by_flips g image page (image_raw g which version states small long (g.bbt == 1) refl) close correctable) (λ e j h. headed (g.bbt == 1) refl e j h)
  where
    image : List ℕ
    image = image_by g which version states small long (g.bbt == 1)

    image_is : table_page g which version states ≡ image
    image_is = page_is g which version states small long (g.bbt == 1) refl

    page : PageState
    page = after_flips (page_of image) bits

    close : IsClose g image page
    close = flips_close g image (page_of image) bits (record { whole = image_raw g which version states small long (g.bbt == 1) refl; near = λ s below. let none = distance-same (word_at g image s) in omega (arith, none) })

    correctable : is_correctable g page ≡ true
    correctable = all_by (λ s. nat_le (word_flips g page.flips s) g.t) (numbers_from 0 (step_count g))
        (λ s i. le_is (word_flips g page.flips s) g.t (subst (λ xs. word_flips g xs s ≤ g.t) (sym (turned_flips (page_of image) bits)) (few s (omega (arith, numbers_small 0 (step_count g) s i)))))

    headed : (t : Bool) → (g.bbt == 1) ≡ t → t ≡ true → (j : ℕ) → j < 5 → slice_index page.cells (g.page + 8 + j) ≡ slice_index (pattern which ++ (version ∷ [])) j
    headed false is e j h = absurd (false≢true e)
    headed true is e j h =
        let none : has_no_flip_in page (g.page + 8) (g.page + 13) ≡ true =
        eq-eqb (flips_between page.flips (8 * (g.page + 8)) (8 * (g.page + 13))) 0 (ap (λ xs. flips_between xs (8 * (g.page + 8)) (8 * (g.page + 13))) (turned_flips (page_of image) bits) ∙ header (eqb-true g.bbt 1 is)) in
        (flips_elsewhere (page_of image) bits (g.page + 8 + j) (byte_of_header page (g.page + 8) (g.page + 13) (g.page + 8 + j) (omega arith) (omega (arith, h)) none)).same
        ∙ subst (λ t. slice_index (image_by g which version states small long t) (g.page + 8 + j) ≡ slice_index (pattern which ++ (version ∷ [])) j) (sym is) (image_header g which version states small long is j h)
