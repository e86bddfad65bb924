-- Pages that one program has filled.
use Rattle.std.proofs.Common.{◌≡◌, ◌≢◌, ℕ, zero, suc, ◌+◌, ◌*◌, ◌/◌, ◌<◌, ◌≤◌, ◌⊎◌, inl, inr, max, List, [], ◌∷◌, ◌++◌, length, take, refl, ap, ap₂, sym, ◌∙◌, subst, subst₂, arith, Bool, true, false, if◌then◌else◌}
use Rattle.std.specs.Prelude.{◌==◌, slice_set}
use Rattle.std.specs.List.{flat_map, list_any}
use Rattle.std.proofs.lemmas.List.{length-append, length-set, length-replicate, get_or-set_other}
use Rattle.std.proofs.lemmas.List.Sums.{sum-map}
use Rattle.std.proofs.lemmas.List.Folds.{fold-map}
use Rattle.code_model.specs.Word.{distance}
use Rattle.nand_model.specs.Sizes.{step_count, numbers_from, parity_bytes, raw_len, first_page}
use Rattle.nand_model.specs.Page.{decoded, step_body, page_image, FillsPage}
use Rattle.nand_model.specs.Chip.{ChipState, FaultModel, ChipEvent, PageState, after_trace, blank_page, new_page}
use Rattle.nand_model.specs.Quiet.{word_flips}
use Rattle.nand_model.specs.declared.geometry.Geometry.{Geometry}
use Rattle.run_model.specs.ReadBack.{PagePast, Erased, Programmed, page_past, wrong_bits, ReadsBack}
use Rattle.ecc_page.specs.Steps.{parity_stored}
use Rattle.ecc_page.specs.Written.{GivesBack, IsNearImage}
use Rattle.ecc_page.proofs.PageLemmas.{page-steps, parities-room}
use Rattle.ecc_page.proofs.Parts.{slice-take}
use Rattle.ecc_page.proofs.StepLemmas.{length-parity_stored}
use Rattle.ecc_page.proofs.WrittenLemmas.{gives_back}
use Rattle.read_laws.specs.Fresh.{IsFreshPage}
use Rattle.read_laws.specs.Laws.{WrongBitsWereFlipped, FilledPagesReadBack}
use Rattle.read_laws.proofs.Bits.{bit_of-byte, bit_of-erased}
use Rattle.read_laws.proofs.Words.{word_at, erased, step_word-places, word-ones}
use Rattle.read_laws.proofs.Pasts.{IsClose, KeepsPast, erased-word, fresh_keeps, trace_keeps}

-- ---- new pages
-- the byte of a marker stands in no word
marked-word : (g : Geometry) (s : ℕ) → s < step_count g → word_at g (slice_set (erased g) g.page 0) s ≡ word_at g (erased g) s
marked-word g s below =
    word-ones g (slice_set (erased g) g.page 0) s below (λ k inside place.
    let apart : k / 8 ≢ g.page = elsewhere k g.page place in
    bit_of-byte (slice_set (erased g) g.page 0) (erased g) k (get_or-set_other (erased g) g.page (k / 8) 0 0 apart) ∙ bit_of-erased (raw_len g) k inside)
    ∙ sym (erased-word g s below)
  where
    elsewhere : (k page : ℕ) → (k < 8 * page) ⊎ (8 * (page + 2) ≤ k) → k / 8 ≢ page
    elsewhere k page (inl low) e = omega arith
    elsewhere k page (inr high) e = omega arith

fresh_page : (g : Geometry) (cells : List ℕ) → length cells ≡ raw_len g → ((s : ℕ) → s < step_count g → word_at g cells s ≡ word_at g (erased g) s)
    → IsFreshPage g (record { cells = cells; flips = []; torn = false; flipped_since = false })
fresh_page g cells long same = record {
  whole = long;
  ones = λ s below. step_word-places g cells s long below ∙ same s below ∙ erased-word g s below;
  no_flips = refl;
}

pub new_fresh : (g : Geometry) (bad : List ℕ) (page : ℕ) → IsFreshPage g (new_page g bad page)
new_fresh g bad page = by_marker (list_any (λ b. first_page g b == page) bad)
  where
    marked_page : PageState
    marked_page = record { cells = slice_set (erased g) g.page 0; flips = []; torn = false; flipped_since = false }

    by_marker : (marked : Bool) → IsFreshPage g (if marked then marked_page else blank_page g)
    by_marker true = fresh_page g (slice_set (erased g) g.page 0) (length-set (erased g) g.page 0 ∙ length-replicate (raw_len g) 0xff) (marked-word g)
    by_marker false = fresh_page g (erased g) (length-replicate (raw_len g) 0xff) (λ s below. refl)

-- ---- written images
flat_map-long : (f : ℕ → List ℕ) (e first n : ℕ) → ((s : ℕ) → length (f s) ≡ e) → length (flat_map f (numbers_from first n)) ≡ n * e
flat_map-long f e first zero long = omega arith
flat_map-long f e first (suc n) long =
    let rest = flat_map-long f e (first + 1) n long in
    let all : suc n * e ≡ e + n * e = omega arith in
    length-append (f first) (flat_map f (numbers_from (first + 1) n)) ∙ ap₂ (λ a b. a + b) (long first) rest ∙ sym all

-- marker, free bytes and parities fill the spare
pub page_image-long : (g : Geometry) (body free : List ℕ) → FillsPage g body free → length (page_image g body free) ≡ raw_len g
page_image-long g body free fills =
    let stored = λ (s : ℕ). parity_stored g.t (step_body g body s) in
    let marks : List ℕ = 0xff ∷ 0xff ∷ [] in
    let parities = flat_map-long stored (parity_bytes g) 0 (step_count g) (λ s. length-parity_stored g.t (step_body g body s)) in
    let room = parities-room g in
    let lb = fills.places.body_length in
    let lf = fills.places.free_length in
    let all = length-append ((body ++ marks) ++ free) (flat_map stored (numbers_from 0 (step_count g))) in
    let front = length-append (body ++ marks) free in
    let head = length-append body marks in
    omega (arith, room.0, room.1)

-- ---- what is read
-- the steps of pages with one body
step_body-same : (g : Geometry) (xs ys : List ℕ) (s : ℕ) → take g.page xs ≡ take g.page ys → s < step_count g → step_body g xs s ≡ step_body g ys s
step_body-same g xs ys s same below =
    let whole = page-steps g in
    sym (slice-take xs (512 * s) (512 * (s + 1)) g.page (omega arith) (omega arith)) ∙ ap (λ (zs : List ℕ). step_body g zs s) same
    ∙ slice-take ys (512 * s) (512 * (s + 1)) g.page (omega arith) (omega arith)

from_decoding : (g : Geometry) (image cells : List ℕ) → GivesBack g image cells → ReadsBack g image cells
from_decoding g image cells back = record {
  bodies = λ s below. step_body-same g (decoded g cells).image image s back.body below;
  words = back.words;
  corrected = back.corrected ∙ sym (sum-map (wrong_bits g image cells) (numbers_from 0 (step_count g)));
  greatest = back.greatest ∙ sym (fold-map max (wrong_bits g image cells) 0 (numbers_from 0 (step_count g)));
  failed = back.failed;
}

module _ {W : Type 0} (model : FaultModel W) (s : ChipState W) where
  close : (trace : List ChipEvent) (page : ℕ) (image : List ℕ) → IsFreshPage s.geometry (s.pages page)
      → page_past model s page Erased trace ≡ Programmed image → IsClose s.geometry image ((after_trace model s trace).pages page)
  close trace page image fresh filled =
      subst (λ (past : PagePast). KeepsPast s.geometry past ((after_trace model s trace).pages page)) filled
      (trace_keeps model s page Erased trace (fresh_keeps s.geometry (s.pages page) fresh))

  pub few_wrong : WrongBitsWereFlipped model s
  few_wrong trace page image fresh long filled step below =
      let now : PageState = (after_trace model s trace).pages page in
      let c = close trace page image fresh filled in
      subst₂ (λ (xs ys : List ℕ). distance xs ys ≤ word_flips s.geometry now.flips step)
      (sym (step_word-places s.geometry now.cells step c.whole below)) (sym (step_word-places s.geometry image step long below)) (c.near step below)

  pub filled_reads : FilledPagesReadBack model s
  filled_reads trace page body free fresh fills filled few =
      let g = s.geometry in
      let image = page_image g body free in
      let now : PageState = (after_trace model s trace).pages page in
      let room = (parities-room g).0 in
      let lf = fills.places.free_length in
      let near : IsNearImage g image now.cells = (λ step below.
      let wrong = few_wrong trace page image fresh (page_image-long g body free fills) filled step below in
      let flips = few step below in
      omega arith) in
      from_decoding g image now.cells
      (gives_back g body free now.cells fills.places.body_length (omega arith) (close trace page image fresh filled).whole fills.body_bytes near)
