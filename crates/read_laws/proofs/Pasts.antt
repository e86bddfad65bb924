-- What a page's past says of its cells, after each event of its chip.
use Rattle.std.proofs.Common.{◌≡◌, ℕ, ◌/◌, ◌%◌, ◌<◌, ◌≤◌, inl, inr, Bool, true, false, if◌then◌else◌, List, [], ◌∷◌, length, Option, Some, None, refl, ap, sym, ◌∙◌, subst, subst₂, arith}
use Rattle.std.specs.Prelude.{◌==◌, is_none, replicate}
use Rattle.std.proofs.lemmas.Bool.{cases_eq, eq-eqb, ne_eqb}
use Rattle.std.proofs.lemmas.List.{length-set, length-replicate}
use Rattle.code_model.specs.Word.{distance}
use Rattle.code_model.specs.Code.{word_bits}
use Rattle.code_model.proofs.DistanceLemmas.{distance-same}
use Rattle.nand_model.specs.Sizes.{code_of, step_count, raw_len}
use Rattle.nand_model.specs.Chip.{PageState, ChipState, FaultModel, ChipEvent, Complete, PowerCut, Flipped, ReadEvent, ProgramEvent, EraseEvent, ProgramCall, EraseCall, DoneBits, failure_of, counted, program_page, erase_block, happens, after_trace, with_page, blank_page, good_program, torn_program, torn_erase, flipped}
use Rattle.nand_model.specs.Quiet.{word_flips}
use Rattle.nand_model.specs.declared.geometry.Geometry.{Geometry}
use Rattle.nand_iface.proofs.FlashLemmas.{length-map_from}
use Rattle.run_model.specs.ReadBack.{PagePast, Erased, Programmed, Unknown, after_program, page_past_after, page_past}
use Rattle.run_laws.proofs.Traces.{geometry_happens}
use Rattle.read_laws.specs.Fresh.{IsFreshPage}
use Rattle.read_laws.proofs.Bits.{bit_of-erased}
use Rattle.read_laws.proofs.Words.{word_at, erased, step_word-places, word-ones, word-turned, word_flips-push, word-programmed}

-- a whole page whose words differ from an image in no more bits than were flipped
pub record IsClose (g : Geometry) (image : List ℕ) (page : PageState) : Type 0 where
  pub whole : length page.cells ≡ raw_len g
  pub near : (s : ℕ) → s < step_count g → distance (word_at g page.cells s) (word_at g image s) ≤ word_flips g page.flips s

-- what its past says of a page
abbrev pub KeepsPast : Geometry → PagePast → PageState → Type 0
KeepsPast g Erased page = IsClose g (erased g) page
KeepsPast g (Programmed image) page = IsClose g image page
KeepsPast g Unknown page = length page.cells ≡ raw_len g

whole_of : (g : Geometry) (past : PagePast) (page : PageState) → KeepsPast g past page → length page.cells ≡ raw_len g
whole_of g Erased page h = h.whole
whole_of g (Programmed image) page h = h.whole
whole_of g Unknown page h = h

-- words that are equal do not differ
equal-near : (g : Geometry) (xs ys : List ℕ) (n s : ℕ) → word_at g xs s ≡ word_at g ys s → distance (word_at g xs s) (word_at g ys s) ≤ n
equal-near g xs ys n s same =
    let none : distance (word_at g xs s) (word_at g ys s) ≡ 0 = ap (λ (ws : List ℕ). distance ws (word_at g ys s)) same ∙ distance-same (word_at g ys s) in
    omega arith

pub erased-word : (g : Geometry) (s : ℕ) → s < step_count g → word_at g (erased g) s ≡ replicate (word_bits (code_of g)) 1
erased-word g s below = word-ones g (erased g) s below (λ k inside place. bit_of-erased (raw_len g) k inside)

-- ---- pages
pub fresh_keeps : (g : Geometry) (page : PageState) → IsFreshPage g page → KeepsPast g Erased page
fresh_keeps g page fresh = record {
  whole = fresh.whole;
  near = λ s below. equal-near g page.cells (erased g) (word_flips g page.flips s) s
      (sym (step_word-places g page.cells s fresh.whole below) ∙ fresh.ones s below ∙ sym (erased-word g s below));
}

blank_keeps : (g : Geometry) → KeepsPast g Erased (blank_page g)
blank_keeps g = record {
  whole = length-replicate (raw_len g) 0xff;
  near = λ s below. equal-near g (erased g) (erased g) (word_flips g [] s) s refl;
}

flipped_close : (g : Geometry) (image : List ℕ) (page : PageState) (bit : ℕ) → IsClose g image page → IsClose g image (flipped page bit)
flipped_close g image page bit close = record {
  whole = length-set page.cells (bit / 8) _ ∙ close.whole;
  near = λ s below.
      let before = close.near s below in
      let turned = word-turned g page.cells image bit s in
      let counts = word_flips-push g page.flips bit s in
      omega arith;
}

flipped_keeps : (g : Geometry) (past : PagePast) (page : PageState) (bit : ℕ) → KeepsPast g past page → KeepsPast g past (flipped page bit)
flipped_keeps g Erased page bit h = flipped_close g (erased g) page bit h
flipped_keeps g (Programmed image) page bit h = flipped_close g image page bit h
flipped_keeps g Unknown page bit h = length-set page.cells (bit / 8) _ ∙ h

programmed_close : (g : Geometry) (image : List ℕ) (page : PageState) → IsClose g (erased g) page → IsClose g image (good_program page image)
programmed_close g image page close = record {
  whole = length-map_from _ page.cells 0 ∙ close.whole;
  near = λ s below.
      let before = close.near s below in
      let after = word-programmed g page.cells image s below in
      omega arith;
}

-- a program that was good, on a page with this past
good_keeps : (g : Geometry) (past : PagePast) (page : PageState) (image : List ℕ)
    → KeepsPast g past page → KeepsPast g (after_program past image true) (good_program page image)
good_keeps g Erased page image h = programmed_close g image page h
good_keeps g (Programmed old) page image h = length-map_from _ page.cells 0 ∙ h.whole
good_keeps g Unknown page image h = length-map_from _ page.cells 0 ∙ h

-- after one that was not, no past says more of a page than that it is whole
torn_keeps : (g : Geometry) (past : PagePast) (page : PageState) (image : List ℕ) (done : DoneBits)
    → KeepsPast g past page → KeepsPast g Unknown (torn_program page image done)
torn_keeps g past page image done h = length-map_from _ page.cells 0 ∙ whole_of g past page h

after_failure : (past : PagePast) (image : List ℕ) → after_program past image false ≡ Unknown
after_failure Erased image = refl
after_failure (Programmed old) image = refl
after_failure Unknown image = refl

-- ---- one page of a chip that changes
-- the page asked for is the one that changes, or stays
changed_if : (g : Geometry) (inside : Bool) (old new : PageState) (past after : PagePast) → KeepsPast g past old → KeepsPast g after new
    → KeepsPast g (if inside then after else past) (if inside then new else old)
changed_if g true old new past after stays changes = changes
changed_if g false old new past after stays changes = stays

changed_page : (g : Geometry) (pages : ℕ → PageState) (p page : ℕ) (new : PageState) (past after : PagePast)
    → KeepsPast g past (pages page) → (KeepsPast g past (pages p) → KeepsPast g after new)
    → KeepsPast g (if p == page then after else past) (with_page pages p new page)
changed_page g pages p page new past after stays changes = elim (cases_eq p page) [
  | inl same ↦
      (let here : KeepsPast g past (pages p) = subst (λ (q : ℕ). KeepsPast g past (pages q)) (sym same) stays in
      subst₂ (λ (a b : Bool). KeepsPast g (if a then after else past) (if b then new else pages page))
      (sym (eq-eqb p page same)) (sym (eq-eqb page p (sym same))) (changes here))
  | inr other ↦
      subst₂ (λ (a b : Bool). KeepsPast g (if a then after else past) (if b then new else pages page))
      (sym (ne_eqb p page other)) (sym (ne_eqb page p (λ e. other (sym e)))) stays
]

same_past : (b : Bool) (past : PagePast) → (if b then past else past) ≡ past
same_past true past = refl
same_past false past = refl

module _ {W : Type 0} (model : FaultModel W) where
  -- a program that was torn
  torn_program_keeps : (s : ChipState W) (p page : ℕ) (image : List ℕ) (past : PagePast) (done : DoneBits) → KeepsPast s.geometry past (s.pages page)
      → KeepsPast s.geometry (if p == page then Unknown else past) ((program_page model s p image (Some done)).pages page)
  torn_program_keeps s p page image past done h =
      changed_page s.geometry s.pages p page (torn_program (s.pages p) image done) past Unknown h (torn_keeps s.geometry past (s.pages p) image done)

  program_keeps : (s : ChipState W) (p page : ℕ) (image : List ℕ) (past : PagePast) (failure : Option DoneBits) → KeepsPast s.geometry past (s.pages page)
      → KeepsPast s.geometry (if p == page then after_program past image (is_none failure) else past)
      ((counted model failure (program_page model s p image failure)).pages page)
  program_keeps s p page image past None h =
      changed_page s.geometry s.pages p page (good_program (s.pages p) image) past (after_program past image true) h
      (good_keeps s.geometry past (s.pages p) image)
  program_keeps s p page image past (Some done) h =
      subst (λ (after : PagePast). KeepsPast s.geometry (if p == page then after else past) ((program_page model s p image (Some done)).pages page))
      (sym (after_failure past image)) (torn_program_keeps s p page image past done h)

  erase_keeps : (s : ChipState W) (block page : ℕ) (past : PagePast) (failure : Option DoneBits) → KeepsPast s.geometry past (s.pages page)
      → KeepsPast s.geometry (if page / s.geometry.pages_per_block == block then (if is_none failure then Erased else Unknown) else past)
      ((counted model failure (erase_block model s block failure)).pages page)
  erase_keeps s block page past None h =
      changed_if s.geometry (page / s.geometry.pages_per_block == block) (s.pages page) (blank_page s.geometry) past Erased h (blank_keeps s.geometry)
  erase_keeps s block page past (Some done) h =
      changed_if s.geometry (page / s.geometry.pages_per_block == block) (s.pages page)
      (torn_erase done (page % s.geometry.pages_per_block) (s.pages page)) past Unknown h
      (length-map_from _ (s.pages page).cells 0 ∙ whole_of s.geometry past (s.pages page) h)

  event_keeps : (s : ChipState W) (page : ℕ) (past : PagePast) (e : ChipEvent) → KeepsPast s.geometry past (s.pages page)
      → KeepsPast s.geometry (page_past_after model s page past e) ((happens model s e).pages page)
  event_keeps s page past (Complete (ReadEvent p)) h = h
  event_keeps s page past (Complete (ProgramEvent p image)) h = program_keeps s p page image past (failure_of model s (ProgramCall p)) h
  event_keeps s page past (Complete (EraseEvent block)) h = erase_keeps s block page past (failure_of model s (EraseCall block)) h
  event_keeps s page past (PowerCut (ReadEvent p) done) h = h
  event_keeps s page past (PowerCut (ProgramEvent p image) done) h = torn_program_keeps s p page image past done h
  event_keeps s page past (PowerCut (EraseEvent block) done) h = erase_keeps s block page past (Some done) h
  event_keeps s page past (Flipped p bit) h =
      subst (λ (now : PagePast). KeepsPast s.geometry now ((happens model s (Flipped p bit)).pages page)) (same_past (p == page) past)
      (changed_page s.geometry s.pages p page (flipped (s.pages p) bit) past past h (flipped_keeps s.geometry past (s.pages p) bit))

  pub trace_keeps : (s : ChipState W) (page : ℕ) (past : PagePast) (trace : List ChipEvent) → KeepsPast s.geometry past (s.pages page)
      → KeepsPast s.geometry (page_past model s page past trace) ((after_trace model s trace).pages page)
  trace_keeps s page past [] h = h
  trace_keeps s page past (e ∷ trace) h =
      let now = happens model s e in
      let later = page_past_after model s page past e in
      let same : now.geometry ≡ s.geometry = geometry_happens model s e in
      subst (λ (g : Geometry). KeepsPast g (page_past model now page later trace) ((after_trace model now trace).pages page)) same
      (trace_keeps now page later trace (subst (λ (g : Geometry). KeepsPast g later (now.pages page)) (sym same) (event_keeps s page past e h)))
