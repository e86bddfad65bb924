-- Pages made of steps, and what is read of a written page with few bits off.
use Rattle.std.proofs.Common.{◌≡◌, ℕ, zero, suc, ◌+◌, ◌-◌, ◌*◌, ◌<◌, ◌≤◌, List, [], ◌∷◌, ◌++◌, length, take, drop, map, refl, sym, ap, ap₂, ◌∙◌, subst, arith, add-one, add-zero, append_assoc, max, cond}
use Rattle.std.specs.Prelude.{slice_range, All, unwrap_or, is_none}
use Rattle.std.specs.List.{flat_map}
use Rattle.std.proofs.lemmas.List.{length-append, length-take-le, take_at, take_all, take-append-le, drop-append-le}
use Rattle.std.proofs.Math.Seq.{take-add, drop-append-add}
use Rattle.nand_model.specs.Sizes.{numbers_from}
use Rattle.std.specs.List.{fold}
use Rattle.std.proofs.lemmas.List.Edits.{length-between, get_or-between}
use Rattle.std.proofs.lemmas.List.Elements.{All-get_or}
use Rattle.std.proofs.lemmas.List.Folds.{flat_map-map, fold-map}
use Rattle.nand_model.specs.Page.{StepRead, decoded, page_image, step_body, step_read, step_word, stored_parity}
use Rattle.nand_model.specs.Sizes.{parity_bytes, parity_start, raw_len, step_count}
use Rattle.nand_model.specs.declared.geometry.Geometry.{Geometry}
use Rattle.code_model.specs.Bits.{bits_of}
use Rattle.code_model.specs.Word.{distance}
use Rattle.ecc_page.specs.Steps.{parity_stored}
use Rattle.ecc_page.specs.Written.{bits_off, GivesBack, IsNearImage}
use Rattle.ecc_page.proofs.Parts.{slice-take}
use Rattle.ecc_page.proofs.PageLemmas.{page-steps, parities-room, parity-inside, strength}
use Rattle.ecc_page.proofs.StepLemmas.{AreBytes, length-parity_stored}
use Rattle.ecc_page.proofs.NearLemmas.{ReadsBack, reads_back}
use Rattle.ecc_page.proofs.Runs.{flat_map-numbers_more}

-- a part of the first of two lists
pub slice-before : (xs ys : List ℕ) (a b : ℕ) → a ≤ b → b ≤ length xs → slice_range (xs ++ ys) a b ≡ slice_range xs a b
slice-before xs ys a b low high =
    let room : b - a ≤ length (drop a xs) = omega (arith, Rattle.std.proofs.lemmas.List.length-drop a xs) in
    ap (take (b - a)) (drop-append-le a xs ys (omega arith)) ∙ take-append-le (b - a) (drop a xs) ys room

-- a part of the second
pub slice-behind : (xs ys : List ℕ) (p a b : ℕ) → length xs ≡ p → slice_range (xs ++ ys) (p + a) (p + b) ≡ slice_range ys a b
slice-behind xs ys p a b long =
    let e : (p + b) - (p + a) ≡ b - a = omega arith in
    ap₂ take e (ap (λ n. drop (n + a) (xs ++ ys)) (sym long) ∙ drop-append-add xs ys a)

-- the s-th of pieces of one length
pub slice-flat_map : (f : ℕ → List ℕ) (e first n s : ℕ) → ((k : ℕ) → k < first + n → length (f k) ≡ e) → s < n
    → slice_range (flat_map f (numbers_from first n)) (s * e) ((s + 1) * e) ≡ f (first + s)
slice-flat_map f e first zero s long below = absurd (omega arith)
slice-flat_map f e first (suc n) zero long below =
    let here : length (f first) ≡ e = long first (omega arith) in
    let place : first ≡ first + 0 = omega arith in
    let a : zero * e ≡ 0 = omega arith in
    let b : (zero + 1) * e ≡ e = omega arith in
    ap₂ (slice_range (f first ++ flat_map f (numbers_from (first + 1) n))) a b
    ∙ take_at (f first) (flat_map f (numbers_from (first + 1) n)) (e - 0) (omega arith) ∙ ap f place
slice-flat_map f e first (suc n) (suc s) long below =
    let here : length (f first) ≡ e = long first (omega arith) in
    let a : suc s * e ≡ e + s * e = omega arith in
    let b : (suc s + 1) * e ≡ e + (s + 1) * e = omega arith in
    let place : (first + 1) + s ≡ first + suc s = omega arith in
    ap₂ (slice_range (f first ++ flat_map f (numbers_from (first + 1) n))) a b
    ∙ slice-behind (f first) (flat_map f (numbers_from (first + 1) n)) e (s * e) ((s + 1) * e) here
    ∙ slice-flat_map f e (first + 1) n s (λ k h. long k (omega arith)) (omega arith) ∙ ap f place

-- the steps of a body make the body
pub flat_map-steps : (xs : List ℕ) (n : ℕ) → flat_map (λ s. slice_range xs (512 * s) (512 * (s + 1))) (numbers_from 0 n) ≡ take (512 * n) xs
flat_map-steps xs zero = refl
flat_map-steps xs (suc n) =
    let step = λ (s : ℕ). slice_range xs (512 * s) (512 * (s + 1)) in
    let e : 512 * suc n ≡ 512 * n + 512 = omega arith in
    let k : 512 * (n + 1) - 512 * n ≡ 512 = omega arith in
    ap (λ m. flat_map step (numbers_from 0 m)) (sym (add-one n)) ∙ flat_map-numbers_more step n
    ∙ ap₂ (λ a b. a ++ b) (flat_map-steps xs n) (ap (λ m. take m (drop (512 * n) xs)) k)
    ∙ sym (ap (λ m. take m xs) e ∙ take-add (512 * n) 512 xs)

-- functions that agree on the numbers fold them to the same
fold-numbers : (f h : ℕ → ℕ → ℕ) (a first n : ℕ) → ((m s : ℕ) → s < first + n → f m s ≡ h m s)
    → fold f a (numbers_from first n) ≡ fold h a (numbers_from first n)
fold-numbers f h a first zero same = refl
fold-numbers f h a first (suc n) same =
    ap (λ b. fold f b (numbers_from (first + 1) n)) (same a first (omega arith))
    ∙ fold-numbers f h (h a first) (first + 1) n (λ m s below. same m s (omega arith))

fold-nothing : (a first n : ℕ) → fold (λ (m s : ℕ). m) a (numbers_from first n) ≡ a
fold-nothing a first zero = refl
fold-nothing a first (suc n) = fold-nothing a (first + 1) n

flat_map-numbers : (f h : ℕ → List ℕ) (first n : ℕ) → ((s : ℕ) → s < first + n → f s ≡ h s)
    → flat_map f (numbers_from first n) ≡ flat_map h (numbers_from first n)
flat_map-numbers f h first zero same = refl
flat_map-numbers f h first (suc n) same =
    ap₂ (λ xs ys. xs ++ ys) (same first (omega arith)) (flat_map-numbers f h (first + 1) n (λ s below. same s (omega arith)))

-- a step of a page whose front is this body
body-front : (g : Geometry) (cells body : List ℕ) (s : ℕ) → take g.page cells ≡ body → s < step_count g → step_body g cells s ≡ step_body g body s
body-front g cells body s e below =
    let whole = page-steps g in
    sym (slice-take cells (512 * s) (512 * (s + 1)) g.page (omega arith) (omega arith)) ∙ ap (λ xs. step_body g xs s) e

-- a stored parity of a page that ends with parities of one length
parity-end : (g : Geometry) (front : List ℕ) (f : ℕ → List ℕ) (s : ℕ) → length front ≡ g.page + parity_start g
    → ((k : ℕ) → k < step_count g → length (f k) ≡ parity_bytes g) → s < step_count g
    → stored_parity g (front ++ flat_map f (numbers_from 0 (step_count g))) s ≡ f s
parity-end g front f s long lengths below =
    let e = parity_bytes g in
    let place : 0 + s ≡ s = omega arith in
    slice-behind front (flat_map f (numbers_from 0 (step_count g))) (g.page + parity_start g) (s * e) ((s + 1) * e) long
    ∙ slice-flat_map f e 0 (step_count g) s (λ k h. lengths k (omega arith)) below ∙ ap f place

step-long : (g : Geometry) (cells : List ℕ) (s : ℕ) → g.page ≤ length cells → s < step_count g → length (step_body g cells s) ≡ 512
step-long g cells s long below =
    let whole = page-steps g in
    let high : 512 * (s + 1) ≤ length cells = omega arith in
    let count : 512 * (s + 1) - 512 * s ≡ 512 = omega arith in
    length-between cells (512 * s) (512 * (s + 1)) high ∙ count

parity-long : (g : Geometry) (cells : List ℕ) (s : ℕ) → length cells ≡ raw_len g → s < step_count g → length (stored_parity g cells s) ≡ parity_bytes g
parity-long g cells s long below =
    let e = parity_bytes g in
    let p = g.page + parity_start g in
    let room = (parities-room g).1 in
    let inside = parity-inside g s below in
    let high : p + (s + 1) * e ≤ length cells = omega arith in
    let count : (p + (s + 1) * e) - (p + s * e) ≡ e = omega arith in
    length-between cells (p + s * e) (p + (s + 1) * e) high ∙ count

step-bytes : (g : Geometry) (body : List ℕ) (s : ℕ) → length body ≡ g.page → s < step_count g → All (λ byte. byte < 256) body → AreBytes (step_body g body s)
step-bytes g body s long below bytes k inside =
    let whole = page-steps g in
    let len = step-long g body s (omega arith) below in
    let place : 512 * s + k < 512 * (s + 1) = omega arith in
    let there : 512 * s + k < length body = omega arith in
    subst (λ (x : ℕ). x < 256) (sym (get_or-between body (512 * s) (512 * (s + 1)) k 0 place)) (All-get_or (λ byte. byte < 256) body (512 * s + k) 0 there bytes)

module _ (g : Geometry) (body free cells : List ℕ) (lb : length body ≡ g.page) (lf : 2 + length free ≡ parity_start g) (lc : length cells ≡ raw_len g)
    (bytes : All (λ byte. byte < 256) body) (near : IsNearImage g (page_image g body free) cells) where
  abbrev image : List ℕ
  image = page_image g body free

  abbrev stored_at : ℕ → List ℕ
  stored_at s = parity_stored g.t (step_body g body s)

  abbrev marks : List ℕ
  marks = 0xff ∷ 0xff ∷ []

  abbrev front : List ℕ
  front = (body ++ marks) ++ free

  abbrev all_stored : List ℕ
  all_stored = flat_map stored_at (numbers_from 0 (step_count g))

  front-long : length front ≡ g.page + parity_start g
  front-long = length-append (body ++ marks) free ∙ ap (λ n. n + length free) (length-append body marks) ∙ omega arith

  stored-long : (s : ℕ) → length (stored_at s) ≡ parity_bytes g
  stored-long s = length-parity_stored g.t (step_body g body s)

  image-body : take g.page image ≡ body
  image-body =
      ap (take g.page) (append_assoc (body ++ marks) free all_stored ∙ append_assoc body marks (free ++ all_stored))
      ∙ take_at body (marks ++ (free ++ all_stored)) g.page lb

  image-parity : (s : ℕ) → s < step_count g → stored_parity g image s ≡ stored_at s
  image-parity s below = parity-end g front stored_at s front-long (λ k h. stored-long k) below

  -- the word that was written for a step
  abbrev written_word : ℕ → List ℕ
  written_word s = bits_of (step_body g body s) ++ take (13 * g.t) (bits_of (stored_at s))

  image-word : (s : ℕ) → s < step_count g → step_word g image s ≡ written_word s
  image-word s below =
      ap₂ (λ xs ys. bits_of xs ++ take (13 * g.t) (bits_of ys)) (body-front g image body s image-body below) (image-parity s below)

  read_back : (s : ℕ) → s < step_count g → ReadsBack g.t (step_body g body s) (stored_parity g cells s) (bits_off g image cells s) (step_read g cells s)
  read_back s below =
      let word = step_word g cells s in
      let same = image-word s below in
      let close : distance word (written_word s) ≤ g.t = subst (λ (w : List ℕ). distance word w ≤ g.t) same (near s below) in
      let back = reads_back g.t (step_body g cells s) (stored_parity g cells s) (step_body g body s) (strength g).1
      (step-long g cells s (omega arith) below) (parity-long g cells s lc below) (step-long g body s (omega arith) below) (step-bytes g body s lb below bytes) close in
      subst (λ (d : ℕ). ReadsBack g.t (step_body g body s) (stored_parity g cells s) d (step_read g cells s)) (ap (distance word) (sym same)) back

  abbrev reads : List StepRead
  reads = map (step_read g cells) (numbers_from 0 (step_count g))

  -- the bodies that were read are the body that was written
  read-body : flat_map (λ (r : StepRead). r.body) reads ≡ body
  read-body =
      let whole = page-steps g in
      let all : length body ≤ 512 * step_count g = omega arith in
      flat_map-map (λ (r : StepRead). r.body) (step_read g cells) (numbers_from 0 (step_count g))
      ∙ flat_map-numbers (λ s. (step_read g cells s).body) (λ s. step_body g body s) 0 (step_count g) (λ s below. (read_back s (omega arith)).body)
      ∙ flat_map-steps body (step_count g) ∙ take_all (512 * step_count g) body all

  abbrev gap : List ℕ
  gap = slice_range cells g.page (g.page + parity_start g)

  abbrev read_parities : List ℕ
  read_parities = flat_map (λ (r : StepRead). r.parity) reads

  abbrev read_bodies : List ℕ
  read_bodies = flat_map (λ (r : StepRead). r.body) reads

  decoded-body : take g.page (decoded g cells).image ≡ body
  decoded-body =
      ap (take g.page) (append_assoc read_bodies gap read_parities) ∙ take_at read_bodies (gap ++ read_parities) g.page (ap length read-body ∙ lb) ∙ read-body

  decoded-parity : (s : ℕ) → s < step_count g → stored_parity g (decoded g cells).image s ≡ (step_read g cells s).parity
  decoded-parity s below =
      let room = (parities-room g).1 in
      let high : g.page + parity_start g ≤ length cells = omega arith in
      let count : (g.page + parity_start g) - g.page ≡ parity_start g = omega arith in
      let lgap : length gap ≡ parity_start g = length-between cells g.page (g.page + parity_start g) high ∙ count in
      let long : length (read_bodies ++ gap) ≡ g.page + parity_start g = length-append read_bodies gap ∙ ap₂ (λ m n. m + n) (ap length read-body ∙ lb) lgap in
      ap (λ xs. stored_parity g ((read_bodies ++ gap) ++ xs) s) (flat_map-map (λ (r : StepRead). r.parity) (step_read g cells) (numbers_from 0 (step_count g)))
      ∙ parity-end g (read_bodies ++ gap) (λ k. (step_read g cells k).parity) s long (λ k h. (read_back k h).long) below

  decoded-word : (s : ℕ) → s < step_count g → step_word g (decoded g cells).image s ≡ step_word g image s
  decoded-word s below =
      ap₂ (λ xs ys. bits_of xs ++ ys) (body-front g (decoded g cells).image body s decoded-body below)
      (ap (λ xs. take (13 * g.t) (bits_of xs)) (decoded-parity s below) ∙ (read_back s below).front)
      ∙ sym (image-word s below)

  -- a fold over the reads is a fold over the bits that were off
  reads-fold : (f : ℕ → StepRead → ℕ) (h : ℕ → ℕ → ℕ) → ((m s : ℕ) → s < step_count g → f m (step_read g cells s) ≡ h m s)
      → fold f 0 reads ≡ fold h 0 (numbers_from 0 (step_count g))
  reads-fold f h same =
      fold-map f (step_read g cells) 0 (numbers_from 0 (step_count g))
      ∙ fold-numbers (λ m s. f m (step_read g cells s)) h 0 0 (step_count g) (λ m s below. same m s (omega arith))

  pub gives_back : GivesBack g image cells
  gives_back =
      record {
        body = decoded-body ∙ sym image-body;
        words = decoded-word;
        corrected =
            reads-fold (λ n (r : StepRead). n + unwrap_or r.corrected 0) (λ n s. n + bits_off g image cells s)
            (λ m s below. ap (λ o. m + unwrap_or o 0) (read_back s below).corrected);
        greatest =
            reads-fold (λ n (r : StepRead). max n (unwrap_or r.corrected 0)) (λ n s. max n (bits_off g image cells s))
            (λ m s below. ap (λ o. max m (unwrap_or o 0)) (read_back s below).corrected);
        failed =
            reads-fold (λ n (r : StepRead). n + cond (is_none r.corrected) 1 0) (λ n s. n)
            (λ m s below. ap (λ o. m + cond (is_none o) 1 0) (read_back s below).corrected ∙ add-zero m)
            ∙ fold-nothing 0 0 (step_count g);
      }
