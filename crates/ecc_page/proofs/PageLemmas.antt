-- The places in a page.
use Rattle.std.proofs.Common.{◌≡◌, ℕ, ◌+◌, ◌-◌, ◌*◌, ◌/◌, ◌<◌, ◌≤◌, ◌⊎◌, inl, inr, List, [], ◌∷◌, ◌++◌, length, take, drop, map, sym, ap, ap₂, ◌∙◌, arith, append_assoc}
use Rattle.std.specs.Prelude.{slice_range}
use Rattle.std.proofs.Math.Nat.{mul-le-mul_right}
use Rattle.std.proofs.lemmas.List.{drop-drop, length-drop, append-nil, take_rest}
use Rattle.std.specs.List.{flat_map}
use Rattle.std.proofs.Math.ListN.{set}
use Rattle.nand_model.specs.Page.{StepRead, step_body, stored_parity, step_read, decoded, encoded, free_bytes}
use Rattle.nand_model.specs.Sizes.{numbers_from, parity_bytes, parity_start, raw_len, step_count}
use Rattle.nand_model.specs.declared.geometry.Geometry.{Geometry}
use Rattle.nand_model.proofs.Bounds.{bounds}
use Rattle.ecc_page.specs.Steps.{parity_at, parity_stored, read_of, read_at, reads_of}
use Rattle.ecc_page.proofs.Parts.{slice-take, slice-drop, take-two_set}
use Rattle.ecc_page.proofs.Runs.{map-numbers}

whole_steps : (page spare : ℕ) → ((page ≡ 2048) × (spare ≡ 64)) ⊎ (((page ≡ 4096) × (spare ≡ 128)) ⊎ ((page ≡ 4096) × (spare ≡ 224)))
    → page ≡ 512 * (page / 512)
whole_steps page spare (inl e) = let p = e.0 in omega arith
whole_steps page spare (inr (inl e)) = let p = e.0 in omega arith
whole_steps page spare (inr (inr e)) = let p = e.0 in omega arith

few_steps : (page spare : ℕ) → ((page ≡ 2048) × (spare ≡ 64)) ⊎ (((page ≡ 4096) × (spare ≡ 128)) ⊎ ((page ≡ 4096) × (spare ≡ 224))) → page / 512 ≤ 8
few_steps page spare (inl e) = let p = e.0 in omega arith
few_steps page spare (inr (inl e)) = let p = e.0 in omega arith
few_steps page spare (inr (inr e)) = let p = e.0 in omega arith

-- a body is made of whole steps
pub page-steps : (g : Geometry) → g.page ≡ 512 * step_count g
page-steps g = whole_steps g.page g.spare (bounds g).pages

pub step_count-le : (g : Geometry) → step_count g ≤ 8
step_count-le g = few_steps g.page g.spare (bounds g).pages

-- the parities end the spare, behind the marker
pub parities-room : (g : Geometry) → (2 ≤ parity_start g) × (parity_start g + step_count g * parity_bytes g ≡ g.spare)
parities-room g = let room = (bounds g).room in (omega arith, omega arith)

pub strength : (g : Geometry) → (0 < g.t) × (g.t ≤ 16)
strength g = let low = (bounds g).t_low in let high = (bounds g).t_high in (omega arith, high)

pub parity_bytes-le : (g : Geometry) → parity_bytes g ≤ 26
parity_bytes-le g = let high = (bounds g).t_high in omega arith

-- a parity is within the parities
pub parity-inside : (g : Geometry) (s : ℕ) → s < step_count g → (s + 1) * parity_bytes g ≤ step_count g * parity_bytes g
parity-inside g s below = let h : s + 1 ≤ step_count g = omega arith in mul-le-mul_right (parity_bytes g) h

-- the steps of a page, read in the body beside the parities
pub read-page : (g : Geometry) (cells : List ℕ) (s : ℕ) → s < step_count g
    → step_read g cells s ≡ read_at g (take g.page cells) (drop (parity_start g) (drop g.page cells)) s
read-page g cells s below =
    let whole = page-steps g in
    let body : step_body g cells s ≡ step_body g (take g.page cells) s = sym (slice-take cells (512 * s) (512 * (s + 1)) g.page (omega arith) (omega arith)) in
    let parity : stored_parity g cells s ≡ parity_at g (drop (parity_start g) (drop g.page cells)) s =
    sym (ap (λ xs. parity_at g xs s) (drop-drop (parity_start g) g.page cells)
    ∙ slice-drop cells (s * parity_bytes g) ((s + 1) * parity_bytes g) (g.page + parity_start g)) in
    ap₂ (read_of g.t) body parity

pub reads-page : (g : Geometry) (cells : List ℕ)
    → map (step_read g cells) (numbers_from 0 (step_count g)) ≡ reads_of g (take g.page cells) (drop (parity_start g) (drop g.page cells))
reads-page g cells = map-numbers _ _ 0 (step_count g) (λ s below. read-page g cells s (omega arith))

-- a step that was not yet read stands as it stood
pub read-left : (g : Geometry) (body body' parities parities' : List ℕ) (s len : ℕ) → len ≡ parity_bytes g
    → drop (512 * s) body ≡ drop (512 * s) body' → drop (s * parity_bytes g) parities ≡ drop (s * parity_bytes g) parities'
    → read_of g.t (slice_range body (512 * s) (512 * (s + 1))) (slice_range parities (s * len) ((s + 1) * len)) ≡ read_at g body' parities' s
read-left g body body' parities parities' s len long eb ep =
    ap₂ (read_of g.t) (ap (take (512 * (s + 1) - 512 * s)) eb)
    (ap (λ n. slice_range parities (s * n) ((s + 1) * n)) long ∙ ap (take ((s + 1) * parity_bytes g - s * parity_bytes g)) ep)

-- the parts of an encoded page
pub encoded_parts : (g : Geometry) (cells body spare parities post : List ℕ) → length cells ≡ raw_len g → body ≡ take g.page cells → spare ≡ drop g.page cells
    → parities ≡ flat_map (λ s. parity_stored g.t (step_body g body s)) (numbers_from 0 (step_count g)) → post ≡ []
    → body ++ (take (parity_start g) (set (set spare 0 0xff) 1 0xff) ++ (parities ++ post)) ≡ encoded g cells
encoded_parts g cells body spare parities post long eb es ep none =
    let room = parities-room g in
    let front = take g.page cells in
    let rest = drop g.page cells in
    let stored = flat_map (λ s. parity_stored g.t (step_body g front s)) (numbers_from 0 (step_count g)) in
    let marks = 0xff ∷ 0xff ∷ [] in
    let free = free_bytes g cells in
    let lrest : 2 ≤ length rest = omega (arith, length-drop g.page cells) in
    let count : (g.page + parity_start g) - (g.page + 2) ≡ parity_start g - 2 = omega arith in
    let middle : take (parity_start g) (set (set rest 0 0xff) 1 0xff) ≡ marks ++ free =
    take-two_set rest 0xff 0xff (parity_start g) lrest room.0
    ∙ ap (λ xs. 0xff ∷ 0xff ∷ xs) (sym (ap₂ take count (sym (drop-drop 2 g.page cells)))) in
    let last : parities ++ post ≡ stored = ap (λ xs. parities ++ xs) none ∙ append-nil parities ∙ ep
    ∙ ap (λ xs. flat_map (λ s. parity_stored g.t (step_body g xs s)) (numbers_from 0 (step_count g))) eb in
    ap₂ (λ xs ys. xs ++ ys) eb (ap₂ (λ xs ys. xs ++ ys) (ap (λ xs. take (parity_start g) (set (set xs 0 0xff) 1 0xff)) es ∙ middle) last)
    ∙ sym (append_assoc (front ++ marks) free stored ∙ append_assoc front marks (free ++ stored))

-- the reads of all steps, out of the two parts of a page
pub decoded_reads : (g : Geometry) (cells front rest : List ℕ) (start : ℕ) → front ≡ take g.page cells → rest ≡ drop g.page cells → start ≡ parity_start g
    → reads_of g front (take (length rest - start) (drop start rest)) ≡ map (step_read g cells) (numbers_from 0 (step_count g))
decoded_reads g cells front rest start ef er es =
    ap₂ (reads_of g) ef (take_rest rest start ∙ ap₂ drop es er) ∙ sym (reads-page g cells)

-- the parts of a decoded page
pub decoded_parts : (g : Geometry) (cells rest body parities post : List ℕ) (start : ℕ) → rest ≡ drop g.page cells → start ≡ parity_start g
    → body ≡ flat_map (λ (r : StepRead). r.body) (map (step_read g cells) (numbers_from 0 (step_count g)))
    → parities ≡ flat_map (λ (r : StepRead). r.parity) (map (step_read g cells) (numbers_from 0 (step_count g)))
    → post ≡ []
    → body ++ (take start rest ++ (parities ++ post)) ≡ (decoded g cells).image
decoded_parts g cells rest body parities post start er es eb ep none =
    let reads = map (step_read g cells) (numbers_from 0 (step_count g)) in
    let bodies = flat_map (λ (r : StepRead). r.body) reads in
    let stored = flat_map (λ (r : StepRead). r.parity) reads in
    let gap = slice_range cells g.page (g.page + parity_start g) in
    let count : parity_start g ≡ (g.page + parity_start g) - g.page = omega arith in
    ap₂ (λ xs ys. xs ++ ys) eb (ap₂ (λ xs ys. xs ++ ys) (ap₂ take (es ∙ count) er) (ap (λ ys. parities ++ ys) none ∙ append-nil parities ∙ ep))
    ∙ sym (append_assoc bodies gap stored)
