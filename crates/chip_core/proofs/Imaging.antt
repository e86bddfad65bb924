-- The image of a written page.
use Rattle.std.proofs.Common.{◌≡◌, ℕ, ◌+◌, ◌≤◌, List, ◌++◌, length, take, drop, ap, sym, ◌∙◌, append-nil, arith}
use Rattle.std.specs.Prelude.{slice_range}
use Rattle.std.proofs.lemmas.List.{drop_all, take_all}
use Rattle.nand_model.specs.Page.{encoded, free_bytes, page_image, FillsPlaces}
use Rattle.nand_model.specs.Sizes.{parity_start}
use Rattle.nand_model.specs.declared.geometry.Geometry.{Geometry}

-- a list that was lent whole is what came back
pub refilled : (old new : List ℕ) → length new ≡ length old → take (length old) (new ++ drop (length new) old) ≡ new
refilled old new same =
    let within : length old ≤ length new = omega arith in
    let whole : length new ≤ length old = omega arith in
    ap (λ rest. take (length old) (new ++ rest)) (drop_all (length new) old within) ∙ ap (take (length old)) (append-nil new) ∙ take_all (length old) new whole

-- the code completes the page of a body and free bytes
pub encoded_is : (g : Geometry) (bytes body free : List ℕ) → FillsPlaces g body free → take (length body) bytes ≡ body
    → slice_range bytes (length body + 2) (length body + 2 + length free) ≡ free
    → encoded g bytes ≡ page_image g body free
encoded_is g bytes body free fills body_is free_is =
    let end : g.page + parity_start g ≡ length body + 2 + length free = let page = fills.body_length in let start = fills.free_length in omega arith in
    let head : take g.page bytes ≡ body = ap (λ n. take n bytes) (sym fills.body_length) ∙ body_is in
    let tail : free_bytes g bytes ≡ free =
    ap (λ e. slice_range bytes (g.page + 2) e) end ∙ ap (λ n. slice_range bytes (n + 2) (length body + 2 + length free)) (sym fills.body_length) ∙ free_is in
    ap (λ b. page_image g b (free_bytes g bytes)) head ∙ ap (page_image g body) tail
