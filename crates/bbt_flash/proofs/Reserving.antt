-- The last blocks of a table are reserved, one after the other.
use Rattle.std.proofs.Common.{◌≡◌, ℕ, ◌+◌, ◌-◌, ◌<◌, ◌≤◌, List, [], ◌∷◌, ◌++◌, length, map, take, drop, set, get_or, refl, ap, sym, ◌∙◌, arith, append_assoc, append-nil}
use Rattle.std.proofs.lemmas.List.{map-append, length-append, length-map, length-take-le, length-set, drop_more, get_or_at, set_at, take-append-drop, drop_all}
use Rattle.std.proofs.lemmas.List.Edits.{between_none, between_more, length-between}
use Rattle.std.proofs.lemmas.List.Folds.{drop_split}
use Rattle.std.specs.List.{between}

module _ (f : ℕ → ℕ) (old : List ℕ) (n : ℕ) where
  -- the states from n up to another block are changed
  abbrev pub changed_to : ℕ → List ℕ
  changed_to block = take n old ++ (map f (between n block old) ++ drop block old)

  pub changed-none : changed_to n ≡ old
  changed-none = ap (λ (b : List ℕ). take n old ++ (map f b ++ drop n old)) (between_none old n) ∙ take-append-drop n old

  pub changed-all : (block : ℕ) → n ≤ block → block ≡ length old → changed_to block ≡ take n old ++ map f (drop n old)
  changed-all block low all =
      let none : drop block old ≡ [] = drop_all block old (omega arith) in
      let rest : between n block old ≡ drop n old =
      sym (append-nil (between n block old)) ∙ ap (λ r. between n block old ++ r) (sym none) ∙ sym (drop_split old n block low) in
      ap (λ r. take n old ++ (map f (between n block old) ++ r)) none
      ∙ ap (λ r. take n old ++ r) (append-nil (map f (between n block old)))
      ∙ ap (λ b. take n old ++ map f b) rest

  module _ (table : List ℕ) (block : ℕ) (low : n ≤ block) (within : block < length old) (so_far : table ≡ changed_to block) where
    front : List ℕ
    front = take n old ++ map f (between n block old)

    here : ℕ
    here = get_or old block 0

    rest : List ℕ
    rest = drop (block + 1) old

    front-length : length front ≡ block
    unfolding front
    front-length =
        let part = length-between old n block (omega arith) in
        let taken = length-take-le n old (omega arith) in
        let parts = length-append (take n old) (map f (between n block old)) in
        let same = length-map (between n block old) f in
        omega arith

    shape : table ≡ front ++ here ∷ rest
    unfolding front here rest
    shape =
        so_far ∙ sym (append_assoc (take n old) (map f (between n block old)) (drop block old))
        ∙ ap (λ r. (take n old ++ map f (between n block old)) ++ r) (drop_more old block 0 within)

    read : get_or table block 0 ≡ here
    read = ap (λ t. get_or t block 0) shape ∙ get_or_at front here rest 0 block front-length

    more : map f (between n (block + 1) old) ≡ map f (between n block old) ++ f here ∷ []
    unfolding here
    more = ap (map f) (between_more old n block 0 low within) ∙ map-append f (between n block old) (get_or old block 0 ∷ [])

    joined : front ++ f here ∷ rest ≡ changed_to (block + 1)
    unfolding front rest
    joined =
        append_assoc (take n old) (map f (between n block old)) (f here ∷ rest)
        ∙ ap (λ r. take n old ++ r) (sym (append_assoc (map f (between n block old)) (f here ∷ []) rest))
        ∙ ap (λ m. take n old ++ (m ++ rest)) (sym more)

    -- one more state is changed
    pub changed-more : set table block (f (get_or table block 0)) ≡ changed_to (block + 1)
    changed-more =
        ap (λ v. set table block (f v)) read ∙ ap (λ t. set t block (f here)) shape ∙ set_at front here rest (f here) block front-length ∙ joined

    pub changed-length : length table ≡ length old → length (set table block (f (get_or table block 0))) ≡ length old
    changed-length same = length-set table block (f (get_or table block 0)) ∙ same
