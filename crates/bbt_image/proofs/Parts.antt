-- Parts of a page that was written over in one place.
use Rattle.std.proofs.Common.{◌≡◌, ℕ, ◌+◌, ◌-◌, ◌≤◌, List, ◌++◌, length, take, drop, replicate, sym, ap, ap₂, ◌∙◌, arith, append_assoc}
use Rattle.std.specs.Prelude.{slice_range}
use Rattle.std.proofs.lemmas.List.{length-append, length-take-le, length-drop, take_at, drop_at, take-take, take-append-le, drop-drop, take-replicate, drop-replicate}
use Rattle.std.proofs.lemmas.List.Edits.{length-between}
use Rattle.std.proofs.lemmas.Slice.{between_is}

-- a page with a part of another one
abbrev pub overlaid : List ℕ → List ℕ → ℕ → ℕ → List ℕ
overlaid to from start end = take start to ++ slice_range from start end ++ drop end to

module _ (to from : List ℕ) (start end : ℕ) (order : start ≤ end) (within : end ≤ length from) (same : length to ≡ length from) where
  front_long : length (take start to) ≡ start
  front_long = length-take-le start to (omega arith)

  part_long : length (slice_range from start end) ≡ end - start
  part_long = length-between from start end within

  -- the part is the other page's
  pub part_there : slice_range (overlaid to from start end) start end ≡ slice_range from start end
  part_there =
      let part = slice_range from start end in
      ap (λ xs. slice_range xs start end) (append_assoc (take start to) part (drop end to))
      ∙ ap (take (end - start)) (drop_at (take start to) (part ++ drop end to) start front_long)
      ∙ take_at part (drop end to) (end - start) part_long

  -- what lies before the part is as before
  pub part_before : (a b : ℕ) → b ≤ start → slice_range (overlaid to from start end) a b ≡ slice_range to a b
  part_before a b low =
      let part = slice_range from start end in
      let inside : b ≤ length (take start to) = omega (arith, front_long) in
      let wider : b ≤ length (take start to ++ part) = omega (arith, length-append (take start to) part) in
      between_is (overlaid to from start end) a b
      ∙ ap (drop a) (take-append-le b (take start to ++ part) (drop end to) wider ∙ take-append-le b (take start to) part inside ∙ take-take b start to low)
      ∙ sym (between_is to a b)

  -- and so is what lies behind it
  pub part_behind : (a b : ℕ) → end ≤ a → slice_range (overlaid to from start end) a b ≡ slice_range to a b
  part_behind a b high =
      let part = slice_range from start end in
      let long : length (take start to ++ part) ≡ end = length-append (take start to) part ∙ omega (arith, front_long, part_long) in
      let place : end + (a - end) ≡ a = omega arith in
      ap (take (b - a))
      (sym (ap (λ n. drop n (overlaid to from start end)) place) ∙ sym (drop-drop (a - end) end (overlaid to from start end))
      ∙ ap (drop (a - end)) (drop_at (take start to ++ part) (drop end to) end long) ∙ drop-drop (a - end) end to ∙ ap (λ n. drop n to) place)

  pub overlaid-long : length (overlaid to from start end) ≡ length to
  overlaid-long =
      let part = slice_range from start end in
      length-append (take start to ++ part) (drop end to) ∙ omega (arith, length-append (take start to) part, front_long, part_long, length-drop end to)

-- a part of bytes that are all the same
pub part_of_same : (n byte a b m : ℕ) → a + m ≡ b → b ≤ n → slice_range (replicate n byte) a b ≡ replicate m byte
part_of_same n byte a b m e within =
    let count : b - a ≡ m = omega arith in
    ap₂ take count (drop-replicate a n byte) ∙ take-replicate m (n - a) byte (omega arith)
