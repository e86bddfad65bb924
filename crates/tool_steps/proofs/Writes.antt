-- The units of a nandwrite, and its places.
use Rattle.std.proofs.Common.{◌≡◌, ℕ, zero, suc, ◌+◌, ◌-◌, ◌*◌, ◌/◌, ◌%◌, ◌<◌, List, [], ◌∷◌, ◌++◌, take, drop, replicate, length, refl, sym, ap, ◌∙◌, arith, length-drop}
use Rattle.std.proofs.lemmas.List.{take-replicate, drop-replicate}
use Rattle.std.proofs.Math.Seq.{drop-nil}
use Rattle.nand_model.specs.declared.geometry.Geometry.{Geometry}
use Rattle.command_model.specs.Command.{block_size, unit_count, unit_size, units_of, write_blocks}
use Rattle.tool_steps.specs.declared.writing.Called.{Called}
use Rattle.tool_steps.specs.declared.writing.BlockAt.{BlockAt}
use Rattle.tool_steps.specs.Writing.{unit_at, units_at, write_mode, write_from_start, units_from, taken, pages_left}

take-both : (n : ℕ) (xs ys : List ℕ) → take n (xs ++ ys) ≡ take n xs ++ take (n - length xs) ys
take-both zero xs ys = let e : 0 ≡ 0 - length xs = omega arith in ap (λ (k : ℕ). take k ys) e
take-both (suc n) [] ys = let e : suc n ≡ suc n - 0 = omega arith in ap (λ (k : ℕ). take k ys) e
take-both (suc n) (x ∷ xs) ys =
    let e : n - length xs ≡ suc n - suc (length xs) = omega arith in
    ap (λ (zs : List ℕ). x ∷ zs) (take-both n xs ys) ∙ ap (λ (k : ℕ). x ∷ take n xs ++ take k ys) e

drop-both : (n : ℕ) (xs ys : List ℕ) → drop n (xs ++ ys) ≡ drop n xs ++ drop (n - length xs) ys
drop-both zero xs ys = let e : 0 ≡ 0 - length xs = omega arith in ap (λ (k : ℕ). xs ++ drop k ys) e
drop-both (suc n) [] ys = let e : suc n ≡ suc n - 0 = omega arith in ap (λ (k : ℕ). drop k ys) e
drop-both (suc n) (x ∷ xs) ys =
    let e : n - length xs ≡ suc n - suc (length xs) = omega arith in
    drop-both n xs ys ∙ ap (λ (k : ℕ). drop n xs ++ drop k ys) e

drop-add : (m n : ℕ) (xs : List ℕ) → drop (m + n) xs ≡ drop n (drop m xs)
drop-add zero n xs = let e : 0 + n ≡ n = omega arith in ap (λ (k : ℕ). drop k xs) e
drop-add (suc m) n [] = drop-nil (suc m + n) ∙ sym (drop-nil n)
drop-add (suc m) n (x ∷ xs) = let e : suc m + n ≡ suc (m + n) = omega arith in ap (λ (k : ℕ). drop k (x ∷ xs)) e ∙ drop-add m n xs

-- units after some bytes
units_at-later : (size : ℕ) (bytes : List ℕ) (k j n : ℕ) → units_at size bytes (k + j) n ≡ units_at size (drop (k * size) bytes) j n
units_at-later size bytes k j zero = refl
units_at-later size bytes k j (suc n) =
    let far : (k + j) * size ≡ k * size + j * size = omega arith in
    let next : k + j + 1 ≡ k + (j + 1) = omega arith in
    let here : unit_at size bytes (k + j) ≡ unit_at size (drop (k * size) bytes) j =
    ap (λ (m : ℕ). take size (drop m bytes)) far ∙ ap (take size) (drop-add (k * size) (j * size) bytes) in
    let rest : units_at size bytes (k + j + 1) n ≡ units_at size (drop (k * size) bytes) (j + 1) n =
    ap (λ (m : ℕ). units_at size bytes m n) next ∙ units_at-later size bytes k (j + 1) n in
    (λ i. here i ∷ rest i)

-- bytes that are filled up with 0xFF to so many units
abbrev filled : (size n : ℕ) → List ℕ → List ℕ
filled size n bytes = bytes ++ replicate (n * size - length bytes) 0xff

first_unit : (size n : ℕ) (bytes : List ℕ) → take size (filled size (suc n) bytes) ≡ take size bytes ++ replicate (size - length bytes) 0xff
first_unit size n bytes =
    take-both size bytes (replicate (suc n * size - length bytes) 0xff)
    ∙ ap (λ (xs : List ℕ). take size bytes ++ xs) (take-replicate (size - length bytes) (suc n * size - length bytes) 0xff (omega arith))

later_units : (size n : ℕ) (bytes : List ℕ) → drop size (filled size (suc n) bytes) ≡ filled size n (drop size bytes)
later_units size n bytes =
    let left : suc n * size - length bytes - (size - length bytes) ≡ n * size - length (drop size bytes) = omega (arith, length-drop size bytes) in
    drop-both size bytes (replicate (suc n * size - length bytes) 0xff)
    ∙ ap (λ (xs : List ℕ). drop size bytes ++ xs) (drop-replicate (size - length bytes) (suc n * size - length bytes) 0xff
    ∙ ap (λ (k : ℕ). replicate k 0xff) left)

-- the units of bytes are those of the bytes that are filled up
pub units_of-filled : (size n : ℕ) (bytes : List ℕ) → units_of size n bytes ≡ units_at size (bytes ++ replicate (n * size - length bytes) 0xff) 0 n
units_of-filled size zero bytes = refl
units_of-filled size (suc n) bytes =
    let none : 0 * size ≡ 0 = omega arith in
    let here : take size bytes ++ replicate (size - length bytes) 0xff ≡ unit_at size (filled size (suc n) bytes) 0 =
    sym (ap (λ (k : ℕ). take size (drop k (filled size (suc n) bytes))) none ∙ first_unit size n bytes) in
    let one : 1 * size ≡ size = omega arith in
    let next : 0 + 1 ≡ 1 + 0 = refl in
    let rest : units_of size n (drop size bytes) ≡ units_at size (filled size (suc n) bytes) (0 + 1) n =
    units_of-filled size n (drop size bytes) ∙ ap (λ (xs : List ℕ). units_at size xs 0 n) (sym (later_units size n bytes)
    ∙ ap (λ (k : ℕ). drop k (filled size (suc n) bytes)) (sym one)) ∙ sym (units_at-later size (filled size (suc n) bytes) 1 0 n) in
    (λ i. here i ∷ rest i)

module _ (g : Geometry) (bytes : List ℕ) (b : BlockAt) where
  -- the first page of a block
  pub pages_left-first : pages_left g bytes b 0 (b.place + 0) (units_from g bytes b.called (b.first + 0) (suc (b.more - 0)))
      ≡ pages_left g bytes b 0 b.place (taken g bytes b)
  pages_left-first =
      let place : b.place + 0 ≡ b.place = omega arith in
      let first : b.first + 0 ≡ b.first = omega arith in
      let more : b.more - 0 ≡ b.more = omega arith in
      ap (λ (p : ℕ). pages_left g bytes b 0 p (units_from g bytes b.called (b.first + 0) (suc (b.more - 0)))) place
      ∙ ap (λ (k : ℕ). pages_left g bytes b 0 b.place (units_from g bytes b.called k (suc (b.more - 0)))) first
      ∙ ap (λ (n : ℕ). pages_left g bytes b 0 b.place (units_from g bytes b.called b.first (suc n))) more

  -- the next page of a block
  pub pages_left-next : (written : ℕ) → written < b.more
      → pages_left g bytes b (written + 1) (b.place + (written + 1)) (units_from g bytes b.called (b.first + (written + 1)) (suc (b.more - (written + 1))))
      ≡ pages_left g bytes b (written + 1) (b.place + written + 1) (units_from g bytes b.called (b.first + written + 1) (b.more - written))
  pages_left-next written h =
      let place : b.place + (written + 1) ≡ b.place + written + 1 = omega arith in
      let first : b.first + (written + 1) ≡ b.first + written + 1 = omega arith in
      let more : suc (b.more - (written + 1)) ≡ b.more - written = omega arith in
      ap (λ (p : ℕ). pages_left g bytes b (written + 1) p (units_from g bytes b.called (b.first + (written + 1)) (suc (b.more - (written + 1))))) place
      ∙ ap (λ (k : ℕ). pages_left g bytes b (written + 1) (b.place + written + 1) (units_from g bytes b.called k (suc (b.more - (written + 1))))) first
      ∙ ap (λ (n : ℕ). pages_left g bytes b (written + 1) (b.place + written + 1) (units_from g bytes b.called (b.first + written + 1) n)) more

-- a nandwrite at its start
pub write_starts : (g : Geometry) (m : Called) (blocks off block place rest more : ℕ) (bytes units : List ℕ)
    → block ≡ off / block_size g → place ≡ off / g.page % g.pages_per_block → suc rest ≡ blocks - block → suc more ≡ unit_count g m.oob bytes
    → units ≡ bytes ++ replicate (suc more * unit_size g m.oob - length bytes) 0xff
    → write_blocks g (write_mode m) (suc rest) block place (units_from g units m 0 (suc more)) (record { pages = 0; skipped = 0; failed = 0 })
    ≡ write_from_start g (write_mode m) blocks off bytes
write_starts g m blocks off block place rest more bytes units eb ep er em eu =
    let left : suc rest ≡ blocks - off / block_size g = er ∙ ap (λ (b : ℕ). blocks - b) eb in
    let all : units_from g units m 0 (suc more) ≡ units_of (unit_size g m.oob) (unit_count g m.oob bytes) bytes =
    ap (λ (us : List ℕ). units_from g us m 0 (suc more)) eu ∙ sym (units_of-filled (unit_size g m.oob) (suc more) bytes)
    ∙ ap (λ (n : ℕ). units_of (unit_size g m.oob) n bytes) em in
    (λ i. write_blocks g (write_mode m) (left i) (eb i) (ep i) (all i) (record { pages = 0; skipped = 0; failed = 0 }))
