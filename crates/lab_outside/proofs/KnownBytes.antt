-- Bytes told as left or held, over several calls.
use Rattle.std.proofs.Common.{◌≡◌, ℕ, ◌+◌, ◌-◌, Option, Some, None, List, ◌++◌, length, take, drop, refl, ap, sym, ◌∙◌, append_assoc, arith, length-drop}
use Rattle.std.proofs.Math.Seq.{take-add}
use Rattle.std.proofs.lemmas.List.{take_all}
use Rattle.std.specs.List.{slice_range}
use Rattle.std.specs.Io.KnownBytes.{prepend_known, append_known}

append_known-append_known : (known : Option (List ℕ)) (xs ys : List ℕ) → append_known (append_known known xs) ys ≡ append_known known (xs ++ ys)
append_known-append_known None xs ys = refl
append_known-append_known (Some bs) xs ys = ap Some (append_assoc bs xs ys)

prepend_known-prepend_known : (xs ys : List ℕ) (known : Option (List ℕ)) → prepend_known xs (prepend_known ys known) ≡ prepend_known (xs ++ ys) known
prepend_known-prepend_known xs ys None = refl
prepend_known-prepend_known xs ys (Some bs) = ap Some (sym (append_assoc xs ys bs))

-- the first w bytes of a text were taken, and now the first n of the rest
pub append_known_more : (old mid new : Option (List ℕ)) (text : List ℕ) (w n : ℕ) → mid ≡ append_known old (take w text) → new ≡ append_known mid (take n (slice_range text w (length text))) → new ≡ append_known old (take (w + n) text)
append_known_more old mid new text w n before now =
    let rest : slice_range text w (length text) ≡ drop w text = take_all (length text - w) (drop w text) (omega (arith, length-drop w text)) in
    let joined : append_known mid (take n (drop w text)) ≡ append_known old (take w text ++ take n (drop w text)) = rw before (append_known-append_known old (take w text) (take n (drop w text))) in
    rw take-add (rw rest at now ∙ joined)

-- xs came off the front of what is told, and then ys
pub prepend_known_more : (old mid new : Option (List ℕ)) (xs ys : List ℕ) → old ≡ prepend_known xs mid → mid ≡ prepend_known ys new → old ≡ prepend_known (xs ++ ys) new
prepend_known_more old mid new xs ys before now = before ∙ ap (prepend_known xs) now ∙ prepend_known-prepend_known xs ys new
