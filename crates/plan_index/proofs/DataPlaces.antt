-- Where data stand, line by line.
use Rattle.std.proofs.Common.{◌≡◌, ℕ, ◌+◌, Bool, true, false, cond, List, [], ◌∷◌, ◌++◌, length, Option, Some, None, refl, sym, ap, ◌∙◌, subst, arith}
use Rattle.std.specs.Prelude.{bytes_eq}
use Rattle.std.specs.List.{sum_by}
use Rattle.std.specs.declared.cmp.Ordering.{Ordering}
use Rattle.std.specs.declared.cmp.Ordering.TheVariants.{Less, Equal, Greater}
use Rattle.std.specs.Ordering.{nat_cmp, is_eq, match_ordering}
use Rattle.std.specs.Cmp.Lexicographic.{slice_cmp}
use Rattle.std.specs.Map.{lookup}
use Rattle.std.specs.BTreeMap.{insert_entry}
use Rattle.std.proofs.lemmas.Map.Text.{is_eq-slice_cmp}
use Rattle.std.proofs.lemmas.Map.Lookups.{exact_bytes}
use Rattle.std.proofs.lemmas.List.Sums.{sum_by_push}
use Rattle.std.proofs.lemmas.Slice.Eq.{bytes_eq-Decides}
use Rattle.plan_grammar.specs.declared.lines.DataLine.{DataLine}
use Rattle.plan_grammar.specs.Devices.{data_length}
use Rattle.plan_index.specs.declared.data.DataPlace.{DataPlace}
use Rattle.plan_index.specs.Data.{place_from, place_of}

-- texts that compare as equal are equal, and the other way round
same_text : (xs ys : List ℕ) → bytes_eq xs ys ≡ true → xs ≡ ys
same_text xs ys e = (bytes_eq-Decides xs ys).0 e

text_same : (xs ys : List ℕ) → xs ≡ ys → bytes_eq xs ys ≡ true
text_same xs ys e = (bytes_eq-Decides xs ys).1 e

turned : (xs ys : List ℕ) → bytes_eq xs ys ≡ bytes_eq ys xs
turned xs ys = both (bytes_eq xs ys) (bytes_eq ys xs) (λ e. text_same ys xs (sym (same_text xs ys e))) (λ e. text_same xs ys (sym (same_text ys xs e)))
  where
    both : (a b : Bool) → (a ≡ true → b ≡ true) → (b ≡ true → a ≡ true) → a ≡ b
    both true b f g = sym (f refl)
    both false true f g = g refl
    both false false f g = refl

abbrev order : {K : Type 0} → (K → List ℕ) → K → K → Ordering
order bytes x y = slice_cmp nat_cmp (bytes x) (bytes y)

abbrev is_key : {K : Type 0} → (K → List ℕ) → List ℕ → K → Bool
is_key bytes name key = is_eq (slice_cmp nat_cmp name (bytes key))

-- two keys of the same text are found by the same texts
key_same : {K : Type 0} (bytes : K → List ℕ) (name : List ℕ) (x y : K) → bytes x ≡ bytes y → is_key bytes name x ≡ is_key bytes name y
key_same bytes name x y e = ap (λ text. is_eq (slice_cmp nat_cmp name text)) e

-- two keys that are found by one text have the same text
one_text : {K : Type 0} (bytes : K → List ℕ) (name : List ℕ) (x y : K) → is_key bytes name x ≡ true → is_key bytes name y ≡ true →
    order bytes x y ≡ Greater → ⊥
one_text bytes name x y e f greater =
    let first : name ≡ bytes x = same_text name (bytes x) (sym (is_eq-slice_cmp name (bytes x)) ∙ e) in
    let second : name ≡ bytes y = same_text name (bytes y) (sym (is_eq-slice_cmp name (bytes y)) ∙ f) in
    let equal : is_eq (order bytes x y) ≡ true =
    is_eq-slice_cmp (bytes x) (bytes y) ∙ text_same (bytes x) (bytes y) (sym first ∙ second) in
    let bad : false ≡ true = ap is_eq (sym greater) ∙ equal in
    cc bad

-- what a look-up finds among entries of which one was put in
found_after : {K X : Type 0} (bytes : K → List ℕ) (es : List (K × X)) (key : K) (value : X) (name : List ℕ) →
    lookup (is_key bytes name) (insert_entry (order bytes) es key value)
    ≡ cond (is_key bytes name key) (Some value) (lookup (is_key bytes name) es)
found_after bytes [] key value name = refl
found_after {K} {X} bytes (e ∷ es) key value name = by_order (order bytes key e.0) refl (found_after bytes es key value name)
  where
    by_order : (o : Ordering) → order bytes key e.0 ≡ o →
        lookup (is_key bytes name) (insert_entry (order bytes) es key value)
        ≡ cond (is_key bytes name key) (Some value) (lookup (is_key bytes name) es) →
        lookup (is_key bytes name) (match_ordering o ((key, value) ∷ e ∷ es) ((e.0, value) ∷ es) (e ∷ insert_entry (order bytes) es key value))
        ≡ cond (is_key bytes name key) (Some value) (lookup (is_key bytes name) (e ∷ es))
    by_order Less is further = refl
    by_order Equal is further = same_key (is_key bytes name e.0) (is_key bytes name key)
        (key_same bytes name e.0 key (sym (exact_bytes (bytes key) (bytes e.0) is)))
      where
        same_key : (a b : Bool) → a ≡ b → cond a (Some value) (lookup (is_key bytes name) es)
            ≡ cond b (Some value) (cond a (Some e.1) (lookup (is_key bytes name) es))
        same_key true true f = refl
        same_key false false f = refl
        same_key true false f = absurd (cc f)
        same_key false true f = absurd (cc f)
    by_order Greater is further =
        ap (cond (is_key bytes name e.0) (Some e.1)) further
        ∙ apart (is_key bytes name e.0) (is_key bytes name key) (λ f g. one_text bytes name key e.0 g f is)
      where
        apart : (a b : Bool) → (a ≡ true → b ≡ true → ⊥) →
            cond a (Some e.1) (cond b (Some value) (lookup (is_key bytes name) es))
            ≡ cond b (Some value) (cond a (Some e.1) (lookup (is_key bytes name) es))
        apart true true differ = absurd (differ refl refl)
        apart true false differ = refl
        apart false true differ = refl
        apart false false differ = refl

-- where data stand, with one more line of a new NAME
place_push : (place : ℕ) (payloads : List DataLine) (payload : DataLine) (name : List ℕ) → place_from place payloads payload.name ≡ None →
    place_from place (payloads ++ payload ∷ []) name
    ≡ cond (bytes_eq payload.name name) (Some (record { place = place + length payloads; len = data_length payload })) (place_from place payloads name)
place_push place [] payload name new =
    ap (λ n. cond (bytes_eq payload.name name) (Some (record { place = n; len = data_length payload })) None) at
  where
    at : place ≡ place + 0
    at = omega arith
place_push place (first ∷ payloads) payload name new =
    by_first (bytes_eq first.name name) refl (place_push (place + 1) payloads payload name (others (bytes_eq first.name payload.name) refl new))
  where
    others : (b : Bool) → bytes_eq first.name payload.name ≡ b →
        cond b (Some (record { place = place; len = data_length first })) (place_from (place + 1) payloads payload.name) ≡ None →
        place_from (place + 1) payloads payload.name ≡ None
    others true f e = absurd (cc e)
    others false f e = e

    other : (b : Bool) → bytes_eq first.name payload.name ≡ b →
        cond b (Some (record { place = place; len = data_length first })) (place_from (place + 1) payloads payload.name) ≡ None → b ≡ false
    other true f e = absurd (cc e)
    other false f e = refl

    at : place + 1 + length payloads ≡ place + length (first ∷ payloads)
    at = omega arith

    differs : bytes_eq first.name name ≡ true → bytes_eq payload.name name ≡ false
    differs e = by (bytes_eq payload.name name) refl
      where
        by : (b : Bool) → bytes_eq payload.name name ≡ b → b ≡ false
        by false f = refl
        by true f =
            let same : first.name ≡ payload.name = same_text first.name name e ∙ sym (same_text payload.name name f) in
            sym (text_same first.name payload.name same) ∙ other (bytes_eq first.name payload.name) refl new

    by_first : (b : Bool) → bytes_eq first.name name ≡ b →
        place_from (place + 1) (payloads ++ payload ∷ []) name
        ≡ cond (bytes_eq payload.name name) (Some (record { place = place + 1 + length payloads; len = data_length payload })) (place_from (place + 1) payloads name) →
        cond b (Some (record { place = place; len = data_length first })) (place_from (place + 1) (payloads ++ payload ∷ []) name)
        ≡ cond (bytes_eq payload.name name) (Some (record { place = place + length (first ∷ payloads); len = data_length payload }))
        (cond b (Some (record { place = place; len = data_length first })) (place_from (place + 1) payloads name))
    by_first true f further = ap (λ c. cond c (Some (record { place = place + length (first ∷ payloads); len = data_length payload })) (Some (record { place = place; len = data_length first }))) (sym (differs f))
    by_first false f further =
        further
        ∙ ap (λ n. cond (bytes_eq payload.name name) (Some (record { place = n; len = data_length payload })) (place_from (place + 1) payloads name)) at

-- the places with one more line of a new NAME
pub places_push : {K : Type 0} (bytes : K → List ℕ) (es news : List (K × DataPlace)) (key : K) (at : DataPlace) (payloads : List DataLine)
    (payload : DataLine) (text : List ℕ) → ((name : List ℕ) → lookup (is_key bytes name) es ≡ place_of payloads name) →
    bytes key ≡ text → payload.name ≡ text → data_length payload ≡ at.len → at.place ≡ length payloads →
    place_of payloads text ≡ None → news ≡ insert_entry (order bytes) es key at → (name : List ℕ) →
    lookup (is_key bytes name) news ≡ place_of (payloads ++ payload ∷ []) name
places_push bytes es news key at payloads payload text s key_is name_is len_is place_is new put name =
    let made : ℕ → ℕ → DataPlace = λ place len. record { place = place; len = len } in
    let old : Option DataPlace = place_of payloads name in
    let tests : is_key bytes name key ≡ bytes_eq payload.name name =
    is_eq-slice_cmp name (bytes key) ∙ ap (bytes_eq name) (key_is ∙ sym name_is) ∙ turned name payload.name in
    ap (lookup (is_key bytes name)) put ∙ found_after bytes es key at name
    ∙ ap (cond (is_key bytes name key) (Some at)) (s name)
    ∙ ap (λ b. cond b (Some at) old) tests
    ∙ ap (λ n. cond (bytes_eq payload.name name) (Some (made n at.len)) old) (place_is ∙ omega arith)
    ∙ ap (λ n. cond (bytes_eq payload.name name) (Some (made (0 + length payloads) n)) old) (sym len_is)
    ∙ sym (place_push 0 payloads payload name (ap (place_of payloads) name_is ∙ new))

-- the bytes of all data with one more line
pub total_push : (payloads : List DataLine) (payload : DataLine) (old new len : ℕ) → old ≡ sum_by data_length payloads →
    data_length payload ≡ len → new ≡ old + len → new ≡ sum_by data_length (payloads ++ payload ∷ [])
total_push payloads payload old new len s len_is more =
    more ∙ omega (arith, s, len_is, sum_by_push data_length payloads payload)
