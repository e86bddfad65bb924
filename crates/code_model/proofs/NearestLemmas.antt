-- The BCH bound for a code, and that the search finds what a decoder answers.
use Rattle.std.proofs.Common.{◌≡◌, ℕ, zero, suc, ◌+◌, ◌*◌, ◌<◌, ◌≤◌, List, [], ◌∷◌, length, refl, sym, ap, ap₂, ◌∙◌, subst, arith, true, false, Bool, cond, inl, inr, ◌&&◌, Option, Some, None}
use Rattle.std.specs.Prelude.{nat_eq, nat_lt, bit_xor}
use Rattle.std.specs.List.{list_all, find}
use Rattle.std.proofs.lemmas.Bool.{cases_eq, cases_lt}
use Rattle.std.proofs.lemmas.Bool.Decides.{nat_tests}
use Rattle.code_model.specs.Binary.{product, remainder}
use Rattle.code_model.specs.Poly.{Every}
use Rattle.code_model.specs.Word.{number_from, AreBits, distance}
use Rattle.code_model.specs.Code.{Code, code_512, code_1024, word_bits, parity_bits, generator, IsBchCode, IsCodeWord, Decodes, is_code_word, words_at, found_or, nearest_from, nearest}
use Rattle.code_model.proofs.BinaryLemmas.{remainder-multiple, quotient}
use Rattle.code_model.proofs.ValueLemmas.{bound}
use Rattle.code_model.proofs.Instances.{primitive_13, primitive_14}
use Rattle.code_model.proofs.RootLemmas.{generator-roots, generator-degree}
use Rattle.code_model.proofs.DistanceLemmas.{distance_comm, distance_triangle, words_at-distance, words_at-complete}
use lib.Bits.{xor_zero_r}

and_parts : (a b : Bool) → (a && b) ≡ true → (a ≡ true) × (b ≡ true)
and_parts true b e = (refl, e)
and_parts false b e = cc

and_true : (a b : Bool) → a ≡ true → b ≡ true → (a && b) ≡ true
and_true true b e e' = e'
and_true false b e e' = e

eq_from_test : (x y : ℕ) → nat_eq x y ≡ true → x ≡ y
eq_from_test x y e = grind (arith, nat_tests)

test_from_eq : (x y : ℕ) → x ≡ y → nat_eq x y ≡ true
test_from_eq x y e = search (arith, nat_tests)

lt_from_test : (x y : ℕ) → nat_lt x y ≡ true → x < y
lt_from_test x y e = grind (arith, nat_tests)

test_from_lt : (x y : ℕ) → x < y → nat_lt x y ≡ true
test_from_lt x y e = search (arith, nat_tests)

bits_from_test : (w : List ℕ) → list_all (λ b. nat_lt b 2) w ≡ true → AreBits w
bits_from_test [] e = tt
bits_from_test (b ∷ w) e = let p = and_parts (nat_lt b 2) (list_all (λ b. nat_lt b 2) w) e in (lt_from_test b 2 p.0, bits_from_test w p.1)

test_from_bits : (w : List ℕ) → AreBits w → list_all (λ b. nat_lt b 2) w ≡ true
test_from_bits [] s = refl
test_from_bits (b ∷ w) s = and_true (nat_lt b 2) (list_all (λ b. nat_lt b 2) w) (test_from_lt b 2 s.0) (test_from_bits w s.1)

-- what a search finds passes the test, and has what all have
find-some : {X : Type 0} (test : X → Bool) (Q : X → Type 0) (xs : List X) (x : X) → Every Q xs → find test xs ≡ Some x → (test x ≡ true) × Q x
find-some test Q [] x s e = cc
find-some test Q (y ∷ xs) x s e = go (find-some test Q xs x s.1) (test y) refl e
  where
    go : (find test xs ≡ Some x → (test x ≡ true) × Q x) → (b : Bool) → test y ≡ b → cond b (Some y) (find test xs) ≡ Some x → (test x ≡ true) × Q x
    go later true t e' = let same : y ≡ x = cc in (ap test (sym same) ∙ t, subst Q same s.0)
    go later false t e' = later e'

-- and where it finds nothing, nothing passes
find-none : {X : Type 0} (test : X → Bool) (xs : List X) → find test xs ≡ None → Every (λ x. test x ≡ true → ⊥) xs
find-none test [] e = tt
find-none test (y ∷ xs) e = go (find-none test xs) (test y) refl e
  where
    go : (find test xs ≡ None → Every (λ x. test x ≡ true → ⊥) xs) → (b : Bool) → test y ≡ b → cond b (Some y) (find test xs) ≡ None → Every (λ x. test x ≡ true → ⊥) (y ∷ xs)
    go later true t e' = cc
    go later false t e' = ((λ q. cc), later e')

-- ---- the search
found_or-some : (o : Option (List ℕ)) (d e : ℕ) (later : Unit {0} → Option (List ℕ × ℕ)) (c : List ℕ) (P : Type 0) → found_or o d later ≡ Some (c, e)
    → (o ≡ Some c → d ≡ e → P) → (later tt ≡ Some (c, e) → P) → P
unfolding found_or
found_or-some (Some v) d e later c P q found more =
    let pair : ◌≡◌ {A = List ℕ × ℕ} (v, d) (c, e) = cc in found (ap (λ p. Some p.0) pair) (ap (λ p. p.1) pair)
found_or-some None d e later c P q found more = more q

found_or-none : (o : Option (List ℕ)) (d : ℕ) (later : Unit {0} → Option (List ℕ × ℕ)) → found_or o d later ≡ None → (o ≡ None) × (later tt ≡ None)
unfolding found_or
found_or-none (Some v) d later q = cc
found_or-none None d later q = (refl, q)

nearest_from-some : (code : Code) (n d : ℕ) (w c : List ℕ) (e : ℕ) → nearest_from code n d w ≡ Some (c, e) → (is_code_word code c ≡ true) × (distance w c ≡ e) × (e < d + n)
unfolding nearest_from
nearest_from-some code zero d w c e q = cc
nearest_from-some code (suc n) d w c e q =
    found_or-some (find (is_code_word code) (words_at d w)) d e (λ u. nearest_from code n (d + 1) w) c
    ((is_code_word code c ≡ true) × (distance w c ≡ e) × (e < d + suc n)) q
    (λ f same. let r = find-some (is_code_word code) (λ c. distance w c ≡ d) (words_at d w) c (words_at-distance d w) f in (r.0, r.1 ∙ same, omega arith))
    (λ f. let r = nearest_from-some code n (d + 1) w c e f in let b = r.2 in (r.0, r.1, omega arith))

nearest_from-none : (code : Code) (n d : ℕ) (w c : List ℕ) → nearest_from code n d w ≡ None → AreBits w → AreBits c → length w ≡ length c
    → is_code_word code c ≡ true → d ≤ distance w c → distance w c < d + n → ⊥
unfolding nearest_from
nearest_from-none code zero d w c q s r e t a b = omega arith
nearest_from-none code (suc n) d w c q s r e t a b =
    let parts = found_or-none (find (is_code_word code) (words_at d w)) d (λ u. nearest_from code n (d + 1) w) q in
    elim (cases_eq (distance w c) d) [
      | inl here ↦ words_at-complete (λ c. is_code_word code c ≡ true → ⊥) d w c s r e here (find-none (is_code_word code) (words_at d w) parts.0) t
      | inr ne ↦ nearest_from-none code n (d + 1) w c parts.1 s r e t (omega arith) (omega arith)
    ]

module _ (code : Code) (bch : IsBchCode code) where
  pub is_code_word-sound : (c : List ℕ) → is_code_word code c ≡ true → IsCodeWord code c
  unfolding is_code_word
  is_code_word-sound c t =
      let g = generator code in
      let n = number_from 0 c in
      let both = and_parts (nat_eq (length c) (word_bits code) && list_all (λ b. nat_lt b 2) c) (nat_eq (remainder (parity_bits code) g n) 0) t in
      let first = and_parts (nat_eq (length c) (word_bits code)) (list_all (λ b. nat_lt b 2) c) both.0 in
      let degree = generator-degree code.degree code.modulus bch.primitive code.strength in
      let q = quotient (parity_bits code) g n degree.0 degree.1 in
      let none : remainder (parity_bits code) g n ≡ 0 = eq_from_test (remainder (parity_bits code) g n) 0 both.1 in
      record {
        long = eq_from_test (length c) (word_bits code) first.0;
        bits = bits_from_test c first.1;
        multiple = (q.0, q.1 ∙ ap (bit_xor (product q.0 g)) none ∙ xor_zero_r (product q.0 g));
      }

  pub is_code_word-complete : (c : List ℕ) → IsCodeWord code c → is_code_word code c ≡ true
  unfolding is_code_word
  is_code_word-complete c w =
      let g = generator code in
      let n = number_from 0 c in
      let degree = generator-degree code.degree code.modulus bch.primitive code.strength in
      let q = w.multiple in
      let none : remainder (parity_bits code) g n ≡ 0 = ap (remainder (parity_bits code) g) q.1 ∙ remainder-multiple (parity_bits code) g q.0 degree.0 degree.1 in
      and_true (nat_eq (length c) (word_bits code) && list_all (λ b. nat_lt b 2) c) (nat_eq (remainder (parity_bits code) g n) 0)
      (and_true (nat_eq (length c) (word_bits code)) (list_all (λ b. nat_lt b 2) c) (test_from_eq (length c) (word_bits code) w.long) (test_from_bits c w.bits))
      (test_from_eq (remainder (parity_bits code) g n) 0 none)

  -- two code words near to one word are equal
  pub near_code_words-equal : (w c d : List ℕ) → length w ≡ word_bits code → IsCodeWord code c → IsCodeWord code d
      → distance w c ≤ code.strength → distance w d ≤ code.strength → c ≡ d
  near_code_words-equal w c d e cw dw near near' =
      let cl = cw.long in
      let dl = dw.long in
      let short = bch.short in
      let turned = distance_comm c w in
      let apart = distance_triangle c w d (omega arith) (omega arith) in
      bound code.degree code.modulus bch.primitive code.strength (2 * code.strength) c d
      (generator-roots code.degree code.modulus bch.primitive code.strength)
      cw.bits dw.bits (omega arith) (omega arith) (omega arith) cw.multiple dw.multiple

  -- a decoder has one answer
  decodes-same : (w : List ℕ) (a b : Option (List ℕ × ℕ)) → length w ≡ word_bits code → Decodes code w a → Decodes code w b → a ≡ b
  decodes-same w (Some (c, d)) (Some (c', d')) e x y =
      let same : c ≡ c' = near_code_words-equal w c c' e x.word y.word (let h = x.near in let k = x.apart in omega arith) (let h = y.near in let k = y.apart in omega arith) in
      let same' : d ≡ d' = sym x.apart ∙ ap (distance w) same ∙ y.apart in
      ap₂ (λ v n. Some (v, n)) same same'
  decodes-same w (Some (c, d)) None e x y = absurd (let far = y c x.word in let h = x.near in let k = x.apart in omega arith)
  decodes-same w None (Some (c, d)) e x y = absurd (let far = x c y.word in let h = y.near in let k = y.apart in omega arith)
  decodes-same w None None e x y = refl

  -- the search answers as a decoder does
  pub nearest-decodes : (w : List ℕ) → AreBits w → length w ≡ word_bits code → Decodes code w (nearest code w)
  unfolding nearest
  nearest-decodes w s e = go (nearest_from code (code.strength + 1) 0 w) refl
    where
      go : (o : Option (List ℕ × ℕ)) → nearest_from code (code.strength + 1) 0 w ≡ o → Decodes code w o
      go (Some (c, d)) q =
          let r = nearest_from-some code (code.strength + 1) 0 w c d q in
          let below = r.2 in
          record { word = is_code_word-sound c r.0; apart = r.1; near = omega arith }
      go None q = λ c cw. elim (cases_lt code.strength (distance w c)) [
        | inl far ↦ far
        | inr near ↦ absurd (nearest_from-none code (code.strength + 1) 0 w c q s cw.bits (e ∙ sym cw.long) (is_code_word-complete c cw) (omega arith) (omega arith))
      ]

  -- and a decoder has no other answer
  pub decodes-nearest : (w : List ℕ) (answer : Option (List ℕ × ℕ)) → AreBits w → length w ≡ word_bits code → Decodes code w answer → answer ≡ nearest code w
  decodes-nearest w answer s e decodes = decodes-same w answer (nearest code w) e decodes (nearest-decodes w s e)

-- ---- the codes in use
pub code_512-bch : (t : ℕ) → t ≤ 16 → IsBchCode (code_512 t)
code_512-bch t h = record { primitive = primitive_13; short = omega arith }

pub code_1024-bch : (t : ℕ) → t ≤ 16 → IsBchCode (code_1024 t)
code_1024-bch t h = record { primitive = primitive_14; short = omega arith }
