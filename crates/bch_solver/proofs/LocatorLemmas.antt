use Rattle.std.proofs.Common.{◌≡◌, ℕ, zero, suc, ◌+◌, ◌-◌, ◌*◌, ◌^◌, ◌<◌, ◌≤◌, List, [], ◌∷◌, length, refl, sym, ap, ap₂, ◌∙◌, arith}
use Rattle.std.specs.Prelude.{bit_xor}
use Rattle.std.proofs.lemmas.List.{get_or_past}
use lib.Bits.{xor_zero_r}
use Rattle.code_model.specs.Binary.{times, power, value_at}
use Rattle.code_model.specs.Poly.{Every, value, moment, convolved, against, locator}
use Rattle.code_model.specs.Word.{number_from, AreBits, IsMultiple, differences, distance}
use Rattle.code_model.proofs.Elimination.{against-same}
use Rattle.code_model.proofs.KeyEquation.{coefficient, errors, Has, Solves, against-list, least_solution, locator-lead, locator-small, locator-solves}
use Rattle.code_model.proofs.PolyLemmas.{length-locator}
use Rattle.code_model.proofs.RootLemmas.{generator-roots}
use Rattle.code_model.proofs.ValueLemmas.{places, are_places, words_differ, power_sum-moment, value-code_word, length-places}
use Rattle.bch_solver.specs.Rows.{SolvesKey, listed}
use Rattle.bch_solver.proofs.RowLemmas.{one_below}
use Rattle.code_model.specs.Binary.{IsPrimitive}
use Rattle.code_model.proofs.Instances.{domain_from_primitive}

length-listed : (c : ℕ → ℕ) (n : ℕ) → length (listed c n) ≡ n
unfolding listed
length-listed c zero = refl
length-listed c (suc n) = ap suc (length-listed (λ i. c (suc i)) n)

listed-at : (c : ℕ → ℕ) (n l : ℕ) → ((i : ℕ) → n ≤ i → c i ≡ 0) → coefficient (listed c n) l ≡ c l
unfolding listed
listed-at c zero l z = sym (z l (omega arith))
listed-at c (suc n) zero z = refl
listed-at c (suc n) (suc l) z = listed-at (λ i. c (suc i)) n l (λ i h. z (suc i) (omega arith))

listed-small : (bound : ℕ) (c : ℕ → ℕ) (n : ℕ) → ((i : ℕ) → c i < bound) → Every (λ x. x < bound) (listed c n)
unfolding listed
listed-small bound c zero s = tt
listed-small bound c (suc n) s = (s 0, listed-small bound (λ i. c (suc i)) n (λ i. s (suc i)))

small-at : (bound : ℕ) (cs : List ℕ) (l : ℕ) → Every (λ x. x < bound) cs → 0 < bound → coefficient cs l < bound
small-at bound [] l s h = h
small-at bound (c ∷ cs) zero s h = s.0
small-at bound (c ∷ cs) (suc l) s h = small-at bound cs l s.1 h

convolved-agree : (m f : ℕ) (s r : ℕ → ℕ) (cs : List ℕ) (j : ℕ) → ((i : ℕ) → j ≤ i → i < j + length cs → s i ≡ r i) → convolved (times m f) s cs j ≡ convolved (times m f) r cs j
unfolding convolved
convolved-agree m f s r [] j h = refl
convolved-agree m f s r (c ∷ cs) j h =
    ap₂ bit_xor (ap (times m f c) (h j (omega arith) (omega arith))) (convolved-agree m f s r cs (suc j) (λ i a b. h i (omega arith) (omega arith)))

module _ (m f : ℕ) (p : IsPrimitive m f) where
  positive : 0 < 2 ^ m
  positive = omega (arith, p.wide)

  -- s are the values of w at the first 2 t powers
  abbrev pub AreSyndromes : ℕ → List ℕ → (ℕ → ℕ) → Type 0
  AreSyndromes t w s = (j : ℕ) → 0 < j → j ≤ 2 * t → s j ≡ value_at m f (power m f 2 j) (number_from 0 w)

  -- the syndromes of a word are the moments of the places at which it differs from a code word
  syndromes-moment : (t : ℕ) (w c : List ℕ) (s : ℕ → ℕ) → AreBits w → AreBits c → length w ≡ length c → IsMultiple m f t c → AreSyndromes t w s
      → (j : ℕ) → 0 < j → j ≤ 2 * t → s j ≡ moment (times m f) (errors (places m f p (differences w c))) j
  syndromes-moment t w c s bw bc same code syn j a b =
      syn j a b ∙ sym (xor_zero_r (value_at m f (power m f 2 j) (number_from 0 w)))
      ∙ ap (bit_xor (value_at m f (power m f 2 j) (number_from 0 w))) (sym (value-code_word m f p (power m f 2 j) t c (generator-roots m f p t j a b) code))
      ∙ words_differ m f p (power m f 2 j) w c bw bc same
      ∙ power_sum-moment m f p j (differences w c)

  -- where the word w has the code word c within t, and s its syndromes, the solution of least
  -- degree is 0 just at the powers of the degrees where they differ
  pub found : (t e : ℕ) (w c : List ℕ) (s u : ℕ → ℕ) → t ≤ 16 → e ≤ t → AreBits w → AreBits c → length w ≡ length c → length w ≤ 2 ^ m - 1
      → IsMultiple m f t c → distance w c ≤ t → AreSyndromes t w s
      → SolvesKey m f s t e u → ((e' : ℕ) (u' : ℕ → ℕ) → e' < e → SolvesKey m f s t e' u' → ⊥)
      → (e ≡ distance w c) × Every (λ x. value (times m f) (listed u (suc e)) x ≡ 0) (places m f p (differences w c))
      × ((y : ℕ) → y < 2 ^ m → value (times m f) (listed u (suc e)) y ≡ 0 → Has (2 ^ m) (times m f) (domain_from_primitive m f p) (one_below m f p) y (places m f p (differences w c)))
  found t e w c s u ht he bw bc same long code near syn sol least =
      let r = least_solution (2 ^ m) (times m f) (domain_from_primitive m f p) (one_below m f p) xs cs t e
      (are_places m f p (length w) w c (omega arith) long) (omega (arith, len_xs)) solves smaller in
      (r.0 ∙ len_xs, r.1, r.2)
    where
      xs : List ℕ
      xs = places m f p (differences w c)

      cs : List ℕ
      cs = listed u (suc e)

      len_xs : length xs ≡ distance w c
      len_xs = length-places m f p (differences w c)

      s' : ℕ → ℕ
      s' = moment (times m f) (errors xs)

      agree : (j : ℕ) → 0 < j → j ≤ 2 * t → s j ≡ s' j
      agree = syndromes-moment t w c s bw bc same code syn

      above : (i : ℕ) → suc e ≤ i → u i ≡ 0
      above i h = sol.above i h

      rows_as : (e' : ℕ) (cs' : List ℕ) (j : ℕ) → length cs' ≡ suc e' → e' ≤ e → j < t → convolved (times m f) s' cs' (suc j) ≡ against (times m f) s 17 (coefficient cs') (suc j)
      rows_as e' cs' j len le h =
          sym (convolved-agree m f s s' cs' (suc j) (λ i a b. agree i (omega arith) (omega arith)))
          ∙ sym (against-list (2 ^ m) (times m f) (domain_from_primitive m f p) (one_below m f p) s 17 cs' (suc j) (omega arith))

      solves : Solves (2 ^ m) (times m f) (domain_from_primitive m f p) (one_below m f p) s' t e cs
      solves = record {
        len = length-listed u (suc e);
        lead = listed-at u (suc e) e above ∙ sol.lead;
        small = listed-small (2 ^ m) u (suc e) sol.small;
        rows = λ j h. rows_as e cs j (length-listed u (suc e)) (omega arith) h ∙ against-same (2 ^ m) (times m f) (domain_from_primitive m f p) s 17 (coefficient cs) u (suc j) (λ l. listed-at u (suc e) l above) ∙ sol.rows j h;
      }

      smaller : (e' : ℕ) (cs' : List ℕ) → e' < e → Solves (2 ^ m) (times m f) (domain_from_primitive m f p) (one_below m f p) s' t e' cs' → ⊥
      smaller e' cs' h so = least e' (coefficient cs') h (record {
        lead = so.lead;
        above = λ l g. get_or_past cs' l 0 (let q = so.len in omega arith);
        small = λ l. small-at (2 ^ m) cs' l so.small positive;
        rows = λ j g. sym (rows_as e' cs' j so.len (omega arith) g) ∙ so.rows j g;
      })

  -- a near code word gives a solution: the locator of the places
  pub solvable : (t : ℕ) (w c : List ℕ) (s : ℕ → ℕ) → t ≤ 16 → AreBits w → AreBits c → length w ≡ length c
      → IsMultiple m f t c → distance w c ≤ t → AreSyndromes t w s
      → (u : ℕ → ℕ) × SolvesKey m f s t (distance w c) u
  solvable t w c s ht bw bc same code near syn = (
    coefficient cs,
    record {
      lead = ap (coefficient cs) (sym len_xs) ∙ locator-lead (2 ^ m) (times m f) (domain_from_primitive m f p) (one_below m f p) xs;
      above = λ l g. get_or_past cs l 0 (omega (arith, len_cs, len_xs));
      small = λ l. small-at (2 ^ m) cs l (locator-small (2 ^ m) (times m f) (domain_from_primitive m f p) (one_below m f p) xs) positive;
      rows = λ j h.
          against-list (2 ^ m) (times m f) (domain_from_primitive m f p) (one_below m f p) s 17 cs (suc j) (omega (arith, len_cs, len_xs))
          ∙ convolved-agree m f s (moment (times m f) (errors xs)) cs (suc j) (λ i a b. syndromes-moment t w c s bw bc same code syn i (omega arith) (omega (arith, len_cs, len_xs)))
          ∙ locator-solves (2 ^ m) (times m f) (domain_from_primitive m f p) (one_below m f p) xs (suc j);
    },
  )
    where
      xs : List ℕ
      xs = places m f p (differences w c)

      cs : List ℕ
      cs = locator (times m f) xs

      len_xs : length xs ≡ distance w c
      len_xs = length-places m f p (differences w c)

      len_cs : length cs ≡ suc (length xs)
      len_cs = length-locator (2 ^ m) (times m f) (domain_from_primitive m f p) xs
