-- How a writing starts: at an attach from what was found, and at a mark from two copies that hold
-- the table.
use Rattle.std.proofs.Common.{◌≡◌, ◌≢◌, ◌⊎◌, ℕ, ◌+◌, ◌%◌, true, false, ◌==◌, List, [], ◌∷◌, refl, ap, sym, ◌∙◌, arith, inl, inr, subst, Some, None}
use Rattle.std.proofs.lemmas.Bool.{false≢true}
use Rattle.std.proofs.lemmas.Bool.Decides.{eqb_tells}
use Rattle.chip_paths.specs.Writing.{Places, place_of, next_version, WholeCopies, is_whole, other_of, writing_of}
use Rattle.nand_model.specs.declared.words.Which.{Which}
use Rattle.nand_model.specs.declared.words.Which.TheVariants.{Primary, Mirror}
use Rattle.nand_model.specs.Table.{calls_bad}
use Rattle.relocation_laws.specs.Shelves.{Held, Shelf, with_held, IsOlder, IsCovered, IsBeneath, Newest, IsWithin, Pending, HoldsBoth}
use Rattle.relocation_laws.proofs.Induction.{held-else, held-cases, some-same, other-other, each-kind, same-byte, next-byte, beneath-more}

module _ (TB : ℕ → Type 0) (Form Good : List ℕ → Type 0) (Fresh : Type 0) where
  -- a shelf without what stands in a block beside the newest copy
  pub cleared : (h : Shelf) (j : Newest TB Form Good h) (x : ℕ) → TB x → x ≢ j.place → calls_bad j.copy.table x ≡ false → Newest TB Form Good (with_held h x None)
  cleared h j x inside apart free =
      record {
        place = j.place;
        copy = j.copy;
        at = held-else h x None j.place (λ e. apart (sym e)) ∙ j.at;
        own = j.own;
        shows = j.shows;
        second = j.second;
        spare = x;
        spare_inside = inside;
        spare_apart = apart;
        spare_free = free;
        beneath = λ b c e. j.beneath b c (before b c e);
        others = λ b c e n. j.others b c (before b c e) n;
      }
    where
      before : (b : ℕ) (c : Held) → with_held h x None b ≡ Some c → h b ≡ Some c
      before b c e = on (held-cases h x None b c e)
        where
          on : ((b ≡ x) × (None ≡ Some c)) ⊎ ((b ≢ x) × (h b ≡ Some c)) → h b ≡ Some c
          on (inl q) = absurd (cc)
          on (inr q) = q.1

  -- the writing of the copy beside the newest one, at an attach
  pub start-beside : (h : Shelf) (j : Newest TB Form Good h) (k : Which) (x : ℕ) (places : Places) (whole : WholeCopies)
      → j.copy.which ≡ k → place_of places k ≡ j.place → place_of places (other_of k) ≡ x → is_whole whole k ≡ true
      → TB x → x ≢ j.place → calls_bad j.copy.table x ≡ false → ((b : ℕ) (c : Held) → h b ≡ Some c → b ≢ j.place → b ≢ x → calls_bad j.copy.table b ≡ true)
      → Pending TB Form Good Fresh (writing_of j.copy.table j.copy.version places whole (other_of k ∷ [])) (other_of k) [] h
  start-beside h j k x places whole kind at_k at_x is inside apart free rest =
      record {
        writable = record { byte = newest.version; form = newest.form; shows = j.shows };
        places = record {
          inside = each-kind (λ q. TB (place_of places q)) k (subst TB (sym at_k) newest.inside) (subst TB (sym at_x) inside);
          free = each-kind (λ q. calls_bad j.copy.table (place_of places q) ≡ false) k (ap (calls_bad j.copy.table) at_k ∙ j.own) (ap (calls_bad j.copy.table) at_x ∙ free);
          apart = each-kind (λ q. place_of places q ≢ place_of places (other_of q)) k (λ e. apart (sym at_x ∙ sym e ∙ at_k)) (λ e. apart (sym at_x ∙ e ∙ back ∙ at_k));
        };
        few = omega arith;
        resting = inr j;
        clear = inr (subst (λ y. Newest TB Form Good (with_held h y None)) (sym at_x) (cleared h j x inside apart free));
        beneath = j.beneath;
        others = λ b c e n. on b c e (λ q. n (q ∙ sym at_x)) (eqb_tells b j.place);
        goes_on = inr (refl, ap h (back ∙ at_k) ∙ j.at ∙ ap (λ (c : Held). Some c) newest-is, subst (λ q. is_whole whole q ≡ true) (sym (other-other k)) is);
        going = refl;
        blank = λ e. absurd (false≢true e);
        kept = λ none. absurd (cc (none j.place, held-else h (place_of places (other_of k)) None j.place (λ e. apart (sym at_x ∙ sym e)), j.at));
        aside = inr (j.copy, ap h (back ∙ at_k) ∙ j.at);
      }
    where
      newest : IsBeneath TB Form Good j.copy.table j.place j.copy
      newest = j.beneath j.place j.copy j.at

      back : place_of places (other_of (other_of k)) ≡ place_of places k
      back = ap (place_of places) (other-other k)

      newest-is : j.copy ≡ record { which = other_of (other_of k); version = j.copy.version; table = j.copy.table }
      newest-is = ap (λ q. record { which = q; version = j.copy.version; table = j.copy.table }) (kind ∙ sym (other-other k))

      on : (b : ℕ) (c : Held) → h b ≡ Some c → b ≢ x → ((b == j.place) ≡ true) × (b ≡ j.place) ⊎ (((b == j.place) ≡ false) × (b ≢ j.place))
          → (calls_bad j.copy.table b ≡ true)
          ⊎ ((b ≡ place_of places (other_of (other_of k))) × (c.which ≡ other_of (other_of k))
          × IsWithin TB Form Good Fresh (writing_of j.copy.table j.copy.version places whole (other_of k ∷ [])) c (record { which = other_of k; version = j.copy.version; table = j.copy.table }) × Good c.table)
      on b c e far (inl t) =
          let same : j.copy ≡ c = some-same j.copy c (sym j.at ∙ ap h (sym t.1) ∙ e) in
          inr (
            t.1 ∙ sym at_k ∙ sym back,
            ap (λ (d : Held). d.which) (sym same) ∙ kind ∙ sym (other-other k),
            (0, omega arith, subst (λ (d : Held). j.copy.version ≡ (d.version + 0) % 256) same (same-byte j.copy.version newest.version), λ z. ap (λ (d : Held). d.table) (sym same)),
            subst (λ (d : Held). Good d.table) same j.shows,
          )
      on b c e far (inr t) = inl (rest b c e t.1 far)

  -- both places hold the table: that of the primary is the newest copy
  pub both-rest : (table : List ℕ) (version : ℕ) (places : Places) (h : Shelf) → HoldsBoth TB Form Good Fresh table version places h → Newest TB Form Good h
  both-rest table version places h b =
      record {
        place = places.primary;
        copy = record { which = Primary; version = version; table = table };
        at = b.at Primary;
        own = b.fit.free Primary;
        shows = b.writable.shows;
        second = places.mirror;
        spare = places.mirror;
        spare_inside = b.fit.inside Mirror;
        spare_apart = b.fit.apart Mirror;
        spare_free = b.fit.free Mirror;
        beneath = b.beneath;
        others = λ x c e n. on x c e n (eqb_tells x places.mirror);
      }
    where
      on : (x : ℕ) (c : Held) → h x ≡ Some c → x ≢ places.primary → ((x == places.mirror) ≡ true) × (x ≡ places.mirror) ⊎ (((x == places.mirror) ≡ false) × (x ≢ places.mirror))
          → (calls_bad table x ≡ true) ⊎ ((x ≡ places.mirror) × (c.which ≡ Mirror) × IsOlder 3 c (record { which = Primary; version = version; table = table }) × Good c.table)
      on x c e n (inl t) =
          let same : record { which = Mirror; version = version; table = table } ≡ c = some-same _ c (sym (b.at Mirror) ∙ ap h (sym t.1) ∙ e) in
          inr (
            t.1,
            ap (λ (d : Held). d.which) (sym same),
            record {
              steps = 0;
              few = omega arith;
              version = subst (λ (d : Held). version ≡ (d.version + 0) % 256) same (same-byte version b.writable.byte);
              same = λ z. ap (λ (d : Held). d.table) (sym same);
            },
            subst (λ (d : Held). Good d.table) same b.writable.shows,
          )
      on x c e n (inr t) = inl (b.others x c e n t.1)

  -- the writing of a mark: both places hold the table from before, and the new one calls more
  -- blocks bad, but neither place
  pub start-mark : (old new : List ℕ) (version : ℕ) (places : Places) (h : Shelf) → HoldsBoth TB Form Good Fresh old version places h
      → IsCovered old new → Form new → Good new → ((k : Which) → calls_bad new (place_of places k) ≡ false)
      → Pending TB Form Good Fresh (writing_of new (next_version version) places (record { primary = true; mirror = true }) (Primary ∷ Mirror ∷ [])) Primary (Mirror ∷ []) h
  start-mark old new version places h b covered form shows free =
      record {
        writable = record { byte = next-byte version; form = form; shows = shows };
        places = record { inside = b.fit.inside; free = free; apart = b.fit.apart };
        few = omega arith;
        resting = inr (both-rest old version places h b);
        clear = inr mirror-rest;
        beneath = λ x c e. beneath-more TB Form Good Fresh old new x c covered (b.beneath x c e);
        others = λ x c e n. on x c e n (eqb_tells x places.mirror);
        goes_on = inl refl;
        going = refl;
        blank = λ e. absurd (false≢true e);
        kept = λ none. absurd (cc (none places.mirror, held-else h places.primary None places.mirror (λ e. b.fit.apart Primary (sym e)), b.at Mirror));
        aside = inr (mirror-held, b.at Mirror);
      }
    where
      mirror-held : Held
      mirror-held = record { which = Mirror; version = version; table = old }

      cleared-held : (x : ℕ) (c : Held) → with_held h places.primary None x ≡ Some c → (x ≢ places.primary) × (h x ≡ Some c)
      cleared-held x c e = by (held-cases h places.primary None x c e)
        where
          by : ((x ≡ places.primary) × (None ≡ Some c)) ⊎ ((x ≢ places.primary) × (h x ≡ Some c)) → (x ≢ places.primary) × (h x ≡ Some c)
          by (inl q) = absurd (cc)
          by (inr q) = (q.0, q.1)

      -- the mirror's copy stays while the primary's block is written
      mirror-rest : Newest TB Form Good (with_held h places.primary None)
      mirror-rest =
          record {
            place = places.mirror;
            copy = mirror-held;
            at = held-else h places.primary None places.mirror (λ e. b.fit.apart Primary (sym e)) ∙ b.at Mirror;
            own = b.fit.free Mirror;
            shows = b.writable.shows;
            second = places.primary;
            spare = places.primary;
            spare_inside = b.fit.inside Primary;
            spare_apart = b.fit.apart Primary;
            spare_free = b.fit.free Primary;
            beneath = λ x c e. b.beneath x c (cleared-held x c e).1;
            others = λ x c e n. inl (b.others x c (cleared-held x c e).1 (cleared-held x c e).0 n);
          }

      on : (x : ℕ) (c : Held) → h x ≡ Some c → x ≢ places.primary → ((x == places.mirror) ≡ true) × (x ≡ places.mirror) ⊎ (((x == places.mirror) ≡ false) × (x ≢ places.mirror))
          → (calls_bad new x ≡ true)
          ⊎ ((x ≡ places.mirror) × (c.which ≡ Mirror)
          × IsWithin TB Form Good Fresh (writing_of new (next_version version) places (record { primary = true; mirror = true }) (Primary ∷ Mirror ∷ [])) c (record { which = Primary; version = next_version version; table = new }) × Good c.table)
      on x c e n (inl t) =
          let same : mirror-held ≡ c = some-same mirror-held c (sym (b.at Mirror) ∙ ap h (sym t.1) ∙ e) in
          inr (
            t.1,
            ap (λ (d : Held). d.which) (sym same),
            (1, omega arith, subst (λ (d : Held). next_version version ≡ (d.version + 1) % 256) same refl, λ z. absurd (omega (arith, z))),
            subst (λ (d : Held). Good d.table) same b.writable.shows,
          )
      on x c e n (inr t) = inl (covered x (b.others x c e n t.1))
