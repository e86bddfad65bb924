-- An attach of a chip whose two places hold the table finds both copies and writes nothing.
use Rattle.std.proofs.Common.{◌≡◌, ◌≢◌, ◌⊎◌, inl, inr, ◌≤◌, ◌==◌, ℕ, Bool, true, false, List, [], ◌∷◌, filter, map, Option, Some, None, refl, ap, sym, ◌∙◌, subst}
use Rattle.std.specs.Prelude.{⊤}
use Rattle.std.proofs.lemmas.Bool.{and_parts, false≢true, false_from_ne_true}
use Rattle.std.proofs.lemmas.Bool.Decides.{eqb_tells}
use Rattle.std.proofs.lemmas.Option.{none-some}
use Rattle.nand_model.specs.Chip.{ChipEvent, ChipState, Complete, FaultModel, Flipped, PowerCut, after_trace, happens}
use Rattle.nand_model.specs.Path.{GoesAlong, Path, after_answers, answers_of, is_uncut, next_event, result_of}
use Rattle.nand_model.specs.Quiet.{is_quiet}
use Rattle.nand_model.specs.Table.{Copy, calls_bad, table_blocks}
use Rattle.nand_model.specs.declared.geometry.Geometry.{Geometry}
use Rattle.nand_model.specs.declared.words.Choice.{Choice}
use Rattle.nand_model.specs.declared.words.Choice.TheVariants.{Primary as UsePrimary}
use Rattle.nand_model.specs.declared.words.Origin.TheVariants.{Primary as FromPrimary}
use Rattle.nand_model.specs.declared.words.Which.{Which}
use Rattle.nand_model.specs.declared.words.Which.TheVariants.{Primary, Mirror}
use Rattle.chip_paths.specs.Attach.{Attaching, attach_by, attach_path, use_copy, use_found}
use Rattle.chip_paths.specs.Copies.{candidates, copies_held, found_among, is_disowned, is_valid, places_for, used_copy}
use Rattle.chip_paths.specs.Writing.{Places, other_of, place_of}
use Rattle.run_model.specs.History.{attach_outcome, outcome_if, was_quiet}
use Rattle.page_laws.specs.Keeping.{EachStep, IsQuietEvent}
use Rattle.relocation_laws.specs.Agreement.{copy_as, listed}
use Rattle.relocation_laws.specs.Shelves.{Held, HoldsBoth, Shelf}
use Rattle.relocation_laws.specs.Tables.{IsTable, IsTableBlock}
use Rattle.relocation_laws.proofs.Choosing.{choice-same}
use Rattle.relocation_laws.proofs.Finding.{blocks-seen, disowned-at, disowned-never, found-at, listed-seen, not-valid-disowned, not-valid-kind, valid-at}
use Rattle.relocation_laws.proofs.Goes.{Holding, Setting}
use Rattle.relocation_laws.proofs.Reading.{Still, scan-safe}
use Rattle.relocation_laws.proofs.Safety.{Safe, SafeAfter, Safety, goes_on, safe-result, safe-trace, was_cut}
use Rattle.copy_laws.proofs.Writings.{is_kind}

held_same : (a b : Held) → Some a ≡ Some b → a ≡ b
held_same a b e = cc

-- each event of a quiet attach found the chip quiet
pub each_quiet : {W : Type 0} (model : FaultModel W) (s : ChipState W) (trace : List ChipEvent) → was_quiet model s trace ≡ true → EachStep model (λ s e. IsQuietEvent s e) s trace
each_quiet model s [] h = tt
each_quiet model s (Flipped page bit ∷ trace) h = (tt, each_quiet model (happens model s (Flipped page bit)) trace h)
each_quiet model s (Complete e ∷ trace) h =
    let p = and_parts (is_quiet s.geometry s.pages) (was_quiet model (happens model s (Complete e)) trace) h in
    (p.0, each_quiet model (happens model s (Complete e)) trace p.1)
each_quiet model s (PowerCut e done ∷ trace) h =
    let p = and_parts (is_quiet s.geometry s.pages) (was_quiet model (happens model s (PowerCut e done)) trace) h in
    (p.0, each_quiet model (happens model s (PowerCut e done)) trace p.1)

outcome_parts : (t : Bool) (r : Option Attaching) (a : Attaching) → outcome_if t r ≡ Some a → (t ≡ true) × (r ≡ Some a)
outcome_parts true r a e = (refl, e)
outcome_parts false r a e = absurd (none-some a e)

-- the outcome of an attach that finds both
abbrev pub found_both : List ℕ → ℕ → Places → Attaching
found_both table version places = record { table = table; origin = FromPrimary; version = version; places = places; copies = 2 }

module _ {W : Type 0} (model : FaultModel W) (g : Geometry) (c : Setting g) (enough : 4 ≤ g.blocks) (Good_ : List ℕ → Type 0) (Fresh : Type 0) (table : List ℕ) (version : ℕ) (places : Places) (holds : Shelf)
    (both : HoldsBoth (IsTableBlock g c.is_good) (IsTable g) Good_ Fresh table version places holds) where
  abbrev the_law : Safety W Attaching
  the_law = record { model = model; granted = λ s e. IsQuietEvent s e; moment = λ path s. ⊤; ended = λ s. ⊤; result = λ a s. a ≡ found_both table version places }

  abbrev copy_at : Which → Held
  copy_at k = record { which = k; version = version; table = table }

  abbrev held : List (ℕ × Copy)
  held = listed holds (table_blocks g)

  good_ones : (b : ℕ) → c.is_good b ≡ false → holds b ≡ None
  good_ones b bad = on (holds b) refl
    where
      on : (o : Option Held) → holds b ≡ o → holds b ≡ None
      on None e = e
      on (Some d) e = absurd (false≢true (sym bad ∙ (both.beneath b d e).inside.1))

  not_called : (k : Which) (x : ℕ) (d : Held) → holds x ≡ Some d → calls_bad d.table (place_of places k) ≡ false
  not_called k x d e =
      false_from_ne_true (calls_bad d.table (place_of places k))
      (λ t. false≢true (sym (both.fit.free k) ∙ (both.beneath x d e).covered (place_of places k) t))

  owned : (k : Which) → is_disowned held (place_of places k) ≡ false
  owned k = disowned-never holds (table_blocks g) (place_of places k) (λ x d e apart. not_called k x d e)

  only : (k : Which) (b : ℕ) (d : Held) → holds b ≡ Some d → is_valid held k (b, copy_as d) ≡ true → b ≡ place_of places k
  only k b d e valid = on (eqb_tells b (place_of places k)) (eqb_tells b (place_of places (other_of k)))
    where
      on : ((b == place_of places k) ≡ true) × (b ≡ place_of places k) ⊎ (((b == place_of places k) ≡ false) × (b ≢ place_of places k))
          → ((b == place_of places (other_of k)) ≡ true) × (b ≡ place_of places (other_of k)) ⊎ (((b == place_of places (other_of k)) ≡ false) × (b ≢ place_of places (other_of k)))
          → b ≡ place_of places k
      on (inl t) u = t.1
      on (inr t) (inl u) =
          let same : d ≡ copy_at (other_of k) = held_same d (copy_at (other_of k)) (sym e ∙ ap holds u.1 ∙ both.at (other_of k)) in
          absurd (false≢true (sym (not-valid-kind held k b d (ap (λ (h : Held). h.which) same)) ∙ valid))
      on (inr t) (inr u) =
          absurd (false≢true (sym (not-valid-disowned held k b d (disowned-at holds (table_blocks g) b (place_of places k) (copy_at k) (both.fit.inside k).0 (both.at k) (λ f. t.1 (sym f))
          (both.others b d e (apart Primary) (apart Mirror)))) ∙ valid))
        where
          apart : (q : Which) → b ≢ place_of places q
          apart q f = by (is_kind k q)
            where
              by : (q ≡ k) ⊎ (q ≡ other_of k) → ⊥
              by (inl same) = t.1 (f ∙ ap (place_of places) same)
              by (inr same) = u.1 (f ∙ ap (place_of places) same)

  found_is : (k : Which) → found_among held k ≡ Some (place_of places k, copy_as (copy_at k))
  found_is k =
      found-at holds (is_valid held k) (table_blocks g) (place_of places k) (copy_at k) (both.fit.inside k).0 (both.at k)
      (valid-at held k (place_of places k) (copy_at k) refl (owned k)) (only k)

  abbrev blocks : List ℕ
  blocks = filter c.is_good (table_blocks g)

  abbrev seen : Which → Option (ℕ × Copy)
  seen k = Some (place_of places k, copy_as (copy_at k))

  abbrev by_choice : Choice → Path Attaching
  by_choice choice = use_copy g (places_for g blocks (seen Primary) (seen Mirror)) choice (used_copy choice (seen Primary) (seen Mirror))

  -- both are found, and nothing is to be written
  chosen : (s : ChipState W)
      → Safe the_law (use_found g (places_for g blocks (found_among held Primary) (found_among held Mirror)) (found_among held Primary) (found_among held Mirror)) s
  chosen s =
      subst (λ o. Safe the_law (use_found g (places_for g blocks o (found_among held Mirror)) o (found_among held Mirror)) s) (sym (found_is Primary))
      (subst (λ o. Safe the_law (use_found g (places_for g blocks (seen Primary) o) (seen Primary) o) s) (sym (found_is Mirror))
      (subst (λ choice. Safe the_law (by_choice choice) s) (sym (choice-same version)) over))
    where
      over : Safe the_law (by_choice (UsePrimary false)) s
      over = λ flips. (tt, ap (λ t. found_both t version places) both.writable.form.back)

  still : Still model g c enough Good_ Fresh (λ s e. IsQuietEvent s e) (λ path s. ⊤) (λ s. ⊤) (λ a s. a ≡ found_both table version places) (λ s e q. q) holds
  still = record { before = λ page rest t h. tt; after_cut = λ t h. tt }

  finds_safe : (s : ChipState W) → Holding g c Good_ Fresh holds None s → Safe the_law (attach_path g) s
  finds_safe s h =
      subst (λ t. Safe the_law (attach_by t g) s) (sym c.tables)
      (scan-safe model g c enough Good_ Fresh (λ s e. IsQuietEvent s e) (λ path s. ⊤) (λ s. ⊤) (λ a s. a ≡ found_both table version places) (λ s e q. q) holds still (table_blocks g) [] []
      (λ pages. path (candidates g pages)) s refl tt h
      (λ t pages all i. subst (λ l. Safe the_law (path_of l (map (λ (k : ℕ × List ℕ). k.0) (candidates g pages))) t) (sym (listed-seen g c.is_good holds good_ones (table_blocks g) pages all))
      (subst (λ bs. Safe the_law (path_of (listed holds (table_blocks g)) bs) t) (sym (blocks-seen g c.is_good holds good_ones (table_blocks g) pages all)) (chosen t))))
    where
      path_of : List (ℕ × Copy) → List ℕ → Path Attaching
      path_of held blocks = use_found g (places_for g blocks (found_among held Primary) (found_among held Mirror)) (found_among held Primary) (found_among held Mirror)

      path : List (ℕ × List ℕ) → Path Attaching
      path cs = path_of (copies_held g cs) (map (λ (k : ℕ × List ℕ). k.0) cs)

  -- an attach along a trace
  pub attach_finds : (s : ChipState W) (trace : List ChipEvent) (a : Attaching) → Holding g c Good_ Fresh holds None s → GoesAlong model (next_event (attach_path s.geometry)) s [] trace
      → was_quiet model s trace ≡ true → attach_outcome model s trace ≡ Some a → a ≡ found_both table version places
  attach_finds s trace a h along quiet outcome =
      on (safe-trace the_law (attach_path g) trace s [] (subst (λ q. GoesAlong model (next_event (attach_path q)) s [] trace) h.geometry along) (each_quiet model s trace quiet) (finds_safe s h))
    where
      parts : (is_uncut trace ≡ true) × (result_of (after_answers (answers_of model s trace) (attach_path s.geometry)) ≡ Some a)
      parts = outcome_parts (is_uncut trace) (result_of (after_answers (answers_of model s trace) (attach_path s.geometry))) a outcome

      on : SafeAfter the_law (attach_path g) s [] trace → a ≡ found_both table version places
      on (was_cut u m) = absurd (false≢true (sym u ∙ parts.0))
      on (goes_on u safe) =
          safe-result the_law (after_answers (answers_of model s trace) (attach_path g)) (after_trace model s trace) a
          (subst (λ q. result_of (after_answers (answers_of model s trace) (attach_path q)) ≡ Some a) h.geometry parts.1) safe
