-- The statistics of a list of entries, by the place of an entry.
use Rattle.std.proofs.Common.{◌≡◌, ℕ, zero, suc, ◌+◌, ◌<◌, ◌≤◌, Bool, true, false, if◌then◌else◌, List, [], ◌∷◌, ◌++◌, length, get_or, set, Option, Some, None, refl, ap, sym, subst, ◌∙◌, inl, inr, arith, length-append}
use Rattle.std.specs.Prelude.{IsSome, ◌==◌, nat_lt}
use Rattle.std.proofs.lemmas.Bool.{both_ways, cases_eq, cases_lt, cond-false, cond-true, eqb-true, eq-eqb, lt-ltb, ne_eqb}
use Rattle.std.proofs.lemmas.List.{get_or_push}
use Rattle.std.proofs.lemmas.List.Quantifiers.{position-Some}
use Rattle.std.proofs.lemmas.List.Sums.{fails_before_first}
use Rattle.std.specs.List.{position_or_len}
use Rattle.chip_paths.specs.Operation.{with_statistics}
use Rattle.nand_model.specs.Page.{Decoding}
use Rattle.nand_model.specs.declared.words.Stats.{Stats}
use Rattle.chip_core.specs.Sums.{place_of, stats_in}
use Rattle.chip_core.specs.declared.sums.DeviceSums.{DeviceSums}

-- the entry at this place is the first one of the device
pub record IsFirst (entries : List DeviceSums) (dev at : ℕ) (entry : DeviceSums) : Type 0 where
  pub there : at < length entries
  pub is : (get_or entries at entry).dev ≡ dev
  pub before : (k : ℕ) → k < at → ((get_or entries k entry).dev == dev) ≡ false

pub found_first : (entries : List DeviceSums) (dev at : ℕ) (entry : DeviceSums) → place_of entries dev ≡ Some at → IsFirst entries dev at entry
found_first entries dev at entry found =
    let first = position-Some (λ (e : DeviceSums). e.dev == dev) entries at entry found in
    record { there = first.0; is = eqb-true (get_or entries at entry).dev dev first.1; before = first.2 }

first_further : (e : DeviceSums) (entries : List DeviceSums) (dev at : ℕ) (entry : DeviceSums) → IsFirst (e ∷ entries) dev (suc at) entry
    → IsFirst entries dev at entry
first_further e entries dev at entry first =
    record {
      there = let within = first.there in omega arith;
      is = first.is;
      before = λ k low. first.before (suc k) (omega arith);
    }

head_other : (e : DeviceSums) (entries : List DeviceSums) (dev at : ℕ) (entry : DeviceSums) → IsFirst (e ∷ entries) dev (suc at) entry → (e.dev == dev) ≡ false
head_other e entries dev at entry first = first.before 0 (omega arith)

-- the statistics of a device are those of its first entry
pub stats_where_first : (entries : List DeviceSums) (dev at : ℕ) (entry : DeviceSums) → IsFirst entries dev at entry
    → stats_in entries dev ≡ (get_or entries at entry).stats
stats_where_first [] dev at entry first = let there = first.there in absurd (omega arith)
stats_where_first (e ∷ entries) dev zero entry first = cond-true (e.dev == dev) e.stats (stats_in entries dev) (eq-eqb e.dev dev first.is)
stats_where_first (e ∷ entries) dev (suc at) entry first =
    cond-false (e.dev == dev) e.stats (stats_in entries dev) (head_other e entries dev at entry first)
    ∙ stats_where_first entries dev at entry (first_further e entries dev at entry first)

-- where no entry is found, none is one of the device
pub none_found : (entries : List DeviceSums) (dev : ℕ) → place_of entries dev ≡ None → (k : ℕ) → k < length entries → (entry : DeviceSums)
    → ((get_or entries k entry).dev == dev) ≡ false
none_found entries dev none k within entry =
    let p : DeviceSums → Bool = λ e. e.dev == dev in
    let past : length entries ≤ position_or_len p entries = elim (cases_lt (position_or_len p entries) (length entries)) [
      | inl found ↦
          let some : place_of entries dev ≡ Some (position_or_len p entries) =
          cond-true (nat_lt (position_or_len p entries) (length entries)) (Some (position_or_len p entries)) None (lt-ltb _ _ found) in
          let no : None ≡ Some (position_or_len p entries) = sym none ∙ some in cc
      | inr past ↦ past
    ] in
    fails_before_first p entries k entry (omega arith)

no_stats : (entries : List DeviceSums) (dev : ℕ) (entry : DeviceSums) → ((k : ℕ) → k < length entries → ((get_or entries k entry).dev == dev) ≡ false)
    → stats_in entries dev ≡ record { corrected = 0; failed = 0 }
no_stats [] dev entry none = refl
no_stats (e ∷ entries) dev entry none =
    cond-false (e.dev == dev) e.stats (stats_in entries dev) (none 0 (omega arith))
    ∙ no_stats entries dev entry (λ k within. none (suc k) (omega arith))

-- and its statistics are 0
pub stats_where_none : (entries : List DeviceSums) (dev : ℕ) → place_of entries dev ≡ None → stats_in entries dev ≡ record { corrected = 0; failed = 0 }
stats_where_none entries dev none =
    let entry : DeviceSums = record { dev = 0; stats = record { corrected = 0; failed = 0 } } in
    no_stats entries dev entry (λ k within. none_found entries dev none k within entry)

some_from : (o : Option ℕ) → (o ≡ None → ⊥) → IsSome o
some_from None some = absurd (some refl)
some_from (Some x) some = refl

-- an entry that was added is found
pub added_found : (entries : List DeviceSums) (new : DeviceSums) → IsSome (place_of (entries ++ new ∷ []) new.dev)
added_found entries new =
    some_from (place_of (entries ++ new ∷ []) new.dev)
    (λ none.
    let within : length entries < length (entries ++ new ∷ []) = rw length-append (omega arith) in
    let other : (new.dev == new.dev) ≡ false = rw (get_or_push entries new new) at (none_found (entries ++ new ∷ []) new.dev none (length entries) within new) in
    both_ways (new.dev == new.dev) other (eq-eqb new.dev new.dev refl))

same_if : (b : Bool) (stats : Stats) → (if b then stats else stats) ≡ stats
same_if true stats = refl
same_if false stats = refl

-- one more entry with statistics 0 changes none
stats-push : (entries : List DeviceSums) (new : ℕ) (dev : ℕ)
    → stats_in (entries ++ record { dev = new; stats = record { corrected = 0; failed = 0 } } ∷ []) dev ≡ stats_in entries dev
stats-push [] new dev = same_if (new == dev) (record { corrected = 0; failed = 0 })
stats-push (e ∷ entries) new dev = ap (λ rest. if e.dev == dev then e.stats else rest) (stats-push entries new dev)

pub stats_kept : (entries : List DeviceSums) (new : ℕ)
    → stats_in (entries ++ record { dev = new; stats = record { corrected = 0; failed = 0 } } ∷ []) ≡ stats_in entries
stats_kept entries new = λ i dev. stats-push entries new dev i

-- the statistics in a changed first entry of a device are those of the device
module _ (dev : ℕ) (changed : DeviceSums) (is : changed.dev ≡ dev) (d : ℕ) where
  at_head : (e : DeviceSums) (rest : Stats) → e.dev ≡ dev
      → (if changed.dev == d then changed.stats else rest) ≡ (if d == dev then changed.stats else (if e.dev == d then e.stats else rest))
  at_head e rest same = elim (cases_eq d dev) [
    | inl here ↦
        cond-true (changed.dev == d) changed.stats rest (eq-eqb changed.dev d (is ∙ sym here))
        ∙ sym (cond-true (d == dev) changed.stats (if e.dev == d then e.stats else rest) (eq-eqb d dev here))
    | inr other ↦
        cond-false (changed.dev == d) changed.stats rest (ne_eqb changed.dev d (λ e. other (sym e ∙ is)))
        ∙ sym (cond-false (e.dev == d) e.stats rest (ne_eqb e.dev d (λ e. other (sym e ∙ same))))
        ∙ sym (cond-false (d == dev) changed.stats (if e.dev == d then e.stats else rest) (ne_eqb d dev other))
  ]

  further : (e : DeviceSums) (rest : Stats) → (e.dev == dev) ≡ false
      → (if e.dev == d then e.stats else (if d == dev then changed.stats else rest)) ≡ (if d == dev then changed.stats else (if e.dev == d then e.stats else rest))
  further e rest other = elim (cases_eq d dev) [
    | inl here ↦
        cond-false (e.dev == d) e.stats (if d == dev then changed.stats else rest) (rw here other)
        ∙ cond-true (d == dev) changed.stats rest (eq-eqb d dev here)
        ∙ sym (cond-true (d == dev) changed.stats (if e.dev == d then e.stats else rest) (eq-eqb d dev here))
    | inr elsewhere ↦
        ap (λ rest. if e.dev == d then e.stats else rest) (cond-false (d == dev) changed.stats rest (ne_eqb d dev elsewhere))
        ∙ sym (cond-false (d == dev) changed.stats (if e.dev == d then e.stats else rest) (ne_eqb d dev elsewhere))
  ]

  stats-set : (entries : List DeviceSums) (at : ℕ) (entry : DeviceSums) → IsFirst entries dev at entry
      → stats_in (set entries at changed) d ≡ (if d == dev then changed.stats else stats_in entries d)
  stats-set [] at entry first = let there = first.there in absurd (omega arith)
  stats-set (e ∷ entries) zero entry first = at_head e (stats_in entries d) first.is
  stats-set (e ∷ entries) (suc at) entry first =
      ap (λ rest. if e.dev == d then e.stats else rest) (stats-set entries at entry (first_further e entries dev at entry first))
      ∙ further e (stats_in entries d) (head_other e entries dev at entry first)

-- the counts of a decoded page are added
pub stats_added : (entries : List DeviceSums) (dev at : ℕ) (entry changed : DeviceSums) (d : Decoding) → IsFirst entries dev at entry → changed.dev ≡ dev
    → changed.stats.corrected ≡ (stats_in entries dev).corrected + d.corrected → changed.stats.failed ≡ (stats_in entries dev).failed + d.failed
    → stats_in (set entries at changed) ≡ with_statistics (stats_in entries) dev d
stats_added entries dev at entry changed d first is corrected failed =
    λ i e. (stats-set dev changed is e entries at entry first ∙ sums e) i
  where
    total : changed.stats ≡ record { corrected = (stats_in entries dev).corrected + d.corrected; failed = (stats_in entries dev).failed + d.failed }
    total = λ i. record { corrected = corrected i; failed = failed i }

    sums : (e : ℕ) → (if e == dev then changed.stats else stats_in entries e) ≡ with_statistics (stats_in entries) dev d e
    sums e = elim (cases_eq e dev) [
      | inl here ↦
          let goes : Stats → Type 0 = λ s. (if e == dev then s else stats_in entries e) ≡ with_statistics (stats_in entries) dev d e in
          subst goes (sym total) (rw (← here) refl)
      | inr other ↦
          cond-false (e == dev) changed.stats (stats_in entries e) (ne_eqb e dev other)
          ∙ sym (cond-false (e == dev) _ (stats_in entries e) (ne_eqb e dev other))
    ]

-- an entry that was found and read
module _ (entries items : List DeviceSums) (view : items ≡ entries) (dev at : ℕ) (entry : DeviceSums) (found : place_of entries dev ≡ Some at)
    (read : entry ≡ get_or items at entry) where
  entry_is : entry ≡ get_or entries at entry
  entry_is = read ∙ ap (λ (xs : List DeviceSums). get_or xs at entry) view

  first : IsFirst entries dev at entry
  first = found_first entries dev at entry found

  pub its_stats : entry.stats ≡ stats_in entries dev
  its_stats = ap (λ (e : DeviceSums). e.stats) entry_is ∙ sym (stats_where_first entries dev at entry first)

  pub its_stats_added : (changed : DeviceSums) (d : Decoding) → changed.dev ≡ entry.dev
      → changed.stats.corrected ≡ entry.stats.corrected + d.corrected → changed.stats.failed ≡ entry.stats.failed + d.failed
      → stats_in (set items at changed) ≡ with_statistics (stats_in entries) dev d
  its_stats_added changed d same corrected failed =
      ap (λ (xs : List DeviceSums). stats_in (set xs at changed)) view
      ∙ stats_added entries dev at entry changed d first (same ∙ ap (λ (e : DeviceSums). e.dev) entry_is ∙ first.is)
      (corrected ∙ ap (λ (s : Stats). s.corrected + d.corrected) its_stats) (failed ∙ ap (λ (s : Stats). s.failed + d.failed) its_stats)
