-- What passes have seen, as the history grows and passes come together.
use Rattle.std.proofs.Common.{◌≡◌, ◌≢◌, ℕ, zero, suc, ◌+◌, ◌<◌, ◌≤◌, inl, inr, List, [], ◌∷◌, ◌++◌, append_assoc, append-nil, length, sym, ◌∙◌, ap, refl, subst, arith}
use mathlib.Core.Logic.{dite}
use native.Mathlib.Decide.{ℕ_discrete}
use Rattle.turnstile.specs.History.{Appends, HasSeen, NamesNowhere}
use Rattle.turnstile.specs.Turns.{AllHaveSeen, times, new_passes}
use Rattle.turnstile.specs.Plays.{but_first, first_only}
use Rattle.turnstile.specs.declared.view.Seen.{Seen}
use Rattle.turnstile.proofs.Totals.{hit, miss}

module _ {E : Type 0} (name : E → ℕ) where
  pub nowhere_more : (number : ℕ) (entry : E) (later : List E) → NamesNowhere name number later → name entry ≢ number
      → NamesNowhere name number (later ++ entry ∷ [])
  nowhere_more number entry [] h n = (n, tt)
  nowhere_more number entry (e ∷ es) h n = (h.0, nowhere_more number entry es h.1 n)

  pub seen_all : (number : ℕ) (history : List E) → HasSeen name history number history
  seen_all number history = record { later = []; begins = sym (append-nil history); own = tt }

  -- an entry of another pass
  pub still_seen : (history : List E) (number : ℕ) (seen : List E) (entry : E) → HasSeen name history number seen
      → name entry ≢ number → HasSeen name (history ++ entry ∷ []) number seen
  still_seen history number seen entry h n =
      record {
        later = h.later ++ entry ∷ [];
        begins = ap (λ (l : List E). l ++ entry ∷ []) h.begins
            ∙ append_assoc seen h.later (entry ∷ []);
        own = nowhere_more number entry h.later h.own n;
      }

  pub all_still_seen : (history : List E) (entry : E) (passes : List (Seen E)) → AllHaveSeen name history passes
      → times (name entry) passes ≡ 0 → AllHaveSeen name (history ++ entry ∷ []) passes
  all_still_seen history entry [] h none = tt
  all_still_seen history entry (p ∷ ps) h none =
      dite (ℕ_discrete p.number (name entry))
      (λ (e : p.number ≡ name entry). let one = hit p.number (name entry) e in absurd (omega arith))
      (λ (ne : p.number ≢ name entry). (
        still_seen history p.number p.entries entry h.0
            (λ (e : name entry ≡ p.number). ne (sym e)),
        all_still_seen history entry ps h.1 (omega arith),
      ))

  -- after an act of the pass with this number
  pub all_see_act : (number : ℕ) (before after : List E) (passes : List (Seen E)) → Appends name number before after
      → AllHaveSeen name before passes → times number passes ≡ 0 → AllHaveSeen name after passes
  all_see_act number before after passes (inl same) h none = subst (λ (l : List E). AllHaveSeen name l passes)
      (sym same) h
  all_see_act number before after passes (inr a) h none =
      subst (λ (l : List E). AllHaveSeen name l passes) (sym a.1) (all_still_seen before a.0 passes h
      (ap (λ (n : ℕ). times n passes) a.2 ∙ none))

  pub all_seen_append : (history : List E) (ps qs : List (Seen E)) → AllHaveSeen name history ps
      → AllHaveSeen name history qs → AllHaveSeen name history (ps ++ qs)
  all_seen_append history [] qs a b = b
  all_seen_append history (p ∷ ps) qs a b = (a.0, all_seen_append history ps qs a.1 b)

  pub all_seen_kept : (history : List E) (ps : List (Seen E)) → AllHaveSeen name history ps
      → AllHaveSeen name history (but_first ps)
  all_seen_kept history [] h = tt
  all_seen_kept history (p ∷ ps) h = h.1

  pub all_seen_given : (history : List E) (ps : List (Seen E)) → AllHaveSeen name history ps
      → AllHaveSeen name history (first_only ps)
  all_seen_given history [] h = tt
  all_seen_given history (p ∷ ps) h = (h.0, tt)

  pub new_seen : (from many : ℕ) → AllHaveSeen name [] (new_passes from many)
  new_seen from zero = tt
  new_seen from (suc many) = (record { later = []; begins = refl; own = tt }, new_seen (suc from) many)

module _ {E : Type 0} where
  pub times_append : (n : ℕ) (ps qs : List (Seen E)) → times n (ps ++ qs) ≡ times n ps + times n qs
  times_append n [] qs = omega arith
  times_append n (p ∷ ps) qs = let h = times_append n ps qs in omega arith

  pub times_cut : (n : ℕ) (ps : List (Seen E)) → times n (but_first ps) + times n (first_only ps) ≡ times n ps
  times_cut n [] = refl
  times_cut n (p ∷ ps) = omega arith

  pub length_cut : (ps : List (Seen E)) → length (but_first ps) + length (first_only ps) ≡ length ps
  length_cut [] = refl
  length_cut (p ∷ ps) = omega arith

module _ (E : Type 0) where
  pub new_length : (from many : ℕ) → length (new_passes {E = E} from many) ≡ many
  new_length from zero = refl
  new_length from (suc many) = let h = new_length (suc from) many in omega arith

  pub new_below : (n from many : ℕ) → n < from → times n (new_passes {E = E} from many) ≡ 0
  new_below n from zero less = refl
  new_below n from (suc many) less =
      let h = new_below n (suc from) many (omega arith) in let none = miss from n (λ e. omega arith) in omega arith

  pub new_once : (n from many : ℕ) → times n (new_passes {E = E} from many) ≤ 1
  new_once n from zero = omega arith
  new_once n from (suc many) =
      dite (ℕ_discrete from n)
      (λ (e : from ≡ n). let one = hit from n e in let h = new_below n (suc from) many (omega arith) in omega arith)
      (λ (ne : from ≢ n). let none = miss from n ne in let h = new_once n (suc from) many in omega arith)
