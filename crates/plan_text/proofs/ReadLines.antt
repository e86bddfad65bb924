-- Lines read one after the other.
use Rattle.std.proofs.Common.{◌≡◌, ◌∙◌, ℕ, zero, suc, ◌+◌, ◌≤◌, ◌<◌, List, [], ◌∷◌, ◌++◌, length, Result, Ok, Err, sym, ap, refl, subst, arith, append_assoc, length-append}
use Rattle.std.proofs.lemmas.List.{append-nil}
use Rattle.lab_text.specs.Text.{lines_of}
use Rattle.plan_grammar.specs.declared.kind.PlanKind.{PlanKind}
use Rattle.plan_grammar.specs.declared.kind.PlanKind.TheVariants.{Ended as NoBoot}
use Rattle.plan_grammar.specs.declared.lines.PlanLines.{PlanLines}
use Rattle.plan_grammar.specs.declared.lines.BootLines.{BootLines}
use Rattle.plan_grammar.specs.Limits.{most_bytes}
use Rattle.plan_grammar.specs.Grammar.{line, no_lines, Reads, IsPlan, IsRefused, Broken, Ended}
use Rattle.plan_words.specs.declared.error.LineError.{LineError}
use Rattle.plan_words.specs.declared.error.LineError.TheVariants.{Broken as BrokenRule, OutOfMemory}
use Rattle.plan_text.specs.Reading.{LeadsOn, BreaksFor, StopsFor, IsReadUpTo, IsRefusalOf, refusal}

-- lines, and one more behind them
reads_push : (lines : List (List ℕ)) (last : List ℕ) (old mid new : PlanLines) → Reads old lines mid → line mid last ≡ Ok new →
    Reads old (lines ++ last ∷ []) new
reads_push [] last old mid new same e = (new, ap (λ (p : PlanLines). line p last) (sym same) ∙ e, refl)
reads_push (bytes ∷ lines) last old mid new (next, f, later) e = (next, f, reads_push lines last next mid new later e)

-- nothing is read yet
pub reading_begins : (bytes : List ℕ) → IsReadUpTo bytes no_lines bytes 0
reading_begins bytes = record { before = []; lines = refl; good = refl; count_is = refl; few = omega arith }

-- one line more is read
pub reading_goes_on : (bytes rest later : List ℕ) (plan next : PlanLines) (count : ℕ) → IsReadUpTo bytes plan rest count →
    LeadsOn plan rest next later → IsReadUpTo bytes next later (count + 1)
reading_goes_on bytes rest later plan next count h k = record {
  before = h.before ++ k.first ∷ [];
  lines = h.lines ∙ ap (λ ls. h.before ++ ls) k.lines ∙ sym (append_assoc h.before (k.first ∷ []) (lines_of later));
  good = reads_push h.before k.first no_lines plan next h.good k.good;
  count_is = omega (arith, h.count_is, length-append h.before (k.first ∷ []));
  few = omega (arith, h.few, k.shorter);
}

-- a line that is broken
reading_breaks : (bytes rest : List ℕ) (plan : PlanLines) (count : ℕ) (kind : PlanKind) → IsReadUpTo bytes plan rest count →
    length bytes ≤ most_bytes → BreaksFor plan rest kind → IsRefused bytes (count + 1) kind
reading_breaks bytes rest plan count kind h short k =
    subst (λ n. IsRefused bytes (n + 1) kind) (sym h.count_is)
    (Broken h.before k.first k.others plan kind short (h.lines ∙ ap (λ ls. h.before ++ ls) k.lines) h.good k.bad)

pub reading_stops : (bytes rest : List ℕ) (plan : PlanLines) (count : ℕ) (error : LineError) → IsReadUpTo bytes plan rest count →
    length bytes ≤ most_bytes → StopsFor plan rest error → IsRefusalOf bytes (refusal (count + 1) error)
reading_stops bytes rest plan count (BrokenRule kind) h short k = reading_breaks bytes rest plan count kind h short k
reading_stops bytes rest plan count OutOfMemory h short k = tt

-- all lines are read
all_read : (bytes : List ℕ) (plan : PlanLines) (count : ℕ) → (h : IsReadUpTo bytes plan [] count) → lines_of bytes ≡ h.before
all_read bytes plan count h = h.lines ∙ append-nil h.before

pub reading_ends : (bytes : List ℕ) (plan : PlanLines) (count : ℕ) → IsReadUpTo bytes plan [] count → length bytes ≤ most_bytes →
    0 < length plan.boots → IsPlan bytes plan
reading_ends bytes plan count h short some = record {
  short = short;
  lines = subst (λ ls. Reads no_lines ls plan) (sym (all_read bytes plan count h)) h.good;
  some = some;
}

pub reading_ends_early : (bytes : List ℕ) (plan : PlanLines) (count : ℕ) → IsReadUpTo bytes plan [] count → length bytes ≤ most_bytes →
    length plan.boots ≡ 0 → IsRefused bytes (count + 1) NoBoot
reading_ends_early bytes plan count h short none =
    let lines = all_read bytes plan count h in
    let number : length (lines_of bytes) ≡ count = ap length lines ∙ sym h.count_is in
    subst (λ n. IsRefused bytes (n + 1) NoBoot) number
    (Ended plan short (subst (λ ls. Reads no_lines ls plan) (sym lines) h.good) (empty plan.boots none))
  where
    empty : (boots : List BootLines) → length boots ≡ 0 → boots ≡ []
    empty [] e = refl
    empty (b ∷ bs) e = absurd (omega (arith, e))
