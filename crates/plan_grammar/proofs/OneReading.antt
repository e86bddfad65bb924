-- Bytes have one reading: they are one plan, or are refused at one line for one kind.
use Rattle.std.proofs.Common.{◌≡◌, ◌∙◌, ℕ, ◌+◌, ◌<◌, ◌≤◌, List, [], ◌∷◌, ◌++◌, length, Result, Ok, Err, refl, sym, ap, subst, arith, inl, inr}
use Rattle.std.specs.Prelude.{◌⊎◌}
use Rattle.std.proofs.lemmas.Bool.{cases_lt}
use Rattle.lab_text.specs.Text.{lines_of}
use Rattle.plan_grammar.specs.declared.kind.PlanKind.{PlanKind}
use Rattle.plan_grammar.specs.declared.lines.PlanLines.{PlanLines}
use Rattle.plan_grammar.specs.declared.lines.BootLines.{BootLines}
use Rattle.plan_grammar.specs.Limits.{most_bytes}
use Rattle.plan_grammar.specs.Grammar.{line, no_lines, Reads, IsPlan, IsRefused, TooLong, Broken, Ended}
use Rattle.plan_grammar.specs.Laws.{HasReading, OnePlan, OneRefusal, NeverBoth}

-- good lines, and then one that breaks a rule
record Breaks (plan : PlanLines) (lines : List (List ℕ)) : Type 0 where
  before : List (List ℕ)
  broken : List ℕ
  after : List (List ℕ)
  mid : PlanLines
  kind : PlanKind
  parts : lines ≡ before ++ broken ∷ after
  good : Reads plan before mid
  bad : line mid broken ≡ Err kind

-- a good line before
breaks_later : (plan next : PlanLines) (bytes : List ℕ) (later : List (List ℕ)) → line plan bytes ≡ Ok next →
    Breaks next later → Breaks plan (bytes ∷ later)
breaks_later plan next bytes later e w = record {
  before = bytes ∷ w.before;
  broken = w.broken;
  after = w.after;
  mid = w.mid;
  kind = w.kind;
  parts = ap (λ (rest : List (List ℕ)). bytes ∷ rest) w.parts;
  good = (next, e, w.good);
  bad = w.bad;
}

breaks_here : (plan : PlanLines) (bytes : List ℕ) (later : List (List ℕ)) (kind : PlanKind) →
    line plan bytes ≡ Err kind → Breaks plan (bytes ∷ later)
breaks_here plan bytes later kind e = record {
  before = [];
  broken = bytes;
  after = later;
  mid = plan;
  kind = kind;
  parts = refl;
  good = refl;
  bad = e;
}

abbrev Runs : PlanLines → List (List ℕ) → Type 0
Runs plan lines = ((new : PlanLines) × Reads plan lines new) ⊎ Breaks plan lines

run_on : (plan next : PlanLines) (bytes : List ℕ) (later : List (List ℕ)) → line plan bytes ≡ Ok next →
    Runs next later → Runs plan (bytes ∷ later)
run_on plan next bytes later e (inl (new, h)) = inl (new, (next, e, h))
run_on plan next bytes later e (inr w) = inr (breaks_later plan next bytes later e w)

run_line : (plan : PlanLines) (bytes : List ℕ) (later : List (List ℕ)) → ((next : PlanLines) → Runs next later)
    → (answer : Result PlanLines PlanKind) → line plan bytes ≡ answer → Runs plan (bytes ∷ later)
run_line plan bytes later go_on (Ok next) e = run_on plan next bytes later e (go_on next)
run_line plan bytes later go_on (Err kind) e = inr (breaks_here plan bytes later kind e)

-- lines are all good, or one of them is the first that breaks a rule
run : (lines : List (List ℕ)) (plan : PlanLines) → Runs plan lines
run [] plan = inl (plan, refl)
run (bytes ∷ later) plan = run_line plan bytes later (λ next. run later next) (line plan bytes) refl

abbrev Reading : List ℕ → Type 0
Reading bytes = ((plan : PlanLines) × IsPlan bytes plan) ⊎ ((at : ℕ) × (kind : PlanKind) × IsRefused bytes at kind)

read_end : (bytes : List ℕ) (plan : PlanLines) → length bytes ≤ most_bytes → Reads no_lines (lines_of bytes) plan
    → (boots : List BootLines) → plan.boots ≡ boots → Reading bytes
read_end bytes plan short good [] e = inr (length (lines_of bytes) + 1, _, Ended plan short good e)
read_end bytes plan short good (boot ∷ boots) e =
    let some : 0 < length plan.boots = subst (λ (bs : List BootLines). 0 < length bs) (sym e) (omega arith) in
    inl (plan, record { short = short; lines = good; some = some })

read_run : (bytes : List ℕ) → length bytes ≤ most_bytes → Runs no_lines (lines_of bytes) → Reading bytes
read_run bytes short (inl (plan, good)) = read_end bytes plan short good plan.boots refl
read_run bytes short (inr w) = inr
    (length w.before + 1, w.kind, Broken w.before w.broken w.after w.mid w.kind short w.parts w.good w.bad)

read_length : (bytes : List ℕ) → (most_bytes < length bytes) ⊎ (length bytes ≤ most_bytes) → Reading bytes
read_length bytes (inl long) = inr (0, _, TooLong long)
read_length bytes (inr short) = read_run bytes short (run (lines_of bytes) no_lines)

pub has_reading : HasReading
has_reading bytes = read_length bytes (cases_lt most_bytes (length bytes))

abbrev leads : PlanLines → Result PlanLines PlanKind
leads plan = Ok plan

abbrev breaks : PlanKind → Result PlanLines PlanKind
breaks kind = Err kind

-- a line leads to one plan
same_next : (plan p q : PlanLines) (bytes : List ℕ) → line plan bytes ≡ Ok p → line plan bytes ≡ Ok q → p ≡ q
same_next plan p q bytes e f = let same : leads p ≡ leads q = sym e ∙ f in cc same

same_kind : (plan : PlanLines) (k l : PlanKind) (bytes : List ℕ) → line plan bytes ≡ Err k →
    line plan bytes ≡ Err l → k ≡ l
same_kind plan k l bytes e f = let same : breaks k ≡ breaks l = sym e ∙ f in cc same

not_both : (plan p : PlanLines) (k : PlanKind) (bytes : List ℕ) → line plan bytes ≡ Ok p → line plan bytes ≡ Err k → ⊥
not_both plan p k bytes e f = let same : leads p ≡ breaks k = sym e ∙ f in cc same

reads_once : (lines : List (List ℕ)) (plan p q : PlanLines) → Reads plan lines p → Reads plan lines q → p ≡ q
reads_once [] plan p q h k = h ∙ sym k
reads_once (bytes ∷ later) plan p q (next, e, h) (next', f, k) =
    let same : next' ≡ next = same_next plan next' next bytes f e in
    reads_once later next p q h (subst (λ (n : PlanLines). Reads n later q) same k)

-- lines with a broken one among them are not all good
broken_not_good : (before : List (List ℕ)) (broken : List ℕ) (after : List (List ℕ)) (plan mid p : PlanLines)
    (kind : PlanKind)
    → Reads plan before mid → line mid broken ≡ Err kind → Reads plan (before ++ broken ∷ after) p → ⊥
broken_not_good [] broken after plan mid p kind h bad (next, e, k) =
    not_both plan next kind broken e (subst (λ (m : PlanLines). line m broken ≡ Err kind) h bad)
broken_not_good (bytes ∷ before) broken after plan mid p kind (next, e, h) bad (next', f, k) =
    let same : next' ≡ next = same_next plan next' next bytes f e in
    broken_not_good before broken after next mid p kind h bad (subst (λ (n : PlanLines). Reads n (before ++ broken
    ∷ after) p) same k)

-- the first broken line is one
first_broken : (before : List (List ℕ)) (broken : List ℕ) (after before' : List (List ℕ)) (broken' : List ℕ)
    (after' : List (List ℕ)) (plan mid mid' : PlanLines) (kind kind' : PlanKind)
    → before ++ broken ∷ after ≡ before' ++ broken' ∷ after' → Reads plan before mid → line mid broken ≡ Err kind →
    Reads plan before' mid' → line mid' broken' ≡ Err kind'
    → (length before ≡ length before') × (kind ≡ kind')
first_broken [] broken after [] broken' after' plan mid mid' kind kind' e h bad h' bad' =
    let line_is : broken ≡ broken' = cc e in
    let here : line plan broken ≡ Err kind = subst (λ (m : PlanLines). line m broken ≡ Err kind) h bad in
    let there : line plan broken' ≡ Err kind' = subst (λ (m : PlanLines). line m broken' ≡ Err kind') h' bad' in
    (refl, same_kind plan kind kind' broken here (subst (λ (b : List ℕ). line plan b ≡ Err kind') (sym line_is) there))
first_broken [] broken after (bytes' ∷ before') broken' after' plan mid mid' kind kind' e h bad (next', f, h') bad' =
    let line_is : broken ≡ bytes' = cc e in
    let here : line plan broken ≡ Err kind = subst (λ (m : PlanLines). line m broken ≡ Err kind) h bad in
    absurd (not_both plan next' kind broken (subst (λ (b : List ℕ). line plan b ≡ Ok next') (sym line_is) f) here)
first_broken (bytes ∷ before) broken after [] broken' after' plan mid mid' kind kind' e (next, f, h) bad h' bad' =
    let line_is : bytes ≡ broken' = cc e in
    let there : line plan broken' ≡ Err kind' = subst (λ (m : PlanLines). line m broken' ≡ Err kind') h' bad' in
    absurd (not_both plan next kind' broken' (subst (λ (b : List ℕ). line plan b ≡ Ok next) line_is f) there)
first_broken (bytes ∷ before) broken after (bytes'
    ∷ before') broken' after' plan mid mid' kind kind' e (next, f, h) bad (next', f', h') bad' =
    let line_is : bytes ≡ bytes' = cc e in
    let rest_is : before ++ broken ∷ after ≡ before' ++ broken' ∷ after' = cc e in
    let same : next' ≡ next = same_next plan next' next bytes (subst (λ (b : List ℕ). line plan b ≡ Ok next')
    (sym line_is) f') f in
    let rest = first_broken before broken after before' broken' after' next mid mid' kind kind' rest_is h bad (subst
    (λ (n : PlanLines). Reads n before' mid') same h') bad' in
    let longer : length (bytes ∷ before) ≡ length (bytes' ∷ before') = omega (arith, rest.0) in
    (longer, rest.1)

pub one_plan : OnePlan
one_plan bytes one other h k = reads_once (lines_of bytes) no_lines one other h.lines k.lines

-- bytes whose lines are all good have no broken one
good_not_broken : (bytes : List ℕ) (plan : PlanLines) (before : List (List ℕ)) (broken : List ℕ) (after : List
    (List ℕ)) (mid : PlanLines) (kind : PlanKind)
    → Reads no_lines (lines_of bytes) plan → lines_of bytes ≡ before ++ broken ∷ after → Reads no_lines before mid →
    line mid broken ≡ Err kind → ⊥
good_not_broken bytes plan before broken after mid kind good parts h bad =
    broken_not_good before broken after no_lines mid plan kind h bad (subst (λ (ls : List
    (List ℕ)). Reads no_lines ls plan) parts good)

none_and_some : (boots : List BootLines) → boots ≡ [] → 0 < length boots → ⊥
none_and_some boots e some = let none = ap length e in omega (arith, none, some)

pub never_both : NeverBoth
never_both bytes plan at kind h (TooLong long) = omega (arith, h.short, long)
never_both bytes plan at kind h (Broken before broken after mid kind' short parts good bad) =
    good_not_broken bytes plan before broken after mid kind' h.lines parts good bad
never_both bytes plan at kind h (Ended other short good none) =
    let same : other ≡ plan = reads_once (lines_of bytes) no_lines other plan good h.lines in
    none_and_some plan.boots (sym (ap (λ (p : PlanLines). p.boots) same) ∙ none) h.some

pub one_refusal : OneRefusal
one_refusal bytes at kind at' kind' (TooLong long) (TooLong long') = (refl, refl)
one_refusal bytes at kind at' kind' (TooLong long) (Broken before broken after mid k short parts good bad) = absurd
    (omega (arith, long, short))
one_refusal bytes at kind at' kind' (TooLong long) (Ended plan short good none) = absurd (omega (arith, long, short))
one_refusal bytes at kind at' kind' (Broken before broken after mid k short parts good bad) (TooLong long) = absurd
    (omega (arith, long, short))
one_refusal bytes at kind at' kind' (Broken before broken after mid k short parts good bad)
    (Broken before' broken' after' mid' k' short' parts' good' bad') =
    let same = first_broken before broken after before' broken' after' no_lines mid mid' k k' (sym parts
    ∙ parts') good bad good' bad' in
    (ap (λ n. n + 1) same.0, same.1)
one_refusal bytes at kind at' kind' (Broken before broken after mid k short parts good bad)
    (Ended plan short' good' none) =
    absurd (good_not_broken bytes plan before broken after mid k good' parts good bad)
one_refusal bytes at kind at' kind' (Ended plan short good none) (TooLong long) = absurd (omega (arith, long, short))
one_refusal bytes at kind at' kind' (Ended plan short good none)
    (Broken before broken after mid k short' parts good' bad) =
    absurd (good_not_broken bytes plan before broken after mid k good parts good' bad)
one_refusal bytes at kind at' kind' (Ended plan short good none) (Ended plan' short' good' none') = (refl, refl)
