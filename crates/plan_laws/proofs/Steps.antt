-- Rules one after the other, taken apart and put together.
use Rattle.std.proofs.Common.{◌≡◌, Bool, true, false, List, [], ◌∷◌, Option, Some, None, Result, Ok, Err, refl, ap, ◌∙◌}
use Rattle.plan_grammar.specs.declared.kind.PlanKind.{PlanKind}
use Rattle.plan_grammar.specs.Rules.{◌>>=◌, rule, there, is_empty}

abbrev good : {A : Type 0} → A → Result A PlanKind
good x = Ok x

abbrev bad : {A : Type 0} → PlanKind → Result A PlanKind
bad kind = Err kind

not_both : {A : Type 0} (x : A) (kind : PlanKind) → bad {A = A} kind ≡ good x → ⊥
not_both x kind e = cc e

pub ok_same : {A : Type 0} (x y : A) → good x ≡ good y → x ≡ y
ok_same x y e = cc e

-- a step that was kept, its value, and what followed it
pub record Kept {A B : Type 0} (r : Result A PlanKind) (f : A → Result B PlanKind) (x : B) : Type 0 where
  pub value : A
  pub is : r ≡ Ok value
  pub further : f value ≡ Ok x

pub kept : {A B : Type 0} (r : Result A PlanKind) (f : A → Result B PlanKind) (x : B) → (r >>= f) ≡ Ok x → Kept r f x
kept (Ok y) f x e = record { value = y; is = refl; further = e }
kept (Err kind) f x e = absurd (not_both x kind e)

-- a rule that was kept, and what followed it
pub rule_kept : {B : Type 0} (b : Bool) (kind : PlanKind) (f : Unit {0} → Result B PlanKind) (x : B) →
    (rule b kind >>= f) ≡ Ok x → (b ≡ true) × (f tt ≡ Ok x)
rule_kept true kind f x e = (refl, e)
rule_kept false kind f x e = absurd (not_both x kind e)

-- something that was there, and what followed it
pub record Found {A B : Type 0} (o : Option A) (f : A → Result B PlanKind) (x : B) : Type 0 where
  pub value : A
  pub is : o ≡ Some value
  pub further : f value ≡ Ok x

pub found : {A B : Type 0} (o : Option A) (kind : PlanKind) (f : A → Result B PlanKind) (x : B) →
    (there o kind >>= f) ≡ Ok x → Found o f x
found (Some y) kind f x e = record { value = y; is = refl; further = e }
found None kind f x e = absurd (not_both x kind e)

pub there_kept : {A : Type 0} (o : Option A) (kind : PlanKind) (x : A) → there o kind ≡ Ok x → o ≡ Some x
there_kept None kind x e = absurd (not_both x kind e)
there_kept (Some y) kind x e = ap Some (ok_same y x e)

pub rule_true : (b : Bool) (kind : PlanKind) (u : Unit {0}) → rule b kind ≡ Ok u → b ≡ true
rule_true true kind u e = refl
rule_true false kind u e = absurd (not_both u kind e)

-- and put together again
pub step : {A B : Type 0} (r : Result A PlanKind) (f : A → Result B PlanKind) (y : A) (x : B) → r ≡ Ok y →
    f y ≡ Ok x → (r >>= f) ≡ Ok x
step {A = A} r f y x e g = ap (λ (s : Result A PlanKind). s >>= f) e ∙ g

pub rule_step : {B : Type 0} (b : Bool) (kind : PlanKind) (f : Unit {0} → Result B PlanKind) (x : B) → b ≡ true →
    f tt ≡ Ok x → (rule b kind >>= f) ≡ Ok x
rule_step b kind f x e g = ap (λ (c : Bool). rule c kind >>= f) e ∙ g

pub there_step : {A B : Type 0} (o : Option A) (kind : PlanKind) (f : A → Result B PlanKind) (y : A) (x : B) →
    o ≡ Some y → f y ≡ Ok x → (there o kind >>= f) ≡ Ok x
there_step {A = A} o kind f y x e g = ap (λ (p : Option A). there p kind >>= f) e ∙ g

pub empty_is : {A : Type 0} (xs : List A) → is_empty xs ≡ true → xs ≡ []
empty_is [] e = refl
empty_is (x ∷ xs) e = absurd (cc e)
