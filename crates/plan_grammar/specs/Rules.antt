-- Rules that are tried one after the other: the first broken one is the kind of the refusal.
use Rattle.std.specs.Prelude.{Bool, true, false, List, [], ◌∷◌, Option, Some, None, Result, Ok, Err}
use Rattle.plan_grammar.specs.declared.kind.PlanKind.{PlanKind}

-- what follows where the rules before were kept
infixl 10 ◌>>=◌
abbrev pub ◌>>=◌ : {A B : Type 0} → Result A PlanKind → (A → Result B PlanKind) → Result B PlanKind
(Ok x) >>= f = f x
(Err kind) >>= f = Err kind

-- a rule that a test decides
abbrev pub rule : Bool → PlanKind → Result (Unit {0}) PlanKind
rule true kind = Ok tt
rule false kind = Err kind

-- a rule that something is there
abbrev pub there : {A : Type 0} → Option A → PlanKind → Result A PlanKind
there None kind = Err kind
there (Some x) kind = Ok x

-- there is no item
abbrev pub is_empty : {A : Type 0} → List A → Bool
is_empty [] = true
is_empty (x ∷ xs) = false

-- the last item
abbrev pub last_of : {A : Type 0} → List A → Option A
last_of [] = None
last_of (x ∷ []) = Some x
last_of (x ∷ y ∷ xs) = last_of (y ∷ xs)

-- the list with another last item, which a function gives
abbrev pub with_last : {A : Type 0} → (A → A) → List A → List A
with_last change [] = []
with_last change (x ∷ []) = change x ∷ []
with_last change (x ∷ y ∷ xs) = x ∷ with_last change (y ∷ xs)

-- something where a test holds
abbrev pub some_if : {A : Type 0} → Bool → A → Option A
some_if true x = Some x
some_if false x = None
