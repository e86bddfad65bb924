-- What a function that takes memory answers, beside the rules of a line.
use Rattle.std.specs.Prelude.{◌≡◌, Result, Ok, Err}
use Rattle.plan_grammar.specs.declared.kind.PlanKind.{PlanKind}
use Rattle.plan_words.specs.declared.error.LineError.{LineError}
use Rattle.plan_words.specs.declared.error.LineError.TheVariants.{Broken, OutOfMemory}

-- the result is the answer of the rules, unless memory ran out
abbrev pub Answers : {A : Type 0} → Result A LineError → Result A PlanKind → Type 0
Answers (Ok x) rules = rules ≡ Ok x
Answers (Err (Broken kind)) rules = rules ≡ Err kind
Answers (Err OutOfMemory) rules = Unit {0}
