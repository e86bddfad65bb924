-- The words behind the first, and the statuses behind exit codes.
use Rattle.std.proofs.Common.{◌≡◌, ◌∙◌, ◌++◌, List, [], ◌∷◌, Option, Some, None, length, drop, refl, ap, sym, arith}
use Rattle.std.specs.Option.{option_to_list}
use Rattle.std.specs.Vec.Iter.{into_iter_items, into_iter_steps}
use Rattle.std.specs.declared.vec.IntoIter.{IntoIter}
use Rattle.nandlab.specs.Status.{exit_code}
use Rattle.nandlab.specs.declared.status.Status.{Status}
use Rattle.nandlab.specs.declared.status.Status.TheVariants.{Fine, Usage, PlanRefused, ReadFault, WriteFault, Memory}

none_left : {X Z : Type 0} (old new : IntoIter X Z) (first : Option X) → into_iter_steps old first new → first ≡ None → length (into_iter_items old) ≡ 0
none_left old new None h e = sym old.rest.ok.0 ∙ h.0
none_left old new (Some x) h e = absurd (some_none x e)
  where
    some_none : {X : Type 0} (x : X) → Some x ≡ None → ⊥
    some_none x e = cc

behind : {X : Type 0} (first : Option X) (old new : List X) → old ≡ option_to_list first ++ new → (first ≡ None → length old ≡ 0) → drop 1 old ≡ new
behind None [] new e none = e
behind None (x ∷ old) new e none = absurd (let some : length (x ∷ old) ≡ 0 = none refl in omega arith)
behind (Some x) old new e none = ap (drop 1) e

-- the items behind the one that was taken
pub items_behind : {X Z : Type 0} (old new : IntoIter X Z) (first : Option X) → into_iter_items old ≡ option_to_list first ++ into_iter_items new
    → into_iter_steps old first new → drop 1 (into_iter_items old) ≡ into_iter_items new
items_behind old new first items steps = behind first (into_iter_items old) (into_iter_items new) items (none_left old new first steps)

pub is_usage : (status : Status) → exit_code status ≡ 2 → status ≡ Usage
is_usage Fine h = absurd (omega arith)
is_usage Usage h = refl
is_usage PlanRefused h = absurd (omega arith)
is_usage ReadFault h = absurd (omega arith)
is_usage WriteFault h = absurd (omega arith)
is_usage Memory h = absurd (omega arith)

pub is_read_fault : (status : Status) → exit_code status ≡ 4 → status ≡ ReadFault
is_read_fault Fine h = absurd (omega arith)
is_read_fault Usage h = absurd (omega arith)
is_read_fault PlanRefused h = absurd (omega arith)
is_read_fault ReadFault h = refl
is_read_fault WriteFault h = absurd (omega arith)
is_read_fault Memory h = absurd (omega arith)

pub is_write_fault : (status : Status) → exit_code status ≡ 5 → status ≡ WriteFault
is_write_fault Fine h = absurd (omega arith)
is_write_fault Usage h = absurd (omega arith)
is_write_fault PlanRefused h = absurd (omega arith)
is_write_fault ReadFault h = absurd (omega arith)
is_write_fault WriteFault h = refl
is_write_fault Memory h = absurd (omega arith)
