use Rattle.std.proofs.Common.{◌≡◌, ◌++◌, ℕ, List, true, length, map}
use Rattle.plan_grammar.specs.Devices.{are_different, has_number}
use Rattle.plan_index.specs.Places.{Tells}
use Rattle.plan_index.proofs.marks.take_places.Given as goal

-- the flags tell the places so far, which are different
abbrev pub invariant-loop-place : goal.invariant-loop-place
invariant-loop-place l =
    (length l.flags ≡ length l.fn.flags)
    × ((xs : List ℕ) → Tells l.fn.flags (length l.fn.flags) (has_number xs) → are_different xs ≡ true →
    Tells l.flags (length l.fn.flags) (has_number (xs ++ map (λ p. p.now) l.yielded))
    × (are_different (xs ++ map (λ p. p.now) l.yielded) ≡ true))
