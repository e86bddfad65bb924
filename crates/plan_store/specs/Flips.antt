-- A flip by the numbers of its line.
use Rattle.std.specs.Prelude.{ℕ, nat_lt, List, ◌∷◌, Result, Ok, Err}
use Rattle.plan_grammar.specs.declared.kind.PlanKind.{PlanKind}
use Rattle.plan_grammar.specs.declared.kind.PlanKind.TheVariants.{BadWords, OutOfChip, TooLarge}
use Rattle.plan_grammar.specs.declared.lines.PlanLines.{PlanLines}
use Rattle.plan_grammar.specs.declared.lines.FaultLine.TheVariants.{Flip}
use Rattle.plan_grammar.specs.Limits.{most_flips}
use Rattle.plan_grammar.specs.Rules.{◌>>=◌, rule, there}
use Rattle.plan_grammar.specs.Forms.{small_number, positive_number, small_numbers, chip_numbers}
use Rattle.plan_grammar.specs.Faults.{all_flips, chip_at, has_bits, with_fault}
use Rattle.plan_store.specs.declared.boots.FlipWords.{FlipWords}

-- the numbers of at least four words
unfoldable pub flip_words : List (List ℕ) → Result FlipWords PlanKind
flip_words (chip ∷ page ∷ before ∷ bit ∷ bits) = do
  names ← there (chip_numbers chip) BadWords
  page_number ← small_number page
  event ← positive_number before
  bit_numbers ← small_numbers (bit ∷ bits)
  Ok (record { controller = names.0; chip = names.1; page = page_number; before = event; bits = bit_numbers })
flip_words _ = Err BadWords

-- the rules of a flip's numbers, and the plan with it
abbrev pub flip_rules : PlanLines → FlipWords → Result PlanLines PlanKind
flip_rules plan flip = do
  named ← there (chip_at plan (flip.controller, flip.chip)) OutOfChip
  _ ← rule (has_bits named flip.page flip.bits) OutOfChip
  _ ← rule (nat_lt (all_flips plan) most_flips) TooLarge
  Ok (with_fault (Flip flip.controller
      (record { chip = flip.chip; page = flip.page; before = flip.before; bits = flip.bits })) plan)
