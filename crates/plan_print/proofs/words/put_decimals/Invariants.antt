use Rattle.std.proofs.Common.{◌≡◌, ◌++◌, drop}
use Rattle.plan_grammar.specs.Canonical.{decimals}
use Rattle.plan_print.specs.Lines.{behind_blanks}
use Rattle.plan_print.proofs.words.put_decimals.Given as goal

-- the text so far and what is left make the whole
abbrev pub invariant-loop-number : goal.invariant-loop-number
invariant-loop-number l =
    l.out ++ behind_blanks (decimals (drop l.number-index l.numbers))
    ≡ l.initial.out ++ behind_blanks (decimals l.numbers)
