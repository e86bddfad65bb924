use Rattle.std.proofs.Common.{◌≡◌, length}
use Rattle.plan_grammar.specs.Options.{no_options, options_from}
use Rattle.plan_commands.proofs.options.options_from.Given as goal

-- the options so far and the words that are left make the whole
abbrev pub invariant-loop-word : goal.invariant-loop-word
invariant-loop-word l =
    options_from l.fn.kind no_options l.fn.words ≡ options_from l.kind l.options l.rest

abbrev pub decreases-loop-word : goal.decreases-loop-word
decreases-loop-word l = length l.rest
