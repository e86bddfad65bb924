use Rattle.std.proofs.Common.{arith, inl}
use Rattle.plan_words.proofs.Counts.{words_length}
use Rattle.plan_words.proofs.words.word_count.Goals as goal

pub count-requires-clause-fits : goal.count-requires-clause-fits
count-requires-clause-fits c =
    inl (rw c.of.ensures (omega (arith, words_length c.args.line.now)))
