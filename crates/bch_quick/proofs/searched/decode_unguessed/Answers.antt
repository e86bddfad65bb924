use Rattle.std.proofs.Common.{arith}
use Rattle.bch_quick.proofs.searched.decode_unguessed.Goals as goal

pub returns-then-is_word_far-clause-decodes : goal.returns-then-is_word_far-clause-decodes
returns-then-is_word_far-clause-decodes g c = c.is_word_far.ensures c.if-is_word_far.true

pub returns-then-is_word_far-clause-finds : goal.returns-then-is_word_far-clause-finds
returns-then-is_word_far-clause-finds g c = λ word n nearest.
    let far = c.is_word_far.ensures c.if-is_word_far.true word nearest.word in
    let apart = nearest.apart in
    let near = nearest.near in
    absurd (omega arith)
