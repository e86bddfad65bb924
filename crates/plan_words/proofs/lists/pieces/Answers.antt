use Rattle.std.proofs.lemmas.Result.{err_from_is_err_and}
use Rattle.plan_grammar.specs.Forms.{pieces}
use Rattle.plan_words.proofs.Growing.{each_piece, begun, goes_on, breaks_with, ended}
use Rattle.plan_words.proofs.lists.pieces.Goals as goal

pub loop-word-init : goal.loop-word-init
loop-word-init c = record {
  can = tt;
  finite = tt;
  whole = begun pieces _ c.args.words _ c.new-found.ensures c.into_iter-word-iterator.ensures.into_iter_gives;
}

pub returns-in_err-piece : goal.returns-in_err-piece
returns-in_err-piece c =
    let p = err_from_is_err_and c.from_residual.result c.from_residual.ensures.1 in
    rw (p.1, p.2) (breaks_with each_piece _ _ _ _ _ c.in_err-piece.field-0.0 c.loop-word.invariant.whole
    c.in-Some.ensures.steps c.in_err-piece.ensures)

pub loop-word-preserved : goal.loop-word-preserved
loop-word-preserved c = record {
  can = tt;
  finite = tt;
  whole = goes_on each_piece _ _ _ _ _ _ _ c.loop-word.invariant.whole c.in-Some.ensures.steps
      c.in_ok-piece.ensures c.in_ok-append.ensures.ok;
}

pub returns : goal.returns
returns c = ended each_piece _ _ _ c.loop-word.invariant.whole c.in-None.ensures.steps.0
