use Rattle.std.proofs.Common.{sym}
use Rattle.std.proofs.lemmas.Result.{err_from_is_err_and}
use Rattle.plan_grammar.specs.Forms.{small_numbers}
use Rattle.plan_words.proofs.Growing.{each_small_number, begun, goes_on, breaks, ended}
use Rattle.plan_words.proofs.lists.small_numbers.Goals as goal

pub loop-word-init : goal.loop-word-init
loop-word-init c = record {
  can = tt;
  finite = tt;
  whole = begun small_numbers _ c.args.words _ c.new-found.ensures c.into_iter-word-iterator.ensures.into_iter_gives;
}

pub returns-in_err-small_number : goal.returns-in_err-small_number
returns-in_err-small_number c =
    let p = err_from_is_err_and c.from_residual.result c.from_residual.ensures.1 in
    rw (p.1, p.2) (breaks each_small_number _ _ _ _ _ _ c.loop-word.invariant.whole c.in-Some.ensures.steps
    (sym c.in_err-small_number.ensures))

pub loop-word-preserved : goal.loop-word-preserved
loop-word-preserved c = record {
  can = tt;
  finite = tt;
  whole = goes_on each_small_number _ _ _ _ _ _ _ c.loop-word.invariant.whole c.in-Some.ensures.steps
      (sym c.in_ok-small_number.ensures) c.in_ok-append.ensures.ok;
}

pub returns : goal.returns
returns c = ended each_small_number _ _ _ c.loop-word.invariant.whole c.in-None.ensures.steps.0
