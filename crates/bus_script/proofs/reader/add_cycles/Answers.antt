use Rattle.std.proofs.Common.{◌∙◌, ap, sym}
use Rattle.std.proofs.lemmas.Result.{err_from_is_err_and}
use Rattle.plan_words.proofs.Growing.{goes_on, breaks, ended, with_items}
use Rattle.bus_script.specs.Script.{cycles}
use Rattle.bus_script.proofs.Lines.{behind, each_cycle}
use Rattle.bus_script.proofs.reader.add_cycles.Goals as goal

pub loop-word-init : goal.loop-word-init
loop-word-init c = record {
  can = tt;
  finite = tt;
  whole = behind c.args.so_far (cycles c.args.words)
      ∙ ap (λ ws. with_items c.args.so_far (cycles ws)) (sym c.into_iter-word-iterator.ensures.into_iter_gives);
}

pub returns-in_err-cycle : goal.returns-in_err-cycle
returns-in_err-cycle c =
    let p = err_from_is_err_and c.from_residual.result c.from_residual.ensures.1 in
    rw (p.1, p.2) (breaks each_cycle _ _ _ _ _ _ c.loop-word.invariant.whole c.in-Some.ensures.steps
    (sym c.in_err-cycle.ensures))

pub loop-word-preserved : goal.loop-word-preserved
loop-word-preserved c = record {
  can = tt;
  finite = tt;
  whole = goes_on each_cycle _ _ _ _ _ _ _ c.loop-word.invariant.whole c.in-Some.ensures.steps
      (sym c.in_ok-cycle.ensures) c.in_ok-append.ensures.ok;
}

pub returns : goal.returns
returns c = ended each_cycle _ _ _ c.loop-word.invariant.whole c.in-None.ensures.steps.0
