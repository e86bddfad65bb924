use Rattle.std.proofs.Common.{◌∙◌}
use Rattle.std.proofs.lemmas.Result.{err_from_is_err_and}
use Rattle.chip_sim.specs.State.{sim_state}
use Rattle.bus_script.proofs.Answers.{error_of, text_of}
use Rattle.bus_script.proofs.whole.run_script.Goals as goal

pub returns-in_err-run-clause-refused : goal.returns-in_err-run-clause-refused
returns-in_err-run-clause-refused c =
    let p = err_from_is_err_and c.from_residual-in_err-run.result c.from_residual-in_err-run.ensures.1 in
    rw (p.1, p.2) (error_of c.args.bytes.now c.in_ok-script.script (sim_state c.in_ok-chip.chip) c.new.result _ c.deref.result.now _
    c.in_ok-script.ensures.script c.in_ok-chip.ensures (c.deref.ensures.value ∙ c.into_vec-cycles.ensures) c.in_err-run.ensures.refused)

pub returns-clause-text : goal.returns-clause-text
returns-clause-text c =
    text_of c.args.bytes.now _ c.in_ok-script.script (sim_state c.in_ok-chip.chip) (sim_state c.run_cycles.new.flash) c.new.result _
    c.deref.result.now c.in_ok-run.run'.events c.in_ok-run.run'.bytes c.in_ok-script.ensures.script c.in_ok-chip.ensures c.new.ensures c.new-weak.ensures
    (c.deref.ensures.value ∙ c.into_vec-cycles.ensures) c.in_ok-run.ensures.run c.in_ok-run_text.ensures
