use Rattle.std.proofs.Common.{IsErr, Contains, inl, refl, arith}
use Rattle.std.proofs.lemmas.Grind.{common_steps}
use Rattle.lab_outside.specs.Outside.{raised}
use Rattle.lab_outside.proofs.mem_sink.MemSinkSink.write.Goals as goal

pub returns-in_err-begin-clause-fails : goal.returns-in_err-begin-clause-fails
returns-in_err-begin-clause-fails c =
    let begun = c.in_err-begin.ensures in
    let listed : Contains c.args.self.now.failing (raised c.args.self.now.calls) = rw (← c.self.view_is, ← begun.made) (begun.fails.0 refl) in
    let is_err : IsErr c.from_residual.result = grind (arith, common_steps) in
    (λ _. inl listed, λ _. is_err)
