use Rattle.std.proofs.Common.{arith}
use Rattle.bch_solver.proofs.FlipLemmas.{flip_turned, flip_others}
use Rattle.bch_solver.proofs.search.flip.Goals as goal

pub returns-clause-turned : goal.returns-clause-turned
returns-clause-turned c = flip_turned c.args.bytes.now c.args.place (omega arith)

pub returns-clause-others : goal.returns-clause-others
returns-clause-others c = λ k ne. flip_others c.args.bytes.now c.args.place k (omega arith) ne
