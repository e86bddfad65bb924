use Rattle.gf13_tables.proofs.TableLemmas.{wide_rows_are}
use Rattle.gf13_tables.proofs.code.Steps512StepCode.wide_rows.Goals as goal

pub returns : goal.returns
returns c = wide_rows_are c.args.t c.requires.0 c.requires.1
