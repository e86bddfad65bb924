use Rattle.gf13_tables.proofs.TableLemmas.{narrow_rows_are}
use Rattle.gf13_tables.proofs.code.Steps512StepCode.narrow_rows.Goals as goal

pub returns : goal.returns
returns c = narrow_rows_are c.args.t c.requires.0 c.requires.1
