use Rattle.gf13_tables.proofs.TableLemmas.{power_row}
use Rattle.gf13_tables.proofs.code.Steps512PowerTables.power_of.Goals as goal

pub returns : goal.returns
returns c = power_row c.args.i c.requires
