use Rattle.gf14_tables.proofs.TableLemmas.{power_row}
use Rattle.gf14_tables.proofs.code.Steps1024PowerTables.power_of.Goals as goal

pub returns : goal.returns
returns c = power_row c.args.i c.requires
