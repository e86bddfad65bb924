use Rattle.std.proofs.Common.{◌∙◌}
use Rattle.gf14_tables.proofs.TableLemmas.{generator_row}
use Rattle.gf14_tables.proofs.code.Steps1024StepCode.generator.Goals as goal

pub returns : goal.returns
returns c = c.from_halves.ensures.value ∙ generator_row c.args.t c.requires.0 c.requires.1
