use Rattle.plan_grammar.proofs.OneReading.{has_reading}
use Rattle.plan_grammar.proofs.laws.bytes_have_a_reading.Goals as goal

pub returns : goal.returns
returns c = has_reading
