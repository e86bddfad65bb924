use Rattle.code_model.proofs.ParityLemmas.{parity-completes, parity-only, parity-padding, length-parity_of}
use Rattle.code_laws.proofs.parity.parity_laws.Goals as goal

pub returns-clause-completes : goal.returns-clause-completes
returns-clause-completes c code body bch long = parity-completes code bch body long

pub returns-clause-only : goal.returns-clause-only
returns-clause-only c code body parity bch bits long word = parity-only code bch body parity long bits word

pub returns-clause-padding : goal.returns-clause-padding
returns-clause-padding c code body bch = parity-padding code bch body

pub returns-clause-long : goal.returns-clause-long
returns-clause-long c code body = length-parity_of code body
