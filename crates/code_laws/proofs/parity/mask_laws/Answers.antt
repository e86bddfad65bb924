use Rattle.code_model.proofs.ParityLemmas.{masked-masked, masked-erased}
use Rattle.code_laws.proofs.parity.mask_laws.Goals as goal

pub returns-clause-undone : goal.returns-clause-undone
returns-clause-undone c code parity long = masked-masked code parity long

pub returns-clause-erased : goal.returns-clause-erased
returns-clause-erased c code = masked-erased code
