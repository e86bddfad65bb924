use Rattle.nand_model.specs.Chip.{new_chip, sim_faults}
use Rattle.read_laws.proofs.Filled.{new_fresh, filled_reads}
use Rattle.read_laws.proofs.laws.filled_pages_read_back.Goals as goal

pub returns-clause-any_chip : goal.returns-clause-any_chip
returns-clause-any_chip g c = filled_reads

pub returns-clause-new_chip : goal.returns-clause-new_chip
returns-clause-new_chip g c = λ h bad weak trace page body free fills filled few.
    filled_reads sim_faults (new_chip h bad weak) trace page body free (new_fresh h bad page) fills filled few
