use Rattle.ecc_page.proofs.MaskTable.{mask_in_table}
use Rattle.ecc_page.proofs.masking.mask_of_code.Goals as goal

pub returns : goal.returns
returns c = mask_in_table c.args.t c.requires.0 c.requires.1
