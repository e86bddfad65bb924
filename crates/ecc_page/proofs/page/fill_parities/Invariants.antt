use Rattle.std.proofs.Common.{◌≡◌, ◌*◌, take}
use Rattle.std.specs.List.{flat_map}
use Rattle.nand_model.specs.Page.{step_body}
use Rattle.nand_model.specs.Sizes.{numbers_from, parity_bytes}
use Rattle.ecc_page.specs.Steps.{parity_stored}
use Rattle.ecc_page.proofs.page.fill_parities.Given as goal

abbrev pub invariant-loop-s : goal.invariant-loop-s
invariant-loop-s l = take (l.s * parity_bytes l.g) l.parities ≡ flat_map (λ s. parity_stored l.g.t (step_body l.g l.body s)) (numbers_from 0 l.s)
