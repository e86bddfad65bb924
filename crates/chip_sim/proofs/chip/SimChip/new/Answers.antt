use Rattle.std.proofs.Common.{map, refl}
use Rattle.nand_model.specs.Chip.{WeakCount, new_page}
use Rattle.nand_model.specs.declared.words.Weak.{Weak}
use Rattle.chip_sim.proofs.Happening.{changed}
use Rattle.chip_sim.proofs.chip.SimChip.new.Goals as goal

pub returns : goal.returns
returns c =
    changed c.args.g (new_page c.args.g c.args.bad.now) (map {B = WeakCount} (λ (weak : Weak). (weak, 0)) c.args.weak) 0
    c.in_ok-new.field-0 c.in_ok-new-2.field-0 0 c.in_ok-new.ensures.geometry c.in_ok-new.ensures.pages c.in_ok-new-2.ensures refl
