use Rattle.std.proofs.Common.{◌*◌, ◌<◌, length, ap, sym, ◌∙◌, subst}
use Rattle.std.specs.Prelude.{All}
use Rattle.bbt_ram.proofs.Packing.{length-unpacked, All-unpacked}
use Rattle.bbt_ram.proofs.table.BlockTable.len.Goals as goal

pub returns-clause-count : goal.returns-clause-count
returns-clause-count c = ap (λ n. 4 * n) (ap length c.as_slice.ensures) ∙ sym (length-unpacked c.self.inside.packed) ∙ ap length c.self.view_is

pub returns-clause-states : goal.returns-clause-states
returns-clause-states c = subst (All (λ state. state < 4)) c.self.view_is (All-unpacked c.self.inside.packed)
