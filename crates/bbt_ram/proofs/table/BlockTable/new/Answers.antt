use Rattle.std.proofs.Common.{◌≡◌, ◌*◌, ◌/◌, ap, ◌∙◌, arith}
use Rattle.std.specs.Prelude.{replicate}
use Rattle.bbt_ram.specs.Packed.{unpacked}
use Rattle.bbt_ram.proofs.Packing.{unpacked-zeros}
use Rattle.bbt_ram.proofs.table.BlockTable.new.Goals as goal

pub returns : goal.returns
returns c =
    let whole : 4 * (c.args.blocks / 4) ≡ c.args.blocks = omega (arith, c.requires.whole) in
    ap unpacked (c.in_ok-packed.ensures {u = tt}) ∙ unpacked-zeros (c.args.blocks / 4) ∙ ap (λ n. replicate n 0) whole
