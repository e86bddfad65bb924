use Rattle.std.proofs.Common.{◌∙◌, ap, sym}
use Rattle.chip_paths.specs.ChipRun.{bad_blocks_in}
use Rattle.chip_core.proofs.TableNow.{table-now}
use Rattle.chip_core.proofs.chip.Chip.bad.Goals as goal

pub returns-in_default : goal.returns-in_default
returns-in_default g c =
    let chip = c.args.self.now in
    record {
      count = c.bad.ensures.count ∙ sym (ap bad_blocks_in (table-now chip.known chip.phase chip.fits c.in_default.not-Attaching));
      few = rw chip.sizes c.bad.ensures.few;
    }
