use Rattle.std.proofs.Common.{◌∙◌, sym}
use Rattle.bbt_flash.specs.Update.{update_writing}
use Rattle.bbt_flash.proofs.Updating.{program-image}
use Rattle.bbt_flash.proofs.update.Update.put_copy.Goals as goal

pub returns : goal.returns
returns g c =
    let u = c.args.self.now in
    c.put_encoded.ensures ∙ sym (program-image u.geometry (update_writing u c.args.table.now) c.args.which c.requires.erased)
