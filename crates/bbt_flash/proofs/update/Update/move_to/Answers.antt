use Rattle.std.proofs.Common.{◌∙◌, sym}
use Rattle.bbt_flash.specs.Update.{update_writing}
use Rattle.bbt_flash.proofs.Updating.{moved-none}
use Rattle.bbt_flash.proofs.update.Update.move_to.Goals as goal

pub returns-then-self-eq0-clause-step : goal.returns-then-self-eq0-clause-step
returns-then-self-eq0-clause-step c =
    let u = c.args.self.now in
    λ table. c.give_up.ensures.step table u.chances
    ∙ sym (moved-none (update_writing u table) c.args.which c.args.block u.chances c.if-self-eq0.true)
