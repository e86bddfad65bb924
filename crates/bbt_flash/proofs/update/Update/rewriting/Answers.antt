use Rattle.chip_paths.specs.Writing.{writing_of}
use Rattle.std.proofs.Common.{◌∙◌}
use Rattle.bbt_flash.specs.Copies.{places_in}
use Rattle.bbt_flash.proofs.update.Update.rewriting.Goals as goal

pub returns-clause-writing : goal.returns-clause-writing
returns-clause-writing c =
    λ table. c.of.ensures.writing table
    ∙ (λ i. writing_of table c.args.version (places_in c.args.places) (c.whole_at_first.ensures i) (c.rewritten.ensures i))
