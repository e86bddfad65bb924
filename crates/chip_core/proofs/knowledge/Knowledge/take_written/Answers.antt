use Rattle.std.proofs.Common.{◌∙◌, ap}
use Rattle.chip_paths.specs.Operation.{mark_reply, writing_reply}
use Rattle.bbt_flash.specs.Events.{answer_of}
use Rattle.chip_core.specs.Sums.{stats_in}
use Rattle.chip_core.proofs.knowledge.Knowledge.take_written.Goals as goal

pub returns-clause-known : goal.returns-clause-known
returns-clause-known c =
    let known = c.args.self.now in
    (λ i. record {
      table = known.table;
      version = c.version-self.ensures known.table i;
      places = c.places-self.ensures.places known.table i;
      copies = c.copies-self.ensures known.table i;
      statistics = stats_in known.sums;
    })

pub returns-clause-reply : goal.returns-clause-reply
returns-clause-reply c =
    λ table. c.mark_reply.ensures ∙ ap (λ o. mark_reply (answer_of c.args.writing.marker) (writing_reply o)) (c.failed.ensures table)
