use Rattle.std.proofs.Common.{◌≡◌, ◌∙◌, None, ap, sym, subst}
use Rattle.nand_model.specs.Path.{Over, first_event}
use Rattle.chip_paths.specs.Attach.{Attaching}
use Rattle.bbt_flash.specs.Step.{step_left}
use Rattle.bbt_flash.proofs.Attaching.{scan-goes-on, search-goes-on, writing-ends}
use Rattle.bbt_flash.proofs.attach.Attach.finish.Goals as goal

pub unreachable-requires : goal.unreachable-requires
unreachable-requires c = let a = c.args.self in search-goes-on a.geometry a.table a.step a.fits _ c.in-Searching.is c.requires

pub unreachable-requires-in-Scanning : goal.unreachable-requires-in-Scanning
unreachable-requires-in-Scanning c = let a = c.args.self in scan-goes-on a.geometry a.table a.step a.fits _ c.in-Scanning.is c.requires

pub returns-in-Writing-clause-found : goal.returns-in-Writing-clause-found
returns-in-Writing-clause-found c =
    let a = c.args.self in
    let rewriting = c.in-Writing.rewriting in
    ap (step_left a.geometry a.table) c.in-Writing.is
    ∙ writing-ends a.geometry a.table rewriting (sym (ap (λ s. first_event (step_left a.geometry a.table s)) c.in-Writing.is) ∙ c.requires)
    ∙ sym (λ i. Over (record {
      table = a.table;
      origin = rewriting.origin;
      version = c.version.ensures a.table i;
      places = c.places.ensures.places a.table i;
      copies = c.copies.ensures a.table i;
    }))
