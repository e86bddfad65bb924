use Rattle.std.proofs.Common.{◌≡◌, ◌∙◌, refl, ap, arith}
use Rattle.chip_paths.specs.Operation.{Known}
use Rattle.chip_paths.specs.Writing.{marked, next_version}
use Rattle.bbt_flash.specs.Copies.{places_in}
use Rattle.bbt_flash.specs.Update.{update_writing, writing_of_both}
use Rattle.chip_core.specs.Knowledge.{known_with}
use Rattle.chip_core.specs.Task.{tables_from}
use Rattle.chip_core.proofs.Marking.{tables-programs}
use Rattle.chip_core.proofs.WritingTables.{begins-tables, both-programs}
use Rattle.chip_core.proofs.task.begin_writing.Goals as goal

pub returns : goal.returns
returns c =
    let old = c.args.known.now in
    let new = c.mark.new.self in
    let w = update_writing c.start.result new.table in
    let before : c.of-before.result.value ≡ old.table = c.of-before.ensures in
    let kept : known_with new c.of-before.result.value ≡ known_with old old.table = (λ i. c.mark.ensures.others i (before i)) in
    let version : new.version ≡ old.version = ap (λ (k : Known). k.version) kept in
    let places : places_in new.places ≡ places_in old.places = ap (λ (k : Known). k.places) kept in
    let start : w ≡ writing_of_both (marked old.table c.args.block) (next_version old.version) (places_in old.places) =
    c.start.ensures.writing new.table
    ∙ (λ i. writing_of_both (c.mark.ensures.table i) (ap next_version version i) (places i)) in
    record {
      left =
          λ outcome is.
          ap (λ k. tables_from old.geometry k c.args.marker w) kept
          ∙ begins-tables old.geometry (known_with old old.table) c.args.block c.args.marker outcome w c.requires.tables is start;
      keeps = record { geometry = c.mark.ensures.geometry; sums = c.mark.ensures.sums; before = kept; marked = tt };
      fits = record {
        sizes = c.start.ensures.sizes ∙ c.mark.ensures.geometry;
        whole = c.requires.fits.whole;
        few = omega arith;
        programs = both-programs old.geometry _ _ _ w (c.start.ensures.writing new.table);
      };
      progress = refl;
      counted = refl;
      programs = omega (arith, tables-programs old.geometry c.requires.tables);
    }
