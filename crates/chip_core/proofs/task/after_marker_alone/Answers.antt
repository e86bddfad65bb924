use Rattle.std.proofs.Common.{◌≡◌, ◌∙◌, refl, ap, sym, arith}
use Rattle.chip_paths.specs.Operation.{answer, with_mark}
use Rattle.chip_paths.specs.Writing.{marked}
use Rattle.nand_model.specs.declared.words.Reply.TheVariants.{Done}
use Rattle.bbt_flash.specs.Events.{answer_of}
use Rattle.chip_core.specs.Knowledge.{known_with}
use Rattle.chip_core.proofs.Marking.{alone-programs, marker_done, marker_failed}
use Rattle.chip_core.proofs.task.after_marker_alone.Goals as goal

pub returns-then-not-marker : goal.returns-then-not-marker
returns-then-not-marker c =
    let known = c.args.known.now in
    record {
      left =
          λ outcome is.
          marker_failed known.geometry (known_with known known.table) c.args.block outcome c.requires.without_tables
          (is ∙ ap answer_of c.if-not-marker.true);
      keeps = record { geometry = refl; sums = refl; before = refl; marked = tt };
      fits = tt;
      progress = refl;
      counted = refl;
      programs = omega (arith, alone-programs known.geometry c.requires.without_tables);
    }

pub returns : goal.returns
returns c =
    let old = c.args.known.now in
    let new = c.mark.new.self in
    let before : c.of-before.result.value ≡ old.table = c.of-before.ensures in
    let kept : known_with new c.of-before.result.value ≡ known_with old old.table = (λ i. c.mark.ensures.others i (before i)) in
    record {
      left =
          λ outcome is.
          ap (λ k. answer (with_mark old.geometry k c.args.block) Done) kept
          ∙ marker_done old.geometry (known_with old old.table) c.args.block outcome c.requires.without_tables (is ∙ ap answer_of c.if-not-marker.false);
      keeps = record {
        geometry = c.mark.ensures.geometry;
        sums = c.mark.ensures.sums;
        before = kept;
        marked = c.mark.ensures.table ∙ ap (λ t. marked t c.args.block) (sym before);
      };
      fits = c.requires.without_tables;
      progress = refl;
      counted = refl;
      programs = omega (arith, alone-programs old.geometry c.requires.without_tables);
    }
