use Rattle.std.proofs.Common.{refl, sym, ◌∙◌, subst, Option, ℕ}
use Rattle.std.specs.Prelude.{IfSome, ◌<◌}
use Rattle.nand_model.specs.Sizes.{page_count}
use Rattle.chip_core.specs.Knowledge.{known_in}
use Rattle.chip_core.proofs.Ranges.{write_begins}
use Rattle.chip_core.proofs.beginning.write.Goals as goal

pub returns : goal.returns
returns g c =
    let known = c.args.known.now in
    let There : Option ℕ → Type 0 = λ page. IfSome page (λ p. p < page_count known.geometry) in
    record {
      follows =
          rw c.in-Some.is
          (write_begins known.geometry (known_in known) c.args.body.now c.args.free.now c.in_ok-image.image c.in-Some.page
          (sym c.is_good.ensures ∙ c.if-not-is_good.false) c.in_ok-image.ensures.image);
      fresh = refl;
      fits = record { page_there = subst There c.in-Some.is c.requires.page; length_right = c.in_ok-image.ensures.whole };
      counted = λ d none. none;
    }
