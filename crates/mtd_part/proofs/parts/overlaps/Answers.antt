use Rattle.std.proofs.Common.{◌≡◌, false, true}
use Rattle.mtd_part.specs.Blocks.{SharesBlock}
use Rattle.mtd_part.proofs.Apart.{none_more, none_at_all}
use Rattle.mtd_part.proofs.parts.overlaps.Goals as goal

pub loop-other-preserved : goal.loop-other-preserved
loop-other-preserved c =
    none_more (SharesBlock c.args.part.now) c.args.earlier.now c.loop-other.other-index _ c.loop-other-test.true c.loop-other.invariant
    (λ shares. let h : false ≡ true = c.if-shares_block.ensures.1 shares in cc)

pub returns : goal.returns
returns c = (
  λ (h : false ≡ true). absurd cc,
  λ any. absurd (none_at_all (SharesBlock c.args.part.now) c.args.earlier.now c.loop-other.other-index c.loop-other-test.false c.loop-other.invariant any),
)
