use Rattle.std.proofs.Common.{arith}
use Rattle.tool_steps.proofs.Sizes.{page_of_offset-lt, device_pages-le, range_in_device}
use Rattle.tool_steps.proofs.ranges.pages_in_range.Goals as goal

pub overflow_sub-result : goal.overflow_sub-result
overflow_sub-result c =
    rw (c.from-page.ensures, c.from.ensures, c.from-then-pages-eq0.ensures)
    (omega (arith, page_of_offset-lt c.args.g.now c.args.blocks c.args.off c.requires.first))

pub overflow_cast-result : goal.overflow_cast-result
overflow_cast-result c =
    rw (c.from-page.ensures, c.from.ensures, c.from-then-pages-eq0.ensures)
    (omega (arith, device_pages-le c.args.g.now c.args.blocks c.requires.size.1))

pub overflow_cast-result-else-pages-eq0 : goal.overflow_cast-result-else-pages-eq0
overflow_cast-result-else-pages-eq0 c =
    rw c.from-page.ensures
    (omega (arith, device_pages-le c.args.g.now c.args.blocks c.requires.size.1, range_in_device c.args.g.now c.args.blocks c.args.off c.args.len c.requires.last))

pub returns-then-pages-eq0-clause-some : goal.returns-then-pages-eq0-clause-some
returns-then-pages-eq0-clause-some c =
    rw (c.from-page.ensures, c.from.ensures, c.from-then-pages-eq0.ensures)
    (omega (arith, page_of_offset-lt c.args.g.now c.args.blocks c.args.off c.requires.first))

pub returns-then-pages-eq0-clause-small : goal.returns-then-pages-eq0-clause-small
returns-then-pages-eq0-clause-small c =
    rw (c.from-page.ensures, c.from.ensures, c.from-then-pages-eq0.ensures)
    (omega (arith, device_pages-le c.args.g.now c.args.blocks c.requires.size.1))

pub returns-else-pages-eq0-clause-small : goal.returns-else-pages-eq0-clause-small
returns-else-pages-eq0-clause-small c =
    rw c.from-page.ensures
    (omega (arith, device_pages-le c.args.g.now c.args.blocks c.requires.size.1, range_in_device c.args.g.now c.args.blocks c.args.off c.args.len c.requires.last))
