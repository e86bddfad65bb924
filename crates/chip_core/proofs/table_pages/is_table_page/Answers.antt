use Rattle.std.proofs.Common.{sym, ◌∙◌, ◌%◌}
use Rattle.std.proofs.lemmas.Bool.{ne_eqb}
use Rattle.chip_core.proofs.TablePages.{table_page-at, table_page-none}
use Rattle.chip_core.proofs.table_pages.is_table_page.Goals as goal

pub returns-then-page-g-eq0 : goal.returns-then-page-g-eq0
returns-then-page-g-eq0 c = c.is_table_block.ensures ∙ sym (table_page-at c.args.g.now c.args.page c.if-page-g-eq0.true)

pub returns-else-page-g-eq0 : goal.returns-else-page-g-eq0
returns-else-page-g-eq0 c =
    ne_eqb (c.args.page % c.args.g.now.pages_per_block) 0 c.if-page-g-eq0.false ∙ sym (table_page-none c.args.g.now c.args.page c.if-page-g-eq0.false)
