use Rattle.std.proofs.Common.{List, get_or, ◌∙◌, ap, sym}
use Rattle.chip_core.specs.declared.sums.DeviceSums.{DeviceSums}
use Rattle.chip_core.proofs.Summing.{found_first, stats_where_first, stats_where_none}
use Rattle.chip_core.proofs.sums.Sums.get.Goals as goal

pub returns-in-None : goal.returns-in-None
returns-in-None c = sym (stats_where_none c.args.self.now c.args.dev (sym c.place.ensures ∙ c.in-None.is))

pub returns-in-Some : goal.returns-in-Some
returns-in-Some c =
    let first = found_first c.args.self.now c.args.dev c.in-Some.at c.index.result.now (sym c.place.ensures ∙ c.in-Some.is) in
    ap (λ e. e.stats) (c.index.ensures ∙ ap (λ (xs : List DeviceSums). get_or xs c.in-Some.at c.index.result.now) c.self.view_is)
    ∙ sym (stats_where_first c.args.self.now c.args.dev c.in-Some.at c.index.result.now first)
