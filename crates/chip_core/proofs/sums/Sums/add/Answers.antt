use Rattle.std.proofs.Common.{◌≡◌, ◌+◌, ◌<◌, ◌^◌, refl, ap, sym, ◌∙◌, arith}
use Rattle.chip_core.specs.Sums.{stats_in}
use Rattle.chip_core.proofs.Summing.{its_stats, its_stats_added}
use Rattle.chip_core.proofs.sums.Sums.add.Goals as goal

pub overflow_add-stats : goal.overflow_add-stats
overflow_add-stats c =
    let entry = c.index_mut.result.now in
    let stats : entry.stats ≡ stats_in c.args.self.now c.args.dev =
    its_stats c.args.self.now c.self.inside.entries.items c.self.view_is c.args.dev c.in-Some.at entry (sym c.place.ensures ∙ c.in-Some.is)
    c.index_mut.ensures.value in
    let low : entry.stats.corrected < 2 ^ 63 = rw stats c.requires.small.corrected in
    omega (arith, c.from.ensures)

pub overflow_add-stats-in-Some : goal.overflow_add-stats-in-Some
overflow_add-stats-in-Some c =
    let entry = c.index_mut.result.now in
    let stats : entry.stats ≡ stats_in c.args.self.now c.args.dev =
    its_stats c.args.self.now c.self.inside.entries.items c.self.view_is c.args.dev c.in-Some.at entry (sym c.place.ensures ∙ c.in-Some.is)
    c.index_mut.ensures.value in
    let low : entry.stats.failed < 2 ^ 63 = rw stats c.requires.small.failed in
    omega (arith, c.from-in-Some.ensures)

pub returns : goal.returns
returns c =
    let entry = c.index_mut.result.now in
    λ d corrected failed.
    its_stats_added c.args.self.now c.self.inside.entries.items c.self.view_is c.args.dev c.in-Some.at entry (sym c.place.ensures ∙ c.in-Some.is)
    c.index_mut.ensures.value _ d refl
    (ap (λ n. entry.stats.corrected + n) (c.from.ensures ∙ sym corrected)) (ap (λ n. entry.stats.failed + n) (c.from-in-Some.ensures ∙ sym failed))
