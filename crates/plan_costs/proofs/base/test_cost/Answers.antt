use Rattle.std.proofs.Common.{◌≡◌, ◌*◌, ◌+◌, ◌/◌, ℕ, cond, true, false, sym, ap, ◌∙◌}
use Rattle.command_model.specs.Command.{block_size, count_or_rest}
use Rattle.plan_costs.specs.Room.{in_long}
use Rattle.plan_costs.proofs.Sizes.{test_total}
use Rattle.plan_costs.proofs.base.test_cost.Goals as goal

pub returns-then-keep : goal.returns-then-keep
returns-then-keep c = λ dev seed mark.
    let block : ℕ = block_size c.args.g.now in
    let count : ℕ = count_or_rest (c.args.len / block) (c.args.off / block) c.args.blocks in
    let runs : ℕ = c.args.passes * count in
    let pages : ℕ = 2 * c.args.g.now.pages_per_block in
    let count_is : c.count_or_rest-count.result ≡ count =
    c.count_or_rest-count.ensures
    ∙ ap (λ b. count_or_rest (c.args.len / b) (c.args.off / b) c.from.result) c.block_len-block.ensures.len
    ∙ ap (count_or_rest (c.args.len / block) (c.args.off / block)) c.from.ensures in
    let runs_is : c.saturating_mul-runs.result ≡ in_long runs =
    c.saturating_mul-runs.ensures ∙ ap (λ n. in_long (n * c.count_or_rest-count.result)) c.from-2.ensures
    ∙ ap (λ n. in_long (c.args.passes * n)) count_is in
    c.saturating_mul.ensures
    ∙ ap (λ n. in_long (n * (2 * c.from-pages.result + 3 + (2 * c.from-pages.result + 1)))) runs_is
    ∙ ap (λ p. in_long (in_long runs * (2 * p + 3 + (2 * p + 1)))) c.from-pages.ensures
    ∙ test_total runs pages true
    ∙ ap (λ b. in_long (runs * (pages + 3) + cond b (runs * (pages + 1)) 0)) (sym c.if-keep.true)

pub returns : goal.returns
returns c = λ dev seed mark.
    let block : ℕ = block_size c.args.g.now in
    let count : ℕ = count_or_rest (c.args.len / block) (c.args.off / block) c.args.blocks in
    let runs : ℕ = c.args.passes * count in
    let pages : ℕ = 2 * c.args.g.now.pages_per_block in
    let count_is : c.count_or_rest-count.result ≡ count =
    c.count_or_rest-count.ensures
    ∙ ap (λ b. count_or_rest (c.args.len / b) (c.args.off / b) c.from.result) c.block_len-block.ensures.len
    ∙ ap (count_or_rest (c.args.len / block) (c.args.off / block)) c.from.ensures in
    let runs_is : c.saturating_mul-runs.result ≡ in_long runs =
    c.saturating_mul-runs.ensures ∙ ap (λ n. in_long (n * c.count_or_rest-count.result)) c.from-2.ensures
    ∙ ap (λ n. in_long (c.args.passes * n)) count_is in
    c.saturating_mul-2.ensures
    ∙ ap (λ n. in_long (n * (2 * c.from-pages.result + 3))) runs_is
    ∙ ap (λ p. in_long (in_long runs * (2 * p + 3))) c.from-pages.ensures
    ∙ test_total runs pages false
    ∙ ap (λ b. in_long (runs * (pages + 3) + cond b (runs * (pages + 1)) 0)) (sym c.if-keep.false)
