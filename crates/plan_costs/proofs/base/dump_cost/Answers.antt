use Rattle.std.proofs.Common.{◌≡◌, ◌<◌, ◌≤◌, ◌*◌, ◌/◌, ◌+◌, ◌-◌, ◌^◌, ℕ, sym, ap, ◌∙◌, subst, arith}
use Rattle.std.proofs.Math.Nat.{div-le_self}
use Rattle.command_model.specs.Command.{count_or_rest}
use Rattle.nand_model.specs.declared.geometry.Geometry.{Geometry}
use Rattle.nand_model.proofs.Bounds.{pages-le, pages-some}
use Rattle.plan_costs.proofs.Sizes.{page-low, small_quotient, count-le, device_pages}
use Rattle.plan_costs.proofs.base.dump_cost.Goals as goal

pub overflow_mul-from : goal.overflow_mul-from
overflow_mul-from c =
    rw (c.from.ensures, c.from-per_block.ensures) (omega (arith, device_pages c.args.blocks c.args.g.now.pages_per_block (omega arith) (pages-le c.args.g.now)))

pub overflow_add-end : goal.overflow_add-end
overflow_add-end c =
    let g : Geometry = c.args.g.now in
    rw (c.count_or_rest-pages.ensures, c.from.ensures, c.from-per_block.ensures, c.from-page.ensures) (omega (
      arith,
      small_quotient c.args.off g.page (page-low g) (omega arith),
      small_quotient c.args.len g.page (page-low g) (omega arith),
      device_pages c.args.blocks g.pages_per_block (omega arith) (pages-le g),
      count-le (c.args.len / g.page) (c.args.off / g.page) (c.args.blocks * g.pages_per_block),
    ))

pub overflow_sub-end : goal.overflow_sub-end
overflow_sub-end c = rw c.from-per_block.ensures (pages-some c.args.g.now)

pub overflow_add-end-2 : goal.overflow_add-end-2
overflow_add-end-2 c =
    let g : Geometry = c.args.g.now in
    rw (c.count_or_rest-pages.ensures, c.from.ensures, c.from-per_block.ensures, c.from-page.ensures) (omega (
      arith,
      small_quotient c.args.off g.page (page-low g) (omega arith),
      small_quotient c.args.len g.page (page-low g) (omega arith),
      device_pages c.args.blocks g.pages_per_block (omega arith) (pages-le g),
      count-le (c.args.len / g.page) (c.args.off / g.page) (c.args.blocks * g.pages_per_block),
      pages-le g,
    ))

pub nonzero_div-end : goal.nonzero_div-end
nonzero_div-end c = rw c.from-per_block.ensures (pages-some c.args.g.now)

pub nonzero_div-first-2 : goal.nonzero_div-first-2
nonzero_div-first-2 c = rw c.from-per_block.ensures (pages-some c.args.g.now)

few_pages : (c : goal.After-saturating_sub) → c.count_or_rest-pages.result + c.saturating_sub.result < 2 ^ 60
few_pages c =
    let g : Geometry = c.args.g.now in
    let first : c.args.off / c.from-page.result < 2 ^ 53 =
    rw c.from-page.ensures (small_quotient c.args.off g.page (page-low g) (omega arith)) in
    let second : c.args.len / g.page < 2 ^ 53 = small_quotient c.args.len g.page (page-low g) (omega arith) in
    let all : c.args.blocks * g.pages_per_block < 2 ^ 39 = device_pages c.args.blocks g.pages_per_block (omega arith) (pages-le g) in
    let pages : c.count_or_rest-pages.result ≤ c.args.len / g.page + c.args.blocks * g.pages_per_block =
    rw (c.count_or_rest-pages.ensures, c.from.ensures, c.from-per_block.ensures, c.from-page.ensures)
    (count-le (c.args.len / g.page) (c.args.off / g.page) (c.args.blocks * g.pages_per_block)) in
    let block : c.from-per_block.result ≤ 128 = rw c.from-per_block.ensures (pages-le g) in
    let end = div-le_self (c.args.off / c.from-page.result + c.count_or_rest-pages.result + (c.from-per_block.result - 1)) c.from-per_block.result in
    omega (arith, c.saturating_sub.ensures, end, first, second, all, pages, block)

pub overflow_add-result : goal.overflow_add-result
overflow_add-result c = omega (arith, few_pages c)

pub returns-clause-small : goal.returns-clause-small
returns-clause-small c = few_pages c
