use Rattle.std.proofs.Common.{◌≡◌, suc, ◌+◌, ◌-◌, ◌*◌, arith}
use Rattle.tool_steps.specs.Dumping.{counts_with, pages_left}
use Rattle.tool_steps.proofs.dumping.DumpAt.next.Goals as goal

pub returns : goal.returns
returns c =
    λ g dump.
    let d = c.args.self in
    let left : suc (c.args.self.rest - 1) ≡ c.args.self.rest = omega (arith, c.requires.some) in
    let page : c.args.self.block * g.pages_per_block + (c.args.self.place + 1) ≡ c.args.self.block * g.pages_per_block + c.args.self.place + 1 = omega arith in
    (λ i. pages_left g d (left i) (page i) (counts_with c.args.counts dump))
