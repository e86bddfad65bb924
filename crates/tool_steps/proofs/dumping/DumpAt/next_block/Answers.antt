use Rattle.std.proofs.Common.{◌≡◌, suc, ◌+◌, ◌-◌, min, refl, sym, arith}
use Rattle.nand_model.proofs.Bounds.{pages-le, pages-some}
use Rattle.tool_steps.specs.declared.dumping.DumpAt.{DumpAt}
use Rattle.tool_steps.proofs.Dumps.{later_left-next}
use Rattle.tool_steps.proofs.dumping.DumpAt.next_block.Goals as goal

pub overflow_sub-result : goal.overflow_sub-result
overflow_sub-result c = omega (arith, c.min-here.ensures, pages-some c.args.g.now, c.requires.some)

pub invariant_of-result : goal.invariant_of-result
invariant_of-result c =
    let some = pages-some c.args.g.now in
    let few = pages-le c.args.g.now in
    let d = c.args.self in
    record {
      in_device = omega (arith, c.min-here.ensures, some, d.in_device, c.requires.some);
      in_block = omega (arith, c.min-here.ensures, few);
      few = omega (arith, c.min-here.ensures, some, d.few, c.requires.some, c.requires.pages);
      bad_before = c.requires.bad;
    }

pub returns : goal.returns
returns c =
    λ dump.
    let here : suc (c.min-here.result - 1) ≡ min c.args.self.later c.args.g.now.pages_per_block =
    omega (arith, c.min-here.ensures, pages-some c.args.g.now, c.requires.some) in
    let left : c.args.self.later - c.min-here.result ≡ c.args.self.later - min c.args.self.later c.args.g.now.pages_per_block = omega (arith, c.min-here.ensures) in
    let next : DumpAt = record {
      called = c.args.self.called;
      block = c.args.self.block + 1;
      place = 0;
      rest = c.min-here.result - 1;
      later = c.args.self.later - c.min-here.result;
      counts = c.args.counts;
      in_device = omega (arith, c.min-here.ensures, pages-some c.args.g.now, c.args.self.in_device, c.requires.some);
      in_block = omega (arith, c.min-here.ensures, pages-le c.args.g.now);
      few = omega (arith, c.min-here.ensures, pages-some c.args.g.now, c.args.self.few, c.requires.some, c.requires.pages);
      bad_before = c.requires.bad;
    } in
    sym (later_left-next c.args.g.now c.args.self next c.args.counts dump c.requires.some refl refl refl here left refl)
