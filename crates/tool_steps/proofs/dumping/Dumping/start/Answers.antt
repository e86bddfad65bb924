use Rattle.std.proofs.Common.{◌≡◌, suc, ◌+◌, ◌-◌, ◌*◌, ◌/◌, ◌%◌, ◌<◌, ◌≤◌, ℕ, min, refl, sym, ap, ◌∙◌, arith}
use Rattle.std.proofs.Math.Nat.{div-le_self, mod-lt}
use Rattle.nand_model.proofs.Bounds.{pages-le, pages-some}
use Rattle.nand_model.specs.declared.geometry.Geometry.{Geometry}
use Rattle.command_model.specs.Runnable.{DumpsPages}
use Rattle.command_model.specs.Command.{blocks_touched, dump_blocks}
use Rattle.tool_steps.specs.Dumping.{dump_mode}
use Rattle.tool_steps.specs.declared.dumping.Called.{Called}
use Rattle.tool_steps.specs.declared.dumping.DumpAt.{DumpAt}
use Rattle.tool_steps.proofs.Dumps.{first_block}
use Rattle.tool_steps.proofs.Sizes.{page_of_offset-lt, device_pages-le}
use Rattle.tool_steps.proofs.dumping.Dumping.start.Goals as goal

pub overflow_cast-first : goal.overflow_cast-first
overflow_cast-first c =
    rw c.from.ensures (omega (arith, page_of_offset-lt c.args.g.now c.args.blocks c.args.off c.requires.first, device_pages-le c.args.g.now c.args.blocks c.requires.size.1))

-- where the first page of a range stands
module _ (g : Geometry) (called : Called) (first pages here : ℕ) (fits : first + pages ≤ 4194304) (some : 1 ≤ pages)
    (is : here ≡ min pages (g.pages_per_block - first % g.pages_per_block)) where
  below : first % g.pages_per_block < g.pages_per_block
  below = mod-lt first (pages-some g)

  in_device-at : first / g.pages_per_block + (pages - here) < 8388608
  in_device-at = omega (arith, fits, div-le_self first g.pages_per_block)

  in_block-at : first % g.pages_per_block + (here - 1) < 4194304
  in_block-at = omega (arith, is, pages-le g, below)

  few-at : 0 + (here - 1) + (pages - here) < 4194304
  few-at = omega (arith, is, fits, some, below)

  first_at : DumpAt
  first_at = record {
    called = called;
    block = first / g.pages_per_block;
    place = first % g.pages_per_block;
    rest = here - 1;
    later = pages - here;
    counts = record { pages = 0; bad = 0; corrected = 0; failed = 0; corrected_few = omega arith; failed_few = omega arith };
    in_device = in_device-at;
    in_block = in_block-at;
    few = few-at;
    bad_before = omega arith;
  }

fits_in : (g : Geometry) (blocks off len page pages : ℕ) → DumpsPages g blocks off len → page ≡ g.page → off / g.page + pages ≤ blocks * g.pages_per_block
    → off / page + pages ≤ 4194304
fits_in g blocks off len page pages h e few = rw e (omega (arith, few, device_pages-le g blocks h.size.1))

pub invariant_of-at-2-clause-in_device : goal.invariant_of-at-2-clause-in_device
invariant_of-at-2-clause-in_device c =
    let a = c.args in
    in_device-at a.g.now a.called (a.off / c.from.result) c.pages_in_range-pages.result c.min-here.result
    (fits_in a.g.now a.blocks a.off a.len c.from.result c.pages_in_range-pages.result c.requires c.from.ensures c.pages_in_range-pages.ensures.few)
    c.pages_in_range-pages.ensures.some c.min-here.ensures

pub invariant_of-at-2-clause-in_block : goal.invariant_of-at-2-clause-in_block
invariant_of-at-2-clause-in_block c =
    let a = c.args in
    in_block-at a.g.now a.called (a.off / c.from.result) c.pages_in_range-pages.result c.min-here.result
    (fits_in a.g.now a.blocks a.off a.len c.from.result c.pages_in_range-pages.result c.requires c.from.ensures c.pages_in_range-pages.ensures.few)
    c.pages_in_range-pages.ensures.some c.min-here.ensures

pub invariant_of-at-2-clause-few : goal.invariant_of-at-2-clause-few
invariant_of-at-2-clause-few c =
    let a = c.args in
    few-at a.g.now a.called (a.off / c.from.result) c.pages_in_range-pages.result c.min-here.result
    (fits_in a.g.now a.blocks a.off a.len c.from.result c.pages_in_range-pages.result c.requires c.from.ensures c.pages_in_range-pages.ensures.few)
    c.pages_in_range-pages.ensures.some c.min-here.ensures

pub returns : goal.returns
unfolding first_at
returns c =
    let a = c.args in
    let here : suc (c.min-here.result - 1) ≡ min c.pages_in_range-pages.result (c.args.g.now.pages_per_block - c.args.off / c.from.result % c.args.g.now.pages_per_block) =
    omega (arith, c.min-here.ensures, c.pages_in_range-pages.ensures.some, mod-lt (c.args.off / c.from.result) (pages-some c.args.g.now)) in
    let left : c.pages_in_range-pages.result - c.min-here.result
    ≡ c.pages_in_range-pages.result - min c.pages_in_range-pages.result (c.args.g.now.pages_per_block - c.args.off / c.from.result % c.args.g.now.pages_per_block) =
    ap (λ (n : ℕ). c.pages_in_range-pages.result - n) c.min-here.ensures in
    let at : DumpAt = first_at a.g.now a.called (a.off / c.from.result) c.pages_in_range-pages.result c.min-here.result
    (fits_in a.g.now a.blocks a.off a.len c.from.result c.pages_in_range-pages.result c.requires c.from.ensures c.pages_in_range-pages.ensures.few)
    c.pages_in_range-pages.ensures.some c.min-here.ensures in
    c.first.ensures a.g.now c.in_ok-empty_dump.field-0
    ∙ sym (first_block a.g.now at c.pages_in_range-pages.result (c.args.off / c.from.result) c.in_ok-empty_dump.field-0 c.pages_in_range-pages.ensures.some refl refl here left)
    ∙ (λ i. dump_blocks a.g.now (dump_mode c.args.called)
    (blocks_touched a.g.now (c.pages_in_range-pages.ensures.pages i) (c.args.off / c.from.ensures i)) (c.pages_in_range-pages.ensures.pages i)
    (c.args.off / c.from.ensures i) (record { pages = 0; bad = 0; corrected = 0; failed = 0; dump = c.in_ok-empty_dump.ensures i }))
