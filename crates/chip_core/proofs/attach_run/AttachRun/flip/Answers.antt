use Rattle.std.proofs.Common.{◌<◌, ◌∙◌, ◌/◌, refl, ap, sym, subst}
use Rattle.nand_model.specs.Sizes.{page_count}
use Rattle.nand_model.specs.declared.geometry.Geometry.{Geometry}
use Rattle.nand_iface.proofs.FlashLemmas.{after_trace-geometry}
use Rattle.nand_model.specs.Chip.{ChipState, flip_events}
use Rattle.chip_core.proofs.Places.{block-there}
use Rattle.chip_core.proofs.QuietBlocks.{saw-counted, saw-few, watched-flips}
use Rattle.chip_core.proofs.attach_run.AttachRun.flip.Goals as goal

pub block_is_quiet-was-requires-clause-there : goal.block_is_quiet-was-requires-clause-there
block_is_quiet-was-requires-clause-there g c =
    rw c.geometry-g.ensures.sizes (block-there (g.F.Flash.state c.args.flash.now).geometry c.args.page c.requires.place.page_there)

pub block_is_quiet-requires-clause-sizes : goal.block_is_quiet-requires-clause-sizes
block_is_quiet-requires-clause-sizes g c =
    ap (λ (s : ChipState g.F.Flash.FaultState). s.geometry) c.flip.ensures.state
    ∙ after_trace-geometry g.F.Flash.fault_model (g.F.Flash.state c.args.flash.now) (flip_events c.args.page c.args.bits.now) ∙ sym c.geometry-g.ensures.sizes

pub saw-requires-clause-counted : goal.saw-requires-clause-counted
saw-requires-clause-counted g c =
    let h = c.geometry-g.result in
    let s = g.F.Flash.state c.args.flash.now in
    let block = c.args.page / h.pages_per_block in
    let there : block < h.blocks =
    block-there h c.args.page (subst (λ (k : Geometry). c.args.page < page_count k) (sym c.geometry-g.ensures.sizes) c.requires.place.page_there) in
    saw-counted s h (sym c.geometry-g.ensures.sizes) block there c.args.self.now.watch.unquiet c.requires.watches c.block_is_quiet-was.result c.block_is_quiet-was.ensures

pub saw-requires-clause-few : goal.saw-requires-clause-few
saw-requires-clause-few g c =
    let h = c.geometry-g.result in
    let s = g.F.Flash.state c.args.flash.now in
    let block = c.args.page / h.pages_per_block in
    let there : block < h.blocks =
    block-there h c.args.page (subst (λ (k : Geometry). c.args.page < page_count k) (sym c.geometry-g.ensures.sizes) c.requires.place.page_there) in
    saw-few s h (sym c.geometry-g.ensures.sizes) block there c.args.self.now.watch.unquiet c.requires.watches c.block_is_quiet-was.result c.block_is_quiet-was.ensures

pub returns-clause-watches : goal.returns-clause-watches
returns-clause-watches g c =
    let h = c.geometry-g.result in
    let s = g.F.Flash.state c.args.flash.now in
    let block = c.args.page / h.pages_per_block in
    let there : block < h.blocks =
    block-there h c.args.page (subst (λ (k : Geometry). c.args.page < page_count k) (sym c.geometry-g.ensures.sizes) c.requires.place.page_there) in
    watched-flips s h (sym c.geometry-g.ensures.sizes) block there c.args.self.now.watch.unquiet c.requires.watches c.block_is_quiet-was.result c.block_is_quiet-was.ensures c.saw.new.self.unquiet c.block_is_quiet.result
    c.saw.ensures.unquiet g.F.Flash.fault_model (g.F.Flash.state c.flip.new.self) c.block_is_quiet.ensures c.args.page c.args.bits.now refl c.flip.ensures.state
