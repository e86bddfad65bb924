use Rattle.std.proofs.Common.{◌<◌, ◌∙◌, sym, subst}
use Rattle.nand_model.specs.Chip.{EraseEvent}
use Rattle.nand_model.specs.Path.{first_event}
use Rattle.nand_model.specs.declared.geometry.Geometry.{Geometry}
use Rattle.bbt_flash.specs.Attach.{attach_left}
use Rattle.chip_core.proofs.Attaching.{has_changed}
use Rattle.chip_core.proofs.Named.{named-erase, none-where}
use Rattle.chip_core.proofs.QuietBlocks.{saw-counted, saw-few, watched-erase}
use Rattle.chip_core.proofs.attach_run.AttachRun.erase.Goals as goal

pub saw-requires-clause-counted : goal.saw-requires-clause-counted
saw-requires-clause-counted g c =
    let h = c.args.judge.now.geometry in
    let s = g.F.Flash.state c.args.flash.now in
    let block = c.args.block in
    let there : block < h.blocks = subst (λ (k : Geometry). c.args.block < k.blocks) (sym c.requires.sizes) c.requires.there in
    let knows = c.event_comes.ensures.unquiet ∙ c.requires.watches in
    saw-counted s h (sym c.requires.sizes) block there c.event_comes.new.self.unquiet knows c.block_is_quiet-was.result c.block_is_quiet-was.ensures

pub saw-requires-clause-few : goal.saw-requires-clause-few
saw-requires-clause-few g c =
    let h = c.args.judge.now.geometry in
    let s = g.F.Flash.state c.args.flash.now in
    let block = c.args.block in
    let there : block < h.blocks = subst (λ (k : Geometry). c.args.block < k.blocks) (sym c.requires.sizes) c.requires.there in
    let knows = c.event_comes.ensures.unquiet ∙ c.requires.watches in
    saw-few s h (sym c.requires.sizes) block there c.event_comes.new.self.unquiet knows c.block_is_quiet-was.result c.block_is_quiet-was.ensures

pub returns-clause-advanced : goal.returns-clause-advanced
returns-clause-advanced g c =
    let old = c.args.self.now in
    let event = first_event (attach_left old.attach) in
    has_changed g.F.Flash.fault_model (g.F.Flash.state c.args.flash.now) (g.F.Flash.state c.erase-told.new.flash) old _ c.erase-told.result
    (EraseEvent c.args.block) (named-erase event c.args.block c.requires.event) c.erase-told.ensures.done c.is_none.result
    (none-where c.erase-told.result c.is_none.result c.is_none.ensures) c.did.ensures.left (c.saw.ensures.so_far ∙ c.event_comes.ensures.so_far)

pub returns-clause-watches : goal.returns-clause-watches
returns-clause-watches g c =
    let h = c.args.judge.now.geometry in
    let s = g.F.Flash.state c.args.flash.now in
    let block = c.args.block in
    let there : block < h.blocks = subst (λ (k : Geometry). c.args.block < k.blocks) (sym c.requires.sizes) c.requires.there in
    let knows = c.event_comes.ensures.unquiet ∙ c.requires.watches in
    watched-erase s h (sym c.requires.sizes) block there c.event_comes.new.self.unquiet knows c.block_is_quiet-was.result c.block_is_quiet-was.ensures c.saw.new.self.unquiet c.block_is_quiet.result c.saw.ensures.unquiet g.F.Flash.fault_model (g.F.Flash.state c.erase-told.new.flash)
    c.block_is_quiet.ensures c.erase-told.ensures.done.state
