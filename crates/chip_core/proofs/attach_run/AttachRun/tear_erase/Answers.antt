use Rattle.std.proofs.Common.{◌<◌, ◌∙◌, sym, subst}
use Rattle.nand_model.specs.Chip.{EraseEvent, done_bits}
use Rattle.nand_model.specs.Path.{first_event}
use Rattle.nand_model.specs.Sizes.{raw_len}
use Rattle.nand_model.specs.declared.geometry.Geometry.{Geometry}
use Rattle.bbt_flash.specs.Attach.{attach_left}
use Rattle.chip_core.specs.Torn.{IsTorn}
use Rattle.chip_core.proofs.Named.{named-erase, of_some}
use Rattle.chip_core.proofs.QuietBlocks.{saw-counted, saw-few, watched-torn_erase}
use Rattle.chip_core.proofs.attach_run.AttachRun.tear_erase.Goals as goal

pub saw-requires-clause-counted : goal.saw-requires-clause-counted
saw-requires-clause-counted g c =
    let h = c.args.judge.now.geometry in
    let s = g.F.Flash.state c.args.flash.now in
    let block = c.args.block in
    let there : block < h.blocks = subst (λ (k : Geometry). c.args.block < k.blocks) (sym c.requires.sizes) c.requires.there in
    let knows = c.event_comes.ensures.unquiet ∙ c.requires.watches in
    saw-counted s h (sym c.requires.sizes) block there c.event_comes.new.self.unquiet knows c.block_is_quiet-was.result c.block_is_quiet-was.ensures

pub saw-requires-clause-few : goal.saw-requires-clause-few
saw-requires-clause-few g c =
    let h = c.args.judge.now.geometry in
    let s = g.F.Flash.state c.args.flash.now in
    let block = c.args.block in
    let there : block < h.blocks = subst (λ (k : Geometry). c.args.block < k.blocks) (sym c.requires.sizes) c.requires.there in
    let knows = c.event_comes.ensures.unquiet ∙ c.requires.watches in
    saw-few s h (sym c.requires.sizes) block there c.event_comes.new.self.unquiet knows c.block_is_quiet-was.result c.block_is_quiet-was.ensures

pub returns-clause-torn : goal.returns-clause-torn
returns-clause-torn g c =
    let event = first_event (attach_left c.args.self.now.attach) in
    of_some (IsTorn g.F.Flash.fault_model c.args.tear.now (g.F.Flash.state c.args.flash.now) (g.F.Flash.state c.tear_erase-fairness.new.flash)
    c.tear_erase-fairness.result) event (EraseEvent c.args.block) (named-erase event c.args.block c.requires.event) c.tear_erase-fairness.ensures.torn

pub returns-clause-watches : goal.returns-clause-watches
returns-clause-watches g c =
    let h = c.args.judge.now.geometry in
    let s = g.F.Flash.state c.args.flash.now in
    let block = c.args.block in
    let there : block < h.blocks = subst (λ (k : Geometry). c.args.block < k.blocks) (sym c.requires.sizes) c.requires.there in
    let knows = c.event_comes.ensures.unquiet ∙ c.requires.watches in
    watched-torn_erase s h (sym c.requires.sizes) block there c.event_comes.new.self.unquiet knows c.block_is_quiet-was.result c.block_is_quiet-was.ensures c.saw.new.self.unquiet c.block_is_quiet.result c.saw.ensures.unquiet g.F.Flash.fault_model (g.F.Flash.state c.tear_erase-fairness.new.flash)
    c.block_is_quiet.ensures (done_bits (raw_len s.geometry) c.args.tear.now) c.tear_erase-fairness.ensures.torn.state
