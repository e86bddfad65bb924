use Rattle.std.proofs.Common.{◌*◌, ◌<◌, ◌∙◌, true, false, subst, sym, arith}
use Rattle.nand_model.specs.Chip.{EraseCall, failure_of}
use Rattle.nand_model.specs.Sizes.{page_count}
use Rattle.nand_model.specs.declared.geometry.Geometry.{Geometry}
use Rattle.onfi_bus.proofs.Sending.{erase_sent, good_unless}
use Rattle.onfi_bus.proofs.Sizes.{first_page_there, page_count_small}
use Rattle.onfi_bus.proofs.transfer.erase_by_cycles.Goals as goal

pub overflow_mul-block : goal.overflow_mul-block
overflow_mul-block g c =
    let there : c.args.block < c.geometry-g.result.blocks = rw c.geometry-g.ensures.sizes c.requires in
    omega (arith, first_page_there c.geometry-g.result c.args.block there, page_count_small c.geometry-g.result)

pub send_row-requires-clause-page : goal.send_row-requires-clause-page
send_row-requires-clause-page g c =
    let there : c.args.block < c.geometry-g.result.blocks = rw c.geometry-g.ensures.sizes c.requires in
    subst (λ (s : Geometry). c.args.block * c.geometry-g.result.pages_per_block < page_count s) (sym (c.send.ensures.sizes ∙ c.new-bus.ensures.sizes))
    (first_page_there c.geometry-g.result c.args.block there)

pub has_failed-requires-clause-idle : goal.has_failed-requires-clause-idle
has_failed-requires-clause-idle g c =
    let there : c.args.block < c.geometry-g.result.blocks = rw c.geometry-g.ensures.sizes c.requires in
    let done = erase_sent g.F.Flash.fault_model (g.F.Flash.state c.args.flash.now) (g.F.Flash.state c.step.new.flash) c.geometry-g.result
    c.new-bus.result c.send.new.bus c.send_row.new.bus c.step.new.self c.args.block there c.new-bus.ensures.sizes c.new-bus.ensures.phase
    c.send.ensures.follows c.send.ensures.sizes c.send_row.ensures.phase c.send_row.ensures.sizes c.step.ensures.phase c.step.ensures.device in
    done.idle

pub returns-then-has_failed-clause-state : goal.returns-then-has_failed-clause-state
returns-then-has_failed-clause-state g c =
    let there : c.args.block < c.geometry-g.result.blocks = rw c.geometry-g.ensures.sizes c.requires in
    let done = erase_sent g.F.Flash.fault_model (g.F.Flash.state c.args.flash.now) (g.F.Flash.state c.step.new.flash) c.geometry-g.result
    c.new-bus.result c.send.new.bus c.send_row.new.bus c.step.new.self c.args.block there c.new-bus.ensures.sizes c.new-bus.ensures.phase
    c.send.ensures.follows c.send.ensures.sizes c.send_row.ensures.phase c.send_row.ensures.sizes c.step.ensures.phase c.step.ensures.device in
    done.state

pub returns-then-has_failed-clause-ok : goal.returns-then-has_failed-clause-ok
returns-then-has_failed-clause-ok g c =
    let there : c.args.block < c.geometry-g.result.blocks = rw c.geometry-g.ensures.sizes c.requires in
    let done = erase_sent g.F.Flash.fault_model (g.F.Flash.state c.args.flash.now) (g.F.Flash.state c.step.new.flash) c.geometry-g.result
    c.new-bus.result c.send.new.bus c.send_row.new.bus c.step.new.self c.args.block there c.new-bus.ensures.sizes c.new-bus.ensures.phase
    c.send.ensures.follows c.send.ensures.sizes c.send_row.ensures.phase c.send_row.ensures.sizes c.step.ensures.phase c.step.ensures.device in
    good_unless true (failure_of g.F.Flash.fault_model (g.F.Flash.state c.args.flash.now) (EraseCall c.args.block)) (sym c.if-has_failed.true ∙ c.has_failed.ensures ∙ done.failed)

pub returns-else-has_failed-clause-state : goal.returns-else-has_failed-clause-state
returns-else-has_failed-clause-state g c =
    let there : c.args.block < c.geometry-g.result.blocks = rw c.geometry-g.ensures.sizes c.requires in
    let done = erase_sent g.F.Flash.fault_model (g.F.Flash.state c.args.flash.now) (g.F.Flash.state c.step.new.flash) c.geometry-g.result
    c.new-bus.result c.send.new.bus c.send_row.new.bus c.step.new.self c.args.block there c.new-bus.ensures.sizes c.new-bus.ensures.phase
    c.send.ensures.follows c.send.ensures.sizes c.send_row.ensures.phase c.send_row.ensures.sizes c.step.ensures.phase c.step.ensures.device in
    done.state

pub returns-else-has_failed-clause-ok : goal.returns-else-has_failed-clause-ok
returns-else-has_failed-clause-ok g c =
    let there : c.args.block < c.geometry-g.result.blocks = rw c.geometry-g.ensures.sizes c.requires in
    let done = erase_sent g.F.Flash.fault_model (g.F.Flash.state c.args.flash.now) (g.F.Flash.state c.step.new.flash) c.geometry-g.result
    c.new-bus.result c.send.new.bus c.send_row.new.bus c.step.new.self c.args.block there c.new-bus.ensures.sizes c.new-bus.ensures.phase
    c.send.ensures.follows c.send.ensures.sizes c.send_row.ensures.phase c.send_row.ensures.sizes c.step.ensures.phase c.step.ensures.device in
    good_unless false (failure_of g.F.Flash.fault_model (g.F.Flash.state c.args.flash.now) (EraseCall c.args.block)) (sym c.if-has_failed.false ∙ c.has_failed.ensures ∙ done.failed)
