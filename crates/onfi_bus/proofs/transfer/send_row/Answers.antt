use Rattle.std.proofs.Common.{◌≡◌, ℕ, ◌/◌, ◌<◌, ◌∙◌, refl, ap, subst, sym, arith}
use Rattle.std.specs.Prelude.{◌%◌}
use Rattle.nand_model.specs.Sizes.{page_count}
use Rattle.onfi_bus.specs.Moves.{with_row}
use Rattle.onfi_bus.specs.Phrases.{row_of}
use Rattle.onfi_bus.specs.State.{sizes_of}
use Rattle.onfi_bus.proofs.Sending.{row_sent}
use Rattle.onfi_bus.proofs.Sizes.{page_count_small}
use Rattle.onfi_bus.proofs.transfer.send_row.Goals as goal

-- the number of the three bytes of a number
bytes_back : (page : ℕ) → row_of (page % 256) (page / 256 % 256) (page / 65536) ≡ page
bytes_back page = omega arith

pub overflow_cast-page-3 : goal.overflow_cast-page-3
overflow_cast-page-3 g c = omega (arith, page_count_small (sizes_of c.args.bus.now), c.requires.page)

pub returns-clause-phase : goal.returns-clause-phase
returns-clause-phase g c = λ to at.
    let page : ℕ = c.args.page in
    let there : row_of (page % 256) (page / 256 % 256) (page / 65536) < page_count (sizes_of c.args.bus.now) =
    subst (λ (n : ℕ). n < page_count (sizes_of c.args.bus.now)) (sym (bytes_back page)) c.requires.page in
    (row_sent g.F.Flash.fault_model (g.F.Flash.state c.args.flash.now) (sizes_of c.args.bus.now) c.args.bus.now c.send.new.bus c.send-2.new.bus c.send-3.new.bus to
    (page % 256) (page / 256 % 256) (page / 65536) refl c.send.ensures.sizes (c.send-2.ensures.sizes ∙ c.send.ensures.sizes)
    c.send.ensures.follows c.send-2.ensures.follows c.send-3.ensures.follows there at).0
    ∙ ap (with_row to) (bytes_back page)

pub returns-clause-device : goal.returns-clause-device
returns-clause-device g c = λ to at.
    let page : ℕ = c.args.page in
    let there : row_of (page % 256) (page / 256 % 256) (page / 65536) < page_count (sizes_of c.args.bus.now) =
    subst (λ (n : ℕ). n < page_count (sizes_of c.args.bus.now)) (sym (bytes_back page)) c.requires.page in
    (row_sent g.F.Flash.fault_model (g.F.Flash.state c.args.flash.now) (sizes_of c.args.bus.now) c.args.bus.now c.send.new.bus c.send-2.new.bus c.send-3.new.bus to
    (page % 256) (page / 256 % 256) (page / 65536) refl c.send.ensures.sizes (c.send-2.ensures.sizes ∙ c.send.ensures.sizes)
    c.send.ensures.follows c.send-2.ensures.follows c.send-3.ensures.follows there at).1
