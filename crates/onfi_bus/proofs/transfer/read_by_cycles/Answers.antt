use Rattle.std.proofs.Common.{◌≡◌, ◌<◌, ◌∙◌, ℕ, List, length, ap, arith}
use Rattle.std.specs.Prelude.{slice_index, slice_set}
use Rattle.nand_model.specs.Sizes.{raw_len}
use Rattle.onfi_bus.proofs.Sending.{byte_given, byte_told, put_more}
use Rattle.onfi_bus.proofs.transfer.read_by_cycles.Goals as goal

pub loop-byte-preserved : goal.loop-byte-preserved
loop-byte-preserved g c =
    let invariant = c.loop-byte.invariant in
    let chip = g.F.Flash.state c.args.flash.now in
    let cells : List ℕ = ((g.F.Flash.state c.args.flash.now).pages c.args.page).cells in
    let whole : length ((g.F.Flash.state c.args.flash.now).pages c.args.page).cells ≡ raw_len (g.F.Flash.state c.args.flash.now).geometry =
    c.geometry.ensures.whole_pages c.args.page c.requires.page_there in
    let there : c.loop-byte.byte-index < raw_len (g.F.Flash.state c.args.flash.now).geometry = omega (arith, c.requires.length_right) in
    let inside : c.loop-byte.byte-index < length c.loop-byte.out = omega arith in
    let here : c.loop-byte.byte-index < length ((g.F.Flash.state c.args.flash.now).pages c.args.page).cells = omega (arith, whole) in
    let sent = byte_given g.F.Flash.fault_model chip chip.geometry c.loop-byte.bus c.byte_out.new.bus c.loop-byte.byte-index invariant.sizes invariant.phase there c.byte_out.ensures.follows in
    let told = byte_told chip chip.geometry c.loop-byte.bus c.loop-byte.byte-index c.byte_out.result invariant.sizes invariant.phase there c.byte_out.ensures.byte in
    record {
      sizes = c.byte_out.ensures.sizes ∙ invariant.sizes;
      phase = sent.0;
      register = sent.1 ∙ invariant.register;
      given = put_more c.loop-byte.out (slice_set c.loop-byte.out c.loop-byte.byte-index c.byte_out.result) cells c.loop-byte.byte-index
          (ap (slice_set c.loop-byte.out c.loop-byte.byte-index) (told ∙ ap (λ (r : List ℕ). slice_index r c.loop-byte.byte-index) invariant.register))
          inside here invariant.given;
    }
