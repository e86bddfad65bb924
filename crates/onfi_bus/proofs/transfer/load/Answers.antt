use Rattle.std.proofs.Common.{◌<◌, ◌∙◌, length, ap, arith}
use Rattle.std.specs.Prelude.{slice_index}
use Rattle.std.proofs.lemmas.List.{length-set}
use Rattle.nand_model.specs.Sizes.{raw_len}
use Rattle.onfi_bus.specs.State.{register_of, sizes_of}
use Rattle.onfi_bus.proofs.Sending.{byte_sent, put_more}
use Rattle.onfi_bus.proofs.transfer.load.Goals as goal

pub loop-byte-preserved : goal.loop-byte-preserved
loop-byte-preserved g c =
    let invariant = c.loop-byte.invariant in
    let i = c.loop-byte.byte-index in
    let here : c.loop-byte.byte-index < length c.args.image.now = omega arith in
    let there : c.loop-byte.byte-index < raw_len (sizes_of c.args.bus.now) = omega (arith, c.requires.image) in
    let inside : c.loop-byte.byte-index < length (register_of c.loop-byte.bus) = omega (arith, invariant.whole) in
    let sent = byte_sent g.F.Flash.fault_model (g.F.Flash.state c.args.flash.now) (sizes_of c.args.bus.now) c.loop-byte.bus c.send.new.bus c.args.page c.loop-byte.byte-index
    (slice_index c.args.image.now c.loop-byte.byte-index) invariant.sizes invariant.phase there c.send.ensures.follows in
    record {
      sizes = c.send.ensures.sizes ∙ invariant.sizes;
      phase = sent.0;
      whole = ap length sent.1 ∙ length-set (register_of c.loop-byte.bus) c.loop-byte.byte-index (slice_index c.args.image.now c.loop-byte.byte-index) ∙ invariant.whole;
      put = put_more (register_of c.loop-byte.bus) (register_of c.send.new.bus) c.args.image.now c.loop-byte.byte-index sent.1 inside here invariant.put;
    }
