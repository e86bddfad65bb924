use Rattle.std.proofs.Common.{◌≡◌, length, take}
use Rattle.onfi_bus.specs.State.{phase_of, register_of, sizes_of}
use Rattle.onfi_bus.specs.declared.phase.Phase.TheVariants.{Loading}
use Rattle.onfi_bus.proofs.transfer.load.Given as goal

-- the bytes so far are in the register
abbrev pub invariant-loop-byte : goal.invariant-loop-byte
invariant-loop-byte g l = record {
  sizes : sizes_of l.bus ≡ sizes_of l.fn.bus;
  phase : phase_of l.bus ≡ Loading l.page l.byte-index;
  whole : length (register_of l.bus) ≡ length l.image;
  put : take l.byte-index (register_of l.bus) ≡ take l.byte-index l.image;
}
