use Rattle.std.proofs.Common.{◌≡◌, take}
use Rattle.onfi_bus.specs.State.{phase_of, register_of, sizes_of}
use Rattle.onfi_bus.specs.declared.phase.Phase.TheVariants.{Reading}
use Rattle.onfi_bus.proofs.transfer.read_by_cycles.Given as goal

-- the bytes so far are those of the page
abbrev pub invariant-loop-byte : goal.invariant-loop-byte
invariant-loop-byte g l = record {
  sizes : sizes_of l.bus ≡ (g.F.Flash.state l.flash).geometry;
  phase : phase_of l.bus ≡ Reading l.byte-index;
  register : register_of l.bus ≡ ((g.F.Flash.state l.flash).pages l.page).cells;
  given : take l.byte-index l.out ≡ take l.byte-index ((g.F.Flash.state l.flash).pages l.page).cells;
}
