use Rattle.std.proofs.Common.{◌≡◌, vec_len}
use Rattle.chip_sim.proofs.chip.tests.flips_bits.Given as goal

-- the chip's sizes stay
abbrev pub invariant-loop-bit : goal.invariant-loop-bit
invariant-loop-bit g l =
    record {
      page : l.chip.store.geometry.page ≡ 2048;
      spare : l.chip.store.geometry.spare ≡ 64;
      block_pages : l.chip.store.geometry.pages_per_block ≡ 64;
      block_count : l.chip.store.geometry.blocks ≡ 8;
      out : vec_len l.out ≡ 2112;
    }
