use Rattle.std.proofs.Common.{◌≡◌, ℕ, ◌&&◌, nat_le, nat_lt, if◌then◌else◌, slice_index_or, None}
use Rattle.chip_sim.proofs.flip_log.clear_places.Given as goal

abbrev pub invariant-loop-index : goal.invariant-loop-index
invariant-loop-index l = (index : ℕ) → slice_index_or l.places index None
    ≡ (if nat_le l.first index && nat_lt index l.index then None else slice_index_or l.initial.places index None)
