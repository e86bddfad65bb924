use Rattle.std.proofs.Common.{◌≡◌, length, take}
use Rattle.chip_core.proofs.knowledge.Knowledge.put_states.Given as goal

-- the states so far are written
abbrev pub invariant-loop-block : goal.invariant-loop-block
invariant-loop-block l = record { long : length l.states ≡ length l.self.table; written : take l.block l.states ≡ take l.block l.self.table }
