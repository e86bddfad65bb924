use Rattle.std.proofs.Common.{◌≡◌, All, length, vec_len}
use Rattle.bbt_flash.proofs.spares.SpareTables.new.Given as goal

-- the tables so far have all blocks
abbrev pub invariant-loop : goal.invariant-loop
invariant-loop l =
    record { whole : All (λ table. length table ≡ l.blocks) l.tables.items; count : vec_len l.tables ≡ l.counter }
