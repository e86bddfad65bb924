-- flash_erase: what it asks for, and its outcome.
use Rattle.std.specs.Prelude.{ℕ, zero, suc, ◌+◌, Bool, not, if◌then◌else◌}
use Rattle.nand_model.specs.declared.words.Op.TheVariants.{Erase, IsBad}
use Rattle.nand_model.specs.declared.words.Outcome.TheVariants.{FlashErase as Erased}
use Rattle.command_model.specs.Scripts.{Script, End, Ask, says_bad, is_done, one_if}

-- flash_erase: each block of the range, unless it is bad
abbrev pub erase_blocks : ℕ → Bool → (left block erased bad failed : ℕ) → Script
erase_blocks dev no_scan zero block erased bad failed = End (Erased erased bad failed)
erase_blocks dev no_scan (suc left) block erased bad failed =
    let erase : Script = Ask (Erase dev block)
    (λ r. erase_blocks dev no_scan left (block + 1) (erased + one_if (is_done r)) bad
    (failed + one_if (not (is_done r)))) in
    if no_scan then erase
    else Ask (IsBad dev block) (λ r. if says_bad r then erase_blocks dev no_scan left (block + 1) erased (bad + 1)
    failed else erase)
