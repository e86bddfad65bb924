-- What is left of flash_erase, from where it stands.
use Rattle.std.specs.Prelude.{◌+◌, not, if◌then◌else◌}
use Rattle.nand_model.specs.declared.words.Op.TheVariants.{Erase, IsBad}
use Rattle.command_model.specs.Command.{Script, Ask, says_bad, is_done, one_if, erase_blocks}
use Rattle.tool_steps.specs.declared.erasing.EraseAt.{EraseAt}
use Rattle.tool_steps.specs.declared.erasing.Erasing.{Erasing as Waiting}
use Rattle.tool_steps.specs.declared.erasing.Erasing.TheVariants.{Scanning, Erasing}

-- the block is erased, and the others follow
abbrev pub erase_here : EraseAt → Script
erase_here e =
    Ask (Erase e.dev e.block) (λ r. erase_blocks e.dev e.no_scan e.rest (e.block + 1) (e.erased + one_if (is_done r))
    e.bad (e.failed + one_if (not (is_done r))))

-- the block is asked for, and is erased unless it is bad
abbrev pub scan_here : EraseAt → Script
scan_here e =
    Ask (IsBad e.dev e.block) (λ r. if says_bad r then erase_blocks e.dev e.no_scan e.rest (e.block + 1) e.erased
    (e.bad + 1) e.failed else erase_here e)

-- what is left of flash_erase
abbrev pub erasing_left : Waiting → Script
erasing_left (Scanning e) = scan_here e
erasing_left (Erasing e) = erase_here e
