-- What a command writes.
use Rattle.std.specs.Prelude.{⊤}
use Rattle.nand_model.specs.declared.geometry.Geometry.{Geometry}
use Rattle.nand_model.specs.declared.words.Reply.{Reply}
use Rattle.command_model.specs.Command.{Ask, End, Script}
use Rattle.run_model.specs.Survival.{WritesAPage}

-- each write that a script asks for, whatever the replies, has a body of one page
abbrev pub WritesBodies : Geometry → Script → Type 0
WritesBodies g (End outcome) = ⊤
WritesBodies g (Ask op go_on) = WritesAPage g op × ((reply : Reply) → WritesBodies g (go_on reply))
