use Rattle.std.proofs.Common.{sym, subst}
use Rattle.std.specs.Prelude.{IfSome}
use Rattle.onfi_bus.specs.Moves.{ActFits}
use Rattle.onfi_bus.specs.declared.cycle.Cycle.{Cycle}
use Rattle.onfi_bus.specs.declared.cycle.Cycle.TheVariants.{Command, Address}
use Rattle.onfi_bus.proofs.Going.{act_of, fits_of}
use Rattle.onfi_bus.proofs.phase.Phase.step.Goals as goal

pub returns-in-Command-clause-phase : goal.returns-in-Command-clause-phase
returns-in-Command-clause-phase c = fits_of c.args.g.now c.args.self (Command c.in-Command.byte) c.command.result c.requires c.command.ensures

pub returns-in-Command-clause-act : goal.returns-in-Command-clause-act
returns-in-Command-clause-act c =
    subst (λ (cycle : Cycle). IfSome c.command.result (λ step. ActFits c.args.g.now cycle step.1)) (sym c.in-Command.is)
    (act_of c.args.g.now c.args.self (Command c.in-Command.byte) c.command.result c.requires c.command.ensures)

pub returns-in-Address-clause-phase : goal.returns-in-Address-clause-phase
returns-in-Address-clause-phase c = fits_of c.args.g.now c.args.self (Address c.from.result) c.address.result c.requires c.address.ensures
