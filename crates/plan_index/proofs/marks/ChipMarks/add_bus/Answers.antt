use Rattle.std.proofs.Common.{◌∙◌, refl, sym}
use Rattle.plan_index.proofs.Buses.{bus_kept, bus_refused, marked_bus}
use Rattle.plan_index.proofs.marks.ChipMarks.add_bus.Goals as goal

pub returns-then-self : goal.returns-then-self
returns-then-self c = bus_refused c.args.chip.now (sym c.requires.bus ∙ c.if-self.true)

pub returns : goal.returns
returns c = (
  bus_kept c.args.chip.now (sym c.requires.bus ∙ c.if-self.false),
  marked_bus c.args.chip.now c.args.self _ c.requires refl refl refl refl refl refl,
)
