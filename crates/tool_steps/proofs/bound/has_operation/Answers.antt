use Rattle.std.proofs.Common.{ℕ, List, length, not, ap, ◌∙◌, sym}
use Rattle.std.specs.Prelude.{◌==◌}
use Rattle.tool_steps.specs.Steps.{asks_something}
use Rattle.tool_steps.proofs.Asks.{asks_at_all, some_tells}
use Rattle.tool_steps.proofs.bound.has_operation.Goals as goal

pub returns-in-FlashErase-clause-first : goal.returns-in-FlashErase-clause-first
returns-in-FlashErase-clause-first c = λ g h. sym (ap asks_something c.in-FlashErase.is) ∙ asks_at_all g c.args.command.now h

pub returns-in-NandDump-clause-first : goal.returns-in-NandDump-clause-first
returns-in-NandDump-clause-first c = λ g h. sym (ap asks_something c.in-NandDump.is) ∙ asks_at_all g c.args.command.now h

pub returns-in-NandTest-clause-first : goal.returns-in-NandTest-clause-first
returns-in-NandTest-clause-first c = λ g h. sym (ap asks_something c.in-NandTest.is) ∙ asks_at_all g c.args.command.now h

pub returns-in-MarkBad-clause-first : goal.returns-in-MarkBad-clause-first
returns-in-MarkBad-clause-first c = λ g h. sym (ap asks_something c.in-MarkBad.is) ∙ asks_at_all g c.args.command.now h

pub returns-in-IsBad-clause-first : goal.returns-in-IsBad-clause-first
returns-in-IsBad-clause-first c = λ g h. sym (ap asks_something c.in-IsBad.is) ∙ asks_at_all g c.args.command.now h

pub returns-in-Stats-clause-first : goal.returns-in-Stats-clause-first
returns-in-Stats-clause-first c = λ g h. sym (ap asks_something c.in-Stats.is) ∙ asks_at_all g c.args.command.now h

pub returns-in-NandWrite-clause-first : goal.returns-in-NandWrite-clause-first
returns-in-NandWrite-clause-first c =
    λ g h.
    let bytes = c.in-NandWrite.bytes in
    ap not (c.is_empty.ensures ∙ ap (λ (xs : List ℕ). length xs == 0) c.as_slice.ensures) ∙ some_tells (length bytes)
    ∙ sym (ap asks_something c.in-NandWrite.is) ∙ asks_at_all g c.args.command.now h
