use Rattle.std.proofs.Common.{inl, inr, sym, ap, ◌∙◌}
use Rattle.nand_model.specs.declared.words.Reply.{Reply}
use Rattle.command_model.specs.Command.{Script}
use Rattle.command_model.specs.NandTest.{after_change}
use Rattle.tool_steps.specs.Steps.{state_left}
use Rattle.tool_steps.specs.Testing.{place_left, refused_left, worn_left}
use Rattle.tool_steps.proofs.testing.BlockAt.changed.Goals as goal

pub returns-in-BadBlock : goal.returns-in-BadBlock
returns-in-BadBlock c =
    λ g kept.
    c.refused.ensures g kept
    ∙ ap (λ (r : Reply). after_change r (state_left (place_left g kept) c.args.done) (worn_left g c.args.self) (refused_left g c.args.self)) (sym c.in-BadBlock.is)

pub returns-in-ProgramFailed : goal.returns-in-ProgramFailed
returns-in-ProgramFailed c =
    λ g kept.
    let after : Reply → Script = λ r. after_change r (state_left (place_left g kept) c.args.done) (worn_left g c.args.self) (refused_left g c.args.self) in
    c.worn.ensures g kept ∙ elim c.in-ProgramFailed.is [ inl e ↦ ap after (sym e) | inr e ↦ ap after (sym e) ]
