use Rattle.std.proofs.Common.{◌≡◌, ℕ, suc, ◌+◌, ◌-◌, ap, arith}
use Rattle.command_model.specs.Command.{write_blocks}
use Rattle.tool_steps.specs.Writing.{write_mode, units_from}
use Rattle.tool_steps.proofs.writing.BlockAt.next.Goals as goal

pub returns : goal.returns
returns c =
    λ g bytes.
    let a = c.args in
    let one_less : suc (c.args.self.rest - 1) ≡ c.args.self.rest = omega arith in
    ap (λ (n : ℕ). write_blocks g (write_mode a.self.called) n (a.self.block + 1) 0 (units_from g bytes a.self.called a.first (suc a.more))
    (record { pages = a.first; skipped = a.skipped; failed = a.failed })) one_less
