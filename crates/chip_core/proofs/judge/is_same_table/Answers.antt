use Rattle.std.proofs.Common.{◌≤◌, ◌∙◌, length, sym, arith}
use Rattle.std.proofs.lemmas.List.{take_all}
use Rattle.std.proofs.lemmas.Slice.Eq.{bytes_eq-Decides}
use Rattle.chip_core.proofs.judge.is_same_table.Goals as goal

pub returns : goal.returns
returns c =
    let seen = c.args.seen.now in
    let wanted = c.args.wanted.now in
    let all : length seen ≤ c.loop-block.block = omega arith in
    let all_too : length wanted ≤ c.loop-block.block = omega arith in
    sym ((bytes_eq-Decides seen wanted).1 (sym (take_all c.loop-block.block seen all) ∙ c.loop-block.invariant ∙ take_all c.loop-block.block wanted all_too))
