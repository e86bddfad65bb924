use Rattle.std.proofs.Common.{◌≡◌, ◌+◌, ◌∷◌, ◌++◌, [], ℕ, map, sym, ap, ◌∙◌}
use Rattle.nand_model.specs.Sizes.{numbers_from}
use Rattle.nand_model.specs.declared.words.Stats.{Stats}
use Rattle.nand_model.specs.Partitions.{chip_of}
use Rattle.ctl_core.specs.Board.{slot_state}
use Rattle.ctl_core.specs.Ended.{slot_statistics_at}
use Rattle.ctl_core.proofs.LastStates.{one_number_more, mapped_push}
use Rattle.ctl_core.proofs.ending.all_statistics.Goals as goal

pub loop-n-preserved : goal.loop-n-preserved
loop-n-preserved g c =
    let statistics : ℕ → ℕ × Stats = λ dev. (dev, slot_statistics_at (map slot_state c.args.slots.now) (chip_of c.args.parts.now dev) dev) in
    let one : (c.first.result + c.loop-n.n, c.statistics.result) ≡ statistics (c.args.parts.now.first + c.loop-n.n) =
    (λ d. (c.first.result + c.loop-n.n, c.statistics.ensures d)) ∙ ap (λ n. statistics (n + c.loop-n.n)) c.first.ensures in
    c.in_ok-append.ensures.ok ∙ (λ d. c.loop-n.invariant d ++ one d ∷ [])
    ∙ sym (mapped_push statistics (numbers_from c.args.parts.now.first c.loop-n.n) (c.args.parts.now.first + c.loop-n.n))
    ∙ ap (map statistics) (sym (one_number_more c.args.parts.now.first c.loop-n.n))
