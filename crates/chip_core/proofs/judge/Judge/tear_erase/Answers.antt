use Rattle.std.proofs.Common.{◌∙◌, ap}
use Rattle.nand_model.specs.Chip.{ChipState, EraseEvent}
use Rattle.nand_model.specs.Quiet.{fairness_if, fairness_of, is_table_block}
use Rattle.nand_model.specs.Sizes.{first_page}
use Rattle.nand_model.specs.declared.geometry.Geometry.{Geometry}
use Rattle.chip_core.proofs.Judging.{erase-judged}
use Rattle.chip_core.proofs.judge.Judge.tear_erase.Goals as goal

pub returns-clause-torn : goal.returns-clause-torn
returns-clause-torn g c =
    let s = g.F.Flash.state c.args.flash.now in
    let after = g.F.Flash.state c.torn_erase.new.self in
    let wanted = c.look_at.new.self.wanted in
    let judged =
    c.erase_left.ensures.left
    ∙ ap (λ (h : Geometry). fairness_if (is_table_block h c.args.block) h (after.pages (first_page h c.args.block)).cells wanted) c.look_at.ensures.geometry in
    record {
      state = c.torn_erase.ensures.state;
      left =
          erase-judged s after c.args.self.now.geometry c.requires.sizes c.args.block wanted c.erase_left.result c.look_at.ensures.wanted judged
          ∙ ap (λ (t : ChipState g.F.Flash.FaultState). fairness_of s.geometry s.pages (EraseEvent c.args.block) t.pages) c.torn_erase.ensures.state;
    }
