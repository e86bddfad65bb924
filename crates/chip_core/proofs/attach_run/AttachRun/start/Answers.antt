use Rattle.std.proofs.Common.{◌≤◌, ◌∙◌, ℕ, List, length, ap, sym}
use Rattle.std.proofs.lemmas.List.{length-replicate}
use Rattle.nand_model.specs.declared.geometry.Geometry.{Geometry}
use Rattle.bbt_flash.specs.Attach.{attach_left}
use Rattle.chip_core.specs.Events.{ProgramsAtMost}
use Rattle.chip_core.specs.Quiet.{unquiet_count}
use Rattle.chip_core.proofs.Programs.{begins-bounded, begins-without}
use Rattle.chip_core.proofs.attach_run.AttachRun.start.Goals as goal
use Rattle.chip_core.proofs.attach_run.AttachRun.start.Goals.{then-g-eq0, else-g-eq0}

pub returns-clause-watches : goal.returns-clause-watches
returns-clause-watches g c =
    c.start-2.ensures.unquiet ∙ ap (λ (h : Geometry). unquiet_count h (g.F.Flash.state c.args.flash.now).pages) (sym c.requires)

pub returns-clause-fits : goal.returns-clause-fits
returns-clause-fits g c =
    let path = attach_left c.in_ok-start.field-0 in
    let Long : List ℕ → ℕ = λ xs. length xs in
    let bound : (c.if-g-eq0.programs ≤ 6) × ProgramsAtMost c.if-g-eq0.programs path = elim c.if-g-eq0.branch [
      | then-g-eq0 w ↦ begins-without c.args.g c.if-g-eq0.programs path c.in_ok-start.ensures.path w.if-g-eq0.true w.programs-is
      | else-g-eq0 w ↦ begins-bounded c.args.g c.if-g-eq0.programs path c.in_ok-start.ensures.path w.if-g-eq0.false w.programs-is
    ] in
    record {
      sizes = c.in_ok-start.ensures.sizes;
      cells = ap Long c.in_ok-filled.ensures ∙ length-replicate c.raw_len.result 0 ∙ c.raw_len.ensures;
      states = ap Long c.in_ok-filled-2.ensures ∙ length-replicate c.args.g.blocks 0;
      few = bound.0;
      programs = bound.1;
    }
