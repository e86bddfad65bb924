use Rattle.std.proofs.Common.{ℕ, List, false, refl, sym, subst}
use Rattle.ctl_core.specs.declared.board.Board.{Board}
use Rattle.ctl_core.specs.Past.{Past}
use Rattle.ctl_core.specs.Board.{IsOnCourse}
use Rattle.ctl_core.proofs.FirstAndLast.{start_on}
use Rattle.ctl_core.proofs.controller.Core.start.Goals as goal

pub invariant_of-result : goal.invariant_of-result
invariant_of-result g c =
    let board : Board g.row.F.Denot g.row.C.Denot g.F.Flash = record {
      slots = c.in_ok-slots.slots;
      events = 0;
      dark = false;
      notes = c.new-2.result;
      sessions =
          c.in_ok-sessions.sessions;
    } in
    let past : List g.row.F.Denot → List ℕ → Past g.row.F.Denot = λ flashes turns. record
    { boot = c.args.boot; started = flashes; attaches = 0; turns = turns } in
    subst (λ (fs : List g.row.F.Denot). IsOnCourse (past fs c.new.result.items) board) (sym c.of-started.ensures)
    (subst (λ (ts : List ℕ). IsOnCourse (past c.args.flashes ts) board) (sym c.new.ensures.items)
    (start_on c.args.boot c.args.flashes board c.requires c.in_ok-slots.ensures c.in_ok-sessions.ensures refl refl c.new-2.ensures))
