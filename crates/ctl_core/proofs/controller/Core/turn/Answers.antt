use Rattle.std.proofs.Common.{◌≡◌, ◌≤◌, ℕ, List, length, Bool, true, false, not, Ok, refl, ap, sym, ◌∙◌, subst}
use Rattle.std.specs.declared.alloc.AllocError.{AllocError}
use Rattle.run_model.specs.Course.{is_idle}
use Rattle.ctl_core.specs.declared.turn.Turn.{Turn}
use Rattle.ctl_core.specs.declared.turn.Turn.TheVariants.{Did, Held, Done, Dark}
use Rattle.ctl_core.specs.Answer.{is_did, turn_answer, after_turn}
use Rattle.ctl_core.specs.Past.{turn_limit, Past, sizes_in, course_of, next_course, takes_turns, with_turn}
use Rattle.ctl_core.specs.Board.{past_of, StandsAt, IsOnCourse}
use Rattle.ctl_core.proofs.Limits.{few_turns}
use Rattle.ctl_core.proofs.CoreSteps.{dark_course, lit_course, relisted, stayed_on, next_attached, turned_on, idle_turn}
use Rattle.ctl_core.proofs.CourseSteps.{attached_takes, dark_answer, dark_is_idle, dark_takes, dark_turn_is, takes_attached}
use Rattle.ctl_core.proofs.controller.Core.turn.Goals as goal

not_true : (b : Bool) → true ≡ not b → b ≡ false
not_true true h = cc
not_true false h = refl

not_false : (b : Bool) → false ≡ not b → b ≡ true
not_false true h = refl
not_false false h = cc

not_did : (turn : Turn) → (turn ≡ Did → ⊥) → is_did turn ≡ false
not_did Did h = absurd (h refl)
not_did (Held by) h = refl
not_did Done h = refl
not_did Dark h = refl

no_turn : {F : Type 0} (E : Type 0) (turn : Turn) (session : ℕ) (past : Past F) → (turn ≡ Did → ⊥) → past ≡ after_turn {E = E} (Ok turn) session past
no_turn E Did session past h = absurd (h refl)
no_turn E (Held by) session past h = refl
no_turn E Done session past h = refl
no_turn E Dark session past h = refl

-- a dark controller stays as it is
pub returns-then-self : goal.returns-then-self
returns-then-self g c =
    let past = past_of c.self.inside.journal in
    let course = course_of g.F.Flash.fault_model g.F.Flash.state past in
    let dark = dark_course past c.self.inside.board c.self.invariant c.if-self.true in
    record {
      answer = dark_answer g.F.Flash.fault_model past.boot (sizes_in g.F.Flash.state past) course c.args.session dark
          ∙ ap (λ (p : Past g.row.F.Denot). turn_answer p.boot.partitions (sizes_in g.F.Flash.state p)
          (course_of g.F.Flash.fault_model g.F.Flash.state p) c.args.session) c.self.view_is;
      busy = sym (ap not (dark_is_idle g.F.Flash.fault_model past.boot (sizes_in g.F.Flash.state past) course c.args.session dark))
          ∙ ap (λ (p : Past g.row.F.Denot). not (is_idle p.boot.partitions (sizes_in g.F.Flash.state p)
          (course_of g.F.Flash.fault_model g.F.Flash.state p) c.args.session)) c.self.view_is;
      past = refl;
      step = subst (λ (p : Past g.row.F.Denot). course_of g.F.Flash.fault_model g.F.Flash.state p
          ≡ next_course g.F.Flash.fault_model g.F.Flash.state p c.args.session) c.self.view_is
          (sym (dark_turn_is g.F.Flash.fault_model past.boot (sizes_in g.F.Flash.state past) course c.args.session dark));
      takes = subst (λ (p : Past g.row.F.Denot). takes_turns (course_of g.F.Flash.fault_model g.F.Flash.state p) ≡ true) c.self.view_is
          (dark_takes g.F.Flash.fault_model past.boot (sizes_in g.F.Flash.state past) course c.args.session dark);
      few = subst (λ (p : Past g.row.F.Denot). length p.turns ≤ turn_limit g.F.Flash.state p) c.self.view_is
          (few_turns past c.self.inside.board c.self.invariant);
    }

pub step-requires-clause-attached : goal.step-requires-clause-attached
step-requires-clause-attached g c =
    let past = past_of c.self.inside.journal in
    let before : Past g.row.F.Denot = record past { turns = c.reserve.new.self.items } in
    let on = relisted past c.self.inside.board c.self.invariant c.reserve.new.self.items c.reserve-2.new.self c.reserve.ensures.items
    c.reserve-2.ensures.notes in
    let same : before ≡ c.args.self.now = ap (λ (ts : List ℕ). record past { turns = ts }) c.reserve.ensures.items ∙ c.self.view_is in
    takes_attached (course_of g.F.Flash.fault_model g.F.Flash.state before)
    (lit_course before (record c.self.inside.board { notes = c.reserve-2.new.self }) on c.if-self.false)
    (ap (λ (p : Past g.row.F.Denot). takes_turns (course_of g.F.Flash.fault_model g.F.Flash.state p)) same ∙ c.requires.takes)

pub returns-in_err-reserve-clause-few : goal.returns-in_err-reserve-clause-few
returns-in_err-reserve-clause-few g c =
    let past = past_of c.self.inside.journal in
    subst (λ (ts : List ℕ). length ts ≤ turn_limit g.F.Flash.state past) (sym c.reserve.ensures.items)
    (few_turns past c.self.inside.board c.self.invariant)

pub returns-in_err-reserve-2-clause-few : goal.returns-in_err-reserve-2-clause-few
returns-in_err-reserve-2-clause-few g c =
    let past = past_of c.self.inside.journal in
    subst (λ (ts : List ℕ). length ts ≤ turn_limit g.F.Flash.state past) (sym c.reserve.ensures.items)
    (few_turns past c.self.inside.board c.self.invariant)

pub returns-in_err-turn-clause-few : goal.returns-in_err-turn-clause-few
returns-in_err-turn-clause-few g c =
    let past = past_of c.self.inside.journal in
    subst (λ (ts : List ℕ). length ts ≤ turn_limit g.F.Flash.state past) (sym c.reserve.ensures.items)
    (few_turns past c.self.inside.board c.self.invariant)

pub invariant_of-self-in-Did : goal.invariant_of-self-in-Did
invariant_of-self-in-Did g c =
    let past = past_of c.self.inside.journal in
    let before : Past g.row.F.Denot = record past { turns = c.reserve.new.self.items } in
    let on = relisted past c.self.inside.board c.self.invariant c.reserve.new.self.items c.reserve-2.new.self c.reserve.ensures.items
    c.reserve-2.ensures.notes in
    let same : before ≡ c.args.self.now = ap (λ (ts : List ℕ). record past { turns = ts }) c.reserve.ensures.items ∙ c.self.view_is in
    let attached = takes_attached (course_of g.F.Flash.fault_model g.F.Flash.state before)
    (lit_course before (record c.self.inside.board { notes = c.reserve-2.new.self }) on c.if-self.false)
    (ap (λ (p : Past g.row.F.Denot). takes_turns (course_of g.F.Flash.fault_model g.F.Flash.state p)) same ∙ c.requires.takes) in
    let busy = not_true _ (ap is_did (sym c.in-Did.is) ∙ c.in_ok-turn.ensures.idle) in
    subst (λ (ts : List ℕ). IsOnCourse (record past { turns = ts }) c.step.new.self) (sym c.push_reserved.ensures.items)
    (turned_on before (record c.self.inside.board { notes = c.reserve-2.new.self }) on c.args.session c.step.new.self attached busy c.in_ok-turn.ensures.stands)

pub invariant_of-self-in_default : goal.invariant_of-self-in_default
invariant_of-self-in_default g c =
    let past = past_of c.self.inside.journal in
    let before : Past g.row.F.Denot = record past { turns = c.reserve.new.self.items } in
    let on = relisted past c.self.inside.board c.self.invariant c.reserve.new.self.items c.reserve-2.new.self c.reserve.ensures.items
    c.reserve-2.ensures.notes in
    let same : before ≡ c.args.self.now = ap (λ (ts : List ℕ). record past { turns = ts }) c.reserve.ensures.items ∙ c.self.view_is in
    let attached = takes_attached (course_of g.F.Flash.fault_model g.F.Flash.state before)
    (lit_course before (record c.self.inside.board { notes = c.reserve-2.new.self }) on c.if-self.false)
    (ap (λ (p : Past g.row.F.Denot). takes_turns (course_of g.F.Flash.fault_model g.F.Flash.state p)) same ∙ c.requires.takes) in
    let idle = not_false _ (sym (not_did c.in_ok-turn.turn c.in_default.not-Did) ∙ c.in_ok-turn.ensures.idle) in
    stayed_on before (record c.self.inside.board { notes = c.reserve-2.new.self }) on c.step.new.self
    (subst (λ course. StandsAt before course c.step.new.self) (idle_turn before (record c.self.inside.board { notes = c.reserve-2.new.self }) on c.if-self.false
    c.args.session attached idle) c.in_ok-turn.ensures.stands)

pub returns-in-Did-clause-takes : goal.returns-in-Did-clause-takes
returns-in-Did-clause-takes g c =
    let past = past_of c.self.inside.journal in
    let before : Past g.row.F.Denot = record past { turns = c.reserve.new.self.items } in
    let on = relisted past c.self.inside.board c.self.invariant c.reserve.new.self.items c.reserve-2.new.self c.reserve.ensures.items
    c.reserve-2.ensures.notes in
    let same : before ≡ c.args.self.now = ap (λ (ts : List ℕ). record past { turns = ts }) c.reserve.ensures.items ∙ c.self.view_is in
    let attached = takes_attached (course_of g.F.Flash.fault_model g.F.Flash.state before)
    (lit_course before (record c.self.inside.board { notes = c.reserve-2.new.self }) on c.if-self.false)
    (ap (λ (p : Past g.row.F.Denot). takes_turns (course_of g.F.Flash.fault_model g.F.Flash.state p)) same ∙ c.requires.takes) in
    subst (λ (ts : List ℕ). takes_turns (course_of g.F.Flash.fault_model g.F.Flash.state (record past { turns = ts })) ≡ true)
    (sym c.push_reserved.ensures.items)
    (attached_takes (course_of g.F.Flash.fault_model g.F.Flash.state (with_turn before c.args.session))
    (next_attached before (record c.self.inside.board { notes = c.reserve-2.new.self }) on c.args.session attached))

pub returns-in-Did-clause-few : goal.returns-in-Did-clause-few
returns-in-Did-clause-few g c =
    let past = past_of c.self.inside.journal in
    let before : Past g.row.F.Denot = record past { turns = c.reserve.new.self.items } in
    let on = relisted past c.self.inside.board c.self.invariant c.reserve.new.self.items c.reserve-2.new.self c.reserve.ensures.items
    c.reserve-2.ensures.notes in
    let same : before ≡ c.args.self.now = ap (λ (ts : List ℕ). record past { turns = ts }) c.reserve.ensures.items ∙ c.self.view_is in
    let attached = takes_attached (course_of g.F.Flash.fault_model g.F.Flash.state before)
    (lit_course before (record c.self.inside.board { notes = c.reserve-2.new.self }) on c.if-self.false)
    (ap (λ (p : Past g.row.F.Denot). takes_turns (course_of g.F.Flash.fault_model g.F.Flash.state p)) same ∙ c.requires.takes) in
    let busy = not_true _ (ap is_did (sym c.in-Did.is) ∙ c.in_ok-turn.ensures.idle) in
    subst (λ (ts : List ℕ). length ts ≤ turn_limit g.F.Flash.state past) (sym c.push_reserved.ensures.items)
    (few_turns (with_turn before c.args.session) c.step.new.self
    (turned_on before (record c.self.inside.board { notes = c.reserve-2.new.self }) on c.args.session c.step.new.self attached busy
    c.in_ok-turn.ensures.stands))

pub returns-in_default : goal.returns-in_default
returns-in_default g c =
    let past = past_of c.self.inside.journal in
    let before : Past g.row.F.Denot = record past { turns = c.reserve.new.self.items } in
    let on = relisted past c.self.inside.board c.self.invariant c.reserve.new.self.items c.reserve-2.new.self c.reserve.ensures.items
    c.reserve-2.ensures.notes in
    let same : before ≡ c.args.self.now = ap (λ (ts : List ℕ). record past { turns = ts }) c.reserve.ensures.items ∙ c.self.view_is in
    let attached = takes_attached (course_of g.F.Flash.fault_model g.F.Flash.state before)
    (lit_course before (record c.self.inside.board { notes = c.reserve-2.new.self }) on c.if-self.false)
    (ap (λ (p : Past g.row.F.Denot). takes_turns (course_of g.F.Flash.fault_model g.F.Flash.state p)) same ∙ c.requires.takes) in
    let idle = not_false _ (sym (not_did c.in_ok-turn.turn c.in_default.not-Did) ∙ c.in_ok-turn.ensures.idle) in
    record {
      answer = subst (λ (p : Past g.row.F.Denot). c.in_ok-turn.turn ≡ turn_answer p.boot.partitions (sizes_in g.F.Flash.state p)
          (course_of g.F.Flash.fault_model g.F.Flash.state p) c.args.session) same c.in_ok-turn.ensures.answer;
      busy = subst (λ (p : Past g.row.F.Denot). is_did c.in_ok-turn.turn ≡ not (is_idle p.boot.partitions (sizes_in g.F.Flash.state p)
          (course_of g.F.Flash.fault_model g.F.Flash.state p) c.args.session)) same c.in_ok-turn.ensures.idle;
      past = same ∙ no_turn AllocError c.in_ok-turn.turn c.args.session c.args.self.now c.in_default.not-Did;
      step = sym (idle_turn before (record c.self.inside.board { notes = c.reserve-2.new.self }) on c.if-self.false c.args.session attached idle)
          ∙ ap (λ (p : Past g.row.F.Denot). next_course g.F.Flash.fault_model g.F.Flash.state p c.args.session) same;
      takes = ap (λ (p : Past g.row.F.Denot). takes_turns (course_of g.F.Flash.fault_model g.F.Flash.state p)) same ∙ c.requires.takes;
      few = few_turns before (record c.self.inside.board { notes = c.reserve-2.new.self }) on;
    }
