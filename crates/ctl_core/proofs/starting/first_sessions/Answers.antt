use Rattle.std.proofs.Common.{◌≡◌, ◌⊎◌, inl, inr, ℕ, List, length, arith, Some, None, ap, sym, ◌∙◌, subst₂, ◌+◌}
use Rattle.std.proofs.lemmas.List.{length_push}
use Rattle.std.specs.Prelude.{slice_get, option_map}
use Rattle.nand_model.specs.declared.words.Command.{Command}
use Rattle.tool_steps.specs.Boot.{session_number}
use Rattle.session_steps.specs.declared.session.Session.{Session}
use Rattle.ctl_core.specs.Sessions.{HasNotBegun}
use Rattle.ctl_core.proofs.FirstAndLast.{pushed_at, past_end, before_end}
use Rattle.ctl_core.proofs.starting.first_sessions.Goals as goal

pub loop-number-preserved : goal.loop-number-preserved
loop-number-preserved c =
    let here : session_number c.args.boot.now (length c.loop-number.sessions.items) ≡ Some c.in-Some.number =
    ap (session_number c.args.boot.now) (sym (c.len.ensures ∙ c.loop-number.sessions.ok.0)) ∙ sym c.session.ensures ∙ c.in-Some.is in
    let below = before_end (λ (s : ℕ × List Command). s.0) c.args.boot.now.sessions (length c.loop-number.sessions.items) c.in-Some.number here in
    record {
      within = let longer : length c.push.new.self.items ≡ length c.loop-number.sessions.items + 1 = ap length c.in_ok-push.ensures.items
          ∙ length_push c.loop-number.sessions.items c.new.result in omega (arith, longer, below);
      each = λ i b s at there. by_place i b s at here (pushed_at c.loop-number.sessions.items c.new.result i s
          (ap (λ ss. slice_get ss i) (sym c.in_ok-push.ensures.items) ∙ there));
    }
  where
    by_place : (i : ℕ) (b : ℕ × List Command) (s : Session) → slice_get c.args.boot.now.sessions i ≡ Some b
        → session_number c.args.boot.now (length c.loop-number.sessions.items) ≡ Some c.in-Some.number
        → (slice_get c.loop-number.sessions.items i ≡ Some s) ⊎ ((i ≡ length c.loop-number.sessions.items) × (c.new.result ≡ s)) → HasNotBegun b.0 s
    by_place i b s at here (inl old) = c.loop-number.invariant.each i b s at old
    by_place i b s at here (inr (e, same)) =
        let number : session_number c.args.boot.now (length c.loop-number.sessions.items) ≡ Some b.0 =
        ap (option_map (λ (x : ℕ × List Command). x.0)) (ap (slice_get c.args.boot.now.sessions) (sym e) ∙ at) in
        let own : c.in-Some.number ≡ b.0 = cc (number, here) in
        subst₂ (λ n t. HasNotBegun n t) own same c.new.ensures

pub returns : goal.returns
returns c =
    let here : session_number c.args.boot.now (length c.loop-number.sessions.items) ≡ None =
    ap (session_number c.args.boot.now) (sym (c.len.ensures ∙ c.loop-number.sessions.ok.0)) ∙ sym c.session.ensures ∙ c.in_default.is in
    let end = past_end (λ (s : ℕ × List Command). s.0) c.args.boot.now.sessions (length c.loop-number.sessions.items) here in
    record { many = omega (arith, end, c.loop-number.invariant.within); each = c.loop-number.invariant.each }
