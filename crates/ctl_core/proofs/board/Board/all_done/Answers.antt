use Rattle.std.proofs.Common.{◌≡◌, ◌<◌, ◌≤◌, ◌⊎◌, inl, inr, ℕ, List, length, arith, true, Some, refl, ap, sym, ◌∙◌}
use Rattle.std.specs.Prelude.{slice_get, option_map}
use Rattle.std.proofs.lemmas.Bool.{cases_lt}
use Rattle.std.proofs.lemmas.Option.{slice_get_within, get_or_from_slice_get}
use Rattle.nand_model.specs.declared.words.Command.{Command}
use Rattle.command_model.specs.Session.{is_finished}
use Rattle.tool_steps.specs.Boot.{commands_at}
use Rattle.session_steps.specs.Standing.{standing, commands_by}
use Rattle.ctl_core.proofs.board.Board.all_done.Goals as goal

pub loop-k-preserved : goal.loop-k-preserved
loop-k-preserved g c i b s below at there = by_place (cases_lt i c.loop-k.k)
  where
    by_place : (i < c.loop-k.k) ⊎ (c.loop-k.k ≤ i) → is_finished (commands_by b.1 (standing c.args.self.now.notes.notes s)) ≡ true
    by_place (inl l) = c.loop-k.invariant i b s l at there
    by_place (inr h) =
        let here : i ≡ c.loop-k.k = omega (arith, below, h) in
        let own : commands_at c.args.boot.now c.loop-k.k ≡ Some b.1 = ap (option_map (λ (x : ℕ × List Command). x.1))
        (ap (slice_get c.args.boot.now.sessions) (sym here) ∙ at) in
        let commands : b.1 ≡ c.commands.result.now = cc (own, c.commands.ensures) in
        let session : s ≡ c.index.result.now = sym (c.index.ensures ∙ get_or_from_slice_get c.args.self.now.sessions.items c.loop-k.k s c.index.result.now
        (ap (slice_get c.args.self.now.sessions.items) (sym here) ∙ there)) in
        (λ d. is_finished (commands_by (commands d) (standing c.args.self.now.notes.notes (session d)))) ∙ sym c.is_over.ensures ∙ c.if-not-is_over.false

pub returns : goal.returns
returns g c = (
  (λ h i b s at there. let within = slice_get_within c.args.self.now.sessions.items i s there in
      let all : length c.args.self.now.sessions.items ≤ c.loop-k.k = omega (arith, c.loop-k-test.false, c.len-k-end.ensures, c.args.self.now.sessions.ok.0) in
      c.loop-k.invariant i b s (omega (arith, within, all)) at there),
  (λ h. refl),
)
