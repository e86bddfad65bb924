use Rattle.std.proofs.Common.{ℕ, ◌≡◌, ◌+◌, ◌-◌, [], ◌∷◌, ◌++◌, ap, refl, ◌∙◌, arith}
use Rattle.turnstile.specs.Turns.{idle_view, new_passes}
use Rattle.turnstile.specs.Plays.{kept_by}
use Rattle.turnstile.specs.Passes.{new_standing, new_standings}
use Rattle.turnstile.proofs.Dealing.{rest_of_new, new_snoc}
use Rattle.turnstile.proofs.turnstile.Turnstile.deal.Goals as goal

pub loop-number-preserved : goal.loop-number-preserved
loop-number-preserved g c =
    let lock = c.args.self.now in
    let inv = c.loop-number.invariant in
    let n : ℕ = c.loop-number.number in
    let less : (c.args.passes - n) - 1 ≡ c.args.passes - (n + 1) = omega arith in
    let here : n ≡ 0 + n = omega arith in
    record {
      table = c.split-next.ensures.table ∙ inv.table;
      me = c.split-next.ensures.kept ∙ ap (λ m. (kept_by m.0, m.1)) inv.me
          ∙ ap (λ ps. (idle_view lock.tag ps, [])) (rest_of_new g.row.T-Entry.Denot n (c.args.passes - n)
          (omega arith) ∙ ap (λ (k : ℕ). new_passes (n + 1) k) less);
      list = c.in_ok-add.ensures ∙ ap (λ l. l ++ new_standing lock n ∷ []) inv.list
          ∙ ap (λ (k : ℕ). new_standings lock 0 n ++ new_standing lock k ∷ []) here ∙ new_snoc lock 0 n;
      last = refl;
    }

pub returns : goal.returns
returns g c =
    let lock = c.args.self.now in
    let inv = c.loop-number.invariant in
    let n : ℕ = c.loop-number.number in
    let here : c.args.passes - 1 ≡ 0 + n = omega arith in
    let all : n + 1 ≡ c.args.passes = omega arith in
    c.in_ok-add-2.ensures ∙ ap (λ l. l ++ new_standing lock (c.args.passes - 1) ∷ []) inv.list
    ∙ ap (λ (k : ℕ). new_standings lock 0 n ++ new_standing lock k ∷ []) here ∙ new_snoc lock 0 n
    ∙ ap (λ (k : ℕ). new_standings lock 0 k) all
