use Rattle.std.proofs.Common.{◌≡◌, ◌++◌, ℕ, subst}
use Rattle.std.specs.Prelude.{OnOk}
use Rattle.made_plan.specs.declared.summary.Sums.{Sums}
use Rattle.made_plan.specs.Summary.{summary_text, sums_of, all_notes}
use Rattle.made_plan.proofs.summary.put_summary.Goals as goal

pub returns-clause-of_run : goal.returns-clause-of_run
returns-clause-of_run c plan courses sums bad =
    subst (λ (blocks : ℕ). OnOk c.put_sums.result (c.put_sums.new.out ≡ c.args.out.now ++ summary_text c.args.n (sums_of (all_notes plan courses)) blocks)) bad
    (subst (λ (s : Sums). OnOk c.put_sums.result (c.put_sums.new.out ≡ c.args.out.now ++ summary_text c.args.n s c.args.bad_blocks)) sums c.put_sums.ensures)
