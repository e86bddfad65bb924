use Rattle.std.proofs.Common.{◌≡◌, ◌-◌, ◌*◌, List, ◌++◌, length, drop, replicate, Result, Ok, Err, IfOk, ap, ◌∙◌, ℕ}
use Rattle.std.specs.declared.alloc.AllocError.{AllocError}
use Rattle.tool_steps.proofs.Testings.{filled_up}
use Rattle.tool_steps.proofs.bodies.kept_body.Goals as goal

same : (r : Result (List ℕ) AllocError) (x y : List ℕ) → x ≡ y → IfOk r (λ b. b ≡ x) → IfOk r (λ b. b ≡ y)
same (Ok b) x y e h = h ∙ e
same (Err a) x y e h = tt

pub returns : goal.returns
returns c =
    let page : ℕ = c.args.g.now.page in
    same c.padded.result _ _
    (ap (λ (xs : List ℕ). xs ++ replicate (page - length xs) 0xff) c.part_of.ensures ∙ filled_up page (drop (c.args.place * c.args.g.now.page) c.args.kept.now))
    c.padded.ensures
