use Rattle.std.proofs.Common.{◌+◌, ◌-◌, ◌^◌, arith, ap, ◌∙◌}
use Rattle.bch_register.proofs.RegisterLemmas.{aligned_value}
use Rattle.bch_register.proofs.word.aligned.Goals as goal

pub returns : goal.returns
returns c =
    let d = c.args.degree in
    ap (λ x. 2 ^ 256 + x) c.shl.ensures.0 ∙ aligned_value d (256 - d) 256 c.args.generator (let h = c.requires.degree in omega arith) c.requires.generator
