use Rattle.std.proofs.Common.{◌-◌, ◌*◌, ◌^◌, ◌<◌, ℕ, arith, sym, subst}
use Rattle.code_model.specs.Bits.{bits_of}
use Rattle.code_model.specs.Word.{number_from}
use Rattle.code_model.proofs.BinaryLemmas.{remainder-lt}
use Rattle.bch_register.specs.Division.{with_top}
use Rattle.bch_register.proofs.RegisterLemmas.{parity_from_register, below_twice}
use Rattle.bch_register.proofs.word.parity_number.Goals as goal

pub returns-clause-value : goal.returns-clause-value
returns-clause-value c =
    let d = c.args.degree in
    parity_from_register d (256 - d) 256 c.args.generator (with_top c.aligned.result) (number_from 0 (bits_of c.args.body.now)) c.divide.result c.shr.result
    (let h = c.requires.degree in omega arith) c.requires.generator c.aligned.ensures c.divide.ensures c.shr.ensures.0

pub returns-clause-small : goal.returns-clause-small
returns-clause-small c =
    let g = c.requires.generator in
    subst (λ (x : ℕ). x < 2 ^ c.args.degree) (sym (returns-clause-value c))
    (remainder-lt c.args.degree c.args.generator (number_from 0 (bits_of c.args.body.now) * 2 ^ c.args.degree) g.0 (below_twice c.args.degree c.args.generator g.1))
