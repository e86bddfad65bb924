use Rattle.std.proofs.Common.{◌≡◌, ◌∙◌, length, Some, None, sym, ap, arith}
use Rattle.code_model.specs.Code.{code_1024}
use Rattle.code_model.proofs.ParityLemmas.{length-mask_of}
use Rattle.bch_decode.specs.Answers.{joined_word}
use Rattle.nand_model.specs.Page.{StepRead, read_as}
use Rattle.code_words.specs.Units.{read_of}
use Rattle.code_words.proofs.ReadLemmas.{read_is, step_of_word, masked_by}
use Rattle.code_words.proofs.decode.correct.Goals as goal

pub put_mask-requires : goal.put_mask-requires
put_mask-requires c = ap length c.requires.mask ∙ length-mask_of (code_1024 c.args.t) ∙ sym c.requires.room

read : (c : goal.In-Corrected)
    → read_of c.args.t c.args.step.now c.args.stored.now
    ≡ read_as (code_1024 c.args.t) c.args.step.now c.args.stored.now
    (Some (joined_word (code_1024 c.args.t) c.decode14_in_slice.new.step c.decode14_in_slice.new.parity, c.in-Corrected.n))
read c =
    read_is c.args.t c.args.step.now c.args.stored.now c.put_mask.new.parity
    (Some (joined_word (code_1024 c.args.t) c.decode14_in_slice.new.step c.decode14_in_slice.new.parity, c.in-Corrected.n)) c.requires.strength.1 c.requires.whole (c.put_mask.auto.parity ∙ c.requires.room)
    (masked_by c.args.t c.args.stored.now c.args.mask.now c.put_mask.new.parity c.put_mask.ensures c.requires.mask) c.in-Corrected.ensures.decodes

failed : (c : goal.In-Failed)
    → read_of c.args.t c.args.step.now c.args.stored.now ≡ read_as (code_1024 c.args.t) c.args.step.now c.args.stored.now None
failed c =
    read_is c.args.t c.args.step.now c.args.stored.now c.put_mask.new.parity None c.requires.strength.1 c.requires.whole (c.put_mask.auto.parity ∙ c.requires.room)
    (masked_by c.args.t c.args.stored.now c.args.mask.now c.put_mask.new.parity c.put_mask.ensures c.requires.mask) c.in-Failed.ensures.decodes

pub returns-in-Corrected-clause-body : goal.returns-in-Corrected-clause-body
returns-in-Corrected-clause-body c =
    sym (ap (λ (r : StepRead). r.body) (read c)
    ∙ step_of_word c.decode14_in_slice.new.step _ (c.decode14_in_slice.auto.step ∙ c.requires.whole) (λ k h. (let b = c.type_inv.step k in omega arith)))

pub returns-in-Corrected-clause-corrected : goal.returns-in-Corrected-clause-corrected
returns-in-Corrected-clause-corrected c = sym (ap (λ (r : StepRead). r.corrected) (read c))

pub returns-in-Failed-clause-body : goal.returns-in-Failed-clause-body
returns-in-Failed-clause-body c = (c.decode14_in_slice.ensures.unchanged c.in-Failed.is).0 ∙ sym (ap (λ (r : StepRead). r.body) (failed c))

pub returns-in-Failed-clause-corrected : goal.returns-in-Failed-clause-corrected
returns-in-Failed-clause-corrected c = sym (ap (λ (r : StepRead). r.corrected) (failed c))
