use Rattle.std.proofs.Common.{◌≡◌, ◌∙◌, Some, None, inl, inr, refl, ap, sym, subst}
use Rattle.nandlab.specs.Answer.{AreRefused, AreServed, Leaves}
use Rattle.nandlab.specs.Status.{exit_code}
use Rattle.nandlab.specs.Words.{given_to, request_of}
use Rattle.nandlab.specs.declared.status.Status.TheVariants.{Memory}
use Rattle.nandlab.proofs.Exiting.{is_read_fault, is_usage, is_write_fault}
use Rattle.nandlab.proofs.exit.exit_status.Goals as goal

pub returns-in-Ok-clause-usage : goal.returns-in-Ok-clause-usage
returns-in-Ok-clause-usage g c =
    λ h. subst (λ ws. request_of ws ≡ None) c.in-Ok.ensures.words (c.serial_top.ensures.usage (is_usage c.serial_top.result (sym c.code.ensures ∙ h)))

pub returns-in-Ok-clause-refused : goal.returns-in-Ok-clause-refused
returns-in-Ok-clause-refused g c =
    λ none. elim (c.serial_top.ensures.refused (subst (λ ws. request_of ws ≡ None) (sym c.in-Ok.ensures.words) none)) [
      | inl usage ↦ inl (c.code.ensures ∙ ap exit_code usage)
      | inr other ↦ inr (elim other [
        | inl fault ↦ inl (c.code.ensures ∙ ap exit_code fault)
        | inr memory ↦ inr (c.code.ensures ∙ ap exit_code memory)
      ])
    ]

pub returns-in-Ok-clause-complete : goal.returns-in-Ok-clause-complete
returns-in-Ok-clause-complete g c =
    λ calm_source calm_sink bytes is_given served.
    elim (c.serial_top.ensures.complete calm_source calm_sink bytes (subst (λ ws. given_to ws (g.S.Source.left c.args.source.now) ≡ Some bytes) (sym c.in-Ok.ensures.words) is_given) (subst (λ ws. AreServed ws bytes) (sym c.in-Ok.ensures.words) served)) [
      | inl fine ↦ inl (c.code.ensures ∙ ap exit_code fine)
      | inr memory ↦ inr (c.code.ensures ∙ ap exit_code memory)
    ]

pub returns-in-Ok-clause-refusing : goal.returns-in-Ok-clause-refusing
returns-in-Ok-clause-refusing g c =
    λ calm_source calm_sink bytes is_given refused.
    elim (c.serial_top.ensures.refusing calm_source calm_sink bytes (subst (λ ws. given_to ws (g.S.Source.left c.args.source.now) ≡ Some bytes) (sym c.in-Ok.ensures.words) is_given) (subst (λ ws. AreRefused ws bytes) (sym c.in-Ok.ensures.words) refused)) [
      | inl said ↦ inl (c.code.ensures ∙ ap exit_code said)
      | inr memory ↦ inr (c.code.ensures ∙ ap exit_code memory)
    ]

pub returns-in-Ok-clause-written : goal.returns-in-Ok-clause-written
returns-in-Ok-clause-written g c =
    λ bytes before is_given is_held. (
      c.serial_top.result,
      c.code.ensures,
      subst (λ ws. Leaves ws bytes c.serial_top.result before (g.K.Sink.held c.serial_top.new.sink)) c.in-Ok.ensures.words
          (c.serial_top.ensures.written bytes before (subst (λ ws. given_to ws (g.S.Source.left c.args.source.now) ≡ Some bytes) (sym c.in-Ok.ensures.words) is_given) is_held),
    )

pub returns-in-Ok-clause-read_fault : goal.returns-in-Ok-clause-read_fault
returns-in-Ok-clause-read_fault g c = λ h. c.serial_top.ensures.read_fault (is_read_fault c.serial_top.result (sym c.code.ensures ∙ h))

pub returns-in-Ok-clause-ended_by_fault : goal.returns-in-Ok-clause-ended_by_fault
returns-in-Ok-clause-ended_by_fault g c = λ rose. c.code.ensures ∙ ap exit_code (c.serial_top.ensures.ended_by_fault rose)

pub returns-in-Ok-clause-write_fault : goal.returns-in-Ok-clause-write_fault
returns-in-Ok-clause-write_fault g c = λ h. c.serial_top.ensures.write_fault (is_write_fault c.serial_top.result (sym c.code.ensures ∙ h))

pub returns-in-Err-clause-written : goal.returns-in-Err-clause-written
returns-in-Err-clause-written g c = λ bytes before is_given is_held. (Memory, c.code-in-Err.ensures, (before, is_held, refl))
