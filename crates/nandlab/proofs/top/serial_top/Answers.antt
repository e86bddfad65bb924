-- What the status of a call says of the bytes that it is given, and what the sink holds at each.
use Rattle.std.proofs.Common.{◌<◌, ◌∙◌, Err, length, refl, ap, sym, subst}
use Rattle.nand_model.specs.Counts.{HasRisen}
use Rattle.nandlab.specs.Answer.{AreRefused, AreServed, Answers, IsRefusalOf, IsTaken}
use Rattle.nandlab.specs.Refusal.{usage_line}
use Rattle.nandlab.specs.Words.{given_of, given_to, most_read, request_of}
use Rattle.nandlab.specs.declared.status.Status.TheVariants.{Fine, PlanRefused, Usage}
use Rattle.nandlab.proofs.Holding.{answers_told, ends_as, fine_as, given_is, holds_written, if_told, left_is_given, refused_as, told, writes_answer}
use Rattle.nandlab.proofs.Refusing.{answer_is_fine, answer_is_refusal, fine_is_taken, long_is_refused, one_request, refusal_is_refused, too_long_line}
use Rattle.nandlab.proofs.top.serial_top.Goals as goal

pub returns-in-Ok-None-clause-written : goal.returns-in-Ok-None-clause-written
returns-in-Ok-None-clause-written g c =
    λ bytes before given held_is.
    holds_written c.args.words.now.items bytes Usage c.written.result (g.K.Sink.held c.args.sink.now)
    (g.K.Sink.held c.written.new.sink) usage_line (HasRisen (g.K.Sink.faults c.args.sink.now) (g.K.Sink.faults c.written.new.sink))
    (sym c.in-Ok-None.ensures ∙ c.in-Ok-None.field-0-is, refl) c.written.ensures.either before held_is

pub returns-in-Ok-answer_to-clause-fine : goal.returns-in-Ok-answer_to-clause-fine
returns-in-Ok-answer_to-clause-fine g c =
    λ fine. if_told (given_to c.args.words.now.items (g.S.Source.left c.args.source.now)) (AreServed c.args.words.now.items) (λ bytes given.
    let asked = sym c.in-Ok-Some.ensures ∙ c.in-Ok-Some.field-0-is in
    let status = c.in-Ok-answer_to.answer.status in
    let lent = c.as_slice-in-Ok-answer_to.result.now in
    let answers : Answers c.in-Ok-Some.request bytes status lent =
    answers_told (given_of (most_read c.in-Ok-Some.request) (g.S.Source.left c.args.source.now)) c.in-Ok-Some.request status c.in-Ok.bytes c.as_slice.result.now
    c.in-Ok-answer_to.answer.text lent bytes (given_is c.args.words.now.items c.in-Ok-Some.request (g.S.Source.left c.args.source.now) bytes asked given)
    c.in-Ok.ensures.all c.as_slice.ensures c.as_slice-in-Ok-answer_to.ensures c.in-Ok-answer_to.ensures in (
      c.in-Ok-Some.request,
      asked,
      fine_is_taken c.in-Ok-Some.request bytes status lent answers
          (fine_as c.written-in-Ok-answer_to.result status _ _ _ c.written-in-Ok-answer_to.ensures.either fine),
    ))

pub returns-in-Ok-answer_to-clause-plan_refused : goal.returns-in-Ok-answer_to-clause-plan_refused
returns-in-Ok-answer_to-clause-plan_refused g c =
    λ refused. if_told (given_to c.args.words.now.items (g.S.Source.left c.args.source.now)) (AreRefused c.args.words.now.items) (λ bytes given.
    let asked = sym c.in-Ok-Some.ensures ∙ c.in-Ok-Some.field-0-is in
    let status = c.in-Ok-answer_to.answer.status in
    let lent = c.as_slice-in-Ok-answer_to.result.now in
    let answers : Answers c.in-Ok-Some.request bytes status lent =
    answers_told (given_of (most_read c.in-Ok-Some.request) (g.S.Source.left c.args.source.now)) c.in-Ok-Some.request status c.in-Ok.bytes c.as_slice.result.now
    c.in-Ok-answer_to.answer.text lent bytes (given_is c.args.words.now.items c.in-Ok-Some.request (g.S.Source.left c.args.source.now) bytes asked given)
    c.in-Ok.ensures.all c.as_slice.ensures c.as_slice-in-Ok-answer_to.ensures c.in-Ok-answer_to.ensures in (
      c.in-Ok-Some.request,
      asked,
      (
        lent,
        refusal_is_refused c.in-Ok-Some.request bytes status lent answers
            (refused_as c.written-in-Ok-answer_to.result status _ _ _ c.written-in-Ok-answer_to.ensures.either refused),
      ),
    ))

pub returns-in-Ok-answer_to-clause-complete : goal.returns-in-Ok-answer_to-clause-complete
returns-in-Ok-answer_to-clause-complete g c =
    λ calm_source calm_sink bytes given served.
    let asked = sym c.in-Ok-Some.ensures ∙ c.in-Ok-Some.field-0-is in
    let status = c.in-Ok-answer_to.answer.status in
    let lent = c.as_slice-in-Ok-answer_to.result.now in
    let answers : Answers c.in-Ok-Some.request bytes status lent =
    answers_told (given_of (most_read c.in-Ok-Some.request) (g.S.Source.left c.args.source.now)) c.in-Ok-Some.request status c.in-Ok.bytes c.as_slice.result.now
    c.in-Ok-answer_to.answer.text lent bytes (given_is c.args.words.now.items c.in-Ok-Some.request (g.S.Source.left c.args.source.now) bytes asked given)
    c.in-Ok.ensures.all c.as_slice.ensures c.as_slice-in-Ok-answer_to.ensures c.in-Ok-answer_to.ensures in
    let same = one_request (request_of c.args.words.now.items) served.0 c.in-Ok-Some.request served.1 asked in
    let taken : IsTaken c.in-Ok-Some.request bytes = subst (λ request. IsTaken request bytes) same served.2 in
    ends_as c.written-in-Ok-answer_to.result status Fine _ _ _ c.written-in-Ok-answer_to.ensures.either calm_sink
    (answer_is_fine c.in-Ok-Some.request bytes status lent taken answers)

pub returns-in-Ok-answer_to-clause-refusing : goal.returns-in-Ok-answer_to-clause-refusing
returns-in-Ok-answer_to-clause-refusing g c =
    λ calm_source calm_sink bytes given refused.
    let asked = sym c.in-Ok-Some.ensures ∙ c.in-Ok-Some.field-0-is in
    let status = c.in-Ok-answer_to.answer.status in
    let lent = c.as_slice-in-Ok-answer_to.result.now in
    let answers : Answers c.in-Ok-Some.request bytes status lent =
    answers_told (given_of (most_read c.in-Ok-Some.request) (g.S.Source.left c.args.source.now)) c.in-Ok-Some.request status c.in-Ok.bytes c.as_slice.result.now
    c.in-Ok-answer_to.answer.text lent bytes (given_is c.args.words.now.items c.in-Ok-Some.request (g.S.Source.left c.args.source.now) bytes asked given)
    c.in-Ok.ensures.all c.as_slice.ensures c.as_slice-in-Ok-answer_to.ensures c.in-Ok-answer_to.ensures in
    let same = one_request (request_of c.args.words.now.items) refused.0 c.in-Ok-Some.request refused.1 asked in
    let why : IsRefusalOf c.in-Ok-Some.request bytes refused.2.0 = subst (λ request. IsRefusalOf request bytes refused.2.0) same refused.2.1 in
    ends_as c.written-in-Ok-answer_to.result status PlanRefused _ _ _ c.written-in-Ok-answer_to.ensures.either calm_sink
    (answer_is_refusal c.in-Ok-Some.request bytes refused.2.0 status lent why answers)

pub returns-in-Ok-answer_to-clause-written : goal.returns-in-Ok-answer_to-clause-written
returns-in-Ok-answer_to-clause-written g c =
    λ bytes before given held_is.
    let asked = sym c.in-Ok-Some.ensures ∙ c.in-Ok-Some.field-0-is in
    let status = c.in-Ok-answer_to.answer.status in
    let lent = c.as_slice-in-Ok-answer_to.result.now in
    let answers : Answers c.in-Ok-Some.request bytes status lent =
    answers_told (given_of (most_read c.in-Ok-Some.request) (g.S.Source.left c.args.source.now)) c.in-Ok-Some.request status c.in-Ok.bytes c.as_slice.result.now
    c.in-Ok-answer_to.answer.text lent bytes (given_is c.args.words.now.items c.in-Ok-Some.request (g.S.Source.left c.args.source.now) bytes asked given)
    c.in-Ok.ensures.all c.as_slice.ensures c.as_slice-in-Ok-answer_to.ensures c.in-Ok-answer_to.ensures in
    holds_written c.args.words.now.items bytes status c.written-in-Ok-answer_to.result (g.K.Sink.held c.args.sink.now)
    (g.K.Sink.held c.written-in-Ok-answer_to.new.sink) lent
    (HasRisen (g.K.Sink.faults c.args.sink.now) (g.K.Sink.faults c.written-in-Ok-answer_to.new.sink))
    (writes_answer c.args.words.now.items c.in-Ok-Some.request bytes status lent asked answers)
    c.written-in-Ok-answer_to.ensures.either before held_is

pub returns-in-Err-TooLong-clause-plan_refused : goal.returns-in-Err-TooLong-clause-plan_refused
returns-in-Err-TooLong-clause-plan_refused g c =
    λ status. if_told (given_to c.args.words.now.items (g.S.Source.left c.args.source.now)) (AreRefused c.args.words.now.items) (λ bytes given.
    let asked = sym c.in-Ok-Some.ensures ∙ c.in-Ok-Some.field-0-is in
    let too_long = c.in-Err-TooLong.ensures.too_long (ap Err c.in-Err-TooLong.field-0-is) in
    let long : too_long.0 < length bytes =
    told (g.S.Source.left c.args.source.now) (λ left. too_long.0 < length left) bytes
    (left_is_given c.args.words.now.items c.in-Ok-Some.request (g.S.Source.left c.args.source.now) too_long.0 bytes asked too_long.1 given) too_long.2 in (
      c.in-Ok-Some.request,
      asked,
      (too_long_line, long_is_refused c.in-Ok-Some.request bytes too_long.0 too_long.1 long),
    ))

pub returns-in-Err-TooLong-clause-written : goal.returns-in-Err-TooLong-clause-written
returns-in-Err-TooLong-clause-written g c =
    λ bytes before given held_is.
    let asked = sym c.in-Ok-Some.ensures ∙ c.in-Ok-Some.field-0-is in
    let too_long = c.in-Err-TooLong.ensures.too_long (ap Err c.in-Err-TooLong.field-0-is) in
    let long : too_long.0 < length bytes =
    told (g.S.Source.left c.args.source.now) (λ left. too_long.0 < length left) bytes
    (left_is_given c.args.words.now.items c.in-Ok-Some.request (g.S.Source.left c.args.source.now) too_long.0 bytes asked too_long.1 given) too_long.2 in
    holds_written c.args.words.now.items bytes PlanRefused c.written-in-Err-TooLong.result (g.K.Sink.held c.args.sink.now)
    (g.K.Sink.held c.written-in-Err-TooLong.new.sink) too_long_line
    (HasRisen (g.K.Sink.faults c.args.sink.now) (g.K.Sink.faults c.written-in-Err-TooLong.new.sink)) (
      c.in-Ok-Some.request,
      asked,
      long_is_refused c.in-Ok-Some.request bytes too_long.0 too_long.1 long,
    )
    c.written-in-Err-TooLong.ensures.either before held_is
