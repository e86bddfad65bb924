use Rattle.plan_grammar.proofs.OneReading.{one_plan, one_refusal, never_both}
use Rattle.plan_grammar.proofs.laws.bytes_have_one_reading.Goals as goal

pub returns-clause-plan : goal.returns-clause-plan
returns-clause-plan c = one_plan

pub returns-clause-refusal : goal.returns-clause-refusal
returns-clause-refusal c = one_refusal

pub returns-clause-never_both : goal.returns-clause-never_both
returns-clause-never_both c = never_both
