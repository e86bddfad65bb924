use Rattle.bus_script.proofs.Answers.{never_both, one_text}
use Rattle.bus_script.proofs.laws.scripts_have_one_answer.Goals as goal

pub returns-clause-one_text : goal.returns-clause-one_text
returns-clause-one_text c = λ bytes one other h k. one_text bytes one other h k

pub returns-clause-never_both : goal.returns-clause-never_both
returns-clause-never_both c = λ bytes text error h k. never_both bytes text error h k
