-- Each part of how the copies agree.
use Rattle.relocation_laws.specs.Agreement.{copies_on}
use Rattle.relocation_laws.proofs.Agreeing.{versions-close, equal-tables}
use Rattle.relocation_laws.proofs.Public.{agree}
use Rattle.relocation_laws.proofs.copies_at_rest_agree.Goals as goal

pub returns-clause-versions : goal.returns-clause-versions
returns-clause-versions c = λ g bad acked begun holds r. versions-close (copies_on g holds) (agree g bad acked begun holds r)

pub returns-clause-equal_versions : goal.returns-clause-equal_versions
returns-clause-equal_versions c = λ g bad acked begun holds r. equal-tables (copies_on g holds) (agree g bad acked begun holds r)

pub returns-clause-covers : goal.returns-clause-covers
returns-clause-covers c = λ g bad acked begun holds r. (agree g bad acked begun holds r).covers

pub returns-clause-disowned : goal.returns-clause-disowned
returns-clause-disowned c = λ g bad acked begun holds r. (agree g bad acked begun holds r).disowned

pub returns-clause-own_block : goal.returns-clause-own_block
returns-clause-own_block c = λ g bad acked begun holds r. (agree g bad acked begun holds r).own
