use Rattle.read_laws.proofs.Lives.{course_reads}
use Rattle.read_laws.proofs.laws.courses_read_back.Goals as goal

pub returns : goal.returns
returns g c = course_reads
