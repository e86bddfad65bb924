use Rattle.std.proofs.Common.{[]}
use Rattle.read_laws.proofs.Lives.{life_reads, thread_reads}
use Rattle.read_laws.proofs.laws.lives_read_back.Goals as goal

pub returns-clause-one_life : goal.returns-clause-one_life
returns-clause-one_life g c = λ model partitions k chip life notes fresh lived. life_reads model partitions k chip fresh [] life notes lived

pub returns-clause-one_thread : goal.returns-clause-one_thread
returns-clause-one_thread g c = thread_reads
