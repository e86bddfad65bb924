use Rattle.onfi_bus.proofs.Going.{taken_legal}
use Rattle.onfi_bus.proofs.Refusing.{refused}
use Rattle.onfi_bus.proofs.Taking.{legal_taken}
use Rattle.onfi_bus.proofs.laws.cycles_are_phrases.Goals as goal

pub returns-clause-legal : goal.returns-clause-legal
returns-clause-legal c = λ g list phase r. taken_legal g list phase r

pub returns-clause-taken : goal.returns-clause-taken
returns-clause-taken c = λ g list legal. legal_taken g list legal

pub returns-clause-refused : goal.returns-clause-refused
returns-clause-refused c = λ g list phase cycle r. refused g list phase cycle r
