use Rattle.std.proofs.lemmas.List.{take-replicate}
use Rattle.onfi_bus.proofs.register.Register.new.Goals as goal

pub returns : goal.returns
returns c = λ raw few. take-replicate raw 4320 0xff few
