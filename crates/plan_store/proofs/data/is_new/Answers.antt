use Rattle.std.proofs.Common.{sym, ap, ◌∙◌, is_some}
use Rattle.plan_grammar.specs.Devices.{data_length, data_named}
use Rattle.plan_store.proofs.Named.{flip_not, mapped_some}
use Rattle.plan_store.proofs.data.is_new.Goals as goal

pub returns : goal.returns
returns c = λ plan s.
    flip_not c.is_none.result _
    (sym c.is_none.ensures ∙ ap is_some (c.data_len.ensures plan s) ∙ mapped_some data_length (data_named plan c.args.name.now))
