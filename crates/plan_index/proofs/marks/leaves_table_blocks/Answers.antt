use Rattle.std.proofs.Common.{◌+◌, ◌-◌, ℕ, Bool, ◌||◌, ◌∷◌, [], rules, tests}
use Rattle.std.proofs.lemmas.Iterator.{YieldsList-from_slice}
use Rattle.std.proofs.lemmas.Iterator.Consumers.{YieldsList-from_filter, YieldsList-at, count_from_yields_List}
use Rattle.std.proofs.lemmas.Bool.{ne_eqb}
use Rattle.plan_grammar.specs.Devices.{has_number}
use Rattle.plan_index.specs.Places.{flag_at}
use Rattle.plan_index.proofs.Chips.{leaves_is}
use Rattle.plan_index.proofs.marks.leaves_table_blocks.Goals as goal

pub returns-else-g-eq0 : goal.returns-else-g-eq0
returns-else-g-eq0 c = λ xs tells.
    let first : ℕ = c.args.g.now.blocks - 4 in
    let test : ℕ → Bool = λ b. flag_at c.args.flags.now b || has_number c.args.blocks.now b in
    let road = YieldsList-from_slice (first ∷ (first + 1) ∷ (first + 2) ∷ (first + 3) ∷ []) (cc) in
    let counted = count_from_yields_List c.filter.result c.count-bad.result c.count-bad.ensures.ran (YieldsList-from_filter _ test (YieldsList-at c.filter.ensures.source road) c.filter.ensures.closure (λ x r q k. search (rules, tests))) in
    leaves_is c.args.g.now c.args.flags.now xs c.args.blocks.now c.count-bad.result tells (ne_eqb c.args.g.now.bbt 0 c.if-g-eq0.false) counted
