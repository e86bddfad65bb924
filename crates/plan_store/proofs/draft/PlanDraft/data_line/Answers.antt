use Rattle.std.proofs.Common.{◌≡◌, List, [], sym, ap, ◌∙◌, subst, arith}
use Rattle.std.proofs.lemmas.Bool.{and_parts}
use Rattle.plan_grammar.specs.declared.kind.PlanKind.TheVariants.{WrongPlace, Overlap, TooLarge}
use Rattle.plan_grammar.specs.declared.lines.PlanLines.{PlanLines}
use Rattle.plan_grammar.specs.declared.lines.DataLine.{DataLine}
use Rattle.plan_grammar.specs.Devices.{pieces_length}
use Rattle.plan_grammar.specs.Hardware.{has_chip}
use Rattle.plan_grammar.specs.Rules.{is_empty}
use Rattle.plan_index.specs.Data.{AreData}
use Rattle.plan_costs.proofs.Boots.{costs_of_none}
use Rattle.plan_store.proofs.Found.{empty_is, rule_true}
use Rattle.plan_store.proofs.Named.{data_fits, name_absent}
use Rattle.plan_store.proofs.draft.PlanDraft.data_line.Goals as goal

pub overflow_cast-at : goal.overflow_cast-at
overflow_cast-at c =
    let fits = data_fits c.draft.inside.lines c.draft.inside.data (pieces_length c.in_ok-pieces.pieces) c.pieces_len-len.result c.has_room.result
    c.draft.invariant.payloads c.pieces_len-len.ensures
    (c.has_room.ensures c.draft.inside.lines c.in_ok-pieces.pieces c.draft.invariant.payloads c.pieces_len-len.ensures)
    (rule_true c.has_room.result TooLarge c.in_ok-rule-4.field-0 (sym c.in_ok-rule-4.ensures)) in
    omega (arith, fits.1)

pub add-requires : goal.add-requires
add-requires c =
    (data_fits c.draft.inside.lines c.draft.inside.data (pieces_length c.in_ok-pieces.pieces) c.pieces_len-len.result c.has_room.result
    c.draft.invariant.payloads c.pieces_len-len.ensures
    (c.has_room.ensures c.draft.inside.lines c.in_ok-pieces.pieces c.draft.invariant.payloads c.pieces_len-len.ensures)
    (rule_true c.has_room.result TooLarge c.in_ok-rule-4.field-0 (sym c.in_ok-rule-4.ensures))).1

pub invariant_of-draft : goal.invariant_of-draft
invariant_of-draft c =
    let lines : PlanLines = c.draft.inside.lines in
    let payload : DataLine = record { name = c.in_ok-from_slice.field-0; pieces = c.in_ok-pieces.pieces } in
    let fits = data_fits lines c.draft.inside.data (pieces_length c.in_ok-pieces.pieces) c.pieces_len-len.result c.has_room.result
    c.draft.invariant.payloads c.pieces_len-len.ensures
    (c.has_room.ensures lines c.in_ok-pieces.pieces c.draft.invariant.payloads c.pieces_len-len.ensures)
    (rule_true c.has_room.result TooLarge c.in_ok-rule-4.field-0 (sym c.in_ok-rule-4.ensures)) in
    let absent = name_absent lines.payloads c.in_ok-name.name.now 0
    (sym (c.is_new.ensures lines c.draft.invariant.payloads) ∙ rule_true c.is_new.result Overlap c.in_ok-rule-3.field-0 (sym c.in_ok-rule-3.ensures)) in
    let none : lines.boots ≡ [] = empty_is lines.boots (and_parts (has_chip lines) (is_empty lines.boots)
    (sym c.may_have_data.ensures ∙ rule_true c.may_have_data.result WrongPlace c.in_ok-rule.field-0 (sym c.in_ok-rule.ensures))).1 in
    record {
      hardware = c.draft.invariant.hardware;
      flips = c.draft.invariant.flips;
      sessions = c.draft.invariant.sessions;
      payloads = subst (λ (payloads : List DataLine). AreData payloads c.add.new.self) (sym c.in_ok-append.ensures.ok)
          (c.in_ok-add.ensures lines.payloads payload c.draft.invariant.payloads c.in_ok-from_slice.ensures (sym fits.0) c.len.ensures absent);
      costs = costs_of_none lines _ c.draft.inside.costs none none c.draft.invariant.costs;
    }
