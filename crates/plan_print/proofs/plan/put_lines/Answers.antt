use Rattle.std.proofs.Common.{◌∙◌, ◌++◌, List, ℕ, ap, sym, refl}
use Rattle.std.specs.Prelude.{flat_map, map}
use Rattle.std.proofs.lemmas.Result.{IfOk-equal}
use Rattle.plan_grammar.specs.Canonical.{header_lines, controller_lines, data_words, boot_lines, canonical_words}
use Rattle.plan_print.specs.Lines.{text_of}
use Rattle.plan_print.proofs.Parts.{then_lines, canonical_is}
use Rattle.plan_print.proofs.plan.put_lines.Goals as goal

pub returns : goal.returns
returns c =
    let plan = c.args.plan.now in
    let out = c.args.out.now in
    let headed = c.put_header.new.out in
    let equipped = c.put_controllers.new.out in
    let loaded = c.put_payloads.new.out in
    let head = header_lines plan.begun in
    let hardware = flat_map controller_lines plan.controllers in
    let payloads = map data_words plan.payloads in
    let boots = flat_map boot_lines plan.boots in
    IfOk-equal _ _ _ _ c.put_boots.ensures
    (then_lines out loaded (loaded ++ text_of boots) ((head ++ hardware) ++ payloads) boots
    (then_lines out equipped loaded (head ++ hardware) payloads
    (then_lines out headed equipped head hardware c.in_ok-put_header.ensures
    c.in_ok-put_controllers.ensures) c.in_ok-put_payloads.ensures) refl
    ∙ ap (λ (text : List ℕ). out ++ text) (sym (canonical_is (canonical_words plan))))
