use Rattle.std.proofs.Common.{◌≡◌, ◌∙◌, ◌++◌, ℕ, List, ap}
use Rattle.std.specs.Prelude.{codes, decimal}
use Rattle.std.proofs.lemmas.Result.{IfOk-weaker}
use Rattle.report_model.specs.Report.{cause_text, event_text, fairness_text, spaced}
use Rattle.report_text.proofs.Pieces.{then}
use Rattle.report_text.proofs.notes.put_torn_words.Goals as goal

pub returns : goal.returns
returns c =
    let out = c.args.out.now in
    let counted = c.put_index.new.out in
    let parted = c.put_text.new.out in
    let placed = c.put_event.new.out in
    let near_cause = c.put_text-2.new.out in
    let caused = c.put_text-3.new.out in
    let most = c.put_text-4.new.out in
    let whole = c.put_text-5.new.out in
    let event = spaced (event_text c.args.event) in
    let cause = cause_text c.args.cut in
    let last = fairness_text c.args.fairness in
    IfOk-weaker _ (λ _. whole ≡ most ++ c.fairness_name.result.now)
    (λ _. whole ≡ out ++ (codes "event " ++ decimal c.args.number
    ++ (codes " " ++ (event ++ (codes " " ++ (cause ++ (codes " " ++ last)))))))
    (λ _ put.
    then out counted whole (codes "event " ++ decimal c.args.number) (codes " " ++ (event ++ (codes " " ++ (cause ++ (codes " " ++ last)))))
    c.in_ok-put_index.ensures
    (then counted parted whole (codes " ") (event ++ (codes " " ++ (cause ++ (codes " " ++ last)))) c.in_ok-put_text.ensures
    (then parted placed whole event (codes " " ++ (cause ++ (codes " " ++ last))) c.in_ok-put_event.ensures
    (then placed near_cause whole (codes " ") (cause ++ (codes " " ++ last)) c.in_ok-put_text-2.ensures
    (then near_cause caused whole cause (codes " " ++ last)
    (c.in_ok-put_text-3.ensures ∙ ap (λ (words : List ℕ). near_cause ++ words) c.cause_name.ensures)
    (then caused most whole (codes " ") last c.in_ok-put_text-4.ensures
    (put ∙ ap (λ (words : List ℕ). most ++ words) c.fairness_name.ensures)))))))
    c.put_text-5.ensures
