use Rattle.std.proofs.Common.{◌<◌, ◌-◌, ◌+◌, ◌/◌, ◌++◌, ◌∙◌, length, ap, ap₂, arith}
use Rattle.std.proofs.lemmas.List.{length-drop}
use Rattle.code_words.specs.Units.{decoded, pieces_of, unit_read, unit_text, units_text}
use Rattle.code_words.proofs.UnitLemmas.{decoded_more, left_after}
use Rattle.code_words.proofs.decode.decode_units.Goals as goal

pub loop-at-preserved : goal.loop-at-preserved
loop-at-preserved c =
    let t = c.args.t in
    let size = 1024 + length c.mask14.new.out in
    let n = length c.args.bytes.now / size in
    let i = c.loop-at.at in
    let rest = c.loop-at.rest.now in
    let inside : i < n = omega arith in
    let split = c.split_at.ensures in
    record {
      text = ap₂ (λ out left. out ++ units_text t (i + 1) (pieces_of size (n - (i + 1)) left))
          (c.in_ok-put_unit.ensures ∙ ap (λ unit. c.loop-at.out ++ unit_text i (unit_read t unit)) split.front) split.back
          ∙ decoded_more t size n i c.loop-at.out rest (decoded t c.args.bytes.now) inside c.loop-at.invariant.text;
      left = ap length split.back ∙ length-drop size rest ∙ left_after size n i (length rest) inside c.loop-at.invariant.left;
    }
