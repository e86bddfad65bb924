use Rattle.std.proofs.Common.{◌<◌, ◌-◌, ◌+◌, ◌/◌, ◌++◌, ◌∙◌, length, ap, ap₂, arith}
use Rattle.std.specs.Prelude.{flat_map}
use Rattle.std.proofs.lemmas.List.{length-drop}
use Rattle.code_words.specs.Units.{encoded, pieces_of, unit_of}
use Rattle.code_words.proofs.UnitLemmas.{encoded_more, left_after}
use Rattle.code_words.proofs.encode.encode_units.Goals as goal

pub loop-preserved : goal.loop-preserved
loop-preserved c =
    let t = c.args.t in
    let n = length c.args.bytes.now / 1024 in
    let i = c.loop.counter in
    let rest = c.loop.rest.now in
    let inside : i < n = omega arith in
    let split = c.split_at.ensures in
    record {
      text = ap₂ (λ out left. out ++ flat_map (unit_of t) (pieces_of 1024 (n - (i + 1)) left))
          (c.in_ok-put_unit.ensures ∙ ap (λ step. c.loop.out ++ unit_of t step) split.front) split.back
          ∙ encoded_more t n i c.loop.out rest (encoded t c.args.bytes.now) inside c.loop.invariant.text;
      left = ap length split.back ∙ length-drop 1024 rest ∙ left_after 1024 n i (length rest) inside c.loop.invariant.left;
    }
