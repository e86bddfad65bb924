use Rattle.std.proofs.Common.{◌∙◌, inl, inr, ap, map}
use Rattle.std.specs.Prelude.{string_bytes}
use Rattle.clap.specs.Simple.{app_of}
use Rattle.clap.specs.Values.{kind_of}
use Rattle.nandlab.specs.Words.{text_request}
use Rattle.nandlab.proofs.Parsed.{parsed_words, refused_words}
use Rattle.nandlab.proofs.words.request.Goals as goal

pub returns-in-Ok : goal.returns-in-Ok
returns-in-Ok c =
    c.plain_request.ensures
    ∙ parsed_words (app_of c.in_ok-command.field-0) (map string_bytes c.as_slice.result.now) c.in-Ok.matches _ _
    c.in_ok-command.ensures c.in-Ok.ensures.kinds c.in-Ok.ensures.matches c.get_str.ensures c.get_str-in-Ok.ensures
    ∙ ap (λ ws. text_request (map string_bytes ws)) c.as_slice.ensures.value

pub returns : goal.returns
returns c =
    refused_words (app_of c.in_ok-command.field-0) (map string_bytes c.as_slice.result.now) (kind_of c.in-Err.error) c.in_ok-command.ensures
    (λ simple. elim (c.in-Err.ensures.kinds simple) [
      | inl memory ↦ absurd (c.in_default.not-OutOfMemory (c.kind.ensures ∙ memory))
      | inr among ↦ among
    ])
    ∙ ap (λ ws. text_request (map string_bytes ws)) c.as_slice.ensures.value
