use Rattle.std.proofs.Common.{◌<◌, length, ◌∙◌, ap, arith}
use Rattle.std.proofs.lemmas.List.{drop_all}
use Rattle.std.proofs.lemmas.Bool.{ne_eqb}
use Rattle.lab_text.specs.Text.{words_of}
use Rattle.lab_text.proofs.Runs.{words_after_blanks, letter_after_blanks, no_words_at, word_at}
use Rattle.lab_text.proofs.lines.word.Goals.{then-start-line-via-then-start-line, then-start-line-via-else-start-line+then-line-start-eq35}
use Rattle.lab_text.proofs.lines.word.Goals as goal

pub returns-then-start-line-clause-none : goal.returns-then-start-line-clause-none
returns-then-start-line-clause-none c =
    let line = c.args.line.now in
    let start = c.skip_blanks-start.result in
    let within = c.skip_blanks-start.ensures.within in
    words_after_blanks line c.args.from start c.skip_blanks-start.ensures.place
    ∙ elim c.then-start-line.branch [
      | then-start-line-via-then-start-line w ↦ ap words_of (drop_all start line (omega (arith, w.if-start-line.true)))
      | then-start-line-via-else-start-line+then-line-start-eq35 w ↦
          no_words_at line start (omega (arith, w.if-start-line.false, within)) w.if-line-start-eq35.true
    ]

pub returns-clause-some : goal.returns-clause-some
returns-clause-some c =
    let line = c.args.line.now in
    let start = c.skip_blanks-start.result in
    let place = c.skip_blanks-start.ensures.place in
    let within : start < length line = omega (arith, c.if-start-line.false, c.skip_blanks-start.ensures.within) in
    words_after_blanks line c.args.from start place
    ∙ word_at line start c.skip_letters.result within (letter_after_blanks line c.args.from start place within)
    (ne_eqb _ _ c.if-line-start-eq35.false) c.skip_letters.ensures.place
