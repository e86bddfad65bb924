-- Plans to which lines lead: their canonical text is read as them.
use Rattle.std.proofs.Common.{◌≡◌, ◌∙◌, ℕ, ◌≤◌, ◌<◌, true, leb, List, [], ◌∷◌, ◌++◌, length, map, Ok, sym, ap, refl, subst}
use Rattle.std.specs.Prelude.{All}
use Rattle.std.specs.List.{list_all}
use Rattle.std.proofs.lemmas.Bool.{and_from, and_parts, le-leb}
use Rattle.std.proofs.lemmas.List.{map_push}
use Rattle.std.proofs.lemmas.List.Folds.{list_all-append}
use Rattle.lab_text.specs.Text.{longest_line}
use Rattle.report_model.specs.Report.{spaced}
use Rattle.plan_grammar.specs.declared.kind.PlanKind.TheVariants.{LineTooLong, BadByte}
use Rattle.plan_grammar.specs.declared.words.LineKind.{LineKind}
use Rattle.plan_grammar.specs.declared.lines.PlanLines.{PlanLines}
use Rattle.plan_grammar.specs.Forms.{is_allowed}
use Rattle.plan_grammar.specs.Grammar.{line_by_kind, line_words, line, Reads, IsPlan, no_lines}
use Rattle.plan_grammar.specs.Canonical.{canonical_words, canonical_lines, canonical_text}
use Rattle.plan_grammar.specs.Laws.{FitsText}
use Rattle.plan_laws.proofs.Steps.{rule_step}
use Rattle.plan_laws.proofs.Words.{is_word, is_spaced, words_again, line_spaced, line_allowed, lines_again}
use Rattle.plan_laws.proofs.Written.{Line}
use Rattle.plan_laws.proofs.Again.{IsOrdered, kind_adds, none_ordered}
use Rattle.made_plan.proofs.Lists.{all_pushed}

-- a line is not too long
abbrev pub IsShort : List ℕ → Type 0
IsShort bytes = length bytes ≤ longest_line

-- the lines of the plan's canonical text are words and lead to the plan, where none is too long
pub record IsReached (plan : PlanLines) : Type 0 where
  pub ordered : IsOrdered plan
  pub are : list_all (list_all is_word) (canonical_words plan) ≡ true
  pub read : All IsShort (canonical_lines plan) → Reads no_lines (canonical_lines plan) plan

pub none_reached : IsReached no_lines
none_reached = record { ordered = none_ordered; are = refl; read = λ short. refl }

-- a line of words is read by its words
line_read : (old next : PlanLines) (words : Line) → list_all is_word words ≡ true → IsShort (spaced words) →
    line_words old words ≡ Ok next → line old (spaced words) ≡ Ok next
unfolding line
line_read old next words are short e =
    rule_step (leb (length (spaced words)) longest_line) LineTooLong _ next (le-leb (length (spaced words)) longest_line short)
    (rule_step (list_all is_allowed (spaced words)) BadByte _ next (line_allowed (spaced words) (line_spaced words are))
    (ap (line_words old) (words_again words are) ∙ e))

-- one more line behind those that were read
reads_push : (lines : List (List ℕ)) (old mid new : PlanLines) (bytes : List ℕ) → Reads old lines mid → line mid bytes ≡ Ok new →
    Reads old (lines ++ bytes ∷ []) new
reads_push [] old mid new bytes same e = (new, subst (λ (p : PlanLines). line p bytes ≡ Ok new) same e, refl)
reads_push (first ∷ lines) old mid new bytes (next, here, later) e = (next, here, reads_push lines next mid new bytes later e)

-- a line that is kept leads from one reached plan to another
pub reached : (kind : LineKind) (plan next : PlanLines) (words : Line) → IsReached plan → line_by_kind kind plan words ≡ Ok next → IsReached next
reached kind plan next words h e =
    let a = kind_adds kind plan next words h.ordered e in
    let lines : canonical_lines next ≡ canonical_lines plan ++ spaced a.words ∷ [] =
    ap (map spaced) a.written ∙ map_push spaced (canonical_words plan) a.words in
    record {
      ordered = a.ordered;
      are = ap (list_all (list_all is_word)) a.written ∙ list_all-append (list_all is_word) (canonical_words plan) (a.words ∷ [])
          ∙ and_from (list_all (list_all is_word) (canonical_words plan)) (list_all (list_all is_word) (a.words ∷ [])) h.are
          (and_from (list_all is_word a.words) true a.are refl);
      read = λ short.
          let parts = all_pushed IsShort (canonical_lines plan) (spaced a.words) (subst (All IsShort) lines short) in
          subst (λ (ls : List (List ℕ)). Reads no_lines ls next) (sym lines)
          (reads_push (canonical_lines plan) no_lines plan next (spaced a.words) (h.read parts.0)
          (line_read plan next a.words a.are parts.1 a.again));
    }

all_spaced : (lines : List Line) → list_all (list_all is_word) lines ≡ true → list_all (list_all is_spaced) (map spaced lines) ≡ true
all_spaced [] h = refl
all_spaced (words ∷ lines) h =
    let parts = and_parts (list_all is_word words) (list_all (list_all is_word) lines) h in
    and_from (list_all is_spaced (spaced words)) (list_all (list_all is_spaced) (map spaced lines)) (line_spaced words parts.0) (all_spaced lines parts.1)

-- the canonical text of a reached plan is a plan
pub reached_is_plan : (plan : PlanLines) → IsReached plan → FitsText plan → 0 < length plan.boots → IsPlan (canonical_text plan) plan
reached_is_plan plan h fits some =
    record {
      short = fits.text;
      lines = subst (λ (ls : List (List ℕ)). Reads no_lines ls plan)
          (sym (lines_again (canonical_lines plan) (all_spaced (canonical_words plan) h.are))) (h.read fits.lines);
      some = some;
    }
