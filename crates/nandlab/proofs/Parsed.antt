-- What the words of a call ask for, by the parse of them.
use Rattle.std.proofs.Common.{◌≡◌, ◌∙◌, true, List, [], Option, Some, None, refl, ap, ap₂, subst, codes}
use Rattle.clap.specs.Matches.{first_value, found_of}
use Rattle.clap.specs.Walk.{Row, Text, first_of, rows_of}
use Rattle.clap.specs.Simple.{App, HasMatchesOf, matches_of}
use Rattle.clap.specs.Kinds.{IsAmong}
use Rattle.clap.specs.Faults.{fault_of, is_simple_and_free}
use Rattle.clap.specs.declared.error.kind.ErrorKind.{ErrorKind}
use Rattle.clap.specs.declared.parser.matches.ArgMatches.{ArgMatches}
use Rattle.clap.proofs.WalkLemmas.{first_value-rows}
use Rattle.nandlab.specs.Positionals.{positionals, two_positionals}
use Rattle.nandlab.specs.Words.{plain_request, text_request}
use Rattle.nandlab.specs.declared.request.Request.{Request}
use Rattle.nandlab.proofs.Accepted.{accepted_words}
use Rattle.nandlab.proofs.ClapWords.{words_given}

-- the value of a positional in a parse of these words
value_by_rows : (texts : List Text) (m : ArgMatches) (id : Text) (found : Option Text)
    → rows_of (found_of m) ≡ matches_of two_positionals texts → found ≡ first_value (found_of m) id
    → found ≡ first_of id (matches_of two_positionals texts)
value_by_rows texts m id found rows_are e =
    e ∙ first_value-rows (found_of m) id ∙ ap (λ (rows : List Row). first_of id rows) rows_are

asked : (texts : List Text) (m : ArgMatches) (word number : Option Text) → fault_of two_positionals texts ≡ []
    → HasMatchesOf two_positionals texts m → word ≡ first_value (found_of m) (codes "word")
    → number ≡ first_value (found_of m) (codes "number") → plain_request (positionals word number) ≡ text_request texts
asked texts m word number free matches word_is number_is =
    let rows_are : rows_of (found_of m) ≡ matches_of two_positionals texts = (matches refl).0 in
    ap₂ (λ (w n : Option Text). plain_request (positionals w n)) (value_by_rows texts m (codes "word") word rows_are word_is)
    (value_by_rows texts m (codes "number") number rows_are number_is)
    ∙ ap plain_request (words_given texts free)

-- by a parse that succeeds
pub parsed_words : (app : App) (texts : List Text) (m : ArgMatches) (word number : Option Text) → app ≡ two_positionals
    → (is_simple_and_free app ≡ true → fault_of app texts ≡ []) → HasMatchesOf app texts m
    → word ≡ first_value (found_of m) (codes "word") → number ≡ first_value (found_of m) (codes "number")
    → plain_request (positionals word number) ≡ text_request texts
parsed_words app texts m word number app_is faults matches word_is number_is =
    asked texts m word number (subst (λ (a : App). is_simple_and_free a ≡ true → fault_of a texts ≡ []) app_is faults refl)
    (subst (λ (a : App). HasMatchesOf a texts m) app_is matches) word_is number_is

none_unless : (request : Option Request) → ((r : Request) → request ≡ Some r → ⊥) → None ≡ request
none_unless None never = refl
none_unless (Some r) never = absurd (never r refl)

among_none : (texts : List Text) (kind : ErrorKind) → IsAmong kind (fault_of two_positionals texts) → None ≡ text_request texts
among_none texts kind among =
    none_unless (text_request texts) (λ r e. subst (IsAmong kind) (accepted_words texts r e) among)

-- by a parse that fails for another reason than memory
pub refused_words : (app : App) (texts : List Text) (kind : ErrorKind) → app ≡ two_positionals
    → (is_simple_and_free app ≡ true → IsAmong kind (fault_of app texts)) → None ≡ text_request texts
refused_words app texts kind app_is faults =
    among_none texts kind (subst (λ (a : App). is_simple_and_free a ≡ true → IsAmong kind (fault_of a texts)) app_is faults refl)
