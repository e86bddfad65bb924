-- A request is served for bytes, or refused, and never both.
use Rattle.std.proofs.Common.{◌≡◌, ◌∙◌, ◌<◌, ◌+◌, ◌++◌, ℕ, arith, List, [], ◌∷◌, length, Option, Some, None, Err, refl, ap, sym, subst, codes}
use Rattle.std.specs.Prelude.{decimal}
use Rattle.std.proofs.lemmas.Bool.{cond_below}
use Rattle.std.proofs.lemmas.Fmt.{decimal_digit}
use Rattle.report_model.specs.Report.{line}
use Rattle.plan_grammar.specs.Grammar.{TooLong}
use Rattle.plan_grammar.specs.Limits.{most_bytes}
use Rattle.plan_grammar.specs.declared.kind.PlanKind.TheVariants.{TooLong as TooManyBytes}
use Rattle.plan_grammar.proofs.OneReading.{never_both}
use Rattle.bus_script.specs.Script.{most_bytes as most_script_bytes}
use Rattle.bus_script.specs.declared.error.ScriptError.TheVariants.{Refused}
use Rattle.bus_script.proofs.Answers.{never_both as runs_or_not}
use Rattle.code_words.specs.Inputs.{longest_input}
use Rattle.code_words.specs.Units.{unit_bytes}
use Rattle.code_words.specs.declared.refusal.InputRefusal.{InputRefusal}
use Rattle.code_words.specs.declared.refusal.InputRefusal.TheVariants.{TooLong as TooManyPieces}
use Rattle.nandlab.specs.Words.{most_read}
use Rattle.nandlab.specs.Answer.{Answers, AreLegalScript, AreSomePlan, AreWhole, IsNoInput, IsNoLegalScript, IsNoPlan, IsRefusalOf, IsTaken, Serves}
use Rattle.nandlab.specs.Refusal.{refusal_line}
use Rattle.nandlab.specs.declared.request.Request.{Request}
use Rattle.nandlab.specs.declared.request.Request.TheVariants.{Check, Replay, Run, Make, Bus, Encode, Decode}
use Rattle.nandlab.specs.declared.status.Status.{Status}
use Rattle.nandlab.specs.declared.status.Status.TheVariants.{Fine, Usage, PlanRefused, ReadFault, WriteFault, Memory}

-- what is a plan is not refused
plan_or_not : (bytes text : List ℕ) → AreSomePlan bytes → IsNoPlan bytes text → ⊥
plan_or_not bytes text (plan, form) (at, kind, refused, same) = never_both bytes plan at kind form refused

-- what is a script of legal cycles is not refused
legal_or_not : (bytes text : List ℕ) → AreLegalScript bytes → IsNoLegalScript bytes text → ⊥
legal_or_not bytes text (told, legal) (error, refused, same) = runs_or_not bytes told error legal refused

-- what is whole is not refused
whole_or_not : (size : ℕ) (bytes text : List ℕ) → AreWhole size bytes → IsNoInput size bytes text → ⊥
whole_or_not size bytes text whole (why, refused, same) =
    let clash : ◌≡◌ {A = Option InputRefusal} None (Some why) = sym whole ∙ refused in
    cc clash

pub taken_or_refused : (request : Request) (bytes text : List ℕ) → IsTaken request bytes → IsRefusalOf request bytes text → ⊥
taken_or_refused Check bytes text taken refused = plan_or_not bytes text taken refused
taken_or_refused Replay bytes text taken refused = plan_or_not bytes text taken refused
taken_or_refused Run bytes text taken refused = plan_or_not bytes text taken refused
taken_or_refused (Make n) bytes text taken refused = refused
taken_or_refused Bus bytes text taken refused = legal_or_not bytes text taken refused
taken_or_refused (Encode t) bytes text taken refused = whole_or_not 1024 bytes text taken refused
taken_or_refused (Decode t) bytes text taken refused = whole_or_not (unit_bytes t) bytes text taken refused

-- what is served is taken
pub served_is_taken : (request : Request) (bytes text : List ℕ) → Serves request bytes text → IsTaken request bytes
served_is_taken Check bytes text (plan, form, same) = (plan, form)
served_is_taken Replay bytes text (plan, form, blocks, report) = (plan, form)
served_is_taken Run bytes text (plan, form, blocks, report) = (plan, form)
served_is_taken (Make n) bytes text summary = tt
served_is_taken Bus bytes text legal = (text, legal)
served_is_taken (Encode t) bytes text (whole, same) = whole
served_is_taken (Decode t) bytes text (whole, same) = whole

-- what is answered to bytes that are taken, and to bytes that are refused
pub answer_is_fine : (request : Request) (bytes : List ℕ) (status : Status) (text : List ℕ) → IsTaken request bytes
    → Answers request bytes status text → status ≡ Fine
answer_is_fine request bytes Fine text taken h = refl
answer_is_fine request bytes PlanRefused text taken h = absurd (taken_or_refused request bytes text taken h)
answer_is_fine request bytes Usage text taken h = absurd h
answer_is_fine request bytes ReadFault text taken h = absurd h
answer_is_fine request bytes WriteFault text taken h = absurd h
answer_is_fine request bytes Memory text taken h = absurd h

pub answer_is_refusal : (request : Request) (bytes why : List ℕ) (status : Status) (text : List ℕ) → IsRefusalOf request bytes why
    → Answers request bytes status text → status ≡ PlanRefused
answer_is_refusal request bytes why Fine text refused h =
    absurd (taken_or_refused request bytes why (served_is_taken request bytes text h) refused)
answer_is_refusal request bytes why PlanRefused text refused h = refl
answer_is_refusal request bytes why Usage text refused h = absurd h
answer_is_refusal request bytes why ReadFault text refused h = absurd h
answer_is_refusal request bytes why WriteFault text refused h = absurd h
answer_is_refusal request bytes why Memory text refused h = absurd h

-- what an answer says of the bytes
pub fine_is_taken : (request : Request) (bytes : List ℕ) (status : Status) (text : List ℕ) → Answers request bytes status text
    → status ≡ Fine → IsTaken request bytes
fine_is_taken request bytes status text h fine =
    served_is_taken request bytes text (subst (λ (s : Status). Answers request bytes s text) fine h)

pub refusal_is_refused : (request : Request) (bytes : List ℕ) (status : Status) (text : List ℕ) → Answers request bytes status text
    → status ≡ PlanRefused → IsRefusalOf request bytes text
refusal_is_refused request bytes status text h refused = subst (λ (s : Status). Answers request bytes s text) refused h

-- the line for bytes that are too many
abbrev pub too_long_line : List ℕ
too_long_line = line (codes "line 0: TooLong")

too_long_is : too_long_line ≡ refusal_line 0 TooManyBytes
too_long_is =
    let digit : 48 + 0 ≡ 48 = omega arith in
    let zero : decimal 0 ≡ 48 ∷ [] = decimal_digit 0 (omega arith) ∙ ap (λ (d : ℕ). d ∷ []) digit in
    sym (ap (λ (digits : List ℕ). line (codes "line " ++ digits ++ codes ": " ++ codes "TooLong")) zero)

long_plan : (bytes : List ℕ) (most : ℕ) → Some most_bytes ≡ Some most → most < length bytes → IsNoPlan bytes too_long_line
long_plan bytes most same long =
    let limit : most_bytes ≡ most = cc in
    (0, TooManyBytes, TooLong (subst (λ m. m < length bytes) (sym limit) long), too_long_is)

long_script : (bytes : List ℕ) (most : ℕ) → Some most_script_bytes ≡ Some most → most < length bytes → IsNoLegalScript bytes too_long_line
long_script bytes most same long =
    let limit : most_script_bytes ≡ most = cc in
    let too_many : most_script_bytes < length bytes = subst (λ m. m < length bytes) (sym limit) long in
    (Refused 0 TooManyBytes, sym (cond_below most_script_bytes (length bytes) (Err (0, TooManyBytes)) _ too_many), too_long_is)

long_input : (size : ℕ) (bytes : List ℕ) (most : ℕ) → Some longest_input ≡ Some most → most < length bytes → IsNoInput size bytes too_long_line
long_input size bytes most same long =
    let limit : longest_input ≡ most = cc in
    let too_many : longest_input < length bytes = subst (λ m. m < length bytes) (sym limit) long in
    (TooManyPieces, sym (cond_below longest_input (length bytes) (Some TooManyPieces) _ too_many), too_long_is)

pub long_is_refused : (request : Request) (bytes : List ℕ) (most : ℕ) → most_read request ≡ Some most → most < length bytes
    → IsRefusalOf request bytes too_long_line
long_is_refused Check bytes most same long = long_plan bytes most same long
long_is_refused Replay bytes most same long = long_plan bytes most same long
long_is_refused Run bytes most same long = long_plan bytes most same long
long_is_refused (Make n) bytes most same long = absurd (cc same)
long_is_refused Bus bytes most same long = long_script bytes most same long
long_is_refused (Encode t) bytes most same long = long_input 1024 bytes most same long
long_is_refused (Decode t) bytes most same long = long_input (unit_bytes t) bytes most same long

-- words ask for one thing
pub one_request : (asked : Option Request) (one other : Request) → asked ≡ Some one → asked ≡ Some other → one ≡ other
one_request asked one other e f =
    let same : Some one ≡ Some other = sym e ∙ f in
    cc same
