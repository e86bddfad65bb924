-- What the sink holds after a text was written to it, or a prefix of the text.
use Rattle.std.proofs.Common.{◌≡◌, ℕ, arith, ◌⊎◌, inl, inr, List, ◌++◌, take, Option, Some, None, refl, ap, sym, subst, ◌∙◌}
use Rattle.std.specs.Prelude.{IfSome}
use Rattle.std.specs.Io.KnownBytes.{append_known}
use Rattle.lab_outside.specs.Outside.{TookPrefix}
use Rattle.nandlab.specs.Status.{exit_code}
use Rattle.nandlab.specs.Words.{Words, given_of, given_to, most_asked, most_read, request_of}
use Rattle.nandlab.specs.Answer.{Answers, Holds, Leaves, Writes}
use Rattle.nandlab.specs.declared.request.Request.{Request}
use Rattle.nandlab.specs.declared.status.Status.{Status}
use Rattle.nandlab.specs.declared.status.Status.TheVariants.{Fine, Usage, PlanRefused, ReadFault, WriteFault, Memory}

-- a fact about what is told
pub told : {T : Type 0} (known : Option T) (P : T → Type 0) (x : T) → known ≡ Some x → IfSome known P → P x
told known P x same h = subst (λ k. IfSome k P) same h

-- what an answer to accepted words says
pub writes_answer : (words : Words) (request : Request) (bytes : List ℕ) (status : Status) (text : List ℕ)
    → request_of words ≡ Some request → Answers request bytes status text → Writes words bytes status text
writes_answer words request bytes Fine text asked h = (request, asked, h)
writes_answer words request bytes PlanRefused text asked h = (request, asked, h)
writes_answer words request bytes Usage text asked h = absurd h
writes_answer words request bytes ReadFault text asked h = absurd h
writes_answer words request bytes WriteFault text asked h = absurd h
writes_answer words request bytes Memory text asked h = absurd h

-- the whole text is what a call with this status leaves
holds_whole : (words : Words) (bytes : List ℕ) (status : Status) (text before : List ℕ) → Writes words bytes status text
    → Holds words bytes status before (before ++ text)
holds_whole words bytes Fine text before h = (text, h, refl)
holds_whole words bytes Usage text before h = (text, h, refl)
holds_whole words bytes PlanRefused text before h = (text, h, refl)
holds_whole words bytes ReadFault text before h = absurd (h.2)
holds_whole words bytes WriteFault text before h = absurd (h.2)
holds_whole words bytes Memory text before h = absurd (h.2)

-- what the sink holds after a write of the text that the status stands for
pub holds_written : (words : Words) (bytes : List ℕ) (status result : Status) (old new : Option (List ℕ)) (text : List ℕ) (Risen : Type 0)
    → Writes words bytes status text
    → ((result ≡ status) × (new ≡ append_known old text)) ⊎ ((result ≡ WriteFault) × Risen × TookPrefix old new text)
    → (before : List ℕ) → old ≡ Some before → Leaves words bytes result before new
holds_written words bytes status result old new text Risen writes (inl (same, grown)) before was = (
  before ++ text,
  grown ∙ ap (λ known. append_known known text) was,
  subst (λ s. Holds words bytes s before (before ++ text)) (sym same) (holds_whole words bytes status text before writes),
)
holds_written words bytes status result old new text Risen writes (inr (failed, risen, (n, within, grown))) before was = (
  before ++ take n text,
  grown ∙ ap (λ known. append_known known (take n text)) was,
  subst (λ s. Holds words bytes s before (before ++ take n text)) (sym failed) (status, text, n, writes, refl),
)

-- a fact where something is told
pub if_told : {T : Type 0} (known : Option T) (P : T → Type 0) → ((x : T) → known ≡ Some x → P x) → IfSome known P
if_told None P h = tt
if_told (Some x) P h = h x refl

-- an answer to what was read is one to the bytes that were left
pub answers_told : (known : Option (List ℕ)) (request : Request) (status : Status) (read slice text lent bytes : List ℕ)
    → known ≡ Some bytes → IfSome known (λ left. read ≡ left) → slice ≡ read → lent ≡ text → Answers request slice status text
    → Answers request bytes status lent
answers_told known request status read slice text lent bytes left_is all slice_is lent_is h =
    subst (Answers request bytes status) (sym lent_is)
    (subst (λ bs. Answers request bs status text) (slice_is ∙ told known (λ left. read ≡ left) bytes left_is all) h)

-- the status of a text, by that of the call that wrote it
pub refused_as : (result status : Status) (Grown Risen Took : Type 0)
    → ((result ≡ status) × Grown) ⊎ ((result ≡ WriteFault) × Risen × Took) → result ≡ PlanRefused → status ≡ PlanRefused
refused_as result status Grown Risen Took (inl (same, grown)) e = sym same ∙ e
refused_as result status Grown Risen Took (inr (failed, risen, took)) e =
    let clash : 5 ≡ 3 = ap exit_code (sym failed ∙ e) in
    absurd (omega (arith, clash))

pub fine_as : (result status : Status) (Grown Risen Took : Type 0)
    → ((result ≡ status) × Grown) ⊎ ((result ≡ WriteFault) × Risen × Took) → result ≡ Fine → status ≡ Fine
fine_as result status Grown Risen Took (inl (same, grown)) e = sym same ∙ e
fine_as result status Grown Risen Took (inr (failed, risen, took)) e =
    let clash : 5 ≡ 0 = ap exit_code (sym failed ∙ e) in
    absurd (omega (arith, clash))

-- how a call ends whose sink did not fail
pub ends_as : (result status wanted : Status) (Grown Risen Took : Type 0)
    → ((result ≡ status) × Grown) ⊎ ((result ≡ WriteFault) × Risen × Took) → (Risen → ⊥) → status ≡ wanted
    → (result ≡ wanted) ⊎ (result ≡ Memory)
ends_as result status wanted Grown Risen Took (inl (same, grown)) calm e = inl (same ∙ e)
ends_as result status wanted Grown Risen Took (inr (failed, risen, took)) calm e = absurd (calm risen)

-- what a request is given is what its words are
pub given_is : (words : Words) (request : Request) (left : Option (List ℕ)) (bytes : List ℕ) → request_of words ≡ Some request
    → given_to words left ≡ Some bytes → given_of (most_read request) left ≡ Some bytes
given_is words request left bytes asked given = sym (ap (λ o. given_of (most_asked o) left) asked) ∙ given

-- a request that reads is given what is left
pub left_is_given : (words : Words) (request : Request) (left : Option (List ℕ)) (most : ℕ) (bytes : List ℕ) → request_of words ≡ Some request
    → most_read request ≡ Some most → given_to words left ≡ Some bytes → left ≡ Some bytes
left_is_given words request left most bytes asked reads given =
    sym (ap (λ m. given_of m left) reads) ∙ given_is words request left bytes asked given
