-- A flip's line by its numbers.
use Rattle.std.proofs.Common.{◌≡◌, ℕ, List, [], ◌∷◌, Result, Ok, Err, refl, sym, ap, ◌∙◌}
use Rattle.plan_grammar.specs.declared.kind.PlanKind.{PlanKind}
use Rattle.plan_grammar.specs.declared.kind.PlanKind.TheVariants.{BadWords}
use Rattle.plan_grammar.specs.declared.lines.PlanLines.{PlanLines}
use Rattle.plan_grammar.specs.declared.lines.BootLines.{BootLines}
use Rattle.plan_grammar.specs.Rules.{◌>>=◌, there}
use Rattle.plan_grammar.specs.Forms.{small_number, positive_number, small_numbers, chip_numbers}
use Rattle.plan_grammar.specs.Faults.{open_boot, flip_line, flip_form, flip_words as by_words}
use Rattle.plan_words.specs.declared.error.LineError.{LineError}
use Rattle.plan_words.specs.declared.error.LineError.TheVariants.{Broken, OutOfMemory}
use Rattle.plan_words.specs.Answer.{Answers}
use Rattle.plan_store.specs.declared.boots.FlipWords.{FlipWords}
use Rattle.plan_store.specs.Flips.{flip_words, flip_rules}

four_steps : {A B C D E F : Type 0} (r1 : Result A PlanKind) (r2 : Result B PlanKind) (r3 : Result C PlanKind) (r4 : Result D PlanKind)
    (make : A → B → C → D → E) (next : E → Result F PlanKind) →
    ((r1 >>= λ a. r2 >>= λ b. r3 >>= λ c. r4 >>= λ d. Ok (make a b c d)) >>= next)
    ≡ (r1 >>= λ a. r2 >>= λ b. r3 >>= λ c. r4 >>= λ d. next (make a b c d))
four_steps (Ok a) (Ok b) (Ok c) (Ok d) make next = refl
four_steps (Ok a) (Ok b) (Ok c) (Err k) make next = refl
four_steps (Ok a) (Ok b) (Err k) r4 make next = refl
four_steps (Ok a) (Err k) r3 r4 make next = refl
four_steps (Err k) r2 r3 r4 make next = refl

form_is : (plan : PlanLines) (words : List (List ℕ)) → flip_form plan words ≡ (flip_words words >>= flip_rules plan)
unfolding flip_form by_words flip_words
form_is plan [] = refl
form_is plan (w0 ∷ []) = refl
form_is plan (w0 ∷ w1 ∷ []) = refl
form_is plan (w0 ∷ w1 ∷ w2 ∷ []) = refl
form_is plan (w0 ∷ w1 ∷ w2 ∷ w3 ∷ words) =
    sym (four_steps (there (chip_numbers w0) BadWords) (small_number w1) (positive_number w2) (small_numbers (w3 ∷ words))
    (λ (names : ℕ × ℕ) page before bits. record { controller = names.0; chip = names.1; page = page; before = before; bits = bits })
    (flip_rules plan))

-- the line of a flip
pub flip_line_is : (plan : PlanLines) (words : List (List ℕ)) →
    flip_line plan words ≡ (open_boot plan >>= λ (boot : BootLines). flip_words words >>= flip_rules plan)
unfolding flip_line
flip_line_is plan words = ap (λ (form : Result PlanLines PlanKind). open_boot plan >>= λ (boot : BootLines). form) (form_is plan words)

-- a flip that may not stand here
pub flip_refused_place : (plan : PlanLines) (words : List (List ℕ)) (kind : PlanKind) → open_boot plan ≡ Err kind →
    flip_line plan words ≡ Err kind
flip_refused_place plan words kind e =
    flip_line_is plan words ∙ ap (λ (r : Result BootLines PlanKind). r >>= λ (boot : BootLines). flip_words words >>= flip_rules plan) e

-- a flip whose words are not of the form, or for which memory ran out
pub flip_refused_words : (plan : PlanLines) (words : List (List ℕ)) (boot : BootLines) (error : LineError) → open_boot plan ≡ Ok boot →
    Answers {A = FlipWords} (Err error) (flip_words words) → Answers {A = PlanLines} (Err error) (flip_line plan words)
flip_refused_words plan words boot (Broken kind) e f =
    flip_line_is plan words ∙ ap (λ (r : Result BootLines PlanKind). r >>= λ (b : BootLines). flip_words words >>= flip_rules plan) e
    ∙ ap (λ (r : Result FlipWords PlanKind). r >>= flip_rules plan) f
flip_refused_words plan words boot OutOfMemory e f = tt

-- a flip by its numbers
pub flip_goes_on : (plan : PlanLines) (words : List (List ℕ)) (boot : BootLines) (flip : FlipWords) → open_boot plan ≡ Ok boot →
    flip_words words ≡ Ok flip → flip_line plan words ≡ flip_rules plan flip
flip_goes_on plan words boot flip e f =
    flip_line_is plan words ∙ ap (λ (r : Result BootLines PlanKind). r >>= λ (b : BootLines). flip_words words >>= flip_rules plan) e
    ∙ ap (λ (r : Result FlipWords PlanKind). r >>= flip_rules plan) f
