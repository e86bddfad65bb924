-- Paths that are safe: whatever flips come between their events and whichever event fails or is
-- cut, each moment is as it should be.
use Rattle.std.proofs.Common.{◌≡◌, ℕ, true, false, List, [], ◌∷◌, ◌++◌, refl, sym, Some, append_assoc, append-nil, subst}
use Rattle.std.proofs.lemmas.Option.{none-some, same_Some}
use Rattle.nand_model.specs.Chip.{ChipState, FaultModel, ChipEvent, Complete, PowerCut, Flipped, PageEvent, happens, after_trace, DoneBits}
use Rattle.nand_model.specs.Path.{Answer, Path, Over, Then, answer_to, answers_of, GoesAlong, is_uncut, after_answers, first_event, next_event, result_of}
use Rattle.page_laws.specs.Keeping.{EachStep}

-- how the events of a trace are granted, what holds at each moment by what is left of the path,
-- what holds once it was cut, and what it comes to
pub record Safety (W A : Type 0) : Type 1 where
  pub model : FaultModel W
  pub granted : ChipState W → ChipEvent → Type 0
  pub moment : Path A → ChipState W → Type 0
  pub ended : ChipState W → Type 0
  pub result : A → ChipState W → Type 0

-- after flips
abbrev pub turned : {W : Type 0} → FaultModel W → ChipState W → List (ℕ × ℕ) → ChipState W
turned model s [] = s
turned model s ((page, bit) ∷ flips) = turned model (happens model s (Flipped page bit)) flips

-- what flips do not end
pub closed-turned : {W : Type 0} (model : FaultModel W) (J : ChipState W → Type 0) → ((s : ChipState W) (page bit : ℕ) → J s → J (happens model s (Flipped page bit)))
    → (s : ChipState W) (flips : List (ℕ × ℕ)) → J s → J (turned model s flips)
closed-turned model J c s [] h = h
closed-turned model J c s ((page, bit) ∷ flips) h = closed-turned model J c (happens model s (Flipped page bit)) flips (c s page bit h)

module _ {W A : Type 0} (law : Safety W A) where
  abbrev pub Safe : Path A → ChipState W → Type 0
  Safe (Over a) s = (flips : List (ℕ × ℕ)) → law.moment (Over a) (turned law.model s flips) × law.result a (turned law.model s flips)
  Safe (Then e rest) s =
      (flips : List (ℕ × ℕ)) →
      law.moment (Then e rest) (turned law.model s flips)
      × ((done : DoneBits) → law.granted (turned law.model s flips) (PowerCut e done) → law.ended (happens law.model (turned law.model s flips) (PowerCut e done)))
      × (law.granted (turned law.model s flips) (Complete e) → Safe (rest (answer_to law.model (turned law.model s flips) e)) (happens law.model (turned law.model s flips) (Complete e)))

  pub safe-flipped : (path : Path A) (s : ChipState W) (page bit : ℕ) → Safe path s → Safe path (happens law.model s (Flipped page bit))
  safe-flipped (Over a) s page bit h = λ flips. h ((page, bit) ∷ flips)
  safe-flipped (Then e rest) s page bit h = λ flips. h ((page, bit) ∷ flips)

  -- the moment that a safe path is at, and what it comes to
  pub safe-moment : (path : Path A) (s : ChipState W) → Safe path s → law.moment path s
  safe-moment (Over a) s h = (h []).0
  safe-moment (Then e rest) s h = (h []).0

  pub safe-result : (path : Path A) (s : ChipState W) (a : A) → result_of path ≡ Some a → Safe path s → law.result a s
  safe-result (Over b) s a e h = subst (λ c. law.result c s) (same_Some b a e) (h []).1
  safe-result (Then e rest) s a none h = absurd (none-some a none)

  over-stays : (answers : List Answer) (a : A) → after_answers answers (Over a) ≡ Over a
  over-stays [] a = refl
  over-stays (answer ∷ answers) a = refl

  pub answers-joined : (first second : List Answer) (path : Path A) → after_answers (first ++ second) path ≡ after_answers second (after_answers first path)
  answers-joined [] second path = refl
  answers-joined (answer ∷ first) second (Over a) = sym (over-stays second a)
  answers-joined (answer ∷ first) second (Then e rest) = answers-joined first second (rest answer)

  -- after a trace of the path
  pub data SafeAfter (path : Path A) (s : ChipState W) (answers : List Answer) (trace : List ChipEvent) : Type 0 where
    goes_on : is_uncut trace ≡ true → Safe (after_answers (answers ++ answers_of law.model s trace) path) (after_trace law.model s trace) → SafeAfter path s answers trace
    was_cut : is_uncut trace ≡ false → law.ended (after_trace law.model s trace) → SafeAfter path s answers trace

  -- a safe path whose next event this is
  pub record AtEvent (path : Path A) (s : ChipState W) (e : PageEvent) : Type 0 where
    pub cut : (done : DoneBits) → law.granted s (PowerCut e done) → law.ended (happens law.model s (PowerCut e done))
    pub complete : law.granted s (Complete e) → Safe (after_answers (answer_to law.model s e ∷ []) path) (happens law.model s (Complete e))

  pub at-event : (path : Path A) (s : ChipState W) (e : PageEvent) → first_event path ≡ Some e → Safe path s → AtEvent path s e
  at-event (Over a) s e none h = absurd (none-some e none)
  at-event (Then f rest) s e same h = subst (AtEvent (Then f rest) s) (same_Some f e same) (record { cut = (h []).1; complete = (h []).2 })

  pub safe-trace : (path : Path A) (trace : List ChipEvent) (s : ChipState W) (answers : List Answer)
      → GoesAlong law.model (next_event path) s answers trace → EachStep law.model law.granted s trace → Safe (after_answers answers path) s → SafeAfter path s answers trace
  safe-trace path [] s answers along each h = goes_on refl (rw append-nil h)
  safe-trace path (Flipped page bit ∷ trace) s answers along each h =
      on (safe-trace path trace (happens law.model s (Flipped page bit)) answers along each.1 (safe-flipped (after_answers answers path) s page bit h))
    where
      on : SafeAfter path (happens law.model s (Flipped page bit)) answers trace → SafeAfter path s answers (Flipped page bit ∷ trace)
      on (goes_on u k) = goes_on u k
      on (was_cut u k) = was_cut u k
  safe-trace path (Complete e ∷ trace) s answers along each h =
      on (safe-trace path trace (happens law.model s (Complete e)) (answers ++ answer_to law.model s e ∷ []) along.1 each.1
      (subst (λ p. Safe p (happens law.model s (Complete e))) (sym (answers-joined answers (answer_to law.model s e ∷ []) path)) ((at-event (after_answers answers path) s e along.0 h).complete each.0)))
    where
      on : SafeAfter path (happens law.model s (Complete e)) (answers ++ answer_to law.model s e ∷ []) trace → SafeAfter path s answers (Complete e ∷ trace)
      on (goes_on u k) =
          goes_on u (subst (λ zs. Safe (after_answers zs path) (after_trace law.model (happens law.model s (Complete e)) trace)) (append_assoc answers (answer_to law.model s e ∷ []) (answers_of law.model (happens law.model s (Complete e)) trace)) k)
      on (was_cut u k) = was_cut u k
  safe-trace path (PowerCut e done ∷ trace) s answers along each h =
      was_cut refl (subst (λ t. law.ended (after_trace law.model (happens law.model s (PowerCut e done)) t)) (sym along.1) ((at-event (after_answers answers path) s e along.0 h).cut done each.0))

  pub safe-turned : (path : Path A) (s : ChipState W) (flips : List (ℕ × ℕ)) → Safe path s → Safe path (turned law.model s flips)
  safe-turned path s [] h = h
  safe-turned path s ((page, bit) ∷ flips) h = safe-turned path (happens law.model s (Flipped page bit)) flips (safe-flipped path s page bit h)
