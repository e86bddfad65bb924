-- A chip's replies depend on that chip alone.
use Rattle.std.proofs.Common.{◌≡◌, ℕ, ◌+◌, Bool, true, false, List, [], ◌∷◌, ◌++◌, map, Option, Some, None, refl, ap, sym, ◌∙◌, subst, subst₂, append_assoc, append-nil}
use Rattle.std.specs.Prelude.{⊤, flat_map, if◌then◌else◌, ◌==◌, filter}
use Rattle.std.proofs.lemmas.Bool.{false≢true, eqb-true}
use Rattle.std.proofs.lemmas.Option.{none-some, same_Some}
use Rattle.nand_model.specs.declared.words.Note.{Note}
use Rattle.nand_model.specs.declared.words.Note.TheVariants.{Began, Answered, Attached, Torn}
use Rattle.nand_model.specs.declared.words.CutAt.{CutAt}
use Rattle.nand_model.specs.declared.words.Flip.{Flip}
use Rattle.nand_model.specs.Chip.{ChipState, FaultModel, ChipEvent, Complete, PowerCut, Flipped, PageEvent, happens}
use Rattle.nand_model.specs.Path.{Answer, GoesAlong, answers_of, answer_to, is_failure}
use Rattle.nand_model.specs.Partitions.{Partitions, device_of, chip_of}
use Rattle.chip_paths.specs.ChipRun.{torn_notes}
use Rattle.command_model.specs.Boot.{Boot}
use Rattle.nand_model.specs.Cuts.{tear_at}
use Rattle.run_model.specs.History.{LastChips, events_in, notes_of_event, notes_of_trace, is_chip, note_chip, last_after, notes_of_chip_from}
use Rattle.run_model.specs.Log.{Log, befalls, torn_by_cut}
use Rattle.run_model.specs.Laws.{ops_in, replies_in, IsCalm}

-- nothing but complete events
abbrev pub IsPlain : List (ℕ × ChipEvent) → Type 0
IsPlain [] = ⊤
IsPlain ((n, Complete e) ∷ trace) = IsPlain trace
IsPlain ((n, PowerCut e done) ∷ trace) = ⊥
IsPlain ((n, Flipped page bit) ∷ trace) = ⊥

pub plain_left : (xs ys : List (ℕ × ChipEvent)) → IsPlain (xs ++ ys) → IsPlain xs
plain_left [] ys h = tt
plain_left ((n, Complete e) ∷ xs) ys h = plain_left xs ys h
plain_left ((n, PowerCut e done) ∷ xs) ys h = h
plain_left ((n, Flipped page bit) ∷ xs) ys h = h

pub plain_right : (xs ys : List (ℕ × ChipEvent)) → IsPlain (xs ++ ys) → IsPlain ys
plain_right [] ys h = h
plain_right ((n, Complete e) ∷ xs) ys h = plain_right xs ys h
plain_right ((n, PowerCut e done) ∷ xs) ys h = absurd h
plain_right ((n, Flipped page bit) ∷ xs) ys h = absurd h

-- without flips and a cut a chip has nothing but complete events
pub calm_is_plain : (boot : Boot) (k raw n : ℕ) (log : Log) → IsCalm boot → IsPlain (befalls boot k raw n log)
calm_is_plain boot k raw n [] c = tt
calm_is_plain boot k raw n (x ∷ log) c =
    subst₂ (λ (flips : List Flip) (cut : Option CutAt). IsPlain (due boot flips ++ (if x.0 == k then (n, torn_by_cut raw x.1 (tear_at cut n)) ∷ [] else []) ++ befalls boot k raw (n + 1) log)) (sym c.no_flip) (sym c.no_cut)
    (by_test (x.0 == k) (calm_is_plain boot k raw (n + 1) log c))
  where
    due : Boot → List Flip → List (ℕ × ChipEvent)
    due b flips = flat_map (λ (flip : Flip). if flip.chip == k then map (λ bit. (n, Flipped flip.page bit)) flip.bits else []) (filter (λ (flip : Flip). flip.before == n) flips)

    by_test : (b : Bool) → IsPlain (befalls boot k raw (n + 1) log) → IsPlain ((if b then (n, Complete x.1) ∷ [] else []) ++ befalls boot k raw (n + 1) log)
    by_test true h = h
    by_test false h = h

module _ {W : Type 0} (model : FaultModel W) where
  -- two plain traces along one path, both to its end, have the same events
  pub same_trace : (next : List Answer → Option PageEvent) (s : ChipState W) (seen : List Answer) (xs ys : List (ℕ × ChipEvent)) → IsPlain xs → IsPlain ys
      → GoesAlong model next s seen (events_in xs) → GoesAlong model next s seen (events_in ys)
      → next (seen ++ answers_of model s (events_in xs)) ≡ None → next (seen ++ answers_of model s (events_in ys)) ≡ None
      → events_in xs ≡ events_in ys
  same_trace next s seen [] [] p q g h a b = refl
  same_trace next s seen [] ((m, Complete e) ∷ ys) p q g h a b = absurd (none-some e (sym a ∙ ap next (append-nil seen) ∙ h.0))
  same_trace next s seen ((n, Complete e) ∷ xs) [] p q g h a b = absurd (none-some e (sym b ∙ ap next (append-nil seen) ∙ g.0))
  same_trace next s seen ((n, Complete d) ∷ xs) ((m, Complete e) ∷ ys) p q g h a b =
      let same : d ≡ e = same_Some d e (sym g.0 ∙ h.0) in
      ap (λ z. Complete z ∷ events_in xs) same ∙ ap (λ zs. Complete e ∷ zs)
      (same_trace next (happens model s (Complete e)) (seen ++ answer_to model s e ∷ []) xs ys p q
      (subst (λ z. GoesAlong model next (happens model s (Complete z)) (seen ++ answer_to model s z ∷ []) (events_in xs)) same g.1) h.1
      (ap next (append_assoc seen _ _) ∙ subst (λ z. next (seen ++ answer_to model s z ∷ answers_of model (happens model s (Complete z)) (events_in xs)) ≡ None) same a)
      (ap next (append_assoc seen _ _) ∙ b))
  same_trace next s seen ((n, PowerCut e done) ∷ xs) ys p q g h a b = absurd p
  same_trace next s seen ((n, Flipped page bit) ∷ xs) ys p q g h a b = absurd p
  same_trace next s seen xs ((n, PowerCut e done) ∷ ys) p q g h a b = absurd q
  same_trace next s seen xs ((n, Flipped page bit) ∷ ys) p q g h a b = absurd q

-- torn notes ask and answer nothing
torn_ops : {W : Type 0} (b : Bool) (k n : ℕ) (cut : Bool) (s : ChipState W) (e : PageEvent) (after : ChipState W) (rest : List Note) → ops_in (torn_notes b k n cut s e after ++ rest) ≡ ops_in rest
torn_ops true k n cut s e after rest = refl
torn_ops false k n cut s e after rest = refl

torn_replies : {W : Type 0} (b : Bool) (k n : ℕ) (cut : Bool) (s : ChipState W) (e : PageEvent) (after : ChipState W) (rest : List Note) → replies_in (torn_notes b k n cut s e after ++ rest) ≡ replies_in rest
torn_replies true k n cut s e after rest = refl
torn_replies false k n cut s e after rest = refl

module _ {W : Type 0} (model : FaultModel W) where
  event_ops : (k n : ℕ) (s : ChipState W) (e : ChipEvent) (rest : List Note) → ops_in (notes_of_event model k n s e ++ rest) ≡ ops_in rest
  event_ops k n s (Flipped page bit) rest = refl
  event_ops k n s (Complete e) rest = torn_ops (is_failure (answer_to model s e)) k n false s e (happens model s (Complete e)) rest
  event_ops k n s (PowerCut e done) rest = refl

  event_replies : (k n : ℕ) (s : ChipState W) (e : ChipEvent) (rest : List Note) → replies_in (notes_of_event model k n s e ++ rest) ≡ replies_in rest
  event_replies k n s (Flipped page bit) rest = refl
  event_replies k n s (Complete e) rest = torn_replies (is_failure (answer_to model s e)) k n false s e (happens model s (Complete e)) rest
  event_replies k n s (PowerCut e done) rest = refl

  pub trace_ops : (k : ℕ) (s : ChipState W) (trace : List (ℕ × ChipEvent)) (rest : List Note) → ops_in (notes_of_trace model k s trace ++ rest) ≡ ops_in rest
  trace_ops k s [] rest = refl
  trace_ops k s (x ∷ trace) rest = ap ops_in (append_assoc (notes_of_event model k x.0 s x.1) _ _) ∙ event_ops k x.0 s x.1 _ ∙ trace_ops k (happens model s x.1) trace rest

  pub trace_replies : (k : ℕ) (s : ChipState W) (trace : List (ℕ × ChipEvent)) (rest : List Note) → replies_in (notes_of_trace model k s trace ++ rest) ≡ replies_in rest
  trace_replies k s [] rest = refl
  trace_replies k s (x ∷ trace) rest = ap replies_in (append_assoc (notes_of_event model k x.0 s x.1) _ _) ∙ event_replies k x.0 s x.1 _ ∙ trace_replies k (happens model s x.1) trace rest

-- each operation begun in these notes is on chip k
abbrev pub BegunOn : Partitions → ℕ → List Note → Type 0
BegunOn partitions k [] = ⊤
BegunOn partitions k (Began session op ∷ notes) = (chip_of partitions (device_of op) ≡ Some k) × BegunOn partitions k notes
BegunOn partitions k (Answered session reply ∷ notes) = BegunOn partitions k notes
BegunOn partitions k (Attached chip origin version copies quiet states ∷ notes) = BegunOn partitions k notes
BegunOn partitions k (Torn chip number event cut fairness ∷ notes) = BegunOn partitions k notes

pub begun_right : (partitions : Partitions) (k : ℕ) (xs ys : List Note) → BegunOn partitions k (xs ++ ys) → BegunOn partitions k ys
begun_right partitions k [] ys h = h
begun_right partitions k (Began session op ∷ xs) ys h = begun_right partitions k xs ys h.1
begun_right partitions k (Answered session reply ∷ xs) ys h = begun_right partitions k xs ys h
begun_right partitions k (Attached chip origin version copies quiet states ∷ xs) ys h = begun_right partitions k xs ys h
begun_right partitions k (Torn chip number event cut fairness ∷ xs) ys h = begun_right partitions k xs ys h

is_chip_true : (o : Option ℕ) (k : ℕ) → is_chip o k ≡ true → o ≡ Some k
is_chip_true None k h = absurd (false≢true h)
is_chip_true (Some j) k h = ap (λ z. Some z) (eqb-true _ _ h)

pub begun_on : (partitions : Partitions) (last : LastChips) (k : ℕ) (notes : List Note) → BegunOn partitions k (notes_of_chip_from partitions last k notes)
begun_on partitions last k [] = tt
begun_on partitions last k (note ∷ notes) = by_test (is_chip (note_chip partitions last note) k) refl (begun_on partitions (last_after partitions last note) k notes)
  where
    put : (n : Note) → note_chip partitions last n ≡ Some k → (rest : List Note) → BegunOn partitions k rest → BegunOn partitions k (n ∷ rest)
    put (Began session op) e rest h = (e, h)
    put (Answered session reply) e rest h = h
    put (Attached chip origin version copies quiet states) e rest h = h
    put (Torn chip number event cut fairness) e rest h = h

    by_test : (b : Bool) → is_chip (note_chip partitions last note) k ≡ b → BegunOn partitions k (notes_of_chip_from partitions (last_after partitions last note) k notes)
        → BegunOn partitions k ((if is_chip (note_chip partitions last note) k then note ∷ [] else []) ++ notes_of_chip_from partitions (last_after partitions last note) k notes)
    by_test true e h = subst (λ b. BegunOn partitions k ((if b then note ∷ [] else []) ++ notes_of_chip_from partitions (last_after partitions last note) k notes)) (sym e) (put note (is_chip_true _ k e) _ h)
    by_test false e h = subst (λ b. BegunOn partitions k ((if b then note ∷ [] else []) ++ notes_of_chip_from partitions (last_after partitions last note) k notes)) (sym e) h
