-- Which markings the notes say were begun and acknowledged, and which the operations of a chip's
-- life.
use Rattle.std.proofs.Common.{◌≡◌, ℕ, ◌+◌, Bool, true, false, ◌&&◌, ◌==◌, nat_lt, List, [], ◌∷◌, ◌++◌, refl, ap, ap₂, sym, ◌∙◌, Option, Some, None, subst, arith}
use Rattle.std.specs.Prelude.{if◌then◌else◌, ⊤}
use Rattle.std.proofs.lemmas.Bool.{false≢true, eq-eqb, eqb-true, and_parts}
use Rattle.std.proofs.lemmas.Bool.Decides.{nat_tests}
use Rattle.std.proofs.lemmas.Option.{none-some, same_Some}
use Rattle.nand_model.specs.Partitions.{Partitions, part_of, device_of, chip_of, chip_of_part}
use Rattle.nand_model.specs.declared.geometry.Geometry.{Geometry}
use Rattle.nand_model.specs.declared.words.Part.{Part}
use Rattle.nand_model.specs.declared.words.Note.{Note}
use Rattle.nand_model.specs.declared.words.Note.TheVariants.{Torn, Began, Answered, Attached}
use Rattle.nand_model.specs.declared.words.Op.{Op}
use Rattle.nand_model.specs.declared.words.Op.TheVariants.{Read, Write, RawRead, RawWrite, Erase, IsBad, Mark, Stats}
use Rattle.nand_model.specs.declared.words.Reply.{Reply}
use Rattle.run_model.specs.History.{LastChips, last_after, note_chip, is_chip, notes_of_chip_from}
use Rattle.command_model.specs.Session.{Asked, Replied, exchange_in, exchanges_of, Alternate}
use Rattle.run_model.specs.Marking.{is_mark_of, is_block_of, answer_in, marks_in}
use Rattle.relocation_laws.specs.Life.{block_in, block_marked}
use Rattle.run_model.specs.Survival.{WritesAPage}

-- ---- the notes of a chip among all notes
-- a session's notes go on rightly: after an answer, or after a question
data GoesRight (session : ℕ) (notes : List Note) : Type 0 where
  between : Alternate (exchanges_of session notes) → GoesRight session notes
  within : (op : Op) → Alternate (Asked op ∷ exchanges_of session notes) → GoesRight session notes

began_next : (session s : ℕ) (op : Op) (notes : List Note) → GoesRight session (Began s op ∷ notes) → GoesRight session notes
began_next session s op notes h = on (s == session) refl h
  where
    on : (t : Bool) → (s == session) ≡ t → GoesRight session (Began s op ∷ notes) → GoesRight session notes
    on true e (between a) = within op (subst (λ t. Alternate ((if t then Asked op ∷ [] else []) ++ exchanges_of session notes)) e a)
    on true e (within first a) = absurd (subst (λ t. Alternate (Asked first ∷ (if t then Asked op ∷ [] else []) ++ exchanges_of session notes)) e a)
    on false e (between a) = between (subst (λ t. Alternate ((if t then Asked op ∷ [] else []) ++ exchanges_of session notes)) e a)
    on false e (within first a) = within first (subst (λ t. Alternate (Asked first ∷ (if t then Asked op ∷ [] else []) ++ exchanges_of session notes)) e a)

answered_next : (session s : ℕ) (reply : Reply) (notes : List Note) → GoesRight session (Answered s reply ∷ notes) → GoesRight session notes
answered_next session s reply notes h = on (s == session) refl h
  where
    on : (t : Bool) → (s == session) ≡ t → GoesRight session (Answered s reply ∷ notes) → GoesRight session notes
    on true e (between a) = absurd (subst (λ t. Alternate ((if t then Replied reply ∷ [] else []) ++ exchanges_of session notes)) e a)
    on true e (within first a) = between (subst (λ t. Alternate (Asked first ∷ (if t then Replied reply ∷ [] else []) ++ exchanges_of session notes)) e a)
    on false e (between a) = between (subst (λ t. Alternate ((if t then Replied reply ∷ [] else []) ++ exchanges_of session notes)) e a)
    on false e (within first a) = within first (subst (λ t. Alternate (Asked first ∷ (if t then Replied reply ∷ [] else []) ++ exchanges_of session notes)) e a)

-- after a question, with no further one before its answer
abbrev AfterAsking : ℕ → List Note → Type 0
AfterAsking session notes = (op : Op) × Alternate (Asked op ∷ exchanges_of session notes)

asking : (session : ℕ) (op : Op) (notes : List Note) → GoesRight session (Began session op ∷ notes) → AfterAsking session notes
asking session op notes (between a) = (op, subst (λ t. Alternate ((if t then Asked op ∷ [] else []) ++ exchanges_of session notes)) (eq-eqb session session refl) a)
asking session op notes (within first a) = absurd (subst (λ t. Alternate (Asked first ∷ (if t then Asked op ∷ [] else []) ++ exchanges_of session notes)) (eq-eqb session session refl) a)

module _ (partitions : Partitions) (k : ℕ) where
  abbrev of_chip : LastChips → List Note → List Note
  of_chip last notes = notes_of_chip_from partitions last k notes

  kept : (last : LastChips) (note : Note) (notes : List Note) → is_chip (note_chip partitions last note) k ≡ true → of_chip last (note ∷ notes) ≡ note ∷ of_chip (last_after partitions last note) notes
  kept last note notes e = ap (λ t. (if t then note ∷ [] else []) ++ of_chip (last_after partitions last note) notes) e

  -- a note that is no answer to the session
  skip_note : (inside : Bool) (note : Note) (session : ℕ) (rest : List Note) → ((xs : List Note) → answer_in session (note ∷ xs) ≡ answer_in session xs)
      → answer_in session ((if inside then note ∷ [] else []) ++ rest) ≡ answer_in session rest
  skip_note true note session rest h = h rest
  skip_note false note session rest h = refl

  asked_later : (last : LastChips) (session s : ℕ) (op : Op) (notes : List Note) → last session ≡ Some k → AfterAsking session (Began s op ∷ notes)
      → (last_after partitions last (Began s op) session ≡ Some k → AfterAsking session notes → answer_in session (of_chip (last_after partitions last (Began s op)) notes) ≡ answer_in session notes)
      → answer_in session (of_chip last (Began s op ∷ notes)) ≡ answer_in session (Began s op ∷ notes)
  asked_later last session s op notes at h later = on (s == session) refl
    where
      on : (t : Bool) → (s == session) ≡ t → answer_in session (of_chip last (Began s op ∷ notes)) ≡ answer_in session (Began s op ∷ notes)
      on true e = absurd (subst (λ t. Alternate (Asked h.0 ∷ (if t then Asked op ∷ [] else []) ++ exchanges_of session notes)) e h.1)
      on false e =
          let other : (session == s) ≡ false = grind (arith, nat_tests) in
          skip_note (is_chip (chip_of partitions (device_of op)) k) (Began s op) session (of_chip (last_after partitions last (Began s op)) notes) (λ xs. refl)
          ∙ later (ap (λ t. if t then chip_of partitions (device_of op) else last session) other ∙ at)
          (h.0, subst (λ t. Alternate (Asked h.0 ∷ (if t then Asked op ∷ [] else []) ++ exchanges_of session notes)) e h.1)

  answered_later : (last : LastChips) (session s : ℕ) (reply : Reply) (notes : List Note) → last session ≡ Some k → AfterAsking session (Answered s reply ∷ notes)
      → (AfterAsking session notes → answer_in session (of_chip (last_after partitions last (Answered s reply)) notes) ≡ answer_in session notes)
      → answer_in session (of_chip last (Answered s reply ∷ notes)) ≡ answer_in session (Answered s reply ∷ notes)
  answered_later last session s reply notes at h later = on (s == session) refl
    where
      on : (t : Bool) → (s == session) ≡ t → answer_in session (of_chip last (Answered s reply ∷ notes)) ≡ answer_in session (Answered s reply ∷ notes)
      on true e =
          ap (answer_in session) (kept last (Answered s reply) notes (ap (λ x. is_chip (last x) k) (eqb-true s session e) ∙ ap (λ o. is_chip o k) at ∙ eq-eqb k k refl))
          ∙ ap (λ t. if t then Some reply else answer_in session (of_chip (last_after partitions last (Answered s reply)) notes)) e
          ∙ sym (ap (λ t. if t then Some reply else answer_in session notes) e)
      on false e =
          skip_note (is_chip (last s) k) (Answered s reply) session (of_chip (last_after partitions last (Answered s reply)) notes) (λ xs. ap (λ t. if t then Some reply else answer_in session xs) e)
          ∙ later (h.0, subst (λ t. Alternate (Asked h.0 ∷ (if t then Replied reply ∷ [] else []) ++ exchanges_of session notes)) e h.1)
          ∙ sym (ap (λ t. if t then Some reply else answer_in session notes) e)

  -- the first answer to a session is among the notes of the chip on which it last began
  first_answer : (last : LastChips) (session : ℕ) (notes : List Note) → last session ≡ Some k → AfterAsking session notes → answer_in session (of_chip last notes) ≡ answer_in session notes
  first_answer last session [] at h = refl
  first_answer last session (Began s op ∷ notes) at h =
      asked_later last session s op notes at h (λ at_later right. first_answer (last_after partitions last (Began s op)) session notes at_later right)
  first_answer last session (Answered s reply ∷ notes) at h =
      answered_later last session s reply notes at h (λ right. first_answer (last_after partitions last (Answered s reply)) session notes at right)
  first_answer last session (Attached chip origin version copies quiet states ∷ notes) at h =
      skip_note (chip == k) (Attached chip origin version copies quiet states) session (of_chip (last_after partitions last (Attached chip origin version copies quiet states)) notes) (λ xs. refl)
      ∙ first_answer (last_after partitions last (Attached chip origin version copies quiet states)) session notes at h
  first_answer last session (Torn chip number event cut fairness ∷ notes) at h =
      skip_note (chip == k) (Torn chip number event cut fairness) session (of_chip (last_after partitions last (Torn chip number event cut fairness)) notes) (λ xs. refl)
      ∙ first_answer (last_after partitions last (Torn chip number event cut fairness)) session notes at h

  -- a mark of a block of the chip is on the chip
  block_chip : (part : Option Part) (block b : ℕ) → is_block_of part block k b ≡ true → chip_of_part part ≡ Some k
  block_chip None block b h = absurd (false≢true h)
  block_chip (Some part) block b h =
      let p = and_parts (part.chip == k && nat_lt block part.count) (part.start + block == b) h in
      ap (λ c. Some c) (eqb-true part.chip k (and_parts (part.chip == k) (nat_lt block part.count) p.0).0)

  mark_chip : (op : Op) (b : ℕ) → is_mark_of partitions k b op ≡ true → chip_of partitions (device_of op) ≡ Some k
  mark_chip (Read dev page) b h = absurd (false≢true h)
  mark_chip (Write dev page body free) b h = absurd (false≢true h)
  mark_chip (RawRead dev page) b h = absurd (false≢true h)
  mark_chip (RawWrite dev page image) b h = absurd (false≢true h)
  mark_chip (Erase dev block) b h = absurd (false≢true h)
  mark_chip (IsBad dev block) b h = absurd (false≢true h)
  mark_chip (Stats dev) b h = absurd (false≢true h)
  mark_chip (Mark dev block) b h = block_chip (part_of partitions dev) block b h

  skip_mark : (inside : Bool) (note : Note) (b : ℕ) (rest : List Note) → ((xs : List Note) → marks_in partitions k b (note ∷ xs) ≡ marks_in partitions k b xs)
      → marks_in partitions k b ((if inside then note ∷ [] else []) ++ rest) ≡ marks_in partitions k b rest
  skip_mark true note b rest h = h rest
  skip_mark false note b rest h = refl

  began_mark : (last : LastChips) (b s : ℕ) (op : Op) (notes : List Note) → GoesRight s (Began s op ∷ notes)
      → marks_in partitions k b (of_chip (last_after partitions last (Began s op)) notes) ≡ marks_in partitions k b notes
      → marks_in partitions k b (of_chip last (Began s op ∷ notes)) ≡ marks_in partitions k b (Began s op ∷ notes)
  began_mark last b s op notes right later = on (is_mark_of partitions k b op) refl
    where
      on : (m : Bool) → is_mark_of partitions k b op ≡ m → marks_in partitions k b (of_chip last (Began s op ∷ notes)) ≡ marks_in partitions k b (Began s op ∷ notes)
      on true m =
          ap (marks_in partitions k b) (kept last (Began s op) notes (ap (λ o. is_chip o k) (mark_chip op b m) ∙ eq-eqb k k refl))
          ∙ ap₂ (λ answer rest. (if is_mark_of partitions k b op then answer ∷ [] else []) ++ rest)
          (first_answer (last_after partitions last (Began s op)) s notes (ap (λ t. if t then chip_of partitions (device_of op) else last s) (eq-eqb s s refl) ∙ mark_chip op b m) (asking s op notes right)) later
      on false m =
          skip_mark (is_chip (chip_of partitions (device_of op)) k) (Began s op) b (of_chip (last_after partitions last (Began s op)) notes)
          (λ xs. ap (λ t. (if t then answer_in s xs ∷ [] else []) ++ marks_in partitions k b xs) m)
          ∙ later ∙ sym (ap (λ t. (if t then answer_in s notes ∷ [] else []) ++ marks_in partitions k b notes) m)

  right_after : (session : ℕ) (note : Note) (notes : List Note) → exchange_in session note ≡ [] → GoesRight session (note ∷ notes) → GoesRight session notes
  right_after session note notes none (between a) = between (subst (λ xs. Alternate (xs ++ exchanges_of session notes)) none a)
  right_after session note notes none (within op a) = within op (subst (λ xs. Alternate (Asked op ∷ xs ++ exchanges_of session notes)) none a)

  -- the marks of the chip's blocks stand among its notes
  marks_of_chip : (last : LastChips) (b : ℕ) (notes : List Note) → ((session : ℕ) → GoesRight session notes) → marks_in partitions k b (of_chip last notes) ≡ marks_in partitions k b notes
  marks_of_chip last b [] right = refl
  marks_of_chip last b (Began s op ∷ notes) right =
      began_mark last b s op notes (right s) (marks_of_chip (last_after partitions last (Began s op)) b notes (λ session. began_next session s op notes (right session)))
  marks_of_chip last b (Answered s reply ∷ notes) right =
      skip_mark (is_chip (last s) k) (Answered s reply) b (of_chip (last_after partitions last (Answered s reply)) notes) (λ xs. refl)
      ∙ marks_of_chip (last_after partitions last (Answered s reply)) b notes (λ session. answered_next session s reply notes (right session))
  marks_of_chip last b (Attached chip origin version copies quiet states ∷ notes) right =
      skip_mark (chip == k) (Attached chip origin version copies quiet states) b (of_chip (last_after partitions last (Attached chip origin version copies quiet states)) notes) (λ xs. refl)
      ∙ marks_of_chip (last_after partitions last (Attached chip origin version copies quiet states)) b notes (λ session. right_after session (Attached chip origin version copies quiet states) notes refl (right session))
  marks_of_chip last b (Torn chip number event cut fairness ∷ notes) right =
      skip_mark (chip == k) (Torn chip number event cut fairness) b (of_chip (last_after partitions last (Torn chip number event cut fairness)) notes) (λ xs. refl)
      ∙ marks_of_chip (last_after partitions last (Torn chip number event cut fairness)) b notes (λ session. right_after session (Torn chip number event cut fairness) notes refl (right session))

  pub chip_marks : (b : ℕ) (notes : List Note) → ((session : ℕ) → Alternate (exchanges_of session notes)) → marks_in partitions k b (of_chip (λ s. None) notes) ≡ marks_in partitions k b notes
  chip_marks b notes paired = marks_of_chip (λ s. None) b notes (λ session. between (paired session))

  -- each operation begun in these notes is on the chip, and fills its page
  abbrev pub Own : Geometry → List Note → Type 0
  Own g [] = ⊤
  Own g (Began s op ∷ notes) = (chip_of partitions (device_of op) ≡ Some k) × WritesAPage g op × Own g notes
  Own g (_ ∷ notes) = Own g notes

  -- ---- the operations of a chip's life
  pub mark_named : (op : Op) (b : ℕ) → is_mark_of partitions k b op ≡ true → block_marked partitions op ≡ Some b
  mark_named (Read dev page) b h = absurd (false≢true h)
  mark_named (Write dev page body free) b h = absurd (false≢true h)
  mark_named (RawRead dev page) b h = absurd (false≢true h)
  mark_named (RawWrite dev page image) b h = absurd (false≢true h)
  mark_named (Erase dev block) b h = absurd (false≢true h)
  mark_named (IsBad dev block) b h = absurd (false≢true h)
  mark_named (Stats dev) b h = absurd (false≢true h)
  mark_named (Mark dev block) b h = on (part_of partitions dev) h
    where
      on : (part : Option Part) → is_block_of part block k b ≡ true → block_in part block ≡ Some b
      on None h = absurd (false≢true h)
      on (Some part) h =
          let p = and_parts (part.chip == k && nat_lt block part.count) (part.start + block == b) h in
          let q = and_parts (part.chip == k) (nat_lt block part.count) p.0 in
          ap (λ t. if t then Some (part.start + block) else None) q.1 ∙ ap (λ x. Some x) (eqb-true (part.start + block) b p.1)

  pub named_mark : (op : Op) (b : ℕ) → block_marked partitions op ≡ Some b → chip_of partitions (device_of op) ≡ Some k → is_mark_of partitions k b op ≡ true
  named_mark (Read dev page) b h c = absurd (none-some b h)
  named_mark (Write dev page body free) b h c = absurd (none-some b h)
  named_mark (RawRead dev page) b h c = absurd (none-some b h)
  named_mark (RawWrite dev page image) b h c = absurd (none-some b h)
  named_mark (Erase dev block) b h c = absurd (none-some b h)
  named_mark (IsBad dev block) b h c = absurd (none-some b h)
  named_mark (Stats dev) b h c = absurd (none-some b h)
  named_mark (Mark dev block) b h c = on (part_of partitions dev) h c
    where
      inside : (t : Bool) (x : ℕ) → (if t then Some x else None) ≡ Some b → (t ≡ true) × (x ≡ b)
      inside true x h = (refl, same_Some x b h)
      inside false x h = absurd (none-some b h)

      on : (part : Option Part) → block_in part block ≡ Some b → chip_of_part part ≡ Some k → is_block_of part block k b ≡ true
      on None h c = absurd (none-some b h)
      on (Some part) h c =
          let r = inside (nat_lt block part.count) (part.start + block) h in
          ap₂ (λ x y. x && y) (ap₂ (λ x y. x && y) (eq-eqb part.chip k (same_Some part.chip k c)) r.0) (eq-eqb (part.start + block) b r.1)
