-- The reads among what a session asked for and was answered.
use Rattle.std.proofs.Common.{◌≡◌, ◌⊎◌, inl, inr, ℕ, ◌+◌, ◌*◌, Bool, true, false, List, [], ◌∷◌, ◌++◌, refl, ap, sym, ◌∙◌, subst, arith, append_assoc, append-nil}
use Rattle.std.specs.Prelude.{sum_by, count_by, flat_map, ◌==◌, if◌then◌else◌}
use Rattle.std.proofs.lemmas.Bool.{cases_eq, eq-eqb, ne_eqb}
use Rattle.std.proofs.lemmas.List.Sums.{sum_by-append, sum_by-cons}
use Rattle.nand_model.specs.declared.words.Note.{Note}
use Rattle.nand_model.specs.declared.words.Note.TheVariants.{Began, Answered}
use Rattle.nand_model.specs.declared.words.Op.{Op}
use Rattle.nand_model.specs.declared.words.Op.TheVariants.{Read, Write, RawRead, RawWrite, Erase, IsBad, Mark, Stats}
use Rattle.nand_model.specs.declared.words.PageRead.{PageRead}
use Rattle.nand_model.specs.declared.words.Reply.{Reply}
use Rattle.nand_model.specs.declared.words.Reply.TheVariants.{Done, OutOfRange, BadBlock, MarkerByte, ProgramFailed, EraseFailed, MarkerFailed, TableFailed, Reserved, Copies, State, Counts, Page}
use Rattle.command_model.specs.Session.{Alternate, Asked, Exchange, Replied, exchanges_of}
use Rattle.command_model.specs.Reads.{read_counts, reads_of}
use Rattle.run_laws.proofs.ChipNotes.{exchanges-append}
use Rattle.statistics_laws.specs.Counts.{page_read, reads_in}

none_either_way : (b : Bool) → ◌≡◌ {A = List PageRead} [] (if b then [] else [])
none_either_way true = refl
none_either_way false = refl

-- a reply without a page adds nothing
no_page : (dev : ℕ) (op : Op) (reply : Reply) → [] ≡ page_read reply → [] ≡ reads_in dev op reply
no_page dev (Read d page) reply e = none_either_way (d == dev) ∙ ap (λ rs. if d == dev then rs else []) e
no_page dev (RawRead d page) reply e = refl
no_page dev (Write d page body free) reply e = refl
no_page dev (RawWrite d page image) reply e = refl
no_page dev (Erase d block) reply e = refl
no_page dev (IsBad d block) reply e = refl
no_page dev (Mark d block) reply e = refl
no_page dev (Stats d) reply e = refl

-- an operation with its reply
pub pair_counts : (dev : ℕ) (op : Op) (reply : Reply) (rest : List Exchange)
    → read_counts dev (Asked op ∷ Replied reply ∷ rest) ≡ reads_in dev op reply ++ read_counts dev rest
pair_counts dev (Read d page) (Page kind read image) rest = refl
pair_counts dev (RawRead d page) (Page kind read image) rest = refl
pair_counts dev (Write d page body free) (Page kind read image) rest = refl
pair_counts dev (RawWrite d page written) (Page kind read image) rest = refl
pair_counts dev (Erase d block) (Page kind read image) rest = refl
pair_counts dev (IsBad d block) (Page kind read image) rest = refl
pair_counts dev (Mark d block) (Page kind read image) rest = refl
pair_counts dev (Stats d) (Page kind read image) rest = refl
pair_counts dev op Done rest = ap (λ rs. rs ++ read_counts dev rest) (no_page dev op Done refl)
pair_counts dev op OutOfRange rest = ap (λ rs. rs ++ read_counts dev rest) (no_page dev op OutOfRange refl)
pair_counts dev op BadBlock rest = ap (λ rs. rs ++ read_counts dev rest) (no_page dev op BadBlock refl)
pair_counts dev op MarkerByte rest = ap (λ rs. rs ++ read_counts dev rest) (no_page dev op MarkerByte refl)
pair_counts dev op ProgramFailed rest = ap (λ rs. rs ++ read_counts dev rest) (no_page dev op ProgramFailed refl)
pair_counts dev op EraseFailed rest = ap (λ rs. rs ++ read_counts dev rest) (no_page dev op EraseFailed refl)
pair_counts dev op MarkerFailed rest = ap (λ rs. rs ++ read_counts dev rest) (no_page dev op MarkerFailed refl)
pair_counts dev op (TableFailed which) rest = ap (λ rs. rs ++ read_counts dev rest) (no_page dev op (TableFailed which) refl)
pair_counts dev op Reserved rest = ap (λ rs. rs ++ read_counts dev rest) (no_page dev op Reserved refl)
pair_counts dev op (Copies n) rest = ap (λ rs. rs ++ read_counts dev rest) (no_page dev op (Copies n) refl)
pair_counts dev op (State n) rest = ap (λ rs. rs ++ read_counts dev rest) (no_page dev op (State n) refl)
pair_counts dev op (Counts a b c) rest = ap (λ rs. rs ++ read_counts dev rest) (no_page dev op (Counts a b c) refl)

-- an operation that was only asked for adds nothing
pub asked_counts : (dev : ℕ) (xs : List Exchange) (op : Op) → read_counts dev (xs ++ Asked op ∷ []) ≡ read_counts dev xs
asked_counts dev [] op = refl
asked_counts dev (Asked a ∷ []) op = refl
asked_counts dev (Asked a ∷ Replied reply ∷ rest) op =
    pair_counts dev a reply (rest ++ Asked op ∷ []) ∙ ap (λ rs. reads_in dev a reply ++ rs) (asked_counts dev rest op) ∙ sym (pair_counts dev a reply rest)
asked_counts dev (Asked a ∷ Asked b ∷ rest) op = asked_counts dev (Asked b ∷ rest) op
asked_counts dev (Replied reply ∷ rest) op = asked_counts dev rest op

-- an operation that is answered adds its read
pub answered_counts : (dev : ℕ) (past : List Exchange) (op : Op) (reply : Reply) → Alternate (past ++ Asked op ∷ [])
    → read_counts dev (past ++ Asked op ∷ Replied reply ∷ []) ≡ read_counts dev past ++ reads_in dev op reply
answered_counts dev [] op reply h = pair_counts dev op reply [] ∙ append-nil (reads_in dev op reply)
answered_counts dev (Asked a ∷ []) op reply h = absurd h
answered_counts dev (Asked a ∷ Replied r ∷ rest) op reply h =
    pair_counts dev a r (rest ++ Asked op ∷ Replied reply ∷ []) ∙ ap (λ rs. reads_in dev a r ++ rs) (answered_counts dev rest op reply h)
    ∙ sym (append_assoc (reads_in dev a r) (read_counts dev rest) (reads_in dev op reply)) ∙ ap (λ rs. rs ++ reads_in dev op reply) (sym (pair_counts dev a r rest))
answered_counts dev (Asked a ∷ Asked b ∷ rest) op reply h = absurd h
answered_counts dev (Replied r ∷ rest) op reply h = absurd h

-- sums over several sessions
sum-flat : {A B : Type 0} (m : B → ℕ) (f : A → List B) (xs : List A) → sum_by m (flat_map f xs) ≡ sum_by (λ x. sum_by m (f x)) xs
sum-flat m f [] = refl
sum-flat m f (x ∷ xs) =
    sum_by-append m (f x) (flat_map f xs) ∙ ap (λ n. sum_by m (f x) + n) (sum-flat m f xs) ∙ sym (sum_by-cons (λ x. sum_by m (f x)) x xs)

sum-same : (f g : ℕ → ℕ) (xs : List ℕ) → ((x : ℕ) → f x ≡ g x) → sum_by f xs ≡ sum_by g xs
sum-same f g [] h = refl
sum-same f g (x ∷ xs) h = omega (arith, sum_by-cons f x xs, sum_by-cons g x xs, h x, sum-same f g xs h)

-- one of them has more
sum-more : (f g : ℕ → ℕ) (session more : ℕ) (xs : List ℕ) → ((x : ℕ) → (x ≡ session → ⊥) → f x ≡ g x) → f session ≡ g session + more
    → sum_by f xs ≡ sum_by g xs + more * count_by (λ x. x == session) xs
sum-more f g session more [] other own = omega arith
sum-more f g session more (x ∷ xs) other own = by_case (sum-more f g session more xs other own) (cases_eq x session)
  where
    counted : count_by (λ x. x == session) (x ∷ xs) ≡ (if x == session then 1 else 0) + count_by (λ x. x == session) xs
    counted = sum_by-cons (λ x. if x == session then 1 else 0) x xs

    by_case : sum_by f xs ≡ sum_by g xs + more * count_by (λ x. x == session) xs → (x ≡ session) ⊎ (x ≡ session → ⊥) → sum_by f (x ∷ xs) ≡ sum_by g (x ∷ xs) + more * count_by (λ x. x == session) (x ∷ xs)
    by_case rest (inl same) =
        let one : count_by (λ x. x == session) (x ∷ xs) ≡ 1 + count_by (λ x. x == session) xs =
        counted ∙ ap (λ b. (if b then 1 else 0) + count_by (λ x. x == session) xs) (eq-eqb x session same) in
        let here : f x ≡ g x + more = subst (λ y. f y ≡ g y + more) (sym same) own in
        let product : more * count_by (λ x. x == session) (x ∷ xs) ≡ more + more * count_by (λ x. x == session) xs = ap (λ n. more * n) one ∙ (grind arith) in
        omega (arith, sum_by-cons f x xs, sum_by-cons g x xs, here, rest, product)
    by_case rest (inr differ) =
        let none : count_by (λ x. x == session) (x ∷ xs) ≡ count_by (λ x. x == session) xs =
        counted ∙ ap (λ b. (if b then 1 else 0) + count_by (λ x. x == session) xs) (ne_eqb x session differ) ∙ (omega arith) in
        let product : more * count_by (λ x. x == session) (x ∷ xs) ≡ more * count_by (λ x. x == session) xs = ap (λ n. more * n) none in
        omega (arith, sum_by-cons f x xs, sum_by-cons g x xs, other x differ, rest, product)

module _ (m : PageRead → ℕ) (dev : ℕ) (numbers : List ℕ) where
  -- what the reads of a device add up to
  abbrev pub total : List Note → ℕ
  total notes = sum_by m (reads_of dev numbers notes)

  abbrev of_session : List Note → ℕ → ℕ
  of_session notes session = sum_by m (read_counts dev (exchanges_of session notes))

  -- notes of no session add nothing
  pub total_silent : (notes new : List Note) → ((session : ℕ) → exchanges_of session new ≡ []) → total (notes ++ new) ≡ total notes
  total_silent notes new silent =
      sum-flat m (λ s. read_counts dev (exchanges_of s (notes ++ new))) numbers
      ∙ sum-same (of_session (notes ++ new)) (of_session notes) numbers
      (λ s. ap (λ xs. sum_by m (read_counts dev xs)) (exchanges-append s notes new ∙ ap (λ xs. exchanges_of s notes ++ xs) (silent s) ∙ append-nil (exchanges_of s notes)))
      ∙ sym (sum-flat m (λ s. read_counts dev (exchanges_of s notes)) numbers)

  -- an operation that begins adds nothing
  pub total_begun : (notes : List Note) (session : ℕ) (op : Op) → total (notes ++ Began session op ∷ []) ≡ total notes
  total_begun notes session op =
      sum-flat m (λ s. read_counts dev (exchanges_of s (notes ++ Began session op ∷ []))) numbers
      ∙ sum-same (of_session (notes ++ Began session op ∷ [])) (of_session notes) numbers each
      ∙ sym (sum-flat m (λ s. read_counts dev (exchanges_of s notes)) numbers)
    where
      by_own : (s : ℕ) (b : Bool) → read_counts dev (exchanges_of s notes ++ ((if b then Asked op ∷ [] else []) ++ [])) ≡ read_counts dev (exchanges_of s notes)
      by_own s true = asked_counts dev (exchanges_of s notes) op
      by_own s false = ap (read_counts dev) (append-nil (exchanges_of s notes))

      each : (s : ℕ) → of_session (notes ++ Began session op ∷ []) s ≡ of_session notes s
      each s = ap (sum_by m) (ap (read_counts dev) (exchanges-append s notes (Began session op ∷ [])) ∙ by_own s (session == s))

  -- an answer adds its read, where its session stands once among the numbers
  pub total_answered : (notes : List Note) (session : ℕ) (op : Op) (reply : Reply) (past : List Exchange) → exchanges_of session notes ≡ past ++ Asked op ∷ []
      → Alternate (past ++ Asked op ∷ []) → count_by (λ n. n == session) numbers ≡ 1
      → total (notes ++ Answered session reply ∷ []) ≡ total notes + sum_by m (reads_in dev op reply)
  total_answered notes session op reply past are alternate once =
      sum-flat m (λ s. read_counts dev (exchanges_of s (notes ++ Answered session reply ∷ []))) numbers
      ∙ sum-more (of_session (notes ++ Answered session reply ∷ [])) (of_session notes) session (sum_by m (reads_in dev op reply)) numbers others own
      ∙ ap (λ n. sum_by (of_session notes) numbers + sum_by m (reads_in dev op reply) * n) once
      ∙ (omega (arith, sum-flat m (λ s. read_counts dev (exchanges_of s notes)) numbers))
    where
      more : ℕ → Bool → List Exchange
      more s b = exchanges_of s notes ++ ((if b then Replied reply ∷ [] else []) ++ [])

      others : (s : ℕ) → (s ≡ session → ⊥) → of_session (notes ++ Answered session reply ∷ []) s ≡ of_session notes s
      others s differ =
          ap (λ xs. sum_by m (read_counts dev xs)) (exchanges-append s notes (Answered session reply ∷ [])
          ∙ ap (more s) (ne_eqb session s (λ e. differ (sym e))) ∙ append-nil (exchanges_of s notes))

      own : of_session (notes ++ Answered session reply ∷ []) session ≡ of_session notes session + sum_by m (reads_in dev op reply)
      own =
          ap (λ xs. sum_by m (read_counts dev xs)) (exchanges-append session notes (Answered session reply ∷ []) ∙ ap (more session) (eq-eqb session session refl)
          ∙ ap (λ xs. xs ++ Replied reply ∷ []) are ∙ append_assoc past (Asked op ∷ []) (Replied reply ∷ []))
          ∙ ap (sum_by m) (answered_counts dev past op reply alternate) ∙ sum_by-append m (read_counts dev past) (reads_in dev op reply)
          ∙ ap (λ n. n + sum_by m (reads_in dev op reply))
          (ap (sum_by m) (sym (ap (read_counts dev) are ∙ asked_counts dev past op)))
