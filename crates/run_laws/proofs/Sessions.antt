-- What each session has asked and been answered so far, and which of its operations is pending.
use Rattle.std.proofs.Common.{◌≡◌, ◌⊎◌, inl, inr, ℕ, Bool, true, false, List, [], ◌∷◌, ◌++◌, length, ◌+◌, Option, Some, None, refl, ap, sym, ◌∙◌, subst, append_assoc, append-nil, cond, arith}
use Rattle.std.specs.Prelude.{find, ◌==◌, if◌then◌else◌, Contains}
use Rattle.std.proofs.lemmas.Bool.{eq-eqb, ne_eqb, cases_eq, eqb-true, cond-true, cond-false}
use Rattle.std.proofs.lemmas.Option.{none-some, same_Some, some_pair_parts}
use Rattle.std.proofs.lemmas.List.{length_push}
use Rattle.nand_model.specs.declared.geometry.Geometry.{Geometry}
use Rattle.nand_model.specs.declared.words.Note.{Note}
use Rattle.nand_model.specs.declared.words.Note.TheVariants.{Began, Answered}
use Rattle.nand_model.specs.declared.words.Op.{Op}
use Rattle.nand_model.specs.declared.words.Reply.{Reply}
use Rattle.nand_model.specs.declared.words.Command.{Command}
use Rattle.nand_model.specs.declared.words.Outcome.{Outcome}
use Rattle.command_model.specs.Command.{Next, Do, Over, next_step}
use Rattle.nand_model.specs.Partitions.{Partitions, device_of, chip_of}
use Rattle.command_model.specs.Session.{SessionRun, without_finished, with_reply, replied, next_op_of, Exchange, Asked, Replied, exchanges_of, FollowsCommands, session_after, Alternate}
use Rattle.run_model.specs.Run.{HaveOneNumberEach}
use Rattle.run_model.specs.History.{LastChips}
use Rattle.run_laws.proofs.ChipNotes.{lasts, lasts-append, exchanges-append}

-- an operation that was not answered yet
abbrev pub asked : Option Op → List Exchange
asked None = []
asked (Some op) = Asked op ∷ []

abbrev pub nowhere : LastChips
nowhere s = None

-- a session's state in the course, and how it belongs to what it has exchanged
pub record IsFollowed (sizes : Command → Geometry) (n : ℕ) (commands : List Command) (past : List Exchange) (open_op : Option Op) (sessions : List SessionRun) : Type 0 where
  pub run : SessionRun
  pub found : find (λ (t : SessionRun). t.number == n) sessions ≡ Some run
  pub follows : (more : List Exchange) → FollowsCommands sizes run more → FollowsCommands sizes (without_finished sizes n commands [] []) (past ++ more)
  pub after : (more : List Exchange) → session_after sizes (without_finished sizes n commands [] []) (past ++ more) ≡ session_after sizes run more
  pub next : (op : Op) → open_op ≡ Some op → next_op_of sizes run.commands run.replies ≡ Some op

-- one session, by which session has which operation pending on each chip
pub record SessionLaw (partitions : Partitions) (sizes : Command → Geometry) (begun : List (ℕ × List Command)) (n : ℕ) (asked_at : ℕ → Option (ℕ × Op)) (sessions : List SessionRun) (notes : List Note) : Type 0 where
  pub open_op : Option Op
  pub past : List Exchange
  pub are : exchanges_of n notes ≡ past ++ asked open_op
  pub alternate : (more : List Exchange) → Alternate more → Alternate (past ++ more)
  pub from : (k : ℕ) (op : Op) → asked_at k ≡ Some (n, op) → (lasts partitions nowhere notes n ≡ Some k) × (open_op ≡ Some op)
  pub to : (op : Op) → open_op ≡ Some op → (k : ℕ) × (asked_at k ≡ Some (n, op))
  pub follow : (commands : List Command) → HaveOneNumberEach begun → Contains begun (n, commands) → IsFollowed sizes n commands past open_op sessions
  pub not_own : ((commands : List Command) → Contains begun (n, commands) → ⊥) → exchanges_of n notes ≡ []
  pub asker : (op : Op) → open_op ≡ Some op → (s : SessionRun) × (find (λ (t : SessionRun). t.number == n) sessions ≡ Some s)
  pub is_own : (s : SessionRun) → find (λ (t : SessionRun). t.number == n) sessions ≡ Some s → (commands : List Command) × Contains begun (n, commands)

pub number_stays : (sizes : Command → Geometry) (number : ℕ) (commands : List Command) (replies : List Reply) (outcomes : List Outcome) → (without_finished sizes number commands replies outcomes).number ≡ number
number_stays sizes number [] replies outcomes = refl
number_stays sizes number (command ∷ commands) replies outcomes = by_next (next_step (sizes command) command replies) refl (λ outs. number_stays sizes number commands [] outs)
  where
    by_next : (x : Next) → next_step (sizes command) command replies ≡ x → ((outs : List Outcome) → (without_finished sizes number commands [] outs).number ≡ number)
        → (without_finished sizes number (command ∷ commands) replies outcomes).number ≡ number
    by_next (Do op) e h = rw e refl
    by_next (Over outcome) e h = rw e (h (outcomes ++ outcome ∷ []))

found_after : (sizes : Command → Geometry) (n : ℕ) (reply : Reply) (sessions : List SessionRun) (s : SessionRun)
    → find (λ (t : SessionRun). t.number == n) sessions ≡ Some s → find (λ (t : SessionRun). t.number == n) (replied sizes n reply sessions) ≡ Some (with_reply sizes reply s)
found_after sizes n reply [] s h = absurd (none-some s h)
found_after sizes n reply (t ∷ sessions) s h = by_test (t.number == n) refl (found_after sizes n reply sessions s)
  where
    by_test : (b : Bool) → (t.number == n) ≡ b
        → (find (λ (u : SessionRun). u.number == n) sessions ≡ Some s → find (λ (u : SessionRun). u.number == n) (replied sizes n reply sessions) ≡ Some (with_reply sizes reply s))
        → find (λ (u : SessionRun). u.number == n) (replied sizes n reply (t ∷ sessions)) ≡ Some (with_reply sizes reply s)
    by_test true e ih =
        let same : t ≡ s = same_Some t s (sym (cond-true _ _ _ e) ∙ h) in
        ap (λ b. cond ((if b then with_reply sizes reply t else t).number == n) (Some (if b then with_reply sizes reply t else t)) (find (λ (u : SessionRun). u.number == n) (replied sizes n reply sessions))) e
        ∙ cond-true _ _ _ (eq-eqb _ _ (number_stays sizes t.number t.commands (t.replies ++ reply ∷ []) t.outcomes ∙ eqb-true _ _ e))
        ∙ ap (λ u. Some (with_reply sizes reply u)) same
    by_test false e ih =
        ap (λ b. cond ((if b then with_reply sizes reply t else t).number == n) (Some (if b then with_reply sizes reply t else t)) (find (λ (u : SessionRun). u.number == n) (replied sizes n reply sessions))) e
        ∙ cond-false _ _ _ e ∙ ih (sym (cond-false _ _ _ e) ∙ h)

found_beside : (sizes : Command → Geometry) (m n : ℕ) (reply : Reply) (sessions : List SessionRun) → (m ≡ n → ⊥)
    → find (λ (t : SessionRun). t.number == n) (replied sizes m reply sessions) ≡ find (λ (t : SessionRun). t.number == n) sessions
found_beside sizes m n reply [] d = refl
found_beside sizes m n reply (t ∷ sessions) d = by_test (t.number == m) refl (found_beside sizes m n reply sessions d)
  where
    by_test : (b : Bool) → (t.number == m) ≡ b
        → find (λ (u : SessionRun). u.number == n) (replied sizes m reply sessions) ≡ find (λ (u : SessionRun). u.number == n) sessions
        → find (λ (u : SessionRun). u.number == n) (replied sizes m reply (t ∷ sessions)) ≡ find (λ (u : SessionRun). u.number == n) (t ∷ sessions)
    by_test true e ih =
        let at : t.number ≡ m = eqb-true _ _ e in
        ap (λ b. cond ((if b then with_reply sizes reply t else t).number == n) (Some (if b then with_reply sizes reply t else t)) (find (λ (u : SessionRun). u.number == n) (replied sizes m reply sessions))) e
        ∙ cond-false _ _ _ (ne_eqb _ _ (λ h. d (sym at ∙ sym (number_stays sizes t.number t.commands (t.replies ++ reply ∷ []) t.outcomes) ∙ h)))
        ∙ ih ∙ sym (cond-false _ _ _ (ne_eqb _ _ (λ h. d (sym at ∙ h))))
    by_test false e ih =
        ap (λ b. cond ((if b then with_reply sizes reply t else t).number == n) (Some (if b then with_reply sizes reply t else t)) (find (λ (u : SessionRun). u.number == n) (replied sizes m reply sessions))) e
        ∙ ap (λ o. cond (t.number == n) (Some t) o) ih

-- a reply leaves the numbers of the sessions as they are
found_before : (sizes : Command → Geometry) (m n : ℕ) (reply : Reply) (sessions : List SessionRun) (s : SessionRun)
    → find (λ (t : SessionRun). t.number == n) (replied sizes m reply sessions) ≡ Some s → (t : SessionRun) × (find (λ (t : SessionRun). t.number == n) sessions ≡ Some t)
found_before sizes m n reply [] s h = absurd (none-some s h)
found_before sizes m n reply (t ∷ sessions) s h = by_reply (t.number == m) (λ e. found_before sizes m n reply sessions s e) h
  where
    rest : Option SessionRun
    rest = find (λ (v : SessionRun). v.number == n) (replied sizes m reply sessions)

    Before : Type 0
    Before = (v : SessionRun) × (find (λ (w : SessionRun). w.number == n) sessions ≡ Some v)

    by_test : (b : Bool) (u : SessionRun) → (rest ≡ Some s → Before) → cond b (Some u) rest ≡ Some s
        → (v : SessionRun) × (cond b (Some t) (find (λ (w : SessionRun). w.number == n) sessions) ≡ Some v)
    by_test true u later e = (t, refl)
    by_test false u later e = later e

    by_number : (u : SessionRun) → u.number ≡ t.number → (rest ≡ Some s → Before) → cond (u.number == n) (Some u) rest ≡ Some s
        → (v : SessionRun) × (cond (t.number == n) (Some t) (find (λ (w : SessionRun). w.number == n) sessions) ≡ Some v)
    by_number u same later g = by_test (t.number == n) u later (sym (ap (λ z. cond (z == n) (Some u) rest) same) ∙ g)

    by_reply : (b : Bool) → (rest ≡ Some s → Before) → cond ((if b then with_reply sizes reply t else t).number == n) (Some (if b then with_reply sizes reply t else t)) rest ≡ Some s
        → (v : SessionRun) × (cond (t.number == n) (Some t) (find (λ (w : SessionRun). w.number == n) sessions) ≡ Some v)
    by_reply true later g = by_number (with_reply sizes reply t) (number_stays sizes t.number t.commands (t.replies ++ reply ∷ []) t.outcomes) later g
    by_reply false later g = by_number t refl later g

not_empty : {A : Type 0} (xs : List A) (x : A) → xs ++ x ∷ [] ≡ [] → ⊥
not_empty xs x e = let l : length xs + 1 ≡ 0 = sym (length_push xs x) ∙ ap length e in omega (arith, l)

none_open : (o : Option Op) → ((op : Op) → o ≡ Some op → ⊥) → o ≡ None
none_open None h = refl
none_open (Some op) h = absurd (h op refl)

last_began_here : (partitions : Partitions) (n : ℕ) (op : Op) (notes : List Note) → lasts partitions nowhere (notes ++ Began n op ∷ []) n ≡ chip_of partitions (device_of op)
last_began_here partitions n op notes = ap (λ (l : LastChips). l n) (lasts-append partitions nowhere notes (Began n op ∷ []))
    ∙ ap (λ b. if b then chip_of partitions (device_of op) else lasts partitions nowhere notes n) (eq-eqb n n refl)

last_began_beside : (partitions : Partitions) (n m : ℕ) (op : Op) (notes : List Note) → (m ≡ n → ⊥) → lasts partitions nowhere (notes ++ Began m op ∷ []) n ≡ lasts partitions nowhere notes n
last_began_beside partitions n m op notes d = ap (λ (l : LastChips). l n) (lasts-append partitions nowhere notes (Began m op ∷ []))
    ∙ ap (λ b. if b then chip_of partitions (device_of op) else lasts partitions nowhere notes n) (ne_eqb n m (λ e. d (sym e)))

last_answered : (partitions : Partitions) (n m : ℕ) (reply : Reply) (notes : List Note) → lasts partitions nowhere (notes ++ Answered m reply ∷ []) n ≡ lasts partitions nowhere notes n
last_answered partitions n m reply notes = ap (λ (l : LastChips). l n) (lasts-append partitions nowhere notes (Answered m reply ∷ []))

module _ (partitions : Partitions) (sizes : Command → Geometry) (begun : List (ℕ × List Command)) where
  -- notes that are of no session
  pub session_stays : (n : ℕ) (asked_at : ℕ → Option (ℕ × Op)) (sessions : List SessionRun) (notes new : List Note)
      → SessionLaw partitions sizes begun n asked_at sessions notes → exchanges_of n new ≡ [] → ((last : LastChips) → lasts partitions last new ≡ last)
      → SessionLaw partitions sizes begun n asked_at sessions (notes ++ new)
  session_stays n asked_at sessions notes new a e l = record {
    open_op = a.open_op;
    past = a.past;
    are = exchanges-append n notes new ∙ ap (λ zs. exchanges_of n notes ++ zs) e ∙ append-nil _ ∙ a.are;
    alternate = a.alternate;
    from = λ k op h. (ap (λ t. t n) (lasts-append partitions nowhere notes new ∙ l _) ∙ (a.from k op h).0, (a.from k op h).1);
    to = a.to;
    follow = a.follow;
    not_own = λ none. exchanges-append n notes new ∙ ap (λ zs. exchanges_of n notes ++ zs) e ∙ append-nil _ ∙ a.not_own none;
    asker = a.asker;
    is_own = a.is_own;
  }

  -- session m begins an operation on chip k
  begin_here : (n k : ℕ) (op : Op) (asked_at asked_then : ℕ → Option (ℕ × Op)) (sessions : List SessionRun) (notes : List Note)
      → SessionLaw partitions sizes begun n asked_at sessions notes
      → asked_then k ≡ Some (n, op) → ((j : ℕ) → (k ≡ j → ⊥) → asked_then j ≡ asked_at j)
      → chip_of partitions (device_of op) ≡ Some k
      → ((j : ℕ) (other : Op) → asked_at j ≡ Some (n, other) → ⊥)
      → (asker : SessionRun) → find (λ (t : SessionRun). t.number == n) sessions ≡ Some asker → next_op_of sizes asker.commands asker.replies ≡ Some op
      → SessionLaw partitions sizes begun n asked_then sessions (notes ++ Began n op ∷ [])
  begin_here n k op asked_at asked_then sessions notes a now others at free asker found next = record {
    open_op = Some op;
    past = a.past;
    are = exchanges-append n notes (Began n op ∷ []) ∙ ap (λ b. exchanges_of n notes ++ ((if b then Asked op ∷ [] else []) ++ [])) (eq-eqb n n refl)
        ∙ ap (λ zs. zs ++ Asked op ∷ []) (a.are ∙ ap (λ o. a.past ++ asked o) (none_open a.open_op (λ o e. let t = a.to o e in free t.0 o t.1)) ∙ append-nil _);
    alternate = a.alternate;
    from = λ j other h. from_here j other h (cases_eq k j);
    to = λ other h. (k, now ∙ ap (λ o. Some (n, o)) (same_Some op other h));
    follow = λ commands u h. let f = a.follow commands u h in record {
      run = f.run;
      found = f.found;
      follows = f.follows;
      after = f.after;
      next = λ other g. ap (λ (s : SessionRun). next_op_of sizes s.commands s.replies) (same_Some f.run asker (sym f.found ∙ found)) ∙ next ∙ g;
    };
    not_own = λ none. let own = a.is_own asker found in absurd (none own.0 own.1);
    asker = λ other h. (asker, found);
    is_own = a.is_own;
  }
    where
      from_here : (j : ℕ) (other : Op) → asked_then j ≡ Some (n, other) → (k ≡ j) ⊎ (k ≡ j → ⊥) → (lasts partitions nowhere (notes ++ Began n op ∷ []) n ≡ Some j) × (Some op ≡ Some other)
      from_here j other h (inl e) = (last_began_here partitions n op notes ∙ at ∙ ap (λ z. Some z) e, ap (λ z. Some z) (some_pair_parts n n op other (sym now ∙ ap asked_then e ∙ h)).1)
      from_here j other h (inr d) = absurd (free j other (sym (others j d) ∙ h))

  begin_beside : (n m k : ℕ) (op : Op) (asked_at asked_then : ℕ → Option (ℕ × Op)) (sessions : List SessionRun) (notes : List Note)
      → (m ≡ n → ⊥)
      → SessionLaw partitions sizes begun n asked_at sessions notes
      → asked_at k ≡ None → asked_then k ≡ Some (m, op) → ((j : ℕ) → (k ≡ j → ⊥) → asked_then j ≡ asked_at j)
      → SessionLaw partitions sizes begun n asked_then sessions (notes ++ Began m op ∷ [])
  begin_beside n m k op asked_at asked_then sessions notes d a was now others = record {
    open_op = a.open_op;
    past = a.past;
    are = exchanges-append n notes (Began m op ∷ []) ∙ ap (λ b. exchanges_of n notes ++ ((if b then Asked op ∷ [] else []) ++ [])) (ne_eqb m n d) ∙ append-nil _ ∙ a.are;
    alternate = a.alternate;
    from = λ j other h. from_here j other h (cases_eq k j);
    to = λ other h. let t = a.to other h in (t.0, others t.0 (λ e. none-some _ (sym was ∙ ap asked_at e ∙ t.1)) ∙ t.1);
    follow = a.follow;
    not_own = λ none. exchanges-append n notes (Began m op ∷ []) ∙ ap (λ b. exchanges_of n notes ++ ((if b then Asked op ∷ [] else []) ++ [])) (ne_eqb m n d) ∙ append-nil _ ∙ a.not_own none;
    asker = a.asker;
    is_own = a.is_own;
  }
    where
      from_here : (j : ℕ) (other : Op) → asked_then j ≡ Some (n, other) → (k ≡ j) ⊎ (k ≡ j → ⊥) → (lasts partitions nowhere (notes ++ Began m op ∷ []) n ≡ Some j) × (a.open_op ≡ Some other)
      from_here j other h (inl e) = absurd (d (some_pair_parts m n op other (sym now ∙ ap asked_then e ∙ h)).0)
      from_here j other h (inr x) = let f = a.from j other (sym (others j x) ∙ h) in (last_began_beside partitions n m op notes d ∙ f.0, f.1)

  -- session m is answered on chip k
  answer_here : (n k : ℕ) (op : Op) (reply : Reply) (asked_at asked_then : ℕ → Option (ℕ × Op)) (sessions : List SessionRun) (notes : List Note)
      → SessionLaw partitions sizes begun n asked_at sessions notes
      → asked_at k ≡ Some (n, op) → asked_then k ≡ None → ((j : ℕ) → (k ≡ j → ⊥) → asked_then j ≡ asked_at j)
      → SessionLaw partitions sizes begun n asked_then (replied sizes n reply sessions) (notes ++ Answered n reply ∷ [])
  answer_here n k op reply asked_at asked_then sessions notes a was now others = record {
    open_op = None;
    past = a.past ++ Asked op ∷ Replied reply ∷ [];
    are = exchanges-append n notes (Answered n reply ∷ []) ∙ ap (λ b. exchanges_of n notes ++ ((if b then Replied reply ∷ [] else []) ++ [])) (eq-eqb n n refl)
        ∙ ap (λ zs. zs ++ Replied reply ∷ []) (a.are ∙ ap (λ o. a.past ++ asked o) (a.from k op was).1) ∙ append_assoc a.past _ _ ∙ sym (append-nil _);
    alternate = λ more h. subst Alternate (sym (append_assoc a.past _ more)) (a.alternate (Asked op ∷ Replied reply ∷ more) h);
    from = λ j other h. absurd (from_here j other h (cases_eq k j));
    to = λ other h. absurd (none-some other h);
    follow = λ commands u h. let f = a.follow commands u h in record {
      run = with_reply sizes reply f.run;
      found = found_after sizes n reply sessions f.run f.found;
      follows = λ more g. subst (FollowsCommands sizes (without_finished sizes n commands [] [])) (sym (append_assoc a.past _ more)) (f.follows (Asked op ∷ Replied reply ∷ more) (f.next op (a.from k op was).1, g));
      after = λ more. ap (session_after sizes (without_finished sizes n commands [] [])) (append_assoc a.past _ more) ∙ f.after (Asked op ∷ Replied reply ∷ more);
      next = λ other g. absurd (none-some other g);
    };
    not_own = λ none. absurd (not_empty a.past (Asked op) (sym (a.are ∙ ap (λ o. a.past ++ asked o) (a.from k op was).1) ∙ a.not_own none));
    asker = λ other h. absurd (none-some other h);
    is_own = λ s h. let t = found_before sizes n n reply sessions s h in a.is_own t.0 t.1;
  }
    where
      from_here : (j : ℕ) (other : Op) → asked_then j ≡ Some (n, other) → (k ≡ j) ⊎ (k ≡ j → ⊥) → ⊥
      from_here j other h (inl e) = none-some _ (sym now ∙ ap asked_then e ∙ h)
      from_here j other h (inr x) = x (same_Some k j (sym (a.from k op was).0 ∙ (a.from j other (sym (others j x) ∙ h)).0))

  answer_beside : (n m k : ℕ) (op : Op) (reply : Reply) (asked_at asked_then : ℕ → Option (ℕ × Op)) (sessions : List SessionRun) (notes : List Note)
      → (m ≡ n → ⊥)
      → SessionLaw partitions sizes begun n asked_at sessions notes
      → asked_at k ≡ Some (m, op) → asked_then k ≡ None → ((j : ℕ) → (k ≡ j → ⊥) → asked_then j ≡ asked_at j)
      → SessionLaw partitions sizes begun n asked_then (replied sizes m reply sessions) (notes ++ Answered m reply ∷ [])
  answer_beside n m k op reply asked_at asked_then sessions notes d a was now others = record {
    open_op = a.open_op;
    past = a.past;
    are = exchanges-append n notes (Answered m reply ∷ []) ∙ ap (λ b. exchanges_of n notes ++ ((if b then Replied reply ∷ [] else []) ++ [])) (ne_eqb m n d) ∙ append-nil _ ∙ a.are;
    alternate = a.alternate;
    from = λ j other h. from_here j other h (cases_eq k j);
    to = λ other h. let t = a.to other h in (t.0, others t.0 (λ e. d (some_pair_parts m n op other (sym was ∙ ap asked_at e ∙ t.1)).0) ∙ t.1);
    follow = λ commands u h. let f = a.follow commands u h in record { run = f.run; found = found_beside sizes m n reply sessions d ∙ f.found; follows = f.follows; after = f.after; next = f.next };
    not_own = λ none. exchanges-append n notes (Answered m reply ∷ []) ∙ ap (λ b. exchanges_of n notes ++ ((if b then Replied reply ∷ [] else []) ++ [])) (ne_eqb m n d) ∙ append-nil _ ∙ a.not_own none;
    asker = λ other h. let s = a.asker other h in (s.0, found_beside sizes m n reply sessions d ∙ s.1);
    is_own = λ s h. let t = found_before sizes m n reply sessions s h in a.is_own t.0 t.1;
  }
    where
      from_here : (j : ℕ) (other : Op) → asked_then j ≡ Some (n, other) → (k ≡ j) ⊎ (k ≡ j → ⊥) → (lasts partitions nowhere (notes ++ Answered m reply ∷ []) n ≡ Some j) × (a.open_op ≡ Some other)
      from_here j other h (inl e) = absurd (none-some _ (sym now ∙ ap asked_then e ∙ h))
      from_here j other h (inr x) = let f = a.from j other (sym (others j x) ∙ h) in (last_answered partitions n m reply notes ∙ f.0, f.1)

  -- session m begins an operation on chip k, which is free
  pub session_begins : (n m k : ℕ) (op : Op) (asked_at asked_then : ℕ → Option (ℕ × Op)) (sessions : List SessionRun) (notes : List Note)
      → SessionLaw partitions sizes begun n asked_at sessions notes
      → asked_at k ≡ None → asked_then k ≡ Some (m, op) → ((j : ℕ) → (k ≡ j → ⊥) → asked_then j ≡ asked_at j)
      → chip_of partitions (device_of op) ≡ Some k
      → ((j : ℕ) (other : Op) → asked_at j ≡ Some (m, other) → ⊥)
      → (asker : SessionRun) → find (λ (t : SessionRun). t.number == m) sessions ≡ Some asker → next_op_of sizes asker.commands asker.replies ≡ Some op
      → SessionLaw partitions sizes begun n asked_then sessions (notes ++ Began m op ∷ [])
  session_begins n m k op asked_at asked_then sessions notes a was now others at free asker found next = by_case (cases_eq m n)
    where
      by_case : (m ≡ n) ⊎ (m ≡ n → ⊥) → SessionLaw partitions sizes begun n asked_then sessions (notes ++ Began m op ∷ [])
      by_case (inl e) = subst (λ z. SessionLaw partitions sizes begun z asked_then sessions (notes ++ Began m op ∷ [])) e
          (begin_here m k op asked_at asked_then sessions notes (subst (λ z. SessionLaw partitions sizes begun z asked_at sessions notes) (sym e) a) now others at free asker found next)
      by_case (inr d) = begin_beside n m k op asked_at asked_then sessions notes d a was now others

  -- session m is answered on chip k
  pub session_answered : (n m k : ℕ) (op : Op) (reply : Reply) (asked_at asked_then : ℕ → Option (ℕ × Op)) (sessions : List SessionRun) (notes : List Note)
      → SessionLaw partitions sizes begun n asked_at sessions notes
      → asked_at k ≡ Some (m, op) → asked_then k ≡ None → ((j : ℕ) → (k ≡ j → ⊥) → asked_then j ≡ asked_at j)
      → SessionLaw partitions sizes begun n asked_then (replied sizes m reply sessions) (notes ++ Answered m reply ∷ [])
  session_answered n m k op reply asked_at asked_then sessions notes a was now others = by_case (cases_eq m n)
    where
      by_case : (m ≡ n) ⊎ (m ≡ n → ⊥) → SessionLaw partitions sizes begun n asked_then (replied sizes m reply sessions) (notes ++ Answered m reply ∷ [])
      by_case (inl e) = subst (λ z. SessionLaw partitions sizes begun z asked_then (replied sizes m reply sessions) (notes ++ Answered m reply ∷ [])) e
          (answer_here m k op reply asked_at asked_then sessions notes (subst (λ z. SessionLaw partitions sizes begun z asked_at sessions notes) (sym e) a) was now others)
      by_case (inr d) = answer_beside n m k op reply asked_at asked_then sessions notes d a was now others
