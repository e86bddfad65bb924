-- What becomes of an attach and of a mark of a chip with tables.
use Rattle.std.proofs.Common.{◌≡◌, ◌≢◌, ◌⊎◌, ◌<◌, ◌≤◌, ℕ, zero, suc, ◌-◌, Bool, true, false, not, ◌||◌, ◌==◌, nat_le, List, [], ◌∷◌, refl, ap, sym, ◌∙◌, arith, Option, Some, None, inl, inr, subst, slice_index, bit_or}
use Rattle.std.proofs.lemmas.Bool.{false≢true, eqb-true, leb-true}
use Rattle.std.proofs.lemmas.Bool.Decides.{eqb_tells}
use Rattle.std.proofs.lemmas.Option.{none-some}
use Rattle.nand_model.specs.Chip.{ChipState, FaultModel, ChipEvent, PageEvent, Complete, PowerCut, Flipped, ReadEvent, EraseEvent, ProgramEvent, happens, after_trace}
use Rattle.nand_model.specs.Table.{written_code, state_read, table_blocks, calls_bad, read_again}
use Rattle.chip_paths.specs.Attach.{Attaching, attach_path}
use Rattle.chip_paths.specs.ChipRun.{known_at_first}
use Rattle.chip_paths.specs.Operation.{Known, Finished, answer, entry_of, mark_path, mark_block}
use Rattle.nand_model.specs.Path.{Path, Over, Then, answers_of, GoesAlong, is_uncut, after_answers, next_event, first_event, result_of, either}
use Rattle.nand_model.specs.declared.geometry.Geometry.{Geometry}
use Rattle.nand_model.specs.declared.words.Reply.{Reply}
use Rattle.nand_model.specs.declared.words.Reply.TheVariants.{Done, Reserved, Copies}
use Rattle.chip_paths.specs.Writing.{other_of}
use Rattle.relocation_laws.specs.Shelves.{Held, Shelf, IsOlder, Newest, HoldsBoth}
use Rattle.page_laws.specs.Keeping.{IsIn, IsFairEvent, IsQuietEvent, EachStep}
use Rattle.relocation_laws.specs.Tables.{IsTable, IsTableBlock, Shows}
use Rattle.relocation_laws.specs.Keeping.{BlockFails}
use Rattle.run_model.specs.History.{outcome_if}
use Rattle.relocation_laws.specs.Life.{is_begun, FailsIn, TableBlockFails}
use Rattle.relocation_laws.proofs.AttachSafe.{alive_law, attach-alive}
use Rattle.relocation_laws.proofs.Goes.{Setting, AtRest, Holding, Alive, Comes, holding-turned, resting, alive-still}
use Rattle.relocation_laws.proofs.MarkSafe.{mark-safe, laws}
use Rattle.relocation_laws.proofs.Marking.{IsMarked, both-shows, shows-fewer}
use Rattle.relocation_laws.proofs.MarkerTables.{AreFactoryBad}
use Rattle.relocation_laws.proofs.Safety.{Safety, Safe, SafeAfter, goes_on, was_cut, safe-trace, safe-moment, safe-result, turned}
use Rattle.relocation_laws.proofs.Tables.{reserved_at}

-- what is read of an entry
read-entry : (x : ℕ) → (state_read (written_code x) ≡ 0) ⊎ ((state_read (written_code x) ≡ 1) ⊎ (state_read (written_code x) ≡ 3))
read-entry x = on (eqb_tells x 1) (eqb_tells x 3)
  where
    on : ((x == 1) ≡ true) × (x ≡ 1) ⊎ (((x == 1) ≡ false) × (x ≢ 1)) → ((x == 3) ≡ true) × (x ≡ 3) ⊎ (((x == 3) ≡ false) × (x ≢ 3))
        → (state_read (written_code x) ≡ 0) ⊎ ((state_read (written_code x) ≡ 1) ⊎ (state_read (written_code x) ≡ 3))
    on (inl t) u = inr (inl (rw t.0 refl))
    on (inr t) (inl u) = inr (inr (rw (t.0, u.0) refl))
    on (inr t) (inr u) = inl (rw (t.0, u.0) refl)

head-is : (x y : ℕ) (xs ys : List ℕ) → x ∷ xs ≡ y ∷ ys → x ≡ y
head-is x y xs ys e = cc

tail-is : (x y : ℕ) (xs ys : List ℕ) → x ∷ xs ≡ y ∷ ys → xs ≡ ys
tail-is x y xs ys e = cc

abbrev Entry : List ℕ → ℕ → Type 0
Entry table b = (slice_index table b ≡ 0) ⊎ ((slice_index table b ≡ 2) ⊎ (calls_bad table b ≡ true))

-- each entry of a table in memory is 0, or 2, or calls the block bad
entries : (n : ℕ) (table : List ℕ) (b : ℕ) → reserved_at n (read_again table) ≡ table → Entry table b
entries n [] b e = inl refl
entries zero (x ∷ xs) zero e = on (read-entry x)
  where
    first : bit_or (state_read (written_code x)) 2 ≡ x
    first = head-is _ _ _ _ e

    on : (state_read (written_code x) ≡ 0) ⊎ ((state_read (written_code x) ≡ 1) ⊎ (state_read (written_code x) ≡ 3)) → Entry (x ∷ xs) 0
    on (inl r) = inr (inl (sym first ∙ ap (λ s. bit_or s 2) r))
    on (inr (inl r)) = inr (inr (ap (λ y. calls_bad (y ∷ xs) 0) (sym first ∙ ap (λ s. bit_or s 2) r)))
    on (inr (inr r)) = inr (inr (ap (λ y. calls_bad (y ∷ xs) 0) (sym first ∙ ap (λ s. bit_or s 2) r)))
entries zero (x ∷ xs) (suc b) e = entries zero xs b (tail-is _ _ _ _ e)
entries (suc n) (x ∷ xs) zero e = on (read-entry x)
  where
    first : state_read (written_code x) ≡ x
    first = head-is _ _ _ _ e

    on : (state_read (written_code x) ≡ 0) ⊎ ((state_read (written_code x) ≡ 1) ⊎ (state_read (written_code x) ≡ 3)) → Entry (x ∷ xs) 0
    on (inl r) = inl (sym first ∙ r)
    on (inr (inl r)) = inr (inr (ap (λ y. calls_bad (y ∷ xs) 0) (sym first ∙ r)))
    on (inr (inr r)) = inr (inr (ap (λ y. calls_bad (y ∷ xs) 0) (sym first ∙ r)))
entries (suc n) (x ∷ xs) (suc b) e = entries n xs b (tail-is _ _ _ _ e)

abbrev is_done : Reply → Bool
is_done Done = true
is_done _ = false

done-is : (r : Reply) → is_done r ≡ true → r ≡ Done
done-is Done e = refl
done-is r e = other r e
  where
    other : (r : Reply) → is_done r ≡ true → r ≡ Done
    other Done e = refl
    other _ e = absurd (false≢true e)

pub dec-done : (r : Reply) → (r ≡ Done) ⊎ (r ≡ Done → ⊥)
dec-done r = on (is_done r) refl
  where
    on : (t : Bool) → is_done r ≡ t → (r ≡ Done) ⊎ (r ≡ Done → ⊥)
    on true e = inl (done-is r e)
    on false e = inr (λ d. false≢true (sym e ∙ ap is_done d))

-- what is so of each step is so together
each-and : {W : Type 0} (model : FaultModel W) (P Q : ChipState W → ChipEvent → Type 0) (s : ChipState W) (trace : List ChipEvent)
    → EachStep model P s trace → EachStep model Q s trace → EachStep model (λ s e. P s e × Q s e) s trace
each-and model P Q s [] p q = tt
each-and model P Q s (e ∷ trace) p q = ((p.0, q.0), each-and model P Q (happens model s e) trace p.1 q.1)

each-map : {W : Type 0} (model : FaultModel W) (P Q : ChipState W → ChipEvent → Type 0) (s : ChipState W) (trace : List ChipEvent)
    → ((s : ChipState W) (e : ChipEvent) → P s e → Q s e) → EachStep model P s trace → EachStep model Q s trace
each-map model P Q s [] f p = tt
each-map model P Q s (e ∷ trace) f p = (f s e p.0, each-map model P Q (happens model s e) trace f p.1)

-- the blocks that fail in a trace are those that its events make fail
each-fails : {W : Type 0} (model : FaultModel W) (g : Geometry) (P : ℕ → Type 0) (s : ChipState W) (trace : List ChipEvent) → ((b : ℕ) → FailsIn model g s trace b → P b)
    → EachStep model (BlockFails model (λ b. IsIn (table_blocks g) b × P b) g) s trace
each-fails model g P s [] h = tt
each-fails model g P s (Complete (ReadEvent page) ∷ trace) h = (tt, each-fails model g P (happens model s (Complete (ReadEvent page))) trace h)
each-fails model g P s (Complete (EraseEvent x) ∷ trace) h = ((λ bad inside. (inside, h x (inl (bad, refl)))), each-fails model g P (happens model s (Complete (EraseEvent x))) trace (λ b k. h b (inr k)))
each-fails model g P s (Complete (ProgramEvent page image) ∷ trace) h = ((λ bad b e inside. (inside, h b (inl (bad, e)))), each-fails model g P (happens model s (Complete (ProgramEvent page image))) trace (λ b k. h b (inr k)))
each-fails model g P s (PowerCut e done ∷ trace) h = (tt, each-fails model g P (happens model s (PowerCut e done)) trace h)
each-fails model g P s (Flipped page bit ∷ trace) h = (tt, each-fails model g P (happens model s (Flipped page bit)) trace h)

-- a safe path stays safe for a weaker result
weaker : {W A : Type 0} (model : FaultModel W) (granted : ChipState W → ChipEvent → Type 0) (moment : Path A → ChipState W → Type 0) (ended : ChipState W → Type 0) (R S : A → ChipState W → Type 0) → ((a : A) (s : ChipState W) → R a s → S a s)
    → (path : Path A) (s : ChipState W) → Safe (record { model = model; granted = granted; moment = moment; ended = ended; result = R }) path s → Safe (record { model = model; granted = granted; moment = moment; ended = ended; result = S }) path s
weaker model granted moment ended R S f (Over a) s h = λ flips. ((h flips).0, f a _ (h flips).1)
weaker model granted moment ended R S f (Then e rest) s h = λ flips. ((h flips).0, (h flips).1, λ grant. weaker model granted moment ended R S f (rest _) _ ((h flips).2 grant))

module _ {W : Type 0} (model : FaultModel W) (g : Geometry) (c : Setting g) (enough : 4 ≤ g.blocks) (F : ℕ → Type 0) (factory : AreFactoryBad g c.is_good F)
    (p q : ℕ) (in_p : IsTableBlock g c.is_good p) (in_q : IsTableBlock g c.is_good q) (apart : p ≢ q) where
  abbrev TB : ℕ → Type 0
  TB = IsTableBlock g c.is_good

  -- nothing was acknowledged
  abbrev None_ : (ℕ → Type 0) → Type 0
  None_ A = (b : ℕ) → A b → ⊥

  -- the chip is alive, with tables that show these blocks
  abbrev pub Lives : (A B : ℕ → Type 0) → ChipState W → Type 0
  Lives A B s = Alive g c (Shows g F A B) (None_ A) None s

  -- and before its next event, if one comes, another block holds a copy that is found
  abbrev pub LivesBefore : (A B : ℕ → Type 0) → Option PageEvent → ChipState W → Type 0
  LivesBefore A B next s = Alive g c (Shows g F A B) (None_ A) next s

  pub newest-fewer : (Good Good1 : List ℕ → Type 0) → ((t : List ℕ) → Good t → Good1 t) → (h : Shelf) → Newest TB (IsTable g) Good h → Newest TB (IsTable g) Good1 h
  newest-fewer Good Good1 f h j =
      record {
        place = j.place;
        copy = j.copy;
        at = j.at;
        own = j.own;
        shows = f j.copy.table j.shows;
        second = j.second;
        spare = j.spare;
        spare_inside = j.spare_inside;
        spare_apart = j.spare_apart;
        spare_free = j.spare_free;
        beneath = λ b k e. let z = j.beneath b k e in record { inside = z.inside; version = z.version; form = z.form; covered = z.covered };
        others = λ b k e n. on b k (j.others b k e n);
      }
    where
      on : (b : ℕ) (k : Held) → (calls_bad j.copy.table b ≡ true) ⊎ ((b ≡ j.second) × (k.which ≡ other_of j.copy.which) × IsOlder 3 k j.copy × Good k.table)
          → (calls_bad j.copy.table b ≡ true) ⊎ ((b ≡ j.second) × (k.which ≡ other_of j.copy.which) × IsOlder 3 k j.copy × Good1 k.table)
      on b k (inl z) = inl z
      on b k (inr z) = inr (z.0, z.1, z.2, f k.table z.3)

  pub rests-fewer : (A B A1 B1 : ℕ → Type 0) → ((b : ℕ) → A1 b → A b) → ((b : ℕ) → B b → B1 b) → (h : Shelf) → AtRest g c (Shows g F A B) (None_ A) h → AtRest g c (Shows g F A1 B1) (None_ A1) h
  rests-fewer A B A1 B1 fewer more h (inl e) = inl (e.0, λ b a. e.1 b (fewer b a))
  rests-fewer A B A1 B1 fewer more h (inr j) = inr (newest-fewer (Shows g F A B) (Shows g F A1 B1) (λ t z. shows-fewer g enough c.is_good F A B A1 B1 t fewer more z) h j)

  pub holding-as : (A B A1 B1 : ℕ → Type 0) (h : Shelf) (s : ChipState W) → Holding g c (Shows g F A B) (None_ A) h None s → Holding g c (Shows g F A1 B1) (None_ A1) h None s
  holding-as A B A1 B1 h s z = record { geometry = z.geometry; stands = z.stands; is_fresh = z.is_fresh }

  pub lives-before-fewer : (A B A1 B1 : ℕ → Type 0) → ((b : ℕ) → A1 b → A b) → ((b : ℕ) → B b → B1 b) → (next : Option PageEvent) (s : ChipState W) → LivesBefore A B next s → LivesBefore A1 B1 next s
  lives-before-fewer A B A1 B1 fewer more next s z =
      record { holds = z.holds; holding = holding-as A B A1 B1 z.holds s z.holding; rests = rests-fewer A B A1 B1 fewer more z.holds z.rests; aside = z.aside }

  pub lives-fewer : (A B A1 B1 : ℕ → Type 0) → ((b : ℕ) → A1 b → A b) → ((b : ℕ) → B b → B1 b) → (s : ChipState W) → Lives A B s → Lives A1 B1 s
  lives-fewer A B A1 B1 fewer more s z = lives-before-fewer A B A1 B1 fewer more None s z

  -- what is known of the chip: two whole copies hold the table in memory
  pub record Remembers (A B : ℕ → Type 0) (k : Known) (s : ChipState W) : Type 0 where
    pub holds : Shelf
    pub holding : Holding g c (Shows g F A B) (None_ A) holds None s
    pub rests : AtRest g c (Shows g F A B) (None_ A) holds
    pub both : 2 ≤ k.copies → HoldsBoth TB (IsTable g) (Shows g F A B) (None_ A) k.table k.version k.places holds
    pub form : IsTable g k.table
    pub shows : Shows g F A B k.table

  pub both-as : (A B A1 B1 : ℕ → Type 0) (k : Known) (h : Shelf) → Shows g F A1 B1 k.table → HoldsBoth TB (IsTable g) (Shows g F A B) (None_ A) k.table k.version k.places h → HoldsBoth TB (IsTable g) (Shows g F A1 B1) (None_ A1) k.table k.version k.places h
  both-as A B A1 B1 k h shows z = both-shows g enough c.is_good F (Shows g F A B) (Shows g F A1 B1) (None_ A) (None_ A1) k.table k.version k.places h shows z

  pub remembers-fewer : (A B A1 B1 : ℕ → Type 0) → ((b : ℕ) → A1 b → A b) → ((b : ℕ) → B b → B1 b) → (k : Known) (s : ChipState W) → Remembers A B k s → Remembers A1 B1 k s
  remembers-fewer A B A1 B1 fewer more k s z =
      record {
        holds = z.holds;
        holding = holding-as A B A1 B1 z.holds s z.holding;
        rests = rests-fewer A B A1 B1 fewer more z.holds z.rests;
        both = λ two. both-as A B A1 B1 k z.holds (shows-fewer g enough c.is_good F A B A1 B1 k.table fewer more z.shows) (z.both two);
        form = z.form;
        shows = shows-fewer g enough c.is_good F A B A1 B1 k.table fewer more z.shows;
      }

  -- what an attach along this trace came to
  abbrev pub attach_end_of : ChipState W → List ChipEvent → Option Attaching
  attach_end_of s trace = outcome_if (is_uncut trace) (result_of (after_answers (answers_of model s trace) (attach_path g)))

  -- what became of an attach
  pub record AttachEnd (A B : ℕ → Type 0) (t : ChipState W) (outcome : Option Attaching) : Type 0 where
    pub lives : Lives A B t
    pub shown : (a : Attaching) → outcome ≡ Some a → Shows g F A B a.table × Remembers A B (known_at_first a) t

  uncut-has : (t : Bool) (r : Option Attaching) → t ≡ true → outcome_if t r ≡ r
  uncut-has true r e = refl
  uncut-has false r e = absurd (false≢true e)

  cut-has-none : (t : Bool) (r : Option Attaching) (a : Attaching) → t ≡ false → outcome_if t r ≡ Some a → ⊥
  cut-has-none true r a e f = false≢true (sym e)
  cut-has-none false r a e f = none-some a f

  pub attach-end : (A B : ℕ → Type 0) (s : ChipState W) (trace : List ChipEvent) → Lives A B s → GoesAlong model (next_event (attach_path g)) s [] trace
      → EachStep model (λ s e. IsFairEvent model s e × IsQuietEvent s e) s trace → AttachEnd A (λ d. B d ⊎ TableBlockFails model g s trace d) (after_trace model s trace) (attach_end_of s trace)
  attach-end A B s trace alive along granted = on (safe-trace the_law (attach_path g) trace s [] along grants (attach-alive model g c enough F factory p q in_p in_q apart A B1 Fails (λ b f. inr f) s (lives-fewer A B A B1 (λ b a. a) (λ b z. inl z) s alive)))
    where
      Fails : ℕ → Type 0
      Fails b = TableBlockFails model g s trace b

      B1 : ℕ → Type 0
      B1 b = B b ⊎ TableBlockFails model g s trace b

      the_law : Safety W Attaching
      the_law = alive_law model g c enough F factory p q in_p in_q apart A B1 Fails (λ b f. inr f)

      grants : EachStep model the_law.granted s trace
      grants = each-map model (λ s e. (IsFairEvent model s e × IsQuietEvent s e) × BlockFails model Fails g s e) the_law.granted s trace (λ s e z. (z.0.0, z.0.1, z.1))
          (each-and model (λ s e. IsFairEvent model s e × IsQuietEvent s e) (BlockFails model Fails g) s trace granted (each-fails model g (FailsIn model g s trace) s trace (λ b k. k)))

      told : (a : Attaching) (t : ChipState W) → the_law.result a t → Shows g F A B1 a.table × Remembers A B1 (known_at_first a) t
      told a t r = (r.ends.shows, record { holds = r.holds; holding = r.holding; rests = r.ends.rests; both = r.ends.both; form = r.ends.form; shows = r.ends.shows })

      on : SafeAfter the_law (attach_path g) s [] trace → AttachEnd A B1 (after_trace model s trace) (attach_end_of s trace)
      on (was_cut u m) = record { lives = m; shown = λ a e. absurd (cut-has-none (is_uncut trace) _ a u e) }
      on (goes_on u safe) = record {
        lives = resting g c (Shows g F A B1) (None_ A) (first_event (after_answers (answers_of model s trace) (attach_path g))) (after_trace model s trace)
            (safe-moment the_law (after_answers (answers_of model s trace) (attach_path g)) (after_trace model s trace) safe);
        shown = λ a e. told a (after_trace model s trace) (safe-result the_law (after_answers (answers_of model s trace) (attach_path g)) (after_trace model s trace) a (sym (uncut-has (is_uncut trace) _ u) ∙ e) safe);
      }

  -- a mark of a block, with what is known before it
  module _ (A B : ℕ → Type 0) (k : Known) (s : ChipState W) (block : ℕ) (Fails_ : ℕ → Type 0) (r : Remembers A B k s) where
    -- the mark is not refused
    abbrev pub Proceeds : Type 0
    Proceeds = ((entry_of k block == 2) ≡ false) × (nat_le 2 k.copies ≡ true)

    abbrev pub Then_ : ℕ → Type 0
    Then_ b = B b ⊎ (((block ≡ b) × Proceeds) ⊎ Fails_ b)

    pub record OpEnds (f : Finished) (t : ChipState W) : Type 0 where
      pub remembers : Remembers A Then_ f.known t
      pub counts : Proceeds → is_begun f.reply ≡ true
      pub done : f.reply ≡ Done → (2 ≤ f.known.copies) × (block < g.blocks → calls_bad f.known.table block ≡ true)

    abbrev pub Granted : ChipState W → ChipEvent → Type 0
    Granted t e = IsFairEvent model t e × BlockFails model Fails_ g t e

    abbrev pub op_law : Safety W Finished
    op_law = record { model = model; granted = Granted; moment = λ path t. LivesBefore A Then_ (first_event path) t; ended = Lives A Then_; result = OpEnds }

    remembers-then : Remembers A Then_ k s
    remembers-then = remembers-fewer A B A Then_ (λ b a. a) (λ b z. inl z) k s r

    remembers-turned : (t : ChipState W) (flips : List (ℕ × ℕ)) → Remembers A Then_ k t → Remembers A Then_ k (turned model t flips)
    remembers-turned t flips z = record { holds = z.holds; holding = holding-turned g c (Shows g F A Then_) (None_ A) model z.holds None t flips z.holding; rests = z.rests; both = z.both; form = z.form; shows = z.shows }

    over-safe : (reply : Reply) → (Proceeds → is_begun reply ≡ true) → (reply ≡ Done → (2 ≤ k.copies) × (block < g.blocks → calls_bad k.table block ≡ true)) → Safe op_law (answer k reply) s
    over-safe reply counts done = λ flips.
        let z = remembers-turned s flips remembers-then in
        (alive-still g c (Shows g F A Then_) (None_ A) z.holds (turned model s flips) z.holding z.rests, record { remembers = z; counts = counts; done = done })

    two-copies : nat_le 2 k.copies ≡ true → 2 ≤ k.copies
    two-copies e = leb-true 2 k.copies e

    outside : 2 ≤ k.copies → slice_index k.table block ≡ 0 → IsIn (table_blocks g) block → ⊥
    outside two zero_ i = on ((remembers-then.both two).writable.form.reserved block i)
      where
        on : (slice_index k.table block ≡ 2) ⊎ (slice_index k.table block ≡ 3) → ⊥
        on (inl e) = absurd (omega (arith, e, zero_))
        on (inr e) = absurd (omega (arith, e, zero_))

    full-mark : Proceeds → slice_index k.table block ≡ 0 → Safe op_law (mark_path g k block) s
    full-mark go zero_ =
        weaker model Granted (λ path t. LivesBefore A Then_ (first_event path) t) (Lives A Then_)
        (Comes g c (Shows g F A Then_) (None_ A) (IsMarked g enough c.is_good F A Then_ Fails_ (None_ A) block out (inr (inl (refl, go))) (laws model g c enough F factory A Then_ Fails_ (λ b f. inr (inr f)) (None_ A) block out (inr (inl (refl, go)))))) OpEnds
        (λ a t z. record {
          remembers = record { holds = z.holds; holding = z.holding; rests = z.ends.rests; both = z.ends.both; form = z.ends.form; shows = z.ends.shows };
          counts = λ u. z.ends.counts;
          done = z.ends.done;
        }) (mark_path g k block) s
        (mark-safe model g c enough F factory A Then_ Fails_ (λ b f. inr (inr f)) (None_ A) block out (inr (inl (refl, go))) k remembers-then.holds s zero_ (remembers-then.both (two-copies go.1)) remembers-then.holding)
      where
        out : IsIn (table_blocks g) block → ⊥
        out = outside (two-copies go.1) zero_

    bad-entry : 2 ≤ k.copies → (entry_of k block == 2) ≡ false → (entry_of k block == 0) ≡ false → calls_bad k.table block ≡ true
    bad-entry two a b = on (entries (g.blocks - 4) k.table block (remembers-then.both two).writable.form.back)
      where
        on : (slice_index k.table block ≡ 0) ⊎ ((slice_index k.table block ≡ 2) ⊎ (calls_bad k.table block ≡ true)) → calls_bad k.table block ≡ true
        on (inl e) = absurd (false≢true (sym b ∙ ap (λ x. x == 0) e))
        on (inr (inl e)) = absurd (false≢true (sym a ∙ ap (λ x. x == 2) e))
        on (inr (inr e)) = e

    abbrev path_by : Bool → Bool → Bool → Path Finished
    path_by reserved two free =
        either (not reserved) (λ u. either two (λ u. either free (λ u. mark_path g k block) (λ u. answer k Done)) (λ u. answer k (Copies k.copies))) (λ u. answer k Reserved)

    by-free : (free : Bool) → (entry_of k block == 0) ≡ free → Proceeds → Safe op_law (path_by false true free) s
    by-free true e go = full-mark go (eqb-true (slice_index k.table block) 0 e)
    by-free false e go = over-safe Done (λ u. refl) (λ d. (two-copies go.1, λ small. bad-entry (two-copies go.1) go.0 e))

    by-two : (two free : Bool) → nat_le 2 k.copies ≡ two → (entry_of k block == 0) ≡ free → (entry_of k block == 2) ≡ false → Safe op_law (path_by false two free) s
    by-two true free e f a = by-free free f (a, e)
    by-two false free e f a = over-safe (Copies k.copies) (λ go. absurd (false≢true (sym e ∙ go.1))) (λ d. absurd (cc))

    by-reserved : (reserved two free : Bool) → (entry_of k block == 2) ≡ reserved → nat_le 2 k.copies ≡ two → (entry_of k block == 0) ≡ free → Safe op_law (path_by reserved two free) s
    by-reserved true two free a e f = over-safe Reserved (λ go. absurd (false≢true (sym go.0 ∙ a))) (λ d. absurd (cc))
    by-reserved false two free a e f = by-two two free e f a

    -- a mark of any block is safe
    pub op-safe : Safe op_law (mark_block g k block) s
    op-safe = subst (λ t. Safe op_law (path_by (entry_of k block == 2) (not t || nat_le 2 k.copies) (entry_of k block == 0)) s) (sym c.tables) (by-reserved (entry_of k block == 2) (nat_le 2 k.copies) (entry_of k block == 0) refl refl refl)

  -- a mark along a trace
  module _ (A B : ℕ → Type 0) (k : Known) (s : ChipState W) (block : ℕ) (trace : List ChipEvent) (r : Remembers A B k s) where
    abbrev In : ℕ → Type 0
    In b = TableBlockFails model g s trace b

    abbrev the_op_law : Safety W Finished
    the_op_law = op_law A B k s block In r

    grants : EachStep model (IsFairEvent model) s trace → EachStep model the_op_law.granted s trace
    grants fair = each-and model (IsFairEvent model) (BlockFails model In g) s trace fair (each-fails model g (FailsIn model g s trace) s trace (λ b f. f))

    -- a mark that was not answered
    pub unanswered : GoesAlong model (next_event (mark_block g k block)) s [] trace → EachStep model (IsFairEvent model) s trace → Lives A (Then_ A B k s block In r) (after_trace model s trace)
    unanswered along fair = on (safe-trace the_op_law (mark_block g k block) trace s [] along (grants fair) (op-safe A B k s block In r))
      where
        on : SafeAfter the_op_law (mark_block g k block) s [] trace → Lives A (Then_ A B k s block In r) (after_trace model s trace)
        on (goes_on u safe) =
            resting g c (Shows g F A (Then_ A B k s block In r)) (None_ A) (first_event (after_answers (answers_of model s trace) (mark_block g k block))) (after_trace model s trace)
            (safe-moment the_op_law (after_answers (answers_of model s trace) (mark_block g k block)) (after_trace model s trace) safe)
        on (was_cut u m) = m

    -- a mark that was
    pub answered : (reply : Reply) (after : Known) → GoesAlong model (next_event (mark_block g k block)) s [] trace → is_uncut trace ≡ true
        → result_of (after_answers (answers_of model s trace) (mark_block g k block)) ≡ Some (record { reply = reply; known = after }) → EachStep model (IsFairEvent model) s trace
        → OpEnds A B k s block In r (record { reply = reply; known = after }) (after_trace model s trace)
    answered reply after along uncut over fair = on (safe-trace the_op_law (mark_block g k block) trace s [] along (grants fair) (op-safe A B k s block In r))
      where
        on : SafeAfter the_op_law (mark_block g k block) s [] trace → OpEnds A B k s block In r (record { reply = reply; known = after }) (after_trace model s trace)
        on (goes_on u safe) = safe-result the_op_law (after_answers (answers_of model s trace) (mark_block g k block)) (after_trace model s trace) (record { reply = reply; known = after }) over safe
        on (was_cut u m) = absurd (false≢true (sym u ∙ uncut))
