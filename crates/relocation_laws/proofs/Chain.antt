-- What becomes of each operation of a chip with tables, by its trace and its reply.
use Rattle.std.proofs.Common.{◌≡◌, ◌≢◌, ◌⊎◌, ◌<◌, ◌≤◌, ℕ, true, false, ◌==◌, nat_le, List, [], ◌∷◌, refl, ap, sym, ◌∙◌, Option, Some, None, inl, inr, subst}
use Rattle.std.specs.Prelude.{⊤}
use Rattle.std.proofs.lemmas.Bool.{false≢true}
use Rattle.std.proofs.lemmas.Option.{none-some, same_Some}
use Rattle.nand_model.specs.Chip.{ChipState, FaultModel, ChipEvent, happens, after_trace}
use Rattle.nand_model.specs.Partitions.{Partitions, part_of, device_of}
use Rattle.chip_paths.specs.Operation.{Known, Finished, operation_path, entry_of, mark_block}
use Rattle.nand_model.specs.Path.{Path, answers_of, GoesAlong, is_uncut, after_answers, next_event, first_event, result_of}
use Rattle.nand_model.specs.declared.geometry.Geometry.{Geometry}
use Rattle.nand_model.specs.declared.words.Reply.{Reply}
use Rattle.nand_model.specs.declared.words.Reply.TheVariants.{Done}
use Rattle.nand_model.specs.Table.{calls_bad}
use Rattle.relocation_laws.specs.Shelves.{HoldsBoth}
use Rattle.relocation_laws.specs.Tables.{IsTable, IsTableBlock, Shows}
use Rattle.page_laws.specs.Keeping.{IsFairEvent, EachStep}
use Rattle.run_model.specs.Marking.{begins}
use Rattle.run_model.specs.History.{known_then}
use Rattle.relocation_laws.specs.Life.{block_marked, NowAcked, NowBegun, TableBlockFails}
use Rattle.relocation_laws.proofs.Lives.{dec-done, Lives, holding-as, lives-fewer, remembers-fewer, both-as, Remembers, OpEnds, unanswered, answered}
use Rattle.relocation_laws.proofs.Operations.{plain_alive, route-alive}
use Rattle.nand_model.specs.declared.words.Op.{Op}
use Rattle.relocation_laws.proofs.Goes.{Setting, Holding, resting}
use Rattle.relocation_laws.proofs.MarkerTables.{AreFactoryBad}
use Rattle.relocation_laws.proofs.Safety.{Safety, Safe, SafeAfter, goes_on, was_cut, safe-trace, safe-moment, safe-result}
use Rattle.relocation_laws.proofs.Starting.{both-rest}
use Rattle.run_model.specs.Survival.{WritesAPage}

module _ {W : Type 0} (model : FaultModel W) (g : Geometry) (c : Setting g) (enough : 4 ≤ g.blocks) (F : ℕ → Type 0) (factory : AreFactoryBad g c.is_good F)
    (p q : ℕ) (in_p : IsTableBlock g c.is_good p) (in_q : IsTableBlock g c.is_good q) (apart : p ≢ q) where
  abbrev TB : ℕ → Type 0
  TB = IsTableBlock g c.is_good

  abbrev None_ : (ℕ → Type 0) → Type 0
  None_ A = (b : ℕ) → A b → ⊥

  abbrev Alive_ : (A B : ℕ → Type 0) → ChipState W → Type 0
  Alive_ A B s = Lives model g c enough F factory p q in_p in_q apart A B s

  abbrev Memory : (A B : ℕ → Type 0) → Known → ChipState W → Type 0
  Memory A B k s = Remembers model g c enough F factory p q in_p in_q apart A B k s

  -- what a mark leaves behind, by its reply
  abbrev Acked1 : (ℕ → Type 0) → ℕ → Option Reply → ℕ → Type 0
  Acked1 A block reply b = A b ⊎ ((block ≡ b) × (reply ≡ Some Done))

  abbrev Begun1 : (ℕ → Type 0) → ChipState W → ℕ → List ChipEvent → Option Reply → ℕ → Type 0
  Begun1 B s block trace reply b = B b ⊎ (((block ≡ b) × (begins reply ≡ true)) ⊎ TableBlockFails model g s trace b)

  after-answer : (A B : ℕ → Type 0) (k after : Known) (s t : ChipState W) (block : ℕ) (trace : List ChipEvent) (r : Memory A B k s) (reply : Reply)
      → OpEnds model g c enough F factory p q in_p in_q apart A B k s block (λ b. TableBlockFails model g s trace b) r (record { reply = reply; known = after }) t → Memory (Acked1 A block (Some reply)) (Begun1 B s block trace (Some reply)) after t
  after-answer A B k after s t block trace r reply z = on (dec-done reply)
    where
      A1 : ℕ → Type 0
      A1 = Acked1 A block (Some reply)

      B1 : ℕ → Type 0
      B1 = Begun1 B s block trace (Some reply)

      B0 : ℕ → Type 0
      B0 b = B b ⊎ (((block ≡ b) × (((entry_of k block == 2) ≡ false) × (nat_le 2 k.copies ≡ true))) ⊎ TableBlockFails model g s trace b)

      more : (b : ℕ) → B0 b → B1 b
      more b (inl u) = inl u
      more b (inr (inl u)) = inr (inl (u.0, z.counts u.1))
      more b (inr (inr u)) = inr (inr u)

      acked : reply ≡ Done → Shows g F A B0 after.table → Shows g F A1 B1 after.table
      acked d shows =
          record {
            factory = shows.factory;
            acked = λ b small a. by b small a;
            no_other = λ b small h. other b (shows.no_other b small h);
          }
        where
          by : (b : ℕ) → b < g.blocks → A1 b → calls_bad after.table b ≡ true
          by b small (inl a) = shows.acked b small a
          by b small (inr a) = ap (calls_bad after.table) (sym a.0) ∙ (z.done d).1 (subst (λ x. x < g.blocks) (sym a.0) small)

          other : (b : ℕ) → F b ⊎ B0 b → F b ⊎ B1 b
          other b (inl f) = inl f
          other b (inr u) = inr (more b u)

      fewer : (reply ≡ Done → ⊥) → (b : ℕ) → A1 b → A b
      fewer n b (inl a) = a
      fewer n b (inr a) = absurd (n (same_Some reply Done a.1))

      on : (reply ≡ Done) ⊎ (reply ≡ Done → ⊥) → Memory A1 B1 after t
      on (inl d) =
          record {
            holds = z.remembers.holds;
            holding = holding-as model g c enough F factory p q in_p in_q apart A B0 A1 B1 z.remembers.holds t z.remembers.holding;
            rests = inr (both-rest TB (IsTable g) (Shows g F A1 B1) (None_ A1) after.table after.version after.places z.remembers.holds both);
            both = λ two. both;
            form = z.remembers.form;
            shows = acked d z.remembers.shows;
          }
        where
          before : HoldsBoth TB (IsTable g) (Shows g F A B0) (None_ A) after.table after.version after.places z.remembers.holds
          before = z.remembers.both (z.done d).0

          both : HoldsBoth TB (IsTable g) (Shows g F A1 B1) (None_ A1) after.table after.version after.places z.remembers.holds
          both = both-as model g c enough F factory p q in_p in_q apart A B0 A1 B1 after z.remembers.holds (acked d before.writable.shows) before
      on (inr n) = remembers-fewer model g c enough F factory p q in_p in_q apart A B0 A1 B1 (fewer n) more after t z.remembers

  after-cut : (A B : ℕ → Type 0) (k : Known) (s t : ChipState W) (block : ℕ) (trace : List ChipEvent) (r : Memory A B k s)
      → Alive_ A (λ b. B b ⊎ (((block ≡ b) × (((entry_of k block == 2) ≡ false) × (nat_le 2 k.copies ≡ true))) ⊎ TableBlockFails model g s trace b)) t → Alive_ (Acked1 A block None) (Begun1 B s block trace None) t
  after-cut A B k s t block trace r z =
      lives-fewer model g c enough F factory p q in_p in_q apart A (λ b. B b ⊎ (((block ≡ b) × (((entry_of k block == 2) ≡ false) × (nat_le 2 k.copies ≡ true))) ⊎ TableBlockFails model g s trace b)) (Acked1 A block None) (Begun1 B s block trace None) fewer more t z
    where
      fewer : (b : ℕ) → Acked1 A block None b → A b
      fewer b (inl a) = a
      fewer b (inr a) = absurd (none-some Done a.1)

      more : (b : ℕ) → B b ⊎ (((block ≡ b) × (((entry_of k block == 2) ≡ false) × (nat_le 2 k.copies ≡ true))) ⊎ TableBlockFails model g s trace b) → Begun1 B s block trace None b
      more b (inl u) = inl u
      more b (inr (inl u)) = inr (inl (u.0, refl))
      more b (inr (inr u)) = inr (inr u)

  each-granted : (s : ChipState W) (trace : List ChipEvent) → EachStep model (λ t e. ⊤) s trace
  each-granted s [] = tt
  each-granted s (e ∷ trace) = (tt, each-granted (happens model s e) trace)

  -- an operation that leaves the tables alone
  module _ (A B : ℕ → Type 0) (k : Known) (s : ChipState W) (trace : List ChipEvent) (r : Memory A B k s) (path : Path Finished)
      (safe : Safe (plain_alive model g c enough F factory p q in_p in_q apart A B k s r) path s) (along : GoesAlong model (next_event path) s [] trace) where
    abbrev the_law : Safety W Finished
    the_law = plain_alive model g c enough F factory p q in_p in_q apart A B k s r

    after-plain : SafeAfter the_law path s [] trace
    after-plain = safe-trace the_law path trace s [] along (each-granted s trace) safe

    plain-lives : Alive_ A B (after_trace model s trace)
    plain-lives = on after-plain
      where
        on : SafeAfter the_law path s [] trace → Alive_ A B (after_trace model s trace)
        on (goes_on u z) =
            resting g c (Shows g F A B) (None_ A) (first_event (after_answers (answers_of model s trace) path)) (after_trace model s trace)
            (safe-moment the_law (after_answers (answers_of model s trace) path) (after_trace model s trace) z)
        on (was_cut u m) = m

    plain-remembers : (f : Finished) → is_uncut trace ≡ true → result_of (after_answers (answers_of model s trace) path) ≡ Some f → Memory A B f.known (after_trace model s trace)
    plain-remembers f uncut over = on after-plain
      where
        on : SafeAfter the_law path s [] trace → Memory A B f.known (after_trace model s trace)
        on (goes_on u z) = safe-result the_law (after_answers (answers_of model s trace) path) (after_trace model s trace) f over z
        on (was_cut u m) = absurd (false≢true (sym u ∙ uncut))

  module _ (partitions : Partitions) where
    -- what is acknowledged, and has begun, after an operation
    abbrev pub AckedBy : (ℕ → Type 0) → Op → Option Reply → ℕ → Type 0
    AckedBy A op reply b = A b ⊎ NowAcked partitions op reply b

    abbrev pub BegunBy : (ℕ → Type 0) → ChipState W → Op → List ChipEvent → Option Reply → ℕ → Type 0
    BegunBy B s op trace reply b = B b ⊎ (NowBegun partitions op reply b ⊎ TableBlockFails model g s trace b)

    -- the mark of this block is this operation
    module _ (A B : ℕ → Type 0) (s : ChipState W) (op : Op) (trace : List ChipEvent) (reply : Option Reply) (block : ℕ) (is : block_marked partitions op ≡ Some block) where
      acked-as : (b : ℕ) → AckedBy A op reply b → Acked1 A block reply b
      acked-as b (inl a) = inl a
      acked-as b (inr a) = inr (same_Some block b (sym is ∙ a.0), a.1)

      begun-as : (b : ℕ) → Begun1 B s block trace reply b → BegunBy B s op trace reply b
      begun-as b (inl u) = inl u
      begun-as b (inr (inl u)) = inr (inl (is ∙ ap (λ (x : ℕ). Some x) u.0, u.1))
      begun-as b (inr (inr u)) = inr (inr u)

    acked-none : (A : ℕ → Type 0) (op : Op) (reply : Option Reply) → block_marked partitions op ≡ None → (b : ℕ) → AckedBy A op reply b → A b
    acked-none A op reply none b (inl a) = a
    acked-none A op reply none b (inr a) = absurd (none-some b (sym none ∙ a.0))

    -- what became of one operation
    abbrev pub AfterOp : (ℕ → Type 0) → (ℕ → Type 0) → Known → ChipState W → Op → List ChipEvent → Option Reply → Type 0
    AfterOp A B k s op trace None = Alive_ (AckedBy A op None) (BegunBy B s op trace None) (after_trace model s trace)
    AfterOp A B k s op trace (Some reply) =
        Memory (AckedBy A op (Some reply)) (BegunBy B s op trace (Some reply)) (known_then k (result_of (after_answers (answers_of model s trace) (operation_path g partitions k op)))) (after_trace model s trace)

    abbrev pub IsTrace : ChipState W → Path Finished → List ChipEvent → Option Reply → Type 0
    IsTrace s path trace None = GoesAlong model (next_event path) s [] trace
    IsTrace s path trace (Some reply) =
        (after : Known) × GoesAlong model (next_event path) s [] trace × (is_uncut trace ≡ true) × (result_of (after_answers (answers_of model s trace) path) ≡ Some (record { reply = reply; known = after }))

    abbrev AfterPath : (ℕ → Type 0) → (ℕ → Type 0) → Known → ChipState W → Op → List ChipEvent → Option Reply → Path Finished → Type 0
    AfterPath A B k s op trace None path = Alive_ (AckedBy A op None) (BegunBy B s op trace None) (after_trace model s trace)
    AfterPath A B k s op trace (Some reply) path =
        Memory (AckedBy A op (Some reply)) (BegunBy B s op trace (Some reply)) (known_then k (result_of (after_answers (answers_of model s trace) path))) (after_trace model s trace)

    after-mark : (A B : ℕ → Type 0) (k : Known) (s : ChipState W) (op : Op) (trace : List ChipEvent) (reply : Option Reply) (r : Memory A B k s) → EachStep model (IsFairEvent model) s trace
        → (block : ℕ) → block_marked partitions op ≡ Some block → IsTrace s (mark_block g k block) trace reply → AfterPath A B k s op trace reply (mark_block g k block)
    after-mark A B k s op trace None r fair block is along =
        lives-fewer model g c enough F factory p q in_p in_q apart (Acked1 A block None) (Begun1 B s block trace None) (AckedBy A op None) (BegunBy B s op trace None) (acked-as A B s op trace None block is) (begun-as A B s op trace None block is) (after_trace model s trace)
        (after-cut A B k s (after_trace model s trace) block trace r (unanswered model g c enough F factory p q in_p in_q apart A B k s block trace r along fair))
    after-mark A B k s op trace (Some reply) r fair block is (after, along, uncut, over) =
        subst (λ j. Memory (AckedBy A op (Some reply)) (BegunBy B s op trace (Some reply)) j (after_trace model s trace)) (sym (ap (known_then k) over))
        (remembers-fewer model g c enough F factory p q in_p in_q apart (Acked1 A block (Some reply)) (Begun1 B s block trace (Some reply)) (AckedBy A op (Some reply)) (BegunBy B s op trace (Some reply))
        (acked-as A B s op trace (Some reply) block is) (begun-as A B s op trace (Some reply) block is) after (after_trace model s trace)
        (after-answer A B k after s (after_trace model s trace) block trace r reply (answered model g c enough F factory p q in_p in_q apart A B k s block trace r reply after along uncut over fair)))

    after-other : (A B : ℕ → Type 0) (k : Known) (s : ChipState W) (op : Op) (trace : List ChipEvent) (reply : Option Reply) (r : Memory A B k s) (path : Path Finished) → block_marked partitions op ≡ None
        → Safe (plain_alive model g c enough F factory p q in_p in_q apart A B k s r) path s → IsTrace s path trace reply → AfterPath A B k s op trace reply path
    after-other A B k s op trace None r path none safe along =
        lives-fewer model g c enough F factory p q in_p in_q apart A B (AckedBy A op None) (BegunBy B s op trace None) (acked-none A op None none) (λ b u. inl u) (after_trace model s trace) (plain-lives A B k s trace r path safe along)
    after-other A B k s op trace (Some reply) r path none safe (after, along, uncut, over) =
        subst (λ j. Memory (AckedBy A op (Some reply)) (BegunBy B s op trace (Some reply)) j (after_trace model s trace)) (sym (ap (known_then k) over))
        (remembers-fewer model g c enough F factory p q in_p in_q apart A B (AckedBy A op (Some reply)) (BegunBy B s op trace (Some reply)) (acked-none A op (Some reply) none) (λ b u. inl u) after (after_trace model s trace)
        (plain-remembers A B k s trace r path safe along (record { reply = reply; known = after }) uncut over))

    after-as : (A B : ℕ → Type 0) (k : Known) (s : ChipState W) (op : Op) (trace : List ChipEvent) (reply : Option Reply) → AfterPath A B k s op trace reply (operation_path g partitions k op) → AfterOp A B k s op trace reply
    after-as A B k s op trace None h = h
    after-as A B k s op trace (Some reply) h = h

    pub after-op : (A B : ℕ → Type 0) (k : Known) (s : ChipState W) (op : Op) (trace : List ChipEvent) (reply : Option Reply) → Memory A B k s → WritesAPage g op → EachStep model (IsFairEvent model) s trace
        → IsTrace s (operation_path g partitions k op) trace reply → AfterOp A B k s op trace reply
    after-op A B k s op trace reply r fits fair is_trace = after-as A B k s op trace reply (on (route-alive model g c enough F factory p q in_p in_q apart A B k s r (part_of partitions (device_of op)) op fits))
      where
        on : ((b : ℕ) × (block_marked partitions op ≡ Some b) × (operation_path g partitions k op ≡ mark_block g k b))
            ⊎ ((block_marked partitions op ≡ None) × ((t : ChipState W) → Holding g c (Shows g F A B) (None_ A) r.holds None t → Safe (plain_alive model g c enough F factory p q in_p in_q apart A B k s r) (operation_path g partitions k op) t))
            → AfterPath A B k s op trace reply (operation_path g partitions k op)
        on (inl (b, is, same)) =
            subst (λ x. AfterPath A B k s op trace reply x) (sym same) (after-mark A B k s op trace reply r fair b is (subst (λ x. IsTrace s x trace reply) same is_trace))
        on (inr (none, plain)) = after-other A B k s op trace reply r (operation_path g partitions k op) none (plain s r.holding) is_trace
