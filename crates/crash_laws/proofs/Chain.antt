-- The chain of boots of one chip, with or without tables.
use Rattle.std.proofs.Common.{◌≡◌, ◌⊎◌, ℕ, Bool, true, false, List, [], ◌∷◌, ◌++◌, refl, ap, sym, ◌∙◌, Option, Some, None, inl, inr, subst}
use Rattle.std.specs.Prelude.{is_none, flat_map}
use Rattle.std.proofs.lemmas.Option.{none-some}
use Rattle.nand_model.specs.Chip.{ChipState, FaultModel, ChipEvent, Flipped, happens, after_trace}
use Rattle.chip_paths.specs.Attach.{Attaching, attach_path}
use Rattle.chip_paths.specs.ChipRun.{known_at_first}
use Rattle.nand_model.specs.Partitions.{Partitions}
use Rattle.chip_paths.specs.Operation.{Known, Finished, operation_path}
use Rattle.nand_model.specs.Path.{answers_of, GoesAlong, is_uncut, after_answers, next_event, result_of}
use Rattle.nand_model.specs.declared.geometry.Geometry.{Geometry}
use Rattle.nand_model.specs.declared.words.Op.{Op}
use Rattle.nand_model.specs.declared.words.Reply.{Reply}
use Rattle.run_model.specs.History.{OperationTrace, ChipBoot, Turned, turned_events, IsOperationTrace, events_in, known_then, attach_outcome, outcome_if, trace_of}
use Rattle.run_laws.proofs.Traces.{events-append, after-append}
use Rattle.page_laws.specs.Keeping.{IsFairEvent, EachStep}
use Rattle.relocation_laws.specs.Tables.{Shows}
use Rattle.relocation_laws.specs.Life.{NowAcked, NowBegun}
use Rattle.crash_laws.specs.Life.{AckedIn, BegunIn, TableFails, AreFair, IsFairAndQuietAttach, AreOperations, FollowAttach}
use Rattle.run_model.specs.Survival.{WritesAPage}

-- the traces of operations
abbrev pub traces_in : List OperationTrace → List (ℕ × ChipEvent)
traces_in operations = flat_map (λ (o : OperationTrace). o.trace) operations

-- what is kept of a chip, whether it has tables or not: when it lives, with the blocks whose
-- marking was acknowledged and has begun, and when what is known of it is remembered
pub record Kind {W : Type 0} (model : FaultModel W) (g : Geometry) (F : ℕ → Type 0) (partitions : Partitions) : Type 1 where
  pub Lives : (A B : ℕ → Type 0) → ChipState W → Type 0
  pub Knows : (A B : ℕ → Type 0) → Known → ChipState W → Type 0
  pub sized : (A B : ℕ → Type 0) (s : ChipState W) → Lives A B s → s.geometry ≡ g
  pub flip : (A B : ℕ → Type 0) (s : ChipState W) (page bit : ℕ) → Lives A B s → Lives A B (happens model s (Flipped page bit))
  pub fewer : (A B A1 B1 : ℕ → Type 0) (s : ChipState W) → ((b : ℕ) → A1 b → A b) → ((b : ℕ) → B b → B1 b) → Lives A B s → Lives A1 B1 s
  pub lives : (A B : ℕ → Type 0) (k : Known) (s : ChipState W) → Knows A B k s → Lives A B s
  pub unanswered : (A B : ℕ → Type 0) (k : Known) (s : ChipState W) (op : Op) (trace : List ChipEvent) → Knows A B k s → WritesAPage g op
      → GoesAlong model (next_event (operation_path g partitions k op)) s [] trace → EachStep model (IsFairEvent model) s trace
      → Lives A (λ b. B b ⊎ (NowBegun partitions op None b ⊎ TableFails model g s trace b)) (after_trace model s trace)
  pub answered : (A B : ℕ → Type 0) (k after : Known) (s : ChipState W) (op : Op) (trace : List ChipEvent) (reply : Reply) → Knows A B k s → WritesAPage g op
      → GoesAlong model (next_event (operation_path g partitions k op)) s [] trace → is_uncut trace ≡ true
      → result_of (after_answers (answers_of model s trace) (operation_path g partitions k op)) ≡ Some (record { reply = reply; known = after }) → EachStep model (IsFairEvent model) s trace
      → Knows (λ b. A b ⊎ NowAcked partitions op (Some reply) b) (λ b. B b ⊎ (NowBegun partitions op (Some reply) b ⊎ TableFails model g s trace b)) after (after_trace model s trace)
  pub attaching : (A B : ℕ → Type 0) (s : ChipState W) (trace : List ChipEvent) → Lives A B s → GoesAlong model (next_event (attach_path g)) s [] trace → IsFairAndQuietAttach model s trace
      → Lives A (λ b. B b ⊎ TableFails model g s trace b) (after_trace model s trace)
      × ((a : Attaching) → is_uncut trace ≡ true → result_of (after_answers (answers_of model s trace) (attach_path g)) ≡ Some a
      → Shows g F A (λ b. B b ⊎ TableFails model g s trace b) a.table × Knows A (λ b. B b ⊎ TableFails model g s trace b) (known_at_first a) (after_trace model s trace))

module _ {W : Type 0} (model : FaultModel W) (g : Geometry) (F : ℕ → Type 0) (partitions : Partitions) (kind : Kind model g F partitions) where
  flips_live : (A B : ℕ → Type 0) (s : ChipState W) (flips : List Turned) → kind.Lives A B s → kind.Lives A B (after_trace model s (events_in (turned_events flips)))
  flips_live A B s [] h = h
  flips_live A B s (f ∷ flips) h = flips_live A B (happens model s (Flipped f.page f.bit)) flips (kind.flip A B s f.page f.bit h)

  -- what is left of a list of operations after its first one
  abbrev After : (ℕ → Type 0) → (ℕ → Type 0) → ChipState W → Op → List ChipEvent → Option Reply → List OperationTrace → Type 0
  After A B s op trace reply later =
      kind.Lives (λ b. A b ⊎ (NowAcked partitions op reply b ⊎ AckedIn partitions later b))
      (λ b. B b ⊎ ((NowBegun partitions op reply b ⊎ TableFails model g s trace b) ⊎ BegunIn model partitions g (after_trace model s trace) later b)) (after_trace model (after_trace model s trace) (events_in (traces_in later)))

  last_one : (A B : ℕ → Type 0) (s : ChipState W) (op : Op) (trace : List ChipEvent) (later : List OperationTrace) → later ≡ []
      → kind.Lives A (λ b. B b ⊎ (NowBegun partitions op None b ⊎ TableFails model g s trace b)) (after_trace model s trace) → After A B s op trace None later
  last_one A B s op trace later none h =
      subst (λ os. After A B s op trace None os) (sym none)
      (kind.fewer A (λ b. B b ⊎ (NowBegun partitions op None b ⊎ TableFails model g s trace b)) (λ b. A b ⊎ (NowAcked partitions op None b ⊎ ⊥)) (λ b. B b ⊎ ((NowBegun partitions op None b ⊎ TableFails model g s trace b) ⊎ ⊥))
      (after_trace model s trace) fewer more h)
    where
      fewer : (b : ℕ) → A b ⊎ (NowAcked partitions op None b ⊎ ⊥) → A b
      fewer b (inl a) = a
      fewer b (inr (inl n)) = absurd (none-some _ n.1)
      fewer b (inr (inr x)) = absurd x

      more : (b : ℕ) → B b ⊎ (NowBegun partitions op None b ⊎ TableFails model g s trace b) → B b ⊎ ((NowBegun partitions op None b ⊎ TableFails model g s trace b) ⊎ ⊥)
      more b (inl z) = inl z
      more b (inr n) = inr (inl n)

  regroup : (A B : ℕ → Type 0) (s : ChipState W) (op : Op) (trace : List ChipEvent) (reply : Option Reply) (later : List OperationTrace)
      → kind.Lives (λ b. (A b ⊎ NowAcked partitions op reply b) ⊎ AckedIn partitions later b)
      (λ b. (B b ⊎ (NowBegun partitions op reply b ⊎ TableFails model g s trace b)) ⊎ BegunIn model partitions g (after_trace model s trace) later b) (after_trace model (after_trace model s trace) (events_in (traces_in later)))
      → After A B s op trace reply later
  regroup A B s op trace reply later h =
      kind.fewer (λ b. (A b ⊎ NowAcked partitions op reply b) ⊎ AckedIn partitions later b)
      (λ b. (B b ⊎ (NowBegun partitions op reply b ⊎ TableFails model g s trace b)) ⊎ BegunIn model partitions g (after_trace model s trace) later b)
      (λ b. A b ⊎ (NowAcked partitions op reply b ⊎ AckedIn partitions later b))
      (λ b. B b ⊎ ((NowBegun partitions op reply b ⊎ TableFails model g s trace b) ⊎ BegunIn model partitions g (after_trace model s trace) later b)) (after_trace model (after_trace model s trace) (events_in (traces_in later))) fewer more h
    where
      fewer : (b : ℕ) → A b ⊎ (NowAcked partitions op reply b ⊎ AckedIn partitions later b) → (A b ⊎ NowAcked partitions op reply b) ⊎ AckedIn partitions later b
      fewer b (inl a) = inl (inl a)
      fewer b (inr (inl n)) = inl (inr n)
      fewer b (inr (inr z)) = inr z

      more : (b : ℕ) → (B b ⊎ (NowBegun partitions op reply b ⊎ TableFails model g s trace b)) ⊎ BegunIn model partitions g (after_trace model s trace) later b
          → B b ⊎ ((NowBegun partitions op reply b ⊎ TableFails model g s trace b) ⊎ BegunIn model partitions g (after_trace model s trace) later b)
      more b (inl (inl z)) = inl z
      more b (inl (inr n)) = inr (inl n)
      more b (inr z) = inr (inr z)

  no_more : (A B : ℕ → Type 0) (s : ChipState W) → kind.Lives A B s → kind.Lives (λ b. A b ⊎ ⊥) (λ b. B b ⊎ ⊥) s
  no_more A B s h = kind.fewer A B (λ b. A b ⊎ ⊥) (λ b. B b ⊎ ⊥) s fewer (λ b z. inl z) h
    where
      fewer : (b : ℕ) → A b ⊎ ⊥ → A b
      fewer b (inl a) = a
      fewer b (inr x) = absurd x

  known_is : (known : Known) (r : Option Finished) (finished : Finished) → r ≡ Some finished → known_then known r ≡ finished.known
  known_is known r finished e = ap (known_then known) e

  -- a chip lives through its operations
  operations_live : (A B : ℕ → Type 0) (k : Known) (s : ChipState W) (operations : List OperationTrace) → kind.Knows A B k s → AreOperations model partitions s k operations → AreFair model s operations
      → kind.Lives (λ b. A b ⊎ AckedIn partitions operations b) (λ b. B b ⊎ BegunIn model partitions g s operations b) (after_trace model s (events_in (traces_in operations)))
  operations_live A B k s [] h all fair = no_more A B s (kind.lives A B k s h)
  operations_live A B k s (o ∷ later) h all fair =
      subst (λ t. kind.Lives (λ b. A b ⊎ (NowAcked partitions o.op o.reply b ⊎ AckedIn partitions later b))
      (λ b. B b ⊎ ((NowBegun partitions o.op o.reply b ⊎ TableFails model g s (events_in o.trace) b) ⊎ BegunIn model partitions g (after_trace model s (events_in o.trace)) later b)) t) joined
      (on o.reply all.1 all.2 (λ r. operations_live (λ b. A b ⊎ NowAcked partitions o.op o.reply b) (λ b. B b ⊎ (NowBegun partitions o.op o.reply b ⊎ TableFails model g s (events_in o.trace) b))
      (known_then k (result_of (after_answers (answers_of model s (events_in o.trace)) (operation_path s.geometry partitions k o.op)))) (after_trace model s (events_in o.trace)) later r all.3 fair.1))
    where
      joined : after_trace model (after_trace model s (events_in o.trace)) (events_in (traces_in later)) ≡ after_trace model s (events_in (traces_in (o ∷ later)))
      joined = sym (ap (after_trace model s) (events-append o.trace (traces_in later)) ∙ after-append model s (events_in o.trace) (events_in (traces_in later)))

      geometry : s.geometry ≡ g
      geometry = kind.sized A B s (kind.lives A B k s h)

      fits : WritesAPage g o.op
      fits = subst (λ q. WritesAPage q o.op) geometry all.0

      on : (reply : Option Reply) → IsOperationTrace model partitions s k o.op (events_in o.trace) reply → (is_none reply ≡ true → later ≡ [])
          → (kind.Knows (λ b. A b ⊎ NowAcked partitions o.op reply b) (λ b. B b ⊎ (NowBegun partitions o.op reply b ⊎ TableFails model g s (events_in o.trace) b))
          (known_then k (result_of (after_answers (answers_of model s (events_in o.trace)) (operation_path s.geometry partitions k o.op)))) (after_trace model s (events_in o.trace))
          → kind.Lives (λ b. (A b ⊎ NowAcked partitions o.op reply b) ⊎ AckedIn partitions later b)
          (λ b. (B b ⊎ (NowBegun partitions o.op reply b ⊎ TableFails model g s (events_in o.trace) b)) ⊎ BegunIn model partitions g (after_trace model s (events_in o.trace)) later b)
          (after_trace model (after_trace model s (events_in o.trace)) (events_in (traces_in later))))
          → After A B s o.op (events_in o.trace) reply later
      on None is_trace last rest =
          last_one A B s o.op (events_in o.trace) later (last refl)
          (kind.unanswered A B k s o.op (events_in o.trace) h fits (subst (λ q. GoesAlong model (next_event (operation_path q partitions k o.op)) s [] (events_in o.trace)) geometry is_trace) fair.0)
      on (Some reply) (after, p) last rest =
          regroup A B s o.op (events_in o.trace) (Some reply) later
          (rest (subst (λ q. kind.Knows (λ b. A b ⊎ NowAcked partitions o.op (Some reply) b) (λ b. B b ⊎ (NowBegun partitions o.op (Some reply) b ⊎ TableFails model g s (events_in o.trace) b)) q (after_trace model s (events_in o.trace)))
          (sym (known_is k (result_of (after_answers (answers_of model s (events_in o.trace)) (operation_path s.geometry partitions k o.op))) (record { reply = reply; known = after }) p.over))
          (kind.answered A B k after s o.op (events_in o.trace) reply h fits
          (subst (λ q. GoesAlong model (next_event (operation_path q partitions k o.op)) s [] (events_in o.trace)) geometry p.along) p.uncut
          (subst (λ q. result_of (after_answers (answers_of model s (events_in o.trace)) (operation_path q partitions k o.op)) ≡ Some (record { reply = reply; known = after })) geometry p.over) fair.0)))

  -- what became of an attach
  pub record AttachEnd (A B : ℕ → Type 0) (s t : ChipState W) (trace : List ChipEvent) : Type 0 where
    pub lives : kind.Lives A (λ b. B b ⊎ TableFails model g s trace b) t
    pub shown : (a : Attaching) → attach_outcome model s trace ≡ Some a → Shows g F A (λ b. B b ⊎ TableFails model g s trace b) a.table × kind.Knows A (λ b. B b ⊎ TableFails model g s trace b) (known_at_first a) t

  outcome_parts : (t : Bool) (r : Option Attaching) (a : Attaching) → outcome_if t r ≡ Some a → (t ≡ true) × (r ≡ Some a)
  outcome_parts true r a e = (refl, e)
  outcome_parts false r a e = absurd (none-some a e)

  pub attach_end : (A B : ℕ → Type 0) (s : ChipState W) (trace : List ChipEvent) → kind.Lives A B s → GoesAlong model (next_event (attach_path s.geometry)) s [] trace → IsFairAndQuietAttach model s trace
      → AttachEnd A B s (after_trace model s trace) trace
  attach_end A B s trace alive along granted = record {
    lives = r.0;
    shown = λ a e.
        let p = outcome_parts (is_uncut trace) (result_of (after_answers (answers_of model s trace) (attach_path s.geometry))) a e in
        r.1 a p.0 (subst (λ k. result_of (after_answers (answers_of model s trace) (attach_path k)) ≡ Some a) geometry p.1);
  }
    where
      geometry : s.geometry ≡ g
      geometry = kind.sized A B s alive

      r : kind.Lives A (λ b. B b ⊎ TableFails model g s trace b) (after_trace model s trace)
          × ((a : Attaching) → is_uncut trace ≡ true → result_of (after_answers (answers_of model s trace) (attach_path g)) ≡ Some a
          → Shows g F A (λ b. B b ⊎ TableFails model g s trace b) a.table × kind.Knows A (λ b. B b ⊎ TableFails model g s trace b) (known_at_first a) (after_trace model s trace))
      r = kind.attaching A B s trace alive (subst (λ k. GoesAlong model (next_event (attach_path k)) s [] trace) geometry along) granted

  -- the blocks whose marking has begun after a boot
  abbrev pub BegunBy : (ℕ → Type 0) → ChipState W → ChipBoot → ℕ → Type 0
  BegunBy B s b d = (B d ⊎ TableFails model g s (events_in b.attach) d) ⊎ BegunIn model partitions g (after_trace model s (events_in b.attach)) b.operations d

  -- a chip lives through a boot
  pub boot_lives : (A B : ℕ → Type 0) (s : ChipState W) (b : ChipBoot) → AttachEnd A B s (after_trace model s (events_in b.attach)) (events_in b.attach)
      → FollowAttach model partitions (attach_outcome model s (events_in b.attach)) (after_trace model s (events_in b.attach)) b.operations → AreFair model (after_trace model s (events_in b.attach)) b.operations
      → kind.Lives (λ d. A d ⊎ AckedIn partitions b.operations d) (BegunBy B s b) (after_trace model s (trace_of b))
  boot_lives A B s b end follow fair =
      subst (kind.Lives (λ d. A d ⊎ AckedIn partitions b.operations d) (BegunBy B s b)) joined
      (flips_live (λ d. A d ⊎ AckedIn partitions b.operations d) (BegunBy B s b) (after_trace model s1 (events_in (traces_in b.operations))) b.flips_after
      (worked (attach_outcome model s (events_in b.attach)) follow end.shown))
    where
      s1 : ChipState W
      s1 = after_trace model s (events_in b.attach)

      B1 : ℕ → Type 0
      B1 d = B d ⊎ TableFails model g s (events_in b.attach) d

      joined : after_trace model (after_trace model s1 (events_in (traces_in b.operations))) (events_in (turned_events b.flips_after)) ≡ after_trace model s (trace_of b)
      joined = sym (ap (after_trace model s) (events-append (b.attach ++ traces_in b.operations) (turned_events b.flips_after) ∙ ap (λ zs. zs ++ events_in (turned_events b.flips_after)) (events-append b.attach (traces_in b.operations)))
          ∙ after-append model s (events_in b.attach ++ events_in (traces_in b.operations)) (events_in (turned_events b.flips_after))
          ∙ ap (λ t. after_trace model t (events_in (turned_events b.flips_after))) (after-append model s (events_in b.attach) (events_in (traces_in b.operations))))

      worked : (o : Option Attaching) → FollowAttach model partitions o s1 b.operations
          → ((a : Attaching) → o ≡ Some a → Shows g F A B1 a.table × kind.Knows A B1 (known_at_first a) s1)
          → kind.Lives (λ d. A d ⊎ AckedIn partitions b.operations d) (λ d. B1 d ⊎ BegunIn model partitions g s1 b.operations d) (after_trace model s1 (events_in (traces_in b.operations)))
      worked None none shown =
          subst (λ os. kind.Lives (λ d. A d ⊎ AckedIn partitions os d) (λ d. B1 d ⊎ BegunIn model partitions g s1 os d) (after_trace model s1 (events_in (traces_in os)))) (sym none) (no_more A B1 s1 end.lives)
      worked (Some a) all shown = operations_live A B1 (known_at_first a) s1 b.operations (shown a refl).1 all fair
