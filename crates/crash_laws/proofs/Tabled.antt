-- A chip with tables lives through its operations and attaches.
use Rattle.std.proofs.Common.{◌≡◌, ◌≢◌, ◌⊎◌, ◌≤◌, ℕ, Bool, true, List, [], ap, ◌∙◌, Option, Some, None, inl, inr, subst}
use Rattle.nand_model.specs.Chip.{ChipState, FaultModel, ChipEvent, after_trace}
use Rattle.chip_paths.specs.Attach.{Attaching, attach_path}
use Rattle.chip_paths.specs.ChipRun.{known_at_first}
use Rattle.nand_model.specs.Partitions.{Partitions}
use Rattle.chip_paths.specs.Operation.{Known, operation_path}
use Rattle.nand_model.specs.Path.{answers_of, GoesAlong, is_uncut, after_answers, next_event, result_of}
use Rattle.nand_model.specs.declared.geometry.Geometry.{Geometry}
use Rattle.nand_model.specs.declared.words.Op.{Op}
use Rattle.nand_model.specs.declared.words.Reply.{Reply}
use Rattle.page_laws.specs.Keeping.{IsFairEvent, EachStep}
use Rattle.relocation_laws.specs.Tables.{IsTableBlock, Shows}
use Rattle.run_model.specs.History.{outcome_if, known_then}
use Rattle.relocation_laws.specs.Life.{TableBlockFails, NowAcked, NowBegun}
use Rattle.relocation_laws.proofs.Goes.{Setting, holding-flipped, none-aside}
use Rattle.relocation_laws.proofs.MarkerTables.{AreFactoryBad}
use Rattle.relocation_laws.proofs.Lives.{Lives, Remembers, lives-fewer, remembers-fewer, AttachEnd, attach-end, attach_end_of}
use Rattle.relocation_laws.proofs.Chain.{after-op}
use Rattle.crash_laws.specs.Life.{IsFairAndQuietAttach, TableFails}
use Rattle.crash_laws.proofs.BareLives.{shows_more}
use Rattle.crash_laws.proofs.Chain.{Kind}
use Rattle.run_model.specs.Survival.{WritesAPage}

module _ {W : Type 0} (model : FaultModel W) (g : Geometry) (c : Setting g) (enough : 4 ≤ g.blocks) (F : ℕ → Type 0) (factory : AreFactoryBad g c.is_good F)
    (p q : ℕ) (in_p : IsTableBlock g c.is_good p) (in_q : IsTableBlock g c.is_good q) (apart : p ≢ q) (partitions : Partitions) where
  abbrev pub Alive_ : (A B : ℕ → Type 0) → ChipState W → Type 0
  Alive_ A B s = Lives model g c enough F factory p q in_p in_q apart A B s

  abbrev pub Memory : (A B : ℕ → Type 0) → Known → ChipState W → Type 0
  Memory A B k s = Remembers model g c enough F factory p q in_p in_q apart A B k s

  tabled : (B N : ℕ → Type 0) (s : ChipState W) (trace : List ChipEvent) (b : ℕ) → B b ⊎ (N b ⊎ TableBlockFails model g s trace b) → B b ⊎ (N b ⊎ TableFails model g s trace b)
  tabled B N s trace b (inl x) = inl x
  tabled B N s trace b (inr (inl n)) = inr (inl n)
  tabled B N s trace b (inr (inr f)) = inr (inr (c.tables, f))

  failed : (B : ℕ → Type 0) (s : ChipState W) (trace : List ChipEvent) (b : ℕ) → B b ⊎ TableBlockFails model g s trace b → B b ⊎ TableFails model g s trace b
  failed B s trace b (inl x) = inl x
  failed B s trace b (inr f) = inr (c.tables, f)

  pub unanswered : (A B : ℕ → Type 0) (k : Known) (s : ChipState W) (op : Op) (trace : List ChipEvent) → Memory A B k s → WritesAPage g op
      → GoesAlong model (next_event (operation_path g partitions k op)) s [] trace → EachStep model (IsFairEvent model) s trace
      → Alive_ A (λ b. B b ⊎ (NowBegun partitions op None b ⊎ TableFails model g s trace b)) (after_trace model s trace)
  unanswered A B k s op trace h fits along fair =
      lives-fewer model g c enough F factory p q in_p in_q apart (λ b. A b ⊎ NowAcked partitions op None b) (λ b. B b ⊎ (NowBegun partitions op None b ⊎ TableBlockFails model g s trace b)) A
      (λ b. B b ⊎ (NowBegun partitions op None b ⊎ TableFails model g s trace b)) (λ b a. inl a) (λ b x. tabled B (NowBegun partitions op None) s trace b x) (after_trace model s trace)
      (after-op model g c enough F factory p q in_p in_q apart partitions A B k s op trace None h fits fair along)

  pub answered : (A B : ℕ → Type 0) (k after : Known) (s : ChipState W) (op : Op) (trace : List ChipEvent) (reply : Reply) → Memory A B k s → WritesAPage g op
      → GoesAlong model (next_event (operation_path g partitions k op)) s [] trace → is_uncut trace ≡ true
      → result_of (after_answers (answers_of model s trace) (operation_path g partitions k op)) ≡ Some (record { reply = reply; known = after }) → EachStep model (IsFairEvent model) s trace
      → Memory (λ b. A b ⊎ NowAcked partitions op (Some reply) b) (λ b. B b ⊎ (NowBegun partitions op (Some reply) b ⊎ TableFails model g s trace b)) after (after_trace model s trace)
  answered A B k after s op trace reply h fits along uncut over fair =
      remembers-fewer model g c enough F factory p q in_p in_q apart (λ b. A b ⊎ NowAcked partitions op (Some reply) b) (λ b. B b ⊎ (NowBegun partitions op (Some reply) b ⊎ TableBlockFails model g s trace b))
      (λ b. A b ⊎ NowAcked partitions op (Some reply) b) (λ b. B b ⊎ (NowBegun partitions op (Some reply) b ⊎ TableFails model g s trace b)) (λ b a. a) (λ b x. tabled B (NowBegun partitions op (Some reply)) s trace b x) after
      (after_trace model s trace)
      (subst (λ j. Memory (λ b. A b ⊎ NowAcked partitions op (Some reply) b) (λ b. B b ⊎ (NowBegun partitions op (Some reply) b ⊎ TableBlockFails model g s trace b)) j (after_trace model s trace)) (ap (known_then k) over)
      (after-op model g c enough F factory p q in_p in_q apart partitions A B k s op trace (Some reply) h fits fair (after, along, uncut, over)))

  outcome_is : (t : Bool) (r : Option Attaching) (a : Attaching) → t ≡ true → r ≡ Some a → outcome_if t r ≡ Some a
  outcome_is t r a e f = ap (λ x. outcome_if x r) e ∙ f

  pub attaching : (A B : ℕ → Type 0) (s : ChipState W) (trace : List ChipEvent) → Alive_ A B s → GoesAlong model (next_event (attach_path g)) s [] trace → IsFairAndQuietAttach model s trace
      → Alive_ A (λ b. B b ⊎ TableFails model g s trace b) (after_trace model s trace)
      × ((a : Attaching) → is_uncut trace ≡ true → result_of (after_answers (answers_of model s trace) (attach_path g)) ≡ Some a
      → Shows g F A (λ b. B b ⊎ TableFails model g s trace b) a.table × Memory A (λ b. B b ⊎ TableFails model g s trace b) (known_at_first a) (after_trace model s trace))
  attaching A B s trace alive along granted = (
    lives-fewer model g c enough F factory p q in_p in_q apart A (λ b. B b ⊎ TableBlockFails model g s trace b) A (λ b. B b ⊎ TableFails model g s trace b) (λ b a. a) (λ b x. failed B s trace b x) (after_trace model s trace) end.lives,
    λ a uncut e.
        let shown = end.shown a (outcome_is (is_uncut trace) (result_of (after_answers (answers_of model s trace) (attach_path g))) a uncut e) in (
          shows_more g F A (λ b. B b ⊎ TableBlockFails model g s trace b) (λ b. B b ⊎ TableFails model g s trace b) a.table (λ b x. failed B s trace b x) shown.0,
          remembers-fewer model g c enough F factory p q in_p in_q apart A (λ b. B b ⊎ TableBlockFails model g s trace b) A (λ b. B b ⊎ TableFails model g s trace b) (λ b z. z) (λ b x. failed B s trace b x) (known_at_first a)
              (after_trace model s trace) shown.1,
        ),
  )
    where
      end : AttachEnd model g c enough F factory p q in_p in_q apart A (λ b. B b ⊎ TableBlockFails model g s trace b) (after_trace model s trace) (attach_end_of model g c enough F factory p q in_p in_q apart s trace)
      end = attach-end model g c enough F factory p q in_p in_q apart A B s trace alive along granted

  -- a chip with tables
  unfoldable pub with_tables : Kind model g F partitions
  with_tables = record {
    Lives = λ A B s. Alive_ A B s;
    Knows = λ A B k s. Memory A B k s;
    sized = λ A B s h. h.holding.geometry;
    flip = λ A B s page bit h. record { holds = h.holds; holding = holding-flipped g c (Shows g F A B) ((b : ℕ) → A b → ⊥) model h.holds None s page bit h.holding; rests = h.rests; aside = none-aside g h.holds };
    fewer = λ A B A1 B1 s fewer more h. lives-fewer model g c enough F factory p q in_p in_q apart A B A1 B1 fewer more s h;
    lives = λ A B k s h. record { holds = h.holds; holding = h.holding; rests = h.rests; aside = none-aside g h.holds };
    unanswered = unanswered;
    answered = answered;
    attaching = attaching;
  }
