-- Two whole copies hold the table after each boot of a life whose operations were all answered.
use Rattle.std.proofs.Common.{◌≡◌, ◌≢◌, ◌⊎◌, ◌≤◌, ℕ, true, List, [], ◌∷◌, ◌++◌, map, Option, Some, None, refl, ap, sym, ◌∙◌, subst, arith}
use Rattle.std.specs.Prelude.{is_some, ⊤}
use Rattle.std.proofs.lemmas.Bool.{false≢true}
use Rattle.std.proofs.lemmas.List.Elements.{All-head, All-tail}
use Rattle.nand_model.specs.Sizes.{first_page}
use Rattle.nand_model.specs.Chip.{ChipState, FaultModel, Flipped, happens, sim_faults, new_chip, after_trace}
use Rattle.nand_model.specs.Partitions.{Partitions}
use Rattle.nand_model.specs.Path.{GoesAlong, after_answers, answers_of, next_event, result_of}
use Rattle.nand_model.specs.Quiet.{is_quiet}
use Rattle.nand_model.specs.Table.{copy_in, read_again}
use Rattle.nand_model.specs.declared.geometry.Geometry.{Geometry}
use Rattle.nand_model.specs.declared.words.Note.{Note}
use Rattle.nand_model.specs.declared.words.Reply.{Reply}
use Rattle.nand_model.specs.declared.words.Weak.{Weak}
use Rattle.nand_model.specs.declared.words.Which.{Which}
use Rattle.nand_model.specs.declared.words.Which.TheVariants.{Primary, Mirror}
use Rattle.chip_paths.specs.ChipRun.{known_at_first}
use Rattle.chip_paths.specs.Operation.{Known, operation_path}
use Rattle.chip_paths.specs.Writing.{place_of}
use Rattle.run_laws.proofs.Traces.{events-append, after-append}
use Rattle.run_model.specs.History.{ChipBoot, IsChipHistory, IsChipLife, IsOperationTrace, OperationTrace, Turned, events_in, known_then, notes_of_chip, trace_of, turned_events, was_quiet}
use Rattle.run_model.specs.Run.{HoldsTheTable, is_fair}
use Rattle.run_model.specs.Survival.{AllWritePages, WritesAPage}
use Rattle.page_laws.specs.Keeping.{IsIn}
use Rattle.page_laws.proofs.Quiet.{quiet_table}
use Rattle.relocation_laws.specs.Agreement.{copy_of}
use Rattle.relocation_laws.specs.Shelves.{HoldsBoth}
use Rattle.relocation_laws.specs.Tables.{IsTable, IsTableBlock, Shows}
use Rattle.relocation_laws.specs.Life.{NowAcked, NowBegun}
use Rattle.relocation_laws.proofs.Goes.{Setting, holding-flipped}
use Rattle.relocation_laws.proofs.Lives.{Lives, Remembers, lives-fewer, remembers-fewer}
use Rattle.relocation_laws.proofs.MarkerTables.{AreFactoryBad}
use Rattle.crash_laws.specs.Copies.{AreAnswered, BootHoldsTheTable, LifeHoldsTheTable, TwoCopiesHoldTheTable, known_after}
use Rattle.crash_laws.specs.Life.{AreFair, AreOperations, FollowAttach, TableFails}
use Rattle.crash_laws.proofs.Boots.{Acked, Begun, boot_through, fair_attach, fair_operations, follow}
use Rattle.crash_laws.proofs.Chain.{AttachEnd, attach_end, traces_in}
use Rattle.crash_laws.proofs.Copies.{tables_of}
use Rattle.crash_laws.proofs.Fairness.{attach_granted}
use Rattle.crash_laws.proofs.Histories.{own_notes}
use Rattle.crash_laws.proofs.Lives.{Fills, fill_boot}
use Rattle.crash_laws.proofs.MarkNotes.{Own}
use Rattle.crash_laws.proofs.Tabled.{answered, with_tables}

-- no block, and any block
abbrev NoBlock : ℕ → Type 0
NoBlock b = ⊥

abbrev AnyBlock : ℕ → Type 0
AnyBlock b = ⊤

module _ {W : Type 0} (model : FaultModel W) (g : Geometry) (c : Setting g) (enough : 4 ≤ g.blocks) (F : ℕ → Type 0) (factory : AreFactoryBad g c.is_good F)
    (one two : ℕ) (in_one : IsTableBlock g c.is_good one) (in_two : IsTableBlock g c.is_good two) (apart : one ≢ two) (partitions : Partitions) (k : ℕ) where
  abbrev Memory : Known → ChipState W → Type 0
  Memory known s = Remembers model g c enough F factory one two in_one in_two apart NoBlock AnyBlock known s

  forget : (A B : ℕ → Type 0) (known : Known) (s : ChipState W) → Remembers model g c enough F factory one two in_one in_two apart A B known s → Memory known s
  forget A B known s h = remembers-fewer model g c enough F factory one two in_one in_two apart A B NoBlock AnyBlock (λ b x. absurd x) (λ b x. tt) known s h

  -- two whole copies hold the table in memory
  holds_table : (known : Known) (s : ChipState W) → Memory known s → known.copies ≡ 2 → is_quiet g s.pages ≡ true → HoldsTheTable s known
  holds_table known s h are_two quiet = record { primary = at_place Primary; mirror = at_place Mirror }
    where
      both : HoldsBoth (IsTableBlock g c.is_good) (IsTable g) (Shows g F NoBlock AnyBlock) ((b : ℕ) → NoBlock b → ⊥) known.table known.version known.places h.holds
      both = h.both (omega (arith, are_two))

      at_place : (which : Which) → copy_in s.geometry (s.pages (first_page s.geometry (place_of known.places which))).cells ≡ Some (record { which = which; version = known.version; states = read_again known.table })
      at_place which =
          subst (λ i. copy_in i (s.pages (first_page i (place_of known.places which))).cells ≡ Some (record { which = which; version = known.version; states = read_again known.table })) (sym h.holding.geometry)
          ((h.holding.stands.tables (place_of known.places which) (both.fit.inside which).0).copies (both.fit.inside which).1 []
          (quiet_table g s.pages quiet (place_of known.places which) c.tables (both.fit.inside which).0) ∙ ap copy_of (both.at which))

  -- through operations that were all answered
  operations_known : (known : Known) (s : ChipState W) (operations : List OperationTrace) → Memory known s → AreOperations model partitions s known operations → AreFair model s operations → AreAnswered operations
      → Memory (known_after model partitions s known operations) (after_trace model s (events_in (traces_in operations)))
  operations_known known s [] h all fair done = h
  operations_known known s (o ∷ later) h all fair done =
      subst (Memory (known_after model partitions s known (o ∷ later))) joined
      (on o.reply done.0 all.1 (λ r. operations_known (known_then known (result_of (after_answers (answers_of model s (events_in o.trace)) (operation_path s.geometry partitions known o.op)))) (after_trace model s (events_in o.trace)) later r all.3 fair.1 done.1))
    where
      joined : after_trace model (after_trace model s (events_in o.trace)) (events_in (traces_in later)) ≡ after_trace model s (events_in (traces_in (o ∷ later)))
      joined = sym (ap (after_trace model s) (events-append o.trace (traces_in later)) ∙ after-append model s (events_in o.trace) (events_in (traces_in later)))

      geometry : s.geometry ≡ g
      geometry = h.holding.geometry

      fits : WritesAPage g o.op
      fits = subst (λ q. WritesAPage q o.op) geometry all.0

      on : (reply : Option Reply) → is_some reply ≡ true → IsOperationTrace model partitions s known o.op (events_in o.trace) reply
          → (Memory (known_then known (result_of (after_answers (answers_of model s (events_in o.trace)) (operation_path s.geometry partitions known o.op)))) (after_trace model s (events_in o.trace))
          → Memory (known_after model partitions s known (o ∷ later)) (after_trace model (after_trace model s (events_in o.trace)) (events_in (traces_in later))))
          → Memory (known_after model partitions s known (o ∷ later)) (after_trace model (after_trace model s (events_in o.trace)) (events_in (traces_in later)))
      on None none is_trace rest = absurd (false≢true none)
      on (Some reply) some (after, p) rest =
          rest (subst (λ q. Memory q (after_trace model s (events_in o.trace))) (sym (ap (known_then known) p.over))
          (forget (λ b. NoBlock b ⊎ NowAcked partitions o.op (Some reply) b) (λ b. AnyBlock b ⊎ (NowBegun partitions o.op (Some reply) b ⊎ TableFails model g s (events_in o.trace) b)) after (after_trace model s (events_in o.trace))
          (answered model g c enough F factory one two in_one in_two apart partitions NoBlock AnyBlock known after s o.op (events_in o.trace) reply h fits
          (subst (λ q. GoesAlong model (next_event (operation_path q partitions known o.op)) s [] (events_in o.trace)) geometry p.along) p.uncut
          (subst (λ q. result_of (after_answers (answers_of model s (events_in o.trace)) (operation_path q partitions known o.op)) ≡ Some (record { reply = reply; known = after })) geometry p.over) fair.0)))

  flips_known : (known : Known) (s : ChipState W) (flips : List Turned) → Memory known s → Memory known (after_trace model s (events_in (turned_events flips)))
  flips_known known s [] h = h
  flips_known known s (f ∷ flips) h =
      flips_known known (happens model s (Flipped f.page f.bit)) flips
      (record {
        holds = h.holds;
        holding = holding-flipped g c (Shows g F NoBlock AnyBlock) ((b : ℕ) → NoBlock b → ⊥) model h.holds None s f.page f.bit h.holding;
        rests = h.rests;
        both = h.both;
        form = h.form;
        shows = h.shows;
      })

  -- one boot
  boot_holds : (past : List (List Note)) (s : ChipState W) (b : ChipBoot) (notes : List Note) → IsChipHistory model partitions k s b.attach b.operations notes → Own partitions k g notes
      → Lives model g c enough F factory one two in_one in_two apart (Acked partitions k past) (Begun g partitions k past) s → was_quiet model s (events_in b.attach) ≡ true → is_fair k notes ≡ true → BootHoldsTheTable model partitions g s b
  unfolding with_tables
  boot_holds past s b notes h own alive quiet fair attaching is done are_two quiet_now =
      holds_table (known_after model partitions s1 (known_at_first attaching) b.operations) (after_trace model s (trace_of b))
      (subst (Memory (known_after model partitions s1 (known_at_first attaching) b.operations)) joined
      (flips_known (known_after model partitions s1 (known_at_first attaching) b.operations) (after_trace model s1 (events_in (traces_in b.operations))) b.flips_after
      (operations_known (known_at_first attaching) s1 b.operations
      (forget (Acked partitions k past) (λ d. Begun g partitions k past d ⊎ TableFails model g s (events_in b.attach) d) (known_at_first attaching) s1 (end.shown attaching is).1)
      (subst (λ o. FollowAttach model partitions o s1 b.operations) is (follow model partitions k g s b notes same h own)) (fair_operations model partitions k g s b notes same h own fair) done)))
      are_two quiet_now
    where
      s1 : ChipState W
      s1 = after_trace model s (events_in b.attach)

      same : s.geometry ≡ g
      same = alive.holding.geometry

      end : AttachEnd model g F partitions (with_tables model g c enough F factory one two in_one in_two apart partitions) (Acked partitions k past) (Begun g partitions k past) s (after_trace model s (events_in b.attach)) (events_in b.attach)
      end = attach_end model g F partitions (with_tables model g c enough F factory one two in_one in_two apart partitions) (Acked partitions k past) (Begun g partitions k past) s (events_in b.attach) alive h.along
          (attach_granted model k s b.attach (fair_attach model partitions k g s b notes same h own fair) quiet)

      joined : after_trace model (after_trace model (after_trace model s (events_in b.attach)) (events_in (traces_in b.operations))) (events_in (turned_events b.flips_after)) ≡ after_trace model s (trace_of b)
      joined = sym (ap (after_trace model s) (events-append (b.attach ++ traces_in b.operations) (turned_events b.flips_after) ∙ ap (λ zs. zs ++ events_in (turned_events b.flips_after)) (events-append b.attach (traces_in b.operations)))
          ∙ after-append model s (events_in b.attach ++ events_in (traces_in b.operations)) (events_in (turned_events b.flips_after))
          ∙ ap (λ t. after_trace model t (events_in (turned_events b.flips_after))) (after-append model s (events_in b.attach) (events_in (traces_in b.operations))))

  life_holds : (past : List (List Note)) (s : ChipState W) (life : List ChipBoot) (notes : List (List Note)) → AllWritePages g life → IsChipLife model partitions k s life notes
      → Lives model g c enough F factory one two in_one in_two apart (Acked partitions k past) (Begun g partitions k past) s → LifeHoldsTheTable model partitions k g s life (map (notes_of_chip partitions k) notes)
  unfolding with_tables
  life_holds past s [] [] fill h alive = tt
  life_holds past s [] (n ∷ notes) fill h alive = absurd h
  life_holds past s (b ∷ bs) [] fill h alive = absurd h
  life_holds past s (b ∷ bs) (n ∷ notes) fill h alive = λ quiet fair.
      let own = own_notes partitions k g (λ session. None) n (fill_boot model partitions k g s b (notes_of_chip partitions k n) h.0 (All-head (Fills g) b bs fill)) in
      let after = boot_through model partitions k g F (with_tables model g c enough F factory one two in_one in_two apart partitions) past s b (notes_of_chip partitions k n) (notes_of_chip partitions k n) h.0
      own (λ d. refl) (λ d e. e) alive fair quiet in (
        boot_holds past s b (notes_of_chip partitions k n) h.0 own alive quiet fair,
        life_holds (past ++ notes_of_chip partitions k n ∷ []) (after_trace model s (trace_of b)) bs notes (All-tail (Fills g) b bs fill) h.1 after,
      )

pub two_copies_hold : (partitions : Partitions) (k : ℕ) (g : Geometry) (bad : List ℕ) (weak : List Weak) → TwoCopiesHoldTheTable partitions k g bad weak
two_copies_hold partitions k g bad weak tables few life notes fill h =
    let t = tables_of g bad weak tables few in
    life_holds sim_faults g t.c t.enough (IsIn bad) t.factory t.one t.two t.in_one t.in_two t.apart partitions k [] (new_chip g bad weak) life notes fill h
    (lives-fewer sim_faults g t.c t.enough (IsIn bad) t.factory t.one t.two t.in_one t.in_two t.apart (λ b. ⊥) (λ b. ⊥) (Acked partitions k []) (Begun g partitions k []) (λ b a. false≢true a) (λ b x. absurd x) (new_chip g bad weak) t.alive)
