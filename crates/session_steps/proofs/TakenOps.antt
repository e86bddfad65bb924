-- Commands that can be run ask for operations of their own device that a chip takes.
use Rattle.std.proofs.Common.{◌≡◌, ◌≤◌, ℕ, zero, suc, ◌+◌, ◌-◌, ◌*◌, ◌/◌, ◌%◌, Bool, true, false, List, [], ◌∷◌, ◌++◌, length, take, drop, replicate, Some, sym, subst, arith, length-append, length-drop}
use Rattle.std.specs.Prelude.{⊤, if◌then◌else◌, ◌==◌}
use Rattle.std.proofs.lemmas.List.{length-replicate, length-take}
use Rattle.nand_model.specs.declared.geometry.Geometry.{Geometry}
use Rattle.nand_model.specs.declared.words.Command.{Command}
use Rattle.nand_model.specs.declared.words.Command.TheVariants.{FlashErase, NandWrite, NandDump, NandTest, MarkBad, IsBad as AskBad, Stats as AskStats}
use Rattle.nand_model.specs.declared.words.Op.{Op}
use Rattle.nand_model.specs.declared.words.Op.TheVariants.{RawRead, Read}
use Rattle.nand_model.specs.declared.words.Reply.{Reply}
use Rattle.nand_model.specs.declared.words.Reply.TheVariants.{Done, BadBlock, MarkerByte, ProgramFailed, EraseFailed}
use Rattle.nand_model.specs.Sizes.{parity_start}
use Rattle.nand_model.specs.Partitions.{device_of, command_device}
use Rattle.command_model.specs.Command.{Script, End, Ask, next_in, after_replies, script_of, erase_blocks, erase_and_mark, write_unit, write_pages, write_blocks, after_write, says_bad, is_dump_bad, unit_size, unit_count, units_of, count_or_rest, block_size, WriteMode, WriteCounts, DumpMode, DumpCounts, dump_pages, dump_block, dump_blocks}
use Rattle.command_model.specs.Session.{SessionRun, next_op_of, op_of_next}
use Rattle.command_model.specs.Laws.{AsksOnly}
use Rattle.command_model.proofs.Devices.{own_device}
use Rattle.command_model.specs.Taken.{IsTaken}
use Rattle.command_model.specs.NandTest.{TestMode, TestCounts, after_change, read_bodies, compare_bodies, write_bodies, kept_body, pass_body, test_worn, test_change, test_rewrite, test_block, test_blocks, test_passes}
use Rattle.tool_steps.proofs.Numbered.{numbered-length}
use Rattle.tool_steps.proofs.Scripts.{parity_start-low}
use Rattle.session_steps.specs.Standing.{First}
use Rattle.session_steps.specs.Mirrors.{CanAllRun}

-- each operation that a script asks for, whatever the replies, is taken
abbrev AsksTaken : Geometry → Script → Type 0
AsksTaken g (End outcome) = ⊤
AsksTaken g (Ask op go_on) = IsTaken g op × ((reply : Reply) → AsksTaken g (go_on reply))

either_taken : (g : Geometry) (b : Bool) (x y : Script) → AsksTaken g x → AsksTaken g y → AsksTaken g (if b then x else y)
either_taken g true x y h k = h
either_taken g false x y h k = k

-- flash_erase
erase_taken : (g : Geometry) (dev : ℕ) (no_scan : Bool) (left block erased bad failed : ℕ) → AsksTaken g (erase_blocks dev no_scan left block erased bad failed)
erase_taken g dev no_scan zero block erased bad failed = tt
erase_taken g dev no_scan (suc left) block erased bad failed =
    either_taken g no_scan _ _ (tt, λ r. erase_taken g dev no_scan left (block + 1) _ _ _)
    (tt, λ r. either_taken g (says_bad r) _ _ (erase_taken g dev no_scan left (block + 1) _ _ _) (tt, λ s. erase_taken g dev no_scan left (block + 1) _ _ _))

after_write_taken : (g : Geometry) (r : Reply) (good failed skipped marker : Script)
    → AsksTaken g good → AsksTaken g failed → AsksTaken g skipped → AsksTaken g marker
    → AsksTaken g (after_write r good failed skipped marker)
after_write_taken g Done good failed skipped marker a b c d = a
after_write_taken g ProgramFailed good failed skipped marker a b c d = b
after_write_taken g BadBlock good failed skipped marker a b c d = c
after_write_taken g MarkerByte good failed skipped marker a b c d = d
after_write_taken g _ good failed skipped marker a b c d = a

-- units of one length
abbrev AreLong : ℕ → List (List ℕ) → Type 0
AreLong size [] = ⊤
AreLong size (unit ∷ units) = (length unit ≡ size) × AreLong size units

units_long : (size n : ℕ) (bytes : List ℕ) → AreLong size (units_of size n bytes)
units_long size zero bytes = tt
units_long size (suc n) bytes = (
  omega (arith, length-append (take size bytes) (replicate (size - length bytes) 0xff), length-take size bytes, length-replicate {A = ℕ} (size - length bytes) 0xff),
  units_long size n (drop size bytes),
)

parities-in : (g : Geometry) → parity_start g ≤ g.spare
parities-in g = omega arith

unit_taken : (g : Geometry) (m : WriteMode) (page : ℕ) (unit : List ℕ) → length unit ≡ unit_size g m.oob → IsTaken g (write_unit g m page unit)
unit_taken g m page unit long = by_mode m.raw m.oob long
  where
    by_mode : (raw oob : Bool) → length unit ≡ unit_size g oob → IsTaken g (write_unit g (record { dev = m.dev; mark = m.mark; raw = raw; oob = oob }) page unit)
    by_mode true true h = h
    by_mode true false h = omega (arith, h, length-append unit (replicate g.spare 0xff), length-replicate {A = ℕ} g.spare 0xff)
    by_mode false true h = record {
      body_length = omega (arith, h, length-take g.page unit);
      free_length = omega (
        arith,
        h,
        length-take (g.page + parity_start g - (g.page + 2)) (drop (g.page + 2) unit),
        length-drop (g.page + 2) unit,
        parity_start-low g,
        parities-in g,
      );
    }
    by_mode false false h = record {
      body_length = omega (arith, h, length-take g.page unit);
      free_length = omega (arith, length-replicate {A = ℕ} (parity_start g - 2) 0xff, parity_start-low g);
    }

module _ (g : Geometry) (m : WriteMode) where
  erased_taken : (block : ℕ) (rest : Script) → AsksTaken g rest → AsksTaken g (erase_and_mark m block rest)
  erased_taken block rest h = (tt, λ r. either_taken g m.mark _ _ (tt, λ s. h) h)

  -- nandwrite
  pages_taken : (block : ℕ) (taken : List (List ℕ)) (c : WriteCounts) (next_block : List (List ℕ) → WriteCounts → Script)
      → ((us : List (List ℕ)) (d : WriteCounts) → AreLong (unit_size g m.oob) us → AsksTaken g (next_block us d)) → AreLong (unit_size g m.oob) taken
      → (in_block place : ℕ) (units : List (List ℕ)) → AreLong (unit_size g m.oob) units → AsksTaken g (write_pages g m block taken c next_block in_block place units)
  pages_taken block taken c next_block next all in_block place [] long = tt
  pages_taken block taken c next_block next all in_block place (unit ∷ units) long =
      either_taken g (place == g.pages_per_block) _ _ (next (unit ∷ units) _ long) (
        unit_taken g m (block * g.pages_per_block + place) unit long.0,
        λ r. after_write_taken g r _ _ _ _
            (pages_taken block taken c next_block next all (in_block + 1) (place + 1) units long.1)
            (erased_taken block _ (next taken _ all)) (next taken _ all) tt,
      )

  blocks_taken : (left block place : ℕ) (units : List (List ℕ)) (c : WriteCounts) → AreLong (unit_size g m.oob) units
      → AsksTaken g (write_blocks g m left block place units c)
  blocks_taken left block place [] c long = tt
  blocks_taken zero block place (unit ∷ units) c long = tt
  blocks_taken (suc left) block place (unit ∷ units) c long = (
    tt,
    λ r. either_taken g (says_bad r) _ _ (blocks_taken left (block + 1) 0 (unit ∷ units) _ long)
        (pages_taken block (unit ∷ units) c (λ us d. write_blocks g m left (block + 1) 0 us d) (λ us d h. blocks_taken left (block + 1) 0 us d h) long 0 place
        (unit ∷ units) long),
  )

module _ (g : Geometry) (m : DumpMode) where
  -- nanddump
  reads_taken : (left page : ℕ) (c : DumpCounts) (go_on : DumpCounts → Script) → ((d : DumpCounts) → AsksTaken g (go_on d)) → AsksTaken g (dump_pages g m left page c go_on)
  reads_taken zero page c go_on h = h c
  reads_taken (suc left) page c go_on h = (by_raw m.raw, λ r. reads_taken left (page + 1) _ go_on h)
    where
      by_raw : (b : Bool) → IsTaken g (if b then RawRead m.dev page else Read m.dev page)
      by_raw true = tt
      by_raw false = tt

  block_taken : (n page : ℕ) (c : DumpCounts) (go_on : DumpCounts → Script) → ((d : DumpCounts) → AsksTaken g (go_on d)) → AsksTaken g (dump_block g m n page c go_on)
  block_taken n page c go_on h = either_taken g (is_dump_bad m.bad) _ _ (reads_taken n page c go_on h)
      (tt, λ r. either_taken g (says_bad r) _ _ (h _) (reads_taken n page c go_on h))

  dump_taken : (blocks left page : ℕ) (c : DumpCounts) → AsksTaken g (dump_blocks g m blocks left page c)
  dump_taken zero left page c = tt
  dump_taken (suc blocks) left page c = block_taken _ page c _ (λ d. dump_taken blocks _ _ d)

module _ (g : Geometry) (m : TestMode) where
  -- nandtest
  change_taken : (r : Reply) (good worn refused : Script) → AsksTaken g good → AsksTaken g worn → AsksTaken g refused → AsksTaken g (after_change r good worn refused)
  change_taken ProgramFailed good worn refused a b c = b
  change_taken EraseFailed good worn refused a b c = b
  change_taken BadBlock good worn refused a b c = c
  change_taken _ good worn refused a b c = a

  kept_taken : (block left place : ℕ) (kept : List ℕ) (c : TestCounts) (go_on : List ℕ → TestCounts → Script) → ((bytes : List ℕ) (d : TestCounts) → AsksTaken g (go_on bytes d))
      → AsksTaken g (read_bodies g m.dev block left place kept c go_on)
  kept_taken block zero place kept c go_on h = h kept c
  kept_taken block (suc left) place kept c go_on h = (tt, λ r. kept_taken block left (place + 1) _ _ go_on h)

  compared_taken : (block : ℕ) (body : ℕ → List ℕ) (left place : ℕ) (differ : Bool) (c : TestCounts) (go_on : Bool → TestCounts → Script)
      → ((b : Bool) (d : TestCounts) → AsksTaken g (go_on b d)) → AsksTaken g (compare_bodies g m.dev block body left place differ c go_on)
  compared_taken block body zero place differ c go_on h = h differ c
  compared_taken block body (suc left) place differ c go_on h = (tt, λ r. compared_taken block body left (place + 1) _ _ go_on h)

  written_taken : (block : ℕ) (body : ℕ → List ℕ) → ((place : ℕ) → length (body place) ≡ g.page) → (left place : ℕ) (good worn refused : Script)
      → AsksTaken g good → AsksTaken g worn → AsksTaken g refused → AsksTaken g (write_bodies g m.dev block body left place good worn refused)
  written_taken block body whole zero place good worn refused a b c = a
  written_taken block body whole (suc left) place good worn refused a b c = (
    record {
      body_length = whole place;
      free_length = omega (arith, length-replicate {A = ℕ} (parity_start g - 2) 0xff, parity_start-low g);
    },
    λ r. change_taken r _ worn refused (written_taken block body whole left (place + 1) good worn refused a b c) b c,
  )

  module _ (next_block : TestCounts → Script) (h : (d : TestCounts) → AsksTaken g (next_block d)) where
    worn_taken : (block : ℕ) (c : TestCounts) → AsksTaken g (test_worn m block c next_block)
    worn_taken block c = either_taken g m.mark _ _ (tt, λ r. h _) (h _)

    rewritten_taken : (block : ℕ) (body : ℕ → List ℕ) → ((place : ℕ) → length (body place) ≡ g.page) → (c : TestCounts) (done : Script) → AsksTaken g done
        → AsksTaken g (test_change g m block body c next_block done)
    rewritten_taken block body whole c done d =
        (tt, λ r. change_taken r _ _ _ (written_taken block body whole g.pages_per_block 0 done _ _ d (worn_taken block c) (h _)) (worn_taken block c) (h _))

    kept_whole : (kept : List ℕ) (place : ℕ) → length (kept_body g kept place) ≡ g.page
    kept_whole kept place = omega (
      arith,
      length-take g.page (drop (place * g.page) kept ++ replicate g.page 0xff),
      length-append (drop (place * g.page) kept) (replicate g.page 0xff),
      length-replicate {A = ℕ} g.page 0xff,
    )

    tested_taken : (seed block : ℕ) (kept : List ℕ) (c : TestCounts) → AsksTaken g (test_rewrite g m seed block kept c next_block)
    tested_taken seed block kept c =
        rewritten_taken block (pass_body g seed block) (λ place. numbered-length _ 0 g.page) c _
        (compared_taken block (pass_body g seed block) g.pages_per_block 0 false c _
        (λ differ d. either_taken g differ _ _ (worn_taken block d)
        (either_taken g m.keep _ _ (rewritten_taken block (kept_body g kept) (kept_whole kept) d _ (h _)) (h _))))

    test_taken : (seed block : ℕ) (c : TestCounts) → AsksTaken g (test_block g m seed block c next_block)
    test_taken seed block c = (
      tt,
      λ r. either_taken g (says_bad r) _ _ (h _)
          (either_taken g m.keep _ _ (kept_taken block g.pages_per_block 0 [] c _ (λ kept d. tested_taken seed block kept d)) (tested_taken seed block [] c)),
    )

  tests_taken : (seed left block : ℕ) (c : TestCounts) (next_pass : TestCounts → Script) → ((d : TestCounts) → AsksTaken g (next_pass d))
      → AsksTaken g (test_blocks g m seed left block c next_pass)
  tests_taken seed zero block c next_pass h = h c
  tests_taken seed (suc left) block c next_pass h = test_taken _ (λ d. tests_taken seed left (block + 1) d next_pass h) seed block c

  passes_taken : (first count left : ℕ) (c : TestCounts) → AsksTaken g (test_passes g m first count left c)
  passes_taken first count zero c = tt
  passes_taken first count (suc left) c = tests_taken _ count first c _ (λ d. passes_taken first count left d)

-- each operation that a command asks for, whatever the replies, is taken
all_taken : (g : Geometry) (command : Command) → AsksTaken g (script_of g command)
all_taken g (FlashErase dev blocks no_scan start count) = erase_taken g dev no_scan (count_or_rest count start blocks) start 0 0 0
all_taken g (NandWrite dev blocks mark raw oob pad off bytes) =
    blocks_taken g (record { dev = dev; mark = mark; raw = raw; oob = oob }) (blocks - off / block_size g) (off / block_size g) (off / g.page % g.pages_per_block)
    (units_of (unit_size g oob) (unit_count g oob bytes) bytes) (record { pages = 0; skipped = 0; failed = 0 }) (units_long (unit_size g oob) (unit_count g oob bytes) bytes)
all_taken g (NandDump dev blocks off len raw oob bad) = dump_taken g (record { dev = dev; raw = raw; oob = oob; bad = bad }) _ _ _ _
all_taken g (NandTest dev blocks keep mark seed passes off len) =
    passes_taken g (record { dev = dev; keep = keep; mark = mark; seed = seed; passes = passes }) _ _ passes _
all_taken g (MarkBad dev blocks block) = (tt, λ r. tt)
all_taken g (AskBad dev blocks block) = (tt, λ r. tt)
all_taken g (AskStats dev blocks) = (tt, λ r. tt)

taken_later : (g : Geometry) (replies : List Reply) (script : Script) → AsksTaken g script → AsksTaken g (after_replies replies script)
taken_later g [] script h = h
taken_later g (r ∷ replies) (End outcome) h = tt
taken_later g (r ∷ replies) (Ask op go_on) h = taken_later g replies (go_on r) (h.1 r)

own_later : (dev : ℕ) (replies : List Reply) (script : Script) → AsksOnly dev script → AsksOnly dev (after_replies replies script)
own_later dev [] script h = h
own_later dev (r ∷ replies) (End outcome) h = tt
own_later dev (r ∷ replies) (Ask op go_on) h = own_later dev replies (go_on r) (h.1 r)

-- the next operation of a script
asked_taken : (g : Geometry) (dev : ℕ) (script : Script) (op : Op) → AsksOnly dev script → AsksTaken g script → op_of_next (next_in script) ≡ Some op
    → (device_of op ≡ dev) × IsTaken g op
asked_taken g dev (End outcome) op own taken e = cc
asked_taken g dev (Ask other go_on) op own taken e = subst (λ (o : Op). (device_of o ≡ dev) × IsTaken g o) (same other e) (own.0, taken.0)
  where
    same : (other : Op) → Some other ≡ Some op → other ≡ op
    same other e = cc

-- the next operation of commands that can be run
pub next_taken : (sizes : Command → Geometry) (run : SessionRun) (op : Op) → CanAllRun sizes run.commands → next_op_of sizes run.commands run.replies ≡ Some op
    → First (λ c. (device_of op ≡ command_device c) × IsTaken (sizes c) op) run.commands
next_taken sizes run op runnable e = by_commands run.commands runnable e
  where
    by_commands : (commands : List Command) → CanAllRun sizes commands → next_op_of sizes commands run.replies ≡ Some op
        → First (λ c. (device_of op ≡ command_device c) × IsTaken (sizes c) op) commands
    by_commands [] h e = cc
    by_commands (command ∷ commands) h e =
        let taken : AsksTaken (sizes command) (script_of (sizes command) command) = all_taken (sizes command) command in
        asked_taken (sizes command) (command_device command) (after_replies run.replies (script_of (sizes command) command)) op
        (own_later (command_device command) run.replies _ (own_device (sizes command) command)) (taken_later (sizes command) run.replies _ taken) e
