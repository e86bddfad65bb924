-- A command asks for operations of its device alone.
use Rattle.std.proofs.Common.{◌≡◌, ℕ, zero, suc, ◌+◌, ◌*◌, not, Bool, true, false, List, [], ◌∷◌, refl}
use Rattle.std.specs.Prelude.{if◌then◌else◌, ◌==◌}
use Rattle.nand_model.specs.declared.geometry.Geometry.{Geometry}
use Rattle.nand_model.specs.declared.words.Command.{Command}
use Rattle.nand_model.specs.declared.words.Command.TheVariants.{FlashErase, NandWrite, NandDump, NandTest, MarkBad, IsBad as AskBad, Stats as AskStats}
use Rattle.nand_model.specs.declared.words.Op.{Op}
use Rattle.nand_model.specs.declared.words.Op.TheVariants.{Read, RawRead, Erase}
use Rattle.nand_model.specs.declared.words.Reply.{Reply}
use Rattle.nand_model.specs.declared.words.Reply.TheVariants.{Done, BadBlock, MarkerByte, ProgramFailed, EraseFailed}
use Rattle.nand_model.specs.Partitions.{device_of, command_device}
use Rattle.command_model.specs.Command.{Script, Ask, is_done, says_bad, one_if, erase_blocks, WriteMode, WriteCounts, write_unit, after_write, write_pages, write_blocks, DumpMode, DumpCounts, is_dump_bad, dump_pages, dump_block, dump_blocks, script_of}
use Rattle.command_model.specs.NandTest.{TestMode, TestCounts, read_bodies, compare_bodies, after_change, write_bodies, pass_body, kept_body, test_worn, test_change, test_restore, test_rewrite, test_block, test_blocks, test_passes}
use Rattle.command_model.specs.Laws.{AsksOnly}

module _ (dev : ℕ) where
  -- of one device in both cases, after every answer
  either_asks : (b : Bool) (x y : Script) → AsksOnly dev x → AsksOnly dev y → AsksOnly dev (if b then x else y)
  either_asks true x y h k = h
  either_asks false x y h k = k

  after_write_asks : (r : Reply) (good failed skipped marker : Script) → AsksOnly dev good → AsksOnly dev failed → AsksOnly dev skipped → AsksOnly dev marker
      → AsksOnly dev (after_write r good failed skipped marker)
  after_write_asks Done good failed skipped marker g f s m = g
  after_write_asks ProgramFailed good failed skipped marker g f s m = f
  after_write_asks BadBlock good failed skipped marker g f s m = s
  after_write_asks MarkerByte good failed skipped marker g f s m = m
  after_write_asks _ good failed skipped marker g f s m = g

  after_change_asks : (r : Reply) (good worn refused : Script) → AsksOnly dev good → AsksOnly dev worn → AsksOnly dev refused → AsksOnly dev (after_change r good worn refused)
  after_change_asks ProgramFailed good worn refused g w r = w
  after_change_asks EraseFailed good worn refused g w r = w
  after_change_asks BadBlock good worn refused g w r = r
  after_change_asks _ good worn refused g w r = g

  -- flash_erase
  erase_asks : (no_scan : Bool) (left block erased bad failed : ℕ) → AsksOnly dev (erase_blocks dev no_scan left block erased bad failed)
  erase_asks no_scan zero block erased bad failed = tt
  erase_asks no_scan (suc left) block erased bad failed =
      let erase : AsksOnly dev (Ask (Erase dev block) (λ r. erase_blocks dev no_scan left (block + 1) (erased + one_if (is_done r)) bad (failed + one_if (not (is_done r))))) =
      (refl, λ r. erase_asks no_scan left (block + 1) (erased + one_if (is_done r)) bad (failed + one_if (not (is_done r)))) in
      either_asks no_scan _ _ erase (refl, λ r. either_asks (says_bad r) _ _ (erase_asks no_scan left (block + 1) erased (bad + 1) failed) erase)

  -- reads and writes of bodies
  read_asks : (g : Geometry) (block left place : ℕ) (kept : List ℕ) (c : TestCounts) (go_on : List ℕ → TestCounts → Script)
      → ((bytes : List ℕ) (d : TestCounts) → AsksOnly dev (go_on bytes d)) → AsksOnly dev (read_bodies g dev block left place kept c go_on)
  read_asks g block zero place kept c go_on h = h kept c
  read_asks g block (suc left) place kept c go_on h = (refl, λ r. read_asks g block left (place + 1) _ _ go_on h)

  compare_asks : (g : Geometry) (block : ℕ) (body : ℕ → List ℕ) (left place : ℕ) (differ : Bool) (c : TestCounts) (go_on : Bool → TestCounts → Script)
      → ((b : Bool) (d : TestCounts) → AsksOnly dev (go_on b d)) → AsksOnly dev (compare_bodies g dev block body left place differ c go_on)
  compare_asks g block body zero place differ c go_on h = h differ c
  compare_asks g block body (suc left) place differ c go_on h = (refl, λ r. compare_asks g block body left (place + 1) _ _ go_on h)

  write_asks : (g : Geometry) (block : ℕ) (body : ℕ → List ℕ) (left place : ℕ) (good worn refused : Script) → AsksOnly dev good → AsksOnly dev worn
      → AsksOnly dev refused → AsksOnly dev (write_bodies g dev block body left place good worn refused)
  write_asks g block body zero place good worn refused h w r = h
  write_asks g block body (suc left) place good worn refused h w r =
      (refl, λ reply. after_change_asks reply _ worn refused (write_asks g block body left (place + 1) good worn refused h w r) w r)

module _ (g : Geometry) (m : WriteMode) where
  unit_device : (page : ℕ) (unit : List ℕ) → device_of (write_unit g m page unit) ≡ m.dev
  unit_device page unit = by_raw m.raw _ _ refl refl
    where
      by_raw : (b : Bool) (x y : Op) → device_of x ≡ m.dev → device_of y ≡ m.dev → device_of (if b then x else y) ≡ m.dev
      by_raw true x y h k = h
      by_raw false x y h k = k

  -- nandwrite
  pages_ask : (block : ℕ) (taken : List (List ℕ)) (c : WriteCounts) (next_block : List (List ℕ) → WriteCounts → Script) → ((us : List (List ℕ)) (d : WriteCounts) → AsksOnly m.dev (next_block us d))
      → (in_block place : ℕ) (units : List (List ℕ)) → AsksOnly m.dev (write_pages g m block taken c next_block in_block place units)
  pages_ask block taken c next_block h in_block place [] = tt
  pages_ask block taken c next_block h in_block place (unit ∷ units) =
      either_asks m.dev (place == g.pages_per_block) _ _ (h (unit ∷ units) _) (
        unit_device (block * g.pages_per_block + place) unit,
        λ r. after_write_asks m.dev r _ _ _ _
            (pages_ask block taken c next_block h (in_block + 1) (place + 1) units)
            (refl, λ s. either_asks m.dev m.mark _ _ (refl, λ t. h taken _) (h taken _))
            (h taken _) tt,
      )

  blocks_ask : (left block place : ℕ) (units : List (List ℕ)) (c : WriteCounts) → AsksOnly m.dev (write_blocks g m left block place units c)
  blocks_ask left block place [] c = tt
  blocks_ask zero block place (unit ∷ units) c = tt
  blocks_ask (suc left) block place (unit ∷ units) c = (
    refl,
    λ r. either_asks m.dev (says_bad r) _ _
        (blocks_ask left (block + 1) 0 (unit ∷ units) _)
        (pages_ask block (unit ∷ units) c (λ us d. write_blocks g m left (block + 1) 0 us d) (λ us d. blocks_ask left (block + 1) 0 us d) 0 place (unit ∷ units)),
  )

module _ (g : Geometry) (m : DumpMode) where
  -- nanddump
  dump_pages_ask : (left page : ℕ) (c : DumpCounts) (go_on : DumpCounts → Script) → ((d : DumpCounts) → AsksOnly m.dev (go_on d)) → AsksOnly m.dev (dump_pages g m left page c go_on)
  dump_pages_ask zero page c go_on h = h c
  dump_pages_ask (suc left) page c go_on h = (by_raw m.raw, λ r. dump_pages_ask left (page + 1) _ go_on h)
    where
      by_raw : (b : Bool) → device_of (if b then RawRead m.dev page else Read m.dev page) ≡ m.dev
      by_raw true = refl
      by_raw false = refl

  dump_block_asks : (n page : ℕ) (c : DumpCounts) (go_on : DumpCounts → Script) → ((d : DumpCounts) → AsksOnly m.dev (go_on d)) → AsksOnly m.dev (dump_block g m n page c go_on)
  dump_block_asks n page c go_on h = either_asks m.dev (is_dump_bad m.bad) _ _ (dump_pages_ask n page c go_on h)
      (refl, λ r. either_asks m.dev (says_bad r) _ _ (h _) (dump_pages_ask n page c go_on h))

  dump_asks : (blocks left page : ℕ) (c : DumpCounts) → AsksOnly m.dev (dump_blocks g m blocks left page c)
  dump_asks zero left page c = tt
  dump_asks (suc blocks) left page c = dump_block_asks _ page c _ (λ d. dump_asks blocks _ _ d)

module _ (g : Geometry) (m : TestMode) where
  -- nandtest
  worn_asks : (block : ℕ) (c : TestCounts) (next_block : TestCounts → Script) → ((d : TestCounts) → AsksOnly m.dev (next_block d)) → AsksOnly m.dev (test_worn m block c next_block)
  worn_asks block c next_block h = either_asks m.dev m.mark _ _ (refl, λ r. h _) (h _)

  change_asks : (block : ℕ) (body : ℕ → List ℕ) (c : TestCounts) (next_block : TestCounts → Script) (done : Script) → ((d : TestCounts) → AsksOnly m.dev (next_block d)) → AsksOnly m.dev done
      → AsksOnly m.dev (test_change g m block body c next_block done)
  change_asks block body c next_block done h k = (
    refl,
    λ r. after_change_asks m.dev r _ _ _
        (write_asks m.dev g block body g.pages_per_block 0 done _ _ k (worn_asks block c next_block h) (h _)) (worn_asks block c next_block h) (h _),
  )

  restore_asks : (block : ℕ) (kept : List ℕ) (c : TestCounts) (next_block : TestCounts → Script) → ((d : TestCounts) → AsksOnly m.dev (next_block d)) → AsksOnly m.dev (test_restore g m block kept c next_block)
  restore_asks block kept c next_block h = either_asks m.dev m.keep _ _ (change_asks block (kept_body g kept) c next_block _ h (h _)) (h _)

  rewrite_asks : (seed block : ℕ) (kept : List ℕ) (c : TestCounts) (next_block : TestCounts → Script) → ((d : TestCounts) → AsksOnly m.dev (next_block d))
      → AsksOnly m.dev (test_rewrite g m seed block kept c next_block)
  rewrite_asks seed block kept c next_block h = change_asks block (pass_body g seed block) c next_block _ h
      (compare_asks m.dev g block (pass_body g seed block) g.pages_per_block 0 false c _
      (λ differ d. either_asks m.dev differ _ _ (worn_asks block d next_block h) (restore_asks block kept d next_block h)))

  block_asks : (seed block : ℕ) (c : TestCounts) (next_block : TestCounts → Script) → ((d : TestCounts) → AsksOnly m.dev (next_block d)) → AsksOnly m.dev (test_block g m seed block c next_block)
  block_asks seed block c next_block h = (
    refl,
    λ r. either_asks m.dev (says_bad r) _ _ (h _)
        (either_asks m.dev m.keep _ _
        (read_asks m.dev g block g.pages_per_block 0 [] c _ (λ kept d. rewrite_asks seed block kept d next_block h))
        (rewrite_asks seed block [] c next_block h)),
  )

  test_blocks_ask : (seed left block : ℕ) (c : TestCounts) (next_pass : TestCounts → Script) → ((d : TestCounts) → AsksOnly m.dev (next_pass d)) → AsksOnly m.dev (test_blocks g m seed left block c next_pass)
  test_blocks_ask seed zero block c next_pass h = h c
  test_blocks_ask seed (suc left) block c next_pass h = block_asks seed block c _ (λ d. test_blocks_ask seed left (block + 1) d next_pass h)

  passes_ask : (first count left : ℕ) (c : TestCounts) → AsksOnly m.dev (test_passes g m first count left c)
  passes_ask first count zero c = tt
  passes_ask first count (suc left) c = test_blocks_ask _ count first c _ (λ d. passes_ask first count left d)

pub own_device : (g : Geometry) (command : Command) → AsksOnly (command_device command) (script_of g command)
own_device g (FlashErase dev blocks no_scan start count) = erase_asks dev no_scan _ start 0 0 0
own_device g (NandWrite dev blocks mark raw oob pad off bytes) = blocks_ask g (record { dev = dev; mark = mark; raw = raw; oob = oob }) _ _ _ _ _
own_device g (NandDump dev blocks off len raw oob bad) = dump_asks g (record { dev = dev; raw = raw; oob = oob; bad = bad }) _ _ _ _
own_device g (NandTest dev blocks keep mark seed passes off len) = passes_ask g (record { dev = dev; keep = keep; mark = mark; seed = seed; passes = passes }) _ _ passes _
own_device g (MarkBad dev blocks block) = (refl, λ r. tt)
own_device g (AskBad dev blocks block) = (refl, λ r. tt)
own_device g (AskStats dev blocks) = (refl, λ r. tt)
