-- Each body that a command writes is one page long, whatever the replies.
use Rattle.std.proofs.Common.{◌≡◌, ◌≤◌, ℕ, zero, suc, ◌+◌, ◌-◌, ◌*◌, not, Bool, true, false, List, [], ◌∷◌, ◌++◌, length, take, drop, replicate, arith, ◌∙◌}
use Rattle.std.specs.Prelude.{if◌then◌else◌, ◌==◌, ⊤}
use Rattle.std.proofs.lemmas.List.{length-append, length-map, length-replicate, length-take, length-take-le}
use Rattle.nand_model.specs.Sizes.{numbers_from}
use Rattle.nand_model.specs.Seeds.{seed_byte}
use Rattle.nand_model.specs.declared.geometry.Geometry.{Geometry}
use Rattle.nand_model.specs.declared.words.Command.{Command}
use Rattle.nand_model.specs.declared.words.Command.TheVariants.{FlashErase, NandWrite, NandDump, NandTest, MarkBad, IsBad as AskBad, Stats as AskStats}
use Rattle.nand_model.specs.declared.words.Op.{Op}
use Rattle.nand_model.specs.declared.words.Op.TheVariants.{Read, RawRead, Erase}
use Rattle.nand_model.specs.declared.words.Reply.{Reply}
use Rattle.nand_model.specs.declared.words.Reply.TheVariants.{Done, BadBlock, MarkerByte, ProgramFailed, EraseFailed}
use Rattle.command_model.specs.Scripts.{Script, Ask, is_done, says_bad, one_if, unit_size}
use Rattle.command_model.specs.FlashErase.{erase_blocks}
use Rattle.command_model.specs.NandWrite.{WriteMode, WriteCounts, units_of, write_unit, after_write, write_pages, write_blocks}
use Rattle.command_model.specs.NandDump.{DumpMode, DumpCounts, is_dump_bad, dump_pages, dump_block, dump_blocks}
use Rattle.command_model.specs.NandTest.{TestMode, TestCounts, read_bodies, compare_bodies, after_change, write_bodies, pass_body, kept_body, page_at, test_worn, test_change, test_restore, test_rewrite, test_block, test_blocks, test_passes}
use Rattle.command_model.specs.Command.{script_of}
use Rattle.run_model.specs.Survival.{WritesAPage}
use Rattle.headline_laws.specs.Bodies.{WritesBodies}
use Rattle.headline_laws.proofs.Numbers.{length-numbers}

-- units that have at least a body
abbrev AreLong : Geometry → List (List ℕ) → Type 0
AreLong g [] = ⊤
AreLong g (unit ∷ units) = (g.page ≤ length unit) × AreLong g units

module _ (g : Geometry) where
  -- in both cases, and after every answer
  either : (b : Bool) (x y : Script) → WritesBodies g x → WritesBodies g y → WritesBodies g (if b then x else y)
  either true x y h k = h
  either false x y h k = k

  write_answered : (r : Reply) (good failed skipped marker : Script) → WritesBodies g good → WritesBodies g failed → WritesBodies g skipped
      → WritesBodies g marker → WritesBodies g (after_write r good failed skipped marker)
  write_answered Done good failed skipped marker h f s m = h
  write_answered ProgramFailed good failed skipped marker h f s m = f
  write_answered BadBlock good failed skipped marker h f s m = s
  write_answered MarkerByte good failed skipped marker h f s m = m
  write_answered _ good failed skipped marker h f s m = h

  change_answered : (r : Reply) (good worn refused : Script) → WritesBodies g good → WritesBodies g worn → WritesBodies g refused
      → WritesBodies g (after_change r good worn refused)
  change_answered ProgramFailed good worn refused h w r = w
  change_answered EraseFailed good worn refused h w r = w
  change_answered BadBlock good worn refused h w r = r
  change_answered _ good worn refused h w r = h

  -- flash_erase
  erases : (dev : ℕ) (no_scan : Bool) (left block erased bad failed : ℕ) → WritesBodies g (erase_blocks dev no_scan left block erased bad failed)
  erases dev no_scan zero block erased bad failed = tt
  erases dev no_scan (suc left) block erased bad failed =
      let erase : WritesBodies g (Ask (Erase dev block) (λ r. erase_blocks dev no_scan left (block + 1) (erased + one_if (is_done r)) bad (failed + one_if (not (is_done r))))) =
      (tt, λ r. erases dev no_scan left (block + 1) (erased + one_if (is_done r)) bad (failed + one_if (not (is_done r)))) in
      either no_scan _ _ erase (tt, λ r. either (says_bad r) _ _ (erases dev no_scan left (block + 1) erased (bad + 1) failed) erase)

  -- nandwrite: each unit has a body, since the last one is padded
  unit_long : (oob : Bool) → g.page ≤ unit_size g oob
  unit_long true = omega arith
  unit_long false = omega arith

  units_long : (size : ℕ) → g.page ≤ size → (count : ℕ) (bytes : List ℕ) → AreLong g (units_of size count bytes)
  units_long size le zero bytes = tt
  units_long size le (suc count) bytes = (
    (let joined = length-append (take size bytes) (replicate (size - length bytes) 0xff) in
        let taken = length-take size bytes in
        let padding = length-replicate {A = ℕ} (size - length bytes) 0xff in
        omega (arith, le, joined, taken, padding)),
    units_long size le count (drop size bytes),
  )

  unit_written : (m : WriteMode) (page : ℕ) (unit : List ℕ) → g.page ≤ length unit → WritesAPage g (write_unit g m page unit)
  unit_written m page unit long = by_raw m.raw _ _ tt (length-take-le g.page unit long)
    where
      by_raw : (b : Bool) (x y : Op) → WritesAPage g x → WritesAPage g y → WritesAPage g (if b then x else y)
      by_raw true x y h k = h
      by_raw false x y h k = k

  pages_written : (m : WriteMode) (block : ℕ) (taken : List (List ℕ)) → AreLong g taken → (c : WriteCounts) (next_block : List (List ℕ) → WriteCounts → Script)
      → ((us : List (List ℕ)) (d : WriteCounts) → AreLong g us → WritesBodies g (next_block us d))
      → (in_block place : ℕ) (units : List (List ℕ)) → AreLong g units → WritesBodies g (write_pages g m block taken c next_block in_block place units)
  pages_written m block taken all c next_block h in_block place [] long = tt
  pages_written m block taken all c next_block h in_block place (unit ∷ units) long =
      either (place == g.pages_per_block) _ _ (h (unit ∷ units) _ long) (
        unit_written m (block * g.pages_per_block + place) unit long.0,
        λ r. write_answered r _ _ _ _
            (pages_written m block taken all c next_block h (in_block + 1) (place + 1) units long.1)
            (tt, λ s. either m.mark _ _ (tt, λ t. h taken _ all) (h taken _ all))
            (h taken _ all) tt,
      )

  blocks_written : (m : WriteMode) (left block place : ℕ) (units : List (List ℕ)) (c : WriteCounts) → AreLong g units
      → WritesBodies g (write_blocks g m left block place units c)
  blocks_written m left block place [] c long = tt
  blocks_written m zero block place (unit ∷ units) c long = tt
  blocks_written m (suc left) block place (unit ∷ units) c long = (
    tt,
    λ r. either (says_bad r) _ _
        (blocks_written m left (block + 1) 0 (unit ∷ units) _ long)
        (pages_written m block (unit ∷ units) long c (λ us d. write_blocks g m left (block + 1) 0 us d)
        (λ us d more. blocks_written m left (block + 1) 0 us d more) 0 place (unit ∷ units) long),
  )

  -- nanddump
  pages_dumped : (m : DumpMode) (left page : ℕ) (c : DumpCounts) (go_on : DumpCounts → Script) → ((d : DumpCounts) → WritesBodies g (go_on d))
      → WritesBodies g (dump_pages g m left page c go_on)
  pages_dumped m zero page c go_on h = h c
  pages_dumped m (suc left) page c go_on h = (by_raw m.raw, λ r. pages_dumped m left (page + 1) _ go_on h)
    where
      by_raw : (b : Bool) → WritesAPage g (if b then RawRead m.dev page else Read m.dev page)
      by_raw true = tt
      by_raw false = tt

  block_dumped : (m : DumpMode) (n page : ℕ) (c : DumpCounts) (go_on : DumpCounts → Script) → ((d : DumpCounts) → WritesBodies g (go_on d))
      → WritesBodies g (dump_block g m n page c go_on)
  block_dumped m n page c go_on h = either (is_dump_bad m.bad) _ _ (pages_dumped m n page c go_on h)
      (tt, λ r. either (says_bad r) _ _ (h _) (pages_dumped m n page c go_on h))

  dumped : (m : DumpMode) (blocks left page : ℕ) (c : DumpCounts) → WritesBodies g (dump_blocks g m blocks left page c)
  dumped m zero left page c = tt
  dumped m (suc blocks) left page c = block_dumped m _ page c _ (λ d. dumped m blocks _ _ d)

  -- nandtest: a pass's body and a kept body are one page long
  pass_long : (seed block place : ℕ) → length (pass_body g seed block place) ≡ g.page
  pass_long seed block place =
      length-map (numbers_from 0 g.page) (λ j. seed_byte seed (page_at g block place * g.page + j)) ∙ length-numbers 0 g.page

  kept_long : (kept : List ℕ) (place : ℕ) → length (kept_body g kept place) ≡ g.page
  kept_long kept place =
      let joined = length-append (drop (place * g.page) kept) (replicate g.page 0xff) in
      let filled = length-replicate {A = ℕ} g.page 0xff in
      length-take-le g.page (drop (place * g.page) kept ++ replicate g.page 0xff) (omega (arith, joined, filled))

  bodies_read : (dev block left place : ℕ) (kept : List ℕ) (c : TestCounts) (go_on : List ℕ → TestCounts → Script)
      → ((bytes : List ℕ) (d : TestCounts) → WritesBodies g (go_on bytes d)) → WritesBodies g (read_bodies g dev block left place kept c go_on)
  bodies_read dev block zero place kept c go_on h = h kept c
  bodies_read dev block (suc left) place kept c go_on h = (tt, λ r. bodies_read dev block left (place + 1) _ _ go_on h)

  bodies_compared : (dev block : ℕ) (body : ℕ → List ℕ) (left place : ℕ) (differ : Bool) (c : TestCounts) (go_on : Bool → TestCounts → Script)
      → ((b : Bool) (d : TestCounts) → WritesBodies g (go_on b d)) → WritesBodies g (compare_bodies g dev block body left place differ c go_on)
  bodies_compared dev block body zero place differ c go_on h = h differ c
  bodies_compared dev block body (suc left) place differ c go_on h = (tt, λ r. bodies_compared dev block body left (place + 1) _ _ go_on h)

  bodies_written : (dev block : ℕ) (body : ℕ → List ℕ) → ((place : ℕ) → length (body place) ≡ g.page) → (left place : ℕ) (good worn refused : Script)
      → WritesBodies g good → WritesBodies g worn → WritesBodies g refused → WritesBodies g (write_bodies g dev block body left place good worn refused)
  bodies_written dev block body long zero place good worn refused h w r = h
  bodies_written dev block body long (suc left) place good worn refused h w r =
      (long place, λ reply. change_answered reply _ worn refused (bodies_written dev block body long left (place + 1) good worn refused h w r) w r)

  module _ (m : TestMode) where
    block_worn : (block : ℕ) (c : TestCounts) (next_block : TestCounts → Script) → ((d : TestCounts) → WritesBodies g (next_block d))
        → WritesBodies g (test_worn m block c next_block)
    block_worn block c next_block h = either m.mark _ _ (tt, λ r. h _) (h _)

    block_changed : (block : ℕ) (body : ℕ → List ℕ) → ((place : ℕ) → length (body place) ≡ g.page) → (c : TestCounts) (next_block : TestCounts → Script) (done : Script)
        → ((d : TestCounts) → WritesBodies g (next_block d)) → WritesBodies g done → WritesBodies g (test_change g m block body c next_block done)
    block_changed block body long c next_block done h k = (
      tt,
      λ r. change_answered r _ _ _
          (bodies_written m.dev block body long g.pages_per_block 0 done _ _ k (block_worn block c next_block h) (h _)) (block_worn block c next_block h) (h _),
    )

    block_restored : (block : ℕ) (kept : List ℕ) (c : TestCounts) (next_block : TestCounts → Script) → ((d : TestCounts) → WritesBodies g (next_block d))
        → WritesBodies g (test_restore g m block kept c next_block)
    block_restored block kept c next_block h = either m.keep _ _ (block_changed block (kept_body g kept) (kept_long kept) c next_block _ h (h _)) (h _)

    block_rewritten : (seed block : ℕ) (kept : List ℕ) (c : TestCounts) (next_block : TestCounts → Script) → ((d : TestCounts) → WritesBodies g (next_block d))
        → WritesBodies g (test_rewrite g m seed block kept c next_block)
    block_rewritten seed block kept c next_block h = block_changed block (pass_body g seed block) (pass_long seed block) c next_block _ h
        (bodies_compared m.dev block (pass_body g seed block) g.pages_per_block 0 false c _
        (λ differ d. either differ _ _ (block_worn block d next_block h) (block_restored block kept d next_block h)))

    block_tested : (seed block : ℕ) (c : TestCounts) (next_block : TestCounts → Script) → ((d : TestCounts) → WritesBodies g (next_block d))
        → WritesBodies g (test_block g m seed block c next_block)
    block_tested seed block c next_block h = (
      tt,
      λ r. either (says_bad r) _ _ (h _)
          (either m.keep _ _
          (bodies_read m.dev block g.pages_per_block 0 [] c _ (λ kept d. block_rewritten seed block kept d next_block h))
          (block_rewritten seed block [] c next_block h)),
    )

    blocks_tested : (seed left block : ℕ) (c : TestCounts) (next_pass : TestCounts → Script) → ((d : TestCounts) → WritesBodies g (next_pass d))
        → WritesBodies g (test_blocks g m seed left block c next_pass)
    blocks_tested seed zero block c next_pass h = h c
    blocks_tested seed (suc left) block c next_pass h = block_tested seed block c _ (λ d. blocks_tested seed left (block + 1) d next_pass h)

    passes_tested : (first count left : ℕ) (c : TestCounts) → WritesBodies g (test_passes g m first count left c)
    passes_tested first count zero c = tt
    passes_tested first count (suc left) c = blocks_tested _ count first c _ (λ d. passes_tested first count left d)

pub bodies_whole : (g : Geometry) (command : Command) → WritesBodies g (script_of g command)
bodies_whole g (FlashErase dev blocks no_scan start count) = erases g dev no_scan _ start 0 0 0
bodies_whole g (NandWrite dev blocks mark raw oob pad off bytes) =
    blocks_written g (record { dev = dev; mark = mark; raw = raw; oob = oob }) _ _ _ _ _ (units_long g (unit_size g oob) (unit_long g oob) _ bytes)
bodies_whole g (NandDump dev blocks off len raw oob bad) = dumped g (record { dev = dev; raw = raw; oob = oob; bad = bad }) _ _ _ _
bodies_whole g (NandTest dev blocks keep mark seed passes off len) =
    passes_tested g (record { dev = dev; keep = keep; mark = mark; seed = seed; passes = passes }) _ _ passes _
bodies_whole g (MarkBad dev blocks block) = (tt, λ r. tt)
bodies_whole g (AskBad dev blocks block) = (tt, λ r. tt)
bodies_whole g (AskStats dev blocks) = (tt, λ r. tt)
