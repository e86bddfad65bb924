-- nandtest: what it asks for, and its outcome.
use Rattle.std.specs.Prelude.{ℕ, zero, suc, ◌+◌, ◌-◌, ◌*◌, ◌%◌, ◌^◌, min, Bool, false, not, ◌||◌, bytes_eq, List, [], ◌++◌, map, take, drop, replicate, if◌then◌else◌}
use Rattle.nand_model.specs.Seeds.{seed_byte}
use Rattle.nand_model.specs.Sizes.{numbers_from, parity_start}
use Rattle.nand_model.specs.declared.geometry.Geometry.{Geometry}
use Rattle.nand_model.specs.declared.words.Op.TheVariants.{Erase, IsBad, Write, Mark, Read}
use Rattle.nand_model.specs.declared.words.Outcome.TheVariants.{NandTest as Tested}
use Rattle.nand_model.specs.declared.words.Reply.{Reply}
use Rattle.nand_model.specs.declared.words.Reply.TheVariants.{BadBlock, ProgramFailed, EraseFailed, Page}
use Rattle.command_model.specs.Scripts.{Script, End, Ask, says_bad, one_if}

-- how nandtest was called
pub record TestMode : Type 0 where
  pub dev : ℕ
  pub keep : Bool
  pub mark : Bool
  pub seed : ℕ
  pub passes : ℕ

-- the counts of nandtest
pub record TestCounts : Type 0 where
  pub blocks : ℕ
  pub bad : ℕ
  pub worn : ℕ
  pub mismatched : ℕ
  pub corrected : ℕ
  pub failed : ℕ

-- a count with so many more: it stands still at its type's end, which no count comes to where each
-- reply is one that its operation may have
abbrev pub counted : (count more : ℕ) → ℕ
counted count more = min (count + more) (2 ^ 64 - 1)

-- the counts with a page that was read
abbrev pub with_test_read : TestCounts → Reply → TestCounts
with_test_read c (Page kind read image) =
    record c { corrected = counted c.corrected read.corrected; failed = counted c.failed read.failed }
with_test_read c _ = c

-- the counts with a page that was read, and compared with the body that was written to it
abbrev pub with_page_compared : TestCounts → Bool → Reply → TestCounts
with_page_compared c differs reply =
    with_test_read (record c { mismatched = counted c.mismatched (one_if differs) }) reply

-- the body in a reply
abbrev pub body_read : Geometry → Reply → List ℕ
body_read g (Page kind read image) = take g.page image
body_read g _ = []

-- the number of the page at a place of a block
abbrev pub page_at : Geometry → (block place : ℕ) → ℕ
page_at g block place = block * g.pages_per_block + place

-- the body that a pass writes to a page of the device
abbrev pub test_body : Geometry → ℕ → ℕ → List ℕ
test_body g seed page = map (λ j. seed_byte seed (page * g.page + j)) (numbers_from 0 g.page)

-- the body that a pass writes to the page at a place of a block
abbrev pub pass_body : Geometry → (seed block place : ℕ) → List ℕ
pass_body g seed block place = test_body g seed (page_at g block place)

-- the body that was kept of the page at a place, of kept bodies one after the other: where one was
-- not read whole, it is filled up with 0xFF
abbrev pub kept_body : Geometry → List ℕ → ℕ → List ℕ
kept_body g kept place = take g.page (drop (place * g.page) kept ++ replicate g.page 0xff)

-- after an erase or a write: good, failed or refused
abbrev pub after_change : Reply → (good worn refused : Script) → Script
after_change ProgramFailed good worn refused = worn
after_change EraseFailed good worn refused = worn
after_change BadBlock good worn refused = refused
after_change _ good worn refused = good

-- reads of pages of a block one after the other, and then what follows their bodies
abbrev pub read_bodies : Geometry → (dev block left place : ℕ) → List ℕ → TestCounts
    → (List ℕ → TestCounts → Script) → Script
read_bodies g dev block zero place kept c go_on = go_on kept c
read_bodies g dev block (suc left) place kept c go_on =
    Ask (Read dev (page_at g block place))
    (λ r. read_bodies g dev block left (place + 1) (kept ++ body_read g r) (with_test_read c r) go_on)

-- reads of pages of a block one after the other, each compared with its body, and then what
-- follows: whether any differed
abbrev pub compare_bodies : Geometry → (dev block : ℕ) → (ℕ → List ℕ) → (left place : ℕ) → Bool → TestCounts
    → (Bool → TestCounts → Script) → Script
compare_bodies g dev block body zero place differ c go_on = go_on differ c
compare_bodies g dev block body (suc left) place differ c go_on =
    Ask (Read dev (page_at g block place)) (λ r.
    let differs : Bool = not (bytes_eq (body place) (body_read g r)) in
    compare_bodies g dev block body left (place + 1) (differ || differs) (with_page_compared c differs r) go_on)

-- writes of a body to each of the pages of a block, one after the other
abbrev pub write_bodies : Geometry → (dev block : ℕ) → (ℕ → List ℕ) → (left place : ℕ) → (good worn refused : Script)
    → Script
write_bodies g dev block body zero place good worn refused = good
write_bodies g dev block body (suc left) place good worn refused =
    Ask (Write dev (page_at g block place) (body place) (replicate (parity_start g - 2) 0xff))
    (λ r. after_change r (write_bodies g dev block body left (place + 1) good worn refused) worn refused)

-- a block that failed or read differently is worn, and is marked with `-m`, whatever comes of it
abbrev pub test_worn : TestMode → ℕ → TestCounts → (TestCounts → Script) → Script
test_worn m block c next_block =
    let d : TestCounts = record c { worn = counted c.worn 1 } in
    if m.mark then Ask (Mark m.dev block) (λ r. next_block d) else next_block d

-- a block that was refused counts as bad
abbrev pub test_refused : TestCounts → (TestCounts → Script) → Script
test_refused c next_block = next_block (record c { bad = counted c.bad 1 })

-- a block that has passed is counted
abbrev pub test_passed : TestCounts → (TestCounts → Script) → Script
test_passed c next_block = next_block (record c { blocks = counted c.blocks 1 })

-- the block is erased, each of its pages takes its body, and it goes on where all of that was done
abbrev pub test_change : Geometry → TestMode → ℕ → (ℕ → List ℕ) → TestCounts → (TestCounts → Script) → Script → Script
test_change g m block body c next_block done =
    let worn : Script = test_worn m block c next_block in
    let refused : Script = test_refused c next_block in
    Ask (Erase m.dev block) (λ r. after_change r
    (write_bodies g m.dev block body g.pages_per_block 0 done worn refused) worn refused)

-- with `-k`, where no body differed, the kept bodies are written back
abbrev pub test_restore : Geometry → TestMode → ℕ → List ℕ → TestCounts → (TestCounts → Script) → Script
test_restore g m block kept c next_block =
    if m.keep then test_change g m block (kept_body g kept) c next_block (test_passed c next_block)
    else test_passed c next_block

-- once each page is compared: a block that read differently is worn
abbrev pub test_compared : Geometry → TestMode → ℕ → List ℕ → (TestCounts → Script) → Bool → TestCounts → Script
test_compared g m block kept next_block differ c =
    if differ then test_worn m block c next_block else test_restore g m block kept c next_block

-- each page is read, and each body that differs from the written one is counted
abbrev pub test_compare : Geometry → TestMode → (seed block : ℕ) → List ℕ → TestCounts → (TestCounts → Script) → Script
test_compare g m seed block kept c next_block =
    compare_bodies g m.dev block (pass_body g seed block) g.pages_per_block 0 false c
    (test_compared g m block kept next_block)

-- the block is erased and written with the bodies of the pass, and then compared
abbrev pub test_rewrite : Geometry → TestMode → (seed block : ℕ) → List ℕ → TestCounts → (TestCounts → Script) → Script
test_rewrite g m seed block kept c next_block =
    test_change g m block (pass_body g seed block) c next_block (test_compare g m seed block kept c next_block)

-- with `-k`, the bodies of the block are kept first
abbrev pub test_keep : Geometry → TestMode → (seed block : ℕ) → TestCounts → (TestCounts → Script) → Script
test_keep g m seed block c next_block =
    if m.keep
    then read_bodies g m.dev block g.pages_per_block 0 [] c
    (λ kept d. test_rewrite g m seed block kept d next_block)
    else test_rewrite g m seed block [] c next_block

-- one block of one pass, unless it is bad, and then the next block
abbrev pub test_block : Geometry → TestMode → (seed block : ℕ) → TestCounts → (TestCounts → Script) → Script
test_block g m seed block c next_block =
    Ask (IsBad m.dev block)
    (λ r. if says_bad r then test_refused c next_block else test_keep g m seed block c next_block)

-- the blocks of one pass, and then what follows
abbrev pub test_blocks : Geometry → TestMode → ℕ → (left block : ℕ) → TestCounts → (TestCounts → Script) → Script
test_blocks g m seed zero block c next_pass = next_pass c
test_blocks g m seed (suc left) block c next_pass =
    test_block g m seed block c (λ d. test_blocks g m seed left (block + 1) d next_pass)

-- pass after pass, each with the seed of its number
abbrev pub test_passes : Geometry → TestMode → (first count left : ℕ) → TestCounts → Script
test_passes g m first count zero c = End (Tested m.passes c.blocks c.bad c.worn c.mismatched c.corrected c.failed)
test_passes g m first count (suc left) c =
    test_blocks g m ((m.seed + (m.passes - suc left)) % 2 ^ 64) count first c (λ d. test_passes g m first count left d)
