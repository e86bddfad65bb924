-- What is left of nandtest, from where it stands.
use Rattle.std.specs.Prelude.{ℕ, suc, ◌+◌, ◌-◌, ◌/◌, ◌%◌, ◌^◌, Bool, List}
use Rattle.nand_model.specs.declared.geometry.Geometry.{Geometry}
use Rattle.nand_model.specs.declared.words.Op.TheVariants.{Mark}
use Rattle.command_model.specs.Command.{Script, Ask, block_size}
use Rattle.command_model.specs.NandTest.{TestMode, TestCounts, pass_body, kept_body, read_bodies, compare_bodies, write_bodies, test_worn, test_refused, test_passed, test_change, test_compare, test_compared, test_rewrite, test_block, test_blocks, test_passes}
use Rattle.tool_steps.specs.Ranges.{range_blocks}
use Rattle.tool_steps.specs.declared.testing.BlockAt.{BlockAt}
use Rattle.tool_steps.specs.declared.testing.Bodies.{Bodies}
use Rattle.tool_steps.specs.declared.testing.Bodies.TheVariants.{OfThePass, Kept}
use Rattle.tool_steps.specs.declared.testing.Called.{Called}
use Rattle.tool_steps.specs.declared.testing.Counts.{Counts}
use Rattle.tool_steps.specs.declared.testing.PageAt.{PageAt}
use Rattle.tool_steps.specs.declared.testing.Place.{Place}
use Rattle.tool_steps.specs.declared.testing.Place.TheVariants.{Looking, Keeping, Erasing, Writing, Comparing, Marking}
use Rattle.tool_steps.specs.declared.testing.Testing.{Testing}
use Rattle.tool_steps.specs.declared.testing.Walk.{Walk}

-- how nandtest was called
abbrev pub test_mode : Called → TestMode
test_mode m = record { dev = m.dev; keep = m.keep; mark = m.mark; seed = m.seed; passes = m.passes }

-- the counts so far
abbrev pub counts_of : Counts → TestCounts
counts_of c =
    record {
      blocks = c.blocks;
      bad = c.bad;
      worn = c.worn;
      mismatched = c.mismatched;
      corrected = c.corrected;
      failed = c.failed;
    }

-- nandtest of a range of a device
abbrev pub test_from_start : Geometry → TestMode → (blocks off len : ℕ) → Script
test_from_start g m blocks off len =
    test_passes g m (off / block_size g) (range_blocks g blocks off len) m.passes
    (record { blocks = 0; bad = 0; worn = 0; mismatched = 0; corrected = 0; failed = 0 })

-- the seed of the pass
abbrev pub pass_seed : Walk → ℕ
pass_seed w = (w.called.seed + (w.called.passes - suc w.passes)) % 2 ^ 64

module _ (g : Geometry) where
  -- the blocks of the pass after this one, and the later passes
  abbrev pub later_left : BlockAt → TestCounts → Script
  later_left b c =
      test_blocks g (test_mode b.walk.called) (pass_seed b.walk) b.walk.rest (b.walk.block + 1) c
      (λ d. test_passes g (test_mode b.walk.called) b.walk.first b.walk.count b.walk.passes d)

  -- the block's state is asked for, and it is tested unless it is bad
  abbrev pub look_left : BlockAt → Script
  look_left b =
      test_block g (test_mode b.walk.called) (pass_seed b.walk) b.walk.block (counts_of b.counts) (later_left b)

  -- the block failed or read differently
  abbrev pub worn_left : BlockAt → Script
  worn_left b = test_worn (test_mode b.walk.called) b.walk.block (counts_of b.counts) (later_left b)

  -- the block is bad, or was refused
  abbrev pub refused_left : BlockAt → Script
  refused_left b = test_refused (counts_of b.counts) (later_left b)

  -- the block has passed
  abbrev pub passed_left : BlockAt → Script
  passed_left b = test_passed (counts_of b.counts) (later_left b)

  -- the block is marked
  abbrev pub mark_left : BlockAt → Script
  mark_left b = Ask (Mark b.walk.called.dev b.walk.block) (λ r. later_left b (counts_of b.counts))

  module _ (kept : List ℕ) where
    -- the bodies of the block's pages from this one on are kept, and then it is tested
    abbrev pub keep_left : PageAt → Script
    keep_left p =
        read_bodies g p.at.walk.called.dev p.at.walk.block (suc p.rest) p.place kept (counts_of p.at.counts)
        (λ bytes d. test_rewrite g (test_mode p.at.walk.called) (pass_seed p.at.walk) p.at.walk.block bytes d
        (later_left p.at))

    -- the body that is written to the page at a place of the block
    abbrev pub body_left : BlockAt → Bodies → ℕ → List ℕ
    body_left b OfThePass = pass_body g (pass_seed b.walk) b.walk.block
    body_left b Kept = kept_body g kept

    -- what follows once each page is written
    abbrev pub written_left : BlockAt → Bodies → Script
    written_left b OfThePass =
        test_compare g (test_mode b.walk.called) (pass_seed b.walk) b.walk.block kept (counts_of b.counts)
        (later_left b)
    written_left b Kept = passed_left b

    -- the block is erased, and its pages are written
    abbrev pub change_left : BlockAt → Bodies → Script
    change_left b bodies =
        test_change g (test_mode b.walk.called) b.walk.block (body_left b bodies) (counts_of b.counts) (later_left b)
        (written_left b bodies)

    -- the block's pages from this one on are written
    abbrev pub write_left : PageAt → Bodies → Script
    write_left p bodies =
        write_bodies g p.at.walk.called.dev p.at.walk.block (body_left p.at bodies) (suc p.rest) p.place
        (written_left p.at bodies) (worn_left p.at) (refused_left p.at)

    -- each page of the block is compared
    abbrev pub compared_left : BlockAt → Bool → TestCounts → Script
    compared_left b differ c = test_compared g (test_mode b.walk.called) b.walk.block kept (later_left b) differ c

    -- the block's pages from this one on are compared
    abbrev pub compare_left : PageAt → Bool → Script
    compare_left p differ =
        compare_bodies g p.at.walk.called.dev p.at.walk.block (pass_body g (pass_seed p.at.walk) p.at.walk.block)
        (suc p.rest) p.place differ (counts_of p.at.counts) (compared_left p.at)

    -- what is left of nandtest where it waits at this place
    abbrev pub place_left : Place → Script
    place_left (Looking b) = look_left b
    place_left (Keeping p) = keep_left p
    place_left (Erasing b bodies) = change_left b bodies
    place_left (Writing p bodies) = write_left p bodies
    place_left (Comparing p differ) = compare_left p differ
    place_left (Marking b) = mark_left b

-- what is left of a nandtest under way
abbrev pub testing_left : Geometry → Testing → Script
testing_left g t = place_left g t.kept t.place
