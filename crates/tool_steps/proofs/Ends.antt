-- Commands end after at most their cost.
use Rattle.std.proofs.Common.{◌≡◌, ℕ, zero, suc, ◌+◌, ◌-◌, ◌*◌, ◌/◌, ◌%◌, ◌<◌, ◌≤◌, Bool, true, false, List, [], ◌∷◌, length, drop, min, refl, sym, ap, subst, arith}
use Rattle.std.specs.Prelude.{if◌then◌else◌, ◌==◌}
use Rattle.std.proofs.Math.Nat.{mod-lt, mul_assoc}
use Rattle.std.proofs.lemmas.Bool.{eqb-false}
use Rattle.nand_model.proofs.Bounds.{pages-some}
use Rattle.nand_model.specs.declared.geometry.Geometry.{Geometry}
use Rattle.nand_model.specs.declared.words.Op.{Op}
use Rattle.nand_model.specs.declared.words.Outcome.{Outcome}
use Rattle.nand_model.specs.declared.words.Command.{Command}
use Rattle.nand_model.specs.declared.words.Command.TheVariants.{FlashErase, NandWrite, NandDump, NandTest, MarkBad, IsBad as AskBad, Stats as AskStats}
use Rattle.nand_model.specs.declared.words.Reply.{Reply}
use Rattle.nand_model.specs.declared.words.Reply.TheVariants.{Done, BadBlock, MarkerByte, ProgramFailed, EraseFailed}
use Rattle.nand_model.specs.declared.words.Ending.TheVariants.{MarkerByte as AtMarkerByte}
use Rattle.command_model.specs.Command.{Script, End, Ask, next_in, after_replies, after_write, block_size, cost_of, count_or_rest, script_of, written_end, erase_blocks, erase_and_mark, says_bad, unit_count, unit_size, units_of, WriteMode, WriteCounts, write_unit, write_pages, write_blocks, DumpMode, DumpCounts, is_dump_bad, dump_pages, dump_block, dump_blocks}
use Rattle.command_model.specs.NandTest.{TestMode, TestCounts, after_change, read_bodies, compare_bodies, write_bodies, kept_body, pass_body, test_worn, test_passed, test_change, test_restore, test_rewrite, test_block, test_blocks, test_passes}
use Rattle.command_model.specs.Laws.{IsOver, trouble_of, is_trouble, troubles, CommandsEnd}
use Rattle.command_model.specs.Runnable.{Fits}
use Rattle.command_model.specs.Cost.{troubled_blocks}
use Rattle.command_model.proofs.Troubles.{troubles_are_few}
use Rattle.tool_steps.specs.Steps.{EndsAtLast}
use Rattle.tool_steps.specs.Ranges.{range_blocks}
use Rattle.tool_steps.specs.Testing.{test_from_start}
use Rattle.tool_steps.specs.Writing.{write_from_start}

-- a command that is over stays over
pub over_stays : (replies : List Reply) (outcome : Outcome) → IsOver (next_in (after_replies replies (End outcome)))
over_stays [] outcome = tt
over_stays (r ∷ replies) outcome = tt

-- a script is over once there are this many replies
abbrev pub Ends : Script → ℕ → Type 0
Ends script n = (replies : List Reply) → n ≤ length replies → IsOver (next_in (after_replies replies script))

pub ends_over : (outcome : Outcome) (n : ℕ) → Ends (End outcome) n
ends_over outcome n replies h = over_stays replies outcome

pub ends_ask : (op : Op) (go_on : Reply → Script) (n : ℕ) → ((r : Reply) → Ends (go_on r) n) → Ends (Ask op go_on) (suc n)
ends_ask op go_on n h [] few = absurd (omega arith)
ends_ask op go_on n h (r ∷ replies) few = h r replies (omega arith)

pub ends_later : (script : Script) (n m : ℕ) → n ≤ m → Ends script n → Ends script m
ends_later script n m less h replies few = h replies (omega arith)

pub ends_either : (b : Bool) (x y : Script) (n : ℕ) → Ends x n → Ends y n → Ends (if b then x else y) n
ends_either true x y n h k = h
ends_either false x y n h k = k

same-le : (n : ℕ) → n ≤ n
same-le n = omega arith

-- flash_erase: a question and an erase for each block
erase_ends : (dev : ℕ) (no_scan : Bool) (left block erased bad failed : ℕ) → Ends (erase_blocks dev no_scan left block erased bad failed) (2 * left)
erase_ends dev no_scan zero block erased bad failed = ends_over _ _
erase_ends dev no_scan (suc left) block erased bad failed =
    let next : (erased bad failed : ℕ) → Ends (erase_blocks dev no_scan left (block + 1) erased bad failed) (2 * left) =
    λ e b f. erase_ends dev no_scan left (block + 1) e b f in
    ends_either no_scan _ _ (2 * suc left)
    (ends_later _ (suc (2 * left)) (2 * suc left) (omega arith) (ends_ask _ _ (2 * left) (λ r. next _ _ _)))
    (ends_later _ (suc (suc (2 * left))) (2 * suc left) (omega arith) (ends_ask _ _ (suc (2 * left)) (λ r. ends_either (says_bad r) _ _ (suc (2 * left))
    (ends_later _ (2 * left) (suc (2 * left)) (omega arith) (next _ _ _)) (ends_ask _ _ (2 * left) (λ s. next _ _ _)))))

module _ (g : Geometry) (m : DumpMode) where
  pages_end : (left page : ℕ) (c : DumpCounts) (go_on : DumpCounts → Script) (n : ℕ) → ((d : DumpCounts) → Ends (go_on d) n) → Ends (dump_pages g m left page c go_on) (left + n)
  pages_end zero page c go_on n h = ends_later _ n (0 + n) (omega arith) (h c)
  pages_end (suc left) page c go_on n h =
      ends_later _ (suc (left + n)) (suc left + n) (omega arith) (ends_ask _ _ (left + n) (λ r. pages_end left (page + 1) _ go_on n h))

  block_ends : (left page : ℕ) (c : DumpCounts) (go_on : DumpCounts → Script) (n : ℕ) → ((d : DumpCounts) → Ends (go_on d) n) → Ends (dump_block g m left page c go_on) (suc (left + n))
  block_ends left page c go_on n h =
      ends_either (is_dump_bad m.bad) _ _ (suc (left + n)) (ends_later _ (left + n) (suc (left + n)) (omega arith) (pages_end left page c go_on n h))
      (ends_ask _ _ (left + n) (λ r. ends_either (says_bad r) _ _ (left + n) (ends_later _ n (left + n) (omega arith) (h _)) (pages_end left page c go_on n h)))

  -- nanddump: a question for each block, and a read of each page
  dump_ends : (blocks left page : ℕ) (c : DumpCounts) → Ends (dump_blocks g m blocks left page c) (left + blocks)
  dump_ends zero left page c = ends_over _ _
  dump_ends (suc blocks) left page c =
      let here : ℕ = min left (g.pages_per_block - page % g.pages_per_block) in
      ends_later _ (suc (min left (g.pages_per_block - page % g.pages_per_block) + (left - min left (g.pages_per_block - page % g.pages_per_block) + blocks))) (left + suc blocks)
      (omega arith) (block_ends here page c _ (left - here + blocks) (λ d. dump_ends blocks _ _ d))

module _ (g : Geometry) (m : TestMode) where
  change_either : (r : Reply) (good worn refused : Script) (n : ℕ) → Ends good n → Ends worn n → Ends refused n → Ends (after_change r good worn refused) n
  change_either ProgramFailed good worn refused n a b c = b
  change_either EraseFailed good worn refused n a b c = b
  change_either BadBlock good worn refused n a b c = c
  change_either _ good worn refused n a b c = a

  kept_ends : (block left place : ℕ) (kept : List ℕ) (c : TestCounts) (go_on : List ℕ → TestCounts → Script) (n : ℕ) → ((bytes : List ℕ) (d : TestCounts) → Ends (go_on bytes d) n)
      → Ends (read_bodies g m.dev block left place kept c go_on) (left + n)
  kept_ends block zero place kept c go_on n h = ends_later _ n (0 + n) (omega arith) (h kept c)
  kept_ends block (suc left) place kept c go_on n h =
      ends_later _ (suc (left + n)) (suc left + n) (omega arith) (ends_ask _ _ (left + n) (λ r. kept_ends block left (place + 1) _ _ go_on n h))

  compared_ends : (block : ℕ) (body : ℕ → List ℕ) (left place : ℕ) (differ : Bool) (c : TestCounts) (go_on : Bool → TestCounts → Script) (n : ℕ)
      → ((b : Bool) (d : TestCounts) → Ends (go_on b d) n) → Ends (compare_bodies g m.dev block body left place differ c go_on) (left + n)
  compared_ends block body zero place differ c go_on n h = ends_later _ n (0 + n) (omega arith) (h differ c)
  compared_ends block body (suc left) place differ c go_on n h =
      ends_later _ (suc (left + n)) (suc left + n) (omega arith) (ends_ask _ _ (left + n) (λ r. compared_ends block body left (place + 1) _ _ go_on n h))

  written_ends : (block : ℕ) (body : ℕ → List ℕ) (left place : ℕ) (good worn refused : Script) (n : ℕ) → Ends good n → Ends worn n → Ends refused n
      → Ends (write_bodies g m.dev block body left place good worn refused) (left + n)
  written_ends block body zero place good worn refused n a b c = ends_later good n (0 + n) (omega arith) a
  written_ends block body (suc left) place good worn refused n a b c =
      ends_later _ (suc (left + n)) (suc left + n) (omega arith) (ends_ask _ _ (left + n) (λ r. change_either r _ worn refused (left + n)
      (written_ends block body left (place + 1) good worn refused n a b c) (ends_later worn n (left + n) (omega arith) b) (ends_later refused n (left + n) (omega arith) c)))

  -- the operations of what `-k` does first, and last
  abbrev before : Bool → ℕ
  before keep = if keep then g.pages_per_block else 0

  abbrev back : Bool → ℕ
  back keep = if keep then g.pages_per_block + 1 else 0

  module _ (next_block : TestCounts → Script) (n : ℕ) (h : (d : TestCounts) → Ends (next_block d) n) where
    worn_ends : (block : ℕ) (c : TestCounts) → Ends (test_worn m block c next_block) (suc n)
    worn_ends block c = ends_either m.mark _ _ (suc n) (ends_ask _ _ n (λ r. h _)) (ends_later _ n (suc n) (omega arith) (h _))

    changed_ends : (block : ℕ) (body : ℕ → List ℕ) (c : TestCounts) (done : Script) (k : ℕ) → suc n ≤ k → Ends done k
        → Ends (test_change g m block body c next_block done) (suc (g.pages_per_block + k))
    changed_ends block body c done k more d =
        ends_ask _ _ (g.pages_per_block + k) (λ r. change_either r _ _ _ (g.pages_per_block + k)
        (written_ends block body g.pages_per_block 0 done _ _ k d (ends_later _ (suc n) k more (worn_ends block c)) (ends_later _ n k (omega (arith, more)) (h _)))
        (ends_later _ (suc n) (g.pages_per_block + k) (omega (arith, more)) (worn_ends block c)) (ends_later _ n (g.pages_per_block + k) (omega (arith, more)) (h _)))

    restored_ends : (block : ℕ) (kept : List ℕ) (c : TestCounts) → Ends (test_restore g m block kept c next_block) (back m.keep + suc n)
    restored_ends block kept c = by_keep m.keep
      where
        by_keep : (b : Bool) → Ends (if b then test_change g m block (kept_body g kept) c next_block (test_passed c next_block) else test_passed c next_block) (back b + suc n)
        by_keep true = ends_later _ (suc (g.pages_per_block + suc n)) (g.pages_per_block + 1 + suc n) (omega arith)
            (changed_ends block (kept_body g kept) c _ (suc n) (omega arith) (ends_later _ n (suc n) (omega arith) (h _)))
        by_keep false = ends_later _ n (0 + suc n) (omega arith) (h _)

    rewritten_ends : (seed block : ℕ) (kept : List ℕ) (c : TestCounts)
        → Ends (test_rewrite g m seed block kept c next_block) (suc (g.pages_per_block + (g.pages_per_block + (back m.keep + suc n))))
    rewritten_ends seed block kept c =
        changed_ends block (pass_body g seed block) c _ (g.pages_per_block + (back m.keep + suc n)) (omega arith)
        (compared_ends block (pass_body g seed block) g.pages_per_block 0 false c _ (back m.keep + suc n)
        (λ differ d. ends_either differ _ _ (back m.keep + suc n) (ends_later _ (suc n) (back m.keep + suc n) (omega arith) (worn_ends block d)) (restored_ends block kept d)))

    tested_ends : (seed block : ℕ) (c : TestCounts)
        → Ends (test_block g m seed block c next_block) (suc (before m.keep + suc (g.pages_per_block + (g.pages_per_block + (back m.keep + suc n)))))
    tested_ends seed block c =
        let later : ℕ = suc (g.pages_per_block + (g.pages_per_block + (back m.keep + suc n))) in
        ends_ask _ _ (before m.keep + suc (g.pages_per_block + (g.pages_per_block + (back m.keep + suc n)))) (λ r. ends_either (says_bad r) _ _ _
        (ends_later _ n (before m.keep + suc (g.pages_per_block + (g.pages_per_block + (back m.keep + suc n)))) (omega arith) (h _)) (by_keep m.keep))
      where
        by_keep : (b : Bool) → Ends (if b then read_bodies g m.dev block g.pages_per_block 0 [] c (λ kept d. test_rewrite g m seed block kept d next_block)
            else test_rewrite g m seed block [] c next_block) (before b + suc (g.pages_per_block + (g.pages_per_block + (back m.keep + suc n))))
        by_keep true = kept_ends block g.pages_per_block 0 [] c _ _ (λ kept d. rewritten_ends seed block kept d)
        by_keep false = ends_later _ _ (0 + suc (g.pages_per_block + (g.pages_per_block + (back m.keep + suc n)))) (omega arith) (rewritten_ends seed block [] c)

  -- the operations of one test of a block
  abbrev each : ℕ
  each = 2 * g.pages_per_block + 3 + (before m.keep + back m.keep)

  blocks_end : (seed left block : ℕ) (c : TestCounts) (next_pass : TestCounts → Script) (n : ℕ) → ((d : TestCounts) → Ends (next_pass d) n) → (k : ℕ) → each ≤ k
      → Ends (test_blocks g m seed left block c next_pass) (left * k + n)
  blocks_end seed zero block c next_pass n h k less = ends_later _ n (0 * k + n) (omega arith) (h c)
  blocks_end seed (suc left) block c next_pass n h k less =
      ends_later _ (suc (before m.keep + suc (g.pages_per_block + (g.pages_per_block + (back m.keep + suc (left * k + n)))))) (suc left * k + n) (omega (arith, less))
      (tested_ends _ (left * k + n) (λ d. blocks_end seed left (block + 1) d next_pass n h k less) seed block c)

  one_more : (left q : ℕ) → q + left * q ≤ suc left * q
  one_more left q = omega arith

  -- nandtest: in each pass, the tests of its blocks
  passes_end : (first count left : ℕ) (c : TestCounts) (k : ℕ) → each ≤ k → Ends (test_passes g m first count left c) (left * (count * k))
  passes_end first count zero c k less = ends_over _ _
  passes_end first count (suc left) c k less =
      ends_later _ (count * k + left * (count * k)) (suc left * (count * k)) (one_more left (count * k))
      (blocks_end _ count first c _ (left * (count * k)) (λ d. passes_end first count left d k less) k less)

-- the operations of a nandtest, by whether bodies are kept
tests_few : (p tests : ℕ) (keep : Bool)
    → tests * (2 * p + 3 + ((if keep then p else 0) + (if keep then p + 1 else 0))) ≤ tests * (2 * p + 3) + (if keep then tests * (2 * p + 1) else 0)
tests_few p tests true = omega arith
tests_few p tests false = omega arith

nandtest_ends : (g : Geometry) (m : TestMode) (blocks off len : ℕ)
    → Ends (test_from_start g m blocks off len) (let count : ℕ = range_blocks g blocks off len in
    m.passes * count * (2 * g.pages_per_block + 3) + (if m.keep then m.passes * count * (2 * g.pages_per_block + 1) else 0))
nandtest_ends g m blocks off len =
    let same = mul_assoc m.passes (range_blocks g blocks off len) (each g m) in
    let few = tests_few g.pages_per_block (m.passes * range_blocks g blocks off len) m.keep in
    ends_later _ _ _ (omega (arith, same, few)) (passes_end g m (off / block_size g) (range_blocks g blocks off len) m.passes _ (each g m) (same-le _))

-- a script is over once there are this many replies, with no more than so much trouble in them
abbrev EndsIn : Script → ℕ → ℕ → Type 0
EndsIn script weak n = (replies : List Reply) → troubles replies script ≤ weak → n ≤ length replies → IsOver (next_in (after_replies replies script))

in_either : (b : Bool) (x y : Script) (weak n : ℕ) → (b ≡ true → EndsIn x weak n) → (b ≡ false → EndsIn y weak n) → EndsIn (if b then x else y) weak n
in_either true x y weak n h k = h refl
in_either false x y weak n h k = k refl

in_ask : (op : Op) (go_on : Reply → Script) (weak n : ℕ) → ((r : Reply) → trouble_of op r ≡ 0) → ((r : Reply) → EndsIn (go_on r) weak n) → EndsIn (Ask op go_on) weak (suc n)
in_ask op go_on weak n none h [] trouble few = absurd (omega arith)
in_ask op go_on weak n none h (r ∷ replies) trouble few = let z = none r in h r replies (omega (arith, z)) (omega arith)

in_later : (script : Script) (weak n m : ℕ) → n ≤ m → EndsIn script weak n → EndsIn script weak m
in_later script weak n m less h replies trouble few = h replies trouble (omega arith)

-- a page that was answered
answered_ends : (r : Reply) (good failed skipped marker : Script) (weak n : ℕ) → EndsIn good weak n → ((w : ℕ) → weak ≡ suc w → EndsIn failed w n)
    → ((w : ℕ) → weak ≡ suc w → EndsIn skipped w n) → ((replies : List Reply) → IsOver (next_in (after_replies replies marker)))
    → (replies : List Reply) → is_trouble r + troubles replies (after_write r good failed skipped marker) ≤ weak → n ≤ length replies
    → IsOver (next_in (after_replies replies (after_write r good failed skipped marker)))
answered_ends Done good failed skipped marker weak n a b c d replies trouble few = a replies (omega arith) few
answered_ends ProgramFailed good failed skipped marker weak n a b c d replies trouble few = b (weak - 1) (omega arith) replies (omega arith) few
answered_ends BadBlock good failed skipped marker weak n a b c d replies trouble few = c (weak - 1) (omega arith) replies (omega arith) few
answered_ends MarkerByte good failed skipped marker weak n a b c d replies trouble few = d replies
answered_ends _ good failed skipped marker weak n a b c d replies trouble few = a replies (omega arith) few

module _ (g : Geometry) (m : WriteMode) where
  unit_trouble : (page : ℕ) (unit : List ℕ) (r : Reply) → trouble_of (write_unit g m page unit) r ≡ is_trouble r
  unit_trouble page unit r = by_raw m.raw _ _ refl refl
    where
      by_raw : (b : Bool) (x y : Op) → trouble_of x r ≡ is_trouble r → trouble_of y r ≡ is_trouble r → trouble_of (if b then x else y) r ≡ is_trouble r
      by_raw true x y h k = h
      by_raw false x y h k = k

  -- the replies to the rest of the blocks and of the units, and to what is written again
  abbrev bound : (rest units weak : ℕ) → ℕ
  bound rest units weak = rest + units + (g.pages_per_block + 2) * weak

  erased_ends : (block : ℕ) (rest : Script) (weak n : ℕ) → EndsIn rest weak n → EndsIn (erase_and_mark m block rest) weak (suc (suc n))
  erased_ends block rest weak n h =
      in_ask _ _ weak (suc n) (λ r. refl) (λ r. in_either m.mark _ rest weak (suc n) (λ e. in_ask _ _ weak n (λ s. refl) (λ s. h))
      (λ e. in_later rest weak n (suc n) (omega arith) h))

  module _ (block rest : ℕ) (taken : List (List ℕ)) (c : WriteCounts) (next_block : List (List ℕ) → WriteCounts → Script)
      (next_ends : (us : List (List ℕ)) (d : WriteCounts) (weak : ℕ) → EndsIn (next_block us d) weak (bound rest (length us) weak)) where
    -- the units of a block, after `place` pages of it at most
    block_units_end : (in_block place : ℕ) (units : List (List ℕ)) → place ≤ g.pages_per_block → length taken ≤ length units + place → (weak : ℕ)
        → EndsIn (write_pages g m block taken c next_block in_block place units) weak (bound rest (length units) weak)
    block_units_end in_block place [] below few weak = λ replies trouble enough. over_stays replies _
    block_units_end in_block place (unit ∷ units) below few weak =
        in_either (place == g.pages_per_block) _ _ weak (bound rest (suc (length units)) weak) (λ e. next_ends (unit ∷ units) _ weak)
        (λ e. let apart = eqb-false place g.pages_per_block e in
        in_later _ weak (suc (bound rest (length units) weak)) (bound rest (suc (length units)) weak) (omega arith)
        (page_ends (omega arith) (block_units_end (in_block + 1) (place + 1) units (omega arith) (omega arith) weak)))
      where
        page_ends : place < g.pages_per_block → EndsIn (write_pages g m block taken c next_block (in_block + 1) (place + 1) units) weak (bound rest (length units) weak)
            → EndsIn (Ask (write_unit g m (block * g.pages_per_block + place) unit) (λ r. after_write r
            (write_pages g m block taken c next_block (in_block + 1) (place + 1) units)
            (erase_and_mark m block (next_block taken (record c { failed = c.failed + 1 })))
            (next_block taken (record c { skipped = c.skipped + 1 }))
            (written_end (record c { pages = c.pages + in_block }) AtMarkerByte))) weak (suc (bound rest (length units) weak))
        page_ends lower good [] trouble enough = absurd (omega arith)
        page_ends lower good (r ∷ replies) trouble enough =
            let is : trouble_of (write_unit g m (block * g.pages_per_block + place) unit) r ≡ is_trouble r = unit_trouble (block * g.pages_per_block + place) unit r in
            answered_ends r _ _ _ _ weak (bound rest (length units) weak) good
            (λ w e. subst (λ k. EndsIn (erase_and_mark m block (next_block taken (record c { failed = c.failed + 1 }))) w (bound rest (length units) k)) (sym e)
            (in_later _ w (suc (suc (bound rest (length taken) w))) (bound rest (length units) (suc w)) (omega (arith, lower, few))
            (erased_ends block (next_block taken (record c { failed = c.failed + 1 })) w (bound rest (length taken) w) (next_ends taken _ w))))
            (λ w e. subst (λ k. EndsIn (next_block taken (record c { skipped = c.skipped + 1 })) w (bound rest (length units) k)) (sym e)
            (in_later _ w (bound rest (length taken) w) (bound rest (length units) (suc w)) (omega (arith, lower, few)) (next_ends taken _ w)))
            (λ rs. over_stays rs _)
            replies (omega (arith, is)) (omega arith)

  -- nandwrite: a question for each block, a write for each unit, and what each trouble costs
  write_ends : (left block place : ℕ) (units : List (List ℕ)) (c : WriteCounts) → place ≤ g.pages_per_block → (weak : ℕ)
      → EndsIn (write_blocks g m left block place units c) weak (bound left (length units) weak)
  write_ends left block place [] c below weak = λ replies trouble enough. over_stays replies _
  write_ends zero block place (unit ∷ units) c below weak = λ replies trouble enough. over_stays replies _
  write_ends (suc left) block place (unit ∷ units) c below weak =
      in_later _ weak (suc (bound left (length (unit ∷ units)) weak)) (bound (suc left) (length (unit ∷ units)) weak) (omega arith)
      (in_ask _ _ weak (bound left (length (unit ∷ units)) weak) (λ r. refl) (λ r. in_either (says_bad r) _ _ weak (bound left (length (unit ∷ units)) weak)
      (λ e. write_ends left (block + 1) 0 (unit ∷ units) _ (omega arith) weak)
      (λ e. block_units_end block left (unit ∷ units) c (λ us d. write_blocks g m left (block + 1) 0 us d)
      (λ us d w. write_ends left (block + 1) 0 us d (omega arith) w) 0 place (unit ∷ units) below (omega arith) weak)))

length-units_of : (size n : ℕ) (bytes : List ℕ) → length (units_of size n bytes) ≡ n
length-units_of size zero bytes = refl
length-units_of size (suc n) bytes = ap suc (length-units_of size n (drop size bytes))

nandwrite_ends : (g : Geometry) (m : WriteMode) (blocks off : ℕ) (bytes : List ℕ) (weak : ℕ)
    → EndsIn (write_from_start g m blocks off bytes) weak (bound g m (blocks - off / block_size g) (unit_count g m.oob bytes) weak)
nandwrite_ends g m blocks off bytes weak =
    subst (λ (n : ℕ). EndsIn (write_from_start g m blocks off bytes) weak (bound g m (blocks - off / block_size g) n weak))
    (length-units_of (unit_size g m.oob) (unit_count g m.oob bytes) bytes)
    (write_ends g m (blocks - off / block_size g) (off / block_size g) (off / g.page % g.pages_per_block)
    (units_of (unit_size g m.oob) (unit_count g m.oob bytes) bytes) (record { pages = 0; skipped = 0; failed = 0 })
    (let below = mod-lt (off / g.page) (pages-some g) in omega (arith, below)) weak)

-- a command whose operations no trouble makes more
steady_ends : (g : Geometry) (command : Command) (n : ℕ) → Ends (script_of g command) n → ((weak : ℕ) → n ≤ cost_of g command weak) → CommandsEnd g command
steady_ends g command n h few weak replies trouble enough = let f = few weak in h replies (omega (arith, f))

steady_ends_at_last : (g : Geometry) (command : Command) (n weak : ℕ) → Ends (script_of g command) n → n ≤ cost_of g command weak → EndsAtLast g command weak
steady_ends_at_last g command n weak h few replies enough = h replies (omega (arith, few))

one_ends : (op : Op) (outcome : Reply → Outcome) → Ends (Ask op (λ r. End (outcome r))) 1
one_ends op outcome = ends_ask op (λ r. End (outcome r)) 0 (λ r. ends_over (outcome r) 0)

-- a command ends after at most its cost
pub command_ends : (g : Geometry) (command : Command) → Fits g command → CommandsEnd g command
command_ends g (FlashErase dev blocks no_scan start count) h =
    steady_ends g (FlashErase dev blocks no_scan start count) _ (erase_ends dev no_scan (count_or_rest count start blocks) start 0 0 0) (λ weak. same-le _)
command_ends g (NandWrite dev blocks mark raw oob pad off bytes) h = λ weak.
    nandwrite_ends g (record { dev = dev; mark = mark; raw = raw; oob = oob }) blocks off bytes weak
command_ends g (NandDump dev blocks off len raw oob bad) h =
    steady_ends g (NandDump dev blocks off len raw oob bad) _ (dump_ends g (record { dev = dev; raw = raw; oob = oob; bad = bad }) _ _ _ _) (λ weak. same-le _)
command_ends g (NandTest dev blocks keep mark seed passes off len) h =
    steady_ends g (NandTest dev blocks keep mark seed passes off len) _
    (nandtest_ends g (record { dev = dev; keep = keep; mark = mark; seed = seed; passes = passes }) blocks off len) (λ weak. same-le _)
command_ends g (MarkBad dev blocks block) h = steady_ends g (MarkBad dev blocks block) 1 (one_ends _ _) (λ weak. same-le 1)
command_ends g (AskBad dev blocks block) h = steady_ends g (AskBad dev blocks block) 1 (one_ends _ _) (λ weak. same-le 1)
command_ends g (AskStats dev blocks) h = steady_ends g (AskStats dev blocks) 1 (one_ends _ _) (λ weak. same-le 1)

-- a command ends whatever the replies are
pub command_ends_at_last : (g : Geometry) (command : Command) → Fits g command → EndsAtLast g command (troubled_blocks g command)
command_ends_at_last g (FlashErase dev blocks no_scan start count) h =
    steady_ends_at_last g (FlashErase dev blocks no_scan start count) _ 0 (erase_ends dev no_scan (count_or_rest count start blocks) start 0 0 0) (same-le _)
command_ends_at_last g (NandWrite dev blocks mark raw oob pad off bytes) h = λ replies.
    command_ends g (NandWrite dev blocks mark raw oob pad off bytes) h (blocks - off / block_size g) replies
    (troubles_are_few g dev blocks mark raw oob pad off bytes replies)
command_ends_at_last g (NandDump dev blocks off len raw oob bad) h =
    steady_ends_at_last g (NandDump dev blocks off len raw oob bad) _ 0 (dump_ends g (record { dev = dev; raw = raw; oob = oob; bad = bad }) _ _ _ _) (same-le _)
command_ends_at_last g (NandTest dev blocks keep mark seed passes off len) h =
    steady_ends_at_last g (NandTest dev blocks keep mark seed passes off len) _ 0
    (nandtest_ends g (record { dev = dev; keep = keep; mark = mark; seed = seed; passes = passes }) blocks off len) (same-le _)
command_ends_at_last g (MarkBad dev blocks block) h = steady_ends_at_last g (MarkBad dev blocks block) 1 0 (one_ends _ _) (same-le 1)
command_ends_at_last g (AskBad dev blocks block) h = steady_ends_at_last g (AskBad dev blocks block) 1 0 (one_ends _ _) (same-le 1)
command_ends_at_last g (AskStats dev blocks) h = steady_ends_at_last g (AskStats dev blocks) 1 0 (one_ends _ _) (same-le 1)
