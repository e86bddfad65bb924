-- The first operation of a command.
use Rattle.std.proofs.Common.{◌≡◌, ℕ, zero, suc, ◌+◌, ◌-◌, ◌*◌, ◌/◌, ◌%◌, ◌<◌, ◌≤◌, ◌⊎◌, inl, inr, Bool, true, false, not, List, [], length, min, refl, sym, ap, ◌∙◌, arith}
use Rattle.std.specs.Prelude.{nat_lt, ◌==◌}
use Rattle.std.proofs.Math.Nat.{mod-lt, div-eq_of_lt}
use Rattle.std.proofs.lemmas.Bool.{cases_lt, lt-ltb, le-ltb}
use Rattle.std.proofs.lemmas.Bool.Decides.{eqb_tells}
use Rattle.std.proofs.lemmas.Nat.{le-div}
use Rattle.nand_model.proofs.Bounds.{pages-some}
use Rattle.nand_model.specs.declared.geometry.Geometry.{Geometry}
use Rattle.nand_model.specs.declared.words.Command.{Command}
use Rattle.nand_model.specs.declared.words.Command.TheVariants.{FlashErase, NandWrite, NandDump, NandTest, MarkBad, IsBad as AskBad, Stats as AskStats}
use Rattle.nand_model.specs.declared.words.Ending.TheVariants.{Whole}
use Rattle.nand_model.specs.declared.words.Outcome.TheVariants.{NandWrite as Written}
use Rattle.command_model.specs.Command.{Over, next_in, next_step, block_size, count_or_rest, erase_blocks, unit_count, unit_size, units_of, WriteMode, WriteCounts, write_blocks, DumpMode, DumpCounts, dump_block, dump_blocks}
use Rattle.command_model.specs.NandTest.{TestMode, TestCounts, test_passes}
use Rattle.command_model.specs.Runnable.{Fits}
use Rattle.tool_steps.specs.Steps.{is_over, asks_something}
use Rattle.tool_steps.specs.Ranges.{range_blocks, range_pages}
use Rattle.tool_steps.proofs.Dumps.{either_asks, block_asks}
use Rattle.tool_steps.proofs.Sizes.{block_of_offset-lt, blocks_touched-suc, page_of_offset-lt, unit_size-low}

-- some blocks or pages of a range
pub count_some : (count start all : ℕ) → start < all → 1 ≤ count_or_rest count start all
count_some count start all h = elim (eqb_tells count 0) [ inl none ↦ rw none.0 (omega arith) | inr some ↦ rw some.0 (let s = some.1 in omega arith) ]

erase_asks : (dev : ℕ) (no_scan : Bool) (left block erased bad failed : ℕ) → 1 ≤ left → is_over (next_in (erase_blocks dev no_scan left block erased bad failed)) ≡ false
erase_asks dev no_scan zero block erased bad failed h = absurd (omega arith)
erase_asks dev no_scan (suc left) block erased bad failed h = either_asks no_scan _ _ _ _

write_asks : (g : Geometry) (m : WriteMode) (left block place size n : ℕ) (bytes : List ℕ) (c : WriteCounts) → 1 ≤ left
    → is_over (next_in (write_blocks g m left block place (units_of size n bytes) c)) ≡ not (nat_lt 0 n)
write_asks g m zero block place size n bytes c h = absurd (omega arith)
write_asks g m (suc left) block place size zero bytes c h = refl
write_asks g m (suc left) block place size (suc n) bytes c h = sym (ap not (lt-ltb 0 (suc n) (omega arith)))

dump_asks : (g : Geometry) (m : DumpMode) (blocks left page : ℕ) (c : DumpCounts) → 1 ≤ left → is_over (next_in (dump_blocks g m (suc blocks) left page c)) ≡ false
dump_asks g m blocks left page c h =
    let below = mod-lt page (pages-some g) in
    let here : min left (g.pages_per_block - page % g.pages_per_block) ≡ suc (min left (g.pages_per_block - page % g.pages_per_block) - 1) = omega (arith, below) in
    ap (λ (n : ℕ). is_over (next_in (dump_block g m n page c (λ d. dump_blocks g m blocks (left - min left (g.pages_per_block - page % g.pages_per_block))
    (page + min left (g.pages_per_block - page % g.pages_per_block)) d)))) here
    ∙ block_asks g m (min left (g.pages_per_block - page % g.pages_per_block) - 1) page c _

-- data fill a unit exactly where there are any
unit_count-some : (g : Geometry) (oob : Bool) (bytes : List ℕ) → nat_lt 0 (unit_count g oob bytes) ≡ nat_lt 0 (length bytes)
unit_count-some g oob bytes = by_order (cases_lt 0 (length bytes)) (unit_size-low g oob)
  where
    by_order : (0 < length bytes) ⊎ (length bytes ≤ 0) → 2048 ≤ unit_size g oob → nat_lt 0 (unit_count g oob bytes) ≡ nat_lt 0 (length bytes)
    by_order (inl some) low =
        let one : 1 ≤ unit_count g oob bytes = le-div 1 (length bytes + (unit_size g oob - 1)) (unit_size g oob) (omega arith) (omega arith) in
        lt-ltb 0 (unit_count g oob bytes) one ∙ sym (lt-ltb 0 (length bytes) some)
    by_order (inr none) low =
        let zeros : unit_count g oob bytes ≡ 0 = div-eq_of_lt (omega arith) in
        le-ltb 0 (unit_count g oob bytes) (omega (arith, zeros)) ∙ sym (le-ltb 0 (length bytes) none)

-- a number that is not 0 is above 0
pub some_tells : (n : ℕ) → not (n == 0) ≡ nat_lt 0 n
some_tells n =
    elim (eqb_tells n 0) [
      | inl none ↦ rw (none.0, none.1) refl
      | inr some ↦ let apart = some.1 in rw some.0 (sym (lt-ltb 0 n (omega arith)))
    ]

-- nandtest asks for the state of its first block first
test_asks : (g : Geometry) (m : TestMode) (first count left : ℕ) (c : TestCounts) → 1 ≤ count → 1 ≤ left → is_over (next_in (test_passes g m first count left c)) ≡ false
test_asks g m first zero left c some passes = absurd (omega arith)
test_asks g m first (suc count) zero c some passes = absurd (omega arith)
test_asks g m first (suc count) (suc left) c some passes = refl

-- whether a command asks for an operation
pub asks_at_all : (g : Geometry) (command : Command) → Fits g command → asks_something command ≡ not (is_over (next_step g command []))
asks_at_all g (FlashErase dev blocks no_scan start count) h =
    sym (ap not (erase_asks dev no_scan (count_or_rest count start blocks) start 0 0 0 (count_some count start blocks h.first)))
asks_at_all g (NandWrite dev blocks mark raw oob pad off bytes) h =
    let below = block_of_offset-lt g blocks off h.first in
    let left : 1 ≤ blocks - off / block_size g = omega (arith, below) in
    sym (ap not (write_asks g (record { dev = dev; mark = mark; raw = raw; oob = oob }) (blocks - off / block_size g) (off / block_size g)
    (off / g.page % g.pages_per_block) (unit_size g oob) (unit_count g oob bytes) bytes (record { pages = 0; skipped = 0; failed = 0 }) left)
    ∙ not_not (nat_lt 0 (unit_count g oob bytes)) ∙ unit_count-some g oob bytes)
  where
    not_not : (b : Bool) → not (not b) ≡ b
    not_not true = refl
    not_not false = refl
asks_at_all g (NandDump dev blocks off len raw oob bad) h =
    let some : 1 ≤ range_pages g blocks off len = count_some (len / g.page) (off / g.page) (blocks * g.pages_per_block) (page_of_offset-lt g blocks off h.first) in
    let m : DumpMode = record { dev = dev; raw = raw; oob = oob; bad = bad } in
    sym (ap not (ap (λ (n : ℕ). is_over (next_in (dump_blocks g m n (range_pages g blocks off len) (off / g.page)
    (record { pages = 0; bad = 0; corrected = 0; failed = 0; dump = [] })))) (blocks_touched-suc g (range_pages g blocks off len) (off / g.page) some)
    ∙ dump_asks g m _ (range_pages g blocks off len) (off / g.page) _ some))
asks_at_all g (NandTest dev blocks keep mark seed passes off len) h =
    sym (ap not (test_asks g (record { dev = dev; keep = keep; mark = mark; seed = seed; passes = passes }) (off / block_size g) (range_blocks g blocks off len) passes
    (record { blocks = 0; bad = 0; worn = 0; mismatched = 0; corrected = 0; failed = 0 })
    (count_some (len / block_size g) (off / block_size g) blocks (block_of_offset-lt g blocks off h.first)) h.some))
asks_at_all g (MarkBad dev blocks block) h = refl
asks_at_all g (AskBad dev blocks block) h = refl
asks_at_all g (AskStats dev blocks) h = refl

-- a command that asks for something asks for an operation first
pub asks_first : (g : Geometry) (command : Command) → Fits g command → asks_something command ≡ true → is_over (next_step g command []) ≡ false
asks_first g command h asks = by_answer (is_over (next_step g command [])) (sym (asks_at_all g command h) ∙ asks)
  where
    by_answer : (b : Bool) → not b ≡ true → b ≡ false
    by_answer true e = sym e
    by_answer false e = refl

-- a nandwrite of no data, the one command that asks for nothing, is over with an outcome of zeros
pub asks_nothing : (g : Geometry) (command : Command) → Fits g command → asks_something command ≡ false → next_step g command [] ≡ Over (Written 0 0 0 Whole)
asks_nothing g (FlashErase dev blocks no_scan start count) h none = cc
asks_nothing g (NandWrite dev blocks mark raw oob pad off bytes) h none =
    let empty : unit_count g oob bytes ≡ 0 = by_count (unit_count g oob bytes) (unit_count-some g oob bytes ∙ none) in
    ap (λ (n : ℕ). next_in (write_blocks g (record { dev = dev; mark = mark; raw = raw; oob = oob }) (blocks - off / block_size g) (off / block_size g)
    (off / g.page % g.pages_per_block) (units_of (unit_size g oob) n bytes) (record { pages = 0; skipped = 0; failed = 0 }))) empty
  where
    by_count : (n : ℕ) → nat_lt 0 n ≡ false → n ≡ 0
    by_count zero e = refl
    by_count (suc n) e = absurd (true-not-false (sym (lt-ltb 0 (suc n) (omega arith)) ∙ e))
      where
        true-not-false : true ≡ false → ⊥
        true-not-false e = cc
asks_nothing g (NandDump dev blocks off len raw oob bad) h none = cc
asks_nothing g (NandTest dev blocks keep mark seed passes off len) h none = cc
asks_nothing g (MarkBad dev blocks block) h none = cc
asks_nothing g (AskBad dev blocks block) h none = cc
asks_nothing g (AskStats dev blocks) h none = cc
