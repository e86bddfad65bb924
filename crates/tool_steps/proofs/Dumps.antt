-- The places of a nanddump.
use Rattle.std.proofs.Common.{◌≡◌, ℕ, suc, ◌+◌, ◌-◌, ◌*◌, ◌/◌, ◌%◌, ◌<◌, ◌≤◌, ◌⊎◌, inl, inr, Bool, true, false, List, [], ◌++◌, replicate, min, Result, Ok, Err, IfOk, refl, sym, ap, ◌∙◌, subst, arith, append-nil}
use Rattle.std.specs.Prelude.{if◌then◌else◌, ◌==◌}
use Rattle.std.specs.declared.alloc.AllocError.{AllocError}
use Rattle.std.proofs.lemmas.Bool.{cases_lt, eq-eqb, ne_eqb}
use Rattle.std.proofs.Math.Nat.{mul-div_cancel, mul-mod_left, mod-lt}
use Rattle.std.proofs.lemmas.Nat.{div-add-mod'}
use Rattle.nand_model.proofs.Bounds.{pages-some}
use Rattle.nand_model.specs.declared.geometry.Geometry.{Geometry}
use Rattle.nand_model.specs.declared.words.Op.{Op}
use Rattle.nand_model.specs.declared.words.Op.TheVariants.{IsBad}
use Rattle.nand_model.specs.declared.words.Outcome.{Outcome}
use Rattle.nand_model.specs.declared.words.Reply.{Reply}
use Rattle.command_model.specs.Command.{Script, Ask, End, DumpMode, DumpCounts, says_bad, is_pad_bad, is_dump_bad, unit_size, with_pages_passed, dump_pages, dump_block, dump_blocks, blocks_touched, next_in}
use Rattle.tool_steps.specs.Steps.{is_over, TurnsTo}
use Rattle.tool_steps.specs.declared.step.Turn.{Turn}
use Rattle.tool_steps.specs.declared.step.Turn.TheVariants.{End as EndNow}
use Rattle.tool_steps.specs.declared.dumping.Called.{Called}
use Rattle.tool_steps.specs.declared.dumping.Counts.{Counts}
use Rattle.tool_steps.specs.declared.dumping.DumpAt.{DumpAt}
use Rattle.tool_steps.specs.Dumping.{blocks_for, block_left, counts_with, dump_end, dump_mode, later_left, passed_part}
use Rattle.tool_steps.proofs.Sizes.{blocks_for-none, blocks_for-suc, blocks_touched-suc}

-- a turn that ends the command
pub ended_turn : (r : Result Turn AllocError) (outcome : Outcome) (left script : Script) → IfOk r (λ t. t ≡ EndNow outcome) → script ≡ End outcome
    → IfOk r (λ t. TurnsTo t left script)
ended_turn (Ok t) outcome left script h e = subst (λ (x : Turn). TurnsTo x left script) (sym h) e
ended_turn (Err x) outcome left script h e = tt

-- the dump of the pages of a bad block
passed_same : (g : Geometry) (m : Called) (n : ℕ) (c : Counts) (dump : List ℕ) (bad : ℕ)
    → with_pages_passed g (dump_mode m) n (record (counts_with c dump) { bad = bad }) ≡ record (counts_with c (dump ++ passed_part g m n)) { bad = bad }
passed_same g m n c dump bad = by_mode (is_pad_bad m.bad)
  where
    by_mode : (b : Bool)
        → (if b then record (counts_with c (dump ++ replicate (n * unit_size g m.oob) 0xff)) { bad = bad } else record (counts_with c dump) { bad = bad })
        ≡ record (counts_with c (dump ++ (if b then replicate (n * unit_size g m.oob) 0xff else []))) { bad = bad }
    by_mode true = refl
    by_mode false = ap (λ (xs : List ℕ). record (counts_with c xs) { bad = bad }) (sym (append-nil dump))

-- the pages of the range in a block, before what follows them
pub block_is : (g : Geometry) (d : DumpAt) (dump : List ℕ) (n page : ℕ) (go_on : DumpCounts → Script) → n ≡ suc d.rest
    → page ≡ d.block * g.pages_per_block + d.place → page / g.pages_per_block ≡ d.block → ((c : DumpCounts) → go_on c ≡ later_left g d c)
    → dump_block g (dump_mode d.called) n page (counts_with d.counts dump) go_on ≡ block_left g d dump
block_is g d dump n page go_on en ep eb follows =
    let m : DumpMode = dump_mode d.called in
    let c : DumpCounts = counts_with d.counts dump in
    let here : (page block : ℕ) → DumpCounts → Script = λ page block passed.
    if is_dump_bad d.called.bad then dump_pages g (dump_mode d.called) (suc d.rest) page (counts_with d.counts dump) (later_left g d)
    else Ask (IsBad d.called.dev block) (λ r. if says_bad r then later_left g d passed
    else dump_pages g (dump_mode d.called) (suc d.rest) page (counts_with d.counts dump) (later_left g d)) in
    (λ i. dump_block g m (en i) page c (λ x. follows x i))
    ∙ (λ i. here (ep i) (eb i) (passed_same g d.called (suc d.rest) d.counts dump (d.counts.bad + 1) i))

-- the later blocks of a range, from the one after this on
abbrev later_from : Geometry → DumpMode → (left page : ℕ) → DumpCounts → Script
later_from g m left page c = dump_blocks g m (blocks_for g left) left page c

-- where no page is left, the page does not matter
same_page : (g : Geometry) (m : DumpMode) (left page other : ℕ) (c : DumpCounts) → (left ≡ 0) ⊎ (page ≡ other) → later_from g m left page c ≡ later_from g m left other c
same_page g m left page other c (inr e) = ap (λ (p : ℕ). later_from g m left p c) e
same_page g m left page other c (inl e) =
    let none : blocks_for g left ≡ 0 = ap (blocks_for g) e ∙ blocks_for-none g in
    (λ i. dump_blocks g m (none i) left page c) ∙ sym (λ i. dump_blocks g m (none i) left other c)

-- no page in later blocks
pub later_left-none : (g : Geometry) (d : DumpAt) (c : DumpCounts) → d.later ≡ 0 → later_left g d c ≡ End (dump_end c)
later_left-none g d c e =
    let none : blocks_for g d.later ≡ 0 = ap (blocks_for g) e ∙ blocks_for-none g in
    λ i. dump_blocks g (dump_mode d.called) (none i) d.later ((d.block + 1) * g.pages_per_block) c

next_page : (p block later : ℕ) → (later - min later p ≡ 0) ⊎ ((block + 1) * p + min later p ≡ (block + 1 + 1) * p)
next_page p block later =
    elim (cases_lt p later) [ inl many ↦ inr (omega arith) | inr few ↦ inl (omega arith) ]

-- the next block of a range, where so many pages lie in it
pub later_left-next : (g : Geometry) (d next : DumpAt) (counts : Counts) (dump : List ℕ) → 1 ≤ d.later → next.called ≡ d.called → next.block ≡ d.block + 1 → next.place ≡ 0
    → suc next.rest ≡ min d.later g.pages_per_block → next.later ≡ d.later - min d.later g.pages_per_block → next.counts ≡ counts
    → later_left g d (counts_with counts dump) ≡ block_left g next dump
later_left-next g d next counts dump some em eb ep er el ec =
    let p : ℕ = g.pages_per_block in
    let m : DumpMode = dump_mode next.called in
    let page : ℕ = (d.block + 1) * g.pages_per_block in
    let here : ℕ = min d.later (g.pages_per_block - (d.block + 1) * g.pages_per_block % g.pages_per_block) in
    let aligned : (d.block + 1) * g.pages_per_block % g.pages_per_block ≡ 0 = mul-mod_left (d.block + 1) g.pages_per_block in
    let same : min d.later (g.pages_per_block - (d.block + 1) * g.pages_per_block % g.pages_per_block) ≡ min d.later g.pages_per_block = omega (arith, aligned) in
    let block : (d.block + 1) * g.pages_per_block / g.pages_per_block ≡ next.block = mul-div_cancel (d.block + 1) (pages-some g) ∙ sym eb in
    let start : (d.block + 1) * g.pages_per_block ≡ next.block * g.pages_per_block + next.place =
    let e : (d.block + 1) * g.pages_per_block ≡ (d.block + 1) * g.pages_per_block + 0 = omega arith in
    e ∙ (λ i. sym eb i * g.pages_per_block + sym ep i) in
    let follows : (c : DumpCounts) → dump_blocks g (dump_mode next.called) (blocks_for g (d.later - min d.later g.pages_per_block))
    (d.later - min d.later (g.pages_per_block - (d.block + 1) * g.pages_per_block % g.pages_per_block))
    ((d.block + 1) * g.pages_per_block + min d.later (g.pages_per_block - (d.block + 1) * g.pages_per_block % g.pages_per_block)) c ≡ later_left g next c =
    λ c.
    (λ i. dump_blocks g (dump_mode next.called) (blocks_for g (d.later - min d.later g.pages_per_block)) (d.later - same i) ((d.block + 1) * g.pages_per_block + same i) c)
    ∙ same_page g (dump_mode next.called) (d.later - min d.later g.pages_per_block) ((d.block + 1) * g.pages_per_block + min d.later g.pages_per_block)
    ((d.block + 1 + 1) * g.pages_per_block) c (next_page g.pages_per_block d.block d.later)
    ∙ (λ i. later_from g (dump_mode next.called) (sym el i) ((sym eb i + 1) * g.pages_per_block) c) in
    (λ i. dump_blocks g (dump_mode (sym em i)) (blocks_for-suc g d.later some i) d.later ((d.block + 1) * g.pages_per_block) (counts_with (sym ec i) dump))
    ∙ block_is g next dump (min d.later (g.pages_per_block - (d.block + 1) * g.pages_per_block % g.pages_per_block)) ((d.block + 1) * g.pages_per_block)
    (λ c. dump_blocks g (dump_mode next.called) (blocks_for g (d.later - min d.later g.pages_per_block))
    (d.later - min d.later (g.pages_per_block - (d.block + 1) * g.pages_per_block % g.pages_per_block))
    ((d.block + 1) * g.pages_per_block + min d.later (g.pages_per_block - (d.block + 1) * g.pages_per_block % g.pages_per_block)) c)
    (same ∙ sym er) start block follows

next_page_after : (p q r n : ℕ) → r < p → (n - min n (p - r) ≡ 0) ⊎ (q * p + r + min n (p - r) ≡ (q + 1) * p)
next_page_after p q r n below =
    elim (cases_lt (p - r) n) [ inl many ↦ inr (omega arith) | inr few ↦ inl (omega arith) ]

-- the first block of a range
pub first_block : (g : Geometry) (d : DumpAt) (pages first : ℕ) (dump : List ℕ) → 1 ≤ pages → d.block ≡ first / g.pages_per_block → d.place ≡ first % g.pages_per_block
    → suc d.rest ≡ min pages (g.pages_per_block - first % g.pages_per_block) → d.later ≡ pages - min pages (g.pages_per_block - first % g.pages_per_block)
    → dump_blocks g (dump_mode d.called) (blocks_touched g pages first) pages first (counts_with d.counts dump) ≡ block_left g d dump
first_block g d pages first dump some eb ep er el =
    let whole : first / g.pages_per_block * g.pages_per_block + first % g.pages_per_block ≡ first = div-add-mod' first g.pages_per_block in
    let start : first ≡ d.block * g.pages_per_block + d.place = sym whole ∙ (λ i. sym eb i * g.pages_per_block + sym ep i) in
    let after : (pages - min pages (g.pages_per_block - first % g.pages_per_block) ≡ 0)
    ⊎ (first + min pages (g.pages_per_block - first % g.pages_per_block) ≡ (first / g.pages_per_block + 1) * g.pages_per_block) =
    elim (next_page_after g.pages_per_block (first / g.pages_per_block) (first % g.pages_per_block) pages (mod-lt first (pages-some g))) [
      | inl none ↦ inl none
      | inr next ↦ inr (ap (λ (k : ℕ). k + min pages (g.pages_per_block - first % g.pages_per_block)) (sym whole) ∙ next)
    ] in
    let follows : (c : DumpCounts) → dump_blocks g (dump_mode d.called) (blocks_for g (pages - min pages (g.pages_per_block - first % g.pages_per_block)))
    (pages - min pages (g.pages_per_block - first % g.pages_per_block)) (first + min pages (g.pages_per_block - first % g.pages_per_block)) c ≡ later_left g d c =
    λ c.
    same_page g (dump_mode d.called) (pages - min pages (g.pages_per_block - first % g.pages_per_block)) (first + min pages (g.pages_per_block - first % g.pages_per_block))
    ((first / g.pages_per_block + 1) * g.pages_per_block) c after
    ∙ (λ i. later_from g (dump_mode d.called) (sym el i) ((sym eb i + 1) * g.pages_per_block) c) in
    (λ i. dump_blocks g (dump_mode d.called) (blocks_touched-suc g pages first some i) pages first (counts_with d.counts dump))
    ∙ block_is g d dump (min pages (g.pages_per_block - first % g.pages_per_block)) first
    (λ c. dump_blocks g (dump_mode d.called) (blocks_for g (pages - min pages (g.pages_per_block - first % g.pages_per_block)))
    (pages - min pages (g.pages_per_block - first % g.pages_per_block)) (first + min pages (g.pages_per_block - first % g.pages_per_block)) c)
    (sym er) start (sym eb) follows

pub either_asks : (b : Bool) (op other : Op) (f h : Reply → Script) → is_over (next_in (if b then Ask op f else Ask other h)) ≡ false
either_asks true op other f h = refl
either_asks false op other f h = refl

pub block_asks : (g : Geometry) (m : DumpMode) (n page : ℕ) (c : DumpCounts) (go_on : DumpCounts → Script) → is_over (next_in (dump_block g m (suc n) page c go_on)) ≡ false
block_asks g m n page c go_on = either_asks (is_dump_bad m.bad) _ _ _ _

-- the later blocks ask for something exactly where there are any
pub later_left-over : (g : Geometry) (d : DumpAt) (c : DumpCounts) → is_over (next_in (later_left g d c)) ≡ (d.later == 0)
later_left-over g d c = by_order (cases_lt 0 d.later)
  where
    by_order : (0 < d.later) ⊎ (d.later ≤ 0) → is_over (next_in (later_left g d c)) ≡ (d.later == 0)
    by_order (inr none) =
        let zeros : d.later ≡ 0 = omega arith in
        ap (λ (s : Script). is_over (next_in s)) (later_left-none g d c zeros) ∙ sym (eq-eqb d.later 0 zeros)
    by_order (inl some) =
        let page : ℕ = (d.block + 1) * g.pages_per_block in
        let below : (d.block + 1) * g.pages_per_block % g.pages_per_block < g.pages_per_block = mod-lt ((d.block + 1) * g.pages_per_block) (pages-some g) in
        let here : min d.later (g.pages_per_block - (d.block + 1) * g.pages_per_block % g.pages_per_block)
        ≡ suc (min d.later (g.pages_per_block - (d.block + 1) * g.pages_per_block % g.pages_per_block) - 1) = omega arith in
        let go_on : DumpCounts → Script = λ x. dump_blocks g (dump_mode d.called) (blocks_for g (d.later - min d.later g.pages_per_block))
        (d.later - min d.later (g.pages_per_block - (d.block + 1) * g.pages_per_block % g.pages_per_block))
        ((d.block + 1) * g.pages_per_block + min d.later (g.pages_per_block - (d.block + 1) * g.pages_per_block % g.pages_per_block)) x in
        (λ i. is_over (next_in (dump_blocks g (dump_mode d.called) (blocks_for-suc g d.later some i) d.later ((d.block + 1) * g.pages_per_block) c)))
        ∙ (λ i. is_over (next_in (dump_block g (dump_mode d.called) (here i) ((d.block + 1) * g.pages_per_block) c go_on)))
        ∙ block_asks g (dump_mode d.called) (min d.later (g.pages_per_block - (d.block + 1) * g.pages_per_block % g.pages_per_block) - 1) ((d.block + 1) * g.pages_per_block) c go_on
        ∙ sym (ne_eqb d.later 0 (λ e. omega arith))
