-- Lines of the header, controllers, chips and partitions that were kept, and their canonical lines.
use Rattle.std.proofs.Common.{◌≡◌, ◌∙◌, ℕ, ◌+◌, ◌-◌, ◌≤◌, ◌<◌, Bool, true, false, not, eqb, leb, ltb, List, [], ◌∷◌, ◌++◌, length, Option, Some, Ok, inl, inr, sym, ap, refl, subst, arith}
use Rattle.std.proofs.Props.{props}
use Rattle.std.specs.Prelude.{◌&&◌, ◌||◌, All, codes, decimal, if◌then◌else◌}
use Rattle.std.specs.List.{list_all, list_any}
use Rattle.std.proofs.lemmas.Bool.{and_from, and_parts, cond-true, cond-false, ltb-true, leb-true, lt-ltb, le-leb, ne_eqb, not-true, cases_eq, eq-eqb}
use Rattle.std.proofs.lemmas.List.Elements.{All-cons, All-nil}
use Rattle.code_model.specs.Code.{code_512}
use Rattle.nand_model.specs.Layout.{has_sizes, has_room, is_geometry, threshold_in_force}
use Rattle.nand_model.specs.Sizes.{page_count}
use Rattle.nand_model.specs.declared.geometry.Geometry.{Geometry}
use Rattle.nand_model.specs.declared.words.Weak.{Weak}
use Rattle.nand_model.specs.declared.words.WeakKind.{WeakKind}
use Rattle.nand_model.specs.declared.words.WeakKind.TheVariants.{Program, Erase}
use Rattle.nand_model.proofs.Bounds.{bounds}
use Rattle.plan_grammar.specs.declared.kind.PlanKind.TheVariants.{WrongPlace, BadWords, BadSize, SpareTooSmall, OutOfChip, TooFewTableBlocks, Overlap, TooLarge}
use Rattle.plan_grammar.specs.declared.lines.PlanLines.{PlanLines}
use Rattle.plan_grammar.specs.declared.lines.ChipLines.{ChipLines}
use Rattle.plan_grammar.specs.declared.lines.PartLine.{PartLine}
use Rattle.plan_grammar.specs.declared.lines.DetailLine.TheVariants.{Bad, Weak as WeakAt, Bus}
use Rattle.plan_grammar.specs.Limits.{most_controllers, most_chips, most_pages}
use Rattle.plan_grammar.specs.Rules.{there, is_empty, last_of}
use Rattle.plan_grammar.specs.Forms.{two_words, four_words, small_number, small_numbers, tear, weak_kind}
use Rattle.plan_grammar.specs.Devices.{bad_blocks, is_weak, has_bus, are_different, share_block, all_pages}
use Rattle.plan_grammar.specs.Hardware.{is_hardware, has_chip, last_chip, with_chip, with_detail, with_part, is_version, header_line, controller_line, geometry_if, geometry, sizes, chip_line, open_chip, leaves_table_blocks, bad_line, place_count, weak_words, weak_form, weak_line, bus_line, part_in_force, part_words, part_form, part_line}
use Rattle.plan_grammar.specs.Canonical.{decimals, weak_kind_text, tear_text}
use Rattle.plan_laws.proofs.Steps.{kept, rule_kept, found, there_kept, step, rule_step, there_step, ok_same, empty_is}
use Rattle.plan_laws.proofs.Numbers.{IsSmall, small_fits, small_again, small_numbers_fit, small_numbers_again}
use Rattle.plan_laws.proofs.Tears.{IsTear, tear_kept, tear_again}

-- the header
pub record HeaderKept (plan next : PlanLines) : Type 0 where
  pub unbegun : plan.begun ≡ false
  pub next_is : record plan { begun = true } ≡ next

pub header_kept : (plan next : PlanLines) (words : List (List ℕ)) → header_line plan words ≡ Ok next → HeaderKept plan next
unfolding header_line
header_kept plan next words e =
    let one = rule_kept (not plan.begun) WrongPlace _ next e in
    let two = rule_kept (is_version words) BadWords _ next one.1 in
    record { unbegun = not-true plan.begun one.0; next_is = ok_same (record plan { begun = true }) next two.1 }

pub header_again : (plan next : PlanLines) → HeaderKept plan next → header_line plan (codes "1" ∷ []) ≡ Ok next
unfolding header_line
header_again plan next h =
    rule_step (not plan.begun) WrongPlace _ next (ap not h.unbegun) (ap (λ p. Ok p) h.next_is)

-- a controller
pub record ControllerKept (plan next : PlanLines) : Type 0 where
  pub may : (plan.begun && is_hardware plan && (is_empty plan.controllers || has_chip plan)) ≡ true
  pub few : length plan.controllers < most_controllers
  pub next_is : record plan { controllers = plan.controllers ++ [] ∷ [] } ≡ next

pub controller_kept : (plan next : PlanLines) (words : List (List ℕ)) → controller_line plan words ≡ Ok next →
    ControllerKept plan next
unfolding controller_line
controller_kept plan next words e =
    let one = rule_kept (plan.begun && is_hardware plan && (is_empty plan.controllers || has_chip plan)) WrongPlace _ next e in
    let two = rule_kept (is_empty words) BadWords _ next one.1 in
    let three = rule_kept (ltb (length plan.controllers) most_controllers) TooLarge _ next two.1 in
    record {
      may = one.0;
      few = ltb-true (length plan.controllers) most_controllers three.0;
      next_is = ok_same (record plan { controllers = plan.controllers ++ [] ∷ [] }) next three.1;
    }

pub controller_again : (plan next : PlanLines) → ControllerKept plan next → controller_line plan [] ≡ Ok next
unfolding controller_line
controller_again plan next h =
    rule_step (plan.begun && is_hardware plan && (is_empty plan.controllers || has_chip plan)) WrongPlace _ next h.may
    (rule_step (ltb (length plan.controllers) most_controllers) TooLarge _ next
    (lt-ltb (length plan.controllers) most_controllers h.few) (ap (λ p. Ok p) h.next_is))

-- sizes of a chip are read again from themselves
one_proof : (b : Bool) (e f : b ≡ true) → e ≡ f
one_proof b e f = let once : IsProp (b ≡ true) = hlevel props in once e f

own_if : (g : Geometry) (b : Bool) (e : is_geometry g.page g.spare g.pages_per_block g.blocks g.t g.bbt g.threshold ≡ b) →
    b ≡ true → geometry_if g.page g.spare g.pages_per_block g.blocks g.t g.bbt g.threshold b e ≡ Some g
own_if g true e is =
    ap (λ (h : is_geometry g.page g.spare g.pages_per_block g.blocks g.t g.bbt g.threshold ≡ true). Some (record g { in_bounds = h }))
    (one_proof (is_geometry g.page g.spare g.pages_per_block g.blocks g.t g.bbt g.threshold) e g.in_bounds)
own_if g false e is = absurd (cc is)

own_at : (g : Geometry) (x : ℕ) → g.threshold ≡ x →
    geometry_if g.page g.spare g.pages_per_block g.blocks g.t g.bbt x (is_geometry g.page g.spare g.pages_per_block g.blocks g.t g.bbt x) refl ≡ Some g
own_at g x e =
    subst (λ y. geometry_if g.page g.spare g.pages_per_block g.blocks g.t g.bbt y (is_geometry g.page g.spare g.pages_per_block g.blocks g.t g.bbt y) refl ≡ Some g)
    e (own_if g (is_geometry g.page g.spare g.pages_per_block g.blocks g.t g.bbt g.threshold) refl g.in_bounds)

in_force : (g : Geometry) → g.threshold ≡ threshold_in_force g.t g.threshold
in_force g =
    let low = (bounds g).threshold_low in
    sym (cond-false (eqb g.threshold 0) _ _ (ne_eqb g.threshold 0 (λ e. omega (arith, low, e))))

abbrev pub numbers_of_chip : Geometry → List ℕ
numbers_of_chip g = g.page ∷ g.spare ∷ g.pages_per_block ∷ g.blocks ∷ g.t ∷ g.bbt ∷ g.threshold ∷ []

pub sizes_again : (g : Geometry) → sizes (numbers_of_chip g) ≡ Ok g
unfolding sizes geometry
sizes_again g =
    let all = and_parts (has_sizes g.page g.spare g.pages_per_block g.blocks g.t g.bbt g.threshold && has_room (code_512 g.t) g.page g.spare g.bbt) (leb 1 g.threshold) g.in_bounds in
    let both = and_parts (has_sizes g.page g.spare g.pages_per_block g.blocks g.t g.bbt g.threshold) (has_room (code_512 g.t) g.page g.spare g.bbt) all.0 in
    rule_step (has_sizes g.page g.spare g.pages_per_block g.blocks g.t g.bbt g.threshold) BadSize _ g both.0
    (rule_step (has_room (code_512 g.t) g.page g.spare g.bbt) SpareTooSmall _ g both.1
    (ap (λ (o : Option Geometry). there o BadSize) (own_at g (threshold_in_force g.t g.threshold) (in_force g))))

all_small : (n : ℕ) (ns : List ℕ) → IsSmall n → All IsSmall ns → All IsSmall (n ∷ ns)
all_small n ns h k = All-cons IsSmall n ns h k

pub chip_numbers_small : (g : Geometry) → All IsSmall (numbers_of_chip g)
chip_numbers_small g =
    let b = bounds g in
    let page : IsSmall g.page = elim b.pages [ inl p ↦ omega (arith, p.0) | inr q ↦ elim q [ inl r ↦ omega (arith, r.0) | inr s ↦ omega (arith, s.0) ] ] in
    let spare : IsSmall g.spare = elim b.pages [ inl p ↦ omega (arith, p.1) | inr q ↦ elim q [ inl r ↦ omega (arith, r.1) | inr s ↦ omega (arith, s.1) ] ] in
    let block : IsSmall g.pages_per_block = elim b.block [ inl p ↦ omega (arith, p) | inr q ↦ omega (arith, q) ] in
    all_small g.page (g.spare ∷ g.pages_per_block ∷ g.blocks ∷ g.t ∷ g.bbt ∷ g.threshold ∷ []) page
    (all_small g.spare (g.pages_per_block ∷ g.blocks ∷ g.t ∷ g.bbt ∷ g.threshold ∷ []) spare
    (all_small g.pages_per_block (g.blocks ∷ g.t ∷ g.bbt ∷ g.threshold ∷ []) block
    (all_small g.blocks (g.t ∷ g.bbt ∷ g.threshold ∷ []) (omega (arith, b.blocks_high))
    (all_small g.t (g.bbt ∷ g.threshold ∷ []) (omega (arith, b.t_high))
    (all_small g.bbt (g.threshold ∷ []) (omega (arith, b.bbt_high))
    (all_small g.threshold [] (omega (arith, b.threshold_high, b.t_high)) (All-nil IsSmall)))))))

-- a chip
pub record ChipKept (plan next : PlanLines) : Type 0 where
  pub hardware : is_hardware plan ≡ true
  pub chips : List ChipLines
  pub last : last_of plan.controllers ≡ Some chips
  pub g : Geometry
  pub room : (ltb (length chips) most_chips && leb (all_pages plan + page_count g) most_pages) ≡ true
  pub next_is : with_chip (record { geometry = g; details = []; parts = [] }) plan ≡ next

pub chip_kept : (plan next : PlanLines) (words : List (List ℕ)) → chip_line plan words ≡ Ok next → ChipKept plan next
unfolding chip_line
chip_kept plan next words e =
    let one = rule_kept (is_hardware plan) WrongPlace _ next e in
    let two = found (last_of plan.controllers) WrongPlace _ next one.1 in
    let three = rule_kept (eqb (length words) 6 || eqb (length words) 7) BadWords _ next two.further in
    let four = kept (small_numbers words) _ next three.1 in
    let five = kept (sizes four.value) _ next four.further in
    let six = rule_kept (ltb (length two.value) most_chips && leb (all_pages plan + page_count five.value) most_pages) TooLarge _ next five.further in
    record {
      hardware = one.0;
      chips = two.value;
      last = two.is;
      g = five.value;
      room = six.0;
      next_is = ok_same (with_chip (record { geometry = five.value; details = []; parts = [] }) plan) next six.1;
    }

pub chip_again : (plan next : PlanLines) (h : ChipKept plan next) → chip_line plan (decimals (numbers_of_chip h.g)) ≡ Ok next
unfolding chip_line
chip_again plan next h =
    rule_step (is_hardware plan) WrongPlace _ next h.hardware
    (there_step (last_of plan.controllers) WrongPlace _ h.chips next h.last
    (step (small_numbers (decimals (numbers_of_chip h.g))) _ (numbers_of_chip h.g) next
    (small_numbers_again (numbers_of_chip h.g) (chip_numbers_small h.g))
    (step (sizes (numbers_of_chip h.g)) _ h.g next (sizes_again h.g)
    (rule_step (ltb (length h.chips) most_chips && leb (all_pages plan + page_count h.g) most_pages) TooLarge _ next h.room
    (ap (λ p. Ok p) h.next_is)))))

-- the last chip, and where it stands
pub record LastChip (plan : PlanLines) (chip : ChipLines) : Type 0 where
  pub chips : List ChipLines
  pub controller_is : last_of plan.controllers ≡ Some chips
  pub chip_is : last_of chips ≡ Some chip

pub last_found : (plan : PlanLines) (chip : ChipLines) → last_chip plan ≡ Ok chip → LastChip plan chip
unfolding last_chip
last_found plan chip e =
    let one = found (last_of plan.controllers) WrongPlace _ chip e in
    record { chips = one.value; controller_is = one.is; chip_is = there_kept (last_of one.value) WrongPlace chip one.further }

-- the last chip, whose lines may stand here
pub record OpenChip (plan : PlanLines) (chip : ChipLines) : Type 0 where
  pub hardware : is_hardware plan ≡ true
  pub last : LastChip plan chip
  pub bare : chip.parts ≡ []

pub open_found : (plan : PlanLines) (chip : ChipLines) → open_chip plan ≡ Ok chip → OpenChip plan chip
unfolding open_chip
open_found plan chip e =
    let one = rule_kept (is_hardware plan) WrongPlace _ chip e in
    let two = kept (last_chip plan) _ chip one.1 in
    let three = rule_kept (is_empty two.value.parts) WrongPlace _ chip two.further in
    let same : two.value ≡ chip = ok_same two.value chip three.1 in
    record {
      hardware = one.0;
      last = last_found plan chip (two.is ∙ ap (λ (c : ChipLines). Ok c) same);
      bare = subst (λ (c : ChipLines). c.parts ≡ []) same (empty_is two.value.parts three.0);
    }

-- a line of bad blocks
pub record BadKept (plan next : PlanLines) : Type 0 where
  pub chip : ChipLines
  pub opened : open_chip plan ≡ Ok chip
  pub blocks : List ℕ
  pub some : 0 < length blocks
  pub small : All IsSmall blocks
  pub within : list_all (λ b. ltb b chip.geometry.blocks) blocks ≡ true
  pub tables : leaves_table_blocks chip.geometry (bad_blocks chip ++ blocks) ≡ true
  pub different : are_different (bad_blocks chip ++ blocks) ≡ true
  pub next_is : with_detail (Bad blocks) plan ≡ next

pub some_items : {A : Type 0} (xs : List A) → not (is_empty xs) ≡ true → 0 < length xs
some_items [] e = absurd (cc e)
some_items (x ∷ xs) e = omega arith

pub bad_kept : (plan next : PlanLines) (words : List (List ℕ)) → bad_line plan words ≡ Ok next → BadKept plan next
unfolding bad_line
bad_kept plan next words e =
    let one = kept (open_chip plan) _ next e in
    let two = rule_kept (not (is_empty words)) BadWords _ next one.further in
    let three = kept (small_numbers words) _ next two.1 in
    let chip : ChipLines = one.value in
    let blocks : List ℕ = three.value in
    let four = rule_kept (list_all (λ b. ltb b chip.geometry.blocks) blocks) OutOfChip _ next three.further in
    let five = rule_kept (leaves_table_blocks chip.geometry (bad_blocks chip ++ blocks)) TooFewTableBlocks _ next four.1 in
    let six = rule_kept (are_different (bad_blocks chip ++ blocks)) Overlap _ next five.1 in
    let numbers = small_numbers_fit words blocks three.is in
    record {
      chip = chip;
      opened = one.is;
      blocks = blocks;
      some = omega (arith, numbers.as_many, some_items words two.0);
      small = numbers.small;
      within = four.0;
      tables = five.0;
      different = six.0;
      next_is = ok_same (with_detail (Bad blocks) plan) next six.1;
    }

pub some_decimals : (ns : List ℕ) → 0 < length ns → not (is_empty (decimals ns)) ≡ true
some_decimals [] h = absurd (omega arith)
some_decimals (n ∷ ns) h = refl

pub bad_again : (plan next : PlanLines) (h : BadKept plan next) → bad_line plan (decimals h.blocks) ≡ Ok next
unfolding bad_line
bad_again plan next h =
    step (open_chip plan) _ h.chip next h.opened
    (rule_step (not (is_empty (decimals h.blocks))) BadWords _ next (some_decimals h.blocks h.some)
    (step (small_numbers (decimals h.blocks)) _ h.blocks next (small_numbers_again h.blocks h.small)
    (rule_step (list_all (λ b. ltb b h.chip.geometry.blocks) h.blocks) OutOfChip _ next h.within
    (rule_step (leaves_table_blocks h.chip.geometry (bad_blocks h.chip ++ h.blocks)) TooFewTableBlocks _ next h.tables
    (rule_step (are_different (bad_blocks h.chip ++ h.blocks)) Overlap _ next h.different (ap (λ p. Ok p) h.next_is))))))

-- a weak place
pub record WeakKept (plan next : PlanLines) : Type 0 where
  pub chip : ChipLines
  pub opened : open_chip plan ≡ Ok chip
  pub weak : Weak
  pub at_small : IsSmall weak.at
  pub after_small : IsSmall weak.after
  pub tear_is : IsTear weak.tear
  pub within : weak.at < place_count chip.geometry weak.kind
  pub fresh : is_weak chip weak.kind weak.at ≡ false
  pub next_is : with_detail (WeakAt weak) plan ≡ next

pub weak_kept : (plan next : PlanLines) (words : List (List ℕ)) → weak_line plan words ≡ Ok next → WeakKept plan next
unfolding weak_line weak_form weak_words
weak_kept plan next words e =
    let one = kept (open_chip plan) _ next e in
    let two = kept (four_words words) _ next one.further in
    let three = found (weak_kind two.value.0) BadWords _ next two.further in
    let four = kept (small_number two.value.1) _ next three.further in
    let five = kept (small_number two.value.2) _ next four.further in
    let six = kept (tear two.value.3) _ next five.further in
    let chip : ChipLines = one.value in
    let weak : Weak = record { kind = three.value; at = four.value; after = five.value; tear = six.value } in
    let seven = rule_kept (ltb weak.at (place_count chip.geometry weak.kind)) OutOfChip _ next six.further in
    let eight = rule_kept (not (is_weak chip weak.kind weak.at)) Overlap _ next seven.1 in
    record {
      chip = chip;
      opened = one.is;
      weak = weak;
      at_small = small_fits two.value.1 weak.at four.is;
      after_small = small_fits two.value.2 weak.after five.is;
      tear_is = tear_kept two.value.3 weak.tear six.is;
      within = ltb-true weak.at (place_count chip.geometry weak.kind) seven.0;
      fresh = not-true (is_weak chip weak.kind weak.at) eight.0;
      next_is = ok_same (with_detail (WeakAt weak) plan) next eight.1;
    }

kind_again : (kind : WeakKind) → weak_kind (weak_kind_text kind) ≡ Some kind
kind_again Program = refl
kind_again Erase = refl

abbrev pub weak_texts : Weak → List (List ℕ)
weak_texts weak = weak_kind_text weak.kind ∷ decimal weak.at ∷ decimal weak.after ∷ tear_text weak.tear ∷ []

pub weak_again : (plan next : PlanLines) (h : WeakKept plan next) → weak_line plan (weak_texts h.weak) ≡ Ok next
unfolding weak_line weak_form weak_words four_words
weak_again plan next h =
    step (open_chip plan) _ h.chip next h.opened
    (there_step (weak_kind (weak_kind_text h.weak.kind)) BadWords _ h.weak.kind next (kind_again h.weak.kind)
    (step (small_number (decimal h.weak.at)) _ h.weak.at next (small_again h.weak.at h.at_small)
    (step (small_number (decimal h.weak.after)) _ h.weak.after next (small_again h.weak.after h.after_small)
    (step (tear (tear_text h.weak.tear)) _ h.weak.tear next (tear_again h.weak.tear h.tear_is)
    (rule_step (ltb h.weak.at (place_count h.chip.geometry h.weak.kind)) OutOfChip _ next
    (lt-ltb h.weak.at (place_count h.chip.geometry h.weak.kind) h.within)
    (rule_step (not (is_weak h.chip h.weak.kind h.weak.at)) Overlap _ next (ap not h.fresh) (ap (λ p. Ok p) h.next_is)))))))

-- a chip that is put behind a bus
pub record BusKept (plan next : PlanLines) : Type 0 where
  pub chip : ChipLines
  pub opened : open_chip plan ≡ Ok chip
  pub fresh : has_bus chip ≡ false
  pub next_is : with_detail Bus plan ≡ next

pub bus_kept : (plan next : PlanLines) (words : List (List ℕ)) → bus_line plan words ≡ Ok next → BusKept plan next
unfolding bus_line
bus_kept plan next words e =
    let one = kept (open_chip plan) _ next e in
    let two = rule_kept (is_empty words) BadWords _ next one.further in
    let three = rule_kept (not (has_bus one.value)) BadWords _ next two.1 in
    record {
      chip = one.value;
      opened = one.is;
      fresh = not-true (has_bus one.value) three.0;
      next_is = ok_same (with_detail Bus plan) next three.1;
    }

pub bus_again : (plan next : PlanLines) → BusKept plan next → bus_line plan [] ≡ Ok next
unfolding bus_line
bus_again plan next h =
    step (open_chip plan) _ h.chip next h.opened
    (rule_step (not (has_bus h.chip)) BadWords _ next (ap not h.fresh) (ap (λ p. Ok p) h.next_is))

-- a partition
pub record PartKept (plan next : PlanLines) : Type 0 where
  pub hardware : is_hardware plan ≡ true
  pub chip : ChipLines
  pub last : last_chip plan ≡ Ok chip
  pub part : PartLine
  pub some : 0 < part.count
  pub within : part.start + part.count ≤ chip.geometry.blocks
  pub free : list_any (share_block part) chip.parts ≡ false
  pub next_is : with_part part plan ≡ next

count_some : (blocks start count : ℕ) → start < blocks → start + count ≤ blocks →
    (0 < (if eqb count 0 then blocks - start else count)) × (start + (if eqb count 0 then blocks - start else count) ≤ blocks)
count_some blocks start count first last =
    elim (cases_eq count 0) [
      | inl none ↦
          let e = cond-true (eqb count 0) (blocks - start) count (eq-eqb count 0 none) in
          (omega (arith, e, first), omega (arith, e, first))
      | inr some ↦
          let e = cond-false (eqb count 0) (blocks - start) count (ne_eqb count 0 some) in
          (omega (arith, e, some), omega (arith, e, last))
    ]

pub part_kept : (plan next : PlanLines) (words : List (List ℕ)) → part_line plan words ≡ Ok next → PartKept plan next
unfolding part_line part_form part_words
part_kept plan next words e =
    let one = rule_kept (is_hardware plan) WrongPlace _ next e in
    let two = kept (last_chip plan) _ next one.1 in
    let three = kept (two_words words) _ next two.further in
    let four = kept (small_number three.value.0) _ next three.further in
    let five = kept (small_number three.value.1) _ next four.further in
    let chip : ChipLines = two.value in
    let start : ℕ = four.value in
    let count : ℕ = five.value in
    let six = rule_kept (ltb start chip.geometry.blocks && leb (start + count) chip.geometry.blocks) OutOfChip _ next five.further in
    let seven = rule_kept (not (list_any (share_block (part_in_force chip start count)) chip.parts)) Overlap _ next six.1 in
    let parts = and_parts (ltb start chip.geometry.blocks) (leb (start + count) chip.geometry.blocks) six.0 in
    let range = count_some chip.geometry.blocks start count (ltb-true start chip.geometry.blocks parts.0) (leb-true (start + count) chip.geometry.blocks parts.1) in
    record {
      hardware = one.0;
      chip = chip;
      last = two.is;
      part = part_in_force chip start count;
      some = range.0;
      within = range.1;
      free = not-true (list_any (share_block (part_in_force chip start count)) chip.parts) seven.0;
      next_is = ok_same (with_part (part_in_force chip start count) plan) next seven.1;
    }

in_force_again : (chip : ChipLines) (part : PartLine) → 0 < part.count → part_in_force chip part.start part.count ≡ part
in_force_again chip part some =
    ap (λ n. record part { count = n }) (cond-false (eqb part.count 0) (chip.geometry.blocks - part.start) part.count
    (ne_eqb part.count 0 (λ e. omega (arith, e, some))))

abbrev pub part_texts : PartLine → List (List ℕ)
part_texts part = decimals (part.start ∷ part.count ∷ [])

pub part_again : (plan next : PlanLines) (h : PartKept plan next) → part_line plan (part_texts h.part) ≡ Ok next
unfolding part_line part_form part_words two_words
part_again plan next h =
    let high = (bounds h.chip.geometry).blocks_high in
    let same = in_force_again h.chip h.part h.some in
    rule_step (is_hardware plan) WrongPlace _ next h.hardware
    (step (last_chip plan) _ h.chip next h.last
    (step (small_number (decimal h.part.start)) _ h.part.start next (small_again h.part.start (omega (arith, h.some, h.within, high)))
    (step (small_number (decimal h.part.count)) _ h.part.count next (small_again h.part.count (omega (arith, h.within, high)))
    (rule_step (ltb h.part.start h.chip.geometry.blocks && leb (h.part.start + h.part.count) h.chip.geometry.blocks) OutOfChip _ next
    (and_from (ltb h.part.start h.chip.geometry.blocks) (leb (h.part.start + h.part.count) h.chip.geometry.blocks)
    (lt-ltb h.part.start h.chip.geometry.blocks (omega (arith, h.some, h.within)))
    (le-leb (h.part.start + h.part.count) h.chip.geometry.blocks h.within))
    (rule_step (not (list_any (share_block (part_in_force h.chip h.part.start h.part.count)) h.chip.parts)) Overlap _ next
    (ap (λ (p : PartLine). not (list_any (share_block p) h.chip.parts)) same ∙ ap not h.free)
    (ap (λ (p : PartLine). Ok (with_part p plan)) same ∙ ap (λ p. Ok p) h.next_is))))))
