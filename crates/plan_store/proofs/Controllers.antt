-- What is kept of controllers, line by line.
use Rattle.std.proofs.Common.{◌≡◌, ℕ, suc, ◌+◌, ◌-◌, ◌<◌, ◌≤◌, Bool, true, leb, List, [], ◌∷◌, ◌++◌, Option, Some, length, map, refl, sym, ap, ◌∙◌, subst, arith, append_assoc, length-append}
use Rattle.std.specs.List.{sum_by, list_all}
use Rattle.std.proofs.lemmas.Bool.{and_from, and_parts, le-leb}
use Rattle.std.proofs.lemmas.List.Folds.{list_all-append}
use Rattle.std.proofs.lemmas.List.{append-nil, map-append}
use Rattle.std.proofs.lemmas.List.Sums.{sum_by_push}
use Rattle.nand_model.specs.Sizes.{page_count}
use Rattle.nand_model.specs.declared.geometry.Geometry.{Geometry}
use Rattle.nand_model.proofs.Bounds.{bounds, pages-le}
use Rattle.plan_grammar.specs.declared.lines.ChipLines.{ChipLines}
use Rattle.plan_grammar.specs.declared.lines.DetailLine.{DetailLine}
use Rattle.plan_grammar.specs.declared.lines.PartLine.{PartLine}
use Rattle.plan_grammar.specs.Limits.{most_controllers, most_chips, most_pages}
use Rattle.plan_grammar.specs.Rules.{last_of, with_last}
use Rattle.plan_grammar.specs.Devices.{Device, pages_of_chips, devices_on, devices_of_chips, devices_from, weak_programs}
use Rattle.plan_index.specs.declared.marks.ChipMarks.{ChipMarks}
use Rattle.plan_index.specs.declared.device.DeviceSize.{DeviceSize}
use Rattle.plan_index.specs.Devices.{size_of}
use Rattle.plan_index.specs.Chip.{IsMarked, with_detail_line, with_part_line}
use Rattle.plan_index.proofs.LastItems.{last_of-with_last, last_of_push, length-with_last, sum-with_last}
use Rattle.plan_store.specs.declared.hardware.HardwareIndex.{HardwareIndex}
use Rattle.plan_store.specs.Hardware.{HardwareInStep, AreMarks, open_chip, last_in}
use Rattle.std.proofs.Math.Nat.{mul-le-mul_left, mul-le-mul_right}

-- the pages of a chip
pub few_pages : (g : Geometry) → page_count g ≤ 524288
few_pages g = omega (arith, mul-le-mul_right g.pages_per_block (bounds g).blocks_high, mul-le-mul_left 4096 (pages-le g))

abbrev sizes : List Device → List DeviceSize
sizes devices = map size_of devices

-- devices of controllers with another last one
devices-with_last : (g : List ChipLines → List ChipLines) (extra : ℕ → List DeviceSize) (xs : List (List ChipLines)) (c : ℕ)
    (x : List ChipLines) → last_of xs ≡ Some x →
    ((d : ℕ) → sizes (devices_of_chips d (g x)) ≡ sizes (devices_of_chips d x) ++ extra d) →
    sizes (devices_from c (with_last g xs)) ≡ sizes (devices_from c xs) ++ extra (c + (length xs - 1))
devices-with_last g extra [] c x e more = absurd (cc e)
devices-with_last g extra (y ∷ []) c x e more =
    let same : y ≡ x = cc e in
    let here = subst (λ z. sizes (devices_of_chips c (g z)) ≡ sizes (devices_of_chips c z) ++ extra c) (sym same) (more c) in
    let at : c ≡ c + (length (y ∷ []) - 1) = omega arith in
    ap sizes (append-nil (devices_of_chips c (g y))) ∙ here
    ∙ ap (λ ds. sizes ds ++ extra c) (sym (append-nil (devices_of_chips c y)))
    ∙ ap (λ k. sizes (devices_of_chips c y ++ []) ++ extra k) at
devices-with_last g extra (y ∷ z ∷ xs) c x e more =
    let further = devices-with_last g extra (z ∷ xs) (c + 1) x e more in
    let at : c + 1 + (length (z ∷ xs) - 1) ≡ c + (length (y ∷ z ∷ xs) - 1) = omega arith in
    map-append size_of (devices_of_chips c y) (devices_from (c + 1) (with_last g (z ∷ xs)))
    ∙ ap (λ ds. sizes (devices_of_chips c y) ++ ds) further
    ∙ sym (append_assoc (sizes (devices_of_chips c y)) (sizes (devices_from (c + 1) (z ∷ xs))) (extra (c + 1 + (length (z ∷ xs) - 1))))
    ∙ ap (λ ds. ds ++ extra (c + 1 + (length (z ∷ xs) - 1))) (sym (map-append size_of (devices_of_chips c y) (devices_from (c + 1) (z ∷ xs))))
    ∙ ap (λ k. sizes (devices_of_chips c y ++ devices_from (c + 1) (z ∷ xs)) ++ extra k) at

-- a controller without chips has no devices
devices_push : (c : ℕ) (xs : List (List ChipLines)) → devices_from c (xs ++ [] ∷ []) ≡ devices_from c xs
devices_push c [] = refl
devices_push c (x ∷ xs) = ap (λ ds. devices_of_chips c x ++ ds) (devices_push (c + 1) xs)

on_none : (c : ℕ) (chip : ChipLines) (parts : List PartLine) → parts ≡ [] → devices_on c chip parts ≡ []
on_none c chip parts none = ap (devices_on c chip) none

-- a chip without partitions has no devices
chips_push : (c : ℕ) (chips : List ChipLines) (chip : ChipLines) → chip.parts ≡ [] →
    devices_of_chips c (chips ++ chip ∷ []) ≡ devices_of_chips c chips
chips_push c [] chip none = append-nil (devices_on c chip chip.parts) ∙ on_none c chip chip.parts none
chips_push c (x ∷ chips) chip none = ap (λ ds. devices_on c x x.parts ++ ds) (chips_push c chips chip none)

-- a line that tells more of a chip without partitions adds no device
chips_detail : (c : ℕ) (detail : DetailLine) (chips : List ChipLines) (chip : ChipLines) → last_of chips ≡ Some chip →
    chip.parts ≡ [] → devices_of_chips c (with_last (with_detail_line detail) chips) ≡ devices_of_chips c chips
chips_detail c detail [] chip e none = absurd (cc e)
chips_detail c detail (x ∷ []) chip e none =
    let same : x ≡ chip = cc e in
    let empty : x.parts ≡ [] = subst (λ (y : ChipLines). y.parts ≡ []) (sym same) none in
    ap (λ ds. ds ++ []) (on_none c (with_detail_line detail x) x.parts empty ∙ sym (on_none c x x.parts empty))
chips_detail c detail (x ∷ y ∷ chips) chip e none =
    ap (λ ds. devices_on c x x.parts ++ ds) (chips_detail c detail (y ∷ chips) chip e none)

on_parts : (c : ℕ) (chip : ChipLines) (part : PartLine) (parts : List PartLine) →
    sizes (devices_on c (with_part_line part chip) (parts ++ part ∷ []))
    ≡ sizes (devices_on c chip parts) ++ record { controller = c; geometry = chip.geometry; blocks = part.count; weak = weak_programs chip } ∷ []
on_parts c chip part [] = refl
on_parts c chip part (p ∷ parts) =
    ap (λ ds. record { controller = c; geometry = chip.geometry; blocks = p.count; weak = weak_programs chip } ∷ ds) (on_parts c chip part parts)

-- a partition adds its device
chips_part : (c : ℕ) (part : PartLine) (chips : List ChipLines) (chip : ChipLines) → last_of chips ≡ Some chip →
    sizes (devices_of_chips c (with_last (with_part_line part) chips))
    ≡ sizes (devices_of_chips c chips) ++ record { controller = c; geometry = chip.geometry; blocks = part.count; weak = weak_programs chip } ∷ []
chips_part c part [] chip e = absurd (cc e)
chips_part c part (x ∷ []) chip e =
    let same : x ≡ chip = cc e in
    ap sizes (append-nil (devices_on c (with_part_line part x) (x.parts ++ part ∷ []))) ∙ on_parts c x part x.parts
    ∙ ap (λ (y : ChipLines). sizes (devices_on c x x.parts) ++ record { controller = c; geometry = y.geometry; blocks = part.count; weak = weak_programs y } ∷ []) same
    ∙ ap (λ ds. sizes ds ++ record { controller = c; geometry = chip.geometry; blocks = part.count; weak = weak_programs chip } ∷ []) (sym (append-nil (devices_on c x x.parts)))
chips_part c part (x ∷ y ∷ chips) chip e =
    let further = chips_part c part (y ∷ chips) chip e in
    let new : List DeviceSize = record { controller = c; geometry = chip.geometry; blocks = part.count; weak = weak_programs chip } ∷ [] in
    map-append size_of (devices_on c x x.parts) (devices_of_chips c (with_last (with_part_line part) (y ∷ chips)))
    ∙ ap (λ ds. sizes (devices_on c x x.parts) ++ ds) further
    ∙ sym (append_assoc (sizes (devices_on c x x.parts)) (sizes (devices_of_chips c (y ∷ chips))) new)
    ∙ ap (λ ds. ds ++ new) (sym (map-append size_of (devices_on c x x.parts) (devices_of_chips c (y ∷ chips))))

marks_at : (o : Option ChipLines) (chip : ChipLines) (marks : ChipMarks) → o ≡ Some chip → IsMarked chip marks → AreMarks o marks
marks_at o chip marks e m = subst (λ (p : Option ChipLines). AreMarks p marks) (sym e) m

-- the marks of the last chip
pub marks_of : (o : Option ChipLines) (chip : ChipLines) (marks : ChipMarks) → o ≡ Some chip → AreMarks o marks → IsMarked chip marks
marks_of o chip marks e m = subst (λ (p : Option ChipLines). AreMarks p marks) e m

pub open_at : (controllers : List (List ChipLines)) (chips : List ChipLines) (chip : ChipLines) → last_of controllers ≡ Some chips →
    last_of chips ≡ Some chip → open_chip controllers ≡ Some chip
open_at controllers chips chip e f = ap last_in e ∙ f

-- items that pass a test, with another last one that passes
pub all-with_last : {A : Type 0} (p : A → Bool) (g : A → A) (xs : List A) (x : A) → last_of xs ≡ Some x → p (g x) ≡ true →
    list_all p xs ≡ true → list_all p (with_last g xs) ≡ true
all-with_last p g [] x e here pass = refl
all-with_last p g (y ∷ []) x e here pass =
    let same : y ≡ x = cc e in
    and_from (p (g y)) true (subst (λ z. p (g z) ≡ true) (sym same) here) refl
all-with_last p g (y ∷ z ∷ xs) x e here pass =
    let parts = and_parts (p y) (list_all p (z ∷ xs)) pass in
    and_from (p y) (list_all p (with_last g (z ∷ xs))) parts.0 (all-with_last p g (z ∷ xs) x e here parts.1)

-- the last of items that pass a test passes
pub last_passes : {A : Type 0} (p : A → Bool) (xs : List A) (x : A) → last_of xs ≡ Some x → list_all p xs ≡ true → p x ≡ true
last_passes p [] x e pass = absurd (cc e)
last_passes p (y ∷ []) x e pass =
    let same : y ≡ x = cc e in
    subst (λ z. p z ≡ true) same (and_parts (p y) true pass).0
last_passes p (y ∷ z ∷ xs) x e pass = last_passes p (z ∷ xs) x e (and_parts (p y) (list_all p (z ∷ xs)) pass).1

abbrev is_few : List ChipLines → Bool
is_few chips = leb (length chips) most_chips

-- with one more controller
pub step_controller : (controllers : List (List ChipLines)) (index : HardwareIndex) → length controllers < most_controllers →
    HardwareInStep controllers index →
    HardwareInStep (controllers ++ [] ∷ []) index
step_controller controllers index room s = record {
  few_controllers = omega (arith, length-append controllers ([] ∷ []), room);
  few_chips = list_all-append is_few controllers ([] ∷ []) ∙ and_from (list_all is_few controllers) true s.few_chips refl;
  pages = s.pages ∙ sym (sum_by_push pages_of_chips controllers [] ∙ omega arith);
  few = s.few;
  marks = subst (λ (o : Option (List ChipLines)). AreMarks (last_in o) index.marks) (sym (last_of_push controllers [])) tt;
  devices = s.devices ∙ ap sizes (sym (devices_push 0 controllers));
}

-- with one more chip
pub step_chip : (controllers : List (List ChipLines)) (old new : HardwareIndex) (chips : List ChipLines) (chip : ChipLines) →
    HardwareInStep controllers old → last_of controllers ≡ Some chips → chip.parts ≡ [] → length chips < most_chips → IsMarked chip new.marks →
    new.pages ≡ old.pages + page_count chip.geometry → new.pages ≤ most_pages → new.devices.items ≡ old.devices.items →
    HardwareInStep (with_last (λ (cs : List ChipLines). cs ++ chip ∷ []) controllers) new
step_chip controllers old new chips chip s e none room m pages few devices =
    let change : List ChipLines → List ChipLines = λ cs. cs ++ chip ∷ [] in
    record {
      pages = pages ∙ ap (λ n. n + page_count chip.geometry) s.pages
          ∙ sym (sum-with_last pages_of_chips change (page_count chip.geometry) controllers chips e
          (sum_by_push (λ (c : ChipLines). page_count c.geometry) chips chip));
      few = few;
      few_controllers = subst (λ n. n ≤ most_controllers) (sym (length-with_last change controllers)) s.few_controllers;
      few_chips = all-with_last is_few change controllers chips e
          (le-leb (length (chips ++ chip ∷ [])) most_chips (omega (arith, length-append chips (chip ∷ []), room))) s.few_chips;
      marks = marks_at (open_chip (with_last change controllers)) chip new.marks
          (open_at (with_last change controllers) (change chips) chip (last_of-with_last change controllers chips e) (last_of_push chips chip)) m;
      devices = devices ∙ s.devices ∙ sym (devices-with_last change (λ d. []) controllers 0 chips e
          (λ d. ap sizes (chips_push d chips chip none) ∙ sym (append-nil (sizes (devices_of_chips d chips))))
          ∙ append-nil (sizes (devices_from 0 controllers)));
    }

-- with one more line that tells more of the last chip
pub step_detail : (controllers : List (List ChipLines)) (old new : HardwareIndex) (chips : List ChipLines) (chip : ChipLines)
    (detail : DetailLine) → HardwareInStep controllers old → last_of controllers ≡ Some chips → last_of chips ≡ Some chip →
    chip.parts ≡ [] → IsMarked (with_detail_line detail chip) new.marks → new.pages ≡ old.pages →
    new.devices.items ≡ old.devices.items → HardwareInStep (with_last (with_last (with_detail_line detail)) controllers) new
step_detail controllers old new chips chip detail s e f none m pages devices =
    let change : List ChipLines → List ChipLines = with_last (with_detail_line detail) in
    record {
      pages = pages ∙ s.pages ∙ sym (sum-with_last pages_of_chips change 0 controllers chips e
          (sum-with_last (λ (c : ChipLines). page_count c.geometry) (with_detail_line detail) 0 chips chip f (omega arith)) ∙ omega arith);
      few = subst (λ n. n ≤ most_pages) (sym pages) s.few;
      few_controllers = subst (λ n. n ≤ most_controllers) (sym (length-with_last change controllers)) s.few_controllers;
      few_chips = all-with_last is_few change controllers chips e
          (subst (λ n. leb n most_chips ≡ true) (sym (length-with_last (with_detail_line detail) chips)) (last_passes is_few controllers chips e s.few_chips)) s.few_chips;
      marks = marks_at (open_chip (with_last change controllers)) (with_detail_line detail chip) new.marks
          (open_at (with_last change controllers) (change chips) (with_detail_line detail chip) (last_of-with_last change controllers chips e)
          (last_of-with_last (with_detail_line detail) chips chip f)) m;
      devices = devices ∙ s.devices ∙ sym (devices-with_last change (λ d. []) controllers 0 chips e
          (λ d. ap sizes (chips_detail d detail chips chip f none) ∙ sym (append-nil (sizes (devices_of_chips d chips))))
          ∙ append-nil (sizes (devices_from 0 controllers)));
    }

-- with one more partition of the last chip
pub step_part : (controllers : List (List ChipLines)) (old new : HardwareIndex) (chips : List ChipLines) (chip : ChipLines)
    (part : PartLine) (size : DeviceSize) → HardwareInStep controllers old → last_of controllers ≡ Some chips →
    last_of chips ≡ Some chip → IsMarked (with_part_line part chip) new.marks → new.pages ≡ old.pages →
    size ≡ record { controller = length controllers - 1; geometry = chip.geometry; blocks = part.count; weak = weak_programs chip } →
    new.devices.items ≡ old.devices.items ++ size ∷ [] → HardwareInStep (with_last (with_last (with_part_line part)) controllers) new
step_part controllers old new chips chip part size s e f m pages size_is devices =
    let change : List ChipLines → List ChipLines = with_last (with_part_line part) in
    let extra : ℕ → List DeviceSize = λ d. record { controller = d; geometry = chip.geometry; blocks = part.count; weak = weak_programs chip } ∷ [] in
    let at : length controllers - 1 ≡ 0 + (length controllers - 1) = omega arith in
    record {
      pages = pages ∙ s.pages ∙ sym (sum-with_last pages_of_chips change 0 controllers chips e
          (sum-with_last (λ (c : ChipLines). page_count c.geometry) (with_part_line part) 0 chips chip f (omega arith)) ∙ omega arith);
      few = subst (λ n. n ≤ most_pages) (sym pages) s.few;
      few_controllers = subst (λ n. n ≤ most_controllers) (sym (length-with_last change controllers)) s.few_controllers;
      few_chips = all-with_last is_few change controllers chips e
          (subst (λ n. leb n most_chips ≡ true) (sym (length-with_last (with_part_line part) chips)) (last_passes is_few controllers chips e s.few_chips)) s.few_chips;
      marks = marks_at (open_chip (with_last change controllers)) (with_part_line part chip) new.marks
          (open_at (with_last change controllers) (change chips) (with_part_line part chip) (last_of-with_last change controllers chips e)
          (last_of-with_last (with_part_line part) chips chip f)) m;
      devices = devices ∙ ap (λ ds. ds ++ size ∷ []) s.devices ∙ ap (λ (d : DeviceSize). sizes (devices_from 0 controllers) ++ d ∷ []) size_is
          ∙ ap (λ k. sizes (devices_from 0 controllers) ++ extra k) at
          ∙ sym (devices-with_last change extra controllers 0 chips e (λ d. chips_part d part chips chip f));
    }

-- a list with a last item is not empty
pub some_items : {A : Type 0} (xs : List A) (x : A) → last_of xs ≡ Some x → 1 ≤ length xs
some_items [] x e = absurd (cc e)
some_items (y ∷ xs) x e = omega arith
