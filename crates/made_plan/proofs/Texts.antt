-- The canonical text of the plan of a number is not too long.
use Rattle.std.proofs.Common.{ℕ, zero, suc, ◌+◌, ◌*◌, ◌/◌, ◌%◌, ◌^◌, ◌≤◌, ◌<◌, List, [], ◌∷◌, ◌++◌, length, map, take, sym, ap, subst, arith, length-append}
use Rattle.std.specs.Prelude.{codes, decimal, flat_map, replicate}
use Rattle.std.specs.List.{AllByRecursion}
use Rattle.std.proofs.lemmas.List.{map-append}
use Rattle.report_model.specs.Report.{device_name}
use Rattle.plan_grammar.specs.declared.lines.Piece.TheVariants.{Seed}
use Rattle.plan_grammar.specs.Canonical.{boot_lines, canonical_words, chip_lines, chip_name, chip_words, controller_lines, data_words, decimals, fault_words, piece_text, session_lines}
use Rattle.plan_grammar.specs.Laws.{FitsText}
use Rattle.plan_laws.proofs.Written.{Line}
use Rattle.made_plan.specs.Made.{made_chip, made_controllers, made_data, made_devices, made_flip, made_flips, made_geometry, made_lines, made_payloads, data_name, flip_of, flipped_bits, reading_boot, reading_session, writing_boot, writing_session}
use Rattle.made_plan.proofs.Known.{IsKnown, all_known}
use Rattle.made_plan.proofs.Brief.{IsShortWord, IsBrief, AreBrief, brief, decimal_short, decimal_word_short, briefs_append, brief_text, brief_lines}

number : (n : ℕ) → n < 2 ^ 64 → IsShortWord (decimal n)
number n h = decimal_word_short n h

-- the lines of chips and controllers
part_brief : (start : ℕ) → start < 2 ^ 64 → IsBrief (codes "part" ∷ decimal start ∷ decimal 14 ∷ [])
part_brief start h =
    brief (codes "part" ∷ decimal start ∷ decimal 14 ∷ []) (omega arith, (number start h, (number 14 (omega arith), tt))) (omega arith)

sizes_brief : IsBrief (chip_words made_geometry)
sizes_brief =
    brief (chip_words made_geometry) (
      omega arith,
      (
        number 2048 (omega arith),
        (
          number 64 (omega arith),
          (
            number 64 (omega arith),
            (
              number 32 (omega arith),
              (
                number 4 (omega arith),
                (number 1 (omega arith), (number 3 (omega arith), tt)),
              ),
            ),
          ),
        ),
      ),
    ) (omega arith)

chip_brief : AreBrief (chip_lines made_chip) 3
chip_brief = record { each = (sizes_brief, (part_brief 0 (omega arith), (part_brief 14 (omega arith), tt))); few = omega arith }

chips_brief : (k : ℕ) → AreBrief (flat_map chip_lines (replicate k made_chip)) (3 * k)
chips_brief zero = record { each = tt; few = omega arith }
chips_brief (suc k) =
    let all = briefs_append (chip_lines made_chip) (flat_map chip_lines (replicate k made_chip)) 3 (3 * k) chip_brief (chips_brief k) in
    record { each = all.each; few = omega (arith, all.few) }

controllers_brief : (c : ℕ) → AreBrief (flat_map controller_lines (replicate c (replicate 4 made_chip))) (13 * c)
controllers_brief zero = record { each = tt; few = omega arith }
controllers_brief (suc c) =
    let chips = chips_brief 4 in
    let first : IsBrief (codes "controller" ∷ []) = brief (codes "controller" ∷ []) (omega arith, tt) (omega arith) in
    let one : AreBrief (controller_lines (replicate 4 made_chip)) 13 = record { each = (first, chips.each); few = omega (arith, chips.few) } in
    let all = briefs_append (controller_lines (replicate 4 made_chip)) (flat_map controller_lines (replicate c (replicate 4 made_chip))) 13 (13 * c)
    one (controllers_brief c) in
    record { each = all.each; few = omega (arith, all.few) }

-- the lines of data
piece_short : (seed : ℕ) → seed < 2 ^ 64 → IsShortWord (piece_text (Seed seed 131072))
piece_short seed h =
    omega (
      arith,
      length-append (decimal seed ++ codes ":") (decimal 131072),
      length-append (decimal seed) (codes ":"),
      decimal_short seed h,
      decimal_short 131072 (omega arith),
    )

payloads_brief : (n : ℕ) (js : List ℕ) → AllByRecursion (IsKnown n) js → AreBrief (map data_words (map (made_data n) js)) (length js)
payloads_brief n [] known = record { each = tt; few = omega arith }
payloads_brief n (j ∷ js) known =
    let small = known.0.small in
    let seed : (n + j) % 2 ^ 64 < 2 ^ 64 = omega arith in
    let name : IsShortWord (data_name j) = omega (arith, decimal_short j (omega (arith, small))) in
    let later = payloads_brief n js known.1 in
    record {
      each = (brief (data_words (made_data n j)) (omega arith, (name, (piece_short ((n + j) % 2 ^ 64) seed, tt))) (omega arith), later.each);
      few = omega (arith, later.few);
    }

-- the lines of sessions
device_short : (j : ℕ) → j < 2 ^ 64 → IsShortWord (device_name j)
device_short j h = omega (arith, decimal_short j h)

session_line_brief : (c : ℕ) → c < 2 ^ 64 → IsBrief (codes "session" ∷ decimal c ∷ [])
session_line_brief c h = brief (codes "session" ∷ decimal c ∷ []) (omega arith, (number c h, tt)) (omega arith)

module _ (n j : ℕ) (known : IsKnown n j) where
  dev_small : j < 2 ^ 64
  dev_small = let small = known.small in omega (arith, small)

  first_line : IsBrief (codes "session" ∷ decimal (j / 8) ∷ [])
  first_line = let small = known.controller in session_line_brief (j / 8) (omega (arith, small))

  block_brief : (first : List ℕ) → IsShortWord first → IsBrief (first ∷ device_name j ∷ decimal 13 ∷ [])
  block_brief first h = brief (first ∷ device_name j ∷ decimal 13 ∷ []) (h, (device_short j dev_small, (number 13 (omega arith), tt))) (omega arith)

  writing_brief : AreBrief (session_lines (writing_session j)) 5
  writing_brief =
      let dev : IsShortWord (device_name j) = device_short j dev_small in
      let name : IsShortWord (data_name j) = omega (arith, decimal_short j dev_small) in
      let erase = brief (codes "flash_erase" ∷ device_name j ∷ decimal 0 ∷ decimal 0 ∷ [])
      (omega arith, (dev, (number 0 (omega arith), (number 0 (omega arith), tt)))) (omega arith) in
      let write = brief (codes "nandwrite" ∷ device_name j ∷ data_name j ∷ []) (omega arith, (dev, (name, tt))) (omega arith) in
      let test = brief (codes "nandtest" ∷ codes "-o" ∷ decimal 131072 ∷ codes "-l" ∷ decimal 131072 ∷ device_name j ∷ [])
      (omega arith, (omega arith, (number 131072 (omega arith), (omega arith, (number 131072 (omega arith), (dev, tt)))))) (omega arith) in
      record { each = (first_line, (erase, (write, (test, (block_brief (codes "markbad") (omega arith), tt))))); few = omega arith }

  reading_brief : AreBrief (session_lines (reading_session j)) 5
  reading_brief =
      let dev : IsShortWord (device_name j) = device_short j dev_small in
      let dump = brief (codes "nanddump" ∷ codes "-l" ∷ decimal 131072 ∷ device_name j ∷ [])
      (omega arith, (omega arith, (number 131072 (omega arith), (dev, tt)))) (omega arith) in
      let tell = brief (codes "stats" ∷ device_name j ∷ []) (omega arith, (dev, tt)) (omega arith) in
      record { each = (first_line, (dump, (block_brief (codes "isbad") (omega arith), (tell, tt)))); few = omega arith }

writings_brief : (n : ℕ) (js : List ℕ) → AllByRecursion (IsKnown n) js → AreBrief (flat_map session_lines (map writing_session js)) (5 * length js)
writings_brief n [] known = record { each = tt; few = omega arith }
writings_brief n (j ∷ js) known =
    let all = briefs_append (session_lines (writing_session j)) (flat_map session_lines (map writing_session js)) 5 (5 * length js)
    (writing_brief n j known.0) (writings_brief n js known.1) in
    record { each = all.each; few = omega (arith, all.few) }

readings_brief : (n : ℕ) (js : List ℕ) → AllByRecursion (IsKnown n) js → AreBrief (flat_map session_lines (map reading_session js)) (5 * length js)
readings_brief n [] known = record { each = tt; few = omega arith }
readings_brief n (j ∷ js) known =
    let all = briefs_append (session_lines (reading_session j)) (flat_map session_lines (map reading_session js)) 5 (5 * length js)
    (reading_brief n j known.0) (readings_brief n js known.1) in
    record { each = all.each; few = omega (arith, all.few) }

-- the lines of flips
chip_name_short : (c k : ℕ) → c < 2 ^ 64 → k < 2 ^ 64 → IsShortWord (chip_name c k)
chip_name_short c k h l =
    omega (
      arith,
      length-append (decimal c ++ codes ".") (decimal k),
      length-append (decimal c) (codes "."),
      decimal_short c h,
      decimal_short k l,
    )

bits_short : (k : ℕ) → AllByRecursion IsShortWord (decimals (take k (100 ∷ 200 ∷ 300 ∷ 400 ∷ []))) × (length (decimals (take k (100 ∷ 200 ∷ 300 ∷ 400 ∷ []))) ≤ 4)
bits_short zero = (tt, omega arith)
bits_short (suc zero) = ((number 100 (omega arith), tt), omega arith)
bits_short (suc (suc zero)) = ((number 100 (omega arith), (number 200 (omega arith), tt)), omega arith)
bits_short (suc (suc (suc zero))) = ((number 100 (omega arith), (number 200 (omega arith), (number 300 (omega arith), tt))), omega arith)
bits_short (suc (suc (suc (suc zero)))) =
    ((number 100 (omega arith), (number 200 (omega arith), (number 300 (omega arith), (number 400 (omega arith), tt)))), omega arith)
bits_short (suc (suc (suc (suc (suc k))))) =
    ((number 100 (omega arith), (number 200 (omega arith), (number 300 (omega arith), (number 400 (omega arith), tt)))), omega arith)

flip_brief : (n j : ℕ) (bits : List ℕ) → IsKnown n j → AllByRecursion IsShortWord (decimals bits) × (length (decimals bits) ≤ 4) →
    AreBrief (map fault_words (flip_of j bits)) 1
flip_brief n j [] known h = record { each = tt; few = omega arith }
flip_brief n j (bit ∷ bits) known h =
    let controller = known.controller in
    let chip : IsShortWord (chip_name (j / 8) (j % 8 / 2)) = chip_name_short (j / 8) (j % 8 / 2) (omega (arith, controller)) (omega arith) in
    let page : 896 * (j % 2) < 2 ^ 64 = omega arith in
    let words : Line = codes "flip" ∷ chip_name (j / 8) (j % 8 / 2) ∷ decimal (896 * (j % 2)) ∷ decimal 1 ∷ decimals (bit ∷ bits) in
    let few = h.1 in
    record {
      each = (brief words (omega arith, (chip, (number (896 * (j % 2)) page, (number 1 (omega arith), h.0)))) (omega (arith, few)), tt);
      few = omega arith;
    }

flips_brief : (n : ℕ) (js : List ℕ) → AllByRecursion (IsKnown n) js → AreBrief (map fault_words (flat_map (made_flip n) js)) (length js)
flips_brief n [] known = record { each = tt; few = omega arith }
flips_brief n (j ∷ js) known =
    let here = flip_brief n j (flipped_bits n j) known.0 (bits_short ((n % 5 + j) % 5)) in
    let all = briefs_append (map fault_words (made_flip n j)) (map fault_words (flat_map (made_flip n) js)) 1 (length js) here (flips_brief n js known.1) in
    let same = map-append fault_words (made_flip n j) (flat_map (made_flip n) js) in
    record {
      each = subst (AllByRecursion IsBrief) (sym same) all.each;
      few = let as_many = ap length same in omega (arith, all.few, as_many);
    }

-- the lines of both boots
boot_brief : AreBrief ((codes "boot" ∷ []) ∷ []) 1
boot_brief = record { each = (brief (codes "boot" ∷ []) (omega arith, tt) (omega arith), tt); few = omega arith }

writing_boot_brief : (n : ℕ) → AreBrief (boot_lines writing_boot) 100
unfolding writing_boot
writing_boot_brief n =
    let sessions = writings_brief n made_devices (all_known n) in
    let all = briefs_append (flat_map session_lines (map writing_session made_devices)) [] 80 0 sessions (record { each = tt; few = omega arith }) in
    let both = briefs_append ((codes "boot" ∷ []) ∷ []) (flat_map session_lines (map writing_session made_devices) ++ []) 1 80 boot_brief all in
    record { each = both.each; few = omega (arith, both.few) }

reading_boot_brief : (n : ℕ) → AreBrief (boot_lines (reading_boot n)) 100
unfolding reading_boot made_flips
reading_boot_brief n =
    let flips = flips_brief n made_devices (all_known n) in
    let sessions = readings_brief n made_devices (all_known n) in
    let lines : List Line = map fault_words (flat_map (made_flip n) made_devices) in
    let own : List Line = flat_map session_lines (map reading_session made_devices) in
    let both = briefs_append lines own 16 80 flips sessions in
    let all = briefs_append (lines ++ own) [] 96 0 both (record { each = tt; few = omega arith }) in
    let whole = briefs_append ((codes "boot" ∷ []) ∷ []) ((lines ++ own) ++ []) 1 96 boot_brief all in
    record { each = whole.each; few = omega (arith, whole.few) }

header_brief : AreBrief ((codes "nandlab" ∷ codes "1" ∷ []) ∷ []) 1
header_brief = record { each = (brief (codes "nandlab" ∷ codes "1" ∷ []) (omega arith, (omega arith, tt)) (omega arith), tt); few = omega arith }

hardware_brief : AreBrief (flat_map controller_lines made_controllers) 26
unfolding made_controllers
hardware_brief = controllers_brief 2

data_brief : (n : ℕ) → AreBrief (map data_words (made_payloads n)) 16
unfolding made_payloads
data_brief n = payloads_brief n made_devices (all_known n)

all_brief : (n : ℕ) → AreBrief (canonical_words (made_lines n)) 300
all_brief n =
    let header : List Line = (codes "nandlab" ∷ codes "1" ∷ []) ∷ [] in
    let hardware : List Line = flat_map controller_lines made_controllers in
    let payloads : List Line = map data_words (made_payloads n) in
    let one = briefs_append header hardware 1 26 header_brief hardware_brief in
    let two = briefs_append (header ++ hardware) payloads 27 16 one (data_brief n) in
    let last = briefs_append (boot_lines (reading_boot n)) [] 100 0 (reading_boot_brief n) (record { each = tt; few = omega arith }) in
    let boots = briefs_append (boot_lines writing_boot) (boot_lines (reading_boot n) ++ []) 100 100 (writing_boot_brief n) last in
    let all = briefs_append ((header ++ hardware) ++ payloads) (boot_lines writing_boot ++ (boot_lines (reading_boot n) ++ [])) 43 200 two boots in
    record { each = all.each; few = omega (arith, all.few) }

pub fits_text : (n : ℕ) → FitsText (made_lines n)
fits_text n =
    let all = all_brief n in
    record {
      text = omega (arith, brief_text (canonical_words (made_lines n)) all.each, all.few);
      lines = brief_lines (canonical_words (made_lines n)) all.each;
    }
