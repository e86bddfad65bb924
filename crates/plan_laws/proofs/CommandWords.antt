-- The canonical words of commands are read again as the same commands.
use Rattle.std.proofs.Common.{◌≡◌, ◌∙◌, ℕ, ◌^◌, ◌≤◌, ◌<◌, Bool, true, false, eqb, leb, ltb, List, [], ◌∷◌, ◌++◌, Option, Some, None, Ok, ap, refl, arith}
use Rattle.std.specs.Prelude.{◌&&◌, codes, cond, decimal, unwrap_or}
use Rattle.std.proofs.lemmas.Bool.{and_from, lt-ltb, le-leb}
use Rattle.nand_model.specs.declared.words.BadMode.{BadMode}
use Rattle.nand_model.specs.declared.words.BadMode.TheVariants.{PadBad, DumpBad, SkipBad}
use Rattle.report_model.specs.Report.{device_name}
use Rattle.plan_grammar.specs.declared.kind.PlanKind.TheVariants.{WrongPlace, BadWords, BadNumber, TooLarge}
use Rattle.plan_grammar.specs.declared.words.LineKind.{LineKind}
use Rattle.plan_grammar.specs.declared.words.LineKind.TheVariants.{FlashErase as ToErase, NandWrite as ToWrite, NandDump as ToDump, NandTest as ToTest}
use Rattle.plan_grammar.specs.declared.words.OptionKind.TheVariants.{NoScan, Mark, Raw, Oob, Pad, Keep, Bad as BadAs, Offset, Length, Seed, Passes}
use Rattle.plan_grammar.specs.declared.words.Options.{Options}
use Rattle.plan_grammar.specs.declared.lines.PlanLines.{PlanLines}
use Rattle.plan_grammar.specs.declared.lines.CommandLine.{CommandLine}
use Rattle.plan_grammar.specs.declared.lines.CommandLine.TheVariants.{FlashErase, NandWrite, NandDump, NandTest, MarkBad, IsBad, Stats}
use Rattle.plan_grammar.specs.Limits.{word_limit, most_operations}
use Rattle.plan_grammar.specs.Rules.{there, last_of}
use Rattle.plan_grammar.specs.Forms.{one_word, two_words, three_words, small_number, is_name}
use Rattle.plan_grammar.specs.Options.{no_options, given, options_from, option_word}
use Rattle.plan_grammar.specs.Sessions.{running_boot}
use Rattle.plan_grammar.specs.Costs.{device_in, plan_cost}
use Rattle.plan_grammar.specs.Commands.{value_or, device_word, flash_erase_words, nandwrite_words, nanddump_words, passes_of, nandtest_words, device_and_block, stats_words, command_words, device_of, device_rules, with_command, command_line}
use Rattle.plan_grammar.specs.Canonical.{flag, valued, bad_option}
use Rattle.plan_laws.proofs.Steps.{step, rule_step, there_step}
use Rattle.plan_laws.proofs.Numbers.{IsSmall, small_again}
use Rattle.plan_laws.proofs.Names.{device_again}
use Rattle.plan_laws.proofs.CommandOptions.{value_given, value_again, flagged, IsOption, IsSome, flag_taken, valued_taken, options_end}
use Rattle.plan_laws.proofs.Commands.{kind_of, HasFit, CommandKept}

-- the words of a command behind its first word
abbrev pub command_texts : CommandLine → List (List ℕ)
command_texts (FlashErase dev no_scan start count) =
    flag (codes "-N") no_scan ++ (device_name dev ∷ decimal start ∷ decimal count ∷ [])
command_texts (NandWrite dev mark raw oob pad off name) =
    flag (codes "-m") mark ++ (flag (codes "-n") raw ++ (flag (codes "-o") oob ++ (flag (codes "-p") pad
    ++ (valued (codes "-s") off 0 ++ (device_name dev ∷ name ∷ [])))))
command_texts (NandDump dev off len raw oob bad) =
    valued (codes "-s") off 0 ++ (valued (codes "-l") len 0 ++ (flag (codes "-n") raw ++ (flag (codes "-o") oob
    ++ (bad_option bad ++ (device_name dev ∷ [])))))
command_texts (NandTest dev keep mark seed passes off len) =
    flag (codes "-k") keep ++ (flag (codes "-m") mark ++ (valued (codes "-s") seed 0 ++ (valued (codes "-p") passes 1
    ++ (valued (codes "-o") off 0 ++ (valued (codes "-l") len 0 ++ (device_name dev ∷ []))))))
command_texts (MarkBad dev block) = device_name dev ∷ decimal block ∷ []
command_texts (IsBad dev block) = device_name dev ∷ decimal block ∷ []
command_texts (Stats dev) = device_name dev ∷ []

-- words before words of which there is one
some_behind : (front words : List (List ℕ)) → IsSome words → IsSome (front ++ words)
some_behind [] words some = some
some_behind (word ∷ front) words some = (word, front ++ words, refl)

device_taken : (dev : ℕ) → dev < 2 ^ 64 → device_word (device_name dev) ≡ Ok dev
unfolding device_word
device_taken dev h = ap (λ (o : Option ℕ). there o BadWords) (device_again dev h)

erase_n : IsOption ToErase (codes "-N") NoScan false
unfolding option_word
erase_n = record { dash = refl; found = refl; valued = refl }

abbrev erase_options : Bool → Options
erase_options no_scan = record no_options { no_scan = no_scan }

erase_flag : (b : Bool) → flagged b no_options NoScan ≡ erase_options b
erase_flag true = refl
erase_flag false = refl

erase_again : (dev start count : ℕ) (no_scan : Bool) → HasFit (FlashErase dev no_scan start count) →
    command_words ToErase (command_texts (FlashErase dev no_scan start count)) ≡ Ok (FlashErase dev no_scan start count)
unfolding command_words flash_erase_words three_words
erase_again dev start count no_scan h =
    let tail : List (List ℕ) = device_name dev ∷ decimal start ∷ decimal count ∷ [] in
    let command : CommandLine = FlashErase dev no_scan start count in
    let options = flag_taken ToErase no_options (erase_options no_scan) (codes "-N") NoScan no_scan tail erase_n refl
    (device_name dev, decimal start ∷ decimal count ∷ [], refl) (erase_flag no_scan)
    ∙ options_end ToErase (erase_options no_scan) (device_name dev) (decimal start ∷ decimal count ∷ []) refl in
    step (options_from ToErase no_options (flag (codes "-N") no_scan ++ tail)) _ (erase_options no_scan, tail) command options
    (step (device_word (device_name dev)) _ dev command (device_taken dev h.0)
    (step (small_number (decimal start)) _ start command (small_again start h.1)
    (step (small_number (decimal count)) _ count command (small_again count h.2) refl)))

write_m : IsOption ToWrite (codes "-m") Mark false
unfolding option_word
write_m = record { dash = refl; found = refl; valued = refl }

write_n : IsOption ToWrite (codes "-n") Raw false
unfolding option_word
write_n = record { dash = refl; found = refl; valued = refl }

write_o : IsOption ToWrite (codes "-o") Oob false
unfolding option_word
write_o = record { dash = refl; found = refl; valued = refl }

write_p : IsOption ToWrite (codes "-p") Pad false
unfolding option_word
write_p = record { dash = refl; found = refl; valued = refl }

write_s : IsOption ToWrite (codes "-s") Offset true
unfolding option_word
write_s = record { dash = refl; found = refl; valued = refl }

abbrev write_options : (mark raw oob pad : Bool) → Option (Option ℕ) → Options
write_options mark raw oob pad offset =
    record no_options { mark = mark; raw = raw; oob = oob; pad = pad; offset = offset }

mark_flag : (b : Bool) → flagged b no_options Mark ≡ write_options b false false false None
mark_flag true = refl
mark_flag false = refl

raw_flag : (m b : Bool) → flagged b (write_options m false false false None) Raw ≡ write_options m b false false None
raw_flag m true = refl
raw_flag m false = refl

oob_flag : (m r b : Bool) → flagged b (write_options m r false false None) Oob ≡ write_options m r b false None
oob_flag m r true = refl
oob_flag m r false = refl

pad_flag : (m r o b : Bool) → flagged b (write_options m r o false None) Pad ≡ write_options m r o b None
pad_flag m r o true = refl
pad_flag m r o false = refl

write_offset : (m r o p b : Bool) (off : ℕ) → cond b (write_options m r o p None) (given (write_options m r o p None) Offset (Some off))
    ≡ write_options m r o p (cond b None (Some (Some off)))
write_offset m r o p true off = refl
write_offset m r o p false off = refl

write_taken : (dev off : ℕ) (mark raw oob pad : Bool) (name : List ℕ) → off < 2 ^ 64 →
    options_from ToWrite no_options (command_texts (NandWrite dev mark raw oob pad off name))
    ≡ Ok (write_options mark raw oob pad (value_given off 0), device_name dev ∷ name ∷ [])
write_taken dev off mark raw oob pad name h =
    let end : List (List ℕ) = device_name dev ∷ name ∷ [] in
    let offset : List (List ℕ) = valued (codes "-s") off 0 ++ end in
    let padded : List (List ℕ) = flag (codes "-p") pad ++ offset in
    let spared : List (List ℕ) = flag (codes "-o") oob ++ padded in
    let rawed : List (List ℕ) = flag (codes "-n") raw ++ spared in
    let some : IsSome end = (device_name dev, name ∷ [], refl) in
    let some1 : IsSome offset = some_behind (valued (codes "-s") off 0) end some in
    let some2 : IsSome padded = some_behind (flag (codes "-p") pad) offset some1 in
    let some3 : IsSome spared = some_behind (flag (codes "-o") oob) padded some2 in
    let some4 : IsSome rawed = some_behind (flag (codes "-n") raw) spared some3 in
    flag_taken ToWrite no_options (write_options mark false false false None) (codes "-m") Mark mark rawed write_m refl some4 (mark_flag mark)
    ∙ flag_taken ToWrite (write_options mark false false false None) (write_options mark raw false false None) (codes "-n") Raw raw spared write_n refl some3 (raw_flag mark raw)
    ∙ flag_taken ToWrite (write_options mark raw false false None) (write_options mark raw oob false None) (codes "-o") Oob oob padded write_o refl some2 (oob_flag mark raw oob)
    ∙ flag_taken ToWrite (write_options mark raw oob false None) (write_options mark raw oob pad None) (codes "-p") Pad pad offset write_p refl some1 (pad_flag mark raw oob pad)
    ∙ valued_taken ToWrite (write_options mark raw oob pad None) (write_options mark raw oob pad (value_given off 0)) (codes "-s") Offset off 0 end
    write_s refl h (write_offset mark raw oob pad (eqb off 0) off)
    ∙ options_end ToWrite (write_options mark raw oob pad (value_given off 0)) (device_name dev) (name ∷ []) refl

write_again : (dev off : ℕ) (mark raw oob pad : Bool) (name : List ℕ) → HasFit (NandWrite dev mark raw oob pad off name) →
    command_words ToWrite (command_texts (NandWrite dev mark raw oob pad off name)) ≡ Ok (NandWrite dev mark raw oob pad off name)
unfolding command_words nandwrite_words two_words
write_again dev off mark raw oob pad name h =
    let command : CommandLine = NandWrite dev mark raw oob pad off name in
    step (options_from ToWrite no_options (command_texts command)) _ (write_options mark raw oob pad (value_given off 0), device_name dev ∷ name ∷ [])
    command (write_taken dev off mark raw oob pad name h.1)
    (step (device_word (device_name dev)) _ dev command (device_taken dev h.0)
    (rule_step (is_name name) BadWords _ command h.2
    (step (value_or 0 (value_given off 0)) _ off command (value_again off 0) refl)))

dump_s : IsOption ToDump (codes "-s") Offset true
unfolding option_word
dump_s = record { dash = refl; found = refl; valued = refl }

dump_l : IsOption ToDump (codes "-l") Length true
unfolding option_word
dump_l = record { dash = refl; found = refl; valued = refl }

dump_n : IsOption ToDump (codes "-n") Raw false
unfolding option_word
dump_n = record { dash = refl; found = refl; valued = refl }

dump_o : IsOption ToDump (codes "-o") Oob false
unfolding option_word
dump_o = record { dash = refl; found = refl; valued = refl }

abbrev dump_options : (offset length : Option (Option ℕ)) (raw oob : Bool) (bad : Option BadMode) → Options
dump_options offset length raw oob bad =
    record no_options { offset = offset; length = length; raw = raw; oob = oob; bad = bad }

dump_offset : (b : Bool) (off : ℕ) → cond b no_options (given no_options Offset (Some off)) ≡ dump_options (cond b None (Some (Some off))) None false false None
dump_offset true off = refl
dump_offset false off = refl

dump_length : (o : Option (Option ℕ)) (b : Bool) (len : ℕ) → cond b (dump_options o None false false None) (given (dump_options o None false false None) Length (Some len))
    ≡ dump_options o (cond b None (Some (Some len))) false false None
dump_length o true len = refl
dump_length o false len = refl

dump_raw : (o l : Option (Option ℕ)) (b : Bool) → flagged b (dump_options o l false false None) Raw ≡ dump_options o l b false None
dump_raw o l true = refl
dump_raw o l false = refl

dump_oob : (o l : Option (Option ℕ)) (r b : Bool) → flagged b (dump_options o l r false None) Oob ≡ dump_options o l r b None
dump_oob o l r true = refl
dump_oob o l r false = refl

-- the mode that is given for bad blocks
abbrev mode_given : BadMode → Option BadMode
mode_given PadBad = None
mode_given DumpBad = Some DumpBad
mode_given SkipBad = Some SkipBad

mode_again : (bad : BadMode) → unwrap_or (mode_given bad) PadBad ≡ bad
mode_again PadBad = refl
mode_again DumpBad = refl
mode_again SkipBad = refl

bad_dump : IsOption ToDump (codes "--bb=dumpbad") (BadAs DumpBad) false
unfolding option_word
bad_dump = record { dash = refl; found = refl; valued = refl }

bad_skip : IsOption ToDump (codes "--bb=skipbad") (BadAs SkipBad) false
unfolding option_word
bad_skip = record { dash = refl; found = refl; valued = refl }

bad_taken : (o l : Option (Option ℕ)) (r s : Bool) (bad : BadMode) (dev : ℕ) →
    options_from ToDump (dump_options o l r s None) (bad_option bad ++ (device_name dev ∷ []))
    ≡ Ok (dump_options o l r s (mode_given bad), device_name dev ∷ [])
bad_taken o l r s PadBad dev = options_end ToDump (dump_options o l r s None) (device_name dev) [] refl
bad_taken o l r s DumpBad dev =
    flag_taken ToDump (dump_options o l r s None) (dump_options o l r s (Some DumpBad)) (codes "--bb=dumpbad") (BadAs DumpBad) true (device_name dev ∷ [])
    bad_dump refl (device_name dev, [], refl) refl
    ∙ options_end ToDump (dump_options o l r s (Some DumpBad)) (device_name dev) [] refl
bad_taken o l r s SkipBad dev =
    flag_taken ToDump (dump_options o l r s None) (dump_options o l r s (Some SkipBad)) (codes "--bb=skipbad") (BadAs SkipBad) true (device_name dev ∷ [])
    bad_skip refl (device_name dev, [], refl) refl
    ∙ options_end ToDump (dump_options o l r s (Some SkipBad)) (device_name dev) [] refl

dump_taken : (dev off len : ℕ) (raw oob : Bool) (bad : BadMode) → off < 2 ^ 64 → len < 2 ^ 64 →
    options_from ToDump no_options (command_texts (NandDump dev off len raw oob bad))
    ≡ Ok (dump_options (value_given off 0) (value_given len 0) raw oob (mode_given bad), device_name dev ∷ [])
dump_taken dev off len raw oob bad h k =
    let o : Option (Option ℕ) = value_given off 0 in
    let l : Option (Option ℕ) = value_given len 0 in
    let end : List (List ℕ) = bad_option bad ++ (device_name dev ∷ []) in
    let spared : List (List ℕ) = flag (codes "-o") oob ++ end in
    let rawed : List (List ℕ) = flag (codes "-n") raw ++ spared in
    let sized : List (List ℕ) = valued (codes "-l") len 0 ++ rawed in
    let some : IsSome end = some_behind (bad_option bad) (device_name dev ∷ []) (device_name dev, [], refl) in
    let some1 : IsSome spared = some_behind (flag (codes "-o") oob) end some in
    valued_taken ToDump no_options (dump_options o None false false None) (codes "-s") Offset off 0 sized dump_s refl h (dump_offset (eqb off 0) off)
    ∙ valued_taken ToDump (dump_options o None false false None) (dump_options o l false false None) (codes "-l") Length len 0 rawed dump_l refl k (dump_length o (eqb len 0) len)
    ∙ flag_taken ToDump (dump_options o l false false None) (dump_options o l raw false None) (codes "-n") Raw raw spared dump_n refl some1 (dump_raw o l raw)
    ∙ flag_taken ToDump (dump_options o l raw false None) (dump_options o l raw oob None) (codes "-o") Oob oob end dump_o refl some (dump_oob o l raw oob)
    ∙ bad_taken o l raw oob bad dev

dump_again : (dev off len : ℕ) (raw oob : Bool) (bad : BadMode) → HasFit (NandDump dev off len raw oob bad) →
    command_words ToDump (command_texts (NandDump dev off len raw oob bad)) ≡ Ok (NandDump dev off len raw oob bad)
unfolding command_words nanddump_words one_word
dump_again dev off len raw oob bad h =
    let command : CommandLine = NandDump dev off len raw oob bad in
    step (options_from ToDump no_options (command_texts command)) _
    (dump_options (value_given off 0) (value_given len 0) raw oob (mode_given bad), device_name dev ∷ [])
    command (dump_taken dev off len raw oob bad h.1 h.2)
    (step (device_word (device_name dev)) _ dev command (device_taken dev h.0)
    (step (value_or 0 (value_given off 0)) _ off command (value_again off 0)
    (step (value_or 0 (value_given len 0)) _ len command (value_again len 0)
    (ap (λ (mode : BadMode). Ok (NandDump dev off len raw oob mode)) (mode_again bad)))))

test_k : IsOption ToTest (codes "-k") Keep false
unfolding option_word
test_k = record { dash = refl; found = refl; valued = refl }

test_m : IsOption ToTest (codes "-m") Mark false
unfolding option_word
test_m = record { dash = refl; found = refl; valued = refl }

test_s : IsOption ToTest (codes "-s") Seed true
unfolding option_word
test_s = record { dash = refl; found = refl; valued = refl }

test_p : IsOption ToTest (codes "-p") Passes true
unfolding option_word
test_p = record { dash = refl; found = refl; valued = refl }

test_o : IsOption ToTest (codes "-o") Offset true
unfolding option_word
test_o = record { dash = refl; found = refl; valued = refl }

test_l : IsOption ToTest (codes "-l") Length true
unfolding option_word
test_l = record { dash = refl; found = refl; valued = refl }

abbrev test_options : (keep mark : Bool) (seed passes offset length : Option (Option ℕ)) → Options
test_options keep mark seed passes offset length =
    record no_options { keep = keep; mark = mark; seed = seed; passes = passes; offset = offset; length = length }

test_keep : (b : Bool) → flagged b no_options Keep ≡ test_options b false None None None None
test_keep true = refl
test_keep false = refl

test_mark : (k b : Bool) → flagged b (test_options k false None None None None) Mark ≡ test_options k b None None None None
test_mark k true = refl
test_mark k false = refl

test_seed : (k m b : Bool) (seed : ℕ) →
    cond b (test_options k m None None None None) (given (test_options k m None None None None) Seed (Some seed))
    ≡ test_options k m (cond b None (Some (Some seed))) None None None
test_seed k m true seed = refl
test_seed k m false seed = refl

test_passes : (k m : Bool) (s : Option (Option ℕ)) (b : Bool) (passes : ℕ) →
    cond b (test_options k m s None None None) (given (test_options k m s None None None) Passes (Some passes))
    ≡ test_options k m s (cond b None (Some (Some passes))) None None
test_passes k m s true passes = refl
test_passes k m s false passes = refl

test_offset : (k m : Bool) (s p : Option (Option ℕ)) (b : Bool) (off : ℕ) →
    cond b (test_options k m s p None None) (given (test_options k m s p None None) Offset (Some off))
    ≡ test_options k m s p (cond b None (Some (Some off))) None
test_offset k m s p true off = refl
test_offset k m s p false off = refl

test_length : (k m : Bool) (s p o : Option (Option ℕ)) (b : Bool) (len : ℕ) →
    cond b (test_options k m s p o None) (given (test_options k m s p o None) Length (Some len))
    ≡ test_options k m s p o (cond b None (Some (Some len)))
test_length k m s p o true len = refl
test_length k m s p o false len = refl

test_taken : (dev seed passes off len : ℕ) (keep mark : Bool) → seed < 2 ^ 64 → passes < 2 ^ 64 → off < 2 ^ 64 → len < 2 ^ 64 →
    options_from ToTest no_options (command_texts (NandTest dev keep mark seed passes off len))
    ≡ Ok (test_options keep mark (value_given seed 0) (value_given passes 1) (value_given off 0) (value_given len 0), device_name dev ∷ [])
test_taken dev seed passes off len keep mark h1 h2 h3 h4 =
    let s : Option (Option ℕ) = value_given seed 0 in
    let p : Option (Option ℕ) = value_given passes 1 in
    let o : Option (Option ℕ) = value_given off 0 in
    let l : Option (Option ℕ) = value_given len 0 in
    let end : List (List ℕ) = device_name dev ∷ [] in
    let sized : List (List ℕ) = valued (codes "-l") len 0 ++ end in
    let placed : List (List ℕ) = valued (codes "-o") off 0 ++ sized in
    let passed : List (List ℕ) = valued (codes "-p") passes 1 ++ placed in
    let seeded : List (List ℕ) = valued (codes "-s") seed 0 ++ passed in
    let marked : List (List ℕ) = flag (codes "-m") mark ++ seeded in
    let some : IsSome end = (device_name dev, [], refl) in
    let some1 : IsSome seeded = some_behind (valued (codes "-s") seed 0) passed (some_behind (valued (codes "-p") passes 1) placed
    (some_behind (valued (codes "-o") off 0) sized (some_behind (valued (codes "-l") len 0) end some))) in
    let some2 : IsSome marked = some_behind (flag (codes "-m") mark) seeded some1 in
    flag_taken ToTest no_options (test_options keep false None None None None) (codes "-k") Keep keep marked test_k refl some2 (test_keep keep)
    ∙ flag_taken ToTest (test_options keep false None None None None) (test_options keep mark None None None None) (codes "-m") Mark mark seeded test_m refl some1 (test_mark keep mark)
    ∙ valued_taken ToTest (test_options keep mark None None None None) (test_options keep mark s None None None) (codes "-s") Seed seed 0 passed test_s refl h1
    (test_seed keep mark (eqb seed 0) seed)
    ∙ valued_taken ToTest (test_options keep mark s None None None) (test_options keep mark s p None None) (codes "-p") Passes passes 1 placed test_p refl h2
    (test_passes keep mark s (eqb passes 1) passes)
    ∙ valued_taken ToTest (test_options keep mark s p None None) (test_options keep mark s p o None) (codes "-o") Offset off 0 sized test_o refl h3
    (test_offset keep mark s p (eqb off 0) off)
    ∙ valued_taken ToTest (test_options keep mark s p o None) (test_options keep mark s p o l) (codes "-l") Length len 0 end test_l refl h4
    (test_length keep mark s p o (eqb len 0) len)
    ∙ options_end ToTest (test_options keep mark s p o l) (device_name dev) [] refl

passes_again : (k m : Bool) (s o l : Option (Option ℕ)) (passes : ℕ) → 1 ≤ passes → IsSmall passes →
    passes_of (test_options k m s (value_given passes 1) o l) ≡ Ok passes
unfolding passes_of
passes_again k m s o l passes h small =
    step (value_or 1 (value_given passes 1)) _ passes passes (value_again passes 1)
    (rule_step (leb 1 passes && ltb passes word_limit) BadNumber _ passes
    (and_from (leb 1 passes) (ltb passes word_limit) (le-leb 1 passes h) (lt-ltb passes word_limit small)) refl)

test_again : (dev seed passes off len : ℕ) (keep mark : Bool) → HasFit (NandTest dev keep mark seed passes off len) →
    command_words ToTest (command_texts (NandTest dev keep mark seed passes off len)) ≡ Ok (NandTest dev keep mark seed passes off len)
unfolding command_words nandtest_words one_word
test_again dev seed passes off len keep mark h =
    let command : CommandLine = NandTest dev keep mark seed passes off len in
    let s : Option (Option ℕ) = value_given seed 0 in
    let p : Option (Option ℕ) = value_given passes 1 in
    let o : Option (Option ℕ) = value_given off 0 in
    let l : Option (Option ℕ) = value_given len 0 in
    step (options_from ToTest no_options (command_texts command)) _ (test_options keep mark s p o l, device_name dev ∷ [])
    command (test_taken dev seed passes off len keep mark h.1 (omega (arith, h.3)) h.4 h.5)
    (step (device_word (device_name dev)) _ dev command (device_taken dev h.0)
    (step (value_or 0 s) _ seed command (value_again seed 0)
    (step (passes_of (test_options keep mark s p o l)) _ passes command (passes_again keep mark s o l passes h.2 h.3)
    (step (value_or 0 o) _ off command (value_again off 0)
    (step (value_or 0 l) _ len command (value_again len 0) refl)))))

block_again : (dev block : ℕ) → dev < 2 ^ 64 → IsSmall block → device_and_block (device_name dev ∷ decimal block ∷ []) ≡ Ok (dev, block)
unfolding device_and_block two_words
block_again dev block h k =
    step (device_word (device_name dev)) _ dev (dev, block) (device_taken dev h)
    (step (small_number (decimal block)) _ block (dev, block) (small_again block k) refl)

stats_again : (dev : ℕ) → dev < 2 ^ 64 → stats_words (device_name dev ∷ []) ≡ Ok (Stats dev)
unfolding stats_words one_word
stats_again dev h = step (device_word (device_name dev)) _ dev (Stats dev) (device_taken dev h) refl

-- the words of a command are read again
pub words_again : (command : CommandLine) → HasFit command → command_words (kind_of command) (command_texts command) ≡ Ok command
unfolding command_words
words_again (FlashErase dev no_scan start count) h = erase_again dev start count no_scan h
words_again (NandWrite dev mark raw oob pad off name) h = write_again dev off mark raw oob pad name h
words_again (NandDump dev off len raw oob bad) h = dump_again dev off len raw oob bad h
words_again (NandTest dev keep mark seed passes off len) h = test_again dev seed passes off len keep mark h
words_again (MarkBad dev block) h =
    step (device_and_block (device_name dev ∷ decimal block ∷ [])) _ (dev, block) (MarkBad dev block) (block_again dev block h.0 h.1) refl
words_again (IsBad dev block) h =
    step (device_and_block (device_name dev ∷ decimal block ∷ [])) _ (dev, block) (IsBad dev block) (block_again dev block h.0 h.1) refl
words_again (Stats dev) h = stats_again dev h

pub command_again : (kind : LineKind) (plan next : PlanLines) (h : CommandKept plan next kind) →
    command_line (kind_of h.command) plan (command_texts h.command) ≡ Ok next
unfolding command_line
command_again kind plan next h =
    step (running_boot plan) _ h.boot next h.running
    (there_step (last_of h.boot.sessions) WrongPlace _ h.session next h.last
    (step (command_words (kind_of h.command) (command_texts h.command)) _ h.command next (words_again h.command h.fits)
    (step (device_of plan h.session.controller (device_in h.command)) _ h.device next h.found
    (step (device_rules plan h.device h.command) _ tt next h.rules
    (rule_step (leb (plan_cost (with_command h.command plan)) most_operations) TooLarge _ next
    (le-leb (plan_cost (with_command h.command plan)) most_operations h.cheap) (ap (λ p. Ok p) h.next_is))))))
