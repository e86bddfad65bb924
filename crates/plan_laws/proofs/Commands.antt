-- Lines of commands that were kept, and their canonical lines.
use Rattle.std.proofs.Common.{◌≡◌, ℕ, ◌^◌, ◌≤◌, ◌<◌, true, leb, ltb, List, Some, Result, Ok, Err, refl, subst, arith}
use Rattle.std.specs.Prelude.{◌&&◌, unwrap_or}
use Rattle.std.proofs.lemmas.Bool.{and_parts, ltb-true, leb-true}
use Rattle.nand_model.specs.declared.words.BadMode.TheVariants.{PadBad}
use Rattle.plan_grammar.specs.declared.kind.PlanKind.{PlanKind}
use Rattle.plan_grammar.specs.declared.kind.PlanKind.TheVariants.{WrongPlace, BadWords, BadNumber, TooLarge}
use Rattle.plan_grammar.specs.declared.words.LineKind.{LineKind}
use Rattle.plan_grammar.specs.declared.words.LineKind.TheVariants.{Header, Controller, Chip, Bad, Weak, Bus, Part, Data, Boot, Flip, Cut, Session, Schedule, FlashErase as ToErase, NandWrite as ToWrite, NandDump as ToDump, NandTest as ToTest, MarkBad as ToMark, IsBad as ToAsk, Stats as ToCount}
use Rattle.plan_grammar.specs.declared.words.Options.{Options}
use Rattle.plan_grammar.specs.declared.lines.PlanLines.{PlanLines}
use Rattle.plan_grammar.specs.declared.lines.BootLines.{BootLines}
use Rattle.plan_grammar.specs.declared.lines.SessionLines.{SessionLines}
use Rattle.plan_grammar.specs.declared.lines.CommandLine.{CommandLine}
use Rattle.plan_grammar.specs.declared.lines.CommandLine.TheVariants.{FlashErase, NandWrite, NandDump, NandTest, MarkBad, IsBad, Stats}
use Rattle.plan_grammar.specs.Limits.{word_limit, most_operations}
use Rattle.plan_grammar.specs.Rules.{last_of}
use Rattle.plan_grammar.specs.Forms.{one_word, two_words, three_words, small_number, is_name, device_number}
use Rattle.plan_grammar.specs.Options.{no_options, options_from}
use Rattle.plan_grammar.specs.Devices.{Device}
use Rattle.plan_grammar.specs.Sessions.{running_boot}
use Rattle.plan_grammar.specs.Costs.{device_in, plan_cost}
use Rattle.plan_grammar.specs.Commands.{value_or, device_word, flash_erase_words, nandwrite_words, nanddump_words, passes_of, nandtest_words, device_and_block, stats_words, command_words, device_of, device_rules, with_command, command_line}
use Rattle.plan_laws.proofs.Steps.{kept, rule_kept, found, there_kept, ok_same}
use Rattle.plan_laws.proofs.Numbers.{IsSmall, small_fits}
use Rattle.plan_laws.proofs.Names.{device_fits}
use Rattle.plan_laws.proofs.CommandOptions.{FitOptions, none_fit, options_fit, value_fits}

-- the kind of a command's line
abbrev pub kind_of : CommandLine → LineKind
kind_of (FlashErase dev no_scan start count) = ToErase
kind_of (NandWrite dev mark raw oob pad off name) = ToWrite
kind_of (NandDump dev off len raw oob bad) = ToDump
kind_of (NandTest dev keep mark seed passes off len) = ToTest
kind_of (MarkBad dev block) = ToMark
kind_of (IsBad dev block) = ToAsk
kind_of (Stats dev) = ToCount

-- the numbers of a command have the sizes of their words
abbrev pub HasFit : CommandLine → Type 0
HasFit (FlashErase dev no_scan start count) = (dev < 2 ^ 64) × IsSmall start × IsSmall count
HasFit (NandWrite dev mark raw oob pad off name) = (dev < 2 ^ 64) × (off < 2 ^ 64) × (is_name name ≡ true)
HasFit (NandDump dev off len raw oob bad) = (dev < 2 ^ 64) × (off < 2 ^ 64) × (len < 2 ^ 64)
HasFit (NandTest dev keep mark seed passes off len) =
    (dev < 2 ^ 64) × (seed < 2 ^ 64) × (1 ≤ passes) × IsSmall passes × (off < 2 ^ 64) × (len < 2 ^ 64)
HasFit (MarkBad dev block) = (dev < 2 ^ 64) × IsSmall block
HasFit (IsBad dev block) = (dev < 2 ^ 64) × IsSmall block
HasFit (Stats dev) = dev < 2 ^ 64

-- a command of a line of its kind
abbrev pub IsOfKind : LineKind → CommandLine → Type 0
IsOfKind kind command = (kind ≡ kind_of command) × HasFit command

word_fits : (w : List ℕ) (dev : ℕ) → device_word w ≡ Ok dev → dev < 2 ^ 64
unfolding device_word
word_fits w dev e = device_fits w dev (there_kept (device_number w) BadWords dev e)

erase_kept : (o : Options) (words : List (List ℕ)) (command : CommandLine) → flash_erase_words o words ≡ Ok command → IsOfKind ToErase command
unfolding flash_erase_words
erase_kept o words command e =
    let one = kept (three_words words) _ command e in
    let two = kept (device_word one.value.0) _ command one.further in
    let three = kept (small_number one.value.1) _ command two.further in
    let four = kept (small_number one.value.2) _ command three.further in
    subst (IsOfKind ToErase) (ok_same (FlashErase two.value o.no_scan three.value four.value) command four.further)
    (refl, (word_fits one.value.0 two.value two.is, small_fits one.value.1 three.value three.is, small_fits one.value.2 four.value four.is))

write_kept : (o : Options) (words : List (List ℕ)) (command : CommandLine) → FitOptions o → nandwrite_words o words ≡ Ok command →
    IsOfKind ToWrite command
unfolding nandwrite_words
write_kept o words command h e =
    let one = kept (two_words words) _ command e in
    let two = kept (device_word one.value.0) _ command one.further in
    let three = rule_kept (is_name one.value.1) BadWords _ command two.further in
    let four = kept (value_or 0 o.offset) _ command three.1 in
    subst (IsOfKind ToWrite) (ok_same (NandWrite two.value o.mark o.raw o.oob o.pad four.value one.value.1) command four.further)
    (refl, (word_fits one.value.0 two.value two.is, value_fits 0 o.offset four.value (omega arith) h.offset four.is, three.0))

dump_kept : (o : Options) (words : List (List ℕ)) (command : CommandLine) → FitOptions o → nanddump_words o words ≡ Ok command →
    IsOfKind ToDump command
unfolding nanddump_words
dump_kept o words command h e =
    let one = kept (one_word words) _ command e in
    let two = kept (device_word one.value) _ command one.further in
    let three = kept (value_or 0 o.offset) _ command two.further in
    let four = kept (value_or 0 o.length) _ command three.further in
    subst (IsOfKind ToDump) (ok_same (NandDump two.value three.value four.value o.raw o.oob (unwrap_or o.bad PadBad)) command four.further) (
      refl,
      (
        word_fits one.value two.value two.is,
        value_fits 0 o.offset three.value (omega arith) h.offset three.is,
        value_fits 0 o.length four.value (omega arith) h.length four.is,
      ),
    )

passes_kept : (o : Options) (passes : ℕ) → passes_of o ≡ Ok passes → (1 ≤ passes) × IsSmall passes
unfolding passes_of
passes_kept o passes e =
    let one = kept (value_or 1 o.passes) _ passes e in
    let two = rule_kept (leb 1 one.value && ltb one.value word_limit) BadNumber _ passes one.further in
    let parts = and_parts (leb 1 one.value) (ltb one.value word_limit) two.0 in
    let same = ok_same one.value passes two.1 in
    (subst (λ m. 1 ≤ m) same (leb-true 1 one.value parts.0), subst IsSmall same (ltb-true one.value word_limit parts.1))

test_kept : (o : Options) (words : List (List ℕ)) (command : CommandLine) → FitOptions o → nandtest_words o words ≡ Ok command →
    IsOfKind ToTest command
unfolding nandtest_words
test_kept o words command h e =
    let one = kept (one_word words) _ command e in
    let two = kept (device_word one.value) _ command one.further in
    let three = kept (value_or 0 o.seed) _ command two.further in
    let four = kept (passes_of o) _ command three.further in
    let five = kept (value_or 0 o.offset) _ command four.further in
    let six = kept (value_or 0 o.length) _ command five.further in
    let passes = passes_kept o four.value four.is in
    subst (IsOfKind ToTest) (ok_same (NandTest two.value o.keep o.mark three.value four.value five.value six.value) command six.further) (
      refl,
      (
        word_fits one.value two.value two.is,
        value_fits 0 o.seed three.value (omega arith) h.seed three.is,
        passes.0,
        passes.1,
        value_fits 0 o.offset five.value (omega arith) h.offset five.is,
        value_fits 0 o.length six.value (omega arith) h.length six.is,
      ),
    )

block_kept : (words : List (List ℕ)) (found : ℕ × ℕ) → device_and_block words ≡ Ok found → (found.0 < 2 ^ 64) × IsSmall found.1
unfolding device_and_block
block_kept words found e =
    let one = kept (two_words words) _ found e in
    let two = kept (device_word one.value.0) _ found one.further in
    let three = kept (small_number one.value.1) _ found two.further in
    subst (λ (f : ℕ × ℕ). (f.0 < 2 ^ 64) × IsSmall f.1) (ok_same (two.value, three.value) found three.further)
    (word_fits one.value.0 two.value two.is, small_fits one.value.1 three.value three.is)

stats_kept : (words : List (List ℕ)) (command : CommandLine) → stats_words words ≡ Ok command → IsOfKind ToCount command
unfolding stats_words
stats_kept words command e =
    let one = kept (one_word words) _ command e in
    let two = kept (device_word one.value) _ command one.further in
    subst (IsOfKind ToCount) (ok_same (Stats two.value) command two.further) (refl, word_fits one.value two.value two.is)

abbrev bad_kind : LineKind → CommandLine → Type 0
bad_kind kind command = ◌≡◌ {A = Result CommandLine PlanKind} (Err BadWords) (Ok command) → IsOfKind kind command

none : (kind : LineKind) (command : CommandLine) → bad_kind kind command
none kind command e = absurd (cc e)

-- the words of a command
pub words_kept : (kind : LineKind) (words : List (List ℕ)) (command : CommandLine) → command_words kind words ≡ Ok command →
    IsOfKind kind command
unfolding command_words
words_kept ToErase words command e =
    let one = kept (options_from ToErase no_options words) _ command e in
    erase_kept one.value.0 one.value.1 command one.further
words_kept ToWrite words command e =
    let one = kept (options_from ToWrite no_options words) _ command e in
    write_kept one.value.0 one.value.1 command (options_fit ToWrite no_options one.value.0 words one.value.1 one.is none_fit) one.further
words_kept ToDump words command e =
    let one = kept (options_from ToDump no_options words) _ command e in
    dump_kept one.value.0 one.value.1 command (options_fit ToDump no_options one.value.0 words one.value.1 one.is none_fit) one.further
words_kept ToTest words command e =
    let one = kept (options_from ToTest no_options words) _ command e in
    test_kept one.value.0 one.value.1 command (options_fit ToTest no_options one.value.0 words one.value.1 one.is none_fit) one.further
words_kept ToMark words command e =
    let one = kept (device_and_block words) _ command e in
    subst (IsOfKind ToMark) (ok_same (MarkBad one.value.0 one.value.1) command one.further) (refl, block_kept words one.value one.is)
words_kept ToAsk words command e =
    let one = kept (device_and_block words) _ command e in
    subst (IsOfKind ToAsk) (ok_same (IsBad one.value.0 one.value.1) command one.further) (refl, block_kept words one.value one.is)
words_kept ToCount words command e = stats_kept words command e
words_kept Header words command e = none Header command e
words_kept Controller words command e = none Controller command e
words_kept Chip words command e = none Chip command e
words_kept Bad words command e = none Bad command e
words_kept Weak words command e = none Weak command e
words_kept Bus words command e = none Bus command e
words_kept Part words command e = none Part command e
words_kept Data words command e = none Data command e
words_kept Boot words command e = none Boot command e
words_kept Flip words command e = none Flip command e
words_kept Cut words command e = none Cut command e
words_kept Session words command e = none Session command e
words_kept Schedule words command e = none Schedule command e

-- a command
pub record CommandKept (plan next : PlanLines) (kind : LineKind) : Type 0 where
  pub boot : BootLines
  pub running : running_boot plan ≡ Ok boot
  pub session : SessionLines
  pub last : last_of boot.sessions ≡ Some session
  pub command : CommandLine
  pub of_kind : kind ≡ kind_of command
  pub fits : HasFit command
  pub device : Device
  pub found : device_of plan session.controller (device_in command) ≡ Ok device
  pub rules : device_rules plan device command ≡ Ok tt
  pub cheap : plan_cost (with_command command plan) ≤ most_operations
  pub next_is : with_command command plan ≡ next

unit_same : (r : Result (Unit {0}) PlanKind) (u : Unit {0}) → r ≡ Ok u → r ≡ Ok tt
unit_same r u e = e

pub command_kept : (kind : LineKind) (plan next : PlanLines) (words : List (List ℕ)) → command_line kind plan words ≡ Ok next →
    CommandKept plan next kind
unfolding command_line
command_kept kind plan next words e =
    let one = kept (running_boot plan) _ next e in
    let two = found (last_of one.value.sessions) WrongPlace _ next one.further in
    let three = kept (command_words kind words) _ next two.further in
    let four = kept (device_of plan two.value.controller (device_in three.value)) _ next three.further in
    let five = kept (device_rules plan four.value three.value) _ next four.further in
    let six = rule_kept (leb (plan_cost (with_command three.value plan)) most_operations) TooLarge _ next five.further in
    let legal = words_kept kind words three.value three.is in
    record {
      boot = one.value;
      running = one.is;
      session = two.value;
      last = two.is;
      command = three.value;
      of_kind = legal.0;
      fits = legal.1;
      device = four.value;
      found = four.is;
      rules = unit_same (device_rules plan four.value three.value) five.value five.is;
      cheap = leb-true (plan_cost (with_command three.value plan)) most_operations six.0;
      next_is = ok_same (with_command three.value plan) next six.1;
    }
