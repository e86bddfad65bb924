-- What computes the definitions of plans on a literal text: a name for `unfolding` lines.
use Rattle.std.specs.Prelude.{⊤}
use Rattle.std.specs.Fmt.{digits}
use Rattle.hex.proofs.OnLiterals.{hex_on_literals}
use Rattle.plan_grammar.specs.Forms.{one_word, two_words, three_words, four_words, number, small_number, positive_number, numbers, small_numbers, after_front, halves, span_from, spans_from, tear, fill_piece, seed_piece, hex_piece, piece, pieces, is_name, byte_of, device_number, chip_numbers}
use Rattle.plan_grammar.specs.Options.{with_option, option_word, last_option, options_from}
use Rattle.plan_grammar.specs.Hardware.{last_chip, header_line, controller_line, geometry, sizes, chip_line, open_chip, bad_line, weak_words, weak_form, weak_line, bus_line, part_words, part_form, part_line}
use Rattle.plan_grammar.specs.Payloads.{data_words, data_form, data_line}
use Rattle.plan_grammar.specs.Faults.{boot_line, open_boot, flip_words, flip_form, flip_line, cut_words, cut_form, cut_line}
use Rattle.plan_grammar.specs.Sessions.{running_boot, session_form, session_line, schedule_line}
use Rattle.plan_grammar.specs.Commands.{value_or, device_word, flash_erase_words, nandwrite_words, nanddump_words, passes_of, nandtest_words, device_and_block, stats_words, command_words, device_of, range_rules, write_rules, command_line}
use Rattle.plan_grammar.specs.Grammar.{line_words, line}

unfoldable forms : ⊤
unfolding one_word two_words three_words four_words number small_number positive_number numbers small_numbers
forms = tt

unfoldable forms_more : ⊤
unfolding after_front halves span_from spans_from tear fill_piece seed_piece hex_piece piece pieces is_name
forms_more = tt

unfoldable forms_rest : ⊤
unfolding byte_of device_number chip_numbers
forms_rest = tt

unfoldable options : ⊤
unfolding with_option option_word last_option options_from
options = tt

unfoldable hardware : ⊤
unfolding last_chip header_line controller_line geometry sizes chip_line open_chip bad_line weak_words weak_form
hardware = tt

unfoldable hardware_more : ⊤
unfolding weak_line bus_line part_words part_form part_line
hardware_more = tt

unfoldable payloads : ⊤
unfolding data_words data_form data_line
payloads = tt

unfoldable faults : ⊤
unfolding boot_line open_boot flip_words flip_form flip_line cut_words cut_form cut_line
faults = tt

unfoldable sessions : ⊤
unfolding running_boot session_form session_line schedule_line
sessions = tt

unfoldable commands : ⊤
unfolding value_or device_word flash_erase_words nandwrite_words nanddump_words passes_of nandtest_words
commands = tt

unfoldable commands_more : ⊤
unfolding device_and_block stats_words command_words device_of range_rules write_rules command_line
commands_more = tt

unfoldable grammar : ⊤
unfolding line_words line
grammar = tt

unfoldable words_and_chips : ⊤
unfolding digits hex_on_literals forms forms_more forms_rest options hardware
words_and_chips = tt

unfoldable pub plans_on_literals : ⊤
unfolding words_and_chips hardware_more payloads faults sessions commands commands_more grammar
plans_on_literals = tt
