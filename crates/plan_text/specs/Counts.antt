-- How many lines of a kind a plan has.
use Rattle.std.specs.Prelude.{ℕ, Bool, false, not, count_by}
use Rattle.nand_model.specs.declared.words.WeakKind.{WeakKind}
use Rattle.plan_grammar.specs.declared.lines.ChipLines.{ChipLines}
use Rattle.plan_grammar.specs.declared.lines.BootLines.{BootLines}
use Rattle.plan_grammar.specs.declared.lines.DetailLine.{DetailLine}
use Rattle.plan_grammar.specs.declared.lines.DetailLine.TheVariants.{Bad, Weak, Bus}
use Rattle.plan_grammar.specs.declared.lines.FaultLine.{FaultLine}
use Rattle.plan_grammar.specs.Devices.{is_same_kind}
use Rattle.plan_grammar.specs.Faults.{is_flip}

-- a fault is a cut
abbrev pub is_cut : FaultLine → Bool
is_cut fault = not (is_flip fault)

-- the cut lines of a boot
abbrev pub cuts_of : BootLines → ℕ
cuts_of boot = count_by is_cut boot.faults

-- a line is a weak place of this kind
abbrev pub is_weak_line : WeakKind → DetailLine → Bool
is_weak_line kind (Bad blocks) = false
is_weak_line kind (Weak weak) = is_same_kind weak.kind kind
is_weak_line kind Bus = false

-- the weak lines of a kind of a chip
abbrev pub weak_lines : WeakKind → ChipLines → ℕ
weak_lines kind chip = count_by (is_weak_line kind) chip.details
