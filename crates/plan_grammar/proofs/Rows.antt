-- Worked examples, computed by the definitions.
use Rattle.std.proofs.Common.{◌++◌, ◌≡◌, List, [], Result, Ok, Err, refl, ℕ}
use Rattle.std.specs.Prelude.{codes}
use Rattle.plan_grammar.specs.declared.kind.PlanKind.{PlanKind}
use Rattle.plan_grammar.specs.declared.kind.PlanKind.TheVariants.{BadWords, BadNumber, OutOfChip, TooFewTableBlocks, UnknownDevice, TooLarge, Ended}
use Rattle.plan_grammar.specs.declared.lines.PlanLines.{PlanLines}
use Rattle.plan_grammar.specs.Canonical.{canonical_text}
use Rattle.plan_grammar.proofs.OnLiterals.{plans_on_literals}
use Rattle.plan_grammar.proofs.Reading.{Refusal, answer}

-- the canonical text of the answer
abbrev text_of : Result PlanLines Refusal → Result (List ℕ) Refusal
text_of (Ok plan) = Ok (canonical_text plan)
text_of (Err refusal) = Err refusal

abbrev refused : ℕ → PlanKind → Result PlanLines Refusal
refused at kind = Err (at, kind)

-- the first lines of most examples
abbrev head : List ℕ
head = codes "nandlab 1\ncontroller\nchip 2048 64 64 16 4 1\n"

pub comments_and_threshold : text_of (answer
    (codes "nandlab 1 # small\ncontroller\nchip 2048 64 64 0x10 4 2\nboot")) ≡ Ok
    (codes "nandlab 1\ncontroller\nchip 2048 64 64 16 4 2 3\nboot\n")
unfolding plans_on_literals
comments_and_threshold = refl

pub no_plan : answer [] ≡ refused 1 Ended
no_plan = refl

pub too_few_table_blocks : answer
    (head ++ codes "bad 12 13 14\npart 0 16\nboot") ≡ refused 4 TooFewTableBlocks
unfolding plans_on_literals
too_few_table_blocks = refl

pub partition_past_the_chip : answer
    (head ++ codes "part 8 16\nboot") ≡ refused 4 OutOfChip
unfolding plans_on_literals
partition_past_the_chip = refl

pub device_that_is_not_there : answer
    (head ++ codes "part 0 16\nboot\nsession 0\nisbad mtd7 0") ≡ refused 7 UnknownDevice
unfolding plans_on_literals
device_that_is_not_there = refl

pub two_buses_of_one_chip : answer
    (head ++ codes "bus\nbad 1\nbus\npart 0 16\nboot") ≡ refused 6 BadWords
unfolding plans_on_literals
two_buses_of_one_chip = refl

pub bus_in_the_order_read : text_of (answer
    (head ++ codes "weak program 0x380 1 none\nbus # by cycles\npart 0 16\nboot"))
    ≡ Ok (codes "nandlab 1\ncontroller\nchip 2048 64 64 16 4 1 3\nweak program 896 1 none\nbus\npart 0 16\nboot\n")
unfolding plans_on_literals
bus_in_the_order_read = refl

pub spans_that_go_back : answer
    (head ++ codes "part 0 16\nboot\ncut 0 1 spans:8-4") ≡ refused 6 BadNumber
unfolding plans_on_literals
spans_that_go_back = refl

pub too_many_passes : answer
    (head ++ codes "part 0 16\nboot\nsession 0\nnandtest -p 65536 mtd0") ≡ refused 7 TooLarge
unfolding plans_on_literals
too_many_passes = refl

pub options_in_one_order : text_of (answer
    (head ++ codes "part 0 0\ndata d hex:Ff fill:00:0x3\nboot\nflip 00.0x0 1 2 3\n"
    ++ codes "session 0\nnandwrite -s 2048 -p -m mtd0 d\nnanddump --bb=padbad -l 0 -n mtd0"))
    ≡ Ok (codes "nandlab 1\ncontroller\nchip 2048 64 64 16 4 1 3\npart 0 16\n"
    ++ codes "data d hex:ff fill:00:3\nboot\nflip 0.0 1 2 3\nsession 0\n"
    ++ codes "nandwrite -m -p -s 2048 mtd0 d\nnanddump -n mtd0\n")
unfolding plans_on_literals
options_in_one_order = refl
