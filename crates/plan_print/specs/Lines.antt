-- Texts of lines and of the words in them.
use Rattle.std.specs.Prelude.{ℕ, Bool, List, ◌∷◌, ◌++◌, flat_map, codes}
use Rattle.nand_model.specs.declared.words.BadMode.{BadMode}
use Rattle.plan_grammar.specs.Canonical.{flag, valued, bad_option}
use Rattle.report_model.specs.Report.{line, spaced}

-- words, each behind a blank
abbrev pub behind_blanks : List (List ℕ) → List ℕ
behind_blanks words = flat_map (λ word. 32 ∷ word) words

-- the line of these words
abbrev pub line_of : List (List ℕ) → List ℕ
line_of words = line (spaced words)

-- the lines, each of its words
abbrev pub text_of : List (List (List ℕ)) → List ℕ
text_of lines = flat_map line_of lines

-- the options of a nandwrite in their order
abbrev pub write_options : (mark raw oob pad : Bool) (off : ℕ) → List (List ℕ)
write_options mark raw oob pad off =
    flag (codes "-m") mark ++ flag (codes "-n") raw ++ flag (codes "-o") oob
    ++ flag (codes "-p") pad ++ valued (codes "-s") off 0

-- those of a nanddump
abbrev pub dump_options : (off len : ℕ) (raw oob : Bool) → BadMode → List (List ℕ)
dump_options off len raw oob bad =
    valued (codes "-s") off 0 ++ valued (codes "-l") len 0 ++ flag (codes "-n") raw
    ++ flag (codes "-o") oob ++ bad_option bad

-- those of a nandtest
abbrev pub test_options : (keep mark : Bool) (seed passes off len : ℕ) → List (List ℕ)
test_options keep mark seed passes off len =
    flag (codes "-k") keep ++ flag (codes "-m") mark ++ valued (codes "-s") seed 0
    ++ valued (codes "-p") passes 1 ++ valued (codes "-o") off 0 ++ valued (codes "-l") len 0
