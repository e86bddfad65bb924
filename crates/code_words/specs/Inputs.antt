-- Which numbers are strengths, and which inputs are refused.
use Rattle.std.specs.Prelude.{ℕ, ◌%◌, List, length, Option, Some, None, ◌&&◌, nat_eq, nat_le, nat_lt, if◌then◌else◌}
use Rattle.code_words.specs.declared.refusal.InputRefusal.{InputRefusal}
use Rattle.code_words.specs.declared.refusal.InputRefusal.TheVariants.{TooLong, NotMultiple}

-- how many wrong bits a code corrects: a number from 1 to 16
abbrev pub strength_of : ℕ → Option ℕ
strength_of n = if nat_le 1 n && nat_le n 16 then Some n else None

-- the bytes that an input may have
abbrev pub longest_input : ℕ
longest_input = 16777216

-- why bytes are no input of whole pieces: there are too many, or the last piece is short
abbrev pub refusal_of : ℕ → List ℕ → Option InputRefusal
refusal_of size bytes =
    if nat_lt longest_input (length bytes) then Some TooLong
    else (if nat_eq (length bytes % size) 0 then None else Some NotMultiple)
