-- What a source has left and what a sink holds, and a count of faults raised by one.
use Rattle.std.specs.Prelude.{◌≡◌, ℕ, ◌+◌, ◌-◌, ◌^◌, ◌≤◌, min, Option, List, length, take, ◌++◌}
use Rattle.std.specs.Io.KnownBytes.{prepend_known, append_known}

-- a count raised by one, which stays at the last number of its type
abbrev pub raised : ℕ → ℕ
raised count = min (count + 1) (2 ^ 64 - 1)

-- at most n bytes came off the front of what is told as left
abbrev pub GaveAtMost : Option (List ℕ) → Option (List ℕ) → ℕ → Type 0
GaveAtMost old new n = (bytes : List ℕ) × (old ≡ prepend_known bytes new) × (length bytes ≤ n)

-- bytes came off the front of what is told as left, and stand now at the end of the list
abbrev pub MovesBytes : Option (List ℕ) → Option (List ℕ) → List ℕ → List ℕ → Type 0
MovesBytes old new before now = (bytes : List ℕ) × (old ≡ prepend_known bytes new) × (now ≡ before ++ bytes)

-- what is told as held grew by a prefix of the text, and by nothing else
abbrev pub TookPrefix : Option (List ℕ) → Option (List ℕ) → List ℕ → Type 0
TookPrefix old new text = (n : ℕ) × (n ≤ length text) × (new ≡ append_known old (take n text))
