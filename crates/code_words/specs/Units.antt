-- Steps of 1024 bytes with their stored parities, in a stream of units: what is stored for steps,
-- and the text of what is read of units.
use Rattle.std.specs.Prelude.{ℕ, zero, suc, ◌+◌, ◌/◌, List, [], ◌∷◌, ◌++◌, length, take, drop, flat_map, Option, Some, None, codes, decimal}
use Rattle.code_model.specs.Code.{code_1024, masked, nearest, parity_len, parity_of}
use Rattle.nand_model.specs.Page.{StepRead, read_as, received_word}
use Rattle.report_model.specs.Report.{line, rows_text}

-- the bytes of a unit: those of a step and of its stored parity
abbrev pub unit_bytes : ℕ → ℕ
unit_bytes t = 1024 + parity_len (code_1024 t)

-- n pieces of bytes, one after the other
abbrev pub pieces_of : ℕ → ℕ → List ℕ → List (List ℕ)
pieces_of size zero bytes = []
pieces_of size (suc n) bytes = take size bytes ∷ pieces_of size n (drop size bytes)

-- the whole pieces of bytes
abbrev pub pieces_in : ℕ → List ℕ → List (List ℕ)
pieces_in size bytes = pieces_of size (length bytes / size) bytes

-- a step followed by its stored parity
abbrev pub unit_of : ℕ → List ℕ → List ℕ
unit_of t step = step ++ masked (code_1024 t) (parity_of (code_1024 t) step)

-- all steps of the bytes, each followed by its stored parity
abbrev pub encoded : ℕ → List ℕ → List ℕ
encoded t bytes = flat_map (unit_of t) (pieces_in 1024 bytes)

-- what is read of a step and its stored parity by the nearest code word
abbrev pub read_of : ℕ → List ℕ → List ℕ → StepRead
read_of t step stored =
    read_as (code_1024 t) step stored (nearest (code_1024 t) (received_word (code_1024 t) step stored))

-- what is read of a unit
abbrev pub unit_read : ℕ → List ℕ → StepRead
unit_read t unit = read_of t (take 1024 unit) (drop 1024 unit)

-- how many bits were wrong, or that no code word is near
abbrev pub outcome_text : Option ℕ → List ℕ
outcome_text None = codes " failed"
outcome_text (Some n) = codes " corrected " ++ decimal n

-- the lines of unit number `at`: how it was read, and the rows of its step
abbrev pub unit_text : ℕ → StepRead → List ℕ
unit_text at read = line (codes "unit " ++ decimal at ++ outcome_text read.corrected) ++ rows_text read.body

-- the lines of units, the first of which has number `at`
abbrev pub units_text : ℕ → ℕ → List (List ℕ) → List ℕ
units_text t at [] = []
units_text t at (unit ∷ units) = unit_text at (unit_read t unit) ++ units_text t (at + 1) units

-- the lines of all units of the bytes, counted from 0
abbrev pub decoded : ℕ → List ℕ → List ℕ
decoded t bytes = units_text t 0 (pieces_in (unit_bytes t) bytes)
