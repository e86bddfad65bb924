-- The steps of a page one by one: what is stored for a step, and what is read of it.
use Rattle.std.specs.Prelude.{ℕ, ◌+◌, ◌*◌, List, map, slice_range}
use Rattle.code_model.specs.Code.{code_512, nearest, parity_of, masked}
use Rattle.nand_model.specs.Page.{StepRead, read_as, received_word, step_body}
use Rattle.nand_model.specs.Sizes.{parity_bytes, step_count, numbers_from}
use Rattle.nand_model.specs.declared.geometry.Geometry.{Geometry}

-- the stored parity that completes a step's body: the mask is on, and padding bits are 1
abbrev pub parity_stored : ℕ → List ℕ → List ℕ
parity_stored t body = masked (code_512 t) (parity_of (code_512 t) body)

-- what is read of a step's body and stored parity by the nearest code word
abbrev pub read_of : ℕ → List ℕ → List ℕ → StepRead
read_of t body stored = read_as (code_512 t) body stored (nearest (code_512 t) (received_word (code_512 t) body stored))

-- the s-th of parities that stand one after the other
abbrev pub parity_at : Geometry → List ℕ → ℕ → List ℕ
parity_at g parities s = slice_range parities (s * parity_bytes g) ((s + 1) * parity_bytes g)

-- what is read of the s-th step of a body, beside the parities of all steps
abbrev pub read_at : Geometry → List ℕ → List ℕ → ℕ → StepRead
read_at g body parities s = read_of g.t (step_body g body s) (parity_at g parities s)

-- what is read of all steps of a body
abbrev pub reads_of : Geometry → List ℕ → List ℕ → List StepRead
reads_of g body parities = map (read_at g body parities) (numbers_from 0 (step_count g))
