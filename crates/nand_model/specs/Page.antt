-- A page with its steps, words and parities (the large-page layout of nand_base), and what a read
-- of it decodes.
use Rattle.std.specs.Prelude.{ℕ, ◌+◌, ◌*◌, ◌<◌, max, List, [], ◌∷◌, ◌++◌, map, take, drop, flat_map, sum_by, count_by, fold, slice_range, Option, Some, None, is_none, unwrap_or, slice_index, ◌==◌, nat_le, if◌then◌else◌, ◌-◌, replicate, ◌≡◌, length, All}
use Rattle.code_model.specs.Bits.{bits_of, bytes_of_bits}
use Rattle.code_model.specs.Code.{Code, body_bits, parity_bits, IsCodeWord, nearest, parity_of, masked}
use Rattle.nand_model.specs.Sizes.{code_of, step_count, parity_bytes, parity_start, numbers_from}
use Rattle.nand_model.specs.declared.geometry.Geometry.{Geometry}
use Rattle.nand_model.specs.declared.words.PageKind.{PageKind}
use Rattle.nand_model.specs.declared.words.PageKind.TheVariants.{Clean, Bitflips, Uncorrectable}

-- the body of a step in a page
abbrev pub step_body : Geometry → List ℕ → ℕ → List ℕ
step_body g cells s = slice_range cells ((code_of g).step_bytes * s) ((code_of g).step_bytes * (s + 1))

-- the stored parity of a step, padding bits too
abbrev pub stored_parity : Geometry → List ℕ → ℕ → List ℕ
stored_parity g cells s =
    slice_range cells (g.page + parity_start g + s * parity_bytes g) (g.page + parity_start g + (s + 1) * parity_bytes
    g)

-- the word of a step: its body bits and the parity bits as they are stored; no padding bit belongs
-- to it
abbrev pub step_word : Geometry → List ℕ → ℕ → List ℕ
step_word g cells s =
    bits_of (step_body g cells s) ++ take (parity_bits (code_of g)) (bits_of (stored_parity g cells s))

-- the word that a decoder is given: the mask is taken off the stored parity
abbrev pub received_word : Code → List ℕ → List ℕ → List ℕ
received_word code body stored = bits_of body ++ take (parity_bits code) (bits_of (masked code stored))

-- each step of the page, with the mask taken off, is a code word
abbrev pub IsWhole : Geometry → List ℕ → Type 0
IsWhole g cells = (s : ℕ) → s < step_count g
    → IsCodeWord (code_of g) (received_word (code_of g) (step_body g cells s) (stored_parity g cells s))

-- the page of a body and free bytes: the marker bytes are 0xFF, and each parity completes its step,
-- with padding bits 1
abbrev pub page_image : Geometry → List ℕ → List ℕ → List ℕ
page_image g body free =
    body ++ (0xff ∷ 0xff ∷ []) ++ free
    ++ flat_map (λ s. masked (code_of g) (parity_of (code_of g) (step_body g body s))) (numbers_from 0 (step_count g))

-- the free bytes of a page
abbrev pub free_bytes : Geometry → List ℕ → List ℕ
free_bytes g cells = slice_range cells (g.page + 2) (g.page + parity_start g)

-- a page with marker bytes and parities put right, and all else as it was
abbrev pub encoded : Geometry → List ℕ → List ℕ
encoded g cells = page_image g (take g.page cells) (free_bytes g cells)

-- what the decoding of a step gives: its body and stored parity, and the number of bits put right,
-- or nothing where it failed
pub record StepRead : Type 0 where
  pub body : List ℕ
  pub parity : List ℕ
  pub corrected : Option ℕ

-- a code word's bits in body and parity, with the mask put back and the padding as it was received
abbrev pub read_as : Code → List ℕ → List ℕ → Option (List ℕ × ℕ) → StepRead
read_as code body stored None = record { body = body; parity = stored; corrected = None }
read_as code body stored (Some (word, n)) =
    record {
      body = bytes_of_bits (take (body_bits code) word);
      parity = masked code (bytes_of_bits (drop (body_bits code) word
          ++ drop (parity_bits code) (bits_of (masked code stored))));
      corrected = Some n;
    }

-- the decoding of one step of a page
abbrev pub step_read : Geometry → List ℕ → ℕ → StepRead
step_read g cells s =
    read_as (code_of g) (step_body g cells s) (stored_parity g cells s)
    (nearest (code_of g) (received_word (code_of g) (step_body g cells s) (stored_parity g cells s)))

-- the decoding of a page
pub record Decoding : Type 0 where
  pub image : List ℕ
  pub corrected : ℕ
  pub greatest : ℕ
  pub failed : ℕ

-- the page of these steps: all bytes that belong to no step are as they were
abbrev pub decoding_of : Geometry → List ℕ → List StepRead → Decoding
decoding_of g cells reads =
    record {
      image = flat_map (λ (r : StepRead). r.body) reads ++ slice_range cells g.page (g.page + parity_start g)
          ++ flat_map (λ (r : StepRead). r.parity) reads;
      corrected = sum_by (λ (r : StepRead). unwrap_or r.corrected 0) reads;
      greatest = fold (λ n (r : StepRead). max n (unwrap_or r.corrected 0)) 0 reads;
      failed = count_by (λ (r : StepRead). is_none r.corrected) reads;
    }

-- each step decoded by the nearest code word
abbrev pub decoded : Geometry → List ℕ → Decoding
decoded g cells = decoding_of g cells (map (step_read g cells) (numbers_from 0 (step_count g)))

-- the marker byte of a block's first page: spare byte 0
abbrev pub marker_byte : Geometry → List ℕ → ℕ
marker_byte g cells = slice_index cells g.page

-- what a decoded read is called: uncorrectable where a step failed, bitflips from the threshold on
abbrev pub kind_of : Geometry → Decoding → PageKind
kind_of g d = if d.failed == 0 then (if nat_le g.threshold d.greatest then Bitflips else Clean) else Uncorrectable

-- the image that marks a block: 0x00 in spare byte 0, and 0xFF elsewhere
abbrev pub marker_image : Geometry → List ℕ
marker_image g = replicate g.page 0xff ++ 0 ∷ replicate (g.spare - 1) 0xff

-- a body and free bytes that fill their places in a page
pub record FillsPlaces (g : Geometry) (body free : List ℕ) : Type 0 where
  pub body_length : length body ≡ g.page
  pub free_length : 2 + length free ≡ parity_start g

-- bytes that fill their places in a page
pub record FillsPage (g : Geometry) (body free : List ℕ) : Type 0 where
  pub places : FillsPlaces g body free
  pub body_bytes : All (λ byte. byte < 256) body
  pub free_bytes : All (λ byte. byte < 256) free
