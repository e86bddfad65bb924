-- What the pages of tables hold and keep.
use Rattle.std.proofs.Common.{◌≡◌, ◌<◌, ◌≤◌, ℕ, zero, suc, ◌+◌, ◌-◌, ◌*◌, ◌/◌, ◌%◌, Bool, true, false, not, ◌==◌, if◌then◌else◌, List, [], ◌∷◌, ◌++◌, length, take, refl, ap, ap₂, sym, ◌∙◌, subst, arith, Option, Some, None, inl, inr, ◌⊎◌, append_assoc}
use Rattle.std.specs.Prelude.{All, slice_range, slice_index, replicate, nat_le, ◌||◌, ◌&&◌}
use Rattle.std.proofs.lemmas.Bool.{false≢true, and_parts, leb-true}
use Rattle.std.proofs.lemmas.List.{length-append, length-replicate, take_at}
use Rattle.std.proofs.lemmas.List.Edits.{length-between, get_or-between}
use Rattle.std.proofs.lemmas.List.Elements.{All-append, All-replicate, All-get_or}
use Rattle.code_model.proofs.DistanceLemmas.{distance-same}
use Rattle.code_model.specs.Code.{code_512, parity_len}
use Rattle.nand_model.specs.Sizes.{parity_start, raw_len}
use Rattle.nand_model.specs.Layout.{has_sizes, has_room, steps_in}
use Rattle.nand_model.specs.Page.{decoded, page_image, encoded, Decoding, step_word}
use Rattle.nand_model.specs.Chip.{blank_page, good_program}
use Rattle.nand_model.specs.Table.{Copy, copy_in, copy_if, copy_under, copy_of_kind, kind_in, which_of, pattern, padded, table_bytes, table_layout, table_page, header_at, table_at, states_in, read_again}
use Rattle.nand_model.specs.Quiet.{is_quiet_table_page}
use Rattle.nand_model.proofs.Bounds.{bounds}
use Rattle.nand_model.specs.declared.geometry.Geometry.{Geometry}
use Rattle.nand_model.specs.declared.words.Which.{Which}
use Rattle.nand_model.specs.declared.words.Which.TheVariants.{Primary, Mirror}
use Rattle.ecc_page.specs.Written.{IsNearImage}
use Rattle.ecc_page.proofs.Parts.{slice-take}
use Rattle.ecc_page.proofs.PageLemmas.{parities-room}
use Rattle.ecc_page.proofs.WrittenLemmas.{slice-behind}
use Rattle.page_laws.specs.Keeping.{after_flips}
use Rattle.page_laws.proofs.Closeness.{written_flipped, near_by_flips, quiet_correctable, quiet_header, written_byte}
use Rattle.page_laws.proofs.Codec.{table_back, length-table, table-bytes, byte_before, no_bytes}
use Rattle.page_laws.proofs.Images.{slice_four, image-free, image-long, read-body, read-free, no_failure}

-- the header stands in the spare, or at the head of the body
pub header_in_spare : (g : Geometry) → (g.bbt == 1) ≡ true → header_at g ≡ g.page + 8
header_in_spare g one = ap (λ t. if t then g.page + 8 else 0) one

pub header_in_body : (g : Geometry) → (g.bbt == 1) ≡ false → header_at g ≡ 0
header_in_body g other = ap (λ t. if t then g.page + 8 else 0) other

table_in_spare : (g : Geometry) → (g.bbt == 1) ≡ true → table_at g ≡ 0
table_in_spare g one = ap (λ t. if t then 0 else 5) one

table_in_body : (g : Geometry) → (g.bbt == 1) ≡ false → table_at g ≡ 5
table_in_body g other = ap (λ t. if t then 0 else 5) other

-- the sizes of a chip
pub record Sized (g : Geometry) : Type 0 where
  pub whole_bytes : g.blocks ≡ 4 * (g.blocks / 4)
  pub fits : 5 + g.blocks / 4 ≤ g.page
  pub spare_room : 64 ≤ g.spare

sized_by : (page spare blocks : ℕ) → ((page ≡ 2048) × (spare ≡ 64)) ⊎ (((page ≡ 4096) × (spare ≡ 128)) ⊎ ((page ≡ 4096) × (spare ≡ 224))) → blocks ≤ 4096 → blocks % 4 ≡ 0
    → (blocks ≡ 4 * (blocks / 4)) × (5 + blocks / 4 ≤ page) × (64 ≤ spare)
sized_by page spare blocks (inl e) high even = let p = e.0 in let q = e.1 in (omega arith, omega arith, omega arith)
sized_by page spare blocks (inr (inl e)) high even = let p = e.0 in let q = e.1 in (omega arith, omega arith, omega arith)
sized_by page spare blocks (inr (inr e)) high even = let p = e.0 in let q = e.1 in (omega arith, omega arith, omega arith)

pub sized : (g : Geometry) → Sized g
sized g = let r = sized_by g.page g.spare g.blocks (bounds g).pages (bounds g).blocks_high (bounds g).blocks_even in record { whole_bytes = r.0; fits = r.1; spare_room = r.2 }

-- with a header in the spare there is room for it
header_room : (g : Geometry) → (g.bbt == 1) ≡ true → 13 ≤ parity_start g
header_room g one =
    let all = and_parts (has_sizes g.page g.spare g.pages_per_block g.blocks g.t g.bbt g.threshold && has_room (code_512 g.t) g.page g.spare g.bbt) (nat_le 1 g.threshold) g.in_bounds in
    let both = and_parts (has_sizes g.page g.spare g.pages_per_block g.blocks g.t g.bbt g.threshold) (has_room (code_512 g.t) g.page g.spare g.bbt) all.0 in
    let room = and_parts (nat_le (steps_in (code_512 g.t) g.page * parity_len (code_512 g.t) + 2) g.spare) (not (g.bbt == 1) || nat_le (steps_in (code_512 g.t) g.page * parity_len (code_512 g.t) + 13) g.spare) both.1 in
    let enough : steps_in (code_512 g.t) g.page * parity_len (code_512 g.t) + 13 ≤ g.spare = leb-true _ g.spare (on (g.bbt == 1) one room.1) in
    omega arith
  where
    on : (t : Bool) → t ≡ true → (not t || nat_le (steps_in (code_512 g.t) g.page * parity_len (code_512 g.t) + 13) g.spare) ≡ true → nat_le (steps_in (code_512 g.t) g.page * parity_len (code_512 g.t) + 13) g.spare ≡ true
    on true e h = h
    on false e h = absurd (false≢true e)

-- the kind that a pattern names
pattern_named : (which : Which) → which_of (pattern which) ≡ Some which
pattern_named Primary = refl
pattern_named Mirror = refl

pattern_four : (which : Which) → pattern which ≡ slice_index (pattern which) 0 ∷ slice_index (pattern which) 1 ∷ slice_index (pattern which) 2 ∷ slice_index (pattern which) 3 ∷ []
pattern_four Primary = refl
pattern_four Mirror = refl

pattern_long : (which : Which) → length (pattern which) ≡ 4
pattern_long Primary = refl
pattern_long Mirror = refl

pattern_bytes : (which : Which) → All (λ byte. byte < 256) (pattern which)
pattern_bytes Primary = byte_before 0x42 (0x62 ∷ 0x74 ∷ 0x30 ∷ []) (omega arith) (byte_before 0x62 (0x74 ∷ 0x30 ∷ []) (omega arith) (byte_before 0x74 (0x30 ∷ []) (omega arith) (byte_before 0x30 [] (omega arith) no_bytes)))
pattern_bytes Mirror = byte_before 0x31 (0x74 ∷ 0x62 ∷ 0x42 ∷ []) (omega arith) (byte_before 0x74 (0x62 ∷ 0x42 ∷ []) (omega arith) (byte_before 0x62 (0x42 ∷ []) (omega arith) (byte_before 0x42 [] (omega arith) no_bytes)))

padded_long : (n : ℕ) (bytes : List ℕ) → length bytes ≤ n → length (padded n bytes) ≡ n
padded_long n bytes h = length-append bytes (replicate (n - length bytes) 0xff) ∙ ap (λ k. length bytes + k) (length-replicate (n - length bytes) 0xff) ∙ omega (arith, h)

padded_bytes : (n : ℕ) (bytes : List ℕ) → All (λ byte. byte < 256) bytes → All (λ byte. byte < 256) (padded n bytes)
padded_bytes n bytes h = All-append (λ byte. byte < 256) bytes (replicate (n - length bytes) 0xff) h (All-replicate (λ byte. byte < 256) (n - length bytes) 0xff (omega arith))

-- a page made of a body and a spare, with its parities
module _ (g : Geometry) (body spare : List ℕ) (lb : length body ≡ g.page) (ls : length spare ≡ g.spare) where
  pub free_of : List ℕ
  free_of = slice_range spare 2 (parity_start g)

  pub free_long : 2 + length (slice_range spare 2 (parity_start g)) ≡ parity_start g
  free_long =
      let room = parities-room g in
      let long = length-between spare 2 (parity_start g) (omega (arith, room.1, ls)) in
      omega (arith, room.0, long)

  pub encoded_is : encoded g (body ++ spare) ≡ page_image g body (slice_range spare 2 (parity_start g))
  encoded_is = ap₂ (page_image g) (take_at body spare g.page lb) (slice-behind body spare g.page 2 (parity_start g) lb)

-- a table's body and spare
abbrev pub body_by : Bool → Geometry → Which → ℕ → List ℕ → List ℕ
body_by true g which version states = padded g.page (table_bytes states)
body_by false g which version states = padded g.page (pattern which ++ (version ∷ []) ++ table_bytes states)

abbrev pub spare_by : Bool → Geometry → Which → ℕ → List ℕ
spare_by true g which version = padded g.spare (replicate 8 0xff ++ pattern which ++ (version ∷ []))
spare_by false g which version = replicate g.spare 0xff

layout_is : (g : Geometry) (t : Bool) (which : Which) (version : ℕ) (states : List ℕ) → (g.bbt == 1) ≡ t
    → table_layout g which version states ≡ body_by t g which version states ++ spare_by t g which version
layout_is g true which version states e =
    ap (λ t. if t then padded g.page (table_bytes states) ++ padded g.spare (replicate 8 0xff ++ pattern which ++ (version ∷ [])) else padded g.page (pattern which ++ (version ∷ []) ++ table_bytes states) ++ replicate g.spare 0xff) e
layout_is g false which version states e =
    ap (λ t. if t then padded g.page (table_bytes states) ++ padded g.spare (replicate 8 0xff ++ pattern which ++ (version ∷ [])) else padded g.page (pattern which ++ (version ∷ []) ++ table_bytes states) ++ replicate g.spare 0xff) e

header_long : (which : Which) (version : ℕ) (rest : List ℕ) → length (pattern which ++ (version ∷ []) ++ rest) ≡ 5 + length rest
header_long Primary version rest = omega arith
header_long Mirror version rest = omega arith

header_bytes : (which : Which) (version : ℕ) (rest : List ℕ) → version < 256 → All (λ byte. byte < 256) rest → All (λ byte. byte < 256) (pattern which ++ (version ∷ []) ++ rest)
header_bytes Primary version rest small h = All-append (λ byte. byte < 256) (pattern Primary ++ (version ∷ [])) rest (All-append (λ byte. byte < 256) (pattern Primary) (version ∷ []) (pattern_bytes Primary) (byte_before version [] small no_bytes)) h
header_bytes Mirror version rest small h = All-append (λ byte. byte < 256) (pattern Mirror ++ (version ∷ [])) rest (All-append (λ byte. byte < 256) (pattern Mirror) (version ∷ []) (pattern_bytes Mirror) (byte_before version [] small no_bytes)) h

-- the bytes of a header in the spare
spare_header : (g : Geometry) (which : Which) (version j : ℕ) → j < 5 → slice_index (spare_by true g which version) (8 + j) ≡ slice_index (pattern which ++ (version ∷ [])) j
spare_header g Primary version zero h = refl
spare_header g Primary version (suc zero) h = refl
spare_header g Primary version (suc (suc zero)) h = refl
spare_header g Primary version (suc (suc (suc zero))) h = refl
spare_header g Primary version (suc (suc (suc (suc zero)))) h = refl
spare_header g Primary version (suc (suc (suc (suc (suc j))))) h = absurd (omega (arith, h))
spare_header g Mirror version zero h = refl
spare_header g Mirror version (suc zero) h = refl
spare_header g Mirror version (suc (suc zero)) h = refl
spare_header g Mirror version (suc (suc (suc zero))) h = refl
spare_header g Mirror version (suc (suc (suc (suc zero)))) h = refl
spare_header g Mirror version (suc (suc (suc (suc (suc j))))) h = absurd (omega (arith, h))

-- the head of a body with a header in it
body_header : (which : Which) (version : ℕ) (rest pad : List ℕ) → slice_range ((pattern which ++ (version ∷ []) ++ rest) ++ pad) 0 4 ≡ pattern which
body_header Primary version rest pad = refl
body_header Mirror version rest pad = refl

body_version : (which : Which) (version : ℕ) (rest pad : List ℕ) → slice_index ((pattern which ++ (version ∷ []) ++ rest) ++ pad) 4 ≡ version
body_version Primary version rest pad = refl
body_version Mirror version rest pad = refl

body_table : (which : Which) (version : ℕ) (rest pad : List ℕ) (n : ℕ) → length rest ≡ n → slice_range ((pattern which ++ (version ∷ []) ++ rest) ++ pad) 5 (5 + n) ≡ rest
body_table which version rest pad n long =
    ap (λ xs. slice_range xs 5 (5 + n)) (append_assoc (pattern which ++ (version ∷ [])) rest pad)
    ∙ slice-behind (pattern which ++ (version ∷ [])) (rest ++ pad) 5 0 n (five which)
    ∙ take_at rest pad (n - 0) (omega (arith, long))
  where
    five : (which : Which) → length (pattern which ++ (version ∷ [])) ≡ 5
    five Primary = refl
    five Mirror = refl

-- the copy of a kind in a decoded page with this header and this table
copy_by : (g : Geometry) (d : Decoding) (which : Which) (version : ℕ) (states : List ℕ) → d.failed ≡ 0 → slice_index d.image (header_at g + 4) ≡ version
    → slice_range d.image (table_at g) (table_at g + g.blocks / 4) ≡ table_bytes states → length states ≡ g.blocks
    → copy_of_kind g d (Some which) ≡ Some (record { which = which; version = version; states = read_again states })
copy_by g d which version states none v table long =
    let whole = (sized g).whole_bytes in
    ap (λ n. if n == 0 then Some (record { which = which; version = slice_index d.image (header_at g + 4); states = states_in (slice_range d.image (table_at g) (table_at g + g.blocks / 4)) }) else None) none
    ∙ ap₂ (λ v bytes. Some (record { which = which; version = v; states = states_in bytes })) v table
    ∙ ap (λ s. Some (record { which = which; version = version; states = s })) (table_back (g.blocks / 4) states (omega (arith, whole, long)))

module _ (g : Geometry) (which : Which) (version : ℕ) (states : List ℕ) (small : version < 256) (long : length states ≡ g.blocks) where
  abbrev the_copy : Option Copy
  the_copy = Some (record { which = which; version = version; states = read_again states })

  table_long : length (table_bytes states) ≡ g.blocks / 4
  table_long = let whole = (sized g).whole_bytes in length-table (g.blocks / 4) states (omega (arith, whole, long))

  body_long : (t : Bool) → length (body_by t g which version states) ≡ g.page
  body_long true = let fits = (sized g).fits in padded_long g.page (table_bytes states) (omega (arith, fits, table_long))
  body_long false = let fits = (sized g).fits in let head = header_long which version (table_bytes states) in padded_long g.page (pattern which ++ (version ∷ []) ++ table_bytes states) (omega (arith, fits, table_long, head))

  spare_long : (t : Bool) → length (spare_by t g which version) ≡ g.spare
  spare_long true =
      let room = (sized g).spare_room in
      let head : length (replicate 8 0xff ++ pattern which ++ (version ∷ [])) ≡ 13 = thirteen which in
      padded_long g.spare (replicate 8 0xff ++ pattern which ++ (version ∷ [])) (omega (arith, room, head))
    where
      thirteen : (which : Which) → length (replicate 8 0xff ++ pattern which ++ (version ∷ [])) ≡ 13
      thirteen Primary = refl
      thirteen Mirror = refl
  spare_long false = length-replicate g.spare 0xff

  bytes_of : (t : Bool) → All (λ byte. byte < 256) (body_by t g which version states)
  bytes_of true = padded_bytes g.page (table_bytes states) (table-bytes states)
  bytes_of false = padded_bytes g.page (pattern which ++ (version ∷ []) ++ table_bytes states) (header_bytes which version (table_bytes states) small (table-bytes states))

  module _ (t : Bool) (is_t : (g.bbt == 1) ≡ t) where
    abbrev body : List ℕ
    body = body_by t g which version states

    abbrev spare : List ℕ
    spare = spare_by t g which version

    abbrev free : List ℕ
    free = slice_range (spare_by t g which version) 2 (parity_start g)

    pub lb : length (body_by t g which version states) ≡ g.page
    lb = body_long t

    pub lf : 2 + length (slice_range (spare_by t g which version) 2 (parity_start g)) ≡ parity_start g
    lf = free_long g (body_by t g which version states) (spare_by t g which version) (body_long t) (spare_long t)

    pub page_is : table_page g which version states ≡ page_image g (body_by t g which version states) (slice_range (spare_by t g which version) 2 (parity_start g))
    page_is = ap (encoded g) (layout_is g t which version states is_t) ∙ encoded_is g (body_by t g which version states) (spare_by t g which version) (body_long t) (spare_long t)

    -- a page near the image holds the copy, where its header is the image's
    module _ (cells : List ℕ) (lc : length cells ≡ raw_len g) (near : IsNearImage g (page_image g (body_by t g which version states) (slice_range (spare_by t g which version) 2 (parity_start g))) cells)
        (header : t ≡ true → (j : ℕ) → j < 5 → slice_index cells (g.page + 8 + j) ≡ slice_index (pattern which ++ (version ∷ [])) j) where
      abbrev d : Decoding
      d = decoded g cells

      body_read : take g.page (decoded g cells).image ≡ body_by t g which version states
      body_read = read-body g (body_by t g which version states) free lb lf (bytes_of t) cells lc near

      none_failed : (decoded g cells).failed ≡ 0
      none_failed = no_failure g (body_by t g which version states) free lb lf (bytes_of t) cells lc near

      in_body : (a b : ℕ) → a ≤ b → b ≤ g.page → slice_range (decoded g cells).image a b ≡ slice_range (body_by t g which version states) a b
      in_body a b low high = sym (slice-take (decoded g cells).image a b g.page low high) ∙ ap (λ xs. slice_range xs a b) body_read

module _ (g : Geometry) (which : Which) (version : ℕ) (states : List ℕ) (small : version < 256) (long : length states ≡ g.blocks) where
  abbrev pub image_by : Bool → List ℕ
  image_by t = page_image g (body_by t g which version states) (slice_range (spare_by t g which version) 2 (parity_start g))

  pub copy_near : (t : Bool) (is_t : (g.bbt == 1) ≡ t) (cells : List ℕ) → length cells ≡ raw_len g → IsNearImage g (image_by t) cells
      → (t ≡ true → (j : ℕ) → j < 5 → slice_index cells (g.page + 8 + j) ≡ slice_index (pattern which ++ (version ∷ [])) j)
      → copy_in g cells ≡ Some (record { which = which; version = version; states = read_again states })
  copy_near true is_t cells lc near header =
      let head = header_in_spare g is_t in
      let room = header_room g is_t in
      let raw : g.page + 13 ≤ length cells = (let r = (sized g).spare_room in omega (arith, lc, r)) in
      let z : g.page + 8 + 0 ≡ g.page + 8 = omega arith in
      let kind : kind_in g cells ≡ Some which =
      ap (λ k. which_of (slice_range cells k (k + 4))) head
      ∙ ap which_of (slice_four (g.page + 8) cells (omega (arith, raw))
      ∙ ap₂ (λ p r. p ∷ r) (ap (slice_index cells) (sym z) ∙ header refl 0 (omega arith) ∙ first which)
      (ap₂ (λ p r. p ∷ r) (header refl 1 (omega arith) ∙ second which) (ap₂ (λ p r. p ∷ r) (header refl 2 (omega arith) ∙ third which) (ap (λ p. p ∷ []) (header refl 3 (omega arith) ∙ fourth which))))
      ∙ sym (pattern_four which)) ∙ pattern_named which in
      let twelve : g.page + 8 + 4 ≡ g.page + (8 + 4) = omega arith in
      let table = table_in_spare g is_t in
      let fits = (sized g).fits in
      ap (λ t. copy_if t g cells) is_t ∙ ap (copy_under g cells) kind
      ∙ copy_by g (decoded g cells) which version states (none_failed g which version states small long true is_t cells lc near header)
      (ap (λ k. slice_index (decoded g cells).image (k + 4)) head ∙ ap (slice_index (decoded g cells).image) twelve
      ∙ read-free g (body_by true g which version states) (slice_range (spare_by true g which version) 2 (parity_start g)) (lb g which version states small long true is_t) (lf g which version states small long true is_t) (bytes_of g which version states small long true) cells lc near (8 + 4) (omega (arith, room))
      ∙ ap (slice_index cells) (sym twelve) ∙ header refl 4 (omega arith) ∙ last which)
      (ap (λ k. slice_range (decoded g cells).image k (k + g.blocks / 4)) table
      ∙ in_body g which version states small long true is_t cells lc near header 0 (0 + g.blocks / 4) (omega arith) (omega (arith, fits))
      ∙ start (0 + g.blocks / 4) (omega arith)) long
    where
      first : (which : Which) → slice_index (pattern which ++ (version ∷ [])) 0 ≡ slice_index (pattern which) 0
      first Primary = refl
      first Mirror = refl

      second : (which : Which) → slice_index (pattern which ++ (version ∷ [])) 1 ≡ slice_index (pattern which) 1
      second Primary = refl
      second Mirror = refl

      third : (which : Which) → slice_index (pattern which ++ (version ∷ [])) 2 ≡ slice_index (pattern which) 2
      third Primary = refl
      third Mirror = refl

      fourth : (which : Which) → slice_index (pattern which ++ (version ∷ [])) 3 ≡ slice_index (pattern which) 3
      fourth Primary = refl
      fourth Mirror = refl

      last : (which : Which) → slice_index (pattern which ++ (version ∷ [])) 4 ≡ version
      last Primary = refl
      last Mirror = refl

      start : (n : ℕ) → n ≡ g.blocks / 4 → slice_range (padded g.page (table_bytes states)) 0 n ≡ table_bytes states
      start n e = take_at (table_bytes states) (replicate (g.page - length (table_bytes states)) 0xff) (n - 0) (omega (arith, e, table_long g which version states small long))
  copy_near false is_t cells lc near header =
      let head = header_in_body g is_t in
      let table = table_in_body g is_t in
      let fits = (sized g).fits in
      let pad : List ℕ = replicate (g.page - length (pattern which ++ (version ∷ []) ++ table_bytes states)) 0xff in
      let back = in_body g which version states small long false is_t cells lc near header in
      let kind : kind_in g (decoded g cells).image ≡ Some which =
      ap (λ k. which_of (slice_range (decoded g cells).image k (k + 4))) head
      ∙ ap which_of (back 0 4 (omega arith) (omega (arith, fits)) ∙ body_header which version (table_bytes states) pad) ∙ pattern_named which in
      ap (λ t. copy_if t g cells) is_t ∙ ap (copy_of_kind g (decoded g cells)) kind
      ∙ copy_by g (decoded g cells) which version states (none_failed g which version states small long false is_t cells lc near header)
      (ap (λ k. slice_index (decoded g cells).image (k + 4)) head ∙ sym (get_or-between (decoded g cells).image 4 5 0 0 (omega arith)) ∙ ap (λ xs. slice_index xs 0) (back 4 5 (omega arith) (omega (arith, fits)))
      ∙ get_or-between (body_by false g which version states) 4 5 0 0 (omega arith) ∙ body_version which version (table_bytes states) pad)
      (ap (λ k. slice_range (decoded g cells).image k (k + g.blocks / 4)) table ∙ back 5 (5 + g.blocks / 4) (omega arith) (omega (arith, fits))
      ∙ body_table which version (table_bytes states) pad (g.blocks / 4) (table_long g which version states small long)) long

  -- the bytes of the image's header
  pub image_header : (is_t : (g.bbt == 1) ≡ true) (j : ℕ) → j < 5 → slice_index (image_by true) (g.page + 8 + j) ≡ slice_index (pattern which ++ (version ∷ [])) j
  image_header is_t j h =
      let room = header_room g is_t in
      let free = lf g which version states small long true is_t in
      let place : g.page + 8 + j ≡ g.page + 2 + (6 + j) = omega arith in
      let in_spare : 2 + (6 + j) ≡ 8 + j = omega arith in
      ap (slice_index (image_by true)) place
      ∙ image-free g (body_by true g which version states) (slice_range (spare_by true g which version) 2 (parity_start g)) (lb g which version states small long true is_t) free (6 + j) (omega (arith, room, free, h))
      ∙ get_or-between (spare_by true g which version) 2 (parity_start g) (6 + j) 0 (omega (arith, room, h))
      ∙ ap (slice_index (spare_by true g which version)) in_spare ∙ spare_header g which version j h

  header_small : (j : ℕ) → j < 5 → slice_index (pattern which ++ (version ∷ [])) j < 256
  header_small j h = All-get_or (λ byte. byte < 256) (pattern which ++ (version ∷ [])) j 0 (five which) (header_bytes_alone which)
    where
      five : (which : Which) → j < length (pattern which ++ (version ∷ []))
      five Primary = h
      five Mirror = h

      header_bytes_alone : (which : Which) → All (λ byte. byte < 256) (pattern which ++ (version ∷ []))
      header_bytes_alone Primary = All-append (λ byte. byte < 256) (pattern Primary) (version ∷ []) (pattern_bytes Primary) (byte_before version [] small no_bytes)
      header_bytes_alone Mirror = All-append (λ byte. byte < 256) (pattern Mirror) (version ∷ []) (pattern_bytes Mirror) (byte_before version [] small no_bytes)

  pub image_raw : (t : Bool) (is_t : (g.bbt == 1) ≡ t) → length (image_by t) ≡ raw_len g
  image_raw t is_t = image-long g (body_by t g which version states) (slice_range (spare_by t g which version) 2 (parity_start g)) (lb g which version states small long t is_t) (lf g which version states small long t is_t)

  -- the image holds the copy, and a page that was erased and programmed with it keeps it
  pub image_holds : (t : Bool) (is_t : (g.bbt == 1) ≡ t) → copy_in g (image_by t) ≡ Some (record { which = which; version = version; states = read_again states })
  image_holds true is_t =
      copy_near true is_t (image_by true) (image_raw true is_t) (λ s below. let none = distance-same (step_word g (image_by true) s) in omega (arith, none)) (λ e j h. image_header is_t j h)
  image_holds false is_t =
      copy_near false is_t (image_by false) (image_raw false is_t) (λ s below. let none = distance-same (step_word g (image_by false) s) in omega (arith, none)) (λ e. absurd (false≢true e))

  pub image_kept : (t : Bool) (is_t : (g.bbt == 1) ≡ t) (before after : List ℕ)
      → is_quiet_table_page g (after_flips (good_program (after_flips (blank_page g) before) (image_by t)) after) ≡ true
      → copy_in g (after_flips (good_program (after_flips (blank_page g) before) (image_by t)) after).cells ≡ Some (record { which = which; version = version; states = read_again states })
  image_kept true is_t before after quiet =
      let page = after_flips (good_program (after_flips (blank_page g) before) (image_by true)) after in
      let close = written_flipped g (image_by true) before after in
      let room = (sized g).spare_room in
      copy_near true is_t page.cells close.whole (near_by_flips g (image_by true) page (image_raw true is_t) close (quiet_correctable g page quiet))
      (λ e j h. written_byte g (image_by true) before after (g.page + 8) (g.page + 13) (g.page + 8 + j) (omega arith) (omega (arith, h)) (omega (arith, room))
      (subst (λ b. b < 256) (sym (image_header is_t j h)) (header_small j h)) (quiet_header g page is_t quiet) ∙ image_header is_t j h)
  image_kept false is_t before after quiet =
      let page = after_flips (good_program (after_flips (blank_page g) before) (image_by false)) after in
      let close = written_flipped g (image_by false) before after in
      copy_near false is_t page.cells close.whole (near_by_flips g (image_by false) page (image_raw false is_t) close (quiet_correctable g page quiet)) (λ e. absurd (false≢true e))
