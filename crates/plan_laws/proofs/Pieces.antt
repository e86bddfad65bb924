-- A piece of a word is read again from its text.
use Rattle.std.proofs.Common.{◌≡◌, ◌∙◌, ℕ, zero, suc, ◌/◌, ◌%◌, ◌^◌, ◌<◌, Bool, true, not, eqb, List, [], ◌∷◌, ◌++◌, length, map, Option, Some, None, Result, Ok, Err, inr, sym, ap, refl, subst, arith, append_assoc}
use Rattle.std.specs.Prelude.{◌&&◌, All, codes, decimal, slice_index}
use Rattle.std.specs.List.{list_all}
use Rattle.std.proofs.lemmas.Bool.{and_from, and_parts, agree_below_at}
use Rattle.std.proofs.lemmas.List.Folds.{list_all-append}
use Rattle.std.proofs.lemmas.List.Elements.{All-cons, All-nil, All-head, All-tail}
use Rattle.std.proofs.lemmas.Fmt.{decimal_is_IsNumeral}
use Rattle.hex.specs.Hex.{IsBytes, decode_of, decode_sized, encode_lower, encode_with, lower_digits}
use Rattle.hex.specs.declared.error.FromHexError.{FromHexError}
use Rattle.hex.proofs.HexLemmas.{decode_of-ok, decode_of-encode_lower, decode_sized-ok, decode_sized-twice, decode_sized-encode_lower}
use Rattle.plan_grammar.specs.declared.kind.PlanKind.TheVariants.{BadNumber}
use Rattle.plan_grammar.specs.declared.lines.Piece.{Piece}
use Rattle.plan_grammar.specs.declared.lines.Piece.TheVariants.{Fill, Seed, Hex}
use Rattle.plan_grammar.specs.Forms.{number, halves, after_front, one_byte, byte_of, decoded_bytes, fill_piece, seed_piece, hex_piece, piece_by_front, piece, pieces}
use Rattle.plan_grammar.specs.Canonical.{piece_text}
use Rattle.plan_laws.proofs.Steps.{kept, found, step, there_step, ok_same}
use Rattle.plan_laws.proofs.Words.{is_letter, is_word}
use Rattle.plan_laws.proofs.Numbers.{number_fits, number_again, digits_letters}
use Rattle.plan_laws.proofs.Separators.{lacks, halves_again, decimal_lacks}

-- a piece that a plan may have
abbrev pub IsPiece : Piece → Type 0
IsPiece (Fill byte len) = (byte < 256) × (len < 2 ^ 64)
IsPiece (Seed seed len) = (seed < 2 ^ 64) × (len < 2 ^ 64)
IsPiece (Hex bytes) = IsBytes bytes

decoded_some : (r : Result (List ℕ) FromHexError) (bytes : List ℕ) → decoded_bytes r ≡ Some bytes → r ≡ Ok bytes
decoded_some (Ok bs) bytes e = let same : bs ≡ bytes = cc e in ap (λ (xs : List ℕ). Ok xs) same
decoded_some (Err k) bytes e = absurd (cc e)

one_some : (r : Result (List ℕ) FromHexError) (byte : ℕ) → one_byte r ≡ Some byte → r ≡ Ok (byte ∷ [])
one_some (Ok []) byte e = absurd (cc e)
one_some (Ok (b ∷ [])) byte e = let same : b ≡ byte = cc e in ap (λ n. Ok (n ∷ [])) same
one_some (Ok (b ∷ c ∷ bs)) byte e = absurd (cc e)
one_some (Err k) byte e = absurd (cc e)

byte_kept : (digits : List ℕ) (byte : ℕ) → byte_of digits ≡ Some byte → byte < 256
unfolding byte_of
byte_kept digits byte e =
    let sized = one_some (decode_sized digits 1) byte e in
    let two = decode_sized-ok digits 1 (byte ∷ []) sized in
    let whole = decode_of-ok digits (byte ∷ []) (sym (decode_sized-twice digits 1 two) ∙ sized) in
    whole.3 0

one_is_bytes : (byte : ℕ) → byte < 256 → IsBytes (byte ∷ [])
one_is_bytes byte h zero = h
one_is_bytes byte h (suc i) = omega arith

byte_again : (byte : ℕ) → byte < 256 → byte_of (encode_lower (byte ∷ [])) ≡ Some byte
unfolding byte_of
byte_again byte h = ap one_byte (decode_sized-encode_lower (byte ∷ []) 1 refl (one_is_bytes byte h))

fill_kept : (text : List ℕ) (p : Piece) → fill_piece text ≡ Ok p → IsPiece p
unfolding fill_piece
fill_kept text p e =
    let one = found (halves 58 text) BadNumber _ p e in
    let two = found (byte_of one.value.0) BadNumber _ p one.further in
    let three = kept (number one.value.1) _ p two.further in
    subst IsPiece (ok_same (Fill two.value three.value) p three.further)
    (byte_kept one.value.0 two.value two.is, number_fits one.value.1 three.value three.is)

seed_kept : (text : List ℕ) (p : Piece) → seed_piece text ≡ Ok p → IsPiece p
unfolding seed_piece
seed_kept text p e =
    let one = found (halves 58 text) BadNumber _ p e in
    let two = kept (number one.value.0) _ p one.further in
    let three = kept (number one.value.1) _ p two.further in
    subst IsPiece (ok_same (Seed two.value three.value) p three.further)
    (number_fits one.value.0 two.value two.is, number_fits one.value.1 three.value three.is)

hex_kept : (text : List ℕ) (p : Piece) → hex_piece text ≡ Ok p → IsPiece p
unfolding hex_piece
hex_kept text p e =
    let one = found (decoded_bytes (decode_of text)) BadNumber _ p e in
    subst IsPiece (ok_same (Hex one.value) p one.further)
    (decode_of-ok text one.value (decoded_some (decode_of text) one.value one.is)).3

piece_by : (fill seed hex : Option (List ℕ)) (p : Piece) → piece_by_front fill seed hex ≡ Ok p → IsPiece p
piece_by (Some text) seed hex p e = fill_kept text p e
piece_by None (Some text) hex p e = seed_kept text p e
piece_by None None (Some text) p e = hex_kept text p e
piece_by None None None p e = absurd (cc e)

pub piece_kept : (w : List ℕ) (p : Piece) → piece w ≡ Ok p → IsPiece p
unfolding piece
piece_kept w p e = piece_by (after_front (codes "fill:") w) (after_front (codes "seed:") w) (after_front (codes "hex:") w) p e

-- hexadecimal digits are letters, and no colons
digit_letter : (d : ℕ) → d < 16 → (is_letter (slice_index lower_digits d) && not (eqb (slice_index lower_digits d) 58)) ≡ true
digit_letter d h =
    agree_below_at (λ d. is_letter (slice_index lower_digits d) && not (eqb (slice_index lower_digits d) 58)) (λ d. true) 16 d refl h

abbrev is_hex_byte : ℕ → Bool
is_hex_byte b = is_letter b && not (eqb b 58)

encoded_letters : (bytes : List ℕ) → IsBytes bytes → list_all is_hex_byte (encode_lower bytes) ≡ true
unfolding encode_with
encoded_letters [] h = refl
encoded_letters (b ∷ bytes) h =
    let fits : b < 256 = h 0 in
    and_from (is_hex_byte (slice_index lower_digits (b / 16))) _ (digit_letter (b / 16) (omega (arith, fits)))
    (and_from (is_hex_byte (slice_index lower_digits (b % 16))) _ (digit_letter (b % 16) (omega arith))
    (encoded_letters bytes (λ i. h (suc i))))

all_left : (bytes : List ℕ) → list_all is_hex_byte bytes ≡ true → list_all is_letter bytes ≡ true
all_left [] h = refl
all_left (b ∷ bs) h =
    let parts = and_parts (is_hex_byte b) (list_all is_hex_byte bs) h in
    and_from (is_letter b) (list_all is_letter bs) (and_parts (is_letter b) (not (eqb b 58)) parts.0).0 (all_left bs parts.1)

all_right : (bytes : List ℕ) → list_all is_hex_byte bytes ≡ true → lacks 58 bytes ≡ true
all_right [] h = refl
all_right (b ∷ bs) h =
    let parts = and_parts (is_hex_byte b) (list_all is_hex_byte bs) h in
    and_from (not (eqb b 58)) (lacks 58 bs) (and_parts (is_letter b) (not (eqb b 58)) parts.0).1 (all_right bs parts.1)

digits_front : (front first second : List ℕ) → front ++ first ++ codes ":" ++ second ≡ front ++ (first ++ 58 ∷ second)
digits_front front first second = append_assoc (front ++ first) (codes ":") second ∙ append_assoc front first (58 ∷ second)

fill_front : (text : List ℕ) → after_front (codes "fill:") (codes "fill:" ++ text) ≡ Some text
unfolding after_front
fill_front text = refl

no_fill_front : (text : List ℕ) → after_front (codes "fill:") (codes "seed:" ++ text) ≡ None
unfolding after_front
no_fill_front text = refl

seed_front : (text : List ℕ) → after_front (codes "seed:") (codes "seed:" ++ text) ≡ Some text
unfolding after_front
seed_front text = refl

hex_fronts : (text : List ℕ) → (after_front (codes "fill:") (codes "hex:" ++ text) ≡ None)
    × (after_front (codes "seed:") (codes "hex:" ++ text) ≡ None)
    × (after_front (codes "hex:") (codes "hex:" ++ text) ≡ Some text)
unfolding after_front
hex_fronts text = (refl, refl, refl)

fill_again : (byte len : ℕ) → byte < 256 → len < 2 ^ 64 →
    fill_piece (encode_lower (byte ∷ []) ++ 58 ∷ decimal len) ≡ Ok (Fill byte len)
unfolding fill_piece
fill_again byte len h k =
    let digits : List ℕ = encode_lower (byte ∷ []) in
    there_step (halves 58 (digits ++ 58 ∷ decimal len)) BadNumber _ (digits, decimal len) (Fill byte len)
    (halves_again 58 digits (decimal len) (all_right digits (encoded_letters (byte ∷ []) (one_is_bytes byte h)))
    (decimal_lacks 58 len (inr (omega arith)) k) refl)
    (there_step (byte_of digits) BadNumber _ byte (Fill byte len) (byte_again byte h)
    (step (number (decimal len)) _ len (Fill byte len) (number_again len k) refl))

seed_again : (seed len : ℕ) → seed < 2 ^ 64 → len < 2 ^ 64 → seed_piece (decimal seed ++ 58 ∷ decimal len) ≡ Ok (Seed seed len)
unfolding seed_piece
seed_again seed len h k =
    there_step (halves 58 (decimal seed ++ 58 ∷ decimal len)) BadNumber _ (decimal seed, decimal len) (Seed seed len)
    (halves_again 58 (decimal seed) (decimal len) (decimal_lacks 58 seed (inr (omega arith)) h)
    (decimal_lacks 58 len (inr (omega arith)) k) refl)
    (step (number (decimal seed)) _ seed (Seed seed len) (number_again seed h)
    (step (number (decimal len)) _ len (Seed seed len) (number_again len k) refl))

hex_again : (bytes : List ℕ) → IsBytes bytes → hex_piece (encode_lower bytes) ≡ Ok (Hex bytes)
unfolding hex_piece
hex_again bytes h =
    there_step (decoded_bytes (decode_of (encode_lower bytes))) BadNumber _ bytes (Hex bytes)
    (ap decoded_bytes (decode_of-encode_lower bytes h)) refl

pub piece_again : (p : Piece) → IsPiece p → piece (piece_text p) ≡ Ok p
unfolding piece
piece_again (Fill byte len) h =
    let text : List ℕ = encode_lower (byte ∷ []) ++ 58 ∷ decimal len in
    ap piece (digits_front (codes "fill:") (encode_lower (byte ∷ [])) (decimal len))
    ∙ rw (fill_front text) (fill_again byte len h.0 h.1)
piece_again (Seed seed len) h =
    let text : List ℕ = decimal seed ++ 58 ∷ decimal len in
    ap piece (digits_front (codes "seed:") (decimal seed) (decimal len))
    ∙ rw (no_fill_front text, seed_front text) (seed_again seed len h.0 h.1)
piece_again (Hex bytes) h =
    let fronts = hex_fronts (encode_lower bytes) in
    rw (fronts.0, fronts.1, fronts.2) (hex_again bytes h)

decimal_letters : (n : ℕ) → n < 2 ^ 64 → list_all is_letter (decimal n) ≡ true
decimal_letters n h = digits_letters (decimal n) (decimal_is_IsNumeral n h).0.1

-- the text of a piece is a word
pub piece_word : (p : Piece) → IsPiece p → is_word (piece_text p) ≡ true
piece_word (Fill byte len) h =
    let digits : List ℕ = encode_lower (byte ∷ []) in
    ap is_word (digits_front (codes "fill:") digits (decimal len))
    ∙ list_all-append is_letter digits (58 ∷ decimal len)
    ∙ and_from (list_all is_letter digits) (list_all is_letter (58 ∷ decimal len))
    (all_left digits (encoded_letters (byte ∷ []) (one_is_bytes byte h.0))) (decimal_letters len h.1)
piece_word (Seed seed len) h =
    ap is_word (digits_front (codes "seed:") (decimal seed) (decimal len))
    ∙ list_all-append is_letter (decimal seed) (58 ∷ decimal len)
    ∙ and_from (list_all is_letter (decimal seed)) (list_all is_letter (58 ∷ decimal len))
    (decimal_letters seed h.0) (decimal_letters len h.1)
piece_word (Hex bytes) h = all_left (encode_lower bytes) (encoded_letters bytes h)

-- pieces of all words
pub pieces_kept : (words : List (List ℕ)) (ps : List Piece) → pieces words ≡ Ok ps →
    All IsPiece ps × (length ps ≡ length words)
unfolding pieces
pieces_kept [] ps e =
    let same : [] ≡ ps = ok_same [] ps e in
    (subst (All IsPiece) same (All-nil IsPiece), ap length (sym same))
pieces_kept (w ∷ words) ps e =
    let one = kept (piece w) _ ps e in
    let two = kept (pieces words) _ ps one.further in
    let same : one.value ∷ two.value ≡ ps = ok_same (one.value ∷ two.value) ps two.further in
    let others = pieces_kept words two.value two.is in (
      subst (All IsPiece) same (All-cons IsPiece one.value two.value (piece_kept w one.value one.is) others.0),
      ap length (sym same) ∙ ap suc others.1,
    )

pub pieces_again : (ps : List Piece) → All IsPiece ps → pieces (map piece_text ps) ≡ Ok ps
unfolding pieces
pieces_again [] h = refl
pieces_again (p ∷ ps) h =
    step (piece (piece_text p)) _ p (p ∷ ps) (piece_again p (All-head IsPiece p ps h))
    (step (pieces (map piece_text ps)) _ ps (p ∷ ps) (pieces_again ps (All-tail IsPiece p ps h)) refl)

pub pieces_words : (ps : List Piece) → All IsPiece ps → list_all is_word (map piece_text ps) ≡ true
pieces_words [] h = refl
pieces_words (p ∷ ps) h =
    and_from (is_word (piece_text p)) (list_all is_word (map piece_text ps)) (piece_word p (All-head IsPiece p ps h))
    (pieces_words ps (All-tail IsPiece p ps h))
