-- The first line of bytes, and the bytes that follow it.
use Rattle.std.proofs.Common.{◌≡◌, ◌∙◌, ℕ, zero, suc, ◌+◌, ◌≤◌, ◌<◌, Bool, true, false, not, List, [], ◌∷◌, length, take, drop, sym, ap, refl, arith}
use Rattle.std.proofs.lemmas.Bool.{cond-true, cond-false}
use Rattle.std.proofs.lemmas.List.{length-take, length-drop, take_all, drop_all}
use Rattle.std.specs.Prelude.{if◌then◌else◌}
use Rattle.bus_script.specs.Reading.{BeginsTooLong, IsFirstLine}
use Rattle.lab_text.specs.Text.{is_line_feed, line_length, lines_of, longest_line, with_byte}

feed_by : (c : Bool) (b : ℕ) (bs : List ℕ) → is_line_feed b ≡ c → line_length (b ∷ bs) ≡ (if c then 0 else suc (line_length bs))
feed_by true b bs e = cond-false (not (is_line_feed b)) (1 + line_length bs) 0 (ap not e)
feed_by false b bs e = cond-true (not (is_line_feed b)) (1 + line_length bs) 0 (ap not e) ∙ (let one : 1 + line_length bs ≡ suc (line_length bs) = omega arith in one)

line_within : (bytes : List ℕ) → line_length bytes ≤ length bytes
line_within [] = omega arith
line_within (b ∷ bs) = by (is_line_feed b) (feed_by (is_line_feed b) b bs refl) (line_within bs)
  where
    by : (c : Bool) → line_length (b ∷ bs) ≡ (if c then 0 else suc (line_length bs)) → line_length bs ≤ length bs → line_length (b ∷ bs) ≤ length (b ∷ bs)
    by true e h = omega (arith, e)
    by false e h = omega (arith, e, h)

-- a text that is not empty begins with its first line
split_by : (c : Bool) (b : ℕ) (bs : List ℕ) → is_line_feed b ≡ c →
    (0 < length bs → lines_of bs ≡ take (line_length bs) bs ∷ lines_of (drop (suc (line_length bs)) bs)) →
    lines_of (b ∷ bs) ≡ take (line_length (b ∷ bs)) (b ∷ bs) ∷ lines_of (drop (suc (line_length (b ∷ bs))) (b ∷ bs))
split_by true b bs e more =
    cond-true (is_line_feed b) ([] ∷ lines_of bs) (with_byte b (lines_of bs)) e
    ∙ ap (λ n. take n (b ∷ bs) ∷ lines_of (drop (suc n) (b ∷ bs))) (sym (feed_by true b bs e))
split_by false b [] e more =
    cond-false (is_line_feed b) ([] ∷ []) ((b ∷ []) ∷ []) e
    ∙ ap (λ n. take n (b ∷ []) ∷ lines_of (drop (suc n) (b ∷ []))) (sym (feed_by false b [] e))
split_by false b (next ∷ bs) e more =
    cond-false (is_line_feed b) ([] ∷ lines_of (next ∷ bs)) (with_byte b (lines_of (next ∷ bs))) e
    ∙ ap (with_byte b) (more (omega arith))
    ∙ ap (λ n. take n (b ∷ next ∷ bs) ∷ lines_of (drop (suc n) (b ∷ next ∷ bs))) (sym (feed_by false b (next ∷ bs) e))

split_first : (bytes : List ℕ) → 0 < length bytes → lines_of bytes ≡ take (line_length bytes) bytes ∷ lines_of (drop (suc (line_length bytes)) bytes)
split_first [] some = absurd (omega (arith, some))
split_first (b ∷ bs) some = split_by (is_line_feed b) b bs refl (split_first bs)

-- the first line ends with an LF, or with the text
pub first_ended : (bytes : List ℕ) (end : ℕ) → end ≡ line_length bytes → line_length bytes ≤ longest_line → end < length bytes →
    IsFirstLine bytes (take end bytes) (drop (end + 1) bytes)
first_ended bytes end e short within =
    let place : suc (line_length bytes) ≡ end + 1 = omega (arith, e) in
    record {
      lines = split_first bytes (omega (arith, within)) ∙ ap (λ n. take n bytes ∷ lines_of (drop (suc (line_length bytes)) bytes)) (sym e)
          ∙ ap (λ n. take end bytes ∷ lines_of (drop n bytes)) place;
      short = omega (arith, length-take end bytes, e, short);
      shorter = omega (arith, length-drop (end + 1) bytes, within);
    }

pub first_last : (bytes : List ℕ) (end : ℕ) → end ≡ line_length bytes → line_length bytes ≤ longest_line → length bytes ≤ end → 0 < length bytes →
    IsFirstLine bytes bytes []
first_last bytes end e short past some =
    let whole : take (line_length bytes) bytes ≡ bytes = take_all (line_length bytes) bytes (omega (arith, e, past)) in
    let none : drop (suc (line_length bytes)) bytes ≡ [] = drop_all (suc (line_length bytes)) bytes (omega (arith, e, past)) in
    let within = line_within bytes in
    record {
      lines = split_first bytes some ∙ ap (λ l. l ∷ lines_of (drop (suc (line_length bytes)) bytes)) whole
          ∙ ap (λ l. bytes ∷ lines_of l) none;
      short = omega (arith, e, short, past);
      shorter = some;
    }

-- the first line is too long
pub first_too_long : (bytes : List ℕ) → 0 < length bytes → longest_line < line_length bytes → BeginsTooLong bytes
first_too_long bytes some long = record {
  first = take (line_length bytes) bytes;
  others = lines_of (drop (suc (line_length bytes)) bytes);
  lines = split_first bytes some;
  long = omega (arith, length-take (line_length bytes) bytes, line_within bytes, long);
}
