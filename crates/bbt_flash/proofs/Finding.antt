-- The copies that are found, in the list of those that candidates hold.
use Rattle.std.proofs.Common.{◌≡◌, ℕ, ◌<◌, ◌≤◌, inl, inr, Bool, true, false, cond, not, List, [], ◌∷◌, length, Option, Some, None, find, position, option_map, refl, ap, sym, ◌∙◌, arith}
use Rattle.std.specs.Prelude.{◌&&◌, ◌||◌, IfSome, nat_lt, slice_get}
use Rattle.std.specs.List.{list_any, position_or_len}
use Rattle.std.proofs.lemmas.Bool.{cases_lt, cond-false, cond-true, le-ltb, lt-ltb}
use Rattle.std.proofs.lemmas.List.Folds.{find_at}
use Rattle.std.proofs.lemmas.List.Quantifiers.{position-Some}
use Rattle.std.proofs.lemmas.Option.{slice_get_past}
use Rattle.nand_model.specs.Table.{Copy, same_which}
use Rattle.chip_paths.specs.Copies.{found_among, is_disowned, is_valid}
use Rattle.nand_model.specs.declared.words.Which.{Which}
use Rattle.nand_model.specs.declared.words.Which.TheVariants.{Primary}
use Rattle.bbt_flash.specs.Held.{calls_other_bad, copies_of, copy_at, held_copy, is_valid_held}
use Rattle.bbt_flash.specs.declared.held.Held.{Held}

disowned-copies : (helds : List Held) (block : ℕ) → list_any (calls_other_bad block) helds ≡ is_disowned (copies_of helds) block
disowned-copies [] block = refl
disowned-copies (held ∷ helds) block = ap (λ b. calls_other_bad block held || b) (disowned-copies helds block)

valid-copies : (helds : List Held) (which : Which) (held : Held) → is_valid_held helds which held ≡ is_valid (copies_of helds) which (held_copy held)
valid-copies helds which held = ap (λ b. same_which held.which which && not b) (disowned-copies helds held.block)

-- the first that passes a test, in the list of the copies
find-copies : (test : Held → Bool) (too : (ℕ × Copy) → Bool) → ((held : Held) → test held ≡ too (held_copy held)) → (helds : List Held)
    → option_map held_copy (find test helds) ≡ find too (copies_of helds)
find-copies test too same [] = refl
find-copies test too same (held ∷ helds) =
    ap (λ b. option_map held_copy (cond b (Some held) (find test helds))) (same held) ∙ on (find-copies test too same helds) (too (held_copy held))
  where
    on : option_map held_copy (find test helds) ≡ find too (copies_of helds) → (b : Bool)
        → option_map held_copy (cond b (Some held) (find test helds)) ≡ cond b (Some (held_copy held)) (find too (copies_of helds))
    on later true = refl
    on later false = later

copy-at-position : (test : Held → Bool) (helds : List Held) → copy_at helds (position test helds) ≡ option_map held_copy (find test helds)
copy-at-position test helds =
    let n = position_or_len test helds in
    elim (cases_lt (position_or_len test helds) (length helds)) [
      | inl low ↦
          ap (copy_at helds) (cond-true (nat_lt n (length helds)) (Some n) None (lt-ltb n (length helds) low))
          ∙ sym (ap (option_map held_copy) (find_at test helds))
      | inr past ↦
          ap (copy_at helds) (cond-false (nat_lt n (length helds)) (Some n) None (le-ltb n (length helds) past))
          ∙ sym (ap (option_map held_copy) (find_at test helds ∙ slice_get_past helds n past))
    ]

module _ (helds : List Held) (which : Which) where
  -- the place of a found copy
  pub found-copy : (place : Option ℕ) → place ≡ position (is_valid_held helds which) helds → copy_at helds place ≡ found_among (copies_of helds) which
  found-copy place e =
      ap (copy_at helds) e ∙ copy-at-position (is_valid_held helds which) helds
      ∙ find-copies (is_valid_held helds which) (is_valid (copies_of helds) which) (valid-copies helds which) helds

  pub found-within : (place : Option ℕ) → place ≡ position (is_valid_held helds which) helds → IfSome place (λ n. n < length helds)
  found-within None e = tt
  found-within (Some n) e =
      let none : Held = record { block = 0; which = Primary; version = 0; table = [] } in
      (position-Some (is_valid_held helds which) helds n none (sym e)).0
