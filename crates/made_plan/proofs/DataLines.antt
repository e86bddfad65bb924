-- The lines of data are read.
use Rattle.std.proofs.Common.{◌≡◌, ℕ, suc, ◌+◌, ◌%◌, ◌^◌, ◌≤◌, ◌<◌, true, false, List, [], ◌∷◌, ◌++◌, map, refl, subst, arith}
use Rattle.std.specs.Prelude.{◌&&◌, is_some, sum_by}
use Rattle.std.specs.Fmt.{digits}
use Rattle.std.proofs.lemmas.List.Elements.{All-cons, All-nil}
use Rattle.nand_model.specs.Sizes.{numbers_from}
use Rattle.plan_grammar.specs.declared.words.LineKind.TheVariants.{Data}
use Rattle.plan_grammar.specs.declared.lines.PlanLines.{PlanLines}
use Rattle.plan_grammar.specs.declared.lines.DataLine.{DataLine}
use Rattle.plan_grammar.specs.declared.lines.Piece.TheVariants.{Seed}
use Rattle.plan_grammar.specs.Limits.{most_data}
use Rattle.plan_grammar.specs.Forms.{is_name}
use Rattle.plan_grammar.specs.Devices.{data_length, data_named}
use Rattle.plan_grammar.specs.Hardware.{has_chip}
use Rattle.plan_laws.proofs.Pieces.{IsPiece}
use Rattle.plan_laws.proofs.Boots.{data_again, data_texts}
use Rattle.made_plan.specs.Made.{made_controllers, made_data, made_payloads, data_name}
use Rattle.made_plan.proofs.Reached.{IsReached, reached}
use Rattle.made_plan.proofs.Plans.{hardware_of, whole}

-- the data of the first devices
abbrev first_data : (n count : ℕ) → List DataLine
first_data n count = map (made_data n) (numbers_from 0 count)

-- the plan with these data
abbrev with_data : List DataLine → PlanLines
with_data payloads = record { begun = true; controllers = made_controllers; payloads = payloads; boots = [] }

-- the data of device J are the next ones
record IsNext (n j : ℕ) : Type 0 where
  pub named : is_name (data_name j) ≡ true
  pub fresh : is_some (data_named (with_data (first_data n j)) (data_name j)) ≡ false
  pub few : sum_by data_length (first_data n j) + 131072 ≤ most_data
  pub next : first_data n j ++ made_data n j ∷ [] ≡ first_data n (suc j)

chip_there : (payloads : List DataLine) → (has_chip (with_data payloads) && true) ≡ true
unfolding made_controllers
chip_there payloads = refl

data_reached : (n j : ℕ) → IsNext n j → IsReached (with_data (first_data n j)) → IsReached (with_data (first_data n (suc j)))
data_reached n j next h =
    let seed : (n + j) % 2 ^ 64 < 2 ^ 64 = omega arith in
    subst (λ (payloads : List DataLine). IsReached (with_data payloads)) next.next
    (reached Data (with_data (first_data n j)) (with_data (first_data n j ++ made_data n j ∷ [])) (data_texts (made_data n j)) h
    (data_again (with_data (first_data n j)) (with_data (first_data n j ++ made_data n j ∷ [])) (record {
      may = chip_there (first_data n j);
      payload = made_data n j;
      named = next.named;
      some = omega arith;
      legal = All-cons IsPiece (Seed ((n + j) % 2 ^ 64) 131072) [] (seed, omega arith) (All-nil IsPiece);
      fresh = next.fresh;
      few = next.few;
      next_is = refl;
    })))

next_0 : (n : ℕ) → IsNext n 0
unfolding digits is_name
next_0 n = record { named = refl; fresh = refl; few = omega arith; next = refl }

next_1 : (n : ℕ) → IsNext n 1
unfolding digits is_name
next_1 n = record { named = refl; fresh = refl; few = omega arith; next = refl }

next_2 : (n : ℕ) → IsNext n 2
unfolding digits is_name
next_2 n = record { named = refl; fresh = refl; few = omega arith; next = refl }

next_3 : (n : ℕ) → IsNext n 3
unfolding digits is_name
next_3 n = record { named = refl; fresh = refl; few = omega arith; next = refl }

next_4 : (n : ℕ) → IsNext n 4
unfolding digits is_name
next_4 n = record { named = refl; fresh = refl; few = omega arith; next = refl }

next_5 : (n : ℕ) → IsNext n 5
unfolding digits is_name
next_5 n = record { named = refl; fresh = refl; few = omega arith; next = refl }

next_6 : (n : ℕ) → IsNext n 6
unfolding digits is_name
next_6 n = record { named = refl; fresh = refl; few = omega arith; next = refl }

next_7 : (n : ℕ) → IsNext n 7
unfolding digits is_name
next_7 n = record { named = refl; fresh = refl; few = omega arith; next = refl }

next_8 : (n : ℕ) → IsNext n 8
unfolding digits is_name
next_8 n = record { named = refl; fresh = refl; few = omega arith; next = refl }

next_9 : (n : ℕ) → IsNext n 9
unfolding digits is_name
next_9 n = record { named = refl; fresh = refl; few = omega arith; next = refl }

next_10 : (n : ℕ) → IsNext n 10
unfolding digits is_name
next_10 n = record { named = refl; fresh = refl; few = omega arith; next = refl }

next_11 : (n : ℕ) → IsNext n 11
unfolding digits is_name
next_11 n = record { named = refl; fresh = refl; few = omega arith; next = refl }

next_12 : (n : ℕ) → IsNext n 12
unfolding digits is_name
next_12 n = record { named = refl; fresh = refl; few = omega arith; next = refl }

next_13 : (n : ℕ) → IsNext n 13
unfolding digits is_name
next_13 n = record { named = refl; fresh = refl; few = omega arith; next = refl }

next_14 : (n : ℕ) → IsNext n 14
unfolding digits is_name
next_14 n = record { named = refl; fresh = refl; few = omega arith; next = refl }

next_15 : (n : ℕ) → IsNext n 15
unfolding digits is_name
next_15 n = record { named = refl; fresh = refl; few = omega arith; next = refl }

-- all data
pub payloads_reached : (n : ℕ) → IsReached (hardware_of made_controllers) → IsReached (whole n [])
unfolding made_payloads
payloads_reached n h =
    data_reached n 15 (next_15 n) (data_reached n 14 (next_14 n) (data_reached n 13 (next_13 n) (data_reached n 12 (next_12 n) (data_reached n 11 (next_11 n) (data_reached n 10 (next_10 n) (data_reached n 9 (next_9 n) (data_reached n 8 (next_8 n) (data_reached n 7 (next_7 n) (data_reached n 6 (next_6 n) (data_reached n 5 (next_5 n) (data_reached n 4 (next_4 n) (data_reached n 3 (next_3 n) (data_reached n 2 (next_2 n) (data_reached n 1 (next_1 n) (data_reached n 0 (next_0 n) h)))))))))))))))
