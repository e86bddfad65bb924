-- Each block to which a nandwrite comes gives it at most one trouble.
use Rattle.std.proofs.Common.{◌≡◌, ◌≤◌, ℕ, zero, suc, ◌+◌, ◌*◌, Bool, true, false, List, [], ◌∷◌, refl, sym, subst, arith}
use Rattle.std.specs.Prelude.{if◌then◌else◌, ◌==◌}
use Rattle.nand_model.specs.declared.geometry.Geometry.{Geometry}
use Rattle.nand_model.specs.declared.words.Op.{Op}
use Rattle.nand_model.specs.declared.words.Outcome.{Outcome}
use Rattle.nand_model.specs.declared.words.Reply.{Reply}
use Rattle.nand_model.specs.declared.words.Reply.TheVariants.{Done, BadBlock, MarkerByte, ProgramFailed}
use Rattle.command_model.specs.Command.{Script, End, Ask, says_bad, WriteMode, WriteCounts, write_unit, after_write, erase_and_mark, write_pages, write_blocks}
use Rattle.command_model.specs.Laws.{is_trouble, trouble_of, troubles, TroublesAreFew}

module _ (n : ℕ) where
  -- at most so many troubles, whatever the replies
  abbrev HasFew : Script → Type 0
  HasFew script = (replies : List Reply) → troubles replies script ≤ n

  ended_few : (outcome : Outcome) → HasFew (End outcome)
  ended_few outcome [] = omega arith
  ended_few outcome (r ∷ replies) = omega arith

  either_few : (b : Bool) (x y : Script) → HasFew x → HasFew y → HasFew (if b then x else y)
  either_few true x y h k = h
  either_few false x y h k = k

  asked_few : (op : Op) (go_on : Reply → Script) → ((r : Reply) → trouble_of op r ≡ 0) → ((r : Reply) → HasFew (go_on r)) → HasFew (Ask op go_on)
  asked_few op go_on none h [] = omega arith
  asked_few op go_on none h (r ∷ replies) = let z = none r in let l = h r replies in omega (arith, z, l)

more_few : (n : ℕ) (script : Script) → HasFew n script → HasFew (suc n) script
more_few n script h replies = let l = h replies in omega (arith, l)

module _ (g : Geometry) (m : WriteMode) (n : ℕ) where
  unit_trouble : (page : ℕ) (unit : List ℕ) (r : Reply) → trouble_of (write_unit g m page unit) r ≡ is_trouble r
  unit_trouble page unit r = by_raw m.raw _ _ refl refl
    where
      by_raw : (b : Bool) (x y : Op) → trouble_of x r ≡ is_trouble r → trouble_of y r ≡ is_trouble r → trouble_of (if b then x else y) r ≡ is_trouble r
      by_raw true x y h k = h
      by_raw false x y h k = k

  after_few : (r : Reply) (replies : List Reply) (good failed skipped marker : Script) → HasFew (suc n) good → HasFew n failed → HasFew n skipped → HasFew n marker
      → is_trouble r + troubles replies (after_write r good failed skipped marker) ≤ suc n
  after_few Done replies good failed skipped marker a b c d = let l = a replies in omega (arith, l)
  after_few ProgramFailed replies good failed skipped marker a b c d = let l = b replies in omega (arith, l)
  after_few BadBlock replies good failed skipped marker a b c d = let l = c replies in omega (arith, l)
  after_few MarkerByte replies good failed skipped marker a b c d = let l = d replies in omega (arith, l)
  after_few _ replies good failed skipped marker a b c d = let l = a replies in omega (arith, l)

  erased_few : (block : ℕ) (rest : Script) → HasFew n rest → HasFew n (erase_and_mark m block rest)
  erased_few block rest h = asked_few n _ _ (λ r. refl) (λ r. either_few n m.mark _ rest (asked_few n _ _ (λ s. refl) (λ s. h)) h)

  pages_few : (block : ℕ) (taken : List (List ℕ)) (c : WriteCounts) (next_block : List (List ℕ) → WriteCounts → Script) → ((us : List (List ℕ)) (d : WriteCounts) → HasFew n (next_block us d))
      → (in_block place : ℕ) (units : List (List ℕ)) → HasFew (suc n) (write_pages g m block taken c next_block in_block place units)
  pages_few block taken c next_block h in_block place [] = ended_few (suc n) _
  pages_few block taken c next_block h in_block place (unit ∷ units) =
      either_few (suc n) (place == g.pages_per_block) _ _ (more_few n _ (h (unit ∷ units) _))
      (by_reply _ _ _ _ (pages_few block taken c next_block h (in_block + 1) (place + 1) units) (erased_few block _ (h taken _)) (h taken _) (ended_few n _))
    where
      by_reply : (good failed skipped marker : Script) → HasFew (suc n) good → HasFew n failed → HasFew n skipped → HasFew n marker
          → HasFew (suc n) (Ask (write_unit g m (block * g.pages_per_block + place) unit) (λ r. after_write r good failed skipped marker))
      by_reply good failed skipped marker a b c d [] = omega arith
      by_reply good failed skipped marker a b c d (r ∷ replies) =
          subst (λ t. t + troubles replies (after_write r good failed skipped marker) ≤ suc n) (sym (unit_trouble (block * g.pages_per_block + place) unit r))
          (after_few r replies good failed skipped marker a b c d)

module _ (g : Geometry) (m : WriteMode) where
  blocks_few : (left block place : ℕ) (units : List (List ℕ)) (c : WriteCounts) → HasFew left (write_blocks g m left block place units c)
  blocks_few left block place [] c = ended_few left _
  blocks_few zero block place (unit ∷ units) c = ended_few zero _
  blocks_few (suc left) block place (unit ∷ units) c = asked_few (suc left) _ _ (λ r. refl) (λ r. either_few (suc left) (says_bad r) _ _
      (more_few left _ (blocks_few left (block + 1) 0 (unit ∷ units) _))
      (pages_few g m left block (unit ∷ units) c (λ us d. write_blocks g m left (block + 1) 0 us d) (λ us d. blocks_few left (block + 1) 0 us d) 0 place (unit ∷ units)))

pub troubles_are_few : (g : Geometry) → TroublesAreFew g
troubles_are_few g dev blocks mark raw oob pad off bytes replies = blocks_few g (record { dev = dev; mark = mark; raw = raw; oob = oob }) _ _ _ _ _ replies
