-- Weak places of a chip, none of which is another one's place.
use Rattle.std.proofs.Common.{◌≡◌, ℕ, Bool, true, false, List, [], ◌∷◌, ◌++◌, refl, ap, ◌∙◌}
use Rattle.std.specs.Prelude.{◌==◌, ◌&&◌, ◌||◌, not}
use Rattle.std.specs.List.{list_any}
use Rattle.std.proofs.lemmas.Bool.{and_from, and_parts, not-true, or_parts}
use Rattle.std.proofs.lemmas.List.Folds.{list_any-append}
use Rattle.nand_model.specs.declared.tear.Tear.{Tear}
use Rattle.nand_model.specs.declared.words.Weak.{Weak}
use Rattle.nand_model.specs.declared.words.WeakKind.{WeakKind}
use Rattle.nand_model.specs.declared.words.WeakKind.TheVariants.{Program, Erase}
use Rattle.fault_plan.specs.WeakPlaces.{are_apart, is_same_place}
use Rattle.plan_grammar.specs.Devices.{is_same_kind}

-- a weak place
abbrev weak_of : WeakKind → (at after : ℕ) → Tear → Weak
weak_of kind at after tear = record { kind = kind; at = at; after = after; tear = tear }

same_kinds : (k l : WeakKind) (a b m n : ℕ) (t u : Tear) → is_same_place (weak_of k a m t) (weak_of l b n u) ≡ (is_same_kind k l && (a == b))
same_kinds Program Program a b m n t u = refl
same_kinds Program Erase a b m n t u = refl
same_kinds Erase Program a b m n t u = refl
same_kinds Erase Erase a b m n t u = refl

-- one place is one kind and one number
same_place : (v w : Weak) → is_same_place v w ≡ (is_same_kind v.kind w.kind && (v.at == w.at))
same_place v w = same_kinds v.kind w.kind v.at w.at v.after w.after v.tear w.tear

-- neither among the earlier ones nor the one that is added
not_again : (before last : Bool) → before ≡ false → last ≡ false → not (before || (last || false)) ≡ true
not_again before last e f = rw (e, f) refl

-- one more place, which is none of the earlier ones
pub apart_push : (list : List Weak) (weak : Weak) → are_apart list ≡ true
    → list_any (λ (w : Weak). is_same_kind w.kind weak.kind && (w.at == weak.at)) list ≡ false → are_apart (list ++ weak ∷ []) ≡ true
apart_push [] weak apart fresh = refl
apart_push (first ∷ list) weak apart fresh =
    let parts = and_parts (not (list_any (is_same_place first) list)) (are_apart list) apart in
    let others = or_parts (is_same_kind first.kind weak.kind && (first.at == weak.at))
    (list_any (λ (w : Weak). is_same_kind w.kind weak.kind && (w.at == weak.at)) list) fresh in
    let earlier : list_any (is_same_place first) list ≡ false = not-true (list_any (is_same_place first) list) parts.0 in
    let new : is_same_place first weak ≡ false = same_place first weak ∙ others.0 in
    and_from (not (list_any (is_same_place first) (list ++ weak ∷ []))) (are_apart (list ++ weak ∷ []))
    (ap not (list_any-append (is_same_place first) list (weak ∷ [])) ∙ not_again (list_any (is_same_place first) list) (is_same_place first weak) earlier new)
    (apart_push list weak parts.1 others.1)
