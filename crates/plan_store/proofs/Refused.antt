-- Lines whose last rules are broken.
use Rattle.std.proofs.Common.{◌≡◌, ℕ, ◌+◌, Bool, true, false, not, ◌&&◌, ltb, leb, List, Some, Result, Ok, Err, refl, ap}
use Rattle.std.specs.List.{list_any}
use Rattle.nand_model.specs.declared.words.Weak.{Weak}
use Rattle.plan_grammar.specs.declared.kind.PlanKind.{PlanKind}
use Rattle.plan_grammar.specs.declared.kind.PlanKind.TheVariants.{OutOfChip, Overlap}
use Rattle.plan_grammar.specs.declared.lines.PlanLines.{PlanLines}
use Rattle.plan_grammar.specs.declared.lines.ChipLines.{ChipLines}
use Rattle.plan_grammar.specs.declared.lines.DetailLine.TheVariants.{Weak as WeakAt}
use Rattle.plan_grammar.specs.Rules.{◌>>=◌, rule}
use Rattle.plan_grammar.specs.Forms.{four_words, two_words, weak_kind, small_number, tear}
use Rattle.plan_grammar.specs.Devices.{is_weak, share_block}
use Rattle.plan_grammar.specs.Hardware.{weak_line, weak_form, weak_words, open_chip, place_count, with_detail, part_line, part_form, part_words, part_in_force, with_part, is_hardware, last_chip}
use Rattle.plan_index.specs.Chip.{weak_rules, part_rules}

abbrev good : {A : Type 0} → A → Result A PlanKind
good x = Ok x

-- two rules of which one is broken, before what would follow them
two_broken : {A : Type 0} (a b : Bool) (k l kind : PlanKind) (x : A) → (rule a k >>= λ (u : Unit {0}). rule b l) ≡ Err kind →
    (rule a k >>= λ (u : Unit {0}). rule b l >>= λ (u : Unit {0}). good x) ≡ Err kind
two_broken true true k l kind x e = absurd (cc e)
two_broken true false k l kind x e = let same : l ≡ kind = cc e in ap Err same
two_broken false b k l kind x e = let same : k ≡ kind = cc e in ap Err same

-- a weak place that breaks a rule
pub weak_refused : (plan : PlanLines) (words : List (List ℕ)) (chip : ChipLines) (w0 w1 w2 w3 : List ℕ) (weak : Weak) (kind : PlanKind) →
    open_chip plan ≡ Ok chip → four_words words ≡ Ok (w0, w1, w2, w3) → weak_kind w0 ≡ Some weak.kind → small_number w1 ≡ Ok weak.at →
    small_number w2 ≡ Ok weak.after → tear w3 ≡ Ok weak.tear → weak_rules chip weak ≡ Err kind → weak_line plan words ≡ Err kind
unfolding weak_line weak_form weak_words
weak_refused plan words chip w0 w1 w2 w3 weak kind e0 e1 e2 e3 e4 e5 broken =
    rw (e0, e1, e2, e3, e4, e5) (two_broken (ltb weak.at (place_count chip.geometry weak.kind)) (not (is_weak chip weak.kind weak.at))
    OutOfChip Overlap kind (with_detail (WeakAt weak) plan) broken)

two_good : {A : Type 0} (a b : Bool) (k l : PlanKind) (x : A) → (rule a k >>= λ (u : Unit {0}). rule b l) ≡ Ok tt →
    (rule a k >>= λ (u : Unit {0}). rule b l >>= λ (u : Unit {0}). good x) ≡ Ok x
two_good true true k l x e = refl
two_good true false k l x e = absurd (cc e)
two_good false b k l x e = absurd (cc e)

-- a partition that keeps the rules
pub part_taken : (plan : PlanLines) (words : List (List ℕ)) (chip : ChipLines) (w0 w1 : List ℕ) (start count : ℕ) →
    is_hardware plan ≡ true → last_chip plan ≡ Ok chip → two_words words ≡ Ok (w0, w1) → small_number w0 ≡ Ok start →
    small_number w1 ≡ Ok count → part_rules chip start count ≡ Ok tt →
    part_line plan words ≡ Ok (with_part (part_in_force chip start count) plan)
unfolding part_line part_form part_words
part_taken plan words chip w0 w1 start count e0 e1 e2 e3 e4 kept =
    rw (e0, e1, e2, e3, e4) (two_good (ltb start chip.geometry.blocks && leb (start + count) chip.geometry.blocks)
    (not (list_any (share_block (part_in_force chip start count)) chip.parts)) OutOfChip Overlap (with_part (part_in_force chip start count) plan) kept)
