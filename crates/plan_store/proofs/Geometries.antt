-- The sizes of a chip's line, made or refused.
use Rattle.std.proofs.Common.{◌≡◌, ℕ, Bool, true, false, Option, Some, Ok, Err, refl, sym, ap, subst}
use Rattle.std.proofs.Props.{props}
use Rattle.code_model.specs.Code.{code_512}
use Rattle.nand_model.specs.Layout.{IsGeometry, is_geometry, has_sizes, has_room, threshold_in_force}
use Rattle.nand_model.specs.declared.geometry.Geometry.{Geometry}
use Rattle.nand_model.proofs.Bounds.{geometry_made}
use Rattle.plan_grammar.specs.declared.kind.PlanKind.TheVariants.{BadSize, SpareTooSmall}
use Rattle.plan_grammar.specs.Rules.{◌>>=◌, rule, there}
use Rattle.plan_grammar.specs.Hardware.{geometry, geometry_of, geometry_if}

-- sizes that no chip may have
pub bad_size : (page spare n blocks t bbt threshold : ℕ) → has_sizes page spare n blocks t bbt threshold ≡ false →
    geometry page spare n blocks t bbt threshold ≡ Err BadSize
unfolding geometry
bad_size page spare n blocks t bbt threshold e =
    subst (λ b. (rule b BadSize >>= λ (u : Unit {0}). rule (has_room (code_512 t) page spare bbt) SpareTooSmall
    >>= λ (u : Unit {0}). there (geometry_of page spare n blocks t bbt threshold) BadSize) ≡ Err BadSize) (sym e) refl

-- a spare area that does not hold the layout
pub too_small : (page spare n blocks t bbt threshold : ℕ) → has_sizes page spare n blocks t bbt threshold ≡ true →
    has_room (code_512 t) page spare bbt ≡ false → geometry page spare n blocks t bbt threshold ≡ Err SpareTooSmall
unfolding geometry
too_small page spare n blocks t bbt threshold e f =
    subst (λ b. (rule b BadSize >>= λ (u : Unit {0}). rule (has_room (code_512 t) page spare bbt) SpareTooSmall
    >>= λ (u : Unit {0}). there (geometry_of page spare n blocks t bbt threshold) BadSize) ≡ Err SpareTooSmall) (sym e)
    (subst (λ b. (rule b SpareTooSmall >>= λ (u : Unit {0}). there (geometry_of page spare n blocks t bbt threshold) BadSize) ≡ Err SpareTooSmall) (sym f) refl)

one_proof : (b : Bool) (e f : b ≡ true) → e ≡ f
one_proof b e f = let once : IsProp (b ≡ true) = hlevel props in once e f

-- sizes with the same numbers are the same
same_sizes : (g : Geometry) (page spare n blocks t bbt threshold : ℕ) (fits : IsGeometry page spare n blocks t bbt threshold) →
    g.page ≡ page → g.spare ≡ spare → g.pages_per_block ≡ n → g.blocks ≡ blocks → g.t ≡ t → g.bbt ≡ bbt →
    g.threshold ≡ threshold →
    ◌≡◌ {A = Geometry} (record { page = page; spare = spare; pages_per_block = n; blocks = blocks; t = t; bbt = bbt; threshold = threshold; in_bounds = fits }) g
same_sizes g page spare n blocks t bbt threshold fits e1 e2 e3 e4 e5 e6 e7 =
    subst (λ x1. (h : IsGeometry x1 spare n blocks t bbt threshold) → ◌≡◌ {A = Geometry} (record { page = x1; spare = spare; pages_per_block = n; blocks = blocks; t = t; bbt = bbt; threshold = threshold; in_bounds = h }) g) e1
    (subst (λ x2. (h : IsGeometry g.page x2 n blocks t bbt threshold) → ◌≡◌ {A = Geometry} (record { page = g.page; spare = x2; pages_per_block = n; blocks = blocks; t = t; bbt = bbt; threshold = threshold; in_bounds = h }) g) e2
    (subst (λ x3. (h : IsGeometry g.page g.spare x3 blocks t bbt threshold) → ◌≡◌ {A = Geometry} (record { page = g.page; spare = g.spare; pages_per_block = x3; blocks = blocks; t = t; bbt = bbt; threshold = threshold; in_bounds = h }) g) e3
    (subst (λ x4. (h : IsGeometry g.page g.spare g.pages_per_block x4 t bbt threshold) → ◌≡◌ {A = Geometry} (record { page = g.page; spare = g.spare; pages_per_block = g.pages_per_block; blocks = x4; t = t; bbt = bbt; threshold = threshold; in_bounds = h }) g) e4
    (subst (λ x5. (h : IsGeometry g.page g.spare g.pages_per_block g.blocks x5 bbt threshold) → ◌≡◌ {A = Geometry} (record { page = g.page; spare = g.spare; pages_per_block = g.pages_per_block; blocks = g.blocks; t = x5; bbt = bbt; threshold = threshold; in_bounds = h }) g) e5
    (subst (λ x6. (h : IsGeometry g.page g.spare g.pages_per_block g.blocks g.t x6 threshold) → ◌≡◌ {A = Geometry} (record { page = g.page; spare = g.spare; pages_per_block = g.pages_per_block; blocks = g.blocks; t = g.t; bbt = x6; threshold = threshold; in_bounds = h }) g) e6
    (subst (λ x7. (h : IsGeometry g.page g.spare g.pages_per_block g.blocks g.t g.bbt x7) → ◌≡◌ {A = Geometry} (record { page = g.page; spare = g.spare; pages_per_block = g.pages_per_block; blocks = g.blocks; t = g.t; bbt = g.bbt; threshold = x7; in_bounds = h }) g) e7
    (λ h. ap (λ (b : IsGeometry g.page g.spare g.pages_per_block g.blocks g.t g.bbt g.threshold). record g { in_bounds = b })
    (one_proof (is_geometry g.page g.spare g.pages_per_block g.blocks g.t g.bbt g.threshold) h g.in_bounds)))))))) fits

made : (g : Geometry) (page spare n blocks t bbt threshold : ℕ) (b : Bool) (fits : is_geometry page spare n blocks t bbt threshold ≡ b) →
    b ≡ true → g.page ≡ page → g.spare ≡ spare → g.pages_per_block ≡ n → g.blocks ≡ blocks → g.t ≡ t → g.bbt ≡ bbt →
    g.threshold ≡ threshold → geometry_if page spare n blocks t bbt threshold b fits ≡ Some g
made g page spare n blocks t bbt threshold true fits good e1 e2 e3 e4 e5 e6 e7 =
    ap Some (same_sizes g page spare n blocks t bbt threshold fits e1 e2 e3 e4 e5 e6 e7)
made g page spare n blocks t bbt threshold false fits good e1 e2 e3 e4 e5 e6 e7 = absurd (cc good)

-- sizes that a chip may have
pub geometry_good : (g : Geometry) (page spare n blocks t bbt threshold : ℕ) → has_sizes page spare n blocks t bbt threshold ≡ true →
    has_room (code_512 t) page spare bbt ≡ true →
    g.page ≡ page → g.spare ≡ spare → g.pages_per_block ≡ n → g.blocks ≡ blocks → g.t ≡ t → g.bbt ≡ bbt →
    g.threshold ≡ threshold_in_force t threshold → geometry page spare n blocks t bbt threshold ≡ Ok g
unfolding geometry
geometry_good g page spare n blocks t bbt threshold e f e1 e2 e3 e4 e5 e6 e7 =
    let fits = geometry_made page spare n blocks t bbt threshold e f in
    subst (λ b. (rule b BadSize >>= λ (u : Unit {0}). rule (has_room (code_512 t) page spare bbt) SpareTooSmall
    >>= λ (u : Unit {0}). there (geometry_of page spare n blocks t bbt threshold) BadSize) ≡ Ok g) (sym e)
    (subst (λ b. (rule b SpareTooSmall >>= λ (u : Unit {0}). there (geometry_of page spare n blocks t bbt threshold) BadSize) ≡ Ok g) (sym f)
    (ap (λ (o : Option Geometry). there o BadSize)
    (made g page spare n blocks t bbt (threshold_in_force t threshold) (is_geometry page spare n blocks t bbt (threshold_in_force t threshold)) refl fits e1 e2 e3 e4 e5 e6 e7)))
