-- What an attach chooses of two copies whose versions differ by at most three.
use Rattle.std.proofs.Common.{◌≡◌, ◌<◌, ◌≤◌, ℕ, zero, suc, ◌+◌, ◌-◌, ◌%◌, true, false, ◌==◌, refl, arith, Some}
use Rattle.std.proofs.lemmas.Bool.Decides.{nat_tests}
use Rattle.chip_paths.specs.Copies.{choice_of}
use Rattle.nand_model.specs.declared.words.Choice.TheVariants.{Primary as UsePrimary, Mirror as UseMirror}

pub choice-same : (v : ℕ) → choice_of (Some v) (Some v) ≡ UsePrimary false
choice-same v =
    let same : (v == v) ≡ true = grind (arith, nat_tests) in
    let zero_apart : (v + 256 - v) % 256 ≡ 0 = omega arith in
    rw (zero_apart, same) refl

up : (v d : ℕ) → v < 256 → d ≤ 3 → ((v + d) % 256 + 256 - v) % 256 ≡ d
up v d h k = omega arith

down : (v d : ℕ) → v < 256 → d ≤ 3 → 1 ≤ d → (v + 256 - (v + d) % 256) % 256 ≡ 256 - d
down v d h k l = omega arith

pub choice-newer : (v d : ℕ) → v < 256 → 1 ≤ d → d ≤ 3 → choice_of (Some ((v + d) % 256)) (Some v) ≡ UsePrimary true
choice-newer v zero h l k = absurd (omega (arith, l))
choice-newer v (suc zero) h l k =
    let differs : ((v + 1) % 256 == v) ≡ false = grind (arith, nat_tests) in
    rw (up v 1 h k, differs) refl
choice-newer v (suc (suc zero)) h l k =
    let differs : ((v + 2) % 256 == v) ≡ false = grind (arith, nat_tests) in
    rw (up v 2 h k, differs) refl
choice-newer v (suc (suc (suc zero))) h l k =
    let differs : ((v + 3) % 256 == v) ≡ false = grind (arith, nat_tests) in
    rw (up v 3 h k, differs) refl
choice-newer v (suc (suc (suc (suc d)))) h l k = absurd (omega (arith, k))

pub choice-older : (v d : ℕ) → v < 256 → 1 ≤ d → d ≤ 3 → choice_of (Some v) (Some ((v + d) % 256)) ≡ UseMirror true
choice-older v zero h l k = absurd (omega (arith, l))
choice-older v (suc zero) h l k =
    let differs : (v == (v + 1) % 256) ≡ false = grind (arith, nat_tests) in
    rw (down v 1 h k l, differs) refl
choice-older v (suc (suc zero)) h l k =
    let differs : (v == (v + 2) % 256) ≡ false = grind (arith, nat_tests) in
    rw (down v 2 h k l, differs) refl
choice-older v (suc (suc (suc zero))) h l k =
    let differs : (v == (v + 3) % 256) ≡ false = grind (arith, nat_tests) in
    rw (down v 3 h k l, differs) refl
choice-older v (suc (suc (suc (suc d)))) h l k = absurd (omega (arith, k))
