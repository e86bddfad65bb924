-- What befalls a chip by one more page event of the controller.
use Rattle.std.proofs.Common.{◌≡◌, ℕ, suc, ◌+◌, List, [], ◌∷◌, ◌++◌, length, refl, ap, sym, ◌∙◌, append_assoc, append-nil, arith}
use Rattle.std.specs.Prelude.{if◌then◌else◌, ◌==◌}
use Rattle.std.proofs.lemmas.Bool.{eq-eqb, ne_eqb}
use Rattle.nand_model.specs.Chip.{ChipEvent, PageEvent}
use Rattle.command_model.specs.Boot.{Boot}
use Rattle.nand_model.specs.Cuts.{tear_at}
use Rattle.run_model.specs.Log.{Log, due_events, torn_by_cut, befalls}

-- the event itself, on its own chip
abbrev pub own_event : Boot → ℕ → ℕ → ℕ → ℕ × PageEvent → List (ℕ × ChipEvent)
own_event boot k raw n x = if x.0 == k then (n, torn_by_cut raw x.1 (tear_at boot.cut n)) ∷ [] else []

pub befalls-more : (boot : Boot) (k raw n : ℕ) (log : Log) (x : ℕ × PageEvent)
    → befalls boot k raw n (log ++ x ∷ []) ≡ befalls boot k raw n log ++ due_events boot k (n + length log) ++ own_event boot k raw (n + length log) x
befalls-more boot k raw n [] x =
    append-nil _ ∙ ap (λ m. due_events boot k m ++ own_event boot k raw m x) (omega arith)
befalls-more boot k raw n (y ∷ log) x =
    ap (λ zs. due_events boot k n ++ own_event boot k raw n y ++ zs) (befalls-more boot k raw (n + 1) log x)
    ∙ sym (append_assoc (due_events boot k n ++ own_event boot k raw n y) _ _)
    ∙ ap (λ zs. zs ++ own_event boot k raw (n + 1 + length log) x) (sym (append_assoc (due_events boot k n ++ own_event boot k raw n y) _ _))
    ∙ ap (λ m. befalls boot k raw n (y ∷ log) ++ due_events boot k m ++ own_event boot k raw m x) same
  where
    same : n + 1 + length log ≡ n + suc (length log)
    same = omega arith

pub own_here : (boot : Boot) (k raw n : ℕ) (e : PageEvent) → own_event boot k raw n (k, e) ≡ (n, torn_by_cut raw e (tear_at boot.cut n)) ∷ []
own_here boot k raw n e = ap (λ b. if b then (n, torn_by_cut raw e (tear_at boot.cut n)) ∷ [] else []) (eq-eqb k k refl)

pub own_elsewhere : (boot : Boot) (j k raw n : ℕ) (e : PageEvent) → (k ≡ j → ⊥) → own_event boot j raw n (k, e) ≡ []
own_elsewhere boot j k raw n e d = ap (λ b. if b then (n, torn_by_cut raw e (tear_at boot.cut n)) ∷ [] else []) (ne_eqb k j d)
