-- The start of a boot.
use Rattle.std.proofs.Common.{◌≡◌, ℕ, zero, suc, ◌≤◌, ◌<◌, Bool, true, false, cond, List, [], ◌∷◌, map, length, Option, Some, None, refl, ap, sym, ◌∙◌, subst, arith}
use Rattle.std.specs.Prelude.{slice_get, slice_index_or, option_map, find, ◌==◌, Contains}
use Rattle.std.proofs.lemmas.Bool.{eq-eqb, eqb-true, eqb-false, ne_eqb, and_parts, leb-true, cond-true, cond-false}
use Rattle.std.proofs.lemmas.Option.{none-some, slice_get-map}
use Rattle.nand_model.specs.declared.geometry.Geometry.{Geometry}
use Rattle.nand_model.specs.declared.words.Op.{Op}
use Rattle.nand_model.specs.declared.words.Command.{Command}
use Rattle.nand_model.specs.Sizes.{numbers_from}
use Rattle.nand_model.specs.Chip.{ChipState, FaultModel}
use Rattle.chip_paths.specs.Attach.{attach_path, attach_by, read_first_pages}
use Rattle.nand_model.specs.Table.{has_tables}
use Rattle.nand_model.specs.Path.{Path, next_event, result_of}
use Rattle.chip_paths.specs.ChipRun.{chip_at_start}
use Rattle.command_model.specs.Boot.{Boot}
use Rattle.command_model.specs.Session.{SessionRun, without_finished}
use Rattle.run_model.specs.Course.{sizes_of, start_of_boot}
use Rattle.run_laws.proofs.Life.{goes_start, ChipLaw}
use Rattle.run_laws.proofs.Sessions.{number_stays}
use Rattle.run_laws.proofs.Courses.{AtPlace, asked_on, SessionsHold, LawOf, by_log, IsLive}

at_least_8 : (g : Geometry) → 8 ≤ g.blocks
at_least_8 g =
    let p1 = (and_parts _ _ g.in_bounds).0 in
    let p2 = (and_parts _ _ p1).0 in
    let p3 = (and_parts _ _ p2).0 in
    let p4 = (and_parts _ _ p3).0 in
    let p5 = (and_parts _ _ p4).0 in
    let p6 = (and_parts _ _ p5).1 in
    let p7 = (and_parts _ _ p6).0 in
    leb-true 8 g.blocks (and_parts _ _ p7).0

-- an attach is not over before its first event
reads_first : {A : Type 0} (g : Geometry) (n : ℕ) (go_on : List (List ℕ) → Path A) → 8 ≤ n → result_of (read_first_pages g (numbers_from 0 n) [] go_on) ≡ None
reads_first g zero go_on h = absurd (omega arith)
reads_first g (suc n) go_on h = refl

not_over_by : (tables : Bool) (g : Geometry) → result_of (attach_by tables g) ≡ None
not_over_by true g = refl
not_over_by false g = reads_first g g.blocks _ (at_least_8 g)

pub not_over_at_first : (g : Geometry) → result_of (attach_path g) ≡ None
not_over_at_first g = not_over_by (has_tables g) g

-- the session of this number
found_at_start : (sizes : Command → Geometry) (n : ℕ) (commands : List Command) (sessions : List (ℕ × List Command))
    → ((other : List Command) → Contains sessions (n, other) → other ≡ commands)
    → Contains sessions (n, commands)
    → find (λ (t : SessionRun). t.number == n) (map (λ (s : ℕ × List Command). without_finished sizes s.0 s.1 [] []) sessions) ≡ Some (without_finished sizes n commands [] [])
found_at_start sizes n commands [] once has = absurd (omega (arith, has.1))
found_at_start sizes n commands (x ∷ sessions) once has =
    by_test (x.0 == n) refl (found_at_start sizes n commands sessions (λ other c. once other (suc c.0, omega (arith, c.1), c.2)))
  where
    later : (k : ℕ) → k < length (x ∷ sessions) → slice_index_or (x ∷ sessions) k (n, commands) ≡ (n, commands) → (x.0 == n) ≡ false → Contains sessions (n, commands)
    later zero h e f = absurd (eqb-false _ _ f (ap (λ (y : ℕ × List Command). y.0) e))
    later (suc k) h e f = (k, omega (arith, h), e)

    by_test : (b : Bool) → (x.0 == n) ≡ b
        → (Contains sessions (n, commands) → find (λ (t : SessionRun). t.number == n) (map (λ (s : ℕ × List Command). without_finished sizes s.0 s.1 [] []) sessions) ≡ Some (without_finished sizes n commands [] []))
        → find (λ (t : SessionRun). t.number == n) (map (λ (s : ℕ × List Command). without_finished sizes s.0 s.1 [] []) (x ∷ sessions)) ≡ Some (without_finished sizes n commands [] [])
    by_test true e ih =
        let same : x.0 ≡ n = eqb-true _ _ e in
        cond-true _ _ _ (eq-eqb _ _ (number_stays sizes x.0 x.1 [] [] ∙ same))
        ∙ ap (λ m. Some (without_finished sizes m x.1 [] [])) same
        ∙ ap (λ cs. Some (without_finished sizes n cs [] [])) (once x.1 (0, omega arith, ap (λ (m : ℕ). (m, x.1)) same))
    by_test false e ih =
        cond-false _ _ _ (ne_eqb _ _ (λ h. eqb-false _ _ e (sym (number_stays sizes x.0 x.1 [] []) ∙ h)))
        ∙ ih (later has.0 has.1 has.2 e)

-- a session that is there at the start is one of the boot
own_at_start : (sizes : Command → Geometry) (n : ℕ) (sessions : List (ℕ × List Command)) (s : SessionRun)
    → find (λ (t : SessionRun). t.number == n) (map (λ (s : ℕ × List Command). without_finished sizes s.0 s.1 [] []) sessions) ≡ Some s
    → (commands : List Command) × Contains sessions (n, commands)
own_at_start sizes n [] s h = absurd (none-some s h)
own_at_start sizes n (x ∷ sessions) s h =
    by_test (x.0 == n) refl (λ g. own_at_start sizes n sessions s g) (sym (ap (λ m. cond (m == n) (Some (without_finished sizes x.0 x.1 [] [])) rest) (number_stays sizes x.0 x.1 [] [])) ∙ h)
  where
    rest : Option SessionRun
    rest = find (λ (t : SessionRun). t.number == n) (map (λ (s : ℕ × List Command). without_finished sizes s.0 s.1 [] []) sessions)

    by_test : (b : Bool) → (x.0 == n) ≡ b → (rest ≡ Some s → (commands : List Command) × Contains sessions (n, commands))
        → cond b (Some (without_finished sizes x.0 x.1 [] [])) rest ≡ Some s → (commands : List Command) × Contains (x ∷ sessions) (n, commands)
    by_test true e later g = (x.1, (0, omega arith, ap (λ (m : ℕ). (m, x.1)) (eqb-true _ _ e)))
    by_test false e later g = let own = later g in (own.0, (suc own.1.0, omega (arith, own.1.1), own.1.2))

module _ {W : Type 0} (model : FaultModel W) (boot : Boot) (starts : List (ChipState W)) where
  chip_starts : (k : ℕ) (s : ChipState W) → ChipLaw model boot.partitions k s (chip_at_start s) [] []
  chip_starts k s = record { goes = goes_start model (next_event (attach_path s.geometry)) s; more = not_over_at_first s.geometry; quiet = refl; idle = refl; notes_are = refl }

  place_starts : (k : ℕ) (o : Option (ChipState W)) → AtPlace (LawOf model boot starts (by_log model boot starts []) k) [] o (option_map chip_at_start o)
  place_starts k None = tt
  place_starts k (Some s) = chip_starts k s

  none_asked : (o : Option (ChipState W)) (x : ℕ × Op) → asked_on (option_map chip_at_start o) ≡ Some x → ⊥
  none_asked None x h = none-some x h
  none_asked (Some s) x h = none-some x h

  session_starts : SessionsHold model boot starts (start_of_boot boot starts).chips (start_of_boot boot starts).sessions []
  session_starts n = record {
    open_op = None;
    past = [];
    are = refl;
    alternate = λ more h. h;
    from = λ k op h. absurd (none_asked (slice_get starts k) (n, op) (ap asked_on (sym (slice_get-map chip_at_start starts k)) ∙ h));
    to = λ op h. absurd (none-some op h);
    follow = λ commands once h. record {
      run = without_finished (sizes_of boot starts) n commands [] [];
      found = found_at_start (sizes_of boot starts) n commands boot.sessions (λ other g. once n other commands g h) h;
      follows = λ more g. g;
      after = λ more. refl;
      next = λ op g. absurd (none-some op g);
    };
    not_own = λ none. refl;
    asker = λ op h. absurd (none-some op h);
    is_own = λ s h. own_at_start (sizes_of boot starts) n boot.sessions s h;
  }

  pub start_holds : IsLive model boot starts (start_of_boot boot starts)
  start_holds = record {
    lit = refl;
    log = [];
    is_log = record { counted = refl; on_chips = λ n x h. absurd (none-some x h) };
    chips = λ k. subst (λ o. AtPlace (LawOf model boot starts (by_log model boot starts []) k) [] (slice_get starts k) o) (sym (slice_get-map chip_at_start starts k)) (place_starts k (slice_get starts k));
    sessions = session_starts;
    of_chips = tt;
  }
