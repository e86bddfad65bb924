-- The sessions of a controller after each step.
use Rattle.std.proofs.Common.{◌≡◌, ◌<◌, ◌⊎◌, inl, inr, arith, ℕ, true, List, [], ◌∷◌, ◌++◌, length, Some, None, refl, ap, sym, ◌∙◌, subst, subst₂}
use Rattle.std.specs.Prelude.{slice_get, find, option_map, ◌==◌, if◌then◌else◌}
use Rattle.std.proofs.lemmas.Bool.{cases_order, cases_eq, eq-eqb, ne_eqb, eqb-true}
use Rattle.std.proofs.lemmas.Option.{slice_get_within, slice_get-map, slice_get-get_or}
use Rattle.std.proofs.lemmas.List.{length-map}
use Rattle.nand_model.specs.declared.geometry.Geometry.{Geometry}
use Rattle.nand_model.specs.declared.words.Command.{Command}
use Rattle.nand_model.specs.declared.words.Note.{Note}
use Rattle.nand_model.specs.declared.words.Reply.{Reply}
use Rattle.command_model.specs.Session.{SessionRun, with_reply, replied}
use Rattle.command_model.specs.Boot.{change_at, AreAscending}
use Rattle.run_model.specs.Run.{HaveOneNumberEach}
use Rattle.session_steps.specs.declared.session.Session.{Session}
use Rattle.session_steps.specs.Standing.{number_of, IsWaiting}
use Rattle.session_steps.specs.Mirrors.{Mirrors}
use Rattle.session_steps.proofs.Mirrors.{mirrors_later}
use Rattle.run_laws.proofs.Sessions.{number_stays}
use Rattle.ctl_core.specs.SlotState.{SlotState}
use Rattle.ctl_core.specs.Sessions.{SessionsMirror, HoldersWait}
use Rattle.ctl_core.proofs.Places.{OneChanged, found_only, item_at, changed_at}

-- a number stands at one place alone
pub one_place : (begun : List (ℕ × List Command)) → AreAscending begun → (i j : ℕ) (a b : ℕ × List Command) → slice_get begun i ≡ Some a → slice_get begun j
    ≡ Some b → a.0 ≡ b.0 → i ≡ j
one_place begun up i j a b h g same = by_order (cases_order i j)
  where
    by_order : (i ≡ j) ⊎ ((i < j) ⊎ (j < i)) → i ≡ j
    by_order (inl e) = e
    by_order (inr (inl l)) = let below : a.0 < b.0 = up i j a b l h g in absurd (omega arith)
    by_order (inr (inr l)) = let below : b.0 < a.0 = up j i b a l g h in absurd (omega arith)

pub one_number_each : (begun : List (ℕ × List Command)) → AreAscending begun → HaveOneNumberEach begun
one_number_each begun up n a b h g =
    let at : slice_get begun h.0 ≡ Some (n, a) = slice_get-get_or begun h.0 (n, a) h.1 ∙ ap Some h.2 in
    let there : slice_get begun g.0 ≡ Some (n, b) = slice_get-get_or begun g.0 (n, b) g.1 ∙ ap Some g.2 in
    let same : h.0 ≡ g.0 = one_place begun up h.0 g.0 (n, a) (n, b) at there refl in
    let both : Some (n, a) ≡ Some (n, b) = sym at ∙ ap (slice_get begun) same ∙ there in
    let pairs : (n, a) ≡ (n, b) = cc in ap (λ (x : ℕ × List Command). x.1) pairs

-- a session with what belongs to it
pub record Placed (sizes : Command → Geometry) (begun : List (ℕ × List Command)) (notes : List Note) (runs : List SessionRun) (i : ℕ) (s : Session) : Type 0
  where
    pub own : ℕ × List Command
    pub run : SessionRun
    pub begun_at : slice_get begun i ≡ Some own
    pub run_at : slice_get runs i ≡ Some run
    pub number : number_of s ≡ own.0
    pub mirrors : Mirrors sizes own.1 notes s run

module _ (sizes : Command → Geometry) (begun : List (ℕ × List Command)) (notes : List Note) (sessions : List Session) (runs : List SessionRun)
    (all : SessionsMirror sizes begun notes sessions runs) where
  pub placed : (i : ℕ) (s : Session) → slice_get sessions i ≡ Some s → Placed sizes begun notes runs i s
  placed i s h =
      let within : i < length sessions = slice_get_within sessions i s h in
      let b = item_at begun i (omega (arith, all.many)) in
      let r = item_at runs i (omega (arith, all.many, all.runs_many)) in
      let e = all.each i b.0 s r.0 b.1 h r.1 in
      record { own = b.0; run = r.0; begun_at = b.1; run_at = r.1; number = e.0; mirrors = e.1 }

  -- the number of a session of the course is that of the session at its place
  pub run_number : (i : ℕ) (s : Session) (run : SessionRun) → slice_get sessions i ≡ Some s → slice_get runs i ≡ Some run → run.number ≡ number_of s
  run_number i s run h g = let p = placed i s h in let same : p.run ≡ run = cc (p.run_at) in ap (λ (r : SessionRun). r.number) (sym same)
      ∙ p.mirrors.shows.number

  module _ (up : AreAscending begun) where
    -- two sessions with one number stand at one place
    pub same_place : (i j : ℕ) (s t : Session) → slice_get sessions i ≡ Some s → slice_get sessions j ≡ Some t → number_of s ≡ number_of t → i ≡ j
    same_place i j s t h g same =
        let p = placed i s h in let q = placed j t g in
        one_place begun up i j p.own q.own p.begun_at q.begun_at (sym p.number ∙ same ∙ q.number)

    pub found : (i : ℕ) (s : Session) (run : SessionRun) → slice_get sessions i ≡ Some s → slice_get runs i ≡ Some run
        → find (λ (t : SessionRun). t.number == number_of s) runs ≡ Some run
    found i s run h g = found_only (λ (t : SessionRun). t.number == number_of s) runs i run g (eq-eqb _ _ (run_number i s run h g)) only
      where
        only : (j : ℕ) (r : SessionRun) → slice_get runs j ≡ Some r → (r.number == number_of s) ≡ true → j ≡ i
        only j r at same =
            let within : j < length runs = slice_get_within runs j r at in
            let t = item_at sessions j (omega (arith, all.many, all.runs_many)) in
            same_place j i t.0 s t.1 h (sym (run_number j t.0 r t.1 at) ∙ eqb-true _ _ same)

    -- a session's reply has come, and there are more notes
    pub one_replied : (i : ℕ) (s new : Session) (changed : List Session) (more : List Note) (reply : Reply) → slice_get sessions i ≡ Some s
        → OneChanged sessions i new changed
        → ((own : ℕ × List Command) (run : SessionRun) → slice_get begun i ≡ Some own → slice_get runs i ≡ Some run
        → Mirrors sizes own.1 (notes ++ more) new (with_reply sizes reply run))
        → SessionsMirror sizes begun (notes ++ more) changed (replied sizes (number_of s) reply runs)
    one_replied i s new changed more reply h o mirrors = record {
      many = o.many ∙ all.many;
      runs_many = length-map runs change ∙ all.runs_many;
      each = each_one;
    }
      where
        change : SessionRun → SessionRun
        change t = if t.number == number_of s then with_reply sizes reply t else t

        each_one : (j : ℕ) (b : ℕ × List Command) (t : Session) (r : SessionRun) → slice_get begun j ≡ Some b → slice_get changed j ≡ Some t
            → slice_get (replied sizes (number_of s) reply runs) j ≡ Some r → (number_of t ≡ b.0) × Mirrors sizes b.1 (notes ++ more) t r
        each_one j b t r at there is = by_case (cases_eq i j)
          where
            by_case : (i ≡ j) ⊎ (i ≡ j → ⊥) → (number_of t ≡ b.0) × Mirrors sizes b.1 (notes ++ more) t r
            by_case (inl e) =
                let p = placed i s h in
                let own : slice_get begun i ≡ Some b = ap (slice_get begun) e ∙ at in
                let m = mirrors b p.run own p.run_at in
                let here : Some new ≡ Some t = sym o.here ∙ ap (slice_get changed) e ∙ there in
                let same : new ≡ t = cc in
                let mapped : slice_get (replied sizes (number_of s) reply runs) i ≡ Some (with_reply sizes reply p.run) =
                slice_get-map _ runs i ∙ ap (option_map _) p.run_at ∙ ap (λ b. Some (if b then with_reply sizes reply p.run else p.run))
                (eq-eqb _ _ (run_number i s p.run h p.run_at)) in
                let runs_same : Some (with_reply sizes reply p.run) ≡ Some r = sym mapped ∙ ap (slice_get (replied sizes (number_of s) reply runs)) e ∙ is in
                let run_same : with_reply sizes reply p.run ≡ r = cc in
                let owns : p.own ≡ b = cc (p.begun_at) in (
                  ap number_of (sym same) ∙ sym m.shows.number ∙ number_stays sizes p.run.number p.run.commands (p.run.replies ++ reply ∷ []) p.run.outcomes
                      ∙ run_number i s p.run h p.run_at ∙ p.number ∙ ap (λ (x : ℕ × List Command). x.0) owns,
                  subst₂ (λ x y. Mirrors sizes b.1 (notes ++ more) x y) same run_same m,
                )
            by_case (inr n) =
                let old : slice_get sessions j ≡ Some t = sym (o.elsewhere j n) ∙ there in
                let p = placed j t old in
                let owns : p.own ≡ b = cc (p.begun_at) in
                let other : p.run.number ≡ number_of s → ⊥ = λ e. n (same_place i j s t h old (sym e ∙ run_number j t p.run old p.run_at)) in
                let mapped : slice_get (replied sizes (number_of s) reply runs) j ≡ Some p.run =
                slice_get-map _ runs j ∙ ap (option_map _) p.run_at ∙ ap (λ b. Some (if b then with_reply sizes reply p.run else p.run)) (ne_eqb _ _ other) in
                let run_same : p.run ≡ r = cc (mapped) in (
                  p.number ∙ ap (λ (x : ℕ × List Command). x.0) owns,
                  subst₂ (λ (x : ℕ × List Command) y. Mirrors sizes x.1 (notes ++ more) t y) owns run_same
                      (mirrors_later sizes p.own.1 notes more t p.run p.mirrors),
                )

  -- there are more notes
  pub all_later : (more : List Note) → SessionsMirror sizes begun (notes ++ more) sessions runs
  all_later more = record {
    many = all.many;
    runs_many = all.runs_many;
    each = λ i b s run h g k. let e = all.each i b s run h g k in (e.0, mirrors_later sizes b.1 notes more s run e.1);
  }

  -- a session stands where it stood
  pub one_resumed : (i : ℕ) (s new : Session) (changed : List Session) → slice_get sessions i ≡ Some s → OneChanged sessions i new changed
      → ((own : ℕ × List Command) (run : SessionRun) → slice_get begun i ≡ Some own → slice_get runs i ≡ Some run → Mirrors sizes own.1 notes new run)
      → SessionsMirror sizes begun notes changed runs
  one_resumed i s new changed h o mirrors = record { many = o.many ∙ all.many; runs_many = all.runs_many; each = each_one }
    where
      each_one : (j : ℕ) (b : ℕ × List Command) (t : Session) (r : SessionRun) → slice_get begun j ≡ Some b → slice_get changed j ≡ Some t
          → slice_get runs j ≡ Some r → (number_of t ≡ b.0) × Mirrors sizes b.1 notes t r
      each_one j b t r at there is = by_case (cases_eq i j)
        where
          by_case : (i ≡ j) ⊎ (i ≡ j → ⊥) → (number_of t ≡ b.0) × Mirrors sizes b.1 notes t r
          by_case (inl e) =
              let own : slice_get begun i ≡ Some b = ap (slice_get begun) e ∙ at in
              let run : slice_get runs i ≡ Some r = ap (slice_get runs) e ∙ is in
              let m = mirrors b r own run in
              let here : Some new ≡ Some t = sym o.here ∙ ap (slice_get changed) e ∙ there in
              let same : new ≡ t = cc in (
                ap number_of (sym same) ∙ sym m.shows.number ∙ run_number i s r h run ∙ (all.each i b s r own h run).0,
                subst
                    (λ x. Mirrors sizes b.1 notes x r) same m,
              )
          by_case (inr n) = all.each j b t r at (sym (o.elsewhere j n) ∙ there) is

-- sessions that hold chips
module _ {W : Type 0} (chips : List (SlotState W)) (sessions : List Session) (wait : HoldersWait chips sessions) where
  -- a chip changes and stays with its holder
  pub wait_on : (k : ℕ) (f : SlotState W → SlotState W) → ((c : SlotState W) → (f c).holder ≡ c.holder) → HoldersWait (change_at chips k f) sessions
  wait_on k f keeps j i c s at there holds = by_case (changed_at chips k j f c at)
    where
      by_case : ((x : SlotState W) × (k ≡ j) × (slice_get chips k ≡ Some x) × (c ≡ f x)) ⊎ ((k ≡ j → ⊥) × (slice_get chips j ≡ Some c)) → IsWaiting s
      by_case (inl (x, e, old, is)) = wait k i x s old there (sym (keeps x) ∙ ap (λ (y : SlotState W). y.holder) (sym is) ∙ holds)
      by_case (inr (n, old)) = wait j i c s old there holds

  -- a session that holds no chip changes
  pub wait_beside : (i : ℕ) (new : Session) (changed : List Session) → OneChanged sessions i new changed
      → ((j : ℕ) (c : SlotState W) → slice_get chips j ≡ Some c → c.holder ≡ Some (number_of new) → ⊥) → HoldersWait chips changed
  wait_beside i new changed o free j m c s at there holds = by_case (cases_eq i m)
    where
      by_case : (i ≡ m) ⊎ (i ≡ m → ⊥) → IsWaiting s
      by_case (inl e) = let here : Some new ≡ Some s = sym o.here ∙ ap (slice_get changed) e ∙ there in let same : new
          ≡ s = cc in absurd (free j c at (holds ∙ ap (λ x. Some (number_of x)) (sym same)))
      by_case (inr n) = wait j m c s at (sym (o.elsewhere m n) ∙ there) holds

  -- a session that waits takes a chip
  pub wait_begun : (i k : ℕ) (new : Session) (changed : List Session) (f : SlotState W → SlotState W) → OneChanged sessions i new changed → IsWaiting new
      → ((c : SlotState W) → (f c).holder ≡ Some (number_of new))
      → ((j : ℕ) (s : Session) → slice_get changed j ≡ Some s → number_of s ≡ number_of new → i ≡ j)
      → HoldersWait (change_at chips k f) changed
  wait_begun i k new changed f o waits holder one j m c s at there holds = by_session (cases_eq i m)
    where
      by_chip : (i ≡ m → ⊥) → ((x : SlotState W) × (k ≡ j) × (slice_get chips k ≡ Some x) × (c ≡ f x)) ⊎ ((k ≡ j → ⊥) × (slice_get chips j ≡ Some c))
          → IsWaiting s
      by_chip n (inl (x, e, old, is)) =
          let both : Some (number_of s) ≡ Some (number_of new) = sym holds ∙ ap (λ (y : SlotState W). y.holder) is ∙ holder x in
          let same : number_of s ≡ number_of new = cc in absurd (n (one m s there same))
      by_chip n (inr (d, old)) = wait j m c s old (sym (o.elsewhere m n) ∙ there) holds

      by_session : (i ≡ m) ⊎ (i ≡ m → ⊥) → IsWaiting s
      by_session (inl e) = let here : Some new ≡ Some s = sym o.here ∙ ap (slice_get changed) e ∙ there in let same : new ≡ s = cc in subst IsWaiting same waits
      by_session (inr n) = by_chip n (changed_at chips k j f c at)

  -- a session gives its chip back
  pub wait_answered : (i k : ℕ) (new : Session) (changed : List Session) (f : SlotState W → SlotState W) → OneChanged sessions i new changed
      → ((c : SlotState W) → (f c).holder ≡ None) → ((j : ℕ) (c : SlotState W) → slice_get chips j ≡ Some c → c.holder ≡ Some (number_of new) → k ≡ j)
      → HoldersWait (change_at chips k f) changed
  wait_answered i k new changed f o free only j m c s at there holds = by_chip (changed_at chips k j f c at)
    where
      by_session : (k ≡ j → ⊥) → slice_get chips j ≡ Some c → (i ≡ m) ⊎ (i ≡ m → ⊥) → IsWaiting s
      by_session d old (inl e) = let here : Some new ≡ Some s = sym o.here ∙ ap (slice_get changed) e ∙ there in let same : new ≡ s = cc in
          absurd (d (only j c old (holds ∙ ap (λ x. Some (number_of x)) (sym same))))
      by_session d old (inr n) = wait j m c s old (sym (o.elsewhere m n) ∙ there) holds

      by_chip : ((x : SlotState W) × (k ≡ j) × (slice_get chips k ≡ Some x) × (c ≡ f x)) ⊎ ((k ≡ j → ⊥) × (slice_get chips j ≡ Some c)) → IsWaiting s
      by_chip (inl (x, e, old, is)) = let both : None ≡ Some (number_of s) = sym (free x) ∙ ap (λ (y : SlotState W). y.holder) (sym is) ∙ holds in cc
      by_chip (inr (d, old)) = by_session d old (cases_eq i m)
