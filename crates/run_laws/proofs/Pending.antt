-- What a course says of a session with a pending operation: the operation is its next one, and is
-- pending on one chip alone.
use Rattle.std.proofs.Common.{◌≡◌, inl, inr, ℕ, true, false, List, Some, ap, sym, ◌∙◌}
use Rattle.std.specs.Prelude.{slice_get}
use Rattle.nand_model.specs.Chip.{ChipState, FaultModel}
use Rattle.chip_paths.specs.ChipRun.{ChipRun, Pending}
use Rattle.command_model.specs.Boot.{Boot}
use Rattle.run_model.specs.Course.{Course, session_run, sizes_of}
use Rattle.command_model.specs.Session.{SessionRun, next_op_of}
use Rattle.run_model.specs.Run.{HaveOneNumberEach}
use Rattle.run_laws.proofs.Courses.{asked_by, asked_on, asked_at, Holds, IsLive}

module _ {W : Type 0} (model : FaultModel W) (boot : Boot) (starts : List (ChipState W)) (course : Course W) (lit : course.dark ≡ false) where
  live : Holds model boot starts course → IsLive model boot starts course
  live (inl h) = h
  live (inr cut) = let e : true ≡ false = sym cut.dark ∙ lit in cc

  asked_here : (k session : ℕ) (c : ChipRun W) (pending : Pending) → slice_get course.chips k ≡ Some c → c.pending ≡ Some pending → pending.session ≡ session
      → asked_at course.chips k ≡ Some (session, pending.op)
  asked_here k session c pending at h same = ap asked_on at ∙ ap asked_by h ∙ ap (λ n. Some (n, pending.op)) same

  -- the pending operation of a session is its next one
  pub pending_is_next : Holds model boot starts course → HaveOneNumberEach boot.sessions → (k session : ℕ) (c : ChipRun W) (pending : Pending)
      → slice_get course.chips k ≡ Some c
      → c.pending ≡ Some pending → pending.session ≡ session
      → (s : SessionRun) × (session_run course session ≡ Some s) × (next_op_of (sizes_of boot starts) s.commands s.replies ≡ Some pending.op)
  pending_is_next holds numbers k session c pending at h same =
      let law = (live holds).sessions session in
      let asks : law.open_op ≡ Some pending.op = (law.from k pending.op (asked_here k session c pending at h same)).1 in
      let asker = law.asker pending.op asks in
      let own = law.is_own asker.0 asker.1 in
      let follow = law.follow own.0 numbers own.1 in
      (follow.run, follow.found, follow.next pending.op asks)

  -- a session has a pending operation on one chip alone
  pub pending_once : Holds model boot starts course → (j k session : ℕ) (c d : ChipRun W) (one other : Pending) → slice_get course.chips j ≡ Some c
      → c.pending ≡ Some one → one.session ≡ session
      → slice_get course.chips k ≡ Some d → d.pending ≡ Some other → other.session ≡ session → j ≡ k
  pending_once holds j k session c d one other at h same there i also =
      let law = (live holds).sessions session in
      let first = (law.from j one.op (asked_here j session c one at h same)).0 in
      let second = (law.from k other.op (asked_here k session d other there i also)).0 in
      cc (first, second)
