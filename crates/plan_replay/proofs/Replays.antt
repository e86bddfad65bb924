-- All controllers go through all boots of a plan.
use Rattle.std.proofs.Common.{◌≡◌, ◌<◌, ◌+◌, ℕ, zero, suc, List, [], ◌∷◌, ◌++◌, length, map, take, Some, refl, ap, ap₂, sym, ◌∙◌, subst, subst₂, arith, append_assoc, append-nil}
use Rattle.std.specs.Prelude.{slice_get}
use Rattle.std.proofs.lemmas.List.{length-map, length-take-le, map_push, take_all, take_more}
use Rattle.std.proofs.lemmas.Option.{get_or_from_slice_get, same_Some}
use Rattle.nand_model.specs.Chip.{ChipState, SimFaults}
use Rattle.nand_model.specs.Sizes.{numbers_from}
use Rattle.nand_model.specs.declared.words.Note.{Note}
use Rattle.run_model.specs.Course.{Course, end_states}
use Rattle.plan_model.specs.Plan.{BootPlan, ChipPlan, PlanData, new_chips}
use Rattle.plan_laws.specs.Ready.{boot_at, chips_at, no_boot}
use Rattle.report_model.specs.Report.{boot_text, boots_text}
use Rattle.headline_model.specs.Headline.{AreReplay, IsReplayOf, notes_in, notes_of_course, starts_at}
use Rattle.headline_laws.specs.Replays.{AreReplaysOfAll, AreReplaysOfBoots, IsReplayOfBoot}
use Rattle.headline_laws.proofs.Numbers.{length-numbers}
use Rattle.headline_laws.proofs.Replays.{one_boot_more, replays_joined}
use Rattle.headline_laws.proofs.Reports.{replay_reported}
use Rattle.headline_laws.proofs.Sizes.{plan_sizes}
use Rattle.ctl_core.proofs.Positions.{at_mapped, mapped_at}
use Rattle.onfi_bus.specs.Lab.{lab_state}
use Rattle.plan_replay.specs.Boots.{AllHaveSizes, EndBoot, HasBeenThrough, HaveBeenThrough, Standing, Through, courses_of, ends_of, notes_before, notes_of, states_left, states_of}

-- a controller with new chips
abbrev fresh : List ChipPlan → Standing
fresh chips = record { own = []; states = new_chips chips }

fresh_states : (controllers : List (List ChipPlan)) → map new_chips controllers ≡ states_of (map fresh controllers)
fresh_states [] = refl
fresh_states (chips ∷ controllers) = ap (λ later. new_chips chips ∷ later) (fresh_states controllers)

-- before the first boot
pub before_all : (plan : PlanData) (states : List (List (ChipState SimFaults))) (text : List ℕ) → states ≡ map new_chips plan.controllers → text ≡ []
    → HaveBeenThrough plan 0 states text
before_all plan states text new none = record {
  standing = map fresh plan.controllers;
  many = length-map plan.controllers fresh;
  each = λ c s at.
      let found = mapped_at fresh plan.controllers c s at in
      subst (HasBeenThrough plan 0 c) found.2 (record {
        replays = tt;
        states_are = ap new_chips (sym (get_or_from_slice_get plan.controllers c found.0 [] found.1));
      });
  states_are = new ∙ fresh_states plan.controllers;
  printed = none;
}

-- the flashes have the plan's sizes
pub sizes_before : (plan : PlanData) (n : ℕ) (states : List (List (ChipState SimFaults))) (text : List ℕ) → HaveBeenThrough plan n states text
    → AllHaveSizes plan states
sizes_before plan n states text h = record {
  many = ap length h.states_are ∙ length-map h.standing (λ (s : Standing). s.states) ∙ h.many;
  each = λ c own at.
      let found = mapped_at (λ (s : Standing). s.states) h.standing c own (ap (λ ss. slice_get ss c) (sym h.states_are) ∙ at) in
      let went : HasBeenThrough plan n c found.0 = h.each c found.0 found.1 in
      ap (map (λ (s : ChipState SimFaults). s.geometry)) (sym found.2 ∙ went.states_are)
      ∙ plan_sizes plan c (chips_at plan c) (take n plan.boots) found.0.own n went.replays;
}

-- a controller after one more boot
abbrev pub joined_one : Standing → Through → Standing
joined_one s t = record { own = s.own ++ t.course ∷ []; states = end_states t.course }

-- the same of all
abbrev pub joined : List Standing → List Through → List Standing
joined (s ∷ standing) (t ∷ through) = joined_one s t ∷ joined standing through
joined _ _ = []

length-joined : (standing : List Standing) (through : List Through) → length through ≡ length standing → length (joined standing through) ≡ length standing
length-joined [] through same = refl
length-joined (s ∷ standing) [] same = absurd (omega (arith, same))
length-joined (s ∷ standing) (t ∷ through) same = ap suc (length-joined standing through (omega (arith, same)))

-- a controller of these stands at its place in both
pub record IsJoined (standing : List Standing) (through : List Through) (c : ℕ) (now : Standing) : Type 0 where
  pub s : Standing
  pub t : Through
  pub is_s : slice_get standing c ≡ Some s
  pub is_t : slice_get through c ≡ Some t
  pub same : joined_one s t ≡ now

pub joined_at : (standing : List Standing) (through : List Through) (c : ℕ) (now : Standing) → slice_get (joined standing through) c ≡ Some now
    → IsJoined standing through c now
joined_at [] through c now at = cc
joined_at (s ∷ standing) [] c now at = cc
joined_at (s ∷ standing) (t ∷ through) zero now at = record { s = s; t = t; is_s = refl; is_t = refl; same = same_Some (joined_one s t) now at }
joined_at (s ∷ standing) (t ∷ through) (suc c) now at =
    let later = joined_at standing through c now at in
    record { s = later.s; t = later.t; is_s = later.is_s; is_t = later.is_t; same = later.same }

-- as many courses as boots
long_as : (plan : PlanData) (c : ℕ) (chips : List ChipPlan) (starts : List (ChipState SimFaults)) (boots : List BootPlan) (own : List (Course SimFaults))
    → AreReplaysOfBoots plan c chips starts boots own → length own ≡ length boots
long_as plan c chips starts [] [] h = refl
long_as plan c chips starts [] (x ∷ own) h = absurd h
long_as plan c chips starts (boot ∷ boots) [] h = absurd h
long_as plan c chips starts (boot ∷ boots) (x ∷ own) h = ap suc (long_as plan c chips (end_states x) boots own h.1)

-- the next boot begins where the last course ended
last_states : (starts : List (ChipState SimFaults)) (own : List (Course SimFaults)) (x : Course SimFaults) (m : ℕ) → m ≡ length own + 1
    → starts_at starts (own ++ x ∷ []) m ≡ end_states x
last_states starts [] x zero e = absurd (omega (arith, e))
last_states starts [] x (suc zero) e = refl
last_states starts [] x (suc (suc m)) e = absurd (omega (arith, e))
last_states starts (y ∷ own) x zero e = absurd (omega (arith, e))
last_states starts (y ∷ own) x (suc m) e = last_states (end_states y) own x m (omega (arith, e))

got_early : {A : Type 0} (xs ys : List A) (k : ℕ) → k < length xs → slice_get (xs ++ ys) k ≡ slice_get xs k
got_early [] ys k below = absurd (omega (arith, below))
got_early (x ∷ xs) ys zero below = refl
got_early (x ∷ xs) ys (suc k) below = got_early xs ys k (omega (arith, below))

got_last : {A : Type 0} (xs : List A) (x : A) (k : ℕ) → length xs ≡ k → slice_get (xs ++ x ∷ []) k ≡ Some x
got_last [] x zero e = refl
got_last [] x (suc k) e = absurd (omega (arith, e))
got_last (y ∷ xs) x zero e = absurd (omega (arith, e))
got_last (y ∷ xs) x (suc k) e = got_last xs x k (omega (arith, e))

-- the notes of an earlier boot stay
earlier_notes : (standing : List Standing) (through : List Through) (k : ℕ) → length through ≡ length standing
    → ((i : ℕ) (s : Standing) → slice_get standing i ≡ Some s → k < length s.own)
    → map (notes_in k) (courses_of (joined standing through)) ≡ map (notes_in k) (courses_of standing)
earlier_notes [] through k same early = refl
earlier_notes (s ∷ standing) [] k same early = absurd (omega (arith, same))
earlier_notes (s ∷ standing) (t ∷ through) k same early =
    ap₂ (λ (notes : List Note) (more : List (List Note)). notes ∷ more) (ap notes_of_course (got_early s.own (t.course ∷ []) k (early zero s refl)))
    (earlier_notes standing through k (omega (arith, same)) (λ i x at. early (suc i) x at))

-- the notes of this boot are those of what the controllers left
last_notes : (standing : List Standing) (through : List Through) (k : ℕ) → length through ≡ length standing
    → ((i : ℕ) (s : Standing) → slice_get standing i ≡ Some s → length s.own ≡ k)
    → ((i : ℕ) (t : Through) → slice_get through i ≡ Some t → notes_of t.ended ≡ t.course.notes)
    → map (notes_in k) (courses_of (joined standing through)) ≡ map notes_of (ends_of through)
last_notes [] [] k same long left = refl
last_notes [] (t ∷ through) k same long left = absurd (omega (arith, same))
last_notes (s ∷ standing) [] k same long left = absurd (omega (arith, same))
last_notes (s ∷ standing) (t ∷ through) k same long left =
    ap₂ (λ (notes : List Note) (more : List (List Note)). notes ∷ more)
    (ap notes_of_course (got_last s.own t.course k (long zero s refl)) ∙ sym (left zero t refl))
    (last_notes standing through k (omega (arith, same)) (λ i x at. long (suc i) x at) (λ i x at. left (suc i) x at))

-- the states of the flashes that they left
last_flashes : (standing : List Standing) (through : List Through) → length through ≡ length standing
    → ((i : ℕ) (t : Through) → slice_get through i ≡ Some t → map lab_state t.ended.flashes ≡ end_states t.course)
    → states_left (ends_of through) ≡ states_of (joined standing through)
last_flashes [] [] same left = refl
last_flashes [] (t ∷ through) same left = absurd (omega (arith, same))
last_flashes (s ∷ standing) [] same left = absurd (omega (arith, same))
last_flashes (s ∷ standing) (t ∷ through) same left =
    ap₂ (λ (own : List (ChipState SimFaults)) (more : List (List (ChipState SimFaults))). own ∷ more) (left zero t refl)
    (last_flashes standing through (omega (arith, same)) (λ i x at. left (suc i) x at))

numbers-push : (m n : ℕ) → numbers_from m (n + 1) ≡ numbers_from m n ++ (m + n) ∷ []
numbers-push m zero = let e : m ≡ m + 0 = omega arith in ap (λ k. k ∷ []) e
numbers-push m (suc n) =
    let e : m + 1 + n ≡ m + suc n = omega arith in
    let one : suc n + 1 ≡ suc (n + 1) = omega arith in
    ap (numbers_from m) one ∙ ap (λ later. m ∷ later) (numbers-push (m + 1) n ∙ ap (λ k. numbers_from (m + 1) n ++ k ∷ []) e)

same_below : {A : Type 0} (f g : ℕ → A) (m n : ℕ) → ((k : ℕ) → k < m + n → f k ≡ g k) → map f (numbers_from m n) ≡ map g (numbers_from m n)
same_below f g m zero same = refl
same_below f g m (suc n) same =
    ap (λ y. y ∷ map f (numbers_from (m + 1) n)) (same m (omega arith))
    ∙ ap (λ ys. g m ∷ ys) (same_below f g (m + 1) n (λ k below. same k (omega (arith, below))))

boots_text-push : (plan : PlanData) (b : ℕ) (boots : List BootPlan) (notes : List (List (List Note))) (boot : BootPlan) (own : List (List Note))
    → length boots ≡ length notes
    → boots_text plan b (boots ++ boot ∷ []) (notes ++ own ∷ []) ≡ boots_text plan b boots notes ++ boot_text plan (b + length boots) boot own
boots_text-push plan b [] [] boot own same =
    append-nil (boot_text plan b boot own) ∙ ap (λ n. boot_text plan n boot own) (let e : b ≡ b + 0 = omega arith in e)
boots_text-push plan b [] (ns ∷ notes) boot own same = absurd (omega (arith, same))
boots_text-push plan b (x ∷ boots) [] boot own same = absurd (omega (arith, same))
boots_text-push plan b (x ∷ boots) (ns ∷ notes) boot own same =
    ap (λ t. boot_text plan b x ns ++ t) (boots_text-push plan (b + 1) boots notes boot own (omega (arith, same))
    ∙ ap (λ n. boots_text plan (b + 1) boots notes ++ boot_text plan n boot own) (let e : b + 1 + length boots ≡ b + suc (length boots) = omega arith in e))
    ∙ sym (append_assoc (boot_text plan b x ns) (boots_text plan (b + 1) boots notes) (boot_text plan (b + suc (length boots)) boot own))

module _ (plan : PlanData) (n : ℕ) (states after : List (List (ChipState SimFaults))) (text next : List ℕ) (h : HaveBeenThrough plan n states text)
    (e : EndBoot plan n states after text next) (below : n < length plan.boots) where
  same_many : length e.through ≡ length h.standing
  same_many = e.many ∙ sym h.many

  taken : length (take n plan.boots) ≡ n
  taken = length-take-le n plan.boots (omega (arith, below))

  long : (c : ℕ) (s : Standing) → slice_get h.standing c ≡ Some s → length s.own ≡ n
  long c s at = long_as plan c (chips_at plan c) (new_chips (chips_at plan c)) (take n plan.boots) s.own (h.each c s at).replays ∙ taken

  one_on : (c : ℕ) (now : Standing) → slice_get (joined h.standing e.through) c ≡ Some now → HasBeenThrough plan (n + 1) c now
  one_on c now at = subst (HasBeenThrough plan (n + 1) c) place.same (record {
    replays = subst (λ bs. AreReplaysOfBoots plan c (chips_at plan c) (new_chips (chips_at plan c)) bs (place.s.own ++ place.t.course ∷ []))
        (sym (take_more plan.boots n no_boot below))
        (one_boot_more plan c (chips_at plan c) (take n plan.boots) (new_chips (chips_at plan c)) place.s.own (boot_at plan n) place.t.course
        before.replays (subst (λ ss. IsReplayOfBoot plan c (chips_at plan c) (boot_at plan n) ss place.t.course) begins
        (e.are_through c place.t place.is_t).replay));
    states_are = sym (last_states (new_chips (chips_at plan c)) place.s.own place.t.course (n + 1) (let l = long c place.s place.is_s in omega (arith, l)));
  })
    where
      place : IsJoined h.standing e.through c now
      place = joined_at h.standing e.through c now at

      before : HasBeenThrough plan n c place.s
      before = h.each c place.s place.is_s

      same_states : place.t.starts ≡ place.s.states
      same_states = same_Some place.t.starts place.s.states
          (sym (at_mapped (λ (t : Through). t.starts) e.through c place.t place.is_t)
          ∙ ap (λ ss. slice_get ss c) (e.starts_are ∙ h.states_are)
          ∙ at_mapped (λ (s : Standing). s.states) h.standing c place.s place.is_s)

      begins : place.t.starts ≡ starts_at (new_chips (chips_at plan c)) place.s.own (length (take n plan.boots))
      begins = same_states ∙ before.states_are ∙ ap (starts_at (new_chips (chips_at plan c)) place.s.own) (sym taken)

  -- the notes of one boot more
  pub notes_on : notes_before (n + 1) (courses_of (joined h.standing e.through)) ≡ notes_before n (courses_of h.standing) ++ map notes_of (ends_of e.through) ∷ []
  notes_on =
      ap (map now) (numbers-push 0 n)
      ∙ map_push now (numbers_from 0 n) (0 + n)
      ∙ ap₂ (λ (earlier : List (List (List Note))) (last : List (List Note)). earlier ++ last ∷ [])
      (same_below now (λ k. map (notes_in k) (courses_of h.standing)) 0 n
      (λ k low. earlier_notes h.standing e.through k same_many (λ i s at. let l = long i s at in omega (arith, l, low))))
      (ap now (let zero_on : 0 + n ≡ n = omega arith in zero_on)
      ∙ last_notes h.standing e.through n same_many long (λ i t at. (e.are_through i t at).notes_are))
    where
      now : ℕ → List (List Note)
      now k = map (notes_in k) (courses_of (joined h.standing e.through))

  printed_on : next ≡ boots_text plan 0 (take (n + 1) plan.boots) (notes_before (n + 1) (courses_of (joined h.standing e.through)))
  printed_on =
      let many : length (take n plan.boots) ≡ length (notes_before n (courses_of h.standing)) =
      taken ∙ sym (length-map (numbers_from 0 n) (λ k. map (notes_in k) (courses_of h.standing)) ∙ length-numbers 0 n) in
      e.printed ∙ ap (λ t. t ++ boot_text plan n (boot_at plan n) (map notes_of (ends_of e.through))) h.printed
      ∙ ap (λ k. boots_text plan 0 (take n plan.boots) (notes_before n (courses_of h.standing)) ++ boot_text plan k (boot_at plan n) (map notes_of (ends_of e.through)))
      (let place : n ≡ 0 + length (take n plan.boots) = omega (arith, taken) in place)
      ∙ sym (ap₂ (boots_text plan 0) (take_more plan.boots n no_boot below) notes_on
      ∙ boots_text-push plan 0 (take n plan.boots) (notes_before n (courses_of h.standing)) (boot_at plan n) (map notes_of (ends_of e.through)) many)

  -- one boot more, and where each controller stands then
  pub joined_on : (h' : HaveBeenThrough plan (n + 1) after next) × (courses_of h'.standing ≡ courses_of (joined h.standing e.through))
  joined_on = (
    record {
      standing = joined h.standing e.through;
      many = length-joined h.standing e.through same_many ∙ h.many;
      each = one_on;
      states_are = e.after_are ∙ last_flashes h.standing e.through same_many (λ i t at. (e.are_through i t at).flashes_are);
      printed = printed_on;
    },
    refl,
  )

  pub boot_on : HaveBeenThrough plan (n + 1) after next
  boot_on = joined_on.0

-- after the last boot the courses are those of the plan's replay
pub all_replayed : (plan : PlanData) (n : ℕ) (states : List (List (ChipState SimFaults))) (text : List ℕ)
    → (h : HaveBeenThrough plan n states text) → n ≡ length plan.boots → AreReplay plan (courses_of h.standing)
all_replayed plan n states text h end = replays_joined plan (courses_of h.standing) all
  where
    whole : take n plan.boots ≡ plan.boots
    whole = take_all n plan.boots (omega (arith, end))

    all : AreReplaysOfAll plan (courses_of h.standing)
    all = record {
      controllers = length-map h.standing (λ (s : Standing). s.own) ∙ h.many;
      boots = λ c chips own is_chips is_own.
          let found = mapped_at (λ (s : Standing). s.own) h.standing c own is_own in
          subst₂ (λ cs os. AreReplaysOfBoots plan c cs (new_chips cs) plan.boots os) (get_or_from_slice_get plan.controllers c chips [] is_chips) found.2
          (subst (λ bs. AreReplaysOfBoots plan c (chips_at plan c) (new_chips (chips_at plan c)) bs found.0.own) whole (h.each c found.0 found.1).replays);
    }

-- and the text is its report
pub all_ended : (plan : PlanData) (n : ℕ) (states : List (List (ChipState SimFaults))) (text : List ℕ) → HaveBeenThrough plan n states text
    → n ≡ length plan.boots → IsReplayOf plan text
all_ended plan n states text h end =
    replay_reported plan (courses_of h.standing) text (all_replayed plan n states text h end)
    (h.printed ∙ ap (λ bs. boots_text plan 0 bs (notes_before n (courses_of h.standing))) (take_all n plan.boots (omega (arith, end)))
    ∙ ap (λ k. boots_text plan 0 plan.boots (notes_before k (courses_of h.standing))) end)
