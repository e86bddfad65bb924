-- What the boots add up to is what the plan's replay does.
use Rattle.std.proofs.Common.{◌≡◌, ◌<◌, ◌+◌, ℕ, zero, suc, List, [], ◌∷◌, ◌++◌, length, map, Some, refl, ap, sym, ◌∙◌, arith, append-nil}
use Rattle.std.specs.Prelude.{flat_map, slice_get, slice_index_or, sum_by}
use Rattle.std.proofs.lemmas.Grind.{flat_map-append}
use Rattle.std.proofs.lemmas.List.{length-map}
use Rattle.std.proofs.lemmas.List.Sums.{sum_by-cons}
use Rattle.std.proofs.lemmas.Option.{get_or_from_slice_get, same_Some}
use Rattle.nand_model.specs.Chip.{ChipState, SimFaults}
use Rattle.nand_model.specs.Sizes.{numbers_from}
use Rattle.nand_model.specs.declared.words.Note.{Note}
use Rattle.run_model.specs.Course.{Course}
use Rattle.ctl_core.proofs.Positions.{mapped_at}
use Rattle.plan_grammar.specs.Rules.{last_of}
use Rattle.plan_index.proofs.LastItems.{last_of_push}
use Rattle.plan_model.specs.Plan.{ChipPlan, PlanData, devices_of, new_chips}
use Rattle.plan_laws.specs.Ready.{chips_at}
use Rattle.report_model.specs.Report.{report_text}
use Rattle.headline_model.specs.Headline.{Courses, notes_of_run}
use Rattle.headline_laws.specs.Replays.{AreReplaysOfBoots}
use Rattle.headline_laws.proofs.Reports.{replay_reported}
use Rattle.made_plan.specs.Summary.{all_notes, bad_after, bad_at_end, bad_of_controller, sums_of}
use Rattle.made_plan.specs.declared.summary.Sums.{Sums}
use Rattle.plan_replay.specs.declared.controller.EndedController.{EndedController}
use Rattle.plan_replay.specs.Boots.{EndBoot, HaveBeenThrough, Standing, Through, courses_of, ends_of, notes_before, notes_of}
use Rattle.plan_replay.proofs.Replays.{all_replayed, before_all, joined, joined_on, notes_on}
use Rattle.made_replay.specs.AddedUp.{AddsUpBoot, AreTotalsOf, notes_joined}
use Rattle.made_replay.specs.declared.replay.Totals.{Totals}
use Rattle.made_replay.proofs.Adding.{States}

-- the notes of boots, one after the other
abbrev all_of : List (List (List Note)) → List Note
all_of notes = flat_map (flat_map (λ (own : List Note). own)) notes

-- the first n boots add up to this
pub record AddUp (plan : PlanData) (n : ℕ) (states : States) (sums : Sums) (bad : ℕ) : Type 0 where
  pub text : List ℕ
  pub been : HaveBeenThrough plan n states text
  pub sums_are : sums ≡ sums_of (all_of (notes_before n (courses_of been.standing)))
  pub bad_are : bad ≡ bad_at_end plan (courses_of been.standing)

-- numbers that are all 0
no_sum : (f : ℕ → ℕ) (m n : ℕ) → ((k : ℕ) → f k ≡ 0) → sum_by f (numbers_from m n) ≡ 0
no_sum f m zero none = refl
no_sum f m (suc n) none =
    let later = no_sum f (m + 1) n none in
    let all : f m + sum_by f (numbers_from (m + 1) n) ≡ 0 = omega (arith, none m, later) in
    sum_by-cons f m (numbers_from (m + 1) n) ∙ all

-- sums over places and over what stands there
sum_at : {A : Type 0} (f : ℕ → ℕ) (g : A → ℕ) (xs : List A) (m : ℕ) → ((k : ℕ) (x : A) → slice_get xs k ≡ Some x → f (m + k) ≡ g x)
    → sum_by f (numbers_from m (length xs)) ≡ sum_by g xs
sum_at f g [] m same = refl
sum_at f g (x ∷ xs) m same =
    let here : f m ≡ g x = ap f (let e : m ≡ m + 0 = omega arith in e) ∙ same 0 x refl in
    let later = sum_at f g xs (m + 1) (λ k y at. ap f (let e : m + 1 + k ≡ m + suc k = omega arith in e) ∙ same (suc k) y at) in
    let all : f m + sum_by f (numbers_from (m + 1) (length xs)) ≡ g x + sum_by g xs = omega (arith, here, later) in
    sum_by-cons f m (numbers_from (m + 1) (length xs)) ∙ all ∙ sym (sum_by-cons g x xs)

-- a controller that went through the boot stands behind its earlier courses
joined_got : (standing : List Standing) (through : List Through) (k : ℕ) (t : Through) → length through ≡ length standing
    → slice_get through k ≡ Some t → (s : Standing) × (slice_get (courses_of (joined standing through)) k ≡ Some (s.own ++ t.course ∷ []))
joined_got standing [] k t same at = cc
joined_got [] (u ∷ through) k t same at = absurd (omega (arith, same))
joined_got (s ∷ standing) (u ∷ through) zero t same at =
    (s, ap (λ (x : Through). Some (s.own ++ x.course ∷ [])) (same_Some u t at))
joined_got (s ∷ standing) (u ∷ through) (suc k) t same at = joined_got standing through k t (omega (arith, same)) at

module _ (plan : PlanData) (n : ℕ) (states after : States) (sums more : Sums) (bad left : ℕ) (h : AddUp plan n states sums bad)
    (e : AddsUpBoot plan n states after sums more left) (below : n < length plan.boots) where
  abbrev earlier : List (List (List Note))
  earlier = notes_before n (courses_of h.been.standing)

  abbrev courses : Courses
  courses = courses_of (joined h.been.standing e.ended.through)

  -- the boot, its text behind that of the boots before it
  abbrev behind : EndBoot plan n states after h.text (h.text ++ e.text)
  behind = record {
    through = e.ended.through;
    are_through = e.ended.are_through;
    starts_are = e.ended.starts_are;
    after_are = e.ended.after_are;
    many = e.ended.many;
    printed = ap (λ text. h.text ++ text) e.ended.printed;
  }

  -- the bad blocks of a controller are those that it left
  left_bad : (k : ℕ) (ended : EndedController) → slice_get (ends_of e.ended.through) k ≡ Some ended → bad_of_controller plan courses (0 + k) ≡ ended.bad
  left_bad k ended at =
      let found = mapped_at (λ (t : Through). t.ended) e.ended.through k ended at in
      let got = joined_got h.been.standing e.ended.through k found.0 (e.ended.many ∙ sym h.been.many) found.1 in
      let course = found.0.course in
      let place : 0 + k ≡ k = omega arith in
      ap (bad_of_controller plan courses) place
      ∙ ap (λ own. bad_after (devices_of plan k (chips_at plan k)) (last_of own)) (get_or_from_slice_get courses k (got.0.own ++ course ∷ []) [] got.1)
      ∙ ap (bad_after (devices_of plan k (chips_at plan k))) (last_of_push got.0.own course)
      ∙ sym (e.ended.are_through k found.0 found.1).bad_are
      ∙ ap (λ (x : EndedController). x.bad) found.2

  all_left : left ≡ bad_at_end plan courses
  all_left =
      let many : length (ends_of e.ended.through) ≡ length plan.controllers = length-map e.ended.through (λ (t : Through). t.ended) ∙ e.ended.many in
      e.bad_are ∙ sym (sum_at (bad_of_controller plan courses) (λ (x : EndedController). x.bad) (ends_of e.ended.through) 0 left_bad)
      ∙ ap (λ m. sum_by (bad_of_controller plan courses) (numbers_from 0 m)) many

  all_added : more ≡ sums_of (all_of (notes_before (n + 1) courses))
  all_added =
      e.sums_are (all_of earlier) h.sums_are
      ∙ ap (λ notes. sums_of (all_of earlier ++ notes)) (sym (append-nil (notes_joined (ends_of e.ended.through))))
      ∙ ap sums_of (sym (flat_map-append (flat_map (λ (own : List Note). own)) earlier (map notes_of (ends_of e.ended.through) ∷ [])))
      ∙ ap (λ notes. sums_of (all_of notes))
      (sym (notes_on plan n states after h.text (h.text ++ e.text) h.been behind below))

  -- one boot more
  pub one_more : AddUp plan (n + 1) after more left
  one_more =
      let next = joined_on plan n states after h.text (h.text ++ e.text) h.been behind below in
      record {
        text = h.text ++ e.text;
        been = next.0;
        sums_are = all_added ∙ ap (λ cs. sums_of (all_of (notes_before (n + 1) cs))) (sym next.1);
        bad_are = all_left ∙ ap (bad_at_end plan) (sym next.1);
      }

-- no boot, no course
no_courses : (plan : PlanData) (c : ℕ) (chips : List ChipPlan) (starts : List (ChipState SimFaults)) (own : List (Course SimFaults))
    → AreReplaysOfBoots plan c chips starts [] own → own ≡ []
no_courses plan c chips starts [] h = refl
no_courses plan c chips starts (x ∷ own) h = absurd h

none_of : (standing : List Standing) → ((c : ℕ) (s : Standing) → slice_get standing c ≡ Some s → s.own ≡ []) → (k : ℕ)
    → slice_index_or (courses_of standing) k [] ≡ []
none_of [] each k = refl
none_of (s ∷ standing) each zero = each 0 s refl
none_of (s ∷ standing) each (suc k) = none_of standing (λ c x at. each (suc c) x at) k

none_bad : (plan : PlanData) (states : States) (text : List ℕ) (h : HaveBeenThrough plan 0 states text) → bad_at_end plan (courses_of h.standing) ≡ 0
none_bad plan states text h =
    no_sum (bad_of_controller plan (courses_of h.standing)) 0 (length plan.controllers)
    (λ k. ap (λ own. bad_after (devices_of plan k (chips_at plan k)) (last_of own)) (none_of h.standing
    (λ c s at. no_courses plan c (chips_at plan c) (new_chips (chips_at plan c)) s.own (h.each c s at).replays) k))

-- before the first boot
pub none_before : (plan : PlanData) (states : States) (sums : Sums) → states ≡ map new_chips plan.controllers → sums ≡ sums_of [] → AddUp plan 0 states sums 0
none_before plan states sums new none =
    let been = before_all plan states [] new refl in
    record { text = []; been = been; sums_are = none; bad_are = sym (none_bad plan states [] been) }

-- after the last boot
pub all_up : (plan : PlanData) (n : ℕ) (states : States) (totals : Totals) → AddUp plan n states totals.sums totals.bad_blocks → n ≡ length plan.boots
    → AreTotalsOf plan totals
all_up plan n states totals h end =
    let courses = courses_of h.been.standing in
    let replay = all_replayed plan n states h.text h.been end in
    let whole = replay_reported plan courses (report_text plan (notes_of_run plan courses)) replay refl in
    let same : courses ≡ whole.courses = whole.only courses replay in
    record {
      report = report_text plan (notes_of_run plan courses);
      replay = whole;
      sums_are = h.sums_are ∙ ap (λ k. sums_of (all_of (notes_before k courses))) end ∙ ap (λ cs. sums_of (all_notes plan cs)) same;
      bad_are = h.bad_are ∙ ap (bad_at_end plan) same;
    }
