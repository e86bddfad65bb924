-- All controllers go through a boot, one after the other.
use Rattle.std.proofs.Common.{◌≡◌, ◌<◌, ◌⊎◌, inl, inr, ℕ, List, [], ◌∷◌, ◌++◌, length, map, Some, refl, ap, sym, ◌∙◌, subst, arith, append_assoc, append-nil}
use Rattle.std.specs.Prelude.{codes, decimal, flat_map, slice_get}
use Rattle.std.proofs.lemmas.List.{length-map, map_push}
use Rattle.std.proofs.lemmas.Option.{slice_get_within}
use Rattle.nand_model.specs.Chip.{ChipState, SimFaults}
use Rattle.run_model.specs.Course.{Course}
use Rattle.plan_model.specs.Plan.{PlanData}
use Rattle.plan_laws.specs.Ready.{HaveSizes, boot_at, chips_at}
use Rattle.report_model.specs.Report.{boot_text, controller_lines, line, session_lines}
use Rattle.ctl_core.proofs.FirstAndLast.{pushed_at}
use Rattle.ctl_core.proofs.Positions.{mapped_at}
use Rattle.plan_replay.specs.declared.controller.EndedController.{EndedController}
use Rattle.plan_replay.specs.Ends.{notes_text}
use Rattle.plan_replay.specs.Boots.{AllHaveSizes, AreThrough, EndBoot, EndByNotes, EndsBoot, EndsByNotes, GoThroughBoot, Through, devices_text, ends_of, notes_of, starts_of, states_left}
use Rattle.plan_replay.proofs.Lines.{all_devices, next_controller}
use Rattle.plan_replay.proofs.Own.{got_at}

-- some controllers went through a boot, and these are left
pub record AreOnTheWay (plan : PlanData) (n : ℕ) (starts rest : List (List (ChipState SimFaults))) (ends : List EndedController)
    (before text : List ℕ) : Type 0 where
  pub through : List Through
  pub are_through : AreThrough plan n through
  pub starts_are : starts_of through ++ rest ≡ starts
  pub ends_are : ends_of through ≡ ends
  pub printed : text ≡ before ++ controller_lines 0 (map notes_of ends)

-- how many went through
count_of : (plan : PlanData) (n : ℕ) (starts rest : List (List (ChipState SimFaults))) (ends : List EndedController) (before text : List ℕ)
    → (h : AreOnTheWay plan n starts rest ends before text) → length ends ≡ length (starts_of h.through)
count_of plan n starts rest ends before text h =
    ap length (sym h.ends_are) ∙ length-map h.through (λ (t : Through). t.ended) ∙ sym (length-map h.through (λ (t : Through). t.starts))

-- none has begun
pub none_through : (plan : PlanData) (n : ℕ) (starts : List (List (ChipState SimFaults))) (ends : List EndedController) (text : List ℕ) → ends ≡ []
    → AreOnTheWay plan n starts starts ends text text
none_through plan n starts ends text none = record {
  through = [];
  are_through = λ c t at. cc;
  starts_are = refl;
  ends_are = sym none;
  printed = sym (append-nil text) ∙ ap (λ (es : List EndedController). text ++ controller_lines 0 (map notes_of es)) (sym none);
}

module _ (plan : PlanData) (n : ℕ) (starts rest later : List (List (ChipState SimFaults))) (own : List (ChipState SimFaults)) (ends : List EndedController)
    (before text : List ℕ) (h : AreOnTheWay plan n starts rest ends before text) (split : rest ≡ own ∷ later) where
  own_at : slice_get starts (length ends) ≡ Some own
  own_at =
      ap (λ ss. slice_get ss (length ends)) (sym h.starts_are ∙ ap (λ r. starts_of h.through ++ r) split)
      ∙ ap (slice_get (starts_of h.through ++ own ∷ later)) (count_of plan n starts rest ends before text h)
      ∙ got_at (starts_of h.through) own later

  -- the next controller is there
  pub next_there : AllHaveSizes plan starts → length ends < length plan.controllers
  next_there sizes = let below = slice_get_within starts (length ends) own own_at in let many = sizes.many in omega (arith, below, many)

  -- and its flashes have its sizes
  pub next_sizes : AllHaveSizes plan starts → HaveSizes (chips_at plan (length ends)) own
  next_sizes sizes = sizes.each (length ends) own own_at

  -- it goes through the boot
  pub next_through : (ended : EndedController) (next : List ℕ) → (course : Course SimFaults) × EndsBoot plan n (length ends) own course ended
      → next ≡ text ++ notes_text (length ends) (notes_of ended) → AreOnTheWay plan n starts later (ends ++ ended ∷ []) before next
  next_through ended next went added = record {
    through = h.through ++ last ∷ [];
    are_through = λ c t at. by_place c t (pushed_at h.through last c t at);
    starts_are = ap (λ ss. ss ++ later) (map_push (λ (t : Through). t.starts) h.through last)
        ∙ append_assoc (starts_of h.through) (own ∷ []) later
        ∙ ap (λ r. starts_of h.through ++ r) (sym split) ∙ h.starts_are;
    ends_are = map_push (λ (t : Through). t.ended) h.through last ∙ ap (λ es. es ++ ended ∷ []) h.ends_are;
    printed = next_controller before text next ends ended h.printed added;
  }
    where
      last : Through
      last = record { starts = own; course = went.0; ended = ended }

      place : length ends ≡ length h.through
      place = ap length (sym h.ends_are) ∙ length-map h.through (λ (t : Through). t.ended)

      by_place : (c : ℕ) (t : Through) → (slice_get h.through c ≡ Some t) ⊎ ((c ≡ length h.through) × (last ≡ t)) → EndsBoot plan n c t.starts t.course t.ended
      by_place c t (inl old) = h.are_through c t old
      by_place c t (inr new) =
          subst (λ (x : Through). EndsBoot plan n c x.starts x.course x.ended) new.1
          (subst (λ k. EndsBoot plan n k own went.0 ended) (place ∙ sym new.0) went.1)

-- all went through
pub all_through : (plan : PlanData) (n : ℕ) (starts rest : List (List (ChipState SimFaults))) (ends : List EndedController) (before text : List ℕ)
    → AreOnTheWay plan n starts rest ends before text → rest ≡ [] → AllHaveSizes plan starts → GoThroughBoot plan n starts ends before text
all_through plan n starts rest ends before text h none sizes = record {
  through = h.through;
  are_through = h.are_through;
  starts_are = all;
  ends_are = h.ends_are;
  many = count_of plan n starts rest ends before text h ∙ ap length all ∙ sizes.many;
  printed = h.printed;
}
  where
    all : starts_of h.through ≡ starts
    all = sym (append-nil (starts_of h.through)) ∙ ap (λ r. starts_of h.through ++ r) (sym none) ∙ h.starts_are

-- their sessions ended and their devices counted as their notes say
pub by_notes : (plan : PlanData) (n : ℕ) (starts : List (List (ChipState SimFaults))) (ends : List EndedController) (before text : List ℕ)
    → GoThroughBoot plan n starts ends before text → EndByNotes plan n ends
by_notes plan n starts ends before text h = record {
  many = h.many;
  each = λ c ended at.
      let found = mapped_at (λ (t : Through). t.ended) h.through c ended (ap (λ es. slice_get es c) h.ends_are ∙ at) in
      subst (EndsByNotes plan n c) found.2 (h.are_through c found.0 found.1).by_notes;
}

pieces : (o a b c d e : List ℕ) → o ++ a ++ b ++ c ++ d ++ e ≡ o ++ (a ++ b ++ c ++ d ++ e)
pieces o a b c d e = simp append_assoc refl

-- the text of a boot, piece after piece
pub boot_ended : (plan : PlanData) (n : ℕ) (starts after : List (List (ChipState SimFaults))) (ends : List EndedController) (o0 o1 o2 o3 o4 o5 : List ℕ)
    → o1 ≡ o0 ++ line (codes "boot " ++ decimal n) → GoThroughBoot plan n starts ends o1 o2
    → o3 ≡ o2 ++ session_lines plan 0 (boot_at plan n).sessions (map notes_of ends) → o4 ≡ o3 ++ flat_map devices_text ends
    → o5 ≡ o4 ++ line (codes "end boot " ++ decimal n) → after ≡ states_left ends → EndBoot plan n starts after o0 o5
boot_ended plan n starts after ends o0 o1 o2 o3 o4 o5 e1 h e3 e4 e5 left = record {
  through = h.through;
  are_through = h.are_through;
  starts_are = h.starts_are;
  after_are = left ∙ ap states_left (sym h.ends_are);
  many = sym (length-map h.through (λ (t : Through). t.ended)) ∙ ap length h.ends_are ∙ h.many;
  printed = e5 ∙ ap (λ o. o ++ last) (e4 ∙ ap (λ o. o ++ flat_map devices_text ends) (e3 ∙ ap (λ o. o ++ sessions) (h.printed ∙ ap (λ o. o ++ controllers) e1)))
      ∙ pieces o0 first controllers sessions (flat_map devices_text ends) last
      ∙ ap (λ t. o0 ++ (first ++ controllers ++ sessions ++ t ++ last)) (all_devices plan n ends (by_notes plan n starts ends o1 o2 h).each)
      ∙ ap (λ (es : List EndedController). o0 ++ boot_text plan n (boot_at plan n) (map notes_of es)) (sym h.ends_are);
}
  where
    first : List ℕ
    first = line (codes "boot " ++ decimal n)

    last : List ℕ
    last = line (codes "end boot " ++ decimal n)

    controllers : List ℕ
    controllers = controller_lines 0 (map notes_of ends)

    sessions : List ℕ
    sessions = session_lines plan 0 (boot_at plan n).sessions (map notes_of ends)
