-- Two chips that start alike and are asked alike answer alike.
use Rattle.std.proofs.Common.{◌≡◌, ℕ, Bool, true, false, List, [], ◌∷◌, ◌++◌, Option, Some, None, refl, ap, sym, ◌∙◌, subst, subst₂, append_assoc}
use Rattle.std.specs.Prelude.{is_none}
use Rattle.std.proofs.lemmas.Bool.{eq-eqb}
use Rattle.std.proofs.lemmas.Option.{none-some, same_Some}
use Rattle.nand_model.specs.declared.geometry.Geometry.{Geometry}
use Rattle.nand_model.specs.declared.words.Part.{Part}
use Rattle.nand_model.specs.declared.words.Note.{Note}
use Rattle.nand_model.specs.declared.words.Op.{Op}
use Rattle.nand_model.specs.declared.words.Op.TheVariants.{Read, Write, RawRead, RawWrite, Erase, IsBad, Mark, Stats}
use Rattle.nand_model.specs.declared.words.Reply.{Reply}
use Rattle.nand_model.specs.Sizes.{raw_len}
use Rattle.nand_model.specs.Chip.{ChipState, FaultModel, ChipEvent, after_trace}
use Rattle.nand_model.specs.Path.{Path, GoesAlong, answers_of, is_uncut, after_answers, first_event, next_event, result_of}
use Rattle.chip_paths.specs.Attach.{Attaching, attach_path}
use Rattle.nand_model.specs.Partitions.{Partitions, part_of, device_of, chip_of, chip_of_part}
use Rattle.chip_paths.specs.Operation.{Known, Finished, operation_in, operation_by, operation_path}
use Rattle.chip_paths.specs.ChipRun.{known_at_first}
use Rattle.run_model.specs.Course.{course_after}
use Rattle.run_model.specs.History.{OperationTrace, ChipBoot, events_in, notes_of_trace, notes_of_operation, answer_note, attach_outcome, outcome_if, known_then, IsOperationTrace, AreOperationTraces, GoesOn, IsChipHistory}
use Rattle.run_model.specs.Laws.{ops_in, replies_in, AgreeAsFar, IsSamePart, SamePartitions, RepliesDependOnTheChip}
use Rattle.run_laws.proofs.Paths.{over_has_no_event}
use Rattle.run_laws.proofs.Life.{traces_of}
use Rattle.run_laws.proofs.Sessions.{nowhere}
use Rattle.run_laws.proofs.Faithful.{course_holds, log_of, LifeLaw, life_at}
use Rattle.run_laws.proofs.Alone.{IsPlain, plain_left, plain_right, calm_is_plain, same_trace, trace_ops, trace_replies, BegunOn, begun_right, begun_on}

-- an operation asks only where its part begins and how long it is
bare : Part → Part
bare p = record { chip = 0; start = p.start; count = p.count }

path_bare : (g : Geometry) (k : Known) (p : Part) (op : Op) → operation_in g k p op ≡ operation_in g k (bare p) op
unfolding bare
path_bare g k p (Read dev page) = refl
path_bare g k p (Write dev page body free) = refl
path_bare g k p (RawRead dev page) = refl
path_bare g k p (RawWrite dev page image) = refl
path_bare g k p (Erase dev block) = refl
path_bare g k p (IsBad dev block) = refl
path_bare g k p (Mark dev block) = refl
path_bare g k p (Stats dev) = refl

-- parts that are alike but for their chips have the same paths
same_paths : (j k : ℕ) (a b : Option Part) → IsSamePart j k a b → chip_of_part a ≡ Some j → (g : Geometry) (h : Known) (op : Op) → operation_by g h a op ≡ operation_by g h b op
unfolding bare
same_paths j k None b same on g h op = absurd (none-some j on)
same_paths j k (Some p) None same on g h op = absurd (same (eq-eqb _ _ (same_Some _ _ on)))
same_paths j k (Some p) (Some q) same on g h op =
    let s = same (eq-eqb _ _ (same_Some _ _ on)) in
    path_bare g h p op ∙ ap (λ (m : ℕ). operation_in g h (record { chip = 0; start = m; count = p.count }) op) (sym s.1)
    ∙ ap (λ (m : ℕ). operation_in g h (record { chip = 0; start = q.start; count = m }) op) (sym s.2) ∙ sym (path_bare g h q op)

-- an attach has come to its outcome by its answers
outcome_over : (uncut : Bool) (result : Option Attaching) (attaching : Attaching) → outcome_if uncut result ≡ Some attaching → result ≡ Some attaching
outcome_over true result attaching h = h
outcome_over false result attaching h = absurd (none-some attaching h)

agree_right : {A : Type 0} (xs : List A) → AgreeAsFar xs []
agree_right [] = tt
agree_right (x ∷ xs) = tt

abbrev replies_of : Option Reply → List Reply
replies_of None = []
replies_of (Some reply) = reply ∷ []

note_ops : (session : ℕ) (o : Option Reply) (rest : List Note) → ops_in (answer_note session o ++ rest) ≡ ops_in rest
note_ops session None rest = refl
note_ops session (Some reply) rest = refl

note_replies : (session : ℕ) (o : Option Reply) (rest : List Note) → replies_in (answer_note session o ++ rest) ≡ replies_of o ++ replies_in rest
note_replies session None rest = refl
note_replies session (Some reply) rest = refl

module _ {W : Type 0} (model : FaultModel W) where
  operation_ops : (k : ℕ) (s : ChipState W) (e : OperationTrace) (rest : List Note) → ops_in (notes_of_operation model k s e ++ rest) ≡ e.op ∷ ops_in rest
  operation_ops k s e rest = ap (λ zs. e.op ∷ zs) (ap ops_in (append_assoc (notes_of_trace model k s e.trace) _ _) ∙ trace_ops model k s e.trace _ ∙ note_ops e.session e.reply rest)

  operation_replies : (k : ℕ) (s : ChipState W) (e : OperationTrace) (rest : List Note) → replies_in (notes_of_operation model k s e ++ rest) ≡ replies_of e.reply ++ replies_in rest
  operation_replies k s e rest = ap replies_in (append_assoc (notes_of_trace model k s e.trace) _ _) ∙ trace_replies model k s e.trace _ ∙ note_replies e.session e.reply rest

module _ {W : Type 0} (model : FaultModel W) (a b : Partitions) (j k : ℕ) (same : SamePartitions a j b k) where
  -- one operation on each side, and what follows
  step_agrees : (s : ChipState W) (h : Known) (e f : OperationTrace) (ops fs : List OperationTrace) (rest others : List Note) (re rf : Option Reply)
      → e.reply ≡ re → f.reply ≡ rf
      → IsOperationTrace model a s h e.op (events_in e.trace) re → IsOperationTrace model b s h f.op (events_in f.trace) rf
      → (is_none re ≡ true → ops ≡ []) → (is_none rf ≡ true → fs ≡ [])
      → AreOperationTraces model a j (after_trace model s (events_in e.trace)) (known_then h (result_of (after_answers (answers_of model s (events_in e.trace)) (operation_path s.geometry a h e.op)))) ops rest
      → AreOperationTraces model b k (after_trace model s (events_in f.trace)) (known_then h (result_of (after_answers (answers_of model s (events_in f.trace)) (operation_path s.geometry b h f.op)))) fs others
      → chip_of a (device_of e.op) ≡ Some j → IsPlain e.trace → IsPlain f.trace
      → e.op ≡ f.op
      → ((t : ChipState W) (z : Known) → AreOperationTraces model a j t z ops rest → AreOperationTraces model b k t z fs others → AgreeAsFar (replies_in rest) (replies_in others))
      → AgreeAsFar (replies_of re ++ replies_in rest) (replies_of rf ++ replies_in others)
  step_agrees s h e f ops fs rest others None rf u v x y l m more many on p q op ih =
      let none : rest ≡ [] = subst (λ zs. AreOperationTraces model a j (after_trace model s (events_in e.trace)) (known_then h (result_of (after_answers (answers_of model s (events_in e.trace)) (operation_path s.geometry a h e.op)))) zs rest) (l refl) more in
      subst (λ zs. AgreeAsFar (replies_in zs) (replies_of rf ++ replies_in others)) (sym none) tt
  step_agrees s h e f ops fs rest others (Some r) None u v x y l m more many on p q op ih =
      let none : others ≡ [] = subst (λ zs. AreOperationTraces model b k (after_trace model s (events_in f.trace)) (known_then h (result_of (after_answers (answers_of model s (events_in f.trace)) (operation_path s.geometry b h f.op)))) zs others) (m refl) many in
      subst (λ zs. AgreeAsFar (r ∷ replies_in rest) (replies_in zs)) (sym none) tt
  step_agrees s h e f ops fs rest others (Some r) (Some t) u v x y l m more many on p q op ih = (
    ap (λ (z : Finished). z.reply) (same_Some (record { reply = r; known = x.0 }) (record { reply = t; known = y.0 }) (sym x.1.over ∙ results ∙ y.1.over)),
    ih (after_trace model s (events_in e.trace)) (known_then h (result_of (after_answers (answers_of model s (events_in e.trace)) (operation_path s.geometry a h e.op)))) more
        (subst₂ (λ w z. AreOperationTraces model b k w z fs others) (sym (ap (after_trace model s) events)) (ap (known_then h) (sym results)) many),
  )
    where
      path : Path Finished
      path = operation_path s.geometry a h e.op

      paths : path ≡ operation_path s.geometry b h f.op
      paths = same_paths j k (part_of a (device_of e.op)) (part_of b (device_of e.op)) (same (device_of e.op)) on s.geometry h e.op ∙ ap (λ z. operation_path s.geometry b h z) op

      events : events_in e.trace ≡ events_in f.trace
      events = same_trace model (next_event path) s [] e.trace f.trace p q x.1.along
          (subst (λ z. GoesAlong model (next_event z) s [] (events_in f.trace)) (sym paths) y.1.along)
          (over_has_no_event _ _ x.1.over)
          (subst (λ z. first_event (after_answers (answers_of model s (events_in f.trace)) z) ≡ None) (sym paths) (over_has_no_event _ _ y.1.over))

      results : result_of (after_answers (answers_of model s (events_in e.trace)) path) ≡ result_of (after_answers (answers_of model s (events_in f.trace)) (operation_path s.geometry b h f.op))
      results = ap (λ zs. result_of (after_answers (answers_of model s zs) path)) events ∙ ap (λ z. result_of (after_answers (answers_of model s (events_in f.trace)) z)) paths

  operations_agree : (s : ChipState W) (h : Known) (ops fs : List OperationTrace) (notes others : List Note)
      → AreOperationTraces model a j s h ops notes → AreOperationTraces model b k s h fs others → BegunOn a j notes
      → IsPlain (traces_of ops) → IsPlain (traces_of fs)
      → AgreeAsFar (ops_in notes) (ops_in others) → AgreeAsFar (replies_in notes) (replies_in others)
  operations_agree s h [] fs notes others x y on p q agree = subst (λ ns. AgreeAsFar (replies_in ns) (replies_in others)) (sym x) tt
  operations_agree s h (e ∷ ops) [] notes others x y on p q agree = subst (λ ns. AgreeAsFar (replies_in notes) (replies_in ns)) (sym y) (agree_right (replies_in notes))
  operations_agree s h (e ∷ ops) (f ∷ fs) notes others x y on p q agree =
      let on' : BegunOn a j (notes_of_operation model j s e ++ x.2.0) = subst (BegunOn a j) x.2.1 on in
      let agree' : AgreeAsFar (e.op ∷ ops_in x.2.0) (f.op ∷ ops_in y.2.0) = subst₂ AgreeAsFar (ap ops_in x.2.1 ∙ operation_ops model j s e x.2.0) (ap ops_in y.2.1 ∙ operation_ops model k s f y.2.0) agree in
      subst₂ AgreeAsFar (sym (ap replies_in x.2.1 ∙ operation_replies model j s e x.2.0)) (sym (ap replies_in y.2.1 ∙ operation_replies model k s f y.2.0))
      (step_agrees s h e f ops fs x.2.0 y.2.0 e.reply f.reply refl refl x.0 y.0 x.1 y.1 x.2.2 y.2.2 on'.0 (plain_left e.trace _ p) (plain_left f.trace _ q) agree'.0
      (λ t z v w. operations_agree t z ops fs x.2.0 y.2.0 v w (begun_right a j (notes_of_operation model j s e) x.2.0 on') (plain_right e.trace _ p) (plain_right f.trace _ q) agree'.1))

  -- the two attaches and what follows
  chips_agree : (s : ChipState W) (xs ys : List (ℕ × ChipEvent)) (ops fs : List OperationTrace) (one two : List Note)
      → IsChipHistory model a j s xs ops one → IsChipHistory model b k s ys fs two → BegunOn a j one
      → IsPlain xs → IsPlain ys → IsPlain (traces_of ops) → IsPlain (traces_of fs)
      → AgreeAsFar (ops_in one) (ops_in two) → AgreeAsFar (replies_in one) (replies_in two)
  chips_agree s xs ys ops fs one two x y on px py pe pf agree =
      subst₂ AgreeAsFar (sym (ap replies_in x.notes_are ∙ trace_replies model j s xs x.later)) (sym (ap replies_in y.notes_are ∙ trace_replies model k s ys y.later))
      (by_outcome (attach_outcome model s (events_in xs)) (attach_outcome model s (events_in ys)) refl refl x.goes_on y.goes_on)
    where
      on' : BegunOn a j x.later
      on' = begun_right a j (notes_of_trace model j s xs) x.later (subst (BegunOn a j) x.notes_are on)

      agree' : AgreeAsFar (ops_in x.later) (ops_in y.later)
      agree' = subst₂ AgreeAsFar (ap ops_in x.notes_are ∙ trace_ops model j s xs x.later) (ap ops_in y.notes_are ∙ trace_ops model k s ys y.later) agree

      events : (u v : Attaching) → attach_outcome model s (events_in xs) ≡ Some u → attach_outcome model s (events_in ys) ≡ Some v → events_in xs ≡ events_in ys
      events u v e f = same_trace model (next_event (attach_path s.geometry)) s [] xs ys px py x.along y.along
          (over_has_no_event _ u (outcome_over (is_uncut (events_in xs)) _ u e)) (over_has_no_event _ v (outcome_over (is_uncut (events_in ys)) _ v f))

      by_outcome : (u v : Option Attaching) → attach_outcome model s (events_in xs) ≡ u → attach_outcome model s (events_in ys) ≡ v
          → GoesOn model u a j s (events_in xs) ops x.later → GoesOn model v b k s (events_in ys) fs y.later → AgreeAsFar (replies_in x.later) (replies_in y.later)
      by_outcome None v e f m n = subst (λ zs. AgreeAsFar (replies_in zs) (replies_in y.later)) (sym m.0) tt
      by_outcome (Some u) None e f m n = subst (λ zs. AgreeAsFar (replies_in x.later) (replies_in zs)) (sym n.0) (agree_right (replies_in x.later))
      by_outcome (Some u) (Some v) e f m n =
          let same_events : events_in xs ≡ events_in ys = events u v e f in
          let same_start : v ≡ u = same_Some v u (sym f ∙ sym (ap (attach_outcome model s) same_events) ∙ e) in
          subst₂ AgreeAsFar (sym (ap replies_in m.1)) (sym (ap replies_in n.1))
          (operations_agree (after_trace model s (events_in xs)) (known_at_first u) ops fs m.0 n.0 m.2
          (subst₂ (λ zs z. AreOperationTraces model b k (after_trace model s zs) (known_at_first z) fs n.0) (sym same_events) same_start n.2)
          (subst (BegunOn a j) m.1 on') pe pf (subst₂ AgreeAsFar (ap ops_in m.1) (ap ops_in n.1) agree'))

pub depend_on_the_chip : {W : Type 0} (model : FaultModel W) → RepliesDependOnTheChip model
depend_on_the_chip {W} model first second starts others attaches more turns later j k s calm still e f same agree =
    chips_agree model first.partitions second.partitions j k same s one.0.attach two.0.attach one.0.operations two.0.operations _ _ one.1.0 two.1.0
    (begun_on first.partitions nowhere j (course_after model first starts attaches turns).notes)
    (plain_left one.0.attach _ plain) (plain_left two.0.attach _ plain') (plain_right one.0.attach _ plain) (plain_right two.0.attach _ plain') agree
  where
    one : (b : ChipBoot) × LifeLaw model first starts (course_after model first starts attaches turns) (log_of model first starts (course_after model first starts attaches turns) (course_holds model first starts attaches turns)).0 j s b
    one = life_at model first starts (course_after model first starts attaches turns) (course_holds model first starts attaches turns) j s e

    two : (b : ChipBoot) × LifeLaw model second others (course_after model second others more later) (log_of model second others (course_after model second others more later) (course_holds model second others more later)).0 k s b
    two = life_at model second others (course_after model second others more later) (course_holds model second others more later) k s f

    plain : IsPlain (one.0.attach ++ traces_of one.0.operations)
    plain = plain_left (one.0.attach ++ traces_of one.0.operations) _ (subst IsPlain (sym one.1.1) (calm_is_plain first j (raw_len s.geometry) 1 _ calm))

    plain' : IsPlain (two.0.attach ++ traces_of two.0.operations)
    plain' = plain_left (two.0.attach ++ traces_of two.0.operations) _ (subst IsPlain (sym two.1.1) (calm_is_plain second k (raw_len s.geometry) 1 _ still))
