-- Runs of several boots.
use Rattle.std.proofs.Common.{◌≡◌, subst₂, true, false, ℕ, zero, suc, List, [], ◌∷◌, map, length, Option, Some, None, refl, ap, sym, ◌∙◌, subst, arith}
use Rattle.std.specs.Prelude.{slice_get, option_map, Contains}
use Rattle.std.specs.List.{AllZip}
use Rattle.std.proofs.lemmas.Option.{none-some, same_Some, slice_get-map, slice_get-get_or}
use Rattle.std.proofs.lemmas.List.{length-map}
use Rattle.nand_model.specs.declared.geometry.Geometry.{Geometry}
use Rattle.nand_model.specs.declared.words.Note.{Note}
use Rattle.nand_model.specs.declared.words.Command.{Command}
use Rattle.nand_model.specs.Chip.{ChipState, FaultModel, after_trace}
use Rattle.nand_model.specs.Partitions.{Partitions}
use Rattle.chip_paths.specs.ChipRun.{ChipRun}
use Rattle.command_model.specs.Boot.{Boot, geometry_for}
use Rattle.run_model.specs.Course.{Course, IsWholeCourse, end_states}
use Rattle.command_model.specs.Session.{without_finished, is_finished, exchanges_of, Alternate, session_after, FollowsCommands}
use Rattle.run_model.specs.History.{notes_of_chip, ChipBoot, trace_of, events_in, AreOfChips, IsChipHistory, IsChipLife}
use Rattle.run_model.specs.Log.{Log, AreOfLog, AreOfLogs, first_boots, later_boots}
use Rattle.run_model.specs.Run.{AreAllQuietAsTraced, AreQuietAsTraced, AreBoots, AreInOrder, HaveOneNumberEach, RunsAreFaithful}
use Rattle.run_laws.proofs.Traces.{geometry_after}
use Rattle.run_laws.proofs.Courses.{AtPlace, EndOf, by_log, Holds}
use Rattle.run_laws.proofs.Faithful.{collect, course_holds, log_of, paired, in_order, complete, of_chips, LifeLaw, life_at}
use Rattle.run_laws.proofs.Sessions.{nowhere}

-- lists with an item at the same places, related, have related maps
same_map : {A B C : Type 0} (f : A → C) (g : B → C) (xs : List A) (ys : List B)
    → ((k : ℕ) → option_map f (slice_get xs k) ≡ option_map g (slice_get ys k)) → map f xs ≡ map g ys
same_map f g [] [] h = refl
same_map f g [] (y ∷ ys) h = absurd (none-some _ (h zero))
same_map f g (x ∷ xs) [] h = absurd (none-some _ (sym (h zero)))
same_map f g (x ∷ xs) (y ∷ ys) h = ap (λ z. z ∷ map f xs) (same_Some _ _ (h zero)) ∙ ap (λ zs. g y ∷ zs) (same_map f g xs ys (λ k. h (suc k)))

-- what befell each chip in a boot, before what befell it in the later ones
abbrev joined : List ChipBoot → List (List ChipBoot) → List (List ChipBoot)
joined [] lives = []
joined (b ∷ bs) [] = (b ∷ []) ∷ joined bs []
joined (b ∷ bs) (life ∷ lives) = (b ∷ life) ∷ joined bs lives

length-joined : (bs : List ChipBoot) (lives : List (List ChipBoot)) → length (joined bs lives) ≡ length bs
length-joined [] lives = refl
length-joined (b ∷ bs) [] = ap suc (length-joined bs [])
length-joined (b ∷ bs) (life ∷ lives) = ap suc (length-joined bs lives)

first-joined : (bs : List ChipBoot) (lives : List (List ChipBoot)) → first_boots (joined bs lives) ≡ bs
first-joined [] lives = refl
first-joined (b ∷ bs) [] = ap (λ zs. b ∷ zs) (first-joined bs [])
first-joined (b ∷ bs) (life ∷ lives) = ap (λ zs. b ∷ zs) (first-joined bs lives)

later-joined : (bs : List ChipBoot) (lives : List (List ChipBoot)) → length bs ≡ length lives → later_boots (joined bs lives) ≡ lives
later-joined [] [] e = refl
later-joined [] (life ∷ lives) e = absurd (omega (arith, e))
later-joined (b ∷ bs) [] e = absurd (omega (arith, e))
later-joined (b ∷ bs) (life ∷ lives) e = ap (λ zs. life ∷ zs) (later-joined bs lives (omega (arith, e)))

-- a life of the joined ones is a first boot and later ones
joined_at : (bs : List ChipBoot) (lives : List (List ChipBoot)) → length bs ≡ length lives → (k : ℕ) (life : List ChipBoot) → slice_get (joined bs lives) k ≡ Some life
    → (b : ChipBoot) × (later : List ChipBoot) × (slice_get bs k ≡ Some b) × (slice_get lives k ≡ Some later) × (life ≡ b ∷ later)
joined_at [] lives e k life f = absurd (none-some life f)
joined_at (b ∷ bs) [] e k life f = absurd (omega (arith, e))
joined_at (b ∷ bs) (later ∷ lives) e zero life f = (b, later, refl, refl, sym (same_Some _ _ f))
joined_at (b ∷ bs) (later ∷ lives) e (suc k) life f = joined_at bs lives (omega (arith, e)) k life f

-- a relation follows from another at the same places
zip_weaker : {A B : Type 0} (P Q : A → B → Type 0) → ((x : A) (y : B) → P x y → Q x y) → (xs : List A) (ys : List B) → AllZip P xs ys → AllZip Q xs ys
zip_weaker P Q f [] [] h = tt
zip_weaker P Q f [] (y ∷ ys) h = absurd h
zip_weaker P Q f (x ∷ xs) [] h = absurd h
zip_weaker P Q f (x ∷ xs) (y ∷ ys) h = (f x y h.0, zip_weaker P Q f xs ys h.1)

abbrev geometry_of : {W : Type 0} → ChipState W → Geometry
geometry_of s = s.geometry

module _ {W : Type 0} (model : FaultModel W) where
  -- a course keeps the chips and their geometries
  geometries_stay : (boot : Boot) (starts : List (ChipState W)) (course : Course W) → Holds model boot starts course → map geometry_of (end_states course) ≡ map geometry_of starts
  geometries_stay boot starts course h = same_map geometry_of geometry_of (end_states course) starts (λ k. at (notes_of_chip boot.partitions k course.notes) k (slice_get starts k) (slice_get course.chips k) (slice_get-map (λ (c : ChipRun W). c.chip) course.chips k) ((log_of model boot starts course h).2 k))
    where
      at : (notes : List Note) (k : ℕ) (os : Option (ChipState W)) (oc : Option (ChipRun W)) → slice_get (end_states course) k ≡ option_map (λ (c : ChipRun W). c.chip) oc
          → AtPlace (EndOf model boot starts (by_log model boot starts (log_of model boot starts course h).0) k) notes os oc → option_map geometry_of (slice_get (end_states course) k) ≡ option_map geometry_of os
      at notes k None None e a = ap (option_map geometry_of) e
      at notes k None (Some c) e a = absurd a
      at notes k (Some s) None e a = absurd a
      at notes k (Some s) (Some c) e a = ap (option_map geometry_of) e
          ∙ ap (λ z. Some z) (ap (λ (z : ChipState W). z.geometry) a.now_is ∙ geometry_after model s (events_in (by_log model boot starts (log_of model boot starts course h).0 k s)))

  ends_many : (boot : Boot) (starts : List (ChipState W)) (course : Course W) → Holds model boot starts course → length (end_states course) ≡ length starts
  ends_many boot starts course h = sym (length-map (end_states course) geometry_of) ∙ ap length (geometries_stay boot starts course h) ∙ length-map starts geometry_of

  -- one boot holds, whatever its turns
  whole_holds : (boot : Boot) (starts : List (ChipState W)) (turns : List ℕ) (course : Course W) → IsWholeCourse model boot starts turns course → Holds model boot starts course
  whole_holds boot starts turns course w = subst (Holds model boot starts) (sym w.steps) (course_holds model boot starts w.attaches turns)

  -- all boots have these partitions
  abbrev pub HavePartitions : Partitions → List Boot → Type 0
  HavePartitions partitions boots = (boot : Boot) → Contains boots boot → boot.partitions ≡ partitions

  abbrev notes_of : List (Course W) → List (List Note)
  notes_of courses = map (λ (c : Course W). c.notes) courses

  tail_partitions : (partitions : Partitions) (boot : Boot) (boots : List Boot) → HavePartitions partitions (boot ∷ boots) → HavePartitions partitions boots
  tail_partitions partitions boot boots h b c = h b (suc c.0, omega (arith, c.1), c.2)

  -- the lives of the chips over all boots, with the page events of each
  record AreLives (starts : List (ChipState W)) (boots : List Boot) (courses : List (Course W)) : Type 0 where
    lives : List (List ChipBoot)
    logs : List Log
    many : length lives ≡ length starts
    counted : map (λ (c : Course W). c.events) courses ≡ map (λ (log : Log). length log) logs
    of_logs : AreOfLogs model starts boots courses lives logs
    quiet : AreAllQuietAsTraced model starts lives courses
    are_lives : (k : ℕ) (s : ChipState W) (life : List ChipBoot) → slice_get starts k ≡ Some s → slice_get lives k ≡ Some life
        → (partitions : Partitions) → HavePartitions partitions boots → IsChipLife model partitions k s life (notes_of courses)

  all_live : (boots : List Boot) (turns : List (List ℕ)) (courses : List (Course W)) (starts : List (ChipState W)) → AreBoots model starts boots turns courses → AreLives starts boots courses
  all_live [] [] [] starts h = record {
    lives = map (λ (s : ChipState W). []) starts;
    logs = [];
    many = length-map starts (λ (s : ChipState W). []);
    counted = refl;
    of_logs = tt;
    quiet = tt;
    are_lives = λ k s life e f partitions d. subst (λ z. IsChipLife model partitions k s z [])
        (same_Some [] life (sym (slice_get-map (λ (s : ChipState W). []) starts k ∙ ap (option_map (λ (s : ChipState W). [])) e) ∙ f)) tt;
  }
  all_live (boot ∷ boots) (turn ∷ turns) (course ∷ courses) starts h =
      one (all_live boots turns courses (end_states course) h.1) (collect starts (LifeLaw model boot starts course log) (life_at model boot starts course holds))
    where
      holds : Holds model boot starts course
      holds = whole_holds boot starts turn course h.0

      log : Log
      log = (log_of model boot starts course holds).0

      one : AreLives (end_states course) boots courses
          → (bs : List ChipBoot) × (length bs ≡ length starts) × ((k : ℕ) (s : ChipState W) (b : ChipBoot) → slice_get starts k ≡ Some s → slice_get bs k ≡ Some b → LifeLaw model boot starts course log k s b)
          → AreLives starts (boot ∷ boots) (course ∷ courses)
      one later first = record {
        lives = joined first.0 later.lives;
        logs = log ∷ later.logs;
        many = length-joined first.0 later.lives ∙ first.1;
        counted = ap (λ n. n ∷ map (λ (c : Course W). c.events) courses) (log_of model boot starts course holds).1.counted ∙ ap (λ ns. length log ∷ ns) later.counted;
        of_logs = (
          subst (λ bs. AreOfLog model boot starts bs (end_states course) log) (sym (first-joined first.0 later.lives)) (record {
            on_chips = (log_of model boot starts course holds).1.on_chips;
            traces = λ k s b e f. (first.2 k s b e f).1;
            ends_are = λ k s b e f. (first.2 k s b e f).2;
          }),
          subst (λ lives. AreOfLogs model (end_states course) boots courses lives later.logs) (sym (later-joined first.0 later.lives as_many)) later.of_logs,
        );
        quiet = (
          subst (λ bs. AreQuietAsTraced model starts bs course) (sym (first-joined first.0 later.lives)) (λ k s b e f. (first.2 k s b e f).3),
          subst (λ lives. AreAllQuietAsTraced model (end_states course) lives courses) (sym (later-joined first.0 later.lives as_many)) later.quiet,
        );
        are_lives = λ k s life e f partitions d.
            let at = joined_at first.0 later.lives as_many k life f in
            let law = first.2 k s at.0 e at.2 in
            subst (λ z. IsChipLife model partitions k s z (course.notes ∷ notes_of courses)) (sym at.4) (
              subst (λ z. IsChipHistory model z k s at.0.attach at.0.operations (notes_of_chip z k course.notes)) (d boot (0, omega arith, refl)) law.0,
              later.are_lives k (after_trace model s (trace_of at.0)) at.1 law.2 at.3 partitions (tail_partitions partitions boot boots d),
            );
      }
        where
          as_many : length first.0 ≡ length later.lives
          as_many = first.1 ∙ sym (ends_many boot starts course holds) ∙ sym later.many
  all_live boots turns courses starts h = absurd h

  all_paired : (boots : List Boot) (turns : List (List ℕ)) (courses : List (Course W)) (starts : List (ChipState W)) → AreBoots model starts boots turns courses
      → (k : ℕ) (notes : List Note) → slice_get (notes_of courses) k ≡ Some notes → (session : ℕ) → Alternate (exchanges_of session notes)
  all_paired [] [] [] starts h k notes e session = absurd (none-some _ e)
  all_paired (boot ∷ boots) (turn ∷ turns) (course ∷ courses) starts h zero notes e session =
      subst (λ z. Alternate (exchanges_of session z)) (same_Some _ _ e) (paired model boot starts course (whole_holds boot starts turn course h.0) session)
  all_paired (boot ∷ boots) (turn ∷ turns) (course ∷ courses) starts h (suc k) notes e session = all_paired boots turns courses (end_states course) h.1 k notes e session
  all_paired boots turns courses starts h k notes e session = absurd h

  -- each boot holds from its own start, which has the geometries of the first
  all_boots : (P : Boot → List Geometry → Course W → Type 0) → ((boot : Boot) (starts : List (ChipState W)) (turns : List ℕ) (course : Course W) → IsWholeCourse model boot starts turns course → P boot (map geometry_of starts) course)
      → (boots : List Boot) (turns : List (List ℕ)) (courses : List (Course W)) (first starts : List (ChipState W)) → map geometry_of starts ≡ map geometry_of first → AreBoots model starts boots turns courses
      → AllZip (λ boot course. P boot (map geometry_of first) course) boots courses
  all_boots P law [] [] [] first starts g h = tt
  all_boots P law (boot ∷ boots) (turn ∷ turns) (course ∷ courses) first starts g h = (
    subst (λ geometries. P boot geometries course) g (law boot starts turn course h.0),
    all_boots P law boots turns courses first (end_states course) (geometries_stay boot starts course (whole_holds boot starts turn course h.0) ∙ g) h.1,
  )
  all_boots P law boots turns courses first starts g h = absurd h

  -- a relation to the notes of courses
  zip_notes : (R : Boot → List Note → Type 0) (boots : List Boot) (courses : List (Course W)) → AllZip (λ boot (course : Course W). R boot course.notes) boots courses → AllZip R boots (notes_of courses)
  zip_notes R [] [] h = tt
  zip_notes R [] (course ∷ courses) h = absurd h
  zip_notes R (boot ∷ boots) [] h = absurd h
  zip_notes R (boot ∷ boots) (course ∷ courses) h = (h.0, zip_notes R boots courses h.1)

  all_there : (boots : List Boot) (turns : List (List ℕ)) (courses : List (Course W)) (first starts : List (ChipState W)) → length starts ≡ length first → (partitions : Partitions) → HavePartitions partitions boots → AreBoots model starts boots turns courses
      → (k : ℕ) (notes : List Note) → slice_get (notes_of courses) k ≡ Some notes → AreOfChips partitions (length first) nowhere notes
  all_there [] [] [] first starts g partitions d h k notes e = absurd (none-some _ e)
  all_there (boot ∷ boots) (turn ∷ turns) (course ∷ courses) first starts g partitions d h zero notes e =
      subst (AreOfChips partitions (length first) nowhere) (same_Some _ _ e)
      (subst₂ (λ p n. AreOfChips p n nowhere course.notes) (d boot (0, omega arith, refl)) g (of_chips model boot starts course (whole_holds boot starts turn course h.0)))
  all_there (boot ∷ boots) (turn ∷ turns) (course ∷ courses) first starts g partitions d h (suc k) notes e =
      all_there boots turns courses first (end_states course) (ends_many boot starts course (whole_holds boot starts turn course h.0) ∙ g) partitions (tail_partitions partitions boot boots d) h.1 k notes e
  all_there boots turns courses first starts g partitions d h k notes e = absurd h

  -- in order, by the geometries of the chips alone
  abbrev InOrderBy : Boot → List Geometry → List Note → Type 0
  InOrderBy boot geometries notes =
      ((session : ℕ) (commands : List Command) → Contains boot.sessions (session, commands)
      → FollowsCommands (geometry_for boot.partitions geometries) (without_finished (geometry_for boot.partitions geometries) session commands [] []) (exchanges_of session notes))
      × ((session : ℕ) → ((commands : List Command) → Contains boot.sessions (session, commands) → ⊥) → exchanges_of session notes ≡ [])

  pub runs_faithful : (partitions : Partitions) (starts : List (ChipState W)) (boots : List Boot) (turns : List (List ℕ)) (courses : List (Course W))
      → HavePartitions partitions boots → AreBoots model starts boots turns courses → RunsAreFaithful model partitions starts boots courses
  runs_faithful partitions starts boots turns courses has h =
      go (all_live boots turns courses starts h)
    where
      OrderLaw : Boot → List Geometry → Course W → Type 0
      OrderLaw boot geometries course = HaveOneNumberEach boot.sessions → InOrderBy boot geometries course.notes

      EndLaw : Boot → List Geometry → Course W → Type 0
      EndLaw boot geometries course = HaveOneNumberEach boot.sessions → course.dark ≡ false → (session : ℕ) (commands : List Command) → Contains boot.sessions (session, commands)
          → is_finished (session_after (geometry_for boot.partitions geometries) (without_finished (geometry_for boot.partitions geometries) session commands [] []) (exchanges_of session course.notes)).commands ≡ true

      go : AreLives starts boots courses → RunsAreFaithful model partitions starts boots courses
      go r = record {
        lives = r.lives;
        logs = r.logs;
        counted = r.counted;
        of_logs = r.of_logs;
        quiet = r.quiet;
        one_thread = record {
          many = r.many;
          chips = λ k s life e f. r.are_lives k s life e f partitions has;
          of_chips = λ k d l. all_there boots turns courses starts starts refl partitions has h k _ (slice_get-get_or (notes_of courses) k d l);
          paired = λ k d l session. all_paired boots turns courses starts h k _ (slice_get-get_or (notes_of courses) k d l) session;
        };
        in_order = zip_notes (λ boot notes. HaveOneNumberEach boot.sessions → AreInOrder boot starts notes) boots courses
            (zip_weaker (λ boot course. OrderLaw boot (map geometry_of starts) course) (λ boot course. HaveOneNumberEach boot.sessions → AreInOrder boot starts course.notes) (λ boot course law once. record { own = (law once).0; no_other = (law once).1 }) boots courses
            (all_boots OrderLaw (λ boot from turn course w once. let o = in_order model boot from course (whole_holds boot from turn course w) once in (o.own, o.no_other)) boots turns courses starts starts refl h));
        complete = all_boots EndLaw (λ boot from turn course w once lit. complete model boot from course (whole_holds boot from turn course w) once w.over lit) boots turns courses starts starts refl h;
      }
