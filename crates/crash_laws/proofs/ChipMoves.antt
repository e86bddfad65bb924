-- A chip with tables in a boot, from step to step: which shelf its places hold, and what is known
-- of it.
use Rattle.std.proofs.Common.{◌≡◌, ◌≢◌, ◌≤◌, ◌==◌, ◌||◌, ◌∙◌, ℕ, Bool, true, false, not, arith, List, [], ◌∷◌, ◌++◌, refl, sym, inl, inr, Option, Some, None, subst}
use Rattle.std.specs.Prelude.{⊤, IsSome, nat_le}
use Rattle.std.proofs.lemmas.Bool.{and_parts, false≢true, leb-true}
use Rattle.std.proofs.lemmas.Option.{none-some}
use Rattle.nand_model.specs.Chip.{ChipState, FaultModel, ChipEvent, ReadEvent, EraseEvent, ProgramEvent, Complete, PowerCut, Flipped, PageEvent, DoneBits, happens, after_trace, flip_events}
use Rattle.nand_model.specs.Path.{Answer, Path, Over, Then, answer_to, after_answers, either, first_event, next_event, result_of}
use Rattle.chip_paths.specs.Attach.{Attaching, attach_path}
use Rattle.nand_model.specs.Partitions.{Partitions, part_of, device_of}
use Rattle.chip_paths.specs.Operation.{Known, Finished, answer, entry_of, mark_block, mark_path, operation_path}
use Rattle.chip_paths.specs.ChipRun.{ChipRun, Pending, next_event_by, known_once_over, pending_after, answered_by, torn_by, advanced, torn_at, with_pending, with_finished, finished_by}
use Rattle.nand_model.specs.Quiet.{is_quiet}
use Rattle.nand_model.specs.declared.geometry.Geometry.{Geometry}
use Rattle.nand_model.specs.declared.words.Op.{Op}
use Rattle.nand_model.specs.Table.{table_blocks}
use Rattle.nand_model.specs.declared.words.Reply.{Reply}
use Rattle.nand_model.specs.declared.words.Reply.TheVariants.{Copies, Done, Reserved}
use Rattle.nand_model.specs.declared.words.Which.TheVariants.{Primary}
use Rattle.run_model.specs.Run.{block_changed, copy_in_use}
use Rattle.page_laws.specs.Keeping.{IsIn, IsFairEvent, IsQuietEvent}
use Rattle.relocation_laws.specs.Shelves.{Shelf, IsEmpty}
use Rattle.relocation_laws.specs.Keeping.{BlockFails}
use Rattle.relocation_laws.specs.Tables.{IsTable, IsTableBlock, Shows}
use Rattle.relocation_laws.proofs.AttachSafe.{attach-safe, attach-alive}
use Rattle.relocation_laws.proofs.Attaching.{IsAttached}
use Rattle.relocation_laws.proofs.Agreeing.{not-empty}
use Rattle.relocation_laws.proofs.Marking.{both-shows}
use Rattle.relocation_laws.proofs.Waking.{goes-on}
use Rattle.relocation_laws.proofs.Goes.{Setting, AtRest, Holding, Along, Comes, along-alive, alive-still, goes-safe, holding-flipped, holding-turned, none-aside, resting, rests-inside}
use Rattle.relocation_laws.proofs.Lives.{Lives, LivesBefore, Remembers, OpEnds, Then_, Granted, lives-fewer, lives-before-fewer, newest-fewer, remembers-fewer, op_law, op-safe}
use Rattle.relocation_laws.proofs.MarkerTables.{AreFactoryBad}
use Rattle.relocation_laws.proofs.Operations.{AliveRoute, Route, plain_alive, plain_law, route, route-alive}
use Rattle.relocation_laws.proofs.Safety.{Safety, Safe, turned, safe-flipped, safe-turned, safe-moment, safe-result, AtEvent, at-event, answers-joined}
use Rattle.run_model.specs.Survival.{WritesAPage}

-- whether an attach would use a copy of the chip: once it is so, it stays so
abbrev pub Used : Type 0
Used = Bool

abbrev pub Later : Used → Used → Type 0
Later y z = y ≡ true → z ≡ true

-- Of a used chip something was acknowledged: the block behind its last one, which no table has to
-- show. So its table blocks are never empty again.
abbrev pub Once : Geometry → Used → ℕ → Type 0
Once g y b = (y ≡ true) × (b ≡ g.blocks)

abbrev pub AnyBlock : ℕ → Type 0
AnyBlock b = ⊤

-- what is safe by one law is so by another that grants no more, and asks for no more than that it
-- is safe
module _ {W A : Type 0} (model : FaultModel W) (granted granted1 : ChipState W → ChipEvent → Type 0) (moment moment1 : Path A → ChipState W → Type 0) (ended ended1 : ChipState W → Type 0) (result result1 : A → ChipState W → Type 0) where
  abbrev Law : Safety W A
  Law = record { model = model; granted = granted; moment = moment; ended = ended; result = result }

  abbrev Law1 : Safety W A
  Law1 = record { model = model; granted = granted1; moment = moment1; ended = ended1; result = result1 }

  module _ (grants : (s : ChipState W) (e : ChipEvent) → granted1 s e → granted s e) (moments : (path : Path A) (s : ChipState W) → Safe Law path s → moment1 path s)
      (ends : (s : ChipState W) → ended s → ended1 s) (results : (a : A) (s : ChipState W) → result a s → result1 a s) where
    safe-as : (path : Path A) (s : ChipState W) → Safe Law path s → Safe Law1 path s
    safe-as (Over a) s h = λ flips. (moments (Over a) _ (safe-turned Law (Over a) s flips h), results a _ (h flips).1)
    safe-as (Then e rest) s h = λ flips. (
      moments (Then e rest) _ (safe-turned Law (Then e rest) s flips h),
      (λ done grant. ends _ ((h flips).1 done (grants _ _ grant))),
      λ grant. safe-as (rest _) _ ((h flips).2 (grants _ _ grant)),
    )

module _ {W : Type 0} (model : FaultModel W) (g : Geometry) (c : Setting g) (enough : 4 ≤ g.blocks) (F : ℕ → Type 0) (factory : AreFactoryBad g c.is_good F)
    (one two : ℕ) (in_one : IsTableBlock g c.is_good one) (in_two : IsTableBlock g c.is_good two) (apart : one ≢ two) (partitions : Partitions) where
  abbrev Good_ : Used → List ℕ → Type 0
  Good_ y = Shows g F (Once g y) AnyBlock

  abbrev Fresh_ : Used → Type 0
  Fresh_ y = (b : ℕ) → Once g y b → ⊥

  -- alive before its next event, and with none to come
  abbrev pub AliveBefore : Used → Option PageEvent → ChipState W → Type 0
  AliveBefore y next s = LivesBefore model g c enough F factory one two in_one in_two apart (Once g y) AnyBlock next s

  abbrev pub AliveOn : Used → ChipState W → Type 0
  AliveOn y s = AliveBefore y None s

  abbrev pub MemoryOn : Used → Known → ChipState W → Type 0
  MemoryOn y known s = Remembers model g c enough F factory one two in_one in_two apart (Once g y) AnyBlock known s

  -- an attach would use a copy, and the chip is quiet
  abbrev pub IsUsedNow : ChipState W → Type 0
  IsUsedNow s = IsSome (copy_in_use s) × (is_quiet g s.pages ≡ true)

  -- an attach of a used chip; of one that is not, it goes on as that of a used chip once it is used
  abbrev AttachGrants : ChipState W → ChipEvent → Type 0
  AttachGrants s e = IsFairEvent model s e × IsQuietEvent s e × BlockFails model AnyBlock g s e

  abbrev Attached_ : Used → Attaching → Shelf → Type 0
  Attached_ y = IsAttached g (IsTableBlock g c.is_good) (Good_ y) (Fresh_ y)

  abbrev AwakeAttach : Safety W Attaching
  AwakeAttach = record { model = model; granted = AttachGrants; moment = λ path s. AliveBefore true (first_event path) s; ended = λ s. AliveOn true s; result = Comes g c (Good_ true) (Fresh_ true) (Attached_ true) }

  abbrev AttachMoment : Used → Path Attaching → ChipState W → Type 0
  AttachMoment true path s = AliveBefore true (first_event path) s
  AttachMoment false path s = AliveBefore false (first_event path) s × (IsUsedNow s → Safe AwakeAttach path s)

  abbrev AttachLaw : Used → Safety W Attaching
  AttachLaw y = record { model = model; granted = AttachGrants; moment = AttachMoment y; ended = λ s. AliveOn y s; result = Comes g c (Good_ y) (Fresh_ y) (Attached_ y) }

  -- an operation likewise
  abbrev AwakeOp : Safety W Finished
  AwakeOp = record { model = model; granted = λ s e. IsFairEvent model s e; moment = λ path s. AliveBefore true (first_event path) s; ended = λ s. AliveOn true s; result = λ f s. MemoryOn true f.known s }

  abbrev OpMoment : Used → Path Finished → ChipState W → Type 0
  OpMoment true path s = AliveBefore true (first_event path) s
  OpMoment false path s = AliveBefore false (first_event path) s × (IsUsedNow s → Safe AwakeOp path s)

  abbrev OpLaw : Used → Safety W Finished
  OpLaw y = record { model = model; granted = λ s e. IsFairEvent model s e; moment = OpMoment y; ended = λ s. AliveOn y s; result = λ f s. MemoryOn y f.known s }

  attach-before : (y : Used) (path : Path Attaching) (s : ChipState W) → AttachMoment y path s → AliveBefore y (first_event path) s
  attach-before true path s h = h
  attach-before false path s h = h.0

  op-before : (y : Used) (path : Path Finished) (s : ChipState W) → OpMoment y path s → AliveBefore y (first_event path) s
  op-before true path s h = h
  op-before false path s h = h.0

  -- any block may fail
  any_fails : (s : ChipState W) (e : ChipEvent) → BlockFails model AnyBlock g s e
  any_fails s (Complete (EraseEvent b)) = λ f i. tt
  any_fails s (Complete (ProgramEvent page image)) = λ f b e i. tt
  any_fails s (Complete (ReadEvent page)) = tt
  any_fails s (PowerCut e done) = tt
  any_fails s (Flipped page bit) = tt

  still : (y : Used) (next : Option PageEvent) (s : ChipState W) → AliveBefore y next s → AliveOn y s
  still y next s h = resting g c (Good_ y) (Fresh_ y) next s h

  memory_alive : (y : Used) (known : Known) (s : ChipState W) → MemoryOn y known s → AliveOn y s
  memory_alive y known s h = alive-still g c (Good_ y) (Fresh_ y) h.holds s h.holding h.rests

  -- ---- a chip that holds something is used
  holding-any : (y z : Used) (holds : Shelf) (fresh : Option ℕ) (s : ChipState W) → Holding g c (Good_ y) (Fresh_ y) holds fresh s → Holding g c (Good_ z) (Fresh_ z) holds fresh s
  holding-any y z holds fresh s h = record { geometry = h.geometry; stands = h.stands; is_fresh = h.is_fresh }

  some-held : (y : Used) (holds : Shelf) (fresh : Option ℕ) (s : ChipState W) → Holding g c (Good_ y) (Fresh_ y) holds fresh s → IsUsedNow s → IsEmpty holds → ⊥
  some-held y holds fresh s h used = not-empty g c enough (Good_ y) (Fresh_ y) holds fresh s h used.1 used.0

  shows-awake : (table : List ℕ) → Good_ false table → Good_ true table
  shows-awake table s = record { factory = s.factory; acked = λ b small a. absurd (omega (arith, small, a.1)); no_other = s.no_other }

  shows-asleep : (table : List ℕ) → Good_ true table → Good_ false table
  shows-asleep table s = record { factory = s.factory; acked = λ b small a. absurd (false≢true a.0); no_other = s.no_other }

  rests-awake : (h : Shelf) → (IsEmpty h → ⊥) → AtRest g c (Good_ false) (Fresh_ false) h → AtRest g c (Good_ true) (Fresh_ true) h
  rests-awake h some (inl e) = absurd (some e.0)
  rests-awake h some (inr j) = inr (newest-fewer model g c enough F factory one two in_one in_two apart (Good_ false) (Good_ true) shows-awake h j)

  rests-asleep : (h : Shelf) → AtRest g c (Good_ true) (Fresh_ true) h → AtRest g c (Good_ false) (Fresh_ false) h
  rests-asleep h (inl e) = inl (e.0, λ b a. false≢true a.0)
  rests-asleep h (inr j) = inr (newest-fewer model g c enough F factory one two in_one in_two apart (Good_ true) (Good_ false) shows-asleep h j)

  attached-awake : (a : Attaching) (h : Shelf) → (IsEmpty h → ⊥) → Attached_ false a h → Attached_ true a h
  attached-awake a h some e = record {
    shows = shows-awake a.table e.shows;
    form = e.form;
    rests = rests-awake h some e.rests;
    both = λ enough_copies. both-shows g enough c.is_good F (Good_ false) (Good_ true) (Fresh_ false) (Fresh_ true) a.table a.version a.places h (shows-awake a.table e.shows) (e.both enough_copies);
  }

  attached-asleep : (a : Attaching) (h : Shelf) → Attached_ true a h → Attached_ false a h
  attached-asleep a h e = record {
    shows = shows-asleep a.table e.shows;
    form = e.form;
    rests = rests-asleep h e.rests;
    both = λ enough_copies. both-shows g enough c.is_good F (Good_ true) (Good_ false) (Fresh_ true) (Fresh_ false) a.table a.version a.places h (shows-asleep a.table e.shows) (e.both enough_copies);
  }

  memory-awake : (known : Known) (s : ChipState W) (r : MemoryOn false known s) → (IsEmpty r.holds → ⊥) → MemoryOn true known s
  memory-awake known s r some = record {
    holds = r.holds;
    holding = holding-any false true r.holds None s r.holding;
    rests = rests-awake r.holds some r.rests;
    both = λ enough_copies. both-shows g enough c.is_good F (Good_ false) (Good_ true) (Fresh_ false) (Fresh_ true) known.table known.version known.places r.holds (shows-awake known.table r.shows) (r.both enough_copies);
    form = r.form;
    shows = shows-awake known.table r.shows;
  }

  memory-asleep : (known : Known) (s : ChipState W) → MemoryOn true known s → MemoryOn false known s
  memory-asleep known s r = record {
    holds = r.holds;
    holding = holding-any true false r.holds None s r.holding;
    rests = rests-asleep r.holds r.rests;
    both = λ enough_copies. both-shows g enough c.is_good F (Good_ true) (Good_ false) (Fresh_ true) (Fresh_ false) known.table known.version known.places r.holds (shows-asleep known.table r.shows) (r.both enough_copies);
    form = r.form;
    shows = shows-asleep known.table r.shows;
  }

  alive-awake : (s : ChipState W) (h : AliveOn false s) → (IsEmpty h.holds → ⊥) → AliveOn true s
  alive-awake s h some = alive-still g c (Good_ true) (Fresh_ true) h.holds s (holding-any false true h.holds None s h.holding) (rests-awake h.holds some h.rests)

  alive-asleep : (next : Option PageEvent) (s : ChipState W) → AliveBefore true next s → AliveBefore false next s
  alive-asleep next s h = record { holds = h.holds; holding = holding-any true false h.holds None s h.holding; rests = rests-asleep h.holds h.rests; aside = h.aside }

  -- what is safe of a used chip is safe of any
  attach-asleep : (path : Path Attaching) (s : ChipState W) → Safe AwakeAttach path s → Safe (AttachLaw false) path s
  attach-asleep path s h =
      safe-as model AttachGrants AttachGrants (λ path s. AliveBefore true (first_event path) s) (AttachMoment false) (λ s. AliveOn true s) (λ s. AliveOn false s) (Comes g c (Good_ true) (Fresh_ true) (Attached_ true)) (Comes g c (Good_ false) (Fresh_ false) (Attached_ false))
      (λ s e grant. grant) (λ path s k. (alive-asleep (first_event path) s (safe-moment AwakeAttach path s k), λ used. k)) (λ s k. alive-asleep None s k)
      (λ a s z. record { holds = z.holds; holding = holding-any true false z.holds None s z.holding; ends = attached-asleep a z.holds z.ends }) path s h

  op-asleep : (path : Path Finished) (s : ChipState W) → Safe AwakeOp path s → Safe (OpLaw false) path s
  op-asleep path s h =
      safe-as model (λ s e. IsFairEvent model s e) (λ s e. IsFairEvent model s e) (λ path s. AliveBefore true (first_event path) s) (OpMoment false) (λ s. AliveOn true s) (λ s. AliveOn false s) (λ f s. MemoryOn true f.known s) (λ f s. MemoryOn false f.known s)
      (λ s e grant. grant) (λ path s k. (alive-asleep (first_event path) s (safe-moment AwakeOp path s k), λ used. k)) (λ s k. alive-asleep None s k) (λ f s z. memory-asleep f.known s z) path s h

  -- ---- an attach is safe
  awake-attach-safe : (s : ChipState W) → AliveOn true s → Safe AwakeAttach (attach_path g) s
  awake-attach-safe s h = attach-alive model g c enough F factory one two in_one in_two apart (Once g true) AnyBlock AnyBlock (λ b f. tt) s h

  -- from a writing on, once something is held
  attach-wakes : (path : Path Attaching) (fresh : Option ℕ) (holds : Shelf) (s : ChipState W) → Holding g c (Good_ false) (Fresh_ false) holds fresh s
      → Along g c AnyBlock (Good_ false) (Fresh_ false) (Attached_ false) (λ a h e. e.rests) fresh holds path → IsUsedNow s → Safe AwakeAttach path s
  attach-wakes path fresh holds s h goes used =
      goes-safe model g c AnyBlock (Good_ true) (Fresh_ true) AttachGrants (λ s e grant. (grant.0, grant.2)) (Attached_ true) (λ a h e. e.rests) (λ path s. AliveBefore true (first_event path) s)
      (λ path fresh holds s k go. along-alive g c AnyBlock (Good_ true) (Fresh_ true) (Attached_ true) (λ a h e. e.rests) path fresh holds s k go) (λ s. AliveOn true s) (λ holds s k rests. alive-still g c (Good_ true) (Fresh_ true) holds s k rests)
      path fresh holds s (holding-any false true holds fresh s h)
      (goes-on g (IsTableBlock g c.is_good) AnyBlock (IsTable g) (AtRest g c (Good_ false) (Fresh_ false)) (AtRest g c (Good_ true) (Fresh_ true)) (Attached_ false) (Attached_ true) rests-awake attached-awake path fresh holds
      (some-held false holds fresh s h used) goes)

  pub any-attach-safe : (y : Used) (s : ChipState W) → AliveOn y s → Safe (AttachLaw y) (attach_path g) s
  any-attach-safe true s h = awake-attach-safe s h
  any-attach-safe false s h = on h.rests
    where
      on : AtRest g c (Good_ false) (Fresh_ false) h.holds → Safe (AttachLaw false) (attach_path g) s
      on (inr j) = attach-asleep (attach_path g) s (awake-attach-safe s (alive-awake s h (λ empty. none-some j.copy (sym (empty j.place) ∙ j.at))))
      on (inl e) =
          attach-safe model g c enough F factory one two in_one in_two apart (Once g false) AnyBlock AnyBlock (λ b f. tt) (AttachMoment false)
          (λ path fresh holds s k goes. (along-alive g c AnyBlock (Good_ false) (Fresh_ false) (Attached_ false) (λ a h e. e.rests) path fresh holds s k goes, λ used. attach-wakes path fresh holds s k goes used))
          (λ s. AliveOn false s) (λ holds s k rests. alive-still g c (Good_ false) (Fresh_ false) holds s k rests) s h
          (record {
            before = λ page rest t k. (record { holds = h.holds; holding = k; rests = h.rests; aside = none-aside g h.holds }, λ used. absurd (some-held false h.holds None t k used e.0));
            after_cut = λ t k. alive-still g c (Good_ false) (Fresh_ false) h.holds t k h.rests;
          })

  -- ---- each operation is safe
  awake-op-safe : (known : Known) (s : ChipState W) → MemoryOn true known s → (op : Op) → WritesAPage g op → Safe AwakeOp (operation_path g partitions known op) s
  awake-op-safe known s r op fits = on (route-alive model g c enough F factory one two in_one in_two apart (Once g true) AnyBlock known s r (part_of partitions (device_of op)) op fits)
    where
      Then1 : ℕ → ℕ → Type 0
      Then1 b = Then_ model g c enough F factory one two in_one in_two apart (Once g true) AnyBlock known s b AnyBlock r

      on : AliveRoute model g c enough F factory one two in_one in_two apart (Once g true) AnyBlock known s r (part_of partitions (device_of op)) op → Safe AwakeOp (operation_path g partitions known op) s
      on (inl (b, is, same)) =
          subst (λ x. Safe AwakeOp x s) (sym same)
          (safe-as model (Granted model g c enough F factory one two in_one in_two apart (Once g true) AnyBlock known s b AnyBlock r) (λ s e. IsFairEvent model s e)
          (λ path s. LivesBefore model g c enough F factory one two in_one in_two apart (Once g true) (Then1 b) (first_event path) s) (λ path s. AliveBefore true (first_event path) s)
          (Lives model g c enough F factory one two in_one in_two apart (Once g true) (Then1 b)) (λ s. AliveOn true s)
          (OpEnds model g c enough F factory one two in_one in_two apart (Once g true) AnyBlock known s b AnyBlock r) (λ f s. MemoryOn true f.known s)
          (λ t e fair. (fair, any_fails t e))
          (λ path t z. lives-before-fewer model g c enough F factory one two in_one in_two apart (Once g true) (Then1 b) (Once g true) AnyBlock (λ d a. a) (λ d x. tt) (first_event path) t
          (safe-moment (op_law model g c enough F factory one two in_one in_two apart (Once g true) AnyBlock known s b AnyBlock r) path t z))
          (λ t z. lives-fewer model g c enough F factory one two in_one in_two apart (Once g true) (Then1 b) (Once g true) AnyBlock (λ d a. a) (λ d x. tt) t z)
          (λ f t z. remembers-fewer model g c enough F factory one two in_one in_two apart (Once g true) (Then1 b) (Once g true) AnyBlock (λ d a. a) (λ d x. tt) f.known t z.remembers) (mark_block g known b) s
          (op-safe model g c enough F factory one two in_one in_two apart (Once g true) AnyBlock known s b AnyBlock r))
      on (inr (none, plain)) =
          safe-as model (λ s e. ⊤) (λ s e. IsFairEvent model s e) (λ path s. AliveBefore true (first_event path) s) (λ path s. AliveBefore true (first_event path) s) (λ s. AliveOn true s) (λ s. AliveOn true s) (λ f s. MemoryOn true f.known s) (λ f s. MemoryOn true f.known s)
          (λ t e fair. tt) (λ path t z. safe-moment (plain_alive model g c enough F factory one two in_one in_two apart (Once g true) AnyBlock known s r) path t z) (λ t z. z) (λ f t z. z)
          (operation_path g partitions known op) s (plain s r.holding)

  -- while nothing is held, marks are refused, and no operation touches a table block
  module _ (known : Known) (s : ChipState W) (r : MemoryOn false known s) (empty : IsEmpty r.holds) where
    few-copies : nat_le 2 known.copies ≡ false
    few-copies = on (nat_le 2 known.copies) refl
      where
        on : (t : Bool) → nat_le 2 known.copies ≡ t → nat_le 2 known.copies ≡ false
        on false e = e
        on true e =
            let both = r.both (leb-true 2 known.copies e) in
            absurd (none-some (record { which = Primary; version = known.version; table = known.table }) (sym (empty known.places.primary) ∙ both.at Primary))

    refused : (reply : Reply) → Safe (OpLaw false) (answer known reply) s
    refused reply = λ flips.
        let now = holding-turned g c (Good_ false) (Fresh_ false) model r.holds None s flips r.holding in (
          (alive-still g c (Good_ false) (Fresh_ false) r.holds (turned model s flips) now r.rests, λ used. absurd (some-held false r.holds None (turned model s flips) now used empty)),
          record { holds = r.holds; holding = now; rests = r.rests; both = r.both; form = r.form; shows = r.shows },
        )

    mark-refused : (block : ℕ) → Safe (OpLaw false) (mark_block g known block) s
    mark-refused block = subst (λ t. Safe (OpLaw false) (by (entry_of known block == 2) (not t || nat_le 2 known.copies)) s) (sym c.tables)
        (subst (λ t. Safe (OpLaw false) (by (entry_of known block == 2) t) s) (sym few-copies) (reserved (entry_of known block == 2)))
      where
        by : Bool → Bool → Path Finished
        by is_reserved two = either (not is_reserved) (λ u. either two (λ u. either (entry_of known block == 0) (λ u. mark_path g known block) (λ u. answer known Done)) (λ u. answer known (Copies known.copies))) (λ u. answer known Reserved)

        reserved : (t : Bool) → Safe (OpLaw false) (by t false) s
        reserved true = refused Reserved
        reserved false = refused (Copies known.copies)

    empty-op-safe : (op : Op) → WritesAPage g op → Safe (OpLaw false) (operation_path g partitions known op) s
    empty-op-safe op fits =
        on (route model g c enough F factory one two in_one in_two apart (Once g false) AnyBlock known s r (OpMoment false) (λ s. AliveOn false s) before (λ t h. alive-still g c (Good_ false) (Fresh_ false) r.holds t h r.rests)
        (part_of partitions (device_of op)) op fits)
      where
        before : (path : Path Finished) → ((b : ℕ) → block_changed g (first_event path) ≡ Some b → IsIn (table_blocks g) b → ⊥) → (t : ChipState W) → Holding g c (Good_ false) (Fresh_ false) r.holds None t → OpMoment false path t
        before path out t h = (
          record { holds = r.holds; holding = h; rests = r.rests; aside = λ b e. inl (rests-inside g c (Good_ false) (Fresh_ false) r.holds r.rests b (out b e)) },
          λ used. absurd (some-held false r.holds None t h used empty),
        )

        on : Route model g c enough F factory one two in_one in_two apart (Once g false) AnyBlock known s r (OpMoment false) (λ s. AliveOn false s) before (λ t h. alive-still g c (Good_ false) (Fresh_ false) r.holds t h r.rests)
            (part_of partitions (device_of op)) op → Safe (OpLaw false) (operation_path g partitions known op) s
        on (inl (b, is, same)) = subst (λ x. Safe (OpLaw false) x s) (sym same) (mark-refused b)
        on (inr (none, plain)) =
            safe-as model (λ s e. ⊤) (λ s e. IsFairEvent model s e) (OpMoment false) (OpMoment false) (λ s. AliveOn false s) (λ s. AliveOn false s) (λ f s. MemoryOn false f.known s) (λ f s. MemoryOn false f.known s)
            (λ t e fair. tt) (λ path t z. safe-moment (plain_law model g c enough F factory one two in_one in_two apart (Once g false) AnyBlock known s r (OpMoment false) (λ s. AliveOn false s)) path t z) (λ t z. z) (λ f t z. z)
            (operation_path g partitions known op) s (plain s r.holding)

  any-op-safe : (y : Used) (known : Known) (s : ChipState W) → MemoryOn y known s → (op : Op) → WritesAPage g op → Safe (OpLaw y) (operation_path g partitions known op) s
  any-op-safe true known s r op fits = awake-op-safe known s r op fits
  any-op-safe false known s r op fits = on r.rests
    where
      on : AtRest g c (Good_ false) (Fresh_ false) r.holds → Safe (OpLaw false) (operation_path g partitions known op) s
      on (inl e) = empty-op-safe known s r e.0 op fits
      on (inr j) = op-asleep (operation_path g partitions known op) s (awake-op-safe known s (memory-awake known s r (λ empty. none-some j.copy (sym (empty j.place) ∙ j.at))) op fits)

  abbrev AttachOn : Used → List Answer → ChipState W → Type 0
  AttachOn y answers s = Safe (AttachLaw y) (after_answers answers (attach_path g)) s

  abbrev OpOn : Used → Known → Op → List Answer → ChipState W → Type 0
  OpOn y known op answers s = Safe (OpLaw y) (after_answers answers (operation_path g partitions known op)) s

  -- how a chip stands: while the controller is lit, and after a cut
  abbrev pub Stands : Bool → Used → ChipState W → List Answer → Option Known → Option Pending → Type 0
  Stands false y s answers None pending = AttachOn y answers s
  Stands false y s answers (Some known) None = MemoryOn y known s
  Stands false y s answers (Some known) (Some p) = OpOn y known p.op p.answers s
  Stands true y s answers None pending = AliveOn y s
  Stands true y s answers (Some known) None = MemoryOn y known s
  Stands true y s answers (Some known) (Some p) = AliveOn y s

  abbrev pub StandsAt : Bool → Used → ChipRun W → Type 0
  StandsAt dark y r = Stands dark y r.chip r.attach_answers r.known r.pending

  -- what holds in any case
  pub alive_at : (dark : Bool) (y : Used) (s : ChipState W) (answers : List Answer) (known : Option Known) (pending : Option Pending) → Stands dark y s answers known pending → AliveOn y s
  alive_at false y s answers None pending h =
      let path = after_answers answers (attach_path g) in
      still y (first_event path) s (attach-before y path s (safe-moment (AttachLaw y) path s h))
  alive_at false y s answers (Some known) None h = memory_alive y known s h
  alive_at false y s answers (Some known) (Some p) h =
      let path = after_answers p.answers (operation_path g partitions known p.op) in
      still y (first_event path) s (op-before y path s (safe-moment (OpLaw y) path s h))
  alive_at true y s answers None pending h = h
  alive_at true y s answers (Some known) None h = memory_alive y known s h
  alive_at true y s answers (Some known) (Some p) h = h

  -- a chip of which an attach would use a copy is used
  pub wakes : (dark : Bool) (s : ChipState W) (answers : List Answer) (known : Option Known) (pending : Option Pending) → Stands dark false s answers known pending → IsUsedNow s → Stands dark true s answers known pending
  wakes false s answers None pending h used = (safe-moment (AttachLaw false) (after_answers answers (attach_path g)) s h).1 used
  wakes false s answers (Some known) None h used = memory-awake known s h (some-held false h.holds None s h.holding used)
  wakes false s answers (Some known) (Some p) h used = (safe-moment (OpLaw false) (after_answers p.answers (operation_path g partitions known p.op)) s h).1 used
  wakes true s answers None pending h used = alive-awake s h (some-held false h.holds None s h.holding used)
  wakes true s answers (Some known) None h used = memory-awake known s h (some-held false h.holds None s h.holding used)
  wakes true s answers (Some known) (Some p) h used = alive-awake s h (some-held false h.holds None s h.holding used)

  -- how it stands before its next event, where the controller is lit
  pub before_event : (y : Used) (s : ChipState W) (answers : List Answer) (known : Option Known) (pending : Option Pending) → Stands false y s answers known pending → AliveBefore y (next_event_by partitions s answers known pending) s
  before_event y s answers None pending h =
      let path = after_answers answers (attach_path g) in
      let now = attach-before y path s (safe-moment (AttachLaw y) path s h) in
      subst (λ q. AliveBefore y (next_event (attach_path q) answers) s) (sym now.holding.geometry) now
  before_event y s answers (Some known) None h = memory_alive y known s h
  before_event y s answers (Some known) (Some p) h =
      let path = after_answers p.answers (operation_path g partitions known p.op) in
      let now = op-before y path s (safe-moment (OpLaw y) path s h) in
      subst (λ q. AliveBefore y (next_event (operation_path q partitions known p.op) p.answers) s) (sym now.holding.geometry) now

  -- the controller goes dark
  pub darkened : (y : Used) (s : ChipState W) (answers : List Answer) (known : Option Known) (pending : Option Pending) → Stands false y s answers known pending → Stands true y s answers known pending
  darkened y s answers None pending h = alive_at false y s answers None pending h
  darkened y s answers (Some known) None h = h
  darkened y s answers (Some known) (Some p) h = alive_at false y s answers (Some known) (Some p) h

  alive_flipped : (y : Used) (s : ChipState W) (page bit : ℕ) → AliveOn y s → AliveOn y (happens model s (Flipped page bit))
  alive_flipped y s page bit h = alive-still g c (Good_ y) (Fresh_ y) h.holds (happens model s (Flipped page bit)) (holding-flipped g c (Good_ y) (Fresh_ y) model h.holds None s page bit h.holding) h.rests

  memory_flipped : (y : Used) (known : Known) (s : ChipState W) (page bit : ℕ) → MemoryOn y known s → MemoryOn y known (happens model s (Flipped page bit))
  memory_flipped y known s page bit h = record {
    holds = h.holds;
    holding = holding-flipped g c (Shows g F (Once g y) AnyBlock) ((b : ℕ) → Once g y b → ⊥) model h.holds None s page bit h.holding;
    rests = h.rests;
    both = h.both;
    form = h.form;
    shows = h.shows;
  }

  -- ---- flips
  flip_one : (dark : Bool) (y : Used) (s : ChipState W) (answers : List Answer) (known : Option Known) (pending : Option Pending) (page bit : ℕ) → Stands dark y s answers known pending
      → Stands dark y (happens model s (Flipped page bit)) answers known pending
  flip_one false y s answers None pending page bit h = safe-flipped (AttachLaw y) (after_answers answers (attach_path g)) s page bit h
  flip_one false y s answers (Some known) None page bit h = memory_flipped y known s page bit h
  flip_one false y s answers (Some known) (Some p) page bit h = safe-flipped (OpLaw y) (after_answers p.answers (operation_path g partitions known p.op)) s page bit h
  flip_one true y s answers None pending page bit h = alive_flipped y s page bit h
  flip_one true y s answers (Some known) None page bit h = memory_flipped y known s page bit h
  flip_one true y s answers (Some known) (Some p) page bit h = alive_flipped y s page bit h

  pub flips_on : (dark : Bool) (y : Used) (s : ChipState W) (answers : List Answer) (known : Option Known) (pending : Option Pending) (page : ℕ) (bits : List ℕ) → Stands dark y s answers known pending
      → Stands dark y (after_trace model s (flip_events page bits)) answers known pending
  flips_on dark y s answers known pending page [] h = h
  flips_on dark y s answers known pending page (bit ∷ bits) h = flips_on dark y (happens model s (Flipped page bit)) answers known pending page bits (flip_one dark y s answers known pending page bit h)

  -- ---- events
  attach_geometry : (y : Used) (s : ChipState W) (answers : List Answer) (pending : Option Pending) → AttachOn y answers s → s.geometry ≡ g
  attach_geometry y s answers pending h = (alive_at false y s answers None pending h).holding.geometry

  -- the rest of an attach, or what is known once it is over
  by_path : (y : Used) (s : ChipState W) (answers : List Answer) (path : Path Attaching) → after_answers answers (attach_path g) ≡ path → Safe (AttachLaw y) path s
      → Stands false y s answers (known_once_over path) None
  by_path y s answers (Over a) e h =
      let r = safe-result (AttachLaw y) (Over a) s a refl h in
      record { holds = r.holds; holding = r.holding; rests = r.ends.rests; both = r.ends.both; form = r.ends.form; shows = r.ends.shows }
  by_path y s answers (Then event rest) e h = subst (λ p. Safe (AttachLaw y) p s) (sym e) h

  -- a complete event
  pub advance_on : (y : Used) (r : ChipRun W) (e : PageEvent) (known : Option Known) (pending : Option Pending) → r.known ≡ known → r.pending ≡ pending → Stands false y r.chip r.attach_answers known pending
      → next_event_by partitions r.chip r.attach_answers known pending ≡ Some e → IsFairEvent model r.chip (Complete e) → (advanced model r e).quiet ≡ true
      → (z : Used) × Later y z × StandsAt false z (advanced model r e)
  advance_on y r e None pending k p h next fair quiet = (
    y,
    (λ u. u),
    subst (λ o. StandsAt false y (answered_by r after (answer_to model r.chip e) o)) (sym k)
        (subst (λ q. Stands false y after answers (known_once_over (after_answers answers (attach_path q))) None) (sym geometry) (by_path y after answers (after_answers answers (attach_path g)) refl now)),
  )
    where
      geometry : r.chip.geometry ≡ g
      geometry = attach_geometry y r.chip r.attach_answers pending h

      after : ChipState W
      after = happens model r.chip (Complete e)

      answers : List Answer
      answers = r.attach_answers ++ answer_to model r.chip e ∷ []

      is_quiet_now : is_quiet r.chip.geometry r.chip.pages ≡ true
      is_quiet_now = (and_parts r.quiet (is_quiet r.chip.geometry r.chip.pages) (subst (λ o. (answered_by r after (answer_to model r.chip e) o).quiet ≡ true) k quiet)).1

      at : AtEvent (AttachLaw y) (after_answers r.attach_answers (attach_path g)) r.chip e
      at = at-event (AttachLaw y) (after_answers r.attach_answers (attach_path g)) r.chip e (subst (λ q. next_event (attach_path q) r.attach_answers ≡ Some e) geometry next) h

      now : AttachOn y (r.attach_answers ++ answer_to model r.chip e ∷ []) (happens model r.chip (Complete e))
      now =
          subst (λ p. Safe (AttachLaw y) p (happens model r.chip (Complete e))) (sym (answers-joined (AttachLaw y) r.attach_answers (answer_to model r.chip e ∷ []) (attach_path g)))
          (at.complete (fair, is_quiet_now, any_fails r.chip (Complete e)))
  advance_on y r e (Some known) None k p h next fair quiet = absurd (none-some e next)
  advance_on y r e (Some known) (Some op) k p h next fair quiet =
      (y, (λ u. u), subst₂' k p (subst (λ q. Safe (OpLaw y) q (happens model r.chip (Complete e))) (sym (answers-joined (OpLaw y) op.answers (answer_to model r.chip e ∷ []) (operation_path g partitions known op.op))) (at.complete fair)))
    where
      geometry : r.chip.geometry ≡ g
      geometry = (alive_at false y r.chip r.attach_answers (Some known) (Some op) h).holding.geometry

      at : AtEvent (OpLaw y) (after_answers op.answers (operation_path g partitions known op.op)) r.chip e
      at = at-event (OpLaw y) (after_answers op.answers (operation_path g partitions known op.op)) r.chip e
          (subst (λ q. next_event (operation_path q partitions known op.op) op.answers ≡ Some e) geometry next) h

      subst₂' : r.known ≡ Some known → r.pending ≡ Some op → Stands false y (happens model r.chip (Complete e)) r.attach_answers (Some known) (Some (record op { answers = op.answers ++ answer_to model r.chip e ∷ [] })) → StandsAt false y (advanced model r e)
      subst₂' k p i =
          subst (λ o. StandsAt false y (answered_by r (happens model r.chip (Complete e)) (answer_to model r.chip e) o)) (sym k)
          (subst (λ o. Stands false y (happens model r.chip (Complete e)) r.attach_answers o (pending_after r.pending (answer_to model r.chip e))) (sym k)
          (subst (λ o. Stands false y (happens model r.chip (Complete e)) r.attach_answers (Some known) (pending_after o (answer_to model r.chip e))) (sym p) i))

  -- a cut event
  pub cut_on : (y : Used) (r : ChipRun W) (e : PageEvent) (done : DoneBits) (known : Option Known) (pending : Option Pending) → r.known ≡ known → r.pending ≡ pending → Stands false y r.chip r.attach_answers known pending
      → next_event_by partitions r.chip r.attach_answers known pending ≡ Some e → IsFairEvent model r.chip (PowerCut e done) → (torn_at model r e done).quiet ≡ true
      → (z : Used) × Later y z × StandsAt true z (torn_at model r e done)
  cut_on y r e done None pending k p h next fair quiet =
      let geometry = attach_geometry y r.chip r.attach_answers pending h in
      let at = at-event (AttachLaw y) (after_answers r.attach_answers (attach_path g)) r.chip e (subst (λ q. next_event (attach_path q) r.attach_answers ≡ Some e) geometry next) h in
      let q = (and_parts r.quiet (is_quiet r.chip.geometry r.chip.pages) (subst (λ o. (torn_by r (happens model r.chip (PowerCut e done)) o).quiet ≡ true) k quiet)).1 in
      let z = at.cut done (fair, q, tt) in (
        y,
        (λ u. u),
        subst (λ o. StandsAt true y (torn_by r (happens model r.chip (PowerCut e done)) o)) (sym k)
            (subst (λ o. Stands true y (happens model r.chip (PowerCut e done)) r.attach_answers o r.pending) (sym k) z),
      )
  cut_on y r e done (Some known) None k p h next fair quiet = absurd (none-some e next)
  cut_on y r e done (Some known) (Some op) k p h next fair quiet =
      let geometry = (alive_at false y r.chip r.attach_answers (Some known) (Some op) h).holding.geometry in
      let at = at-event (OpLaw y) (after_answers op.answers (operation_path g partitions known op.op)) r.chip e (subst (λ q. next_event (operation_path q partitions known op.op) op.answers ≡ Some e) geometry next) h in
      let z = at.cut done fair in (
        y,
        (λ u. u),
        subst (λ o. StandsAt true y (torn_by r (happens model r.chip (PowerCut e done)) o)) (sym k)
            (subst (λ o. Stands true y (happens model r.chip (PowerCut e done)) r.attach_answers o r.pending) (sym k)
            (subst (λ o. Stands true y (happens model r.chip (PowerCut e done)) r.attach_answers (Some known) o) (sym p) z)),
      )

  -- ---- an operation begins, and is answered
  pub begin_on : (y : Used) (r : ChipRun W) (session : ℕ) (op : Op) (known : Option Known) → r.known ≡ known → r.pending ≡ None → WritesAPage g op → Stands false y r.chip r.attach_answers known None
      → StandsAt false y (with_pending r session op)
  begin_on y r session op None k p fits h = subst (λ o. Stands false y r.chip r.attach_answers o (Some (record { session = session; op = op; answers = [] }))) (sym k) h
  begin_on y r session op (Some known) k p fits h =
      subst (λ o. Stands false y r.chip r.attach_answers o (Some (record { session = session; op = op; answers = [] }))) (sym k)
      (any-op-safe y known r.chip h op fits)

  pub answer_on : (y : Used) (r : ChipRun W) (known : Known) (p : Pending) (finished : Finished) → Stands false y r.chip r.attach_answers (Some known) (Some p) → finished_by partitions r known p ≡ Some finished
      → StandsAt false y (with_finished r finished)
  answer_on y r known p finished h over =
      safe-result (OpLaw y) (after_answers p.answers (operation_path g partitions known p.op)) r.chip finished
      (subst (λ q. result_of (after_answers p.answers (operation_path q partitions known p.op)) ≡ Some finished) (alive_at false y r.chip r.attach_answers (Some known) (Some p) h).holding.geometry over) h
