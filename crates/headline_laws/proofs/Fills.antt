-- The writes in the notes of a course: each body fills its page, since those of all commands do.
use Rattle.std.proofs.Common.{◌≡◌, ◌⊎◌, inl, inr, ℕ, zero, suc, Bool, true, false, List, [], ◌∷◌, ◌++◌, map, Option, Some, None, refl, ap, sym, ◌∙◌, subst, arith}
use Rattle.std.specs.Prelude.{slice_get, if◌then◌else◌, Contains, ⊤, ◌==◌, option_map}
use Rattle.std.proofs.lemmas.Bool.{cases_eq, eq-eqb, eqb-true, false≢true}
use Rattle.std.proofs.lemmas.Option.{none-some, same_Some, slice_get-map, get_or_from_slice_get}
use Rattle.nand_model.specs.Chip.{ChipState}
use Rattle.nand_model.specs.Partitions.{Partitions, chip_of, command_device, device_of}
use Rattle.nand_model.specs.Sizes.{small_chip}
use Rattle.nand_model.specs.declared.geometry.Geometry.{Geometry}
use Rattle.nand_model.specs.declared.words.Command.{Command}
use Rattle.nand_model.specs.declared.words.Note.{Note}
use Rattle.nand_model.specs.declared.words.Note.TheVariants.{Answered, Attached, Began, Torn}
use Rattle.nand_model.specs.declared.words.Op.{Op}
use Rattle.nand_model.specs.declared.words.Reply.{Reply}
use Rattle.command_model.specs.Boot.{Boot, geometry_for, geometry_of_chip}
use Rattle.command_model.specs.Command.{Ask, End, Script, after_replies, next_in, script_of}
use Rattle.command_model.specs.Laws.{AsksOnly}
use Rattle.command_model.specs.Session.{Asked, Exchange, FollowsCommands, Replied, SessionRun, exchange_in, exchanges_of, next_op_of, op_of_next, with_reply, without_finished}
use Rattle.command_model.proofs.Devices.{own_device}
use Rattle.run_model.specs.History.{LastChips, is_chip, last_after, notes_of_chip, notes_of_chip_from}
use Rattle.run_model.specs.Run.{AreInOrder}
use Rattle.run_model.specs.Survival.{WritesAPage}
use Rattle.crash_laws.specs.Marked.{WritesFill}
use Rattle.headline_laws.specs.Bodies.{WritesBodies}
use Rattle.headline_laws.proofs.Bodies.{bodies_whole}

-- a script that has got some replies still writes whole bodies, and asks its own device
still_writes : (g : Geometry) (replies : List Reply) (script : Script) → WritesBodies g script → WritesBodies g (after_replies replies script)
still_writes g [] script h = h
still_writes g (r ∷ replies) (Ask op go_on) h = still_writes g replies (go_on r) (h.1 r)
still_writes g (r ∷ replies) (End outcome) h = tt

still_asks : (dev : ℕ) (replies : List Reply) (script : Script) → AsksOnly dev script → AsksOnly dev (after_replies replies script)
still_asks dev [] script h = h
still_asks dev (r ∷ replies) (Ask op go_on) h = still_asks dev replies (go_on r) (h.1 r)
still_asks dev (r ∷ replies) (End outcome) h = tt

module _ (partitions : Partitions) (geometries : List Geometry) where
  abbrev sizes : Command → Geometry
  sizes = geometry_for partitions geometries

  -- an operation that, where it is a write, fills a page of its chip
  abbrev Fills : Op → Type 0
  Fills op = WritesAPage (geometry_of_chip geometries (chip_of partitions (device_of op))) op

  -- so does each that a command asks for
  asked_fills : (command : Command) (script : Script) (op : Op) → WritesBodies (sizes command) script → AsksOnly (command_device command) script
      → op_of_next (next_in script) ≡ Some op → Fills op
  asked_fills command (End outcome) op writes asks h = absurd (none-some op h)
  asked_fills command (Ask first go_on) op writes asks h =
      subst Fills (same_Some first op h)
      (subst (λ dev. WritesAPage (geometry_of_chip geometries (chip_of partitions dev)) first) (sym asks.0) writes.0)

  next_fills : (commands : List Command) (replies : List Reply) (op : Op) → next_op_of sizes commands replies ≡ Some op → Fills op
  next_fills [] replies op h = absurd (none-some op h)
  next_fills (command ∷ commands) replies op h =
      asked_fills command (after_replies replies (script_of (sizes command) command)) op
      (still_writes (sizes command) replies (script_of (sizes command) command) (bodies_whole (sizes command) command))
      (still_asks (command_device command) replies (script_of (sizes command) command) (own_device (sizes command) command)) h

  -- all operations among these exchanges
  abbrev AllFill : List Exchange → Type 0
  AllFill [] = ⊤
  AllFill (Asked op ∷ rest) = Fills op × AllFill rest
  AllFill (Replied reply ∷ rest) = AllFill rest

  followed_fill : (s : SessionRun) (exchanges : List Exchange) → FollowsCommands sizes s exchanges → AllFill exchanges
  followed_fill s [] h = tt
  followed_fill s (Asked op ∷ []) h = (next_fills s.commands s.replies op h, tt)
  followed_fill s (Asked op ∷ Replied reply ∷ rest) h = (next_fills s.commands s.replies op h.0, followed_fill (with_reply sizes reply s) rest h.1)
  followed_fill s (Asked op ∷ Asked next ∷ rest) h = absurd h
  followed_fill s (Replied reply ∷ rest) h = absurd h

  later_fill : (first rest : List Exchange) → AllFill (first ++ rest) → AllFill rest
  later_fill [] rest h = h
  later_fill (Asked op ∷ first) rest h = later_fill first rest h.1
  later_fill (Replied reply ∷ first) rest h = later_fill first rest h

  abbrev SessionsFill : List Note → Type 0
  SessionsFill notes = (session : ℕ) → AllFill (exchanges_of session notes)

  began_fills : (session : ℕ) (op : Op) (notes : List Note) → SessionsFill (Began session op ∷ notes) → Fills op
  began_fills session op notes h =
      (subst (λ b. AllFill ((if b then Asked op ∷ [] else []) ++ exchanges_of session notes)) (eq-eqb session session refl) (h session)).0

  module _ (k : ℕ) (g : Geometry) (is : geometry_of_chip geometries (Some k) ≡ g) where
    there : (o : Option ℕ) → is_chip o k ≡ true → o ≡ Some k
    there None h = absurd (false≢true h)
    there (Some j) h = ap Some (eqb-true j k h)

    -- a note that begins nothing writes nothing
    by_other : (note : Note) → ((notes : List Note) → WritesFill g notes → WritesFill g (note ∷ notes)) → (b : Bool) (notes : List Note)
        → WritesFill g notes → WritesFill g ((if b then note ∷ [] else []) ++ notes)
    by_other note passes true notes h = passes notes h
    by_other note passes false notes h = h

    -- the notes of a chip: a begun operation of the chip fills its page
    chip_fills : (last : LastChips) (notes : List Note) → SessionsFill notes → WritesFill g (notes_of_chip_from partitions last k notes)
    chip_fills last [] h = tt
    chip_fills last (Began session op ∷ notes) h =
        by_chip (is_chip (chip_of partitions (device_of op)) k) refl
        (chip_fills (last_after partitions last (Began session op)) notes (λ s. later_fill (exchange_in s (Began session op)) (exchanges_of s notes) (h s)))
      where
        by_chip : (b : Bool) → is_chip (chip_of partitions (device_of op)) k ≡ b
            → WritesFill g (notes_of_chip_from partitions (last_after partitions last (Began session op)) k notes)
            → WritesFill g ((if b then Began session op ∷ [] else [])
            ++ notes_of_chip_from partitions (last_after partitions last (Began session op)) k notes)
        by_chip true e rest = (
          subst (λ q. WritesAPage q op) (ap (geometry_of_chip geometries) (there (chip_of partitions (device_of op)) e) ∙ is) (began_fills session op notes h),
          rest,
        )
        by_chip false e rest = rest
    chip_fills last (Answered session reply ∷ notes) h =
        by_other (Answered session reply) (λ rest h. h) (is_chip (last session) k)
        (notes_of_chip_from partitions (last_after partitions last (Answered session reply)) k notes)
        (chip_fills (last_after partitions last (Answered session reply)) notes
        (λ s. later_fill (exchange_in s (Answered session reply)) (exchanges_of s notes) (h s)))
    chip_fills last (Attached chip origin version copies quiet states ∷ notes) h =
        by_other (Attached chip origin version copies quiet states) (λ rest h. h) (chip == k)
        (notes_of_chip_from partitions (last_after partitions last (Attached chip origin version copies quiet states)) k notes)
        (chip_fills (last_after partitions last (Attached chip origin version copies quiet states)) notes h)
    chip_fills last (Torn chip number event cut fairness ∷ notes) h =
        by_other (Torn chip number event cut fairness) (λ rest h. h) (chip == k)
        (notes_of_chip_from partitions (last_after partitions last (Torn chip number event cut fairness)) k notes)
        (chip_fills (last_after partitions last (Torn chip number event cut fairness)) notes h)

-- whether a session is among these
session_there : (sessions : List (ℕ × List Command)) (session : ℕ)
    → ((commands : List Command) × Contains sessions (session, commands)) ⊎ ((commands : List Command) → Contains sessions (session, commands) → ⊥)
session_there [] session = inr (λ commands has. omega (arith, has.1))
session_there (own ∷ sessions) session = by_number (cases_eq own.0 session) (session_there sessions session)
  where
    by_number : (own.0 ≡ session) ⊎ (own.0 ≡ session → ⊥)
        → ((commands : List Command) × Contains sessions (session, commands)) ⊎ ((commands : List Command) → Contains sessions (session, commands) → ⊥)
        → ((commands : List Command) × Contains (own ∷ sessions) (session, commands)) ⊎ ((commands : List Command) → Contains (own ∷ sessions) (session, commands) → ⊥)
    by_number (inl same) later = inl (own.1, (0, omega arith, ap (λ n. (n, own.1)) same))
    by_number (inr differs) (inl found) = inl (found.0, (suc found.1.0, (let l = found.1.1 in omega (arith, l)), found.1.2))
    by_number (inr differs) (inr none) = inr not_there
      where
        not_there : (commands : List Command) → Contains (own ∷ sessions) (session, commands) → ⊥
        not_there commands (zero, within, is) = differs (ap (λ (x : ℕ × List Command). x.0) is)
        not_there commands (suc n, within, is) = none commands (n, omega (arith, within), is)

-- where each session's operations are those of its commands, all bodies that are written to a chip
-- fill its pages
pub notes_fill : {W : Type 0} (boot : Boot) (starts : List (ChipState W)) (notes : List Note) → AreInOrder boot starts notes
    → (k : ℕ) (s : ChipState W) → slice_get starts k ≡ Some s → WritesFill s.geometry (notes_of_chip boot.partitions k notes)
notes_fill {W} boot starts notes h k s at =
    chip_fills boot.partitions geometries k s.geometry is (λ session. None) notes (λ session. by_session session (session_there boot.sessions session))
  where
    geometries : List Geometry
    geometries = map (λ (c : ChipState W). c.geometry) starts

    is : geometry_of_chip geometries (Some k) ≡ s.geometry
    is = get_or_from_slice_get geometries k s.geometry small_chip
        (slice_get-map (λ (c : ChipState W). c.geometry) starts k ∙ ap (option_map (λ (c : ChipState W). c.geometry)) at)

    by_session : (session : ℕ) → ((commands : List Command) × Contains boot.sessions (session, commands))
        ⊎ ((commands : List Command) → Contains boot.sessions (session, commands) → ⊥)
        → AllFill boot.partitions geometries (exchanges_of session notes)
    by_session session (inl own) =
        followed_fill boot.partitions geometries (without_finished (geometry_for boot.partitions geometries) session own.0 [] []) (exchanges_of session notes)
        (h.own session own.0 own.1)
    by_session session (inr none) = subst (AllFill boot.partitions geometries) (sym (h.no_other session none)) tt
