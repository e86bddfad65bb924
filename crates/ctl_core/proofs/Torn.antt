-- An event that is done, whole or torn.
use Rattle.std.proofs.Common.{◌≡◌, ℕ, ◌+◌, List, map, Option, Some, Bor, ap, sym, ◌∙◌}
use Rattle.std.specs.Prelude.{slice_get, option_copied, is_some}
use Rattle.std.proofs.Math.ListN.{set}
use Rattle.nand_iface.specs.declared.flash.Flash.{Ghosts}
use Rattle.nand_model.specs.Chip.{PageEvent}
use Rattle.nand_model.specs.declared.tear.Tear.{Tear}
use Rattle.nand_model.specs.declared.words.CutAt.{CutAt}
use Rattle.nand_model.specs.declared.words.Flip.{Flip}
use Rattle.command_model.specs.Boot.{change_at}
use Rattle.nand_model.specs.Cuts.{tear_at}
use Rattle.ctl_core.specs.declared.board.Board.{Board}
use Rattle.ctl_core.specs.declared.board.Slot.{Slot}
use Rattle.ctl_core.specs.SlotState.{SlotState, slot_after, notes_after}
use Rattle.ctl_core.specs.Board.{slot_state, slot_states, DidEvent}
use Rattle.ctl_core.specs.Flips.{slot_flips_before}
use Rattle.ctl_core.proofs.Places.{mapped_set}

-- the tear that the faults lend is that of the course
pub lent_tear : (cut : Option CutAt) (n : ℕ) (lent : Option (Bor Tear)) (o : Option Tear) → option_copied lent ≡ tear_at cut n → option_copied lent ≡ o
    → tear_at cut n ≡ o
lent_tear cut n lent o h i = sym h ∙ i

-- the flips that were due are made, and then chip k did its event
pub did_event : {F C : Type 0} {flash : Ghosts F} (flips : List Flip) (cut : Option CutAt) (k : ℕ) (x : SlotState flash.FaultState) (e : PageEvent)
    (old new : Board F C flash) (slots : List (Slot F C flash)) (slot now : Slot F C flash) (o : Option Tear)
    → map slot_state slots ≡ slot_flips_before flash.fault_model flips (old.events + 1) (slot_states old) → slice_get slots k ≡ Some slot → slot_state slot ≡ x
    → tear_at cut (old.events + 1) ≡ o → new.slots.items ≡ set slots k now → slot_state now ≡ slot_after flash.fault_model e o (slot_state slot)
    → new.events ≡ old.events + 1 → new.dark ≡ is_some o
    → new.notes.notes ≡ notes_after flash.fault_model k (old.events + 1) e o (slot_state slot) old.notes.notes → new.sessions.items ≡ old.sessions.items
    → DidEvent flips cut k x e old new
did_event {F} {C} {flash} flips cut k x e old new slots slot now o made at stood torn is stands events dark notes sessions = record {
  chips = ap (map slot_state) is ∙ mapped_set slot_state (slot_after flash.fault_model e o) slots k slot now at stands
      ∙ (λ d. change_at (made d) k (slot_after flash.fault_model e (sym torn d)));
  events = events;
  dark = dark ∙ ap (λ (t : Option Tear). is_some t) (sym torn);
  notes = notes ∙ (λ d. notes_after flash.fault_model k (old.events + 1) e (sym torn d) (stood d) old.notes.notes);
  sessions = sessions;
}
