-- Bytes come to one thing alone.
use Rattle.std.proofs.Common.{◌≡◌, ◌∙◌, ℕ, List, [], ◌++◌, length, Result, Ok, Err, refl, sym, ap, subst}
use Rattle.nand_model.specs.Chip.{ChipState, SimFaults, new_chip, sim_faults}
use Rattle.nand_model.specs.declared.geometry.Geometry.{Geometry}
use Rattle.nand_model.specs.declared.words.Weak.{Weak}
use Rattle.onfi_bus.specs.Phrases.{Beat, IsLegal}
use Rattle.onfi_bus.specs.Runs.{AreLegal, HaveRun, IsFirstIllegal, bytes_of, cycles_of, events_of, new_device}
use Rattle.onfi_bus.specs.declared.cycle.BusEvent.{BusEvent}
use Rattle.onfi_bus.specs.declared.cycle.Cycle.{Cycle}
use Rattle.onfi_bus.proofs.Runs.{legal_or_not, one_meaning}
use Rattle.plan_grammar.specs.declared.kind.PlanKind.{PlanKind}
use Rattle.bus_script.specs.Answer.{IsErrorOf, IsErrorOfCycles, IsIllegalAt, IsRefusal, IsTextOf, run_text, script_error}
use Rattle.bus_script.specs.Script.{Refusal, reading}
use Rattle.bus_script.specs.declared.error.CycleError.{CycleError}
use Rattle.bus_script.specs.declared.error.CycleError.TheVariants.{Illegal as IllegalCycle, Memory as NoMemory}
use Rattle.bus_script.specs.declared.error.ScriptError.{ScriptError}
use Rattle.bus_script.specs.declared.error.ScriptError.TheVariants.{Refused, Illegal, Memory}
use Rattle.bus_script.specs.declared.script.Script.{Script}

ok_same : (a b : Script) → ◌≡◌ {A = Result Script Refusal} (Ok a) (Ok b) → a ≡ b
ok_same a b e = cc e

same_script : (bytes : List ℕ) (a b : Script) → reading bytes ≡ Ok a → reading bytes ≡ Ok b → a ≡ b
same_script bytes a b e f = ok_same a b (sym e ∙ f)

-- what a list of cycles writes at the chip of a script
abbrev written : Script → List Beat → List ℕ
written script list =
    run_text (events_of list) (bytes_of sim_faults (new_device (new_chip script.geometry [] [])) list)

text_written : (bytes text : List ℕ) → (h : IsTextOf bytes text) → text ≡ written h.script h.run.list
text_written bytes text h =
    h.text_is ∙ ap (λ (es : List BusEvent). run_text es h.given) h.run.events_are ∙ ap (run_text (events_of h.run.list)) h.run.bytes_are

pub one_text : (bytes one other : List ℕ) → IsTextOf bytes one → IsTextOf bytes other → one ≡ other
one_text bytes one other h k =
    let script = same_script bytes k.script h.script k.read h.read in
    let list = one_meaning h.script.geometry h.run.list k.run.list h.run.legal
    (subst (λ (s : Script). IsLegal s.geometry k.run.list) script k.run.legal)
    (h.run.cycles_are ∙ ap (λ (s : Script). s.cycles) (sym script) ∙ sym k.run.cycles_are) in
    text_written bytes one h ∙ ap (written h.script) list ∙ ap (λ (s : Script). written s k.run.list) (sym script)
    ∙ sym (text_written bytes other k)

refused_not_read : (a : Script) (b : Refusal) → ◌≡◌ {A = Result Script Refusal} (Ok a) (Err b) → ⊥
refused_not_read a b e = cc e

pub never_both : (bytes text : List ℕ) (error : ScriptError) → IsTextOf bytes text → IsRefusal bytes error → ⊥
never_both bytes text (Refused at kind) h e = refused_not_read h.script (at, kind) (sym h.read ∙ e)
never_both bytes text (Illegal n) h k =
    let script = same_script bytes k.script h.script k.read h.read in
    legal_or_not h.script.geometry h.script.cycles n (h.run.list, h.run.cycles_are, h.run.legal)
    (subst (λ (s : Script). IsFirstIllegal s.geometry s.cycles n) script k.first)
never_both bytes text Memory h k = k

-- what a script that is run to its end comes to
pub text_of : (bytes text : List ℕ) (script : Script) (start end : ChipState SimFaults) (bad : List ℕ) (weak : List Weak) (cycles : List Cycle)
    (events : List BusEvent) (given : List ℕ) → reading bytes ≡ Ok script → start ≡ new_chip script.geometry bad weak → bad ≡ [] →
    weak ≡ [] → cycles ≡ script.cycles → HaveRun sim_faults start end cycles events given → text ≡ run_text events given → IsTextOf bytes text
text_of bytes text script start end bad weak cycles events given read new none strong same run text_is = record {
  script = script;
  read = read;
  chip = end;
  events = events;
  given = given;
  run = subst (λ (cs : List Cycle). HaveRun sim_faults (new_chip script.geometry [] []) end cs events given) same
      (subst (λ (s : ChipState SimFaults). HaveRun sim_faults s end cycles events given)
      (new ∙ ap (λ (bs : List ℕ). new_chip script.geometry bs weak) none ∙ ap (new_chip script.geometry []) strong) run);
  text_is = text_is;
}

-- why a script is not run to its end
pub error_of : (bytes : List ℕ) (script : Script) (start : ChipState SimFaults) (bad : List ℕ) (weak : List Weak) (cycles : List Cycle)
    (error : CycleError) →
    reading bytes ≡ Ok script → start ≡ new_chip script.geometry bad weak → cycles ≡ script.cycles →
    IsErrorOfCycles start cycles error → IsErrorOf bytes (script_error error)
error_of bytes script start bad weak cycles (IllegalCycle n) read new same first = record {
  script = script;
  read = read;
  first = subst (λ (cs : List Cycle). IsFirstIllegal script.geometry cs n) same
      (subst (λ (g : Geometry). IsFirstIllegal g cycles n) (ap (λ (s : ChipState SimFaults). s.geometry) new) first);
}
error_of bytes script start bad weak cycles NoMemory read new same first = tt
