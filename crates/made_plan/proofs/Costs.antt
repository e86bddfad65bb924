-- What the commands of the plan of a number cost at most, whatever the other sessions are.
use Rattle.std.proofs.Common.{◌≡◌, ◌∙◌, ℕ, ◌+◌, ◌*◌, ◌/◌, ◌≤◌, false, List, [], ◌∷◌, ◌++◌, length, Some, ap, arith}
use Rattle.std.specs.Prelude.{sum_by, unwrap_or}
use Rattle.std.specs.List.{AllByRecursion}
use Rattle.std.specs.Option.{option_map}
use Rattle.nand_model.specs.declared.words.BadMode.TheVariants.{PadBad}
use Rattle.plan_grammar.specs.declared.lines.PlanLines.{PlanLines}
use Rattle.plan_grammar.specs.declared.lines.DataLine.{DataLine}
use Rattle.plan_grammar.specs.declared.lines.SessionLines.{SessionLines}
use Rattle.plan_grammar.specs.declared.lines.CommandLine.{CommandLine}
use Rattle.plan_grammar.specs.declared.lines.CommandLine.TheVariants.{FlashErase, NandWrite, NandDump, NandTest, MarkBad, IsBad, Stats}
use Rattle.plan_grammar.specs.Devices.{device_at, data_named, data_length}
use Rattle.plan_grammar.specs.Costs.{bytes_of, cost_on, line_cost, sessions_cost}
use Rattle.plan_store.proofs.Named.{data_is}
use Rattle.made_plan.proofs.Plans.{made_device}

-- commands of device J, where the plan has it
module _ (plan : PlanLines) (others : List SessionLines) (j : ℕ) (is : device_at plan j ≡ Some (made_device j)) where
  pub erase_cost : line_cost plan others (FlashErase j false 0 0) ≡ 28
  erase_cost = ap (cost_on plan others (FlashErase j false 0 0)) is

  pub test_cost : line_cost plan others (NandTest j false false 0 1 131072 131072) ≡ 131
  test_cost = ap (cost_on plan others (NandTest j false false 0 1 131072 131072)) is

  pub mark_cost : line_cost plan others (MarkBad j 13) ≡ 1
  mark_cost = ap (cost_on plan others (MarkBad j 13)) is

  pub dump_cost : line_cost plan others (NandDump j 0 131072 false false PadBad) ≡ 65
  dump_cost = ap (cost_on plan others (NandDump j 0 131072 false false PadBad)) is

  pub ask_cost : line_cost plan others (IsBad j 13) ≡ 1
  ask_cost = ap (cost_on plan others (IsBad j 13)) is

  pub count_cost : line_cost plan others (Stats j) ≡ 1
  count_cost = ap (cost_on plan others (Stats j)) is

  -- a block of data, and each of the device's blocks may fail a page
  pub write_cost : (name : List ℕ) (payload : DataLine) → data_named plan name ≡ Some payload → data_length payload ≡ 131072 →
      line_cost plan others (NandWrite j false false false false 0 name) ≤ 1002
  write_cost name payload named len =
      let write : CommandLine = NandWrite j false false false false 0 name in
      let bytes : length (bytes_of (data_named plan name)) ≡ 131072 =
      data_is plan write ∙ ap (λ o. unwrap_or (option_map data_length o) 0) named ∙ len in
      let units : (length (bytes_of (data_named plan name)) + 2047) / 2048 ≡ 64 = ap (λ b. (b + 2047) / 2048) bytes in
      let cost = ap (cost_on plan others write) is in
      omega (arith, cost, units)

-- so many sessions, each of which costs little beside any others
pub sessions_cheap : (plan : PlanLines) (before sessions : List SessionLines) →
    AllByRecursion (λ (s : SessionLines). (others : List SessionLines) → sum_by (line_cost plan others) s.commands ≤ 1200) sessions →
    sessions_cost plan before sessions ≤ 1200 * length sessions
sessions_cheap plan before [] h = omega arith
sessions_cheap plan before (s ∷ later) h =
    let here = h.0 (before ++ later) in
    omega (arith, here, sessions_cheap plan (before ++ s ∷ []) later h.1)
