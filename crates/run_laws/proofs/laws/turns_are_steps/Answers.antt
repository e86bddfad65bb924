-- Step by step, and turn by turn.
use Rattle.run_laws.proofs.Turns.{turn_is_step, busy_turns_suffice}
use Rattle.run_laws.proofs.laws.turns_are_steps.Goals as goal

pub returns : goal.returns
returns g c = record {
  one_step = λ model boot sizes course session. turn_is_step model boot sizes course session;
  busy_turns = λ model boot starts turns course. busy_turns_suffice model boot starts turns course;
}
