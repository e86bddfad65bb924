-- What the plan of a number has for each of its sixteen devices.
use Rattle.std.proofs.Common.{◌≡◌, ℕ, ◌/◌, ◌%◌, ◌<◌, true, List, Some, Ok, refl, arith}
use Rattle.std.specs.Fmt.{digits}
use Rattle.std.specs.List.{AllByRecursion}
use Rattle.plan_grammar.specs.declared.lines.BootLines.{BootLines}
use Rattle.plan_grammar.specs.Forms.{is_name}
use Rattle.plan_grammar.specs.Devices.{device_at, data_named}
use Rattle.plan_grammar.specs.Faults.{chip_at}
use Rattle.plan_grammar.specs.Commands.{device_of}
use Rattle.made_plan.specs.Made.{made_chip, made_controllers, made_data, made_devices, made_payloads, data_name}
use Rattle.made_plan.proofs.Plans.{whole, made_device}

-- the device of a number is there, with its chip and its data
pub record IsKnown (n j : ℕ) : Type 0 where
  pub small : j < 16
  pub controller : j / 8 < 2
  pub device : (boots : List BootLines) → device_at (whole n boots) j ≡ Some (made_device j)
  pub own : (boots : List BootLines) → device_of (whole n boots) (j / 8) j ≡ Ok (made_device j)
  pub chip : (boots : List BootLines) → chip_at (whole n boots) (j / 8, j % 8 / 2) ≡ Some made_chip
  pub named : is_name (data_name j) ≡ true
  pub payload : (boots : List BootLines) → data_named (whole n boots) (data_name j) ≡ Some (made_data n j)

known_0 : (n : ℕ) → IsKnown n 0
unfolding digits is_name device_of made_controllers made_payloads
known_0 n =
    record {
      small = omega arith;
      controller = omega arith;
      device = λ boots. refl;
      own = λ boots. refl;
      chip = λ boots. refl;
      named = refl;
      payload = λ boots. refl;
    }

known_1 : (n : ℕ) → IsKnown n 1
unfolding digits is_name device_of made_controllers made_payloads
known_1 n =
    record {
      small = omega arith;
      controller = omega arith;
      device = λ boots. refl;
      own = λ boots. refl;
      chip = λ boots. refl;
      named = refl;
      payload = λ boots. refl;
    }

known_2 : (n : ℕ) → IsKnown n 2
unfolding digits is_name device_of made_controllers made_payloads
known_2 n =
    record {
      small = omega arith;
      controller = omega arith;
      device = λ boots. refl;
      own = λ boots. refl;
      chip = λ boots. refl;
      named = refl;
      payload = λ boots. refl;
    }

known_3 : (n : ℕ) → IsKnown n 3
unfolding digits is_name device_of made_controllers made_payloads
known_3 n =
    record {
      small = omega arith;
      controller = omega arith;
      device = λ boots. refl;
      own = λ boots. refl;
      chip = λ boots. refl;
      named = refl;
      payload = λ boots. refl;
    }

known_4 : (n : ℕ) → IsKnown n 4
unfolding digits is_name device_of made_controllers made_payloads
known_4 n =
    record {
      small = omega arith;
      controller = omega arith;
      device = λ boots. refl;
      own = λ boots. refl;
      chip = λ boots. refl;
      named = refl;
      payload = λ boots. refl;
    }

known_5 : (n : ℕ) → IsKnown n 5
unfolding digits is_name device_of made_controllers made_payloads
known_5 n =
    record {
      small = omega arith;
      controller = omega arith;
      device = λ boots. refl;
      own = λ boots. refl;
      chip = λ boots. refl;
      named = refl;
      payload = λ boots. refl;
    }

known_6 : (n : ℕ) → IsKnown n 6
unfolding digits is_name device_of made_controllers made_payloads
known_6 n =
    record {
      small = omega arith;
      controller = omega arith;
      device = λ boots. refl;
      own = λ boots. refl;
      chip = λ boots. refl;
      named = refl;
      payload = λ boots. refl;
    }

known_7 : (n : ℕ) → IsKnown n 7
unfolding digits is_name device_of made_controllers made_payloads
known_7 n =
    record {
      small = omega arith;
      controller = omega arith;
      device = λ boots. refl;
      own = λ boots. refl;
      chip = λ boots. refl;
      named = refl;
      payload = λ boots. refl;
    }

known_8 : (n : ℕ) → IsKnown n 8
unfolding digits is_name device_of made_controllers made_payloads
known_8 n =
    record {
      small = omega arith;
      controller = omega arith;
      device = λ boots. refl;
      own = λ boots. refl;
      chip = λ boots. refl;
      named = refl;
      payload = λ boots. refl;
    }

known_9 : (n : ℕ) → IsKnown n 9
unfolding digits is_name device_of made_controllers made_payloads
known_9 n =
    record {
      small = omega arith;
      controller = omega arith;
      device = λ boots. refl;
      own = λ boots. refl;
      chip = λ boots. refl;
      named = refl;
      payload = λ boots. refl;
    }

known_10 : (n : ℕ) → IsKnown n 10
unfolding digits is_name device_of made_controllers made_payloads
known_10 n =
    record {
      small = omega arith;
      controller = omega arith;
      device = λ boots. refl;
      own = λ boots. refl;
      chip = λ boots. refl;
      named = refl;
      payload = λ boots. refl;
    }

known_11 : (n : ℕ) → IsKnown n 11
unfolding digits is_name device_of made_controllers made_payloads
known_11 n =
    record {
      small = omega arith;
      controller = omega arith;
      device = λ boots. refl;
      own = λ boots. refl;
      chip = λ boots. refl;
      named = refl;
      payload = λ boots. refl;
    }

known_12 : (n : ℕ) → IsKnown n 12
unfolding digits is_name device_of made_controllers made_payloads
known_12 n =
    record {
      small = omega arith;
      controller = omega arith;
      device = λ boots. refl;
      own = λ boots. refl;
      chip = λ boots. refl;
      named = refl;
      payload = λ boots. refl;
    }

known_13 : (n : ℕ) → IsKnown n 13
unfolding digits is_name device_of made_controllers made_payloads
known_13 n =
    record {
      small = omega arith;
      controller = omega arith;
      device = λ boots. refl;
      own = λ boots. refl;
      chip = λ boots. refl;
      named = refl;
      payload = λ boots. refl;
    }

known_14 : (n : ℕ) → IsKnown n 14
unfolding digits is_name device_of made_controllers made_payloads
known_14 n =
    record {
      small = omega arith;
      controller = omega arith;
      device = λ boots. refl;
      own = λ boots. refl;
      chip = λ boots. refl;
      named = refl;
      payload = λ boots. refl;
    }

known_15 : (n : ℕ) → IsKnown n 15
unfolding digits is_name device_of made_controllers made_payloads
known_15 n =
    record {
      small = omega arith;
      controller = omega arith;
      device = λ boots. refl;
      own = λ boots. refl;
      chip = λ boots. refl;
      named = refl;
      payload = λ boots. refl;
    }

-- all sixteen
pub all_known : (n : ℕ) → AllByRecursion (IsKnown n) made_devices
all_known n =
    (known_0 n, (known_1 n, (known_2 n, (known_3 n, (known_4 n, (known_5 n, (known_6 n, (known_7 n, (known_8 n, (known_9 n, (known_10 n, (known_11 n, (known_12 n, (known_13 n, (known_14 n, (known_15 n, tt))))))))))))))))
