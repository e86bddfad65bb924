-- The boots of the plan of a number are read.
use Rattle.std.proofs.Common.{◌≡◌, ℕ, zero, suc, ◌+◌, ◌*◌, ◌/◌, ◌%◌, ◌^◌, ◌≤◌, ◌<◌, true, false, eqb, ltb, take, List, [], ◌∷◌, ◌++◌, length, map, Some, Ok, sym, ap, refl, subst, arith, append_assoc, length-append}
use Rattle.std.specs.Prelude.{All, flat_map, sum_by}
use Rattle.std.specs.List.{AllByRecursion, list_all}
use Rattle.std.proofs.lemmas.Bool.{and_from, and_parts, lt-ltb, ltb-true}
use Rattle.std.proofs.lemmas.List.{append-nil}
use Rattle.std.proofs.lemmas.List.Elements.{All-cons, All-nil}
use Rattle.nand_model.specs.declared.words.BadMode.TheVariants.{PadBad}
use Rattle.plan_grammar.specs.declared.kind.PlanKind.TheVariants.{UnknownName, NotMultiple}
use Rattle.plan_grammar.specs.declared.lines.PlanLines.{PlanLines}
use Rattle.plan_grammar.specs.declared.lines.BootLines.{BootLines}
use Rattle.plan_grammar.specs.declared.lines.DataLine.{DataLine}
use Rattle.plan_grammar.specs.declared.lines.FaultLine.{FaultLine}
use Rattle.plan_grammar.specs.declared.lines.SessionLines.{SessionLines}
use Rattle.plan_grammar.specs.declared.lines.CommandLine.{CommandLine}
use Rattle.plan_grammar.specs.declared.lines.CommandLine.TheVariants.{FlashErase, NandWrite, NandDump, NandTest, MarkBad, IsBad, Stats}
use Rattle.plan_grammar.specs.Devices.{data_named, data_length}
use Rattle.plan_grammar.specs.Faults.{flips_of}
use Rattle.plan_grammar.specs.Commands.{device_rules, range_rules, write_rules}
use Rattle.plan_laws.proofs.Steps.{rule_step, there_step}
use Rattle.plan_laws.proofs.Numbers.{IsSmall}
use Rattle.made_plan.specs.Made.{made_data, made_devices, made_flip, made_flips, flip_of, flipped_bits, data_name, reading_boot, reading_session, writing_boot, writing_session}
use Rattle.made_plan.proofs.Lists.{passed_push}
use Rattle.made_plan.proofs.Reached.{IsReached}
use Rattle.made_plan.proofs.Plans.{whole, boot_of, session_of, made_device}
use Rattle.made_plan.proofs.Costs.{erase_cost, write_cost, test_cost, mark_cost, dump_cost, ask_cost, count_cost}
use Rattle.made_plan.proofs.Known.{IsKnown, all_known}
use Rattle.made_plan.proofs.Adding.{IsCheap, boot_cost, cheap_boot, during, boot_reached, flip_reached, session_reached, command_reached}

-- a block of data may be written to a device
write_allowed : (plan : PlanLines) (j : ℕ) (name : List ℕ) (payload : DataLine) → data_named plan name ≡ Some payload → data_length payload ≡ 131072 →
    write_rules plan (made_device j) false false 0 name ≡ Ok tt
unfolding write_rules
write_allowed plan j name payload named len =
    there_step (data_named plan name) UnknownName _ payload tt named
    (rule_step (eqb (data_length payload % 2048) 0) NotMultiple _ tt (ap (λ b. eqb (b % 2048) 0) len) refl)

-- its second block may be tested, and its first one dumped
test_allowed : (plan : PlanLines) (j : ℕ) → device_rules plan (made_device j) (NandTest j false false 0 1 131072 131072) ≡ Ok tt
unfolding range_rules
test_allowed plan j = refl

dump_allowed : (plan : PlanLines) (j : ℕ) → device_rules plan (made_device j) (NandDump j 0 131072 false false PadBad) ≡ Ok tt
unfolding range_rules
dump_allowed plan j = refl

-- the commands of the first boot
abbrev erase : ℕ → CommandLine
erase j = FlashErase j false 0 0

abbrev write : ℕ → CommandLine
write j = NandWrite j false false false false 0 (data_name j)

abbrev test : ℕ → CommandLine
test j = NandTest j false false 0 1 131072 131072

abbrev mark : ℕ → CommandLine
mark j = MarkBad j 13

-- those of the second
abbrev dump : ℕ → CommandLine
dump j = NandDump j 0 131072 false false PadBad

abbrev ask : ℕ → CommandLine
ask j = IsBad j 13

abbrev tell : ℕ → CommandLine
tell j = Stats j

module _ (n j : ℕ) (known : IsKnown n j) where
  one_cheap : IsCheap n (session_of (j / 8) (erase j ∷ []))
  one_cheap boots others = omega (arith, erase_cost (whole n boots) others j (known.device boots))

  two_cheap : IsCheap n (session_of (j / 8) (erase j ∷ write j ∷ []))
  two_cheap boots others =
      let first = erase_cost (whole n boots) others j (known.device boots) in
      let second = write_cost (whole n boots) others j (known.device boots) (data_name j) (made_data n j) (known.payload boots) refl in
      omega (arith, first, second)

  three_cheap : IsCheap n (session_of (j / 8) (erase j ∷ write j ∷ test j ∷ []))
  three_cheap boots others =
      let first = erase_cost (whole n boots) others j (known.device boots) in
      let second = write_cost (whole n boots) others j (known.device boots) (data_name j) (made_data n j) (known.payload boots) refl in
      let third = test_cost (whole n boots) others j (known.device boots) in
      omega (arith, first, second, third)

  writing_cheap : IsCheap n (writing_session j)
  writing_cheap boots others =
      let first = erase_cost (whole n boots) others j (known.device boots) in
      let second = write_cost (whole n boots) others j (known.device boots) (data_name j) (made_data n j) (known.payload boots) refl in
      let third = test_cost (whole n boots) others j (known.device boots) in
      let fourth = mark_cost (whole n boots) others j (known.device boots) in
      omega (arith, first, second, third, fourth)

  dump_cheap : IsCheap n (session_of (j / 8) (dump j ∷ []))
  dump_cheap boots others = omega (arith, dump_cost (whole n boots) others j (known.device boots))

  ask_cheap : IsCheap n (session_of (j / 8) (dump j ∷ ask j ∷ []))
  ask_cheap boots others =
      let first = dump_cost (whole n boots) others j (known.device boots) in
      let second = ask_cost (whole n boots) others j (known.device boots) in
      omega (arith, first, second)

  reading_cheap : IsCheap n (reading_session j)
  reading_cheap boots others =
      let first = dump_cost (whole n boots) others j (known.device boots) in
      let second = ask_cost (whole n boots) others j (known.device boots) in
      let third = count_cost (whole n boots) others j (known.device boots) in
      omega (arith, first, second, third)

-- the sessions of the devices, one after the other
module _ (n : ℕ) (earlier : List BootLines) (early : (boots : List BootLines) → sum_by (boot_cost (whole n boots)) earlier ≤ 19200)
    (faults : List FaultLine) where
  -- the boots, where the last one has a session of device J with these commands
  abbrev boots_with : List SessionLines → ℕ → List CommandLine → List BootLines
  boots_with done j commands = earlier ++ boot_of faults (done ++ session_of (j / 8) commands ∷ []) ∷ []

  writing_one : (done : List SessionLines) (j : ℕ) → IsKnown n j → AllByRecursion (IsCheap n) done → length done < 16 →
      IsReached (during n earlier faults done) → IsReached (during n earlier faults (done ++ writing_session j ∷ []))
  writing_one done j known cheap few h =
      let dev : j < 2 ^ 64 = omega (arith, known.small) in
      let zero_small : IsSmall 0 = omega arith in
      let begun = session_reached n earlier faults done (j / 8) known.controller few h in
      let erased = command_reached n earlier early faults done (j / 8) [] (erase j) (made_device j) cheap few (dev, zero_small, zero_small)
      (known.own (boots_with done j [])) refl (one_cheap n j known) begun in
      let written = command_reached n earlier early faults done (j / 8) (erase j ∷ []) (write j) (made_device j) cheap few
      (dev, omega arith, known.named) (known.own (boots_with done j (erase j ∷ [])))
      (write_allowed (whole n (boots_with done j (erase j ∷ []))) j (data_name j) (made_data n j) (known.payload (boots_with done j (erase j ∷ []))) refl)
      (two_cheap n j known) erased in
      let tested = command_reached n earlier early faults done (j / 8) (erase j ∷ write j ∷ []) (test j) (made_device j) cheap few
      (dev, omega arith, omega arith, omega arith, omega arith, omega arith) (known.own (boots_with done j (erase j ∷ write j ∷ [])))
      (test_allowed (whole n (boots_with done j (erase j ∷ write j ∷ []))) j) (three_cheap n j known) written in
      command_reached n earlier early faults done (j / 8) (erase j ∷ write j ∷ test j ∷ []) (mark j) (made_device j) cheap few
      (dev, omega arith) (known.own (boots_with done j (erase j ∷ write j ∷ test j ∷ []))) refl (writing_cheap n j known) tested

  reading_one : (done : List SessionLines) (j : ℕ) → IsKnown n j → AllByRecursion (IsCheap n) done → length done < 16 →
      IsReached (during n earlier faults done) → IsReached (during n earlier faults (done ++ reading_session j ∷ []))
  reading_one done j known cheap few h =
      let dev : j < 2 ^ 64 = omega (arith, known.small) in
      let begun = session_reached n earlier faults done (j / 8) known.controller few h in
      let dumped = command_reached n earlier early faults done (j / 8) [] (dump j) (made_device j) cheap few (dev, omega arith, omega arith)
      (known.own (boots_with done j [])) (dump_allowed (whole n (boots_with done j [])) j) (dump_cheap n j known) begun in
      let asked = command_reached n earlier early faults done (j / 8) (dump j ∷ []) (ask j) (made_device j) cheap few (dev, omega arith)
      (known.own (boots_with done j (dump j ∷ []))) refl (ask_cheap n j known) dumped in
      command_reached n earlier early faults done (j / 8) (dump j ∷ ask j ∷ []) (tell j) (made_device j) cheap few dev
      (known.own (boots_with done j (dump j ∷ ask j ∷ []))) refl (reading_cheap n j known) asked

  -- all of a boot's sessions, where each of them can be added
  sessions_reached : (session : ℕ → SessionLines) → ((j : ℕ) → IsKnown n j → IsCheap n (session j)) →
      ((done : List SessionLines) (j : ℕ) → IsKnown n j → AllByRecursion (IsCheap n) done → length done < 16 →
      IsReached (during n earlier faults done) → IsReached (during n earlier faults (done ++ session j ∷ []))) →
      (done : List SessionLines) (js : List ℕ) → AllByRecursion (IsKnown n) js → AllByRecursion (IsCheap n) done → length done + length js ≤ 16 →
      IsReached (during n earlier faults done) → IsReached (during n earlier faults (done ++ map session js))
  sessions_reached session low add done [] known cheap few h =
      subst (λ (ss : List SessionLines). IsReached (during n earlier faults ss)) (sym (append-nil done)) h
  sessions_reached session low add done (j ∷ js) known cheap few h =
      let here = add done j known.0 cheap (omega (arith, few)) h in
      let more : AllByRecursion (IsCheap n) (done ++ session j ∷ []) = passed_push (IsCheap n) done (session j) cheap (low j known.0) in
      subst (λ (ss : List SessionLines). IsReached (during n earlier faults ss)) (append_assoc done (session j ∷ []) (map session js))
      (sessions_reached session low add (done ++ session j ∷ []) js known.1 more (omega (arith, few, length-append done (session j ∷ []))) here)

cheap_sessions : (n : ℕ) (js : List ℕ) → AllByRecursion (IsKnown n) js → AllByRecursion (IsCheap n) (map writing_session js)
cheap_sessions n [] known = tt
cheap_sessions n (j ∷ js) known = (writing_cheap n j known.0, cheap_sessions n js known.1)

no_cost : (n : ℕ) (boots : List BootLines) → sum_by (boot_cost (whole n boots)) [] ≤ 19200
no_cost n boots = omega arith

-- the first boot
writing_reached : (n : ℕ) → IsReached (whole n []) → IsReached (whole n (writing_boot ∷ []))
unfolding writing_boot
writing_reached n h =
    sessions_reached n [] (no_cost n) [] writing_session (writing_cheap n) (writing_one n [] (no_cost n) []) [] made_devices (all_known n) tt
    (omega arith) (boot_reached n [] (omega arith) h)

-- what its sessions cost
cost_of_boot : (n : ℕ) (boots : List BootLines) (boot : BootLines) (sessions : List SessionLines) → boot ≡ boot_of [] sessions → length sessions ≤ 16 →
    AllByRecursion (IsCheap n) sessions → boot_cost (whole n boots) boot ≤ 19200
cost_of_boot n boots boot sessions is few h =
    let same = ap (boot_cost (whole n boots)) is in
    omega (arith, same, cheap_boot n boots [] sessions h, few)

writing_is : writing_boot ≡ boot_of [] (map writing_session made_devices)
unfolding writing_boot
writing_is = refl

writing_cost : (n : ℕ) (boots : List BootLines) → sum_by (boot_cost (whole n boots)) (writing_boot ∷ []) ≤ 19200
writing_cost n boots =
    let one = cost_of_boot n boots writing_boot (map writing_session made_devices) writing_is (omega arith) (cheap_sessions n made_devices (all_known n)) in
    omega (arith, one)

no_flips : sum_by flips_of (writing_boot ∷ []) ≡ 0
unfolding writing_boot
no_flips = refl

-- the bits of a flip stand in a page
bits_within : (k : ℕ) → list_all (λ bit. ltb bit 16896) (take k (100 ∷ 200 ∷ 300 ∷ 400 ∷ [])) ≡ true
bits_within zero = refl
bits_within (suc zero) = refl
bits_within (suc (suc zero)) = refl
bits_within (suc (suc (suc zero))) = refl
bits_within (suc (suc (suc (suc zero)))) = refl
bits_within (suc (suc (suc (suc (suc k))))) = refl

small_bits : (bits : List ℕ) → list_all (λ bit. ltb bit 16896) bits ≡ true → All IsSmall bits
small_bits [] h = All-nil IsSmall
small_bits (bit ∷ bits) h =
    let parts = and_parts (ltb bit 16896) (list_all (λ b. ltb b 16896) bits) h in
    let below = ltb-true bit 16896 parts.0 in
    All-cons IsSmall bit bits (omega (arith, below)) (small_bits bits parts.1)

-- the flip of a device, where it has bits
flip_added : (n : ℕ) (done : List FaultLine) (j : ℕ) (bits : List ℕ) → IsKnown n j → list_all (λ bit. ltb bit 16896) bits ≡ true → length done < 16 →
    IsReached (during n (writing_boot ∷ []) done []) → IsReached (during n (writing_boot ∷ []) (done ++ flip_of j bits) [])
flip_added n done j [] known within few h =
    subst (λ (fs : List FaultLine). IsReached (during n (writing_boot ∷ []) fs [])) (sym (append-nil done)) h
flip_added n done j (bit ∷ bits) known within few h =
    let page : 896 * (j % 2) < 2048 = omega arith in
    flip_reached n (writing_boot ∷ []) done (j / 8) (record { chip = j % 8 / 2; page = 896 * (j % 2); before = 1; bits = bit ∷ bits })
    no_flips few (omega (arith, known.controller)) (omega arith) (omega (arith, page)) refl (small_bits (bit ∷ bits) within) (omega arith)
    (known.chip (writing_boot ∷ boot_of done [] ∷ []))
    (and_from (ltb (896 * (j % 2)) 2048) (list_all (λ b. ltb b 16896) (bit ∷ bits)) (lt-ltb (896 * (j % 2)) 2048 page) within) h

flip_few : (j : ℕ) (bits : List ℕ) → length (flip_of j bits) ≤ 1
flip_few j [] = omega arith
flip_few j (bit ∷ bits) = omega arith

flips_reached : (n : ℕ) (done : List FaultLine) (js : List ℕ) → AllByRecursion (IsKnown n) js → length done + length js ≤ 16 →
    IsReached (during n (writing_boot ∷ []) done []) → IsReached (during n (writing_boot ∷ []) (done ++ flat_map (made_flip n) js) [])
flips_reached n done [] known few h =
    subst (λ (fs : List FaultLine). IsReached (during n (writing_boot ∷ []) fs [])) (sym (append-nil done)) h
flips_reached n done (j ∷ js) known few h =
    let here = flip_added n done j (flipped_bits n j) known.0 (bits_within ((n % 5 + j) % 5)) (omega (arith, few)) h in
    subst (λ (fs : List FaultLine). IsReached (during n (writing_boot ∷ []) fs [])) (append_assoc done (made_flip n j) (flat_map (made_flip n) js))
    (flips_reached n (done ++ made_flip n j) js known.1
    (omega (arith, few, length-append done (made_flip n j), flip_few j (flipped_bits n j))) here)

-- the second boot
reading_reached : (n : ℕ) → IsReached (whole n (writing_boot ∷ [])) → IsReached (whole n (writing_boot ∷ reading_boot n ∷ []))
unfolding reading_boot made_flips
reading_reached n h =
    let begun = boot_reached n (writing_boot ∷ []) (omega arith) h in
    let flipped = flips_reached n [] made_devices (all_known n) (omega arith) begun in
    sessions_reached n (writing_boot ∷ []) (writing_cost n) (flat_map (made_flip n) made_devices) reading_session (reading_cheap n)
    (reading_one n (writing_boot ∷ []) (writing_cost n) (flat_map (made_flip n) made_devices)) [] made_devices (all_known n) tt (omega arith) flipped

pub boots_reached : (n : ℕ) → IsReached (whole n []) → IsReached (whole n (writing_boot ∷ reading_boot n ∷ []))
boots_reached n h = reading_reached n (writing_reached n h)
