-- The costs of sessions without the troubles on one device.
use Rattle.std.proofs.Common.{◌≡◌, ℕ, ◌+◌, ◌-◌, ◌*◌, ◌/◌, Bool, true, false, ◌&&◌, cond, eqb, min, List, [], ◌∷◌, ◌++◌, Option, Some, None, refl, sym, ap, ◌∙◌, subst, arith}
use Rattle.std.specs.List.{sum_by, count_by}
use Rattle.std.proofs.lemmas.List.Sums.{sum_by-cons, sum_by_push, sum_by-append}
use Rattle.std.proofs.lemmas.Bool.{eqb-true, ne_eqb, eq-eqb}
use Rattle.command_model.specs.Command.{cost_of, block_size, unit_count}
use Rattle.plan_grammar.specs.declared.lines.PlanLines.{PlanLines}
use Rattle.plan_grammar.specs.declared.lines.BootLines.{BootLines}
use Rattle.plan_grammar.specs.declared.lines.SessionLines.{SessionLines}
use Rattle.plan_grammar.specs.declared.lines.CommandLine.{CommandLine}
use Rattle.plan_grammar.specs.declared.lines.CommandLine.TheVariants.{FlashErase, NandWrite, NandDump, NandTest, MarkBad, IsBad, Stats}
use Rattle.plan_grammar.specs.Rules.{last_of, with_last}
use Rattle.plan_grammar.specs.Devices.{Device, device_at, data_named, weak_programs}
use Rattle.plan_grammar.specs.Costs.{sessions_cost, line_cost, cost_on, device_in, marks_one, marks_many, count_in, weak_for, command_on, bytes_of}
use Rattle.plan_index.specs.Boots.{with_command_line, with_boot_command}
use Rattle.plan_index.proofs.LastItems.{sum-with_last}
use Rattle.plan_costs.specs.Troubles.{offset_on, offsets_on, trouble_cost, troubles_cost, base_on, base_cost}
use Rattle.plan_costs.specs.Laws.{CostsGrow}

-- the cost of a command without the troubles on one device
abbrev rest_line : PlanLines → ℕ → List SessionLines → CommandLine → ℕ
rest_line plan dev others (NandWrite d mark raw oob pad off name) =
    cond (eqb d dev) (base_cost plan (NandWrite d mark raw oob pad off name)) (line_cost plan others
    (NandWrite d mark raw oob pad off name))
rest_line plan dev others command = line_cost plan others command

-- the same of sessions, of which some stand before them
abbrev rest_cost : PlanLines → ℕ → (before sessions : List SessionLines) → ℕ
rest_cost plan dev before [] = 0
rest_cost plan dev before (session ∷ later) =
    sum_by (rest_line plan dev (before ++ later)) session.commands + rest_cost plan dev (before ++ session ∷ []) later

-- a nandwrite on the device: its base and its trouble
write_here : (plan : PlanLines) (others : List SessionLines) (device : Device) (d : ℕ) (mark raw oob pad : Bool) (off : ℕ) (name : List ℕ)
    (o : Option Device) → o ≡ Some device →
    cost_on plan others (NandWrite d mark raw oob pad off name) o
    ≡ base_on plan (NandWrite d mark raw oob pad off name) o + (device.chip.geometry.pages_per_block + 2) * weak_for device d off others
write_here plan others device d mark raw oob pad off name None e = absurd (cc e)
write_here plan others device d mark raw oob pad off name (Some other) e =
    let same : other ≡ device = cc e in
    subst (λ (v : Device). cost_on plan others (NandWrite d mark raw oob pad off name) (Some other)
    ≡ base_on plan (NandWrite d mark raw oob pad off name) (Some other) + (v.chip.geometry.pages_per_block + 2) * weak_for v d off others) same
    (three ((other.part.count - off / block_size other.chip.geometry) + unit_count other.chip.geometry oob (bytes_of (data_named plan name)))
    (other.chip.geometry.pages_per_block + 2) (weak_for other d off others))
  where
    three : (a b w : ℕ) → a + b * w ≡ a + b * 0 + b * w
    three a b w = omega (arith, mul_zero b)
      where
        mul_zero : (b : ℕ) → b * 0 ≡ 0
        mul_zero b = omega arith

one_sum : (f : ℕ → ℕ) (x : ℕ) → sum_by f (x ∷ []) ≡ f x
one_sum f x = sum_by-cons f x [] ∙ omega arith

-- the cost of a command: its rest and its trouble
line_split : (plan : PlanLines) (device : Device) (dev : ℕ) → device_at plan dev ≡ Some device → (others : List SessionLines)
    (command : CommandLine) →
    line_cost plan others command ≡ rest_line plan dev others command + trouble_cost device dev others (offset_on dev command)
line_split plan device dev at others (NandWrite d mark raw oob pad off name) = by_test (eqb d dev) refl
  where
    by_test : (b : Bool) → eqb d dev ≡ b → line_cost plan others (NandWrite d mark raw oob pad off name)
        ≡ cond (eqb d dev) (base_cost plan (NandWrite d mark raw oob pad off name)) (line_cost plan others (NandWrite d mark raw oob pad off name))
        + trouble_cost device dev others (cond (eqb d dev) (off ∷ []) [])
    by_test true e =
        let same : d ≡ dev = eqb-true d dev e in
        let here = write_here plan others device d mark raw oob pad off name (device_at plan d) (subst (λ k. device_at plan k ≡ Some device) (sym same) at) in
        subst (λ b. line_cost plan others (NandWrite d mark raw oob pad off name)
        ≡ cond b (base_cost plan (NandWrite d mark raw oob pad off name)) (line_cost plan others (NandWrite d mark raw oob pad off name))
        + trouble_cost device dev others (cond b (off ∷ []) [])) (sym e)
        (here ∙ ap (λ n. base_cost plan (NandWrite d mark raw oob pad off name) + n)
        (ap (λ k. (device.chip.geometry.pages_per_block + 2) * weak_for device k off others) same
        ∙ sym (one_sum (λ o. (device.chip.geometry.pages_per_block + 2) * weak_for device dev o others) off)))
    by_test false e =
        subst (λ b. line_cost plan others (NandWrite d mark raw oob pad off name)
        ≡ cond b (base_cost plan (NandWrite d mark raw oob pad off name)) (line_cost plan others (NandWrite d mark raw oob pad off name))
        + trouble_cost device dev others (cond b (off ∷ []) [])) (sym e) (omega arith)
line_split plan device dev at others (FlashErase d no_scan start count) = omega arith
line_split plan device dev at others (NandDump d off len raw oob bad) = omega arith
line_split plan device dev at others (NandTest d keep mark seed passes off len) = omega arith
line_split plan device dev at others (MarkBad d block) = omega arith
line_split plan device dev at others (IsBad d block) = omega arith
line_split plan device dev at others (Stats d) = omega arith

-- the same of the commands of a session
commands_split : (plan : PlanLines) (device : Device) (dev : ℕ) → device_at plan dev ≡ Some device → (others : List SessionLines)
    (commands : List CommandLine) →
    sum_by (line_cost plan others) commands
    ≡ sum_by (rest_line plan dev others) commands + trouble_cost device dev others (offsets_on dev commands)
commands_split plan device dev at others [] = refl
commands_split plan device dev at others (command ∷ commands) =
    let f : ℕ → ℕ = λ off. (device.chip.geometry.pages_per_block + 2) * weak_for device dev off others in
    omega (
      arith,
      sum_by-cons (line_cost plan others) command commands,
      sum_by-cons (rest_line plan dev others) command commands,
      sum_by-append f (offset_on dev command) (offsets_on dev commands),
      line_split plan device dev at others command,
      commands_split plan device dev at others commands,
    )

-- the same of sessions
sessions_split : (plan : PlanLines) (device : Device) (dev : ℕ) → device_at plan dev ≡ Some device →
    (sessions before : List SessionLines) →
    sessions_cost plan before sessions ≡ rest_cost plan dev before sessions + troubles_cost device dev before sessions
sessions_split plan device dev at [] before = refl
sessions_split plan device dev at (session ∷ later) before =
    omega (
      arith,
      commands_split plan device dev at (before ++ later) session.commands,
      sessions_split plan device dev at later (before ++ session ∷ []),
    )

-- marks on other devices than a command's are the same with it
pub count_with : (test : CommandLine → Bool) (command : CommandLine) (before sessions : List SessionLines) (session : SessionLines) →
    last_of sessions ≡ Some session →
    count_in test (before ++ with_last (with_command_line command) sessions) ≡ count_in test (before ++ sessions) + cond (test command) 1 0
count_with test command before sessions session e =
    let f : SessionLines → ℕ = λ s. count_by test s.commands in
    omega (
      arith,
      sum_by-append f before (with_last (with_command_line command) sessions),
      sum_by-append f before sessions,
      sum-with_last f (with_command_line command) (cond (test command) 1 0) sessions session e
          (sum_by_push (λ (c : CommandLine). cond (test c) 1 0) session.commands command),
    )

false_and : (b c : Bool) → c ≡ false → (b && c) ≡ false
false_and true c e = e
false_and false c e = refl

-- a command marks no other device than its own
pub not_one : (dev : ℕ) (command : CommandLine) → eqb (device_in command) dev ≡ false → marks_one dev command ≡ false
not_one dev (MarkBad d block) e = e
not_one dev (FlashErase d no_scan start count) e = refl
not_one dev (NandWrite d mark raw oob pad off name) e = refl
not_one dev (NandDump d off len raw oob bad) e = refl
not_one dev (NandTest d keep mark seed passes off len) e = refl
not_one dev (IsBad d block) e = refl
not_one dev (Stats d) e = refl

pub not_many : (dev : ℕ) (command : CommandLine) → eqb (device_in command) dev ≡ false → marks_many dev command ≡ false
not_many dev (NandWrite d mark raw oob pad off name) e = false_and mark (eqb d dev) e
not_many dev (NandTest d keep mark seed passes off len) e = false_and mark (eqb d dev) e
not_many dev (FlashErase d no_scan start count) e = refl
not_many dev (NandDump d off len raw oob bad) e = refl
not_many dev (MarkBad d block) e = refl
not_many dev (IsBad d block) e = refl
not_many dev (Stats d) e = refl

-- the same marks on a device
pub record SameMarks (dev : ℕ) (one other : List SessionLines) : Type 0 where
  pub ones : count_in (marks_one dev) one ≡ count_in (marks_one dev) other
  pub many : count_in (marks_many dev) one ≡ count_in (marks_many dev) other

pub same_marks : (dev : ℕ) (command : CommandLine) (before sessions : List SessionLines) (session : SessionLines) →
    last_of sessions ≡ Some session → eqb (device_in command) dev ≡ false →
    SameMarks dev (before ++ with_last (with_command_line command) sessions) (before ++ sessions)
same_marks dev command before sessions session e apart = record {
  ones = count_with (marks_one dev) command before sessions session e
      ∙ ap (λ b. count_in (marks_one dev) (before ++ sessions) + cond b 1 0) (not_one dev command apart) ∙ omega arith;
  many = count_with (marks_many dev) command before sessions session e
      ∙ ap (λ b. count_in (marks_many dev) (before ++ sessions) + cond b 1 0) (not_many dev command apart) ∙ omega arith;
}

-- a nandwrite costs the same beside the same marks on its device
pub write_same : (plan : PlanLines) (one other : List SessionLines) (d : ℕ) (mark raw oob pad : Bool) (off : ℕ) (name : List ℕ)
    (o : Option Device) → SameMarks d one other →
    cost_on plan one (NandWrite d mark raw oob pad off name) o ≡ cost_on plan other (NandWrite d mark raw oob pad off name) o
write_same plan one other d mark raw oob pad off name None same = refl
write_same plan one other d mark raw oob pad off name (Some device) same =
    ap (λ n. cost_of device.chip.geometry (command_on plan device.part.count (NandWrite d mark raw oob pad off name))
    (min (device.part.count - off / block_size device.chip.geometry) (weak_programs device.chip + n
    + count_in (marks_many d) one * device.part.count))) same.ones
    ∙ ap (λ n. cost_of device.chip.geometry (command_on plan device.part.count (NandWrite d mark raw oob pad off name))
    (min (device.part.count - off / block_size device.chip.geometry) (weak_programs device.chip + count_in (marks_one d) other
    + n * device.part.count))) same.many

-- a command that is no nandwrite costs the same beside any sessions
pub other_same : (plan : PlanLines) (one other : List SessionLines) (dev : ℕ) (command : CommandLine) →
    ((d : ℕ) → eqb dev d ≡ false → SameMarks d one other) → rest_line plan dev one command ≡ rest_line plan dev other command
other_same plan one other dev (NandWrite d mark raw oob pad off name) same = by_test (eqb d dev) refl
  where
    by_test : (b : Bool) → eqb d dev ≡ b →
        cond (eqb d dev) (base_cost plan (NandWrite d mark raw oob pad off name)) (line_cost plan one (NandWrite d mark raw oob pad off name))
        ≡ cond (eqb d dev) (base_cost plan (NandWrite d mark raw oob pad off name)) (line_cost plan other (NandWrite d mark raw oob pad off name))
    by_test true e = subst (λ b.
        cond b (base_cost plan (NandWrite d mark raw oob pad off name)) (line_cost plan one (NandWrite d mark raw oob pad off name))
        ≡ cond b (base_cost plan (NandWrite d mark raw oob pad off name)) (line_cost plan other (NandWrite d mark raw oob pad off name))) (sym e) refl
    by_test false e = subst (λ b.
        cond b (base_cost plan (NandWrite d mark raw oob pad off name)) (line_cost plan one (NandWrite d mark raw oob pad off name))
        ≡ cond b (base_cost plan (NandWrite d mark raw oob pad off name)) (line_cost plan other (NandWrite d mark raw oob pad off name))) (sym e)
        (write_same plan one other d mark raw oob pad off name (device_at plan d) (same d (flipped dev d e)))
      where
        flipped : (a b : ℕ) → eqb b a ≡ false → eqb a b ≡ false
        flipped a b f = ne_eqb a b (λ equal. both (eqb b a) (eq-eqb b a (sym equal)) f)
          where
            both : (t : Bool) → t ≡ true → t ≡ false → ⊥
            both t p q = let bad : true ≡ false = sym p ∙ q in cc bad
other_same plan one other dev (FlashErase d no_scan start count) same = any_erase (device_at plan d)
  where
    any_erase : (o : Option Device) → cost_on plan one (FlashErase d no_scan start count) o ≡ cost_on plan other (FlashErase d no_scan start count) o
    any_erase None = refl
    any_erase (Some device) = refl
other_same plan one other dev (NandDump d off len raw oob bad) same = any_dump (device_at plan d)
  where
    any_dump : (o : Option Device) → cost_on plan one (NandDump d off len raw oob bad) o ≡ cost_on plan other (NandDump d off len raw oob bad) o
    any_dump None = refl
    any_dump (Some device) = refl
other_same plan one other dev (NandTest d keep mark seed passes off len) same = any_test (device_at plan d)
  where
    any_test : (o : Option Device) → cost_on plan one (NandTest d keep mark seed passes off len) o ≡ cost_on plan other (NandTest d keep mark seed passes off len) o
    any_test None = refl
    any_test (Some device) = refl
other_same plan one other dev (MarkBad d block) same = any_mark (device_at plan d)
  where
    any_mark : (o : Option Device) → cost_on plan one (MarkBad d block) o ≡ cost_on plan other (MarkBad d block) o
    any_mark None = refl
    any_mark (Some device) = refl
other_same plan one other dev (IsBad d block) same = any_ask (device_at plan d)
  where
    any_ask : (o : Option Device) → cost_on plan one (IsBad d block) o ≡ cost_on plan other (IsBad d block) o
    any_ask None = refl
    any_ask (Some device) = refl
other_same plan one other dev (Stats d) same = any_count (device_at plan d)
  where
    any_count : (o : Option Device) → cost_on plan one (Stats d) o ≡ cost_on plan other (Stats d) o
    any_count None = refl
    any_count (Some device) = refl

pub sum_same : {A : Type 0} (f g : A → ℕ) → ((x : A) → f x ≡ g x) → (xs : List A) → sum_by f xs ≡ sum_by g xs
sum_same f g same [] = refl
sum_same f g same (x ∷ xs) = omega (arith, sum_by-cons f x xs, sum_by-cons g x xs, same x, sum_same f g same xs)

-- a command's rest on its own device is its base
rest_base : (plan : PlanLines) (others : List SessionLines) (command : CommandLine) →
    rest_line plan (device_in command) others command ≡ base_cost plan command
rest_base plan others (NandWrite d mark raw oob pad off name) =
    ap (λ b. cond b (base_cost plan (NandWrite d mark raw oob pad off name)) (line_cost plan others (NandWrite d mark raw oob pad off name)))
    (eq-eqb d d refl)
rest_base plan others (FlashErase d no_scan start count) = by_device (device_at plan d)
  where
    by_device : (o : Option Device) → cost_on plan others (FlashErase d no_scan start count) o ≡ base_on plan (FlashErase d no_scan start count) o
    by_device None = refl
    by_device (Some device) = refl
rest_base plan others (NandDump d off len raw oob bad) = by_device (device_at plan d)
  where
    by_device : (o : Option Device) → cost_on plan others (NandDump d off len raw oob bad) o ≡ base_on plan (NandDump d off len raw oob bad) o
    by_device None = refl
    by_device (Some device) = refl
rest_base plan others (NandTest d keep mark seed passes off len) = by_device (device_at plan d)
  where
    by_device : (o : Option Device) → cost_on plan others (NandTest d keep mark seed passes off len) o ≡ base_on plan (NandTest d keep mark seed passes off len) o
    by_device None = refl
    by_device (Some device) = refl
rest_base plan others (MarkBad d block) = by_device (device_at plan d)
  where
    by_device : (o : Option Device) → cost_on plan others (MarkBad d block) o ≡ base_on plan (MarkBad d block) o
    by_device None = refl
    by_device (Some device) = refl
rest_base plan others (IsBad d block) = by_device (device_at plan d)
  where
    by_device : (o : Option Device) → cost_on plan others (IsBad d block) o ≡ base_on plan (IsBad d block) o
    by_device None = refl
    by_device (Some device) = refl
rest_base plan others (Stats d) = by_device (device_at plan d)
  where
    by_device : (o : Option Device) → cost_on plan others (Stats d) o ≡ base_on plan (Stats d) o
    by_device None = refl
    by_device (Some device) = refl

-- the rest of sessions grows by the base of the command
rest_grows : (plan : PlanLines) (command : CommandLine) (sessions before : List SessionLines) (session : SessionLines) →
    last_of sessions ≡ Some session →
    rest_cost plan (device_in command) before (with_last (with_command_line command) sessions)
    ≡ rest_cost plan (device_in command) before sessions + base_cost plan command
rest_grows plan command [] before session e = absurd (cc e)
rest_grows plan command (s ∷ []) before session e =
    omega (
      arith,
      sum_by_push (rest_line plan (device_in command) (before ++ [])) s.commands command,
      rest_base plan (before ++ []) command,
    )
rest_grows plan command (s ∷ next ∷ later) before session e =
    let dev : ℕ = device_in command in
    let sessions : List SessionLines = next ∷ later in
    let changed : List SessionLines = with_last (with_command_line command) sessions in
    let same = sum_same (rest_line plan dev (before ++ changed)) (rest_line plan dev (before ++ sessions))
    (λ (c : CommandLine). other_same plan (before ++ changed) (before ++ sessions) dev c
    (λ d apart. same_marks d command before sessions session e apart)) s.commands in
    omega (arith, same, rest_grows plan command (next ∷ later) (before ++ s ∷ []) session e)

-- the costs of sessions grow so
sessions_grow : (plan : PlanLines) (command : CommandLine) (device : Device) (sessions : List SessionLines) (session : SessionLines) →
    last_of sessions ≡ Some session → device_at plan (device_in command) ≡ Some device →
    sessions_cost plan [] (with_last (with_command_line command) sessions) + troubles_cost device (device_in command) [] sessions
    ≡ sessions_cost plan [] sessions + (base_cost plan command
    + troubles_cost device (device_in command) [] (with_last (with_command_line command) sessions))
sessions_grow plan command device sessions session e at =
    omega (
      arith,
      sessions_split plan device (device_in command) at sessions [],
      sessions_split plan device (device_in command) at (with_last (with_command_line command) sessions) [],
      rest_grows plan command sessions [] session e,
    )

sum_grows : {A : Type 0} (f : A → ℕ) (g : A → A) (m n : ℕ) (xs : List A) (x : A) → last_of xs ≡ Some x →
    f (g x) + m ≡ f x + n → sum_by f (with_last g xs) + m ≡ sum_by f xs + n
sum_grows f g m n [] x e more = absurd (cc e)
sum_grows f g m n (y ∷ []) x e more =
    let same : y ≡ x = cc e in
    let here : f (g y) + m ≡ f y + n = subst (λ z. f (g z) + m ≡ f z + n) (sym same) more in
    omega (arith, sum_by-cons f (g y) [], sum_by-cons f y [], here)
sum_grows f g m n (y ∷ z ∷ xs) x e more =
    omega (arith, sum_by-cons f y (with_last g (z ∷ xs)), sum_by-cons f y (z ∷ xs), sum_grows f g m n (z ∷ xs) x e more)

-- the costs of a plan grow so
pub costs_grow : CostsGrow
costs_grow plan boot session command device boot_is session_is at =
    let m : ℕ = troubles_cost device (device_in command) [] boot.sessions in
    let n : ℕ = base_cost plan command
    + troubles_cost device (device_in command) [] (with_last (with_command_line command) boot.sessions) in
    let whole = sum_grows (λ (b : BootLines). sessions_cost plan [] b.sessions) (with_boot_command command) m n plan.boots boot boot_is
    (sessions_grow plan command device boot.sessions session session_is at) in
    whole ∙ omega arith
