-- Data, and the lines of a boot, are read behind the lines before them.
use Rattle.std.proofs.Common.{◌≡◌, ◌∙◌, ℕ, ◌+◌, ◌*◌, ◌^◌, ◌≤◌, ◌<◌, true, List, [], ◌∷◌, ◌++◌, length, Some, Ok, sym, ap, refl, subst, arith, length-append}
use Rattle.std.specs.Prelude.{All, decimal, sum_by}
use Rattle.std.specs.List.{AllByRecursion}
use Rattle.std.proofs.lemmas.List.{length-map}
use Rattle.std.proofs.lemmas.List.Sums.{sum_by_push, count_by-le-length}
use Rattle.nand_model.specs.declared.words.Flip.{Flip as Turned}
use Rattle.plan_grammar.specs.declared.kind.PlanKind.TheVariants.{WrongPlace}
use Rattle.plan_grammar.specs.declared.words.LineKind.TheVariants.{Boot as BootKind, Flip as FlipKind, Session as SessionKind}
use Rattle.plan_grammar.specs.declared.lines.PlanLines.{PlanLines}
use Rattle.plan_grammar.specs.declared.lines.BootLines.{BootLines}
use Rattle.plan_grammar.specs.declared.lines.FaultLine.{FaultLine}
use Rattle.plan_grammar.specs.declared.lines.FaultLine.TheVariants.{Flip}
use Rattle.plan_grammar.specs.declared.lines.SessionLines.{SessionLines}
use Rattle.plan_grammar.specs.declared.lines.CommandLine.{CommandLine}
use Rattle.plan_grammar.specs.declared.lines.CommandLine.TheVariants.{FlashErase, NandWrite, NandDump, NandTest, MarkBad, IsBad, Stats}
use Rattle.plan_grammar.specs.Limits.{most_boots, most_operations}
use Rattle.plan_grammar.specs.Rules.{last_of, with_last}
use Rattle.plan_grammar.specs.Devices.{Device}
use Rattle.plan_grammar.specs.Faults.{open_boot, is_flip, flips_of, chip_at, has_bits}
use Rattle.plan_grammar.specs.Sessions.{running_boot}
use Rattle.plan_grammar.specs.Costs.{device_in, line_cost, plan_cost, sessions_cost}
use Rattle.plan_grammar.specs.Commands.{command_line, device_of, device_rules, with_command}
use Rattle.plan_grammar.specs.Grammar.{line_by_kind}
use Rattle.plan_laws.proofs.Steps.{there_step}
use Rattle.plan_laws.proofs.Numbers.{IsSmall}
use Rattle.plan_laws.proofs.Boots.{boot_again, flip_again, flip_texts, session_again}
use Rattle.plan_laws.proofs.Commands.{kind_of, HasFit}
use Rattle.plan_laws.proofs.CommandWords.{command_texts, command_again}
use Rattle.plan_index.proofs.LastItems.{last_of_push}
use Rattle.made_plan.specs.Made.{made_chip}
use Rattle.made_plan.proofs.Lists.{with_last_push, passed_push}
use Rattle.made_plan.proofs.Reached.{IsReached, reached}
use Rattle.made_plan.proofs.Plans.{whole, boot_of, session_of, two_controllers, some_chip}
use Rattle.made_plan.proofs.Costs.{sessions_cheap}

-- a session that costs little beside any others, whatever the boots are
abbrev pub IsCheap : ℕ → SessionLines → Type 0
IsCheap n session = (boots : List BootLines) (others : List SessionLines) → sum_by (line_cost (whole n boots) others) session.commands ≤ 1200

cheap_in : (n : ℕ) (boots : List BootLines) (sessions : List SessionLines) → AllByRecursion (IsCheap n) sessions →
    AllByRecursion (λ (s : SessionLines). (others : List SessionLines) → sum_by (line_cost (whole n boots) others) s.commands ≤ 1200) sessions
cheap_in n boots [] h = tt
cheap_in n boots (s ∷ sessions) h = (h.0 boots, cheap_in n boots sessions h.1)

-- what the sessions of a boot cost in a plan
abbrev pub boot_cost : PlanLines → BootLines → ℕ
boot_cost plan boot = sessions_cost plan [] boot.sessions

-- the sessions of a boot
pub cheap_boot : (n : ℕ) (boots : List BootLines) (faults : List FaultLine) (sessions : List SessionLines) → AllByRecursion (IsCheap n) sessions →
    boot_cost (whole n boots) (boot_of faults sessions) ≤ 1200 * length sessions
cheap_boot n boots faults sessions h = sessions_cheap (whole n boots) [] sessions (cheap_in n boots sessions h)

-- a command's line by its kind
by_kind : (command : CommandLine) (plan next : PlanLines) (words : List (List ℕ)) → command_line (kind_of command) plan words ≡ Ok next →
    line_by_kind (kind_of command) plan words ≡ Ok next
by_kind (FlashErase dev no_scan start count) plan next words e = e
by_kind (NandWrite dev mark raw oob pad off name) plan next words e = e
by_kind (NandDump dev off len raw oob bad) plan next words e = e
by_kind (NandTest dev keep mark seed passes off len) plan next words e = e
by_kind (MarkBad dev block) plan next words e = e
by_kind (IsBad dev block) plan next words e = e
by_kind (Stats dev) plan next words e = e

-- the plan while lines of a boot are added behind earlier boots
module _ (n : ℕ) (earlier : List BootLines) where
  abbrev pub during : List FaultLine → List SessionLines → PlanLines
  during faults sessions = whole n (earlier ++ boot_of faults sessions ∷ [])

  -- `boot`
  pub boot_reached : length earlier < most_boots → IsReached (whole n earlier) → IsReached (during [] [])
  boot_reached few h =
      reached BootKind (whole n earlier) (during [] []) [] h
      (boot_again (whole n earlier) (during [] []) (record { may = some_chip n earlier; few = few; next_is = refl }))

  opened : (faults : List FaultLine) → open_boot (during faults []) ≡ Ok (boot_of faults [])
  unfolding open_boot
  opened faults =
      there_step (last_of (earlier ++ boot_of faults [] ∷ [])) WrongPlace _ (boot_of faults []) (boot_of faults [])
      (last_of_push earlier (boot_of faults [])) refl

  running : (faults : List FaultLine) (sessions : List SessionLines) → running_boot (during faults sessions) ≡ Ok (boot_of faults sessions)
  unfolding running_boot
  running faults sessions =
      there_step (last_of (earlier ++ boot_of faults sessions ∷ [])) WrongPlace _ (boot_of faults sessions) (boot_of faults sessions)
      (last_of_push earlier (boot_of faults sessions)) refl

  -- `flip C.K PAGE 1 BIT` and further BITs
  pub flip_reached : (done : List FaultLine) (c : ℕ) (flip : Turned) → sum_by flips_of earlier ≡ 0 → length done < 16 → c < 2 ^ 64 →
      flip.chip < 2 ^ 64 → IsSmall flip.page → flip.before ≡ 1 → All IsSmall flip.bits → 0 < length flip.bits →
      chip_at (during done []) (c, flip.chip) ≡ Some made_chip → has_bits made_chip flip.page flip.bits ≡ true →
      IsReached (during done []) → IsReached (during (done ++ Flip c flip ∷ []) [])
  flip_reached done c flip none few small_c small_k page before bits some named within h =
      let flips = sum_by_push flips_of earlier (boot_of done []) in
      let own = count_by-le-length is_flip done in
      let texts = length-map flip.bits (λ bit. decimal bit) in
      reached FlipKind (during done []) (during (done ++ Flip c flip ∷ []) []) (flip_texts c flip) h
      (flip_again (during done []) (during (done ++ Flip c flip ∷ []) []) (flip_texts c flip) (record {
        boot = boot_of done [];
        opened = opened done;
        controller = c;
        flip = flip;
        names_fit = (small_c, small_k);
        page_small = page;
        before_some = omega (arith, before);
        before_small = omega (arith, before);
        bits_small = bits;
        some = some;
        short = omega (arith, texts);
        chip = made_chip;
        named = named;
        within = within;
        few = omega (arith, flips, own, none, few);
        next_is = ap (λ (boots : List BootLines). whole n boots)
            (with_last_push (λ (boot : BootLines). record boot { faults = boot.faults ++ Flip c flip ∷ [] }) earlier (boot_of done []));
      }))

  -- `session C`
  pub session_reached : (faults : List FaultLine) (done : List SessionLines) (c : ℕ) → c < 2 → length done < 16 →
      IsReached (during faults done) → IsReached (during faults (done ++ session_of c [] ∷ []))
  session_reached faults done c small few h =
      reached SessionKind (during faults done) (during faults (done ++ session_of c [] ∷ [])) (decimal c ∷ []) h
      (session_again (during faults done) (during faults (done ++ session_of c [] ∷ [])) (record {
        boot = boot_of faults done;
        running = running faults done;
        controller = c;
        fits = omega (arith, small);
        there = omega (arith, small, two_controllers);
        few = omega (arith, few);
        next_is = ap (λ (boots : List BootLines). whole n boots)
            (with_last_push (λ (boot : BootLines). record boot { sessions = boot.sessions ++ session_of c [] ∷ [] }) earlier (boot_of faults done));
      }))

  -- with one more command
  more_is : (faults : List FaultLine) (done : List SessionLines) (c : ℕ) (before : List CommandLine) (command : CommandLine) →
      with_command command (during faults (done ++ session_of c before ∷ []))
      ≡ during faults (done ++ session_of c (before ++ command ∷ []) ∷ [])
  more_is faults done c before command =
      let add : SessionLines → SessionLines = λ session. record session { commands = session.commands ++ command ∷ [] } in
      ap (λ (boots : List BootLines). whole n boots)
      (with_last_push (λ (boot : BootLines). record boot { sessions = with_last add boot.sessions }) earlier
      (boot_of faults (done ++ session_of c before ∷ []))
      ∙ ap (λ (sessions : List SessionLines). earlier ++ boot_of faults sessions ∷ []) (with_last_push add done (session_of c before)))

  -- the cost of the boots, with a session that is begun
  cost_low : ((boots : List BootLines) → sum_by (boot_cost (whole n boots)) earlier ≤ 19200) → (faults : List FaultLine) (done : List SessionLines) (s : SessionLines) →
      AllByRecursion (IsCheap n) done → length done < 16 → IsCheap n s → plan_cost (during faults (done ++ s ∷ [])) ≤ most_operations
  cost_low early faults done s h few cheap =
      let boots : List BootLines = earlier ++ boot_of faults (done ++ s ∷ []) ∷ [] in
      let all = sum_by_push (boot_cost (whole n boots)) earlier (boot_of faults (done ++ s ∷ [])) in
      let before = early boots in
      let own = cheap_boot n boots faults (done ++ s ∷ []) (passed_push (IsCheap n) done s h cheap) in
      omega (arith, all, before, own, length-append done (s ∷ []), few)

  -- a command on a device of the session's controller
  pub command_reached : ((boots : List BootLines) → sum_by (boot_cost (whole n boots)) earlier ≤ 19200) → (faults : List FaultLine) (done : List SessionLines) (c : ℕ)
      (before : List CommandLine) (command : CommandLine) (device : Device) → AllByRecursion (IsCheap n) done → length done < 16 → HasFit command →
      device_of (during faults (done ++ session_of c before ∷ [])) c (device_in command) ≡ Ok device →
      device_rules (during faults (done ++ session_of c before ∷ [])) device command ≡ Ok tt →
      IsCheap n (session_of c (before ++ command ∷ [])) →
      IsReached (during faults (done ++ session_of c before ∷ [])) →
      IsReached (during faults (done ++ session_of c (before ++ command ∷ []) ∷ []))
  command_reached early faults done c before command device cheap few fits found rules less h =
      let old : PlanLines = during faults (done ++ session_of c before ∷ []) in
      let new : PlanLines = during faults (done ++ session_of c (before ++ command ∷ []) ∷ []) in
      let more : with_command command old ≡ new = more_is faults done c before command in
      reached (kind_of command) old new (command_texts command) h (by_kind command old new (command_texts command)
      (command_again (kind_of command) old new (record {
        boot = boot_of faults (done ++ session_of c before ∷ []);
        running = running faults (done ++ session_of c before ∷ []);
        session = session_of c before;
        last = last_of_push done (session_of c before);
        command = command;
        of_kind = refl;
        fits = fits;
        device = device;
        found = found;
        rules = rules;
        cheap = subst (λ (p : PlanLines). plan_cost p ≤ most_operations) (sym more)
            (cost_low early faults done (session_of c (before ++ command ∷ [])) cheap few less);
        next_is = more;
      })))
