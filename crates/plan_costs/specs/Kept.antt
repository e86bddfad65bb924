-- What is kept of a boot's commands on one device, as the sessions go on.
use Rattle.std.specs.Prelude.{ℕ, ◌≤◌, ◌==◌, if◌then◌else◌, List, length, Option, Some, None, IfSome}
use Rattle.plan_grammar.specs.declared.lines.SessionLines.{SessionLines}
use Rattle.plan_index.specs.declared.device.DeviceSize.{DeviceSize}
use Rattle.plan_costs.specs.declared.troubles.DeviceTroubles.{DeviceTroubles}
use Rattle.plan_costs.specs.Room.{Troubles, AreTroubles, troubles_behind, no_troubles}

-- as it was kept
abbrev pub troubles_of : DeviceTroubles → Troubles
troubles_of kept = record {
  elsewhere = kept.elsewhere;
  everywhere = kept.everywhere;
  earlier = kept.earlier.items;
  here = kept.here.items;
}

-- in a boot of so many sessions
abbrev pub troubles_at : ℕ → DeviceTroubles → Troubles
troubles_at sessions kept =
    if kept.sessions == sessions then troubles_of kept else troubles_behind (troubles_of kept)

-- the same where nothing may be kept yet
abbrev pub troubles_in : ℕ → DeviceSize → Option DeviceTroubles → Troubles
troubles_in sessions size None = no_troubles size
troubles_in sessions size (Some kept) = troubles_at sessions kept

-- it tells what these sessions may spoil
pub record Knows (size : DeviceSize) (dev : ℕ) (sessions : List SessionLines) (kept : Option DeviceTroubles) :
    Type 0 where
  pub in_time : IfSome kept (λ (k : DeviceTroubles). k.sessions ≤ length sessions)
  pub told : AreTroubles size dev sessions (troubles_in (length sessions) size kept)
