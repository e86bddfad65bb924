-- What a power cut within the next event leaves of a chip.
use Rattle.std.specs.Prelude.{◌≡◌, Bool, ◌&&◌}
use Rattle.nand_model.specs.Chip.{ChipState, FaultModel, PageEvent, PowerCut, done_bits, happens}
use Rattle.nand_model.specs.Sizes.{raw_len}
use Rattle.nand_model.specs.Quiet.{fairness_of}
use Rattle.nand_model.specs.declared.tear.Tear.{Tear}
use Rattle.nand_model.specs.declared.words.Fairness.{Fairness}
use Rattle.chip_paths.specs.Stage.{Stage, Attaches, Rests, Works}

module _ {W : Type 0} (model : FaultModel W) where
  -- the state of a chip after this event was torn
  abbrev pub state_torn : Tear → PageEvent → ChipState W → ChipState W
  state_torn tear e s = happens model s (PowerCut e (done_bits (raw_len s.geometry) tear))

  -- what is told of the event
  abbrev pub tear_told : Tear → ChipState W → PageEvent → Fairness
  tear_told tear s e = fairness_of s.geometry s.pages e (state_torn tear e s).pages

-- the stage after a torn event: an attach stays quiet where the chip was quiet just before it
abbrev pub stage_torn : Bool → Stage → Stage
stage_torn now_quiet (Attaches left quiet) = Attaches left (quiet && now_quiet)
stage_torn now_quiet (Rests known) = Rests known
stage_torn now_quiet (Works known progress left) = Works known progress left

-- an event was torn: the chip is as after it, and what is told is what it left
pub record IsTorn {W : Type 0} (model : FaultModel W) (tear : Tear) (before after : ChipState W) (told : Fairness)
    (e : PageEvent) : Type 0 where
  pub state : after ≡ state_torn model tear e before
  pub left : told ≡ tear_told model tear before e
