-- The canonical text of the plan of a number is read as this plan.
use Rattle.std.proofs.Common.{ℕ, arith}
use Rattle.plan_grammar.specs.Grammar.{IsPlan}
use Rattle.plan_grammar.specs.Canonical.{canonical_text}
use Rattle.made_plan.specs.Made.{made_lines}
use Rattle.made_plan.proofs.Reached.{reached_is_plan}
use Rattle.made_plan.proofs.Hardware.{hardware_reached}
use Rattle.made_plan.proofs.DataLines.{payloads_reached}
use Rattle.made_plan.proofs.Sessions.{boots_reached}
use Rattle.made_plan.proofs.Texts.{fits_text}

pub made_is_plan : (n : ℕ) → IsPlan (canonical_text (made_lines n)) (made_lines n)
made_is_plan n = reached_is_plan (made_lines n) (boots_reached n (payloads_reached n hardware_reached)) (fits_text n) (omega arith)
