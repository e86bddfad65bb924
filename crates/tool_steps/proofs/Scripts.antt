-- Scripts, reply by reply.
use Rattle.std.proofs.Common.{◌≡◌, ℕ, ◌*◌, ◌≤◌, List, [], ◌∷◌, ◌++◌, Option, refl, ap, ◌∙◌, sym, arith}
use Rattle.std.proofs.Math.Nat.{mul-le-mul_left}
use Rattle.nand_model.proofs.Bounds.{bounds}
use Rattle.nand_model.specs.Sizes.{parity_start}
use Rattle.nand_model.specs.declared.geometry.Geometry.{Geometry}
use Rattle.nand_model.specs.declared.words.Command.{Command}
use Rattle.nand_model.specs.declared.words.Reply.{Reply}
use Rattle.command_model.specs.Command.{Script, Ask, End, after_replies, script_of}
use Rattle.tool_steps.specs.Steps.{handed, after_last, HasHad}

-- the marker and a byte beside it stand before the parities
pub parity_start-low : (g : Geometry) → 2 ≤ parity_start g
parity_start-low g = omega (arith, (bounds g).room)

pub small_product : (a b : ℕ) → a ≤ 32768 → b ≤ 128 → a * b ≤ 4194304
small_product a b ha hb =
    let one : a * b ≤ a * 128 = mul-le-mul_left a hb in
    omega arith

-- replies one after another
pub after_replies-append : (first second : List Reply) (script : Script)
    → after_replies (first ++ second) script ≡ after_replies second (after_replies first script)
after_replies-append [] second script = refl
after_replies-append (r ∷ first) second (Ask op go_on) = after_replies-append first second (go_on r)
after_replies-append (r ∷ first) [] (End outcome) = refl
after_replies-append (r ∷ first) (s ∷ second) (End outcome) = refl

-- a tool that has had some replies has had one more
pub had_more : (g : Geometry) (command : Command) (replies : List Reply) (last : Option Reply) (before after : Script) → HasHad g command replies before
    → after ≡ after_last last before → HasHad g command (replies ++ handed last) after
had_more g command replies last before after had went =
    went ∙ ap (after_replies (handed last)) had ∙ sym (after_replies-append replies (handed last) (script_of g command))
