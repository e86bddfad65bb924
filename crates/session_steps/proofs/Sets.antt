-- Scripts make up a set, and that a session mirrors one of a course is a proposition.
use Rattle.std.proofs.Common.{◌≡◌, ℕ, refl, ap, subst, List, [], ◌∷◌, Option, Some, None}
use Rattle.std.proofs.Props.{props}
use mathlib.Core.HLevel.{collapsible→set, Π_prop, ×_prop}
use Rattle.nand_model.specs.declared.geometry.Geometry.{Geometry}
use Rattle.nand_model.specs.declared.words.Command.{Command}
use Rattle.nand_model.specs.declared.words.Command.TheVariants.{FlashErase, NandWrite, NandDump, NandTest, MarkBad, IsBad, Stats}
use Rattle.nand_model.specs.declared.words.Note.{Note}
use Rattle.nand_model.specs.declared.words.Op.{Op}
use Rattle.nand_model.specs.declared.words.Outcome.{Outcome}
use Rattle.nand_model.specs.declared.words.Reply.{Reply}
use Rattle.command_model.specs.Command.{Script, End, Ask}
use Rattle.command_model.specs.Session.{SessionRun}
use Rattle.command_model.specs.Runnable.{Fits}
use Rattle.session_steps.specs.declared.session.Session.{Session}
use Rattle.session_steps.specs.Standing.{Standing}
use Rattle.session_steps.specs.Mirrors.{IsUnderWay, IsPlaced, Shows, Mirrors}

-- two scripts that ask for the same operations, whatever the replies, and have the same outcomes
abbrev Same : Script → Script → Type 0
Same (End a) (End b) = a ≡ b
Same (End a) (Ask p g) = ⊥
Same (Ask o f) (End b) = ⊥
Same (Ask o f) (Ask p g) = (o ≡ p) × ((r : Reply) → Same (f r) (g r))

same_script : (s : Script) → Same s s
same_script (End a) = refl
same_script (Ask o f) = (refl, λ r. same_script (f r))

same-eq : (s t : Script) → Same s t → s ≡ t
same-eq (End a) (End b) e = ap End e
same-eq (End a) (Ask p g) e = absurd e
same-eq (Ask o f) (End b) e = absurd e
same-eq (Ask o f) (Ask p g) e = λ i. Ask (e.0 i) (λ r. same-eq (f r) (g r) (e.1 r) i)

Op-set : IsSet Op
Op-set = hlevel props

Outcome-set : IsSet Outcome
Outcome-set = hlevel props

same-prop : (s t : Script) → IsProp (Same s t)
same-prop (End a) (End b) = Outcome-set a b
same-prop (End a) (Ask p g) = hlevel props
same-prop (Ask o f) (End b) = hlevel props
same-prop (Ask o f) (Ask p g) = ×_prop (Op-set o p) (Π_prop (λ r. same-prop (f r) (g r)))

pub Script-set : IsSet Script
Script-set = collapsible→set (λ x y p. same-eq x y (subst (Same x) p (same_script x)))
    (λ x y p q. ap (same-eq x y) (same-prop x y (subst (Same x) p (same_script x)) (subst (Same x) q (same_script x))))

-- that a command can be run is a proposition
Fits-prop : (g : Geometry) (command : Command) → IsProp (Fits g command)
Fits-prop g (FlashErase dev blocks no_scan start count) = hlevel props
Fits-prop g (NandWrite dev blocks mark raw oob pad off bytes) = hlevel props
Fits-prop g (NandDump dev blocks off len raw oob bad) = hlevel props
Fits-prop g (NandTest dev blocks keep mark seed passes off len) = hlevel props
Fits-prop g (MarkBad dev blocks block) = hlevel props
Fits-prop g (IsBad dev blocks block) = hlevel props
Fits-prop g (Stats dev blocks) = hlevel props

IsUnderWay-prop : (sizes : Command → Geometry) (commands : List Command) (replies : List Reply) (script : Option Script)
    → IsProp (IsUnderWay sizes commands replies script)
IsUnderWay-prop sizes commands replies None = hlevel props
IsUnderWay-prop sizes commands replies (Some (End outcome)) = hlevel props
IsUnderWay-prop sizes [] replies (Some (Ask op go_on)) = hlevel props
IsUnderWay-prop sizes (command ∷ commands) replies (Some (Ask op go_on)) = Script-set _ _

IsPlaced-prop : (notes : ℕ) (last : Option ℕ) → IsProp (IsPlaced notes last)
IsPlaced-prop notes None = hlevel props
IsPlaced-prop notes (Some place) = hlevel props

Shows-prop : (sizes : Command → Geometry) (commands : List Command) (st : Standing) (run : SessionRun) → IsProp (Shows sizes commands st run)
Shows-prop sizes commands st run = hlevel (props, IsUnderWay-prop)

-- that a session mirrors one of a course is a proposition
pub Mirrors-prop : (sizes : Command → Geometry) (commands : List Command) (notes : List Note) (s : Session) (run : SessionRun)
    → IsProp (Mirrors sizes commands notes s run)
Mirrors-prop sizes commands notes s run = hlevel (props, Fits-prop, IsPlaced-prop, Shows-prop)
