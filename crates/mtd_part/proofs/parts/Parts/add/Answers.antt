use Rattle.std.proofs.Common.{◌≡◌, ◌+◌, ◌-◌, ◌^◌, ◌<◌, length, false, true, refl, sym, subst}
use Rattle.nand_model.specs.Partitions.{Partitions}
use Rattle.mtd_part.proofs.Apart.{ArePartitions-append}
use Rattle.mtd_part.proofs.parts.Parts.add.Goals as goal

pub invariant_of-self-2 : goal.invariant_of-self-2
invariant_of-self-2 c =
    let Numbered : Partitions → Type 0 = λ p. p.first + length p.parts < 2 ^ 32 - 1 in
    rw c.in_ok-push.ensures.items
    (ArePartitions-append _ _ _ c.args.part c.self.invariant (c.if-not-lies_within.ensures.within refl) c.requires.blocks
    (λ any. let h : false ≡ true = c.if-overlaps.ensures.1 (rw c.deref.ensures.value any) in cc) (subst Numbered (sym c.self.view_is) c.requires.numbers))

pub returns-clause-apart : goal.returns-clause-apart
returns-clause-apart c = (invariant_of-self-2 c).apart
