use Rattle.std.proofs.Common.{subst, sym, ◌∙◌, ℕ}
use Rattle.nand_model.specs.Layout.{IsGeometry}
use Rattle.nand_model.proofs.Bounds.{geometry_made}
use Rattle.nand_model.proofs.geometry.Geometry.new.Goals as goal

pub invariant_of-result : goal.invariant_of-result
invariant_of-result c =
    let page = c.args.page in
    let made = geometry_made page c.args.spare c.args.pages_per_block c.args.blocks c.args.t c.args.bbt c.args.threshold
    (sym c.sizes_fit.ensures ∙ c.if-not-sizes_fit.false) (sym c.spare_has_room.ensures ∙ c.if-not-spare_has_room.false) in
    record { in_bounds = subst (λ (n : ℕ). IsGeometry page c.args.spare c.args.pages_per_block c.args.blocks c.args.t c.args.bbt n) (sym c.in_force-threshold.ensures) made }
