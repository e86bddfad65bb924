use Rattle.std.proofs.Common.{◌≡◌, Result, Ok, Err, sym, ap, ◌∙◌}
use Rattle.std.proofs.lemmas.Bool.{true_from_ne_false}
use Rattle.code_model.specs.Code.{code_512}
use Rattle.nand_model.specs.Layout.{has_sizes, has_room}
use Rattle.nand_model.specs.declared.geometry.Geometry.{Geometry}
use Rattle.nand_model.specs.declared.geometry.GeometryError.{GeometryError}
use Rattle.nand_model.specs.declared.geometry.GeometryError.TheVariants.{BadSize, SpareTooSmall}
use Rattle.plan_store.proofs.Geometries.{bad_size, too_small, geometry_good}
use Rattle.bus_script.proofs.chip.geometry_of.Goals as goal

abbrev refused : GeometryError → Result Geometry GeometryError
refused error = Err error

abbrev made : Geometry → Result Geometry GeometryError
made g = Ok g

not_refused : (g : Geometry) (error : GeometryError) → made g ≡ refused error → ⊥
not_refused g error e = cc e

pub returns-in-Ok : goal.returns-in-Ok
returns-in-Ok c =
    let a = c.args in
    let e = c.in-Ok.ensures in
    let sizes = true_from_ne_false (has_sizes a.page a.spare a.pages_per_block a.blocks a.t a.bbt a.threshold)
    (λ no. not_refused c.in-Ok.geometry BadSize (e.bad_size.1 no)) in
    let room = true_from_ne_false (has_room (code_512 a.t) a.page a.spare a.bbt)
    (λ no. not_refused c.in-Ok.geometry SpareTooSmall (e.too_small.1 (sizes, no))) in
    sym (geometry_good c.in-Ok.geometry a.page a.spare a.pages_per_block a.blocks a.t a.bbt a.threshold sizes room
    e.page e.spare e.pages_per_block e.blocks e.t e.bbt e.threshold)

pub returns-in-BadSize : goal.returns-in-BadSize
returns-in-BadSize c =
    let a = c.args in
    sym (bad_size a.page a.spare a.pages_per_block a.blocks a.t a.bbt a.threshold (c.new.ensures.bad_size.0 (c.in-Err.is ∙ ap refused c.in-BadSize.is)))

pub returns-in-SpareTooSmall : goal.returns-in-SpareTooSmall
returns-in-SpareTooSmall c =
    let a = c.args in
    let both = c.new.ensures.too_small.0 (c.in-Err.is ∙ ap refused c.in-SpareTooSmall.is) in
    sym (too_small a.page a.spare a.pages_per_block a.blocks a.t a.bbt a.threshold both.0 both.1)
