-- What contracts see of an attach and of its outcome.
use Rattle.nand_model.specs.Path.{Path}
use Rattle.chip_paths.specs.Attach.{Attaching}
use Rattle.nand_model.specs.declared.geometry.Geometry.{Geometry}
use Rattle.bbt_flash.specs.Copies.{places_in}
use Rattle.bbt_flash.specs.Step.{step_left}
use Rattle.bbt_flash.specs.declared.attach.Attach.{Attach}
use Rattle.bbt_flash.specs.declared.attach.Attached.{Attached}

-- the sizes of its chip
abbrev pub attach_sizes : Attach → Geometry
attach_sizes attach = attach.geometry

-- what is left of its path
abbrev pub attach_left : Attach → Path Attaching
attach_left attach = step_left attach.geometry attach.table attach.step

-- the outcome of an attach, as the definition has it
abbrev pub attaching_in : Attached → Attaching
attaching_in attached =
    record {
      table = attached.table;
      origin = attached.origin;
      version = attached.version;
      places = places_in attached.places;
      copies = attached.copies;
    }
