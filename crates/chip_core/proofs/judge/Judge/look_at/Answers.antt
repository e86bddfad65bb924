use Rattle.std.proofs.Common.{arith}
use Rattle.bbt_flash.proofs.Sizes.{first_page-small, first_page-there}
use Rattle.chip_core.proofs.judge.Judge.look_at.Goals as goal

pub overflow_mul-page : goal.overflow_mul-page
overflow_mul-page g c = omega (arith, first_page-small c.args.self.now.geometry c.args.block c.requires.place)

pub read_page-requires : goal.read_page-requires
read_page-requires g c =
    let judge = c.args.self.now in
    rw (← c.requires.sizes)
    (record {
      page_there = first_page-there judge.geometry c.args.block c.requires.place;
      length_right = rw c.as_mut_slice.ensures.value judge.wanted_whole;
    })
