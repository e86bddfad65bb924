use Rattle.std.proofs.Common.{◌≡◌, None, arith, rules}
use Rattle.nand_model.specs.Table.{copy_in}
use Rattle.nand_model.proofs.Bounds.{bounds}
use Rattle.bbt_image.proofs.KindLemmas.{copy_has_pattern, copy_readable, refused_none}
use Rattle.bbt_image.proofs.copies.take.Goals as goal

pub take_states-requires-clause-few : goal.take_states-requires-clause-few
take_states-requires-clause-few g c =
    let high = (bounds c.args.g.now).blocks_high in
    let len = c.table_in.ensures.len in
    omega arith

pub take_states-requires-clause-whole : goal.take_states-requires-clause-whole
take_states-requires-clause-whole g c =
    let even = (bounds c.args.g.now).blocks_even in
    let len = c.table_in.ensures.len in
    let blocks = c.requires.blocks in
    omega arith

pub returns-clause-no_pattern : goal.returns-clause-no_pattern
returns-clause-no_pattern g c =
    (λ e. cc, λ none. absurd (copy_has_pattern c.args.g.now c.args.image.now c.in_ok-which.which c.in_ok-which.ensures.kind none))

pub returns-clause-unreadable : goal.returns-clause-unreadable
returns-clause-unreadable g c =
    (λ e. cc, λ bad. absurd (copy_readable c.args.g.now c.args.image.now c.in_ok-which.which c.in_ok-which.ensures.kind bad))

pub returns-in_err-which-clause-no_copy : goal.returns-in_err-which-clause-no_copy
returns-in_err-which-clause-no_copy g c =
    let none : copy_in c.args.g.now c.args.image.now ≡ None =
    refused_none c.args.g.now c.args.image.now c.in_err-which.field-0.0 c.in_err-which.ensures.kind in
    search rules
