use Rattle.std.proofs.Common.{◌≡◌, ◌∙◌, true, vec_len, subst}
use Rattle.chip_paths.specs.Copies.{choice_of}
use Rattle.nand_model.specs.Table.{has_tables}
use Rattle.nand_model.specs.declared.geometry.Geometry.{Geometry}
use Rattle.bbt_flash.specs.Copies.{places_in}
use Rattle.bbt_flash.proofs.Deciding.{decides-copy, decides-none}
use Rattle.bbt_flash.proofs.attach.Attach.decide.Goals as goal

pub into_copy-copy-requires : goal.into_copy-copy-requires
into_copy-copy-requires c =
    c.in-Some.ensures.there (vec_len c.args.search.helds) c.found-primary.ensures.there c.found-mirror.ensures.there

pub returns-in-Some-clause-left : goal.returns-in-Some-clause-left
returns-in-Some-clause-left c =
    let a = c.args.self.now in
    let search = c.args.search in
    c.write_again.ensures.left
    ∙ decides-copy a.geometry search.geometry c.requires.sizes search.helds.items search.candidates.items c.found-primary.result c.found-mirror.result
    c.found-primary.ensures.copy c.found-mirror.ensures.copy (places_in c.places-places.result) c.places-places.ensures.places c.choose-choice.result
    (c.choose-choice.ensures ∙ (λ i. choice_of (c.version_of.ensures i) (c.version_of-2.ensures i)))
    c.in-Some.n c.into_copy-copy.result (c.in-Some.ensures.copy search.helds.items) c.into_copy-copy.ensures.copy

pub returns-in-None-clause-left : goal.returns-in-None-clause-left
returns-in-None-clause-left c =
    let a = c.args.self.now in
    let search = c.args.search in
    let tables : has_tables a.geometry ≡ true = subst (λ (h : Geometry). has_tables h ≡ true) c.requires.sizes search.tables in
    decides-none a.geometry search.geometry c.requires.sizes search.helds.items search.candidates.items c.found-primary.result c.found-mirror.result
    c.found-primary.ensures.copy c.found-mirror.ensures.copy (places_in c.places-places.result) c.places-places.ensures.places c.choose-choice.result
    (c.choose-choice.ensures ∙ (λ i. choice_of (c.version_of.ensures i) (c.version_of-2.ensures i)))
    tables (c.in-None.ensures.copy search.helds.items)
