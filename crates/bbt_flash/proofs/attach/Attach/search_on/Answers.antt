use Rattle.std.proofs.Common.{◌≡◌, ◌∙◌, ◌+◌, ◌-◌, ◌++◌, drop, ap, sym}
use Rattle.nand_model.specs.Table.{table_blocks}
use Rattle.nand_model.specs.declared.geometry.Geometry.{Geometry}
use Rattle.bbt_flash.specs.Held.{copies_of, new_candidates, new_copies}
use Rattle.bbt_flash.specs.Step.{search_left}
use Rattle.bbt_flash.proofs.Searching.{search-over, search-read}
use Rattle.bbt_flash.proofs.attach.Attach.search_on.Goals as goal

pub returns-then-search-lt4-clause-left : goal.returns-then-search-lt4-clause-left
returns-then-search-lt4-clause-left g c =
    let a = c.args.self.now in
    let s = c.args.search in
    let block = s.next + 1 in
    (λ i. search_left a.geometry (c.read.ensures.copies i) (c.read.ensures.candidates i) (drop (c.read.ensures.next i) (table_blocks a.geometry)))
    ∙ ap (λ (h : Geometry). search_left a.geometry (copies_of s.helds.items ++ new_copies h (h.blocks - (s.next + 1)) c.args.image.now)
    (s.candidates.items ++ new_candidates h (h.blocks - (s.next + 1)) c.args.image.now) (drop (s.next + 1) (table_blocks a.geometry))) c.requires.fits.sizes
    ∙ sym (search-read a.geometry (copies_of s.helds.items) s.candidates.items s.next c.args.image.now c.requires.fits.next)

pub returns-else-search-lt4-clause-left : goal.returns-else-search-lt4-clause-left
returns-else-search-lt4-clause-left g c =
    let a = c.args.self.now in
    let s = c.args.search in
    let now = c.read.new.self in
    c.decide.ensures.left
    ∙ sym (search-over a.geometry (copies_of now.helds.items) now.candidates.items now.next c.if-search-lt4.false)
    ∙ (λ i. search_left a.geometry (c.read.ensures.copies i) (c.read.ensures.candidates i) (drop (c.read.ensures.next i) (table_blocks a.geometry)))
    ∙ ap (λ (h : Geometry). search_left a.geometry (copies_of s.helds.items ++ new_copies h (h.blocks - (s.next + 1)) c.args.image.now)
    (s.candidates.items ++ new_candidates h (h.blocks - (s.next + 1)) c.args.image.now) (drop (s.next + 1) (table_blocks a.geometry))) c.requires.fits.sizes
    ∙ sym (search-read a.geometry (copies_of s.helds.items) s.candidates.items s.next c.args.image.now c.requires.fits.next)
