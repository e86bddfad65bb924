-- Which page or block of its chip a page or a block of a device is, and the paths of operations on
-- it.
use Rattle.std.proofs.Common.{◌≡◌, ℕ, ◌+◌, ◌*◌, ◌/◌, ◌<◌, ◌≤◌, true, false, List, Option, Some, None, refl, ap, sym, inl, inr, arith, ◌∙◌}
use Rattle.std.specs.Prelude.{IsSome, IfSome, SomeIff, nat_lt}
use Rattle.std.proofs.Math.Nat.{mul-add-div_right, mul-le-mul_right}
use Rattle.std.proofs.lemmas.Bool.{cases_lt, false≢true, le-ltb, lt-ltb}
use Rattle.chip_paths.specs.Operation.{Finished, Known, chip_block, chip_page, has_page, is_good_block, only_if, operation_by}
use Rattle.nand_model.specs.Page.{page_image}
use Rattle.nand_model.specs.Path.{Path}
use Rattle.nand_model.specs.Sizes.{page_count}
use Rattle.nand_model.specs.declared.geometry.Geometry.{Geometry}
use Rattle.nand_model.specs.declared.words.Op.TheVariants.{Erase, IsBad, RawRead, RawWrite, Read, Write}
use Rattle.nand_model.specs.declared.words.Part.{Part}
use Rattle.nand_model.specs.declared.words.Reply.TheVariants.{BadBlock, OutOfRange}
use Rattle.chip_core.specs.Beginning.{StandsFor, erase_from, in_range, on_block, on_page, raw_read_from, raw_write_from, read_from, state_from, write_from}
use Rattle.chip_core.specs.Knowledge.{known_in}
use Rattle.chip_core.specs.Task.{program_from}
use Rattle.chip_core.specs.declared.knowledge.Knowledge.{Knowledge}
use Rattle.chip_core.specs.declared.task.Task.{Task}
use Rattle.nand_model.proofs.Bounds.{pages-some}

not_below : (n count : ℕ) → (n < count → ⊥) → nat_lt n count ≡ false
not_below n count outside = elim (cases_lt n count) [ inl below ↦ absurd (outside below) | inr past ↦ le-ltb n count past ]

module _ (g : Geometry) where
  -- a page as a partition gives its place
  abbrev pub IsPageAt : Option Part → ℕ → Option ℕ → Type 0
  IsPageAt found page place = IfSome found (λ part. SomeIff place (page < part.count * g.pages_per_block) (part.start * g.pages_per_block + page))

  pub page_place : (found : Option Part) (page : ℕ) (place : Option ℕ) → IsSome found → IsPageAt found page place
      → (k : Known) (go_on : ℕ → Path Finished) → in_range k place go_on ≡ on_page g k found page go_on
  page_place None page place there gave k go_on = absurd (false≢true there)
  page_place (Some part) page None there gave k go_on = rw (not_below page (part.count * g.pages_per_block) gave) refl
  page_place (Some part) page (Some at) there gave k go_on = rw (lt-ltb page (part.count * g.pages_per_block) gave.0) (ap go_on gave.1)

  pub page_there : (found : Option Part) (page : ℕ) (place : Option ℕ) → IsSome found → IfSome found (λ part. part.start + part.count ≤ g.blocks)
      → IsPageAt found page place → IfSome place (λ p. p < page_count g)
  page_there found page None there within gave = tt
  page_there None page (Some at) there within gave = absurd (false≢true there)
  page_there (Some part) page (Some at) there within gave =
      let below = gave.0 in let is = gave.1 in omega (arith, mul-le-mul_right g.pages_per_block within)

  module _ (k : Known) where
    pub read_is : (found : Option Part) (dev page : ℕ) → on_page g k found page (read_from g k dev) ≡ operation_by g k found (Read dev page)
    read_is None dev page = refl
    read_is (Some part) dev page = refl

    pub raw_read_is : (found : Option Part) (dev page : ℕ) → on_page g k found page (raw_read_from k) ≡ operation_by g k found (RawRead dev page)
    raw_read_is None dev page = refl
    raw_read_is (Some part) dev page = refl

    -- where an operation looks at the entry of a page's block, it is that of the partition's page,
    -- moved by the partition's start
    on_good_page : (part : Part) (page : ℕ) (go_on : Path Finished)
        → only_if (has_page g part page) k OutOfRange (λ u. only_if (is_good_block k (chip_page g part page / g.pages_per_block)) k BadBlock (λ u. go_on))
        ≡ only_if (has_page g part page) k OutOfRange (λ u. only_if (is_good_block k (chip_block part (page / g.pages_per_block))) k BadBlock (λ u. go_on))
    on_good_page part page go_on =
        ap (λ block. only_if (has_page g part page) k OutOfRange (λ u. only_if (is_good_block k block) k BadBlock (λ u. go_on)))
        (mul-add-div_right (pages-some g) part.start page)

    pub write_is : (found : Option Part) (dev page : ℕ) (body free : List ℕ)
        → on_page g k found page (write_from g k body free) ≡ operation_by g k found (Write dev page body free)
    write_is None dev page body free = refl
    write_is (Some part) dev page body free = on_good_page part page _

    pub raw_write_is : (found : Option Part) (dev page : ℕ) (image : List ℕ)
        → on_page g k found page (raw_write_from g k image) ≡ operation_by g k found (RawWrite dev page image)
    raw_write_is None dev page image = refl
    raw_write_is (Some part) dev page image = on_good_page part page _

pub block_place : (found : Option Part) (block : ℕ) (place : Option ℕ) → IsSome found
    → IfSome found (λ part. SomeIff place (block < part.count) (part.start + block))
    → (k : Known) (go_on : ℕ → Path Finished) → in_range k place go_on ≡ on_block k found block go_on
block_place None block place there gave k go_on = absurd (false≢true there)
block_place (Some part) block None there gave k go_on = rw (not_below block part.count gave) refl
block_place (Some part) block (Some at) there gave k go_on = rw (lt-ltb block part.count gave.0) (ap go_on gave.1)

pub block_there : (g : Geometry) (found : Option Part) (block : ℕ) (place : Option ℕ) → IsSome found → IfSome found (λ part. part.start + part.count ≤ g.blocks)
    → IfSome found (λ part. SomeIff place (block < part.count) (part.start + block)) → IfSome place (λ b. b < g.blocks)
block_there g found block None there within gave = tt
block_there g None block (Some at) there within gave = absurd (false≢true there)
block_there g (Some part) block (Some at) there within gave = let below = gave.0 in let is = gave.1 in omega arith

module _ (g : Geometry) (k : Known) where
  pub erase_is : (found : Option Part) (dev block : ℕ) → on_block k found block (erase_from k) ≡ operation_by g k found (Erase dev block)
  erase_is None dev block = refl
  erase_is (Some part) dev block = refl

  pub state_is : (found : Option Part) (dev block : ℕ) → on_block k found block (state_from k) ≡ operation_by g k found (IsBad dev block)
  state_is None dev block = refl
  state_is (Some part) dev block = refl

-- a write goes on where the block is good
pub write_begins : (g : Geometry) (k : Known) (body free image : List ℕ) (page : ℕ) → is_good_block k (page / g.pages_per_block) ≡ true
    → image ≡ page_image g body free
    → program_from k image page ≡ write_from g k body free page
write_begins g k body free image page good is =
    ap (λ image. program_from k image page) is
    ∙ sym (ap (λ b. only_if b k BadBlock (λ u. program_from k (page_image g body free) page)) good)

-- a task that stands for a path stands for each path that is the same where this is known
pub goes_as : (known : Knowledge) (path other : Known → Path Finished) (dev : Option ℕ) → path (known_in known) ≡ other (known_in known)
    → (task : Task) → StandsFor known path dev task → StandsFor known other dev task
goes_as known path other dev same task follows =
    record { follows = follows.follows ∙ same; fresh = follows.fresh; fits = follows.fits; counted = follows.counted }

-- a page of a device that was found
module _ (known : Knowledge) (found : Option Part) (dev page : ℕ) (place : Option ℕ)
    (placed : (k : Known) (go_on : ℕ → Path Finished) → in_range k place go_on ≡ on_page known.geometry k found page go_on) where
  pub write_goes : (body free : List ℕ) (task : Task) → StandsFor known (λ k. in_range k place (write_from known.geometry k body free)) None task
      → StandsFor known (λ k. operation_by known.geometry k found (Write dev page body free)) None task
  write_goes body free =
      let g = known.geometry in
      let k = known_in known in
      goes_as known (λ k. in_range k place (write_from g k body free)) (λ k. operation_by g k found (Write dev page body free)) None
      (placed k (write_from g k body free) ∙ write_is g k found dev page body free)

  pub raw_write_goes : (image : List ℕ) (task : Task) → StandsFor known (λ k. in_range k place (raw_write_from known.geometry k image)) None task
      → StandsFor known (λ k. operation_by known.geometry k found (RawWrite dev page image)) None task
  raw_write_goes image =
      let g = known.geometry in
      let k = known_in known in
      goes_as known (λ k. in_range k place (raw_write_from g k image)) (λ k. operation_by g k found (RawWrite dev page image)) None
      (placed k (raw_write_from g k image) ∙ raw_write_is g k found dev page image)

-- a block of a device that was found
pub erase_goes : (known : Knowledge) (found : Option Part) (dev block : ℕ) (place : Option ℕ) → IsSome found
    → IfSome found (λ part. SomeIff place (block < part.count) (part.start + block))
    → (task : Task) → StandsFor known (λ k. in_range k place (erase_from k)) None task
    → StandsFor known (λ k. operation_by known.geometry k found (Erase dev block)) None task
erase_goes known found dev block place there gave =
    let k = known_in known in
    goes_as known (λ k. in_range k place (erase_from k)) (λ k. operation_by known.geometry k found (Erase dev block)) None
    (block_place found block place there gave k (erase_from k) ∙ erase_is known.geometry k found dev block)
