-- The copies of a table on a chip: the candidates, the copies that are disowned and those that are
-- found, the places of the two copies, and the copy that is used (nand_bbt; disowning and the
-- places are this project's own rules).
use Rattle.std.specs.Prelude.{◌≡◌, ℕ, ◌+◌, ◌-◌, ◌%◌, Bool, true, false, not, ◌&&◌, ◌||◌, ◌==◌, nat_lt, if◌then◌else◌, List, [], ◌∷◌, map, filter, zip, find, Option, Some, None, unwrap_or, refl}
use Rattle.std.specs.List.{list_any}
use Rattle.nand_model.specs.Table.{Copy, copy_in, same_which, calls_bad, table_blocks}
use Rattle.chip_paths.specs.Writing.{Places}
use Rattle.nand_model.specs.Page.{marker_byte}
use Rattle.nand_model.specs.declared.geometry.Geometry.{Geometry}
use Rattle.nand_model.specs.declared.words.Which.{Which}
use Rattle.nand_model.specs.declared.words.Which.TheVariants.{Primary, Mirror}
use Rattle.nand_model.specs.declared.words.Choice.{Choice}
use Rattle.nand_model.specs.declared.words.Choice.TheVariants.{Primary as UsePrimary, Mirror as UseMirror, Neither}

-- the blocks among the last four whose marker byte is 0xFF, each with its first page
abbrev pub candidates : Geometry → List (List ℕ) → List (ℕ × List ℕ)
candidates g pages = filter (λ (c : ℕ × List ℕ). marker_byte g c.1 == 0xff) (zip (table_blocks g) pages)

-- the block in which a copy was found
abbrev pub block_found : Option (ℕ × Copy) → Option ℕ
block_found None = None
block_found (Some (block, copy)) = Some block

-- the version of a copy that was found
abbrev pub version_found : Option (ℕ × Copy) → Option ℕ
version_found None = None
version_found (Some (block, copy)) = Some copy.version

-- not the other copy's place
abbrev pub is_other : Option ℕ → ℕ → Bool
is_other None block = true
is_other (Some taken) block = not (taken == block)

-- the first block of these that is not the other copy's place
abbrev pub first_other : Option ℕ → List ℕ → Option ℕ
first_other other blocks = find (is_other other) blocks

-- one more candidate, if it holds a copy
abbrev pub with_copy : ℕ → Option Copy → List (ℕ × Copy) → List (ℕ × Copy)
with_copy block None later = later
with_copy block (Some copy) later = (block, copy) ∷ later

-- the candidates that hold a copy, each with its copy
abbrev pub copies_held : Geometry → List (ℕ × List ℕ) → List (ℕ × Copy)
copies_held g [] = []
copies_held g ((block, cells) ∷ later) = with_copy block (copy_in g cells) (copies_held g later)

-- the copy of another candidate calls this block bad
abbrev pub is_disowned : List (ℕ × Copy) → ℕ → Bool
is_disowned held block = list_any (λ (c : ℕ × Copy). not (c.0 == block) && calls_bad c.1.states block) held

-- a copy of this kind that is not disowned
abbrev pub is_valid : List (ℕ × Copy) → Which → (ℕ × Copy) → Bool
is_valid held which c = same_which c.1.which which && not (is_disowned held c.0)

-- the first of these copies that is of this kind and not disowned
abbrev pub found_among : List (ℕ × Copy) → Which → Option (ℕ × Copy)
found_among held which = find (is_valid held which) held

-- the first candidate that holds a copy of this kind that is not disowned, with the copy
abbrev pub found : Geometry → Which → List (ℕ × List ℕ) → Option (ℕ × Copy)
found g which cs = found_among (copies_held g cs) which

-- a found copy calls the block bad
abbrev pub found_calls_bad : Option (ℕ × Copy) → ℕ → Bool
found_calls_bad None block = false
found_calls_bad (Some (place, copy)) block = calls_bad copy.states block

-- the highest of these blocks that is not the other copy's place and that neither found copy calls
-- bad
abbrev pub first_free : Option (ℕ × Copy) → Option (ℕ × Copy) → Option ℕ → List ℕ → Option ℕ
first_free primary mirror other blocks =
    find (λ block. is_other other block && not (found_calls_bad primary block) && not (found_calls_bad mirror block))
    blocks

-- where a copy stands, or is to stand: where it was found, else in the highest candidate that is
-- free, else in the highest of the last four that is not the other's place
abbrev pub place_beside : Geometry → List ℕ → Option (ℕ × Copy) → Option (ℕ × Copy) → Option ℕ → Option ℕ → ℕ
place_beside g blocks primary mirror (Some block) other = block
place_beside g blocks primary mirror None other =
    unwrap_or (first_free primary mirror other blocks) (unwrap_or (first_other other (table_blocks g)) 0)

-- the places of the two copies, from the copies found and the candidates' blocks: the primary
-- chooses first
abbrev pub places_for : Geometry → List ℕ → Option (ℕ × Copy) → Option (ℕ × Copy) → Places
places_for g blocks primary mirror =
    let first : ℕ = place_beside g blocks primary mirror (block_found primary) (block_found mirror) in
    record { primary = first; mirror = place_beside g blocks primary mirror (block_found mirror) (Some first) }

-- the places of the two copies, by what the candidates hold
abbrev pub places_of : Geometry → List (ℕ × List ℕ) → Places
places_of g cs = places_for g (map (λ (c : ℕ × List ℕ). c.0) cs) (found g Primary cs) (found g Mirror cs)

-- p is the newer version: the difference as a signed 8-bit number is above 0
abbrev pub is_newer : ℕ → ℕ → Bool
is_newer p m = nat_lt 0 ((p + 256 - m) % 256) && nat_lt ((p + 256 - m) % 256) 128

-- the copy that is used, and whether the other is written again, by the versions of the copies that
-- were found
abbrev pub choice_of : Option ℕ → Option ℕ → Choice
choice_of (Some p) (Some m) =
    if is_newer p m || p == m then UsePrimary (not (p == m)) else UseMirror true
choice_of (Some p) None = UsePrimary true
choice_of None (Some m) = UseMirror true
choice_of None None = Neither

-- the copy that is used, by what the candidates hold
abbrev pub chosen : Geometry → List (ℕ × List ℕ) → Choice
chosen g cs = choice_of (version_found (found g Primary cs)) (version_found (found g Mirror cs))

-- the copy that was chosen, with its block
abbrev pub used_copy : Choice → Option (ℕ × Copy) → Option (ℕ × Copy) → Option (ℕ × Copy)
used_copy (UsePrimary rewrite) primary mirror = primary
used_copy (UseMirror rewrite) primary mirror = mirror
used_copy Neither primary mirror = None

-- the copies that are written again, in their order
abbrev pub rewritten : Choice → List Which
rewritten (UsePrimary rewrite) = if rewrite then Mirror ∷ [] else []
rewritten (UseMirror rewrite) = if rewrite then Primary ∷ [] else []
rewritten Neither = Primary ∷ Mirror ∷ []

pub choose-0-255 : choice_of (Some 0) (Some 255) ≡ UsePrimary true
choose-0-255 = refl

pub choose-255-0 : choice_of (Some 255) (Some 0) ≡ UseMirror true
choose-255-0 = refl

pub choose-0-128 : choice_of (Some 0) (Some 128) ≡ UseMirror true
choose-0-128 = refl

pub choose-5-5 : choice_of (Some 5) (Some 5) ≡ UsePrimary false
choose-5-5 = refl

pub choose-none-9 : choice_of None (Some 9) ≡ UseMirror true
choose-none-9 = refl

pub choose-none : choice_of None None ≡ Neither
choose-none = refl
