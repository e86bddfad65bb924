-- Theorems about these definitions, each as a statement that a function's contract can carry. A
-- statement counts as proved only where a contract cites it: of these `RepliesDependOnTheChip` is.
use Rattle.std.specs.Prelude.{ℕ, List, ◌≡◌, ◌+◌, ◌*◌, ◌<◌, length, Some, All, [], ◌∷◌, ⊤, None, ◌==◌, Option, IsTrue, slice_get}
use Rattle.nand_model.specs.Page.{page_image, IsWhole, FillsPage}
use Rattle.nand_model.specs.Table.{copy_in, table_page, read_again}
use Rattle.nand_model.specs.Flips.{flips_between, with_bits_turned}
use Rattle.run_model.specs.ReadBack.{HasFewFlips}
use Rattle.command_model.specs.Boot.{Boot}
use Rattle.nand_model.specs.Partitions.{Partitions, part_of}
use Rattle.nand_model.specs.Chip.{ChipState, FaultModel}
use Rattle.run_model.specs.Course.{course_after}
use Rattle.run_model.specs.History.{notes_of_chip}
use Rattle.nand_model.specs.declared.geometry.Geometry.{Geometry}
use Rattle.nand_model.specs.declared.words.Which.{Which}
use Rattle.nand_model.specs.declared.words.Op.{Op}
use Rattle.nand_model.specs.declared.words.Note.{Note}
use Rattle.nand_model.specs.declared.words.Note.TheVariants.{Began, Answered}
use Rattle.nand_model.specs.declared.words.Reply.{Reply}
use Rattle.nand_model.specs.declared.words.Part.{Part}

-- a page's image is whole
abbrev pub ImagesAreWhole : Geometry → Type 0
ImagesAreWhole g = (body free : List ℕ) → FillsPage g body free → IsWhole g (page_image g body free)

-- a copy is read back from its page, with few flips in each word and none in a header in the spare
abbrev pub CopiesReadBack : Geometry → Type 0
CopiesReadBack g =
    (which : Which) (version : ℕ) (states bits : List ℕ) → length states ≡ g.blocks → version < 256
    → All (λ s. s < 4) states →
    HasFewFlips g bits → (g.bbt ≡ 1 → flips_between bits (8 * (g.page + 8)) (8 * (g.page + 13)) ≡ 0) →
    copy_in g (with_bits_turned (table_page g which version states) bits)
    ≡ Some (record { which = which; version = version; states = read_again states })

-- the operations begun in these notes, and the replies in them
abbrev pub ops_in : List Note → List Op
ops_in [] = []
ops_in (Began session op ∷ rest) = op ∷ ops_in rest
ops_in (_ ∷ rest) = ops_in rest

-- the replies in these notes
abbrev pub replies_in : List Note → List Reply
replies_in [] = []
replies_in (Answered session reply ∷ rest) = reply ∷ replies_in rest
replies_in (_ ∷ rest) = replies_in rest

-- both lists begin alike, as far as the shorter one goes
abbrev pub AgreeAsFar : {A : Type 0} → List A → List A → Type 0
AgreeAsFar [] ys = ⊤
AgreeAsFar (x ∷ xs) [] = ⊤
AgreeAsFar (x ∷ xs) (y ∷ ys) = (x ≡ y) × AgreeAsFar xs ys

-- a boot without flips and cut
pub record IsCalm (boot : Boot) : Type 0 where
  pub no_flip : boot.flips ≡ []
  pub no_cut : boot.cut ≡ None

-- a part of chip j in one list is the part of chip k in the other, under the same device number
abbrev pub IsSamePart : ℕ → ℕ → Option Part → Option Part → Type 0
IsSamePart j k None other = ⊤
IsSamePart j k (Some part) None = IsTrue (part.chip == j) → ⊥
IsSamePart j k (Some part) (Some other) =
    IsTrue (part.chip == j) → (other.chip ≡ k) × (other.start ≡ part.start) × (other.count ≡ part.count)

-- chip j has the partitions in the one list that chip k has in the other
abbrev pub SamePartitions : Partitions → ℕ → Partitions → ℕ → Type 0
SamePartitions first j second k = (dev : ℕ) → IsSamePart j k (part_of first dev) (part_of second dev)

-- A chip's replies depend on that chip alone: in two boots where it starts alike, has the same
-- partitions and the same operations in order, it gives the same replies.
abbrev pub RepliesDependOnTheChip : {W : Type 0} → FaultModel W → Type 0
RepliesDependOnTheChip {W} model =
    (first second : Boot) (starts others : List (ChipState W)) (attaches more : ℕ) (turns later : List ℕ) (j k : ℕ)
    (s : ChipState W) →
    IsCalm first → IsCalm second → slice_get starts j ≡ Some s → slice_get others k ≡ Some s →
    let one : List Note = notes_of_chip first.partitions j (course_after model first starts attaches turns).notes in
    let two : List Note = notes_of_chip second.partitions k (course_after model second others more later).notes in
    SamePartitions first.partitions j second.partitions k → AgreeAsFar (ops_in one) (ops_in two)
    → AgreeAsFar (replies_in one) (replies_in two)
