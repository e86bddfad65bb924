-- What the answered reads of a device counted.
use Rattle.std.specs.Prelude.{ℕ, Bool, false, ◌==◌, if◌then◌else◌, List, [], ◌∷◌, ◌++◌, flat_map}
use Rattle.command_model.specs.Session.{Exchange, Asked, Replied, exchanges_of}
use Rattle.nand_model.specs.declared.words.Op.{Op}
use Rattle.nand_model.specs.declared.words.Op.TheVariants.{Read}
use Rattle.nand_model.specs.declared.words.PageRead.{PageRead}
use Rattle.nand_model.specs.declared.words.Reply.TheVariants.{Page}
use Rattle.nand_model.specs.declared.words.Note.{Note}

-- the statistics of the answered reads of a device
abbrev pub is_read_of : ℕ → Op → Bool
is_read_of dev (Read d page) = d == dev
is_read_of dev _ = false

-- the counts of the reads of a device in these exchanges
abbrev pub read_counts : ℕ → List Exchange → List PageRead
read_counts dev (Asked op ∷ Replied (Page kind read image) ∷ rest) =
    (if is_read_of dev op then read ∷ [] else []) ++ read_counts dev rest
read_counts dev (_ ∷ rest) = read_counts dev rest
read_counts dev [] = []

-- the corrected bits of a read
abbrev pub corrected_of : PageRead → ℕ
corrected_of r = r.corrected

-- the failed steps of a read
abbrev pub failed_of : PageRead → ℕ
failed_of r = r.failed

-- the reads of a device in a boot, over the sessions of its controller
abbrev pub reads_of : ℕ → List ℕ → List Note → List PageRead
reads_of dev sessions notes = flat_map (λ s. read_counts dev (exchanges_of s notes)) sessions
