-- A weak place that is put into the index.
use Rattle.std.proofs.Common.{◌≡◌, ℕ, false, Some, if◌then◌else◌, refl}
use Rattle.std.specs.Prelude.{◌==◌, Result, Ok, Err, OnOk}
use Rattle.std.specs.BTreeMap.{BTreeMap, get}
use Rattle.std.specs.Ordering.{nat_cmp}
use Rattle.nand_model.specs.Chip.{Call, ProgramCall, EraseCall, is_weak_at}
use Rattle.nand_model.specs.declared.tear.Tear.{Tear}
use Rattle.nand_model.specs.declared.words.Weak.{Weak}
use Rattle.nand_model.specs.declared.words.WeakKind.{WeakKind}
use Rattle.nand_model.specs.declared.words.WeakKind.TheVariants.{Program, Erase}
use Rattle.chip_sim.specs.Weakness.{place_in}
use Rattle.chip_sim.specs.declared.place_index.PlaceIndex.{PlaceIndex}

at_page : (kind : WeakKind) (at after : ℕ) (tear : Tear) (page : ℕ) → kind ≡ Program
    → is_weak_at (record { kind = kind; at = at; after = after; tear = tear }) (ProgramCall page) ≡ (at == page)
at_page Program at after tear page is = refl
at_page Erase at after tear page is = absurd cc

not_at_block : (kind : WeakKind) (at after : ℕ) (tear : Tear) (block : ℕ) → kind ≡ Program
    → is_weak_at (record { kind = kind; at = at; after = after; tear = tear }) (EraseCall block) ≡ false
not_at_block Program at after tear block is = refl
not_at_block Erase at after tear block is = absurd cc

at_block : (kind : WeakKind) (at after : ℕ) (tear : Tear) (block : ℕ) → kind ≡ Erase
    → is_weak_at (record { kind = kind; at = at; after = after; tear = tear }) (EraseCall block) ≡ (at == block)
at_block Program at after tear block is = absurd cc
at_block Erase at after tear block is = refl

not_at_page : (kind : WeakKind) (at after : ℕ) (tear : Tear) (page : ℕ) → kind ≡ Erase
    → is_weak_at (record { kind = kind; at = at; after = after; tear = tear }) (ProgramCall page) ≡ false
not_at_page Program at after tear page is = absurd cc
not_at_page Erase at after tear page is = refl

always : {A E : Type 0} {P : Type 0} (r : Result A E) → P → OnOk r P
always (Ok value) p = p
always (Err error) p = tt

-- the places of pages and blocks with one more page
pub page_put : {A E : Type 0} (r : Result A E) (weak : Weak) (place : ℕ) (index : PlaceIndex) (programs : BTreeMap ℕ ℕ) → weak.kind ≡ Program
    → ((other : ℕ) → OnOk r (get nat_cmp programs other ≡ (if weak.at == other then Some place else get nat_cmp index.programs other)))
    → (call : Call) → OnOk r (place_in (record index { programs = programs }) call ≡ (if is_weak_at weak call then Some place else place_in index call))
page_put r weak place index programs is put (ProgramCall page) = rw (at_page weak.kind weak.at weak.after weak.tear page is) (put page)
page_put r weak place index programs is put (EraseCall block) = rw (not_at_block weak.kind weak.at weak.after weak.tear block is) (always r refl)

-- and with one more block
pub block_put : {A E : Type 0} (r : Result A E) (weak : Weak) (place : ℕ) (index : PlaceIndex) (erases : BTreeMap ℕ ℕ) → weak.kind ≡ Erase
    → ((other : ℕ) → OnOk r (get nat_cmp erases other ≡ (if weak.at == other then Some place else get nat_cmp index.erases other)))
    → (call : Call) → OnOk r (place_in (record index { erases = erases }) call ≡ (if is_weak_at weak call then Some place else place_in index call))
block_put r weak place index erases is put (ProgramCall page) = rw (not_at_page weak.kind weak.at weak.after weak.tear page is) (always r refl)
block_put r weak place index erases is put (EraseCall block) = rw (at_block weak.kind weak.at weak.after weak.tear block is) (put block)
