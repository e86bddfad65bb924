-- A chip: the cells of its pages, what befell them, and the events that change them (nandsim in
-- outline; tears and weak places are this project's own).
use Rattle.std.specs.Prelude.{ℕ, ◌+◌, ◌-◌, ◌*◌, ◌/◌, ◌%◌, ◌^◌, min, Bool, true, false, ◌&&◌, nat_le, nat_lt, ◌==◌, if◌then◌else◌, List, [], ◌∷◌, ◌++◌, map, replicate, slice_index, slice_set, bit_and, bit_or, Option, Some, None}
use Rattle.std.specs.List.{list_any}
use Rattle.nand_model.specs.Seeds.{seed_byte}
use Rattle.nand_model.specs.Flips.{with_bit_turned}
use Rattle.nand_model.specs.Sizes.{raw_len, first_page}
use Rattle.nand_model.specs.declared.geometry.Geometry.{Geometry}
use Rattle.nand_model.specs.declared.tear.Tear.{Tear}
use Rattle.nand_model.specs.declared.tear.Tear.TheVariants.{Nothing, Everything, Seed, Spans}
use Rattle.nand_model.specs.declared.words.Weak.{Weak}
use Rattle.nand_model.specs.declared.words.WeakKind.{WeakKind}
use Rattle.nand_model.specs.declared.words.WeakKind.TheVariants.{Program as WeakProgram, Erase as WeakErase}

-- the bits that a torn event did: for each page of a block (0 for a program) and each byte of the
-- page, a number whose low 8 bits count
abbrev pub DoneBits : Type 0
DoneBits = ℕ → ℕ → ℕ

-- the bits that a tear does, in pages of so many bytes
abbrev pub done_bits : ℕ → Tear → DoneBits
done_bits raw Nothing q i = 0
done_bits raw Everything q i = 0xff
done_bits raw (Seed n) q i = seed_byte n (q * raw + i)
done_bits raw (Spans spans) q i = if list_any (λ (s : ℕ × ℕ). nat_le s.0 i && nat_lt i s.1) spans then 0xff else 0

-- the bytes of a page, each made from its place and itself
abbrev pub map_from : ℕ → (ℕ → ℕ → ℕ) → List ℕ → List ℕ
map_from i f [] = []
map_from i f (x ∷ xs) = f i x ∷ map_from (i + 1) f xs

-- a good program: old AND image
abbrev pub programmed : List ℕ → List ℕ → List ℕ
programmed old image = map_from 0 (λ i byte. bit_and byte (slice_index image i)) old

-- a torn program: old AND (image OR NOT done)
abbrev pub torn_programmed : List ℕ → List ℕ → (ℕ → ℕ) → List ℕ
torn_programmed old image done =
    map_from 0 (λ i byte. bit_and byte (bit_or (slice_index image i) (0xff - done i % 0x100))) old

-- a torn erase of a page: old OR done
abbrev pub torn_erased : List ℕ → (ℕ → ℕ) → List ℕ
torn_erased old done = map_from 0 (λ i byte. bit_or byte (done i % 0x100)) old

-- a page's cells, the bits flipped since its last good erase, whether its last program or erase was
-- torn or failed, and whether a bit was flipped since its last good program or erase, or since the
-- first torn or failed one after that
pub record PageState : Type 0 where
  pub cells : List ℕ
  pub flips : List ℕ
  pub torn : Bool
  pub flipped_since : Bool

-- a page with 0xFF throughout and no past
abbrev pub blank_page : Geometry → PageState
blank_page g = record { cells = replicate (raw_len g) 0xff; flips = []; torn = false; flipped_since = false }

-- a call that may fail: a program of a page or an erase of a block
pub data Call : Type 0 where
  ProgramCall : (page : ℕ) → Call
  EraseCall : (block : ℕ) → Call

-- a fault model: from data of an implementation's own it follows which call fails, with which done
-- bits, and what each call makes of the data
pub record FaultModel (W : Type 0) : Type 0 where
  pub fails : W → Call → Option DoneBits
  pub after_call : W → Call → W

-- the state of a chip whose fault model goes by a W
pub record ChipState (W : Type 0) : Type 0 where
  pub geometry : Geometry
  pub pages : ℕ → PageState
  pub fault_state : W
  pub faults : ℕ

-- a read of a page, a program of an image into a page, an erase of a block
pub data PageEvent : Type 0 where
  ReadEvent : (page : ℕ) → PageEvent
  ProgramEvent : (page : ℕ) → (image : List ℕ) → PageEvent
  EraseEvent : (block : ℕ) → PageEvent

-- what may befall a chip: an event that is completed (good or failed), an event that a power cut
-- tears, or a flip of a bit
pub data ChipEvent : Type 0 where
  Complete : PageEvent → ChipEvent
  PowerCut : PageEvent → DoneBits → ChipEvent
  Flipped : (page : ℕ) → (bit : ℕ) → ChipEvent

-- the bits of a list flipped one after the other
abbrev pub flip_events : ℕ → List ℕ → List ChipEvent
flip_events page bits = map (Flipped page) bits

-- the next number, or the last one of 64 bits
abbrev pub saturating_increment : ℕ → ℕ
saturating_increment n = min (n + 1) (2 ^ 64 - 1)

-- the pages with one of them changed
abbrev pub with_page : (ℕ → PageState) → ℕ → PageState → ℕ → PageState
with_page pages page new p = if p == page then new else pages p

-- the pages with each of a block changed, by its number in the block
abbrev pub with_block : Geometry → (ℕ → PageState) → ℕ → (ℕ → PageState → PageState) → ℕ → PageState
with_block g pages block change p =
    if p / g.pages_per_block == block then change (p % g.pages_per_block) (pages p) else pages p

-- a page after a good program: each bit stays 1 only where it was and is to be 1
abbrev pub good_program : PageState → List ℕ → PageState
good_program old image =
    record { cells = programmed old.cells image; flips = old.flips; torn = false; flipped_since = false }

-- a page after a program of which these bits were done
abbrev pub torn_program : PageState → List ℕ → DoneBits → PageState
torn_program old image done =
    record {
      cells = torn_programmed old.cells image (done 0);
      flips = old.flips;
      torn = true;
      flipped_since = old.torn && old.flipped_since;
    }

-- a page after an erase of which these bits were done
abbrev pub torn_erase : DoneBits → ℕ → PageState → PageState
torn_erase done q old = record {
  cells = torn_erased old.cells (done q);
  flips = old.flips;
  torn = true;
  flipped_since = old.torn && old.flipped_since;
}

-- a page with one bit turned
abbrev pub flipped : PageState → ℕ → PageState
flipped old bit = record {
  cells = with_bit_turned old.cells bit;
  flips = old.flips ++ bit ∷ [];
  torn = old.torn;
  flipped_since = true;
}

module _ {W : Type 0} (model : FaultModel W) where
  -- the done bits with which a call fails now, if it does
  abbrev pub failure_of : ChipState W → Call → Option DoneBits
  failure_of s call = model.fails s.fault_state call

  -- a program that is good, or torn by these done bits
  abbrev pub program_page : ChipState W → ℕ → List ℕ → Option DoneBits → ChipState W
  program_page s page image None =
      record s {
        pages = with_page s.pages page (good_program (s.pages page) image);
        fault_state = model.after_call s.fault_state (ProgramCall page);
      }
  program_page s page image (Some done) =
      record s {
        pages = with_page s.pages page (torn_program (s.pages page) image done);
        fault_state = model.after_call s.fault_state (ProgramCall page);
      }

  -- an erase that is good, or torn by these done bits
  abbrev pub erase_block : ChipState W → ℕ → Option DoneBits → ChipState W
  erase_block s block None =
      record s {
        pages = with_block s.geometry s.pages block (λ q old. blank_page s.geometry);
        fault_state = model.after_call s.fault_state (EraseCall block);
      }
  erase_block s block (Some done) =
      record s {
        pages = with_block s.geometry s.pages block (torn_erase done);
        fault_state = model.after_call s.fault_state (EraseCall block);
      }

  -- the count of faults rises where a call failed
  abbrev pub counted : Option DoneBits → ChipState W → ChipState W
  counted None s = s
  counted (Some done) s = record s { faults = saturating_increment s.faults }

  -- one turned bit
  abbrev pub flip_bit : ChipState W → ℕ → ℕ → ChipState W
  flip_bit s page bit = record s { pages = with_page s.pages page (flipped (s.pages page) bit) }

  -- what befalls the chip
  abbrev pub happens : ChipState W → ChipEvent → ChipState W
  happens s (Complete (ReadEvent page)) = s
  happens s (Complete (ProgramEvent page image)) =
      counted (failure_of s (ProgramCall page)) (program_page s page image (failure_of s (ProgramCall page)))
  happens s (Complete (EraseEvent block)) =
      counted (failure_of s (EraseCall block)) (erase_block s block (failure_of s (EraseCall block)))
  happens s (PowerCut (ReadEvent page) done) = s
  happens s (PowerCut (ProgramEvent page image) done) = program_page s page image (Some done)
  happens s (PowerCut (EraseEvent block) done) = erase_block s block (Some done)
  happens s (Flipped page bit) = flip_bit s page bit

  -- the state after a trace
  abbrev pub after_trace : ChipState W → List ChipEvent → ChipState W
  after_trace s [] = s
  after_trace s (e ∷ es) = after_trace (happens s e) es

-- A simulated chip: its fault model goes by its weak places, each with the number of calls so far,
-- counted up to its `after`.

-- a weak place with its number of calls
abbrev pub WeakCount : Type 0
WeakCount = Weak × ℕ

-- the call that a weak place is weak at
abbrev pub is_weak_at : Weak → Call → Bool
is_weak_at weak call = same_call (call_of weak.kind weak.at) call
  where
    call_of : WeakKind → ℕ → Call
    call_of WeakProgram at = ProgramCall at
    call_of WeakErase at = EraseCall at

    same_call : Call → Call → Bool
    same_call (ProgramCall a) (ProgramCall b) = a == b
    same_call (EraseCall a) (EraseCall b) = a == b
    same_call (ProgramCall a) (EraseCall b) = false
    same_call (EraseCall a) (ProgramCall b) = false

-- a weak place fails once its first `after` calls lie behind it
abbrev pub weak_fails : ℕ → List WeakCount → Call → Option DoneBits
weak_fails raw [] call = None
weak_fails raw ((weak, calls) ∷ rest) call =
    if is_weak_at weak call && nat_le weak.after calls then Some (done_bits raw weak.tear) else weak_fails raw rest call

-- the counts of weak places after a call
abbrev pub weak_after_call : List WeakCount → Call → List WeakCount
weak_after_call [] call = []
weak_after_call ((weak, calls) ∷ rest) call =
    (weak, (if is_weak_at weak call then min (calls + 1) weak.after else calls)) ∷ weak_after_call rest call

-- what the faults of a simulated chip depend on: the bytes of its pages, by which a tear's bits are
-- numbered, and its weak places
pub record SimFaults : Type 0 where
  pub raw : ℕ
  pub weak : List WeakCount

-- the fault model of a simulated chip
abbrev pub sim_faults : FaultModel SimFaults
sim_faults = record {
  fails = λ w call. weak_fails w.raw w.weak call;
  after_call = λ w call. record {
    raw = w.raw;
    weak = weak_after_call w.weak call;
  };
}

-- a new chip: 0xFF throughout, except 0x00 in the marker byte of each factory-bad block
abbrev pub new_page : Geometry → List ℕ → ℕ → PageState
new_page g bad page =
    if list_any (λ b. first_page g b == page) bad
    then record {
      cells = slice_set (replicate (raw_len g) 0xff) g.page 0;
      flips = [];
      torn = false;
      flipped_since = false;
    }
    else blank_page g

-- a new chip: all cells are 0xFF but the markers of its factory-bad blocks
abbrev pub new_chip : Geometry → List ℕ → List Weak → ChipState SimFaults
new_chip g bad weak = record {
  geometry = g;
  pages = new_page g bad;
  fault_state = record { raw = raw_len g; weak = map (λ w. (w, 0)) weak };
  faults = 0;
}
