-- Devices and data by what is kept of them.
use Rattle.std.proofs.Common.{◌≡◌, ℕ, zero, suc, ◌+◌, ◌*◌, ◌≤◌, ◌<◌, Bool, true, false, not, is_some, ◌&&◌, ◌||◌, ◌%◌, cond, eqb, leb, ltb, List, [], ◌∷◌, ◌++◌, length, map, Option, Some, None, Result, Ok, Err, refl, sym, ap, ◌∙◌, subst, arith, length-append}
use Rattle.std.specs.Prelude.{slice_get, find, bytes_eq, replicate, flat_map, sum_by, unwrap_or}
use Rattle.std.specs.Option.{ok_or, option_map}
use Rattle.std.proofs.lemmas.List.Sums.{sum_by-cons}
use Rattle.nand_model.specs.Seeds.{seed_byte}
use Rattle.nand_model.specs.Sizes.{numbers_from}
use Rattle.plan_grammar.specs.declared.kind.PlanKind.{PlanKind}
use Rattle.plan_grammar.specs.declared.kind.PlanKind.TheVariants.{UnknownDevice, UnknownName, NotMultiple, OutOfChip}
use Rattle.plan_grammar.specs.declared.lines.PlanLines.{PlanLines}
use Rattle.plan_grammar.specs.declared.lines.DataLine.{DataLine}
use Rattle.plan_grammar.specs.declared.lines.Piece.{Piece}
use Rattle.plan_grammar.specs.declared.lines.Piece.TheVariants.{Fill, Seed, Hex}
use Rattle.plan_grammar.specs.declared.lines.CommandLine.{CommandLine}
use Rattle.plan_grammar.specs.declared.lines.CommandLine.TheVariants.{FlashErase, NandWrite, NandDump, NandTest, MarkBad, IsBad, Stats}
use Rattle.command_model.specs.Command.{device_bytes, unit_size}
use Rattle.plan_grammar.specs.Rules.{◌>>=◌, rule, there}
use Rattle.plan_grammar.specs.Forms.{piece_bytes, piece_length}
use Rattle.plan_grammar.specs.Devices.{Device, device_at, devices, all_data, data_named, data_length, data_bytes, pieces_length}
use Rattle.plan_grammar.specs.Commands.{is_on, device_of, device_rules, write_rules}
use Rattle.plan_grammar.specs.Costs.{bytes_of}
use Rattle.plan_index.specs.declared.data.DataPlace.{DataPlace}
use Rattle.plan_index.specs.declared.device.DeviceSize.{DeviceSize}
use Rattle.plan_index.specs.declared.data.DataIndex.{DataIndex}
use Rattle.plan_index.specs.Data.{AreData, place_from, place_of}
use Rattle.plan_costs.specs.Room.{in_long}
use Rattle.plan_grammar.specs.Limits.{most_data}
use Rattle.std.proofs.lemmas.Bool.{leb-true}
use Rattle.plan_index.specs.Devices.{size_of}
use Rattle.plan_costs.specs.Costs.{data_of}
use Rattle.plan_store.specs.CommandRules.{named_length, write_rules_on, rules_on, IsDevice}

-- what is kept of a device is there where the device is
pub size_found : (ds : List Device) (n : ℕ) (size : DeviceSize) → slice_get (map size_of ds) n ≡ Some size →
    (device : Device) × (slice_get ds n ≡ Some device) × (size_of device ≡ size)
size_found [] n size e = absurd (cc e)
size_found (d ∷ ds) zero size e = let same : size_of d ≡ size = cc e in (d, refl, same)
size_found (d ∷ ds) (suc n) size e = size_found ds n size e

size_none : (ds : List Device) (n : ℕ) → slice_get (map size_of ds) n ≡ None → slice_get ds n ≡ None
size_none [] n e = refl
size_none (d ∷ ds) zero e = absurd (cc e)
size_none (d ∷ ds) (suc n) e = size_none ds n e

-- a device that is not there
pub device_absent : (plan : PlanLines) (c dev : ℕ) → slice_get (map size_of (devices plan)) dev ≡ None → device_of plan c dev ≡ Err UnknownDevice
unfolding device_of
device_absent plan c dev e = ap (λ (o : Option Device). there (is_on c o) UnknownDevice) (size_none (devices plan) dev e)

-- a device of another controller
pub device_elsewhere : (plan : PlanLines) (c dev : ℕ) (size : DeviceSize) → slice_get (map size_of (devices plan)) dev ≡ Some size →
    eqb size.controller c ≡ false → device_of plan c dev ≡ Err UnknownDevice
unfolding device_of
device_elsewhere plan c dev size e apart =
    let found = size_found (devices plan) dev size e in
    let other : eqb found.0.controller c ≡ false = ap (λ (s : DeviceSize). eqb s.controller c) found.2 ∙ apart in
    ap (λ (o : Option Device). there (is_on c o) UnknownDevice) found.1
    ∙ ap (λ b. there (cond b (Some found.0) None) UnknownDevice) other

-- a device of the controller
pub device_here : (plan : PlanLines) (c dev : ℕ) (size : DeviceSize) → slice_get (map size_of (devices plan)) dev ≡ Some size →
    eqb size.controller c ≡ true → IsDevice plan c dev size
unfolding device_of
device_here plan c dev size e here =
    let found = size_found (devices plan) dev size e in
    let own : eqb found.0.controller c ≡ true = ap (λ (s : DeviceSize). eqb s.controller c) found.2 ∙ here in
    record {
      device = found.0;
      device_is = found.1;
      size_is = found.2;
      found = ap (λ (o : Option Device). there (is_on c o) UnknownDevice) found.1
          ∙ ap (λ b. there (cond b (Some found.0) None) UnknownDevice) own;
    }

-- how many bytes the data of a NAME are
pub length_found : (payloads : List DataLine) (name : List ℕ) (place : ℕ) →
    option_map (λ (at : DataPlace). at.len) (place_from place payloads name)
    ≡ option_map data_length (find (λ (payload : DataLine). bytes_eq payload.name name) payloads)
length_found [] name place = refl
length_found (first ∷ payloads) name place = by_first (bytes_eq first.name name) (length_found payloads name (place + 1))
  where
    by_first : (b : Bool) → option_map (λ (at : DataPlace). at.len) (place_from (place + 1) payloads name)
        ≡ option_map data_length (find (λ (payload : DataLine). bytes_eq payload.name name) payloads) →
        option_map (λ (at : DataPlace). at.len) (cond b (Some (record { place = place; len = data_length first })) (place_from (place + 1) payloads name))
        ≡ option_map data_length (cond b (Some first) (find (λ (payload : DataLine). bytes_eq payload.name name) payloads))
    by_first true further = refl
    by_first false further = further

length_replicate : (n b : ℕ) → length (replicate n b) ≡ n
length_replicate zero b = refl
length_replicate (suc n) b = ap suc (length_replicate n b)

length_seed : (f : ℕ → ℕ) (first n : ℕ) → length (map f (numbers_from first n)) ≡ n
length_seed f first zero = refl
length_seed f first (suc n) = ap suc (length_seed f (first + 1) n)

piece_is : (piece : Piece) → length (piece_bytes piece) ≡ piece_length piece
piece_is (Fill byte len) = length_replicate len byte
piece_is (Seed seed len) = length_seed (seed_byte seed) 0 len
piece_is (Hex bytes) = refl

pieces_are : (pieces : List Piece) → length (flat_map piece_bytes pieces) ≡ pieces_length pieces
pieces_are [] = refl
pieces_are (piece ∷ pieces) =
    omega (arith, length-append (piece_bytes piece) (flat_map piece_bytes pieces), piece_is piece, pieces_are pieces, sum_by-cons piece_length piece pieces)

bytes_are : (o : Option DataLine) → length (bytes_of o) ≡ unwrap_or (option_map data_length o) 0
bytes_are None = refl
bytes_are (Some payload) = pieces_are payload.pieces

-- how many bytes of data a command writes
pub data_is : (plan : PlanLines) (command : CommandLine) → data_of plan command ≡ unwrap_or (named_length plan command) 0
data_is plan (NandWrite dev mark raw oob pad off name) = bytes_are (data_named plan name)
data_is plan (FlashErase dev no_scan start count) = refl
data_is plan (NandDump dev off len raw oob bad) = refl
data_is plan (NandTest dev keep mark seed passes off len) = refl
data_is plan (MarkBad dev block) = refl
data_is plan (IsBad dev block) = refl
data_is plan (Stats dev) = refl

-- steps that go on with data that may be there
there_same : {A B C : Type 0} (o : Option A) (f : A → B) (kind : PlanKind) (next : B → Result C PlanKind) →
    (there o kind >>= λ x. next (f x)) ≡ (there (option_map f o) kind >>= next)
there_same None f kind next = refl
there_same (Some x) f kind next = refl

write_same : (plan : PlanLines) (device : Device) (oob pad : Bool) (off : ℕ) (name : List ℕ) →
    write_rules plan device oob pad off name ≡ write_rules_on (size_of device) oob pad off (option_map data_length (data_named plan name))
unfolding write_rules write_rules_on
write_same plan device oob pad off name =
    there_same (data_named plan name) data_length UnknownName
    (λ bytes. rule (eqb (off % device.chip.geometry.page) 0 && (pad || eqb (bytes % unit_size device.chip.geometry oob) 0)) NotMultiple
    >>= λ (u : Unit {0}). rule (ltb off (device_bytes device.chip.geometry device.part.count)) OutOfChip)

-- the rules of a command on its device
pub rules_same : (plan : PlanLines) (device : Device) (command : CommandLine) →
    device_rules plan device command ≡ rules_on (size_of device) (named_length plan command) command
rules_same plan device (NandWrite dev mark raw oob pad off name) = write_same plan device oob pad off name
rules_same plan device (FlashErase dev no_scan start count) = refl
rules_same plan device (NandDump dev off len raw oob bad) = refl
rules_same plan device (NandTest dev keep mark seed passes off len) = refl
rules_same plan device (MarkBad dev block) = refl
rules_same plan device (IsBad dev block) = refl
rules_same plan device (Stats dev) = refl

-- the line at the place of a NAME
pub payload_found : (payloads : List DataLine) (name : List ℕ) (place : ℕ) (at : DataPlace) → place_from place payloads name ≡ Some at →
    (n : ℕ) × (payload : DataLine) × (at.place ≡ place + n) × (n < length payloads) × (slice_get payloads n ≡ Some payload)
    × (find (λ (p : DataLine). bytes_eq p.name name) payloads ≡ Some payload)
payload_found [] name place at e = absurd (cc e)
payload_found (first ∷ payloads) name place at e = by_first (bytes_eq first.name name) (payload_found payloads name (place + 1) at) e
  where
    by_first : (b : Bool) → (place_from (place + 1) payloads name ≡ Some at → (n : ℕ) × (payload : DataLine) × (at.place ≡ place + 1 + n)
        × (n < length payloads) × (slice_get payloads n ≡ Some payload) × (find (λ (p : DataLine). bytes_eq p.name name) payloads ≡ Some payload)) →
        cond b (Some (record { place = place; len = data_length first })) (place_from (place + 1) payloads name) ≡ Some at →
        (n : ℕ) × (payload : DataLine) × (at.place ≡ place + n) × (n < length (first ∷ payloads)) × (slice_get (first ∷ payloads) n ≡ Some payload)
        × (cond b (Some first) (find (λ (p : DataLine). bytes_eq p.name name) payloads) ≡ Some payload)
    by_first true further f =
        let same : ◌≡◌ {A = DataPlace} (record { place = place; len = data_length first }) at = cc f in
        (0, first, ap (λ (p : DataPlace). p.place) (sym same) ∙ omega arith, omega arith, refl, refl)
    by_first false further f =
        let later = further f in
        (suc later.0, later.1, later.2 ∙ omega arith, omega (arith, later.3), later.4, later.5)

-- a NAME that no line has
pub payload_none : (payloads : List DataLine) (name : List ℕ) (place : ℕ) → place_from place payloads name ≡ None →
    find (λ (p : DataLine). bytes_eq p.name name) payloads ≡ None
payload_none [] name place e = refl
payload_none (first ∷ payloads) name place e = by_first (bytes_eq first.name name) (payload_none payloads name (place + 1)) e
  where
    by_first : (b : Bool) → (place_from (place + 1) payloads name ≡ None → find (λ (p : DataLine). bytes_eq p.name name) payloads ≡ None) →
        cond b (Some (record { place = place; len = data_length first })) (place_from (place + 1) payloads name) ≡ None →
        cond b (Some first) (find (λ (p : DataLine). bytes_eq p.name name) payloads) ≡ None
    by_first true further f = absurd (cc f)
    by_first false further f = further f

-- what is kept of a device, as far as it is there
pub sizes_are : (ds : List Device) (n : ℕ) → slice_get (map size_of ds) n ≡ option_map size_of (slice_get ds n)
sizes_are [] n = refl
sizes_are (d ∷ ds) zero = refl
sizes_are (d ∷ ds) (suc n) = sizes_are ds n

pub flip_not : (b d : Bool) → not b ≡ d → b ≡ not d
flip_not true d e = ap not e
flip_not false d e = ap not e

pub mapped_some : {A B : Type 0} (f : A → B) (o : Option A) → is_some (option_map f o) ≡ is_some o
mapped_some f None = refl
mapped_some f (Some x) = refl

-- a NAME that no line has stands nowhere
pub name_absent : (payloads : List DataLine) (name : List ℕ) (place : ℕ) →
    not (is_some (find (λ (p : DataLine). bytes_eq p.name name) payloads)) ≡ true → place_from place payloads name ≡ None
name_absent [] name place e = refl
name_absent (first ∷ payloads) name place e = by_first (bytes_eq first.name name) (name_absent payloads name (place + 1)) e
  where
    by_first : (b : Bool) → (not (is_some (find (λ (p : DataLine). bytes_eq p.name name) payloads)) ≡ true → place_from (place + 1) payloads name ≡ None) →
        not (is_some (cond b (Some first) (find (λ (p : DataLine). bytes_eq p.name name) payloads))) ≡ true →
        cond b (Some (record { place = place; len = data_length first })) (place_from (place + 1) payloads name) ≡ None
    by_first true further f = absurd (cc f)
    by_first false further f = further f

-- data for which there is room
pub data_fits : (plan : PlanLines) (index : DataIndex) (bytes len : ℕ) (b : Bool) → AreData plan.payloads index → len ≡ in_long bytes →
    b ≡ leb (all_data plan + bytes) most_data → b ≡ true → (len ≡ bytes) × (index.total + len ≤ 16777216)
data_fits plan index bytes len b s e fits is =
    let few : all_data plan + bytes ≤ 16777216 = leb-true (all_data plan + bytes) 16777216 (sym fits ∙ is) in
    (omega (arith, e, few), omega (arith, e, few, s.total))

-- what is refused where nothing is there
pub refused_so : {A : Type 0} (o : Option A) (kind found : PlanKind) → o ≡ None → ◌≡◌ {A = Result A PlanKind} (Err found) (ok_or o kind) → found ≡ kind
refused_so {A} o kind found none e =
    let same : ◌≡◌ {A = Result A PlanKind} (Err found) (Err kind) = e ∙ ap (λ p. ok_or p kind) none in
    cc same
