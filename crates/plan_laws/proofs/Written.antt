-- The canonical lines of a plan with one line more.
use Rattle.std.proofs.Common.{◌≡◌, ◌∙◌, ℕ, Bool, true, false, List, [], ◌∷◌, ◌++◌, map, Some, sym, ap, refl, subst, append_assoc}
use Rattle.std.specs.Prelude.{codes, decimal, flat_map}
use Rattle.std.proofs.lemmas.List.{append-nil, map-append}
use Rattle.std.proofs.lemmas.List.Concat.{flat_map-append}
use Rattle.nand_model.specs.declared.geometry.Geometry.{Geometry}
use Rattle.plan_grammar.specs.declared.lines.PlanLines.{PlanLines}
use Rattle.plan_grammar.specs.declared.lines.ChipLines.{ChipLines}
use Rattle.plan_grammar.specs.declared.lines.PartLine.{PartLine}
use Rattle.plan_grammar.specs.declared.lines.DetailLine.{DetailLine}
use Rattle.plan_grammar.specs.declared.lines.DataLine.{DataLine}
use Rattle.plan_grammar.specs.declared.lines.BootLines.{BootLines}
use Rattle.plan_grammar.specs.declared.lines.FaultLine.{FaultLine}
use Rattle.plan_grammar.specs.declared.lines.SessionLines.{SessionLines}
use Rattle.plan_grammar.specs.declared.lines.CommandLine.{CommandLine}
use Rattle.plan_grammar.specs.Rules.{last_of, with_last}
use Rattle.plan_grammar.specs.Canonical.{decimals, chip_words, detail_words, part_words, chip_lines, controller_lines, data_words, fault_words, command_words, session_lines, schedule_lines, boot_lines, header_lines, canonical_words}

-- the words of a line
abbrev pub Line : Type 0
Line = List (List ℕ)

abbrev pub all_lines : Bool → List (List ChipLines) → List DataLine → List BootLines → List Line
all_lines begun controllers payloads boots =
    ((header_lines begun ++ flat_map controller_lines controllers) ++ map data_words payloads) ++ flat_map boot_lines boots

-- a list with another last item
pub lines-with_last : {A : Type 0} (f : A → List Line) (g : A → A) (xs : List A) (x : A) (line : Line) → last_of xs ≡ Some x →
    f (g x) ≡ f x ++ line ∷ [] → flat_map f (with_last g xs) ≡ flat_map f xs ++ line ∷ []
lines-with_last f g [] x line e more = absurd (cc e)
lines-with_last f g (y ∷ []) x line e more =
    let same : y ≡ x = cc e in
    let here : f (g y) ≡ f y ++ line ∷ [] = subst (λ z. f (g z) ≡ f z ++ line ∷ []) (sym same) more in
    append-nil (f (g y)) ∙ here ∙ ap (λ ls. ls ++ line ∷ []) (sym (append-nil (f y)))
lines-with_last f g (y ∷ z ∷ xs) x line e more =
    ap (λ ls. f y ++ ls) (lines-with_last f g (z ∷ xs) x line e more)
    ∙ sym (append_assoc (f y) (flat_map f (z ∷ xs)) (line ∷ []))

lines_push : {A : Type 0} (f : A → List Line) (xs : List A) (x : A) (line : Line) → f x ≡ line ∷ [] →
    flat_map f (xs ++ x ∷ []) ≡ flat_map f xs ++ line ∷ []
lines_push f xs x line e =
    flat_map-append f xs (x ∷ []) ∙ ap (λ ls. flat_map f xs ++ ls) (append-nil (f x) ∙ e)

-- with another line of a controller, where no data and no boot follow
hardware_text : (h c : List Line) (line : Line) → (((h ++ (c ++ line ∷ [])) ++ []) ++ []) ≡ ((h ++ c) ++ []) ++ [] ++ line ∷ []
hardware_text h c line =
    append-nil ((h ++ (c ++ line ∷ [])) ++ []) ∙ append-nil (h ++ (c ++ line ∷ [])) ∙ sym (append_assoc h c (line ∷ []))
    ∙ ap (λ ls. ls ++ line ∷ []) (sym (append-nil ((h ++ c) ++ []) ∙ append-nil (h ++ c)))

pub hardware_written : (plan next : PlanLines) (controllers : List (List ChipLines)) (line : Line) → plan.payloads ≡ [] → plan.boots ≡ [] →
    record plan { controllers = controllers } ≡ next →
    flat_map controller_lines controllers ≡ flat_map controller_lines plan.controllers ++ line ∷ [] →
    canonical_words next ≡ canonical_words plan ++ line ∷ []
hardware_written plan next controllers line no_data no_boots is grown =
    ap canonical_words (sym is)
    ∙ ap (λ ps. all_lines plan.begun controllers ps plan.boots) no_data
    ∙ ap (λ bs. all_lines plan.begun controllers [] bs) no_boots
    ∙ ap (λ ls. ((header_lines plan.begun ++ ls) ++ []) ++ []) grown
    ∙ hardware_text (header_lines plan.begun) (flat_map controller_lines plan.controllers) line
    ∙ ap (λ ps. all_lines plan.begun plan.controllers ps [] ++ line ∷ []) (sym no_data)
    ∙ ap (λ bs. all_lines plan.begun plan.controllers plan.payloads bs ++ line ∷ []) (sym no_boots)

pub header_written : (plan next : PlanLines) → plan.begun ≡ false → plan.controllers ≡ [] → plan.payloads ≡ [] → plan.boots ≡ [] →
    record plan { begun = true } ≡ next → canonical_words next ≡ canonical_words plan ++ (codes "nandlab" ∷ codes "1" ∷ []) ∷ []
header_written plan next unbegun no_controllers no_data no_boots is =
    ap canonical_words (sym is)
    ∙ ap (λ cs. all_lines true cs plan.payloads plan.boots) no_controllers
    ∙ ap (λ ps. all_lines true [] ps plan.boots) no_data
    ∙ ap (λ bs. all_lines true [] [] bs) no_boots
    ∙ ap (λ b. all_lines b [] [] [] ++ (codes "nandlab" ∷ codes "1" ∷ []) ∷ []) (sym unbegun)
    ∙ ap (λ cs. all_lines plan.begun cs [] [] ++ (codes "nandlab" ∷ codes "1" ∷ []) ∷ []) (sym no_controllers)
    ∙ ap (λ ps. all_lines plan.begun plan.controllers ps [] ++ (codes "nandlab" ∷ codes "1" ∷ []) ∷ []) (sym no_data)
    ∙ ap (λ bs. all_lines plan.begun plan.controllers plan.payloads bs ++ (codes "nandlab" ∷ codes "1" ∷ []) ∷ []) (sym no_boots)

pub controllers_push : (controllers : List (List ChipLines)) →
    flat_map controller_lines (controllers ++ [] ∷ []) ≡ flat_map controller_lines controllers ++ (codes "controller" ∷ []) ∷ []
controllers_push controllers = lines_push controller_lines controllers [] (codes "controller" ∷ []) refl

pub chips_push : (chips : List ChipLines) (g : Geometry) →
    controller_lines (chips ++ record { geometry = g; details = []; parts = [] } ∷ []) ≡ controller_lines chips ++ chip_words g ∷ []
chips_push chips g =
    ap (λ ls. (codes "controller" ∷ []) ∷ ls) (lines_push chip_lines chips (record { geometry = g; details = []; parts = [] }) (chip_words g) refl)

-- a line that tells more of a chip without partitions
pub detail_line : (chip : ChipLines) (detail : DetailLine) → chip.parts ≡ [] →
    chip_lines (record chip { details = chip.details ++ detail ∷ [] }) ≡ chip_lines chip ++ detail_words detail ∷ []
detail_line chip detail none =
    ap (λ ps. chip_words chip.geometry ∷ (map detail_words (chip.details ++ detail ∷ []) ++ map part_words ps)) none
    ∙ ap (λ ls. chip_words chip.geometry ∷ ls) (append-nil (map detail_words (chip.details ++ detail ∷ []))
    ∙ map-append detail_words chip.details (detail ∷ [])
    ∙ ap (λ ls. ls ++ detail_words detail ∷ []) (sym (append-nil (map detail_words chip.details))))
    ∙ ap (λ ps. chip_words chip.geometry ∷ ((map detail_words chip.details ++ map part_words ps) ++ detail_words detail ∷ [])) (sym none)

pub part_line : (chip : ChipLines) (part : PartLine) →
    chip_lines (record chip { parts = chip.parts ++ part ∷ [] }) ≡ chip_lines chip ++ part_words part ∷ []
part_line chip part =
    ap (λ ls. chip_words chip.geometry ∷ (map detail_words chip.details ++ ls)) (map-append part_words chip.parts (part ∷ []))
    ∙ ap (λ ls. chip_words chip.geometry ∷ ls) (sym (append_assoc (map detail_words chip.details) (map part_words chip.parts) (part_words part ∷ [])))

-- another last chip
pub last_chip_line : (controllers : List (List ChipLines)) (chips : List ChipLines) (chip : ChipLines) (change : ChipLines → ChipLines) (line : Line) →
    last_of controllers ≡ Some chips → last_of chips ≡ Some chip → chip_lines (change chip) ≡ chip_lines chip ++ line ∷ [] →
    flat_map controller_lines (with_last (with_last change) controllers) ≡ flat_map controller_lines controllers ++ line ∷ []
last_chip_line controllers chips chip change line e f more =
    lines-with_last controller_lines (with_last change) controllers chips line e
    (ap (λ ls. (codes "controller" ∷ []) ∷ ls) (lines-with_last chip_lines change chips chip line f more))

pub data_written : (plan next : PlanLines) (payload : DataLine) → plan.boots ≡ [] →
    record plan { payloads = plan.payloads ++ payload ∷ [] } ≡ next → canonical_words next ≡ canonical_words plan ++ data_words payload ∷ []
data_written plan next payload no_boots is =
    let front : List Line = header_lines plan.begun ++ flat_map controller_lines plan.controllers in
    ap canonical_words (sym is)
    ∙ ap (λ bs. all_lines plan.begun plan.controllers (plan.payloads ++ payload ∷ []) bs) no_boots
    ∙ append-nil (front ++ map data_words (plan.payloads ++ payload ∷ []))
    ∙ ap (λ ls. front ++ ls) (map-append data_words plan.payloads (payload ∷ []))
    ∙ sym (append_assoc front (map data_words plan.payloads) (data_words payload ∷ []))
    ∙ ap (λ ls. ls ++ data_words payload ∷ []) (sym (append-nil (front ++ map data_words plan.payloads)))
    ∙ ap (λ bs. all_lines plan.begun plan.controllers plan.payloads bs ++ data_words payload ∷ []) (sym no_boots)

-- another line of a boot
pub boots_written : (plan next : PlanLines) (boots : List BootLines) (line : Line) → record plan { boots = boots } ≡ next →
    flat_map boot_lines boots ≡ flat_map boot_lines plan.boots ++ line ∷ [] → canonical_words next ≡ canonical_words plan ++ line ∷ []
boots_written plan next boots line is grown =
    let front : List Line = (header_lines plan.begun ++ flat_map controller_lines plan.controllers) ++ map data_words plan.payloads in
    ap canonical_words (sym is) ∙ ap (λ ls. front ++ ls) grown
    ∙ sym (append_assoc front (flat_map boot_lines plan.boots) (line ∷ []))

pub boots_push : (boots : List BootLines) →
    flat_map boot_lines (boots ++ record { faults = []; sessions = []; schedule = [] } ∷ []) ≡ flat_map boot_lines boots ++ (codes "boot" ∷ []) ∷ []
boots_push boots = lines_push boot_lines boots (record { faults = []; sessions = []; schedule = [] }) (codes "boot" ∷ []) refl

abbrev lines_of_boot : List FaultLine → List SessionLines → List ℕ → List Line
lines_of_boot faults sessions schedule =
    (codes "boot" ∷ []) ∷ ((map fault_words faults ++ flat_map session_lines sessions) ++ schedule_lines schedule)

pub fault_line : (boot : BootLines) (fault : FaultLine) → boot.sessions ≡ [] → boot.schedule ≡ [] →
    boot_lines (record boot { faults = boot.faults ++ fault ∷ [] }) ≡ boot_lines boot ++ fault_words fault ∷ []
fault_line boot fault idle free =
    ap (λ ss. lines_of_boot (boot.faults ++ fault ∷ []) ss boot.schedule) idle
    ∙ ap (λ ns. lines_of_boot (boot.faults ++ fault ∷ []) [] ns) free
    ∙ ap (λ ls. (codes "boot" ∷ []) ∷ ls) (append-nil (map fault_words (boot.faults ++ fault ∷ []) ++ [])
    ∙ append-nil (map fault_words (boot.faults ++ fault ∷ [])) ∙ map-append fault_words boot.faults (fault ∷ [])
    ∙ ap (λ ls. ls ++ fault_words fault ∷ []) (sym (append-nil (map fault_words boot.faults ++ []) ∙ append-nil (map fault_words boot.faults))))
    ∙ ap (λ ss. lines_of_boot boot.faults ss [] ++ fault_words fault ∷ []) (sym idle)
    ∙ ap (λ ns. lines_of_boot boot.faults boot.sessions ns ++ fault_words fault ∷ []) (sym free)

sessions_line : (boot : BootLines) (sessions : List SessionLines) (line : Line) → boot.schedule ≡ [] →
    flat_map session_lines sessions ≡ flat_map session_lines boot.sessions ++ line ∷ [] →
    boot_lines (record boot { sessions = sessions }) ≡ boot_lines boot ++ line ∷ []
sessions_line boot sessions line free grown =
    let front : List Line = map fault_words boot.faults in
    ap (λ ns. lines_of_boot boot.faults sessions ns) free
    ∙ ap (λ ls. (codes "boot" ∷ []) ∷ ls) (append-nil (front ++ flat_map session_lines sessions) ∙ ap (λ ls. front ++ ls) grown
    ∙ sym (append_assoc front (flat_map session_lines boot.sessions) (line ∷ []))
    ∙ ap (λ ls. ls ++ line ∷ []) (sym (append-nil (front ++ flat_map session_lines boot.sessions))))
    ∙ ap (λ ns. lines_of_boot boot.faults boot.sessions ns ++ line ∷ []) (sym free)

pub session_line : (boot : BootLines) (controller : ℕ) → boot.schedule ≡ [] →
    boot_lines (record boot { sessions = boot.sessions ++ record { controller = controller; commands = [] } ∷ [] })
    ≡ boot_lines boot ++ (codes "session" ∷ decimal controller ∷ []) ∷ []
session_line boot controller free =
    sessions_line boot (boot.sessions ++ record { controller = controller; commands = [] } ∷ []) (codes "session" ∷ decimal controller ∷ []) free
    (lines_push session_lines boot.sessions (record { controller = controller; commands = [] }) (codes "session" ∷ decimal controller ∷ []) refl)

pub command_line : (boot : BootLines) (session : SessionLines) (command : CommandLine) → boot.schedule ≡ [] → last_of boot.sessions ≡ Some session →
    boot_lines (record boot {
      sessions = with_last (λ (s : SessionLines). record s { commands = s.commands ++ command ∷ [] }) boot.sessions;
    }) ≡ boot_lines boot ++ command_words command ∷ []
command_line boot session command free last =
    let change : SessionLines → SessionLines = λ s. record s { commands = s.commands ++ command ∷ [] } in
    sessions_line boot (with_last change boot.sessions) (command_words command) free
    (lines-with_last session_lines change boot.sessions session (command_words command) last
    (ap (λ ls. (codes "session" ∷ decimal session.controller ∷ []) ∷ ls) (map-append command_words session.commands (command ∷ []))))

pub schedule_line : (boot : BootLines) (n : ℕ) (ns : List ℕ) → boot.schedule ≡ [] →
    boot_lines (record boot { schedule = n ∷ ns }) ≡ boot_lines boot ++ (codes "schedule" ∷ decimals (n ∷ ns)) ∷ []
schedule_line boot n ns free =
    let front : List Line = map fault_words boot.faults ++ flat_map session_lines boot.sessions in
    ap (λ ls. (codes "boot" ∷ []) ∷ (ls ++ (codes "schedule" ∷ decimals (n ∷ ns)) ∷ [])) (sym (append-nil front))
    ∙ ap (λ ms. lines_of_boot boot.faults boot.sessions ms ++ (codes "schedule" ∷ decimals (n ∷ ns)) ∷ []) (sym free)
