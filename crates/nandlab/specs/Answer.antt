-- What a call writes, by its words and the bytes that it is given.
use Rattle.std.specs.Prelude.{◌≡◌, ℕ, List, ◌++◌, take, Option, Some, None, ⊤}
use Rattle.nand_model.specs.Counts.{HasRisen}
use Rattle.headline_model.specs.Headline.{IsReplayOf}
use Rattle.headline_laws.specs.TableBlocks.{HaveTableBlocks}
use Rattle.plan_grammar.specs.Grammar.{IsPlan, IsRefused}
use Rattle.plan_grammar.specs.Canonical.{canonical_text}
use Rattle.plan_grammar.specs.Meaning.{plan_of}
use Rattle.plan_grammar.specs.declared.kind.PlanKind.{PlanKind}
use Rattle.plan_grammar.specs.declared.lines.PlanLines.{PlanLines}
use Rattle.made_replay.specs.Summary.{IsSummaryOf}
use Rattle.bus_script.specs.Answer.{IsRefusal, IsTextOf}
use Rattle.bus_script.specs.declared.error.ScriptError.{ScriptError}
use Rattle.code_words.specs.Inputs.{refusal_of}
use Rattle.code_words.specs.Units.{decoded, encoded, unit_bytes}
use Rattle.code_words.specs.declared.refusal.InputRefusal.{InputRefusal}
use Rattle.nandlab.specs.Words.{Words, request_of}
use Rattle.nandlab.specs.Refusal.{input_kind, refusal_line, script_line, usage_line}
use Rattle.nandlab.specs.declared.request.Request.{Request}
use Rattle.nandlab.specs.declared.request.Request.TheVariants.{Check, Replay, Run, Make, Bus, Encode, Decode}
use Rattle.nandlab.specs.declared.status.Status.{Status}
use Rattle.nandlab.specs.declared.status.Status.TheVariants.{Fine, Usage, PlanRefused, ReadFault, WriteFault, Memory}

-- the bytes are a plan
abbrev pub AreSomePlan : List ℕ → Type 0
AreSomePlan bytes = (plan : PlanLines) × IsPlan bytes plan

-- They are, and the text is the report of the plan's replay. This is the headline, whose clauses are
-- these parts:
--
--   For every plan,                              IsPlan, and HaveTableBlocks: at most two of the
--                                                last four blocks of a chip with tables are bad
--   the report gives for each controller         IsReplayOf: `printed`, of the courses of the
--                                                plan's replay; it has no other (`only`)
--   a history in which each session's            `histories`: `history`, by `in_order` and
--   operations stand once and in order,          `complete`,
--   with the replies of one thread;              by `one_thread`, where what befell the chips is
--                                                that of the controller's page events (`of_logs`)
--   a programmed page with at most t flips per   `histories`: `reads_back`
--   step reads back its bytes and exact counts;
--   and after any cut, rescanning shows bad      `marks`: `marks`, of each attach note of each
--   every block whose marking was                boot, as far as its own and the earlier attaches
--   acknowledged, and none beyond factory-bad    were quiet and the torn events before it not foul
--   ones whose marking had not begun.
abbrev pub IsReportFor : List ℕ → List ℕ → Type 0
IsReportFor bytes text =
    (plan : PlanLines) × IsPlan bytes plan × HaveTableBlocks (plan_of plan) × IsReplayOf (plan_of plan) text

-- the bytes are no plan, and the text says by which line and which kind
abbrev pub IsNoPlan : List ℕ → List ℕ → Type 0
IsNoPlan bytes text = (at : ℕ) × (kind : PlanKind) × IsRefused bytes at kind × (text ≡ refusal_line at kind)

-- the bytes are a script of legal cycles
abbrev pub AreLegalScript : List ℕ → Type 0
AreLegalScript bytes = (text : List ℕ) × IsTextOf bytes text

-- the bytes are no script, or one with an illegal cycle, and the text says so
abbrev pub IsNoLegalScript : List ℕ → List ℕ → Type 0
IsNoLegalScript bytes text = (error : ScriptError) × IsRefusal bytes error × (text ≡ script_line error)

-- the bytes are whole pieces of this size, and not too many
abbrev pub AreWhole : ℕ → List ℕ → Type 0
AreWhole size bytes = refusal_of size bytes ≡ None

-- the bytes are no such input, and the text says why, at line 0
abbrev pub IsNoInput : ℕ → List ℕ → List ℕ → Type 0
IsNoInput size bytes text =
    (why : InputRefusal) × (refusal_of size bytes ≡ Some why) × (text ≡ refusal_line 0 (input_kind why))

-- the bytes are taken for the request; of those that it reads none for, any are
abbrev pub IsTaken : Request → List ℕ → Type 0
IsTaken Check bytes = AreSomePlan bytes
IsTaken Replay bytes = AreSomePlan bytes
IsTaken Run bytes = AreSomePlan bytes
IsTaken (Make n) bytes = ⊤
IsTaken Bus bytes = AreLegalScript bytes
IsTaken (Encode t) bytes = AreWhole 1024 bytes
IsTaken (Decode t) bytes = AreWhole (unit_bytes t) bytes

-- they are taken, and the text is what the request writes of them
abbrev pub Serves : Request → List ℕ → List ℕ → Type 0
Serves Check bytes text = (plan : PlanLines) × IsPlan bytes plan × (text ≡ canonical_text plan)
Serves Replay bytes text = IsReportFor bytes text
Serves Run bytes text = IsReportFor bytes text
Serves (Make n) bytes text = IsSummaryOf n text
Serves Bus bytes text = IsTextOf bytes text
Serves (Encode t) bytes text = AreWhole 1024 bytes × (text ≡ encoded t bytes)
Serves (Decode t) bytes text = AreWhole (unit_bytes t) bytes × (text ≡ decoded t bytes)

-- they are refused, and the text says why
abbrev pub IsRefusalOf : Request → List ℕ → List ℕ → Type 0
IsRefusalOf Check bytes text = IsNoPlan bytes text
IsRefusalOf Replay bytes text = IsNoPlan bytes text
IsRefusalOf Run bytes text = IsNoPlan bytes text
IsRefusalOf (Make n) bytes text = ⊥
IsRefusalOf Bus bytes text = IsNoLegalScript bytes text
IsRefusalOf (Encode t) bytes text = IsNoInput 1024 bytes text
IsRefusalOf (Decode t) bytes text = IsNoInput (unit_bytes t) bytes text

-- what is written for a request that is given these bytes
abbrev pub Answers : Request → List ℕ → Status → List ℕ → Type 0
Answers request bytes Fine text = Serves request bytes text
Answers request bytes PlanRefused text = IsRefusalOf request bytes text
Answers request bytes _ text = ⊥

-- the words are accepted, and what they ask for is done for these bytes
abbrev pub AreServed : Words → List ℕ → Type 0
AreServed words bytes = (request : Request) × (request_of words ≡ Some request) × IsTaken request bytes

-- the words are accepted, and what they ask for is refused for these bytes
abbrev pub AreRefused : Words → List ℕ → Type 0
AreRefused words bytes =
    (request : Request) × (request_of words ≡ Some request) × ((text : List ℕ) × IsRefusalOf request bytes text)

-- a count of faults that did not rise
abbrev pub IsCalm : (before after : ℕ) → Type 0
IsCalm before after = HasRisen before after → ⊥

-- what is written where a call with these words, which is given these bytes, ends with this status
abbrev pub Writes : Words → List ℕ → Status → List ℕ → Type 0
Writes words bytes Usage text = (request_of words ≡ None) × (text ≡ usage_line)
Writes words bytes status text =
    (request : Request) × (request_of words ≡ Some request) × Answers request bytes status text

-- what the sink holds then: all of the text, a prefix of it where the sink failed, and nothing more
-- where reading or memory did
abbrev pub Holds : Words → List ℕ → Status → List ℕ → List ℕ → Type 0
Holds words bytes ReadFault before after = after ≡ before
Holds words bytes Memory before after = after ≡ before
Holds words bytes WriteFault before after = (status : Status) × (text : List ℕ) × (n : ℕ)
    × Writes words bytes status text × (after ≡ before ++ take n text)
Holds words bytes status before after = (text : List ℕ) × Writes words bytes status text × (after ≡ before ++ text)

-- what the sink has then, where it is told
abbrev pub Leaves : Words → List ℕ → Status → List ℕ → Option (List ℕ) → Type 0
Leaves words bytes status before held =
    (after : List ℕ) × (held ≡ Some after) × Holds words bytes status before after
