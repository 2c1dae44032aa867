-- What a BSDL text says, or its first refusal.
use Rattle.std.specs.Prelude.{◌≡◌, ℕ, ◌+◌, ◌-◌, List, [], ◌∷◌, map, take, drop, true, false, encode_utf8_all, Result, Ok, Err}
use Rattle.std.specs.declared.option.Option.{Option}
use Rattle.std.specs.declared.option.Option.TheVariants.{Some, None}
use Rattle.bsdl_lex.specs.declared.Token.{Token}
use Rattle.bsdl_lex.specs.Tokens.{LexFault, lexed}
use Rattle.part_model.specs.declared.plan.PartPlan.{PartPlan}
use Rattle.part_model.specs.declared.plan.PlanRefusal.{PlanRefusal}
use Rattle.part_model.specs.Parts.{DeviceType}
use Rattle.part_model.specs.Plans.{plan_refusal, part_of}
use Rattle.bsdl_read.specs.declared.structure.Value.{Value}
use Rattle.bsdl_read.specs.declared.structure.Values.{Values}
use Rattle.bsdl_read.specs.declared.structure.Seen.{Seen}
use Rattle.bsdl_read.specs.declared.structure.Fault.{Fault}
use Rattle.bsdl_read.specs.declared.contents.ContentFault.{ContentFault}
use Rattle.bsdl_read.specs.declared.contents.ContentFault.TheVariants as faults
use Rattle.bsdl_read.specs.declared.read.Entity.{Entity}
use Rattle.bsdl_read.specs.declared.read.BsdlRefusal.{BsdlRefusal}
use Rattle.bsdl_read.specs.declared.read.BsdlRefusal.TheVariants as refusals
use Rattle.bsdl_read.specs.Words.{spelled, capital}
use Rattle.bsdl_read.specs.Structure.{structure, and_then, value_of}
use Rattle.bsdl_read.specs.Contents.{whole_number}
use Rattle.bsdl_read.specs.Opcodes.{opcodes}
use Rattle.bsdl_read.specs.Patterns.{pattern}
use Rattle.bsdl_read.specs.Accesses.{accesses}

-- a name and a device type
pub record EntityShape : Type 0 where
  pub name : List ℕ
  pub part : DeviceType

abbrev pub tokens_of : List Token → Value → List Token
tokens_of tokens value = take (value.behind - value.first) (drop value.first tokens)

-- the number of the one token of a VALUE
abbrev pub number : List ℕ → List Token → Result ℕ ℕ
number text [] = Err 8
number text (token ∷ tokens) = whole_number (spelled text token)

-- a content, or its cause at the first token of its VALUE
abbrev pub at_value : {A : Type 0} → Value → Result A ℕ → Result A Fault
at_value value (Ok x) = Ok x
at_value value (Err cause) = Err (record { at = value.at; cause = cause })

-- a required content: its VALUE stands there, as the structure says
abbrev pub required : {A : Type 0} → List Token → Seen → (List Token → Result A ℕ) → Option Value → Result A Fault
required tokens seen content None = Err (record { at = seen.end; cause = 6 })
required tokens seen content (Some value) = at_value value (content (tokens_of tokens value))

-- a content that may be left out
abbrev pub optional : {A : Type 0} → List Token → (List Token → Result A ℕ) → Option Value → Result (Option A) Fault
optional tokens content None = Ok None
optional tokens content (Some value) = and_then (at_value value (content (tokens_of tokens value))) (λ x. Ok (Some x))

-- entries that may be left out
abbrev pub listed : {A : Type 0} → List Token → (List Token → Result (List A) ℕ) → Option Value → Result (List A) Fault
listed tokens content None = Ok []
listed tokens content (Some value) = at_value value (content (tokens_of tokens value))

-- the contents in the order of the attributes
abbrev pub plan_of : List ℕ → List Token → Seen → Result PartPlan Fault
plan_of text tokens seen =
    and_then (required tokens seen (number text) seen.values.ir_length) (λ ir_len.
    and_then (required tokens seen (opcodes text) seen.values.opcodes) (λ opcodes.
    and_then (required tokens seen (pattern false text) seen.values.capture) (λ capture.
    and_then (optional tokens (pattern true text) seen.values.idcode) (λ idcode.
    and_then (optional tokens (pattern true text) seen.values.usercode) (λ usercode.
    and_then (listed tokens (accesses text) seen.values.access) (λ access.
    and_then (required tokens seen (number text) seen.values.boundary) (λ boundary.
    Ok (record { ir_len = ir_len; opcodes = opcodes; capture = capture; idcode = idcode; usercode = usercode; access = access; boundary = boundary }))))))))

-- the place of the first token of an attribute's VALUE
abbrev pub place : Option Value → ℕ
place None = 0
place (Some value) = value.at

-- the device type of a plan, or 10 and the cause of its refusal at the attribute's VALUE
abbrev pub accepted : Values → PartPlan → Option PlanRefusal → Result DeviceType Fault
accepted values plan None = Ok (part_of plan)
accepted values plan (Some refusal) = Err (record { at = place (value_of values refusal.field); cause = 10 + refusal.cause })

-- a word in capitals, as text
abbrev pub capitals : List ℕ → List ℕ
capitals word = encode_utf8_all (map capital word)

abbrev pub entity : List ℕ → List Token → Seen → Result EntityShape Fault
entity text tokens seen =
    and_then (plan_of text tokens seen) (λ plan.
    and_then (accepted seen.values plan (plan_refusal plan)) (λ part.
    Ok (record { name = capitals (spelled text seen.name); part = part })))

abbrev pub from_tokens : List ℕ → Result (List Token) LexFault → Result EntityShape Fault
from_tokens text (Ok tokens) = and_then (structure text tokens) (entity text tokens)
from_tokens text (Err fault) = Err (record { at = fault.at; cause = fault.cause })

-- what a text says, or its first refusal: that of the tokens, of the structure, of the contents, and of the plan, in this order
abbrev pub read_of : List ℕ → Result EntityShape Fault
read_of text = from_tokens text (lexed text)

-- a text says this name and this device type
abbrev pub IsEntity : List ℕ → List ℕ → DeviceType → Type 0
IsEntity text name part = read_of text ≡ Ok (record { name = name; part = part })

-- a text is refused at a place for a cause
abbrev pub NoEntity : List ℕ → ℕ → ℕ → Type 0
NoEntity text at cause = read_of text ≡ Err (record { at = at; cause = cause })

-- ---- what the code answers

-- unless memory runs out
abbrev pub RefusesAs : {A : Type 0} → BsdlRefusal → Result A Fault → Type 0
RefusesAs refusals.Memory read = Unit {0}
RefusesAs (refusals.Refused at cause) read = read ≡ Err (record { at = at; cause = cause })

abbrev pub Reads : {X Y : Type 0} → (X → Y) → Result X BsdlRefusal → Result Y Fault → Type 0
Reads seen (Ok x) read = read ≡ Ok (seen x)
Reads seen (Err refusal) read = RefusesAs refusal read

abbrev pub missing : Seen → BsdlRefusal
missing seen = refusals.Refused seen.end 6

abbrev pub shape_of : Entity → EntityShape
shape_of entity = record { name = entity.name; part = entity.part }

abbrev pub refusal_of : ℕ → ContentFault → BsdlRefusal
refusal_of at faults.Memory = refusals.Memory
refusal_of at (faults.Departs cause) = refusals.Refused at cause
