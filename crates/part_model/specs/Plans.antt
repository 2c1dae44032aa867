-- From what a BSDL text says to a device type, and what is refused (IEEE 1149.1, Annex B).
use Rattle.std.specs.Prelude.{ℕ, suc, ◌≡◌, Bool, true, false, not, ◌&&◌, ◌||◌, ◌==◌, nat_lt, List, [], ◌∷◌, ◌++◌, map, replicate, length, if◌then◌else◌, codes}
use Rattle.std.specs.List.{list_any, list_all}
use Rattle.std.specs.declared.option.Option.{Option}
use Rattle.std.specs.declared.option.Option.TheVariants.{None, Some}
use Rattle.part_model.specs.declared.Digit.{Digit}
use Rattle.part_model.specs.declared.Digit.TheVariants.{Zero, One, Any}
use Rattle.part_model.specs.declared.Field.{Field}
use Rattle.part_model.specs.declared.Field.TheVariants.{InstructionLength, InstructionOpcode, InstructionCapture, IdcodeRegister, UsercodeRegister, RegisterAccess, BoundaryLength}
use Rattle.part_model.specs.declared.plan.Opcode.{Opcode}
use Rattle.part_model.specs.declared.plan.Access.{Access}
use Rattle.part_model.specs.declared.plan.PartPlan.{PartPlan}
use Rattle.part_model.specs.declared.plan.PlanRefusal.{PlanRefusal}
use Rattle.part_model.specs.declared.plan.PartRefusal.{PartRefusal}
use Rattle.part_model.specs.declared.plan.PartRefusal.TheVariants.{Memory, Refused}
use Rattle.part_model.specs.Parts.{DeviceType, Instruction, NamedRegister, Register, numbered, same_name, selected}
use Rattle.part_model.specs.Parts.Register.{Bypass, Boundary, Idcode, Usercode, Named}

-- an entry of INSTRUCTION_OPCODE: a name and its patterns, lowest digit first
abbrev pub OpcodeEntry : Type 0
OpcodeEntry = Opcode

-- an entry of REGISTER_ACCESS: a register, its length where it is stated, and instructions
abbrev pub AccessEntry : Type 0
AccessEntry = Access

-- what the attributes of a BSDL entity say that a device type is made of; patterns stand lowest digit first
abbrev pub PartAttributes : Type 0
PartAttributes = PartPlan

-- the bits of a pattern, X read as 0
abbrev pub bits_of_pattern : List Digit → List Bool
bits_of_pattern [] = []
bits_of_pattern (One ∷ digits) = true ∷ bits_of_pattern digits
bits_of_pattern (Zero ∷ digits) = false ∷ bits_of_pattern digits
bits_of_pattern (Any ∷ digits) = false ∷ bits_of_pattern digits

-- the name is one of these
abbrev pub is_listed : List ℕ → List (List ℕ) → Bool
is_listed name names = list_any (same_name name) names

-- the registers that the standard names
abbrev pub standard_names : List (List ℕ)
standard_names = codes "BYPASS" ∷ codes "BOUNDARY" ∷ codes "DEVICE_ID" ∷ []

-- a length, or else another
abbrev pub length_or : Option ℕ → ℕ → ℕ
length_or None default = default
length_or (Some length) default = length

-- the named registers in the order of their first mention, after those known
abbrev pub names_known : List NamedRegister → List (List ℕ)
names_known registers = map (λ register. register.name) registers

-- the named registers that accesses add to those known
abbrev pub named_after : List NamedRegister → List AccessEntry → List NamedRegister
named_after known [] = known
named_after known (access ∷ rest) =
    named_after (if is_listed access.register standard_names || is_listed access.register (names_known known) then known else known ++ record { name = access.register; length = length_or access.length 0 } ∷ []) rest

-- the registers that REGISTER_ACCESS names beside the standard's, in the order of their first mention
abbrev pub named_registers : List AccessEntry → List NamedRegister
named_registers access = named_after [] access

-- the place of a name
abbrev pub place_of_name : List NamedRegister → List ℕ → ℕ
place_of_name [] name = 0
place_of_name (register ∷ registers) name = if same_name register.name name then 0 else suc (place_of_name registers name)

-- the register of a name, for an instruction
abbrev pub register_named : List NamedRegister → List ℕ → List ℕ → Register
register_named named instruction name =
    if same_name name (codes "BYPASS") then Bypass else
    (if same_name name (codes "BOUNDARY") then Boundary else
    (if same_name name (codes "DEVICE_ID") then (if same_name instruction (codes "USERCODE") then Usercode else Idcode) else
    Named (place_of_name named name)))

-- the register that an access names first for an instruction
abbrev pub mentioned : List AccessEntry → List ℕ → Option (List ℕ)
mentioned [] instruction = None
mentioned (access ∷ rest) instruction = if is_listed instruction access.instructions then Some access.register else mentioned rest instruction

-- the register of an instruction that no access names
abbrev pub default_register : List ℕ → Register
default_register instruction =
    if is_listed instruction (codes "EXTEST" ∷ codes "SAMPLE" ∷ codes "PRELOAD" ∷ codes "INTEST" ∷ []) then Boundary else
    (if same_name instruction (codes "IDCODE") then Idcode else
    (if same_name instruction (codes "USERCODE") then Usercode else Bypass))

-- the register that is named for an instruction, or else its default
abbrev pub register_or : Option (List ℕ) → List NamedRegister → List ℕ → Register
register_or None named instruction = default_register instruction
register_or (Some name) named instruction = register_named named instruction name

-- the register that an instruction selects
abbrev pub register_for : List AccessEntry → List ℕ → Register
register_for access instruction = register_or (mentioned access instruction) (named_registers access) instruction

-- an instruction with the register that it selects
abbrev pub opcode_of : List AccessEntry → OpcodeEntry → Instruction
opcode_of access plan = record { name = plan.name; patterns = plan.patterns; register = register_for access plan.name }

-- opcodes with the registers of these numbers
abbrev pub with_registers : List OpcodeEntry → List ℕ → List Instruction
with_registers (plan ∷ plans) (register ∷ registers) = record { name = plan.name; patterns = plan.patterns; register = numbered register } ∷ with_registers plans registers
with_registers _ _ = []

-- the first pattern of an opcode
abbrev pub first_pattern : List (List Digit) → List Digit
first_pattern [] = []
first_pattern (pattern ∷ patterns) = pattern

-- the first pattern of the first IDCODE opcode, or all ones
abbrev pub idcode_pattern : ℕ → List OpcodeEntry → List Bool
idcode_pattern ir_length [] = replicate ir_length true
idcode_pattern ir_length (opcode ∷ opcodes) = if same_name opcode.name (codes "IDCODE") then bits_of_pattern (first_pattern opcode.patterns) else idcode_pattern ir_length opcodes

-- the reset code: that of IDCODE where there is an identification, and all ones otherwise
abbrev pub reset_of : Option (List Digit) → ℕ → List OpcodeEntry → List Bool
reset_of None ir_length opcodes = replicate ir_length true
reset_of (Some pattern) ir_length opcodes = idcode_pattern ir_length opcodes

-- the bits of a pattern, where there is one
abbrev pub pattern_bits : Option (List Digit) → Option (List Bool)
pattern_bits None = None
pattern_bits (Some pattern) = Some (bits_of_pattern pattern)

-- the bits of a pattern, or 32 zeros where there is none
abbrev pub bits_or_zeros : Option (List Digit) → List Bool
bits_or_zeros None = replicate 32 false
bits_or_zeros (Some pattern) = bits_of_pattern pattern

-- the device type of a plan
abbrev pub part_of : PartAttributes → DeviceType
part_of plan = record {
  ir_length = plan.ir_len;
  opcodes = map (opcode_of plan.access) plan.opcodes;
  ir_captures = bits_of_pattern plan.capture;
  reset_code = reset_of plan.idcode plan.ir_len plan.opcodes;
  idcode = pattern_bits plan.idcode;
  usercode = bits_or_zeros plan.usercode;
  boundary_length = plan.boundary;
  named = named_registers plan.access;
}

-- ---- refusals

-- why a plan is refused: 1 and 2 lengths of codes, 3 the captured 01, 4 two lengths of a register, 5 no length or no identification,
-- 6 and 7 a length of 0 or over 65,536, 8 an identification that is not the reset instruction's, 9 no opcode
-- a refusal for a cause, at an attribute
abbrev pub refuse : ℕ → Field → Option PlanRefusal
refuse cause field = Some (record { cause = cause; field = field })

-- the first of two refusals
abbrev pub or_else : Option PlanRefusal → Option PlanRefusal → Option PlanRefusal
or_else None next = next
or_else (Some refusal) next = Some refusal

-- the refusal where a test passes
abbrev pub refuse_if : Bool → ℕ → Field → Option PlanRefusal
refuse_if true cause field = refuse cause field
refuse_if false cause field = None

-- 1: the instruction length
abbrev pub length_refusal : PartAttributes → Option PlanRefusal
length_refusal plan = refuse_if (nat_lt plan.ir_len 2 || nat_lt 64 plan.ir_len) 1 InstructionLength

-- 2: patterns of another length
abbrev pub wrong_length : ℕ → List Digit → Bool
wrong_length count pattern = not (length pattern == count)

-- an identification that has not 32 digits
abbrev pub wrong_option : Option (List Digit) → Bool
wrong_option None = false
wrong_option (Some pattern) = wrong_length 32 pattern

-- an opcode has a pattern of another length
abbrev pub any_of_another_length : ℕ → List OpcodeEntry → Bool
any_of_another_length count opcodes = list_any (λ opcode. list_any (wrong_length count) opcode.patterns) opcodes

-- 2: of the opcodes in order, the captured pattern, and the identifications
abbrev pub pattern_refusal : PartAttributes → Option PlanRefusal
pattern_refusal plan =
    or_else (refuse_if (any_of_another_length plan.ir_len plan.opcodes) 2 InstructionOpcode)
    (or_else (refuse_if (wrong_length plan.ir_len plan.capture) 2 InstructionCapture)
    (or_else (refuse_if (wrong_option plan.idcode) 2 IdcodeRegister)
    (refuse_if (wrong_option plan.usercode) 2 UsercodeRegister)))

-- 3: the two lowest captured bits are 01
abbrev pub captures_01 : List Bool → Bool
captures_01 (true ∷ false ∷ bits) = true
captures_01 _ = false

-- 1 to 3
abbrev pub code_refusal : PartAttributes → Option PlanRefusal
code_refusal plan = or_else (length_refusal plan) (or_else (pattern_refusal plan) (refuse_if (not (captures_01 (bits_of_pattern plan.capture))) 3 InstructionCapture))

-- the length of a named register that is known
abbrev pub length_named : List NamedRegister → List ℕ → Option ℕ
length_named [] name = None
length_named (register ∷ registers) name = if same_name register.name name then Some register.length else length_named registers name

-- the length that a register has before an access: that of the standard, or of its first mention
abbrev pub known_length : PartAttributes → List NamedRegister → List ℕ → Option ℕ
known_length plan known name =
    if same_name name (codes "BYPASS") then Some 1 else
    (if same_name name (codes "BOUNDARY") then Some plan.boundary else
    (if same_name name (codes "DEVICE_ID") then Some 32 else length_named known name))

-- the lengths are both there, and are not the same
abbrev pub differs : Option ℕ → Option ℕ → Bool
differs (Some known) (Some length) = not (known == length)
differs _ _ = false

-- neither length is there
abbrev pub is_none_of : Option ℕ → Option ℕ → Bool
is_none_of None None = true
is_none_of _ _ = false

-- DEVICE_ID for another instruction than USERCODE, where there is no identification code
abbrev pub no_identification : Option (List Digit) → List ℕ → List (List ℕ) → Bool
no_identification None name instructions = same_name name (codes "DEVICE_ID") && list_any (λ instruction. not (same_name instruction (codes "USERCODE"))) instructions
no_identification (Some pattern) name instructions = false

-- a length of 0
abbrev pub is_zero : Option ℕ → Bool
is_zero None = false
is_zero (Some length) = length == 0

-- a length over 65,536
abbrev pub is_large : Option ℕ → Bool
is_large None = false
is_large (Some length) = nat_lt 65536 length

-- the refusal of one access: 4, 5, 6, 7, 9 in this order
abbrev pub access_refusal : PartAttributes → List NamedRegister → AccessEntry → Option PlanRefusal
access_refusal plan known access =
    or_else (refuse_if (differs (known_length plan known access.register) access.length) 4 RegisterAccess)
    (or_else (refuse_if (is_none_of (known_length plan known access.register) access.length || no_identification plan.idcode access.register access.instructions) 5 RegisterAccess)
    (or_else (refuse_if (is_zero access.length) 6 RegisterAccess)
    (or_else (refuse_if (is_large access.length) 7 RegisterAccess)
    (refuse_if (list_any (λ instruction. not (is_listed instruction (map (λ opcode. opcode.name) plan.opcodes))) access.instructions) 9 RegisterAccess))))

-- the first refusal of the accesses in order
abbrev pub accesses_refusal : PartAttributes → List NamedRegister → List AccessEntry → Option PlanRefusal
accesses_refusal plan known [] = None
accesses_refusal plan known (access ∷ rest) = or_else (access_refusal plan known access) (accesses_refusal plan (named_after known (access ∷ [])) rest)

-- 6 and 7 of the boundary register
abbrev pub boundary_refusal : PartAttributes → Option PlanRefusal
boundary_refusal plan = or_else (refuse_if (plan.boundary == 0) 6 BoundaryLength) (refuse_if (nat_lt 65536 plan.boundary) 7 BoundaryLength)

-- an opcode of a name
abbrev pub has_opcode : List OpcodeEntry → List ℕ → Bool
has_opcode opcodes name = list_any (λ opcode. same_name opcode.name name) opcodes

-- 5: IDCODE without an identification
abbrev pub opcode_refusal : Option (List Digit) → List OpcodeEntry → Option PlanRefusal
opcode_refusal None opcodes = refuse_if (has_opcode opcodes (codes "IDCODE")) 5 InstructionOpcode
opcode_refusal (Some pattern) opcodes = None

-- the lowest bit is 1, as that of every identification code is (IEEE 1149.1)
abbrev pub is_odd : List Bool → Bool
is_odd [] = false
is_odd (bit ∷ bits) = bit

-- the register is DEVICE_ID by IDCODE
abbrev pub selects_idcode : Register → Bool
selects_idcode Idcode = true
selects_idcode _ = false

-- 8: an identification code without IDCODE, whose lowest bit is not 1, or which the reset code does not select
abbrev pub identification_refusal : Option (List Digit) → PartAttributes → Option PlanRefusal
identification_refusal None plan = None
identification_refusal (Some pattern) plan =
    refuse_if (not (has_opcode plan.opcodes (codes "IDCODE")) || (not (is_odd (bits_of_pattern pattern)) || not (selects_idcode (selected (part_of plan) (part_of plan).reset_code)))) 8 IdcodeRegister

-- the refusal of a plan, the first in this order
abbrev pub plan_refusal : PartAttributes → Option PlanRefusal
plan_refusal plan =
    or_else (code_refusal plan)
    (or_else (accesses_refusal plan [] plan.access)
    (or_else (or_else (boundary_refusal plan) (opcode_refusal plan.idcode plan.opcodes))
    (identification_refusal plan.idcode plan)))

-- each opcode has a pattern
abbrev pub all_have_patterns : List OpcodeEntry → Bool
all_have_patterns opcodes = list_all (λ opcode. nat_lt 0 (length opcode.patterns)) opcodes

-- unless memory runs out, the answer is this refusal
abbrev pub RefusesAs : PartRefusal → Option PlanRefusal → Type 0
RefusesAs Memory refusal = Unit {0}
RefusesAs (Refused cause field) refusal = refusal ≡ refuse cause field

-- the device type of a plan that is not refused
pub record IsPart (part : DeviceType) : Type 0 where
  pub plan : PartAttributes
  pub accepted : plan_refusal plan ≡ None
  pub made : part ≡ part_of plan
