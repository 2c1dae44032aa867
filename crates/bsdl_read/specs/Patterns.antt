-- The contents of INSTRUCTION_CAPTURE, IDCODE_REGISTER and USERCODE_REGISTER: one pattern, or several joined by `,`, of which the
-- first counts; blanks inside are ignored.
use Rattle.std.specs.Prelude.{ℕ, Bool, true, false, ◌&&◌, ◌==◌, nat_lt, length, List, [], ◌∷◌, ◌++◌, reverse, if◌then◌else◌, Result, Ok, Err}
use Rattle.bsdl_lex.specs.declared.Token.{Token}
use Rattle.part_model.specs.declared.Digit.{Digit}
use Rattle.bsdl_read.specs.Contents.{and_then, is_space, is_pattern_digit, digit_of, through_all}
use Rattle.bsdl_read.specs.declared.patterns.PatternStage.{PatternStage}
use Rattle.bsdl_read.specs.declared.patterns.PatternStage.TheVariants as stage
use Rattle.bsdl_read.specs.declared.patterns.PatternReading.{PatternReading}

-- whether several may stand there, and the digits of the first
pub record Digits : Type 0 where
  pub many : Bool
  pub stage : PatternStage
  pub digits : List Digit

abbrev pub at_stage : Digits → PatternStage → Digits
at_stage d next = record d { stage = next }

abbrev pub with_digit : Digits → ℕ → Digits
with_digit d byte = record d { digits = d.digits ++ digit_of byte ∷ [] }

-- a `,` may stand here: several patterns may, and this one has a digit
abbrev pub may_join : PatternStage → Digits → Bool
may_join stage.First d = d.many && nat_lt 0 (length d.digits)
may_join (stage.Later some) d = some

abbrev pub digit_at : PatternStage → Digits → ℕ → Digits
digit_at stage.First d byte = with_digit d byte
digit_at (stage.Later some) d byte = at_stage d (stage.Later true)

abbrev pub next_byte : Digits → ℕ → Result Digits ℕ
next_byte d byte =
    if is_space byte then Ok d else
    (if is_pattern_digit byte then Ok (digit_at d.stage d byte) else
    (if (byte == 44) && may_join d.stage d then Ok (at_stage d (stage.Later false)) else Err 8))

-- the last pattern has a digit
abbrev pub is_closed : PatternStage → Digits → Bool
is_closed stage.First d = nat_lt 0 (length d.digits)
is_closed (stage.Later some) d = some

abbrev pub closed : Digits → Result (List Digit) ℕ
closed d = if is_closed d.stage d then Ok (reverse d.digits) else Err 8

abbrev pub no_digits : Bool → Digits
no_digits many = record { many = many; stage = stage.First; digits = [] }

-- the pattern of the tokens of a VALUE, its rightmost digit the lowest, or cause 8
abbrev pub pattern : Bool → List ℕ → List Token → Result (List Digit) ℕ
pattern many text tokens = and_then (through_all next_byte text (no_digits many) tokens) closed

-- what the code keeps
abbrev pub view : PatternReading → Digits
view r = record { many = r.many; stage = r.stage; digits = r.digits.items }
