-- The structure of a BSDL file: which tokens may follow which, and the first that may not.
use Rattle.std.specs.Prelude.{◌≡◌, ℕ, suc, ◌+◌, ◌-◌, Bool, true, false, not, ◌&&◌, ◌==◌, List, [], ◌∷◌, length, ◌≤◌, if◌then◌else◌, Result, Ok, Err, codes}
use Rattle.std.specs.declared.option.Option.{Option}
use Rattle.std.specs.declared.option.Option.TheVariants.{Some, None}
use Rattle.std.specs.Option.{is_none, is_some}
use Rattle.bsdl_lex.specs.declared.Token.{Token}
use Rattle.bsdl_lex.specs.declared.TokenKind.TheVariants.{Word, Text}
use Rattle.part_model.specs.declared.Field.{Field}
use Rattle.part_model.specs.declared.Field.TheVariants.{InstructionLength, InstructionOpcode, InstructionCapture, IdcodeRegister, UsercodeRegister, RegisterAccess, BoundaryLength}
use Rattle.bsdl_read.specs.declared.structure.Stage.{Stage}
use Rattle.bsdl_read.specs.declared.structure.Stage.TheVariants as stage
use Rattle.bsdl_read.specs.declared.structure.Value.{Value}
use Rattle.bsdl_read.specs.declared.structure.Values.{Values}
use Rattle.bsdl_read.specs.declared.structure.Seen.{Seen}
use Rattle.bsdl_read.specs.declared.structure.Fault.{Fault}
use Rattle.bsdl_read.specs.Words.{spelled, is_kind, is_word, is_sign, field_of, value_kind}

abbrev pub value_of : Values → Field → Option Value
value_of values InstructionLength = values.ir_length
value_of values InstructionOpcode = values.opcodes
value_of values InstructionCapture = values.capture
value_of values IdcodeRegister = values.idcode
value_of values UsercodeRegister = values.usercode
value_of values RegisterAccess = values.access
value_of values BoundaryLength = values.boundary

abbrev pub with_value : Values → Field → Value → Values
with_value values InstructionLength value = record values { ir_length = Some value }
with_value values InstructionOpcode value = record values { opcodes = Some value }
with_value values InstructionCapture value = record values { capture = Some value }
with_value values IdcodeRegister value = record values { idcode = Some value }
with_value values UsercodeRegister value = record values { usercode = Some value }
with_value values RegisterAccess value = record values { access = Some value }
with_value values BoundaryLength value = record values { boundary = Some value }

-- ---- what may follow

-- a token that is allowed leads on, and any other is the refusal
abbrev pub go : Bool → ℕ → Token → Seen → Result Seen Fault
go true cause token seen = Ok seen
go false cause token seen = Err (record { at = token.start; cause = cause })

abbrev pub to : Seen → Stage → Seen
to seen next = record seen { stage = next }

-- inside an item that is passed over: `(` and `)` in pairs, and `;` outside them ends it
abbrev pub passed : List ℕ → Token → Seen → ℕ → Result Seen Fault
passed text token seen depth =
    if is_sign text token 40 then Ok (to seen (stage.Passed (depth + 1))) else
    (if is_sign text token 41 then go (not (depth == 0)) 5 token (to seen (stage.Passed (depth - 1))) else
    (if is_sign text token 59 && (depth == 0) then Ok (to seen stage.Item) else Ok (to seen (stage.Passed depth))))

-- an item begins, or the end
abbrev pub item : List ℕ → Token → Seen → Result Seen Fault
item text token seen =
    if is_word text token (codes "END") then Ok (record seen { stage = stage.EndName; end = token.start }) else
    (if is_word text token (codes "ATTRIBUTE") then Ok (to seen stage.Attribute) else
    go (is_kind token.kind Word) 5 token (to seen (stage.Passed 0)))

-- behind `attribute`: one of the seven names, for the first time, or an item that is passed over
abbrev pub attribute : List ℕ → Token → Seen → Option Field → Result Seen Fault
attribute text token seen (Some field) = go (is_none (value_of seen.values field)) 7 token (to seen (stage.Of field))
attribute text token seen None = passed text token seen 0

-- a part of a VALUE: a Number stands alone, and texts are joined by `&`
abbrev pub part : Token → Seen → Field → Value → Result Seen Fault
part token seen field new = go (is_kind token.kind (value_kind field)) 8 token (record seen { stage = stage.Joined field; values = with_value seen.values field new })

-- the same VALUE with one more token
abbrev pub extended : Option Value → ℕ → Value
extended None behind = record { at = 0; first = 0; behind = behind }
extended (Some old) behind = record old { behind = behind }

abbrev pub joined : List ℕ → Token → Seen → Field → Result Seen Fault
joined text token seen field =
    if is_sign text token 38 && is_kind (value_kind field) Text then Ok (to seen (stage.Part field)) else
    go (is_sign text token 59) 8 token (to seen stage.Item)

-- the stages in their order
abbrev pub next_from : Stage → List ℕ → Token → ℕ → Seen → Result Seen Fault
next_from stage.Entity text token i seen = go (is_word text token (codes "ENTITY")) 5 token (to seen stage.Name)
next_from stage.Name text token i seen = go (is_kind token.kind Word) 5 token (record seen { stage = stage.Is; name = token })
next_from stage.Is text token i seen = go (is_word text token (codes "IS")) 5 token (to seen stage.Item)
next_from stage.Item text token i seen = item text token seen
next_from stage.Attribute text token i seen = attribute text token seen (field_of text token)
next_from (stage.Passed depth) text token i seen = passed text token seen depth
next_from (stage.Of field) text token i seen = go (is_word text token (codes "OF")) 8 token (to seen (stage.Owner field))
next_from (stage.Owner field) text token i seen = go (is_word text token (spelled text seen.name)) 8 token (to seen (stage.Colon field))
next_from (stage.Colon field) text token i seen = go (is_sign text token 58) 8 token (to seen (stage.Kind field))
next_from (stage.Kind field) text token i seen = go (is_word text token (codes "ENTITY")) 8 token (to seen (stage.Has field))
next_from (stage.Has field) text token i seen = go (is_word text token (codes "IS")) 8 token (to seen (stage.First field))
next_from (stage.First field) text token i seen = part token seen field (record { at = token.start; first = i; behind = i + 1 })
next_from (stage.Joined field) text token i seen = joined text token seen field
next_from (stage.Part field) text token i seen = part token seen field (extended (value_of seen.values field) (i + 1))
next_from stage.EndName text token i seen = go (is_word text token (spelled text seen.name)) 5 token (to seen stage.EndSign)
next_from stage.EndSign text token i seen = go (is_sign text token 59) 5 token (to seen stage.Done)
next_from stage.Done text token i seen = go false 5 token seen

abbrev pub next : List ℕ → Seen → Token → ℕ → Result Seen Fault
next text seen token i = next_from seen.stage text token i seen

abbrev pub and_then : {A B : Type 0} → Result A Fault → (A → Result B Fault) → Result B Fault
and_then (Ok x) more = more x
and_then (Err fault) more = Err fault

-- the tokens from number i on
abbrev pub gone : List ℕ → ℕ → Seen → List Token → Result Seen Fault
gone text i seen [] = Ok seen
gone text i seen (token ∷ tokens) = and_then (next text seen token i) (λ after. gone text (suc i) after tokens)

-- all tokens were read: the file is whole, and its required attributes stand there
abbrev pub is_done : Stage → Bool
is_done stage.Done = true
is_done _ = false

abbrev pub is_whole : Values → Bool
is_whole values = is_some values.ir_length && (is_some values.opcodes && (is_some values.capture && is_some values.boundary))

abbrev pub finished : List ℕ → Seen → Result Seen Fault
finished text seen =
    if not (is_done seen.stage) then Err (record { at = length text; cause = 5 }) else
    (if not (is_whole seen.values) then Err (record { at = seen.end; cause = 6 }) else Ok seen)

abbrev pub nothing : Seen
nothing = record { stage = stage.Entity; name = record { kind = Word; start = 0; end = 0 }; end = 0; values = record { ir_length = None; opcodes = None; capture = None; idcode = None; usercode = None; access = None; boundary = None } }

-- the structure of the tokens of a text, or its first refusal
abbrev pub structure : List ℕ → List Token → Result Seen Fault
structure text tokens = and_then (gone text 0 nothing tokens) (finished text)

-- within parentheses no deeper than so many
abbrev pub Shallow : Stage → ℕ → Type 0
Shallow (stage.Passed depth) most = depth ≤ most
Shallow _ most = Unit {0}

-- within an item that is read
abbrev pub is_read : Stage → Type 0
is_read (stage.Of field) = Unit {0}
is_read (stage.Owner field) = Unit {0}
is_read (stage.Colon field) = Unit {0}
is_read (stage.Kind field) = Unit {0}
is_read (stage.Has field) = Unit {0}
is_read (stage.First field) = Unit {0}
is_read (stage.Joined field) = Unit {0}
is_read (stage.Part field) = Unit {0}
is_read _ = ⊥

-- what the code answers: the state after a step, or the refusal
abbrev pub Steps : Seen → Result (Unit {0}) Fault → Result Seen Fault → Type 0
Steps after (Ok u) read = read ≡ Ok after
Steps after (Err fault) read = read ≡ Err fault
