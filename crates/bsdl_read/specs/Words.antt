-- Words, signs and names among the tokens of a BSDL text.
use Rattle.std.specs.Prelude.{ℕ, ◌-◌, ◌≤◌, Bool, true, false, not, ◌&&◌, ◌==◌, nat_lt, List, [], ◌∷◌, take, drop, length, if◌then◌else◌, codes}
use Rattle.std.specs.declared.option.Option.{Option}
use Rattle.std.specs.declared.option.Option.TheVariants.{Some, None}
use Rattle.bsdl_lex.specs.declared.Token.{Token}
use Rattle.bsdl_lex.specs.declared.TokenKind.{TokenKind}
use Rattle.bsdl_lex.specs.declared.TokenKind.TheVariants.{Word, Number, Text, Sign}
use Rattle.part_model.specs.declared.Field.{Field}
use Rattle.part_model.specs.declared.Field.TheVariants.{InstructionLength, InstructionOpcode, InstructionCapture, IdcodeRegister, UsercodeRegister, RegisterAccess, BoundaryLength}

abbrev pub spelled : List ℕ → Token → List ℕ
spelled text token = take (token.end - token.start) (drop token.start text)

abbrev pub capital : ℕ → ℕ
capital byte = if not (nat_lt byte 97) && not (nat_lt 122 byte) then byte - 32 else byte

-- equal words: case counts for nothing
abbrev pub same_word : List ℕ → List ℕ → Bool
same_word [] [] = true
same_word (x ∷ xs) (y ∷ ys) = (capital x == capital y) && same_word xs ys
same_word _ _ = false

abbrev pub is_kind : TokenKind → TokenKind → Bool
is_kind Word Word = true
is_kind Number Number = true
is_kind Text Text = true
is_kind Sign Sign = true
is_kind _ _ = false

abbrev pub is_word : List ℕ → Token → List ℕ → Bool
is_word text token word = is_kind token.kind Word && same_word (spelled text token) word

abbrev pub is_sign : List ℕ → Token → ℕ → Bool
is_sign text token byte = is_kind token.kind Sign && same_word (spelled text token) (byte ∷ [])

-- the attribute of a token's name
abbrev pub field_of : List ℕ → Token → Option Field
field_of text token =
    if is_word text token (codes "INSTRUCTION_LENGTH") then Some InstructionLength else
    (if is_word text token (codes "INSTRUCTION_OPCODE") then Some InstructionOpcode else
    (if is_word text token (codes "INSTRUCTION_CAPTURE") then Some InstructionCapture else
    (if is_word text token (codes "IDCODE_REGISTER") then Some IdcodeRegister else
    (if is_word text token (codes "USERCODE_REGISTER") then Some UsercodeRegister else
    (if is_word text token (codes "REGISTER_ACCESS") then Some RegisterAccess else
    (if is_word text token (codes "BOUNDARY_LENGTH") then Some BoundaryLength else None))))))

-- what the VALUE of an attribute is made of
abbrev pub value_kind : Field → TokenKind
value_kind InstructionLength = Number
value_kind BoundaryLength = Number
value_kind _ = Text

-- a token lies within its text
pub record Lies (text : List ℕ) (token : Token) : Type 0 where
  pub rises : token.start ≤ token.end
  pub ends : token.end ≤ length text
