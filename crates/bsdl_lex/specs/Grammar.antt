-- The tokens of a BSDL text by their forms alone: a text is portions one behind the other, blanks and comments and tokens.
use Rattle.std.specs.Prelude.{◌≡◌, ℕ, zero, suc, ◌+◌, ◌≤◌, ◌<◌, Bool, true, false, ◌&&◌, ◌==◌, List, [], ◌∷◌, ◌++◌, length, ◌⊎◌}
use Rattle.std.specs.List.{list_all}
use Rattle.bsdl_lex.specs.declared.Token.{Token}
use Rattle.bsdl_lex.specs.declared.TokenKind.{TokenKind}
use Rattle.bsdl_lex.specs.declared.TokenKind.TheVariants.{Word, Number, Text, Sign}
use Rattle.bsdl_lex.specs.Tokens.{is_blank, is_letter, is_digit, is_visible, is_line_end, in_word, in_number, in_comment, in_text, is_exponent, is_plus_minus, starts}

-- bytes that all pass, before something that does not begin with one more
pub record Run (passes : ℕ → Bool) (bytes behind : List ℕ) : Type 0 where
  pub all : list_all passes bytes ≡ true
  pub ends : starts passes behind ≡ false

-- at least one of them
pub record Some (passes : ℕ → Bool) (bytes behind : List ℕ) : Type 0 where
  pub run : Run passes bytes behind
  pub any : starts passes bytes ≡ true

-- a `.` with a digit behind it
abbrev pub starts_fraction : List ℕ → Bool
starts_fraction [] = false
starts_fraction (byte ∷ behind) = (byte == 46) && starts is_digit behind

-- `.` and digits; none only where no `.` with a digit follows
abbrev pub IsFraction : List ℕ → List ℕ → Type 0
IsFraction [] behind = starts_fraction behind ≡ false
IsFraction (point ∷ digits) behind = (point ≡ 46) × Some is_digit digits behind

-- digits, perhaps behind `+` or `-`
abbrev pub IsPower : List ℕ → List ℕ → Type 0
IsPower [] behind = ⊥
IsPower (sign ∷ digits) behind = ((is_plus_minus sign ≡ true) × Some is_digit digits behind) ⊎ Some is_digit (sign ∷ digits) behind

-- `e` or `E`, and its power; none only where no such letter follows
abbrev pub IsExponent : List ℕ → List ℕ → Type 0
IsExponent [] behind = starts is_exponent behind ≡ false
IsExponent (letter ∷ power) behind = (is_exponent letter ≡ true) × IsPower power behind

-- a digit, digits and `_`, a fraction and an exponent; neither a letter nor `_` follows
pub record IsNumber (bytes behind : List ℕ) : Type 0 where
  pub digit : ℕ
  pub whole : List ℕ
  pub fraction : List ℕ
  pub exponent : List ℕ
  pub are : bytes ≡ digit ∷ whole ++ (fraction ++ exponent)
  pub is_first : is_digit digit ≡ true
  pub is_whole : Run in_number whole (fraction ++ (exponent ++ behind))
  pub is_fraction : IsFraction fraction (exponent ++ behind)
  pub has_exponent : IsExponent exponent behind
  pub ends : starts in_word behind ≡ false

-- a letter, then letters, digits and `_`, as many as stand there
abbrev pub IsWord : List ℕ → List ℕ → Type 0
IsWord [] behind = ⊥
IsWord (first ∷ more) behind = (is_letter first ≡ true) × Run in_word more behind

-- what stands between two `"`
pub record IsText (bytes : List ℕ) : Type 0 where
  pub inside : List ℕ
  pub are : bytes ≡ 34 ∷ inside ++ 34 ∷ []
  pub all : list_all in_text inside ≡ true

-- two dashes, and all up to the end of the line
pub record IsComment (bytes behind : List ℕ) : Type 0 where
  pub body : List ℕ
  pub are : bytes ≡ 45 ∷ 45 ∷ body
  pub is_body : Run in_comment body behind

-- any other single visible byte: it begins no word, no number, no text and no comment
pub record IsSign (byte : ℕ) (behind : List ℕ) : Type 0 where
  pub is_visible : is_visible byte ≡ true
  pub no_letter : is_letter byte ≡ false
  pub no_digit : is_digit byte ≡ false
  pub no_quote : (byte == 34) ≡ false
  pub no_comment : ((byte == 45) && starts (λ next. next == 45) behind) ≡ false

abbrev pub OneSign : List ℕ → List ℕ → Type 0
OneSign (byte ∷ []) behind = IsSign byte behind
OneSign _ behind = ⊥

abbrev pub IsToken : TokenKind → List ℕ → List ℕ → Type 0
IsToken Word bytes behind = IsWord bytes behind
IsToken Number bytes behind = IsNumber bytes behind
IsToken Text bytes behind = IsText bytes
IsToken Sign bytes behind = OneSign bytes behind

-- a portion of a text
pub data Portion : Type 0 where
  Blank : (byte : ℕ) → Portion
  Comment : (bytes : List ℕ) → Portion
  Spelled : (kind : TokenKind) (bytes : List ℕ) → Portion

abbrev pub bytes_of : Portion → List ℕ
bytes_of (Portion.Blank byte) = byte ∷ []
bytes_of (Portion.Comment bytes) = bytes
bytes_of (Portion.Spelled kind bytes) = bytes

-- a portion has its form, before what stands behind it
abbrev pub HasForm : Portion → List ℕ → Type 0
HasForm (Portion.Blank byte) behind = is_blank byte ≡ true
HasForm (Portion.Comment bytes) behind = IsComment bytes behind
HasForm (Portion.Spelled kind bytes) behind = IsToken kind bytes behind

-- portions one behind the other, before what stands behind them
abbrev pub written : List Portion → List ℕ → List ℕ
written [] behind = behind
written (portion ∷ portions) behind = bytes_of portion ++ written portions behind

abbrev pub HaveForms : List Portion → List ℕ → Type 0
HaveForms [] behind = Unit {0}
HaveForms (portion ∷ portions) behind = HasForm portion (written portions behind) × HaveForms portions behind

-- the tokens among them, from a place on
abbrev pub tokens_among : ℕ → List Portion → List Token
tokens_among at [] = []
tokens_among at (Portion.Blank byte ∷ portions) = tokens_among (at + 1) portions
tokens_among at (Portion.Comment bytes ∷ portions) = tokens_among (at + length bytes) portions
tokens_among at (Portion.Spelled kind bytes ∷ portions) = record { kind = kind; start = at; end = at + length bytes } ∷ tokens_among (at + length bytes) portions

-- the text from a place on is portions of these forms, and has these tokens
pub record HasTokens (at : ℕ) (text : List ℕ) (tokens : List Token) : Type 0 where
  pub portions : List Portion
  pub are : text ≡ written portions []
  pub forms : HaveForms portions []
  pub found : tokens ≡ tokens_among at portions

-- ---- what cannot be read

-- a byte that is no blank and not visible
pub record BadByte (text : List ℕ) : Type 0 where
  pub byte : ℕ
  pub behind : List ℕ
  pub are : text ≡ byte ∷ behind
  pub no_blank : is_blank byte ≡ false
  pub no_visible : is_visible byte ≡ false

-- such a byte behind an opening `"`, so many bytes ahead
pub record BadInside (ahead : ℕ) (text : List ℕ) : Type 0 where
  pub inside : List ℕ
  pub byte : ℕ
  pub behind : List ℕ
  pub are : text ≡ 34 ∷ inside ++ byte ∷ behind
  pub all : list_all in_text inside ≡ true
  pub no_text : in_text byte ≡ false
  pub no_quote : (byte == 34) ≡ false
  pub no_end : is_line_end byte ≡ false
  pub far : ahead ≡ suc (length inside)

abbrev pub ends_line : List ℕ → Bool
ends_line [] = true
ends_line (byte ∷ behind) = is_line_end byte

-- a `"` that its line does not close
pub record Unclosed (text : List ℕ) : Type 0 where
  pub inside : List ℕ
  pub behind : List ℕ
  pub are : text ≡ 34 ∷ inside ++ behind
  pub all : list_all in_text inside ≡ true
  pub ends : ends_line behind ≡ true

-- perhaps `+` or `-`, and then no digit
abbrev pub NoDigit : List ℕ → Type 0
NoDigit [] = Unit {0}
NoDigit (byte ∷ behind) = ((is_plus_minus byte ≡ true) × (starts is_digit behind ≡ false)) ⊎ ((is_plus_minus byte ≡ false) × (is_digit byte ≡ false))

-- `e` or `E` without a digit
pub record NoPower (text : List ℕ) : Type 0 where
  pub letter : ℕ
  pub behind : List ℕ
  pub are : text ≡ letter ∷ behind
  pub is_letter : is_exponent letter ≡ true
  pub no_digit : NoDigit behind

-- an exponent, or none, and then a letter or `_`
pub record RunsOn (text : List ℕ) : Type 0 where
  pub exponent : List ℕ
  pub behind : List ℕ
  pub are : text ≡ exponent ++ behind
  pub has_exponent : IsExponent exponent behind
  pub goes_on : starts in_word behind ≡ true

pub record BadNumber (text : List ℕ) : Type 0 where
  pub digit : ℕ
  pub whole : List ℕ
  pub fraction : List ℕ
  pub behind : List ℕ
  pub are : text ≡ digit ∷ whole ++ (fraction ++ behind)
  pub is_first : is_digit digit ≡ true
  pub is_whole : Run in_number whole (fraction ++ behind)
  pub is_fraction : IsFraction fraction behind
  pub is_bad : NoPower behind ⊎ RunsOn behind

-- the front of a text is refused, so many bytes ahead, for a cause
abbrev pub IsBad : ℕ → ℕ → List ℕ → Type 0
IsBad ahead (suc zero) text = ((ahead ≡ 0) × BadByte text) ⊎ BadInside ahead text
IsBad ahead (suc (suc zero)) text = (ahead ≡ 0) × Unclosed text
IsBad ahead (suc (suc (suc zero))) text = (ahead ≡ 0) × BadNumber text
IsBad ahead _ text = ⊥

-- how many bytes portions have
abbrev pub extent : List Portion → ℕ
extent [] = 0
extent (portion ∷ portions) = length (bytes_of portion) + extent portions

-- the text from a place on is portions of these forms, and what is behind them is refused
pub record HasRefusal (at : ℕ) (text : List ℕ) (place cause : ℕ) : Type 0 where
  pub portions : List Portion
  pub behind : List ℕ
  pub ahead : ℕ
  pub are : text ≡ written portions behind
  pub forms : HaveForms portions behind
  pub is_bad : IsBad ahead cause behind
  pub found : place ≡ at + extent portions + ahead

-- a text has these tokens
pub record IsLexed (text : List ℕ) (tokens : List Token) : Type 0 where
  pub fits : length text ≤ 4194304
  pub has : HasTokens 0 text tokens

-- a text is refused at a place for a cause: first where it is too long
abbrev pub IsRefused : List ℕ → ℕ → ℕ → Type 0
IsRefused text place cause = ((4194304 < length text) × (place ≡ 4194304) × (cause ≡ 4)) ⊎ ((length text ≤ 4194304) × HasRefusal 0 text place cause)
