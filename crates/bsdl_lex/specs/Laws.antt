-- What is read is what the forms say, for every text.
use Rattle.std.specs.Prelude.{◌≡◌, ◌↔◌, ◌⊎◌, ℕ, List, Ok, Err}
use Rattle.bsdl_lex.specs.declared.Token.{Token}
use Rattle.bsdl_lex.specs.Tokens.{lexed}
use Rattle.bsdl_lex.specs.Grammar.{IsLexed, IsRefused}

-- a text is read as these tokens exactly where it has them by its forms
abbrev pub TokensHaveForms : Type 0
TokensHaveForms = (text : List ℕ) (tokens : List Token) → (lexed text ≡ Ok tokens) ↔ IsLexed text tokens

-- a text is refused exactly where its forms say so
abbrev pub RefusalsHaveForms : Type 0
RefusalsHaveForms = (text : List ℕ) (at cause : ℕ) → (lexed text ≡ Err (record { at = at; cause = cause })) ↔ IsRefused text at cause

-- a text has tokens
pub record HasSome (text : List ℕ) : Type 0 where
  pub tokens : List Token
  pub are : IsLexed text tokens

-- a text has a refusal
pub record HasNone (text : List ℕ) : Type 0 where
  pub at : ℕ
  pub cause : ℕ
  pub is : IsRefused text at cause

-- a text has tokens or a refusal
abbrev pub OneOfBoth : Type 0
OneOfBoth = (text : List ℕ) → HasSome text ⊎ HasNone text

-- no text has both
abbrev pub NeverBoth : Type 0
NeverBoth = (text : List ℕ) → HasSome text → HasNone text → ⊥
