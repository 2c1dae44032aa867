-- Places in a text, and what stands between them.
use Rattle.std.specs.Prelude.{◌≡◌, ℕ, ◌+◌, ◌-◌, ◌<◌, ◌≤◌, true, List, ◌∷◌, length, take, drop}
use Rattle.std.specs.List.{list_all}
use Rattle.bsdl_lex.specs.Tokens.{in_word}
use Rattle.bsdl_read.specs.Contents.{is_short, number_from}
use Rattle.bsdl_read.specs.ContentGrammar.{are_spaces, is_name}

-- the bytes from one place up to another
abbrev pub between : List ℕ → ℕ → ℕ → List ℕ
between text start end = take (end - start) (drop start text)

-- blanks alone stand between the first two places
pub record AreBlanks (text : List ℕ) (start stop end : ℕ) : Type 0 where
  pub rises : start ≤ stop
  pub ends : stop ≤ end
  pub blank : are_spaces (between text start stop) ≡ true

-- a word stands between two places
pub record IsWord (text : List ℕ) (start stop : ℕ) : Type 0 where
  pub rises : start < stop
  pub ends : stop ≤ length text
  pub letters : list_all in_word (between text start stop) ≡ true
  pub has_name : is_name (between text start stop) ≡ true

-- the digits of a number stand between the first two places
pub record IsNumber (text : List ℕ) (start stop end value : ℕ) : Type 0 where
  pub rises : start < stop
  pub ends : stop ≤ end
  pub short : is_short (between text start stop) ≡ true
  pub is : value ≡ number_from 0 (between text start stop)

-- a sign stands at the first place
pub record HasSign (text : List ℕ) (sign start end : ℕ) : Type 0 where
  pub before : start < end
  pub is : between text start end ≡ sign ∷ between text (start + 1) end
