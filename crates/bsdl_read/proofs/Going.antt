-- Reading the tokens one after the other, as a loop does.
use Rattle.std.proofs.Common.{◌≡◌, ℕ, zero, suc, ◌≤◌, ◌<◌, List, [], ◌∷◌, length, take, drop, get_or, Result, subst, arith}
use Rattle.bsdl_lex.specs.declared.Token.{Token}
use Rattle.bsdl_lex.specs.Tokens.{SpansRise}
use Rattle.bsdl_read.specs.declared.structure.Seen.{Seen}
use Rattle.bsdl_read.specs.declared.structure.Fault.{Fault}
use Rattle.bsdl_read.specs.Words.{Lies}
use Rattle.bsdl_read.specs.Structure.{gone, Shallow}

pub record Going (text : List ℕ) (tokens : List Token) (index : ℕ) (seen : Seen) (total : Result Seen Fault) : Type 0 where
  pub within : index ≤ length tokens
  pub name : Lies text seen.name
  pub room : Shallow seen.stage index
  pub rest : gone text index seen (drop index tokens) ≡ total

rises_to : (from : ℕ) (tokens : List Token) (most : ℕ) → SpansRise from tokens most → from ≤ most
rises_to from [] most rises = rises
rises_to from (token ∷ tokens) most rises = omega (arith, rises.0, rises.1, rises_to token.end tokens most rises.2)

pub lies_at : (text : List ℕ) (from : ℕ) (tokens : List Token) (i : ℕ) (d : Token) → SpansRise from tokens (length text) → i < length tokens → Lies text (get_or tokens i d)
lies_at text from [] i d rises lt = absurd (omega (arith, lt))
lies_at text from (token ∷ tokens) zero d rises lt = record { rises = omega (arith, rises.1); ends = rises_to token.end tokens (length text) rises.2 }
lies_at text from (token ∷ tokens) (suc i) d rises lt = lies_at text token.end tokens i d rises.2 (omega (arith, lt))

-- a part of rising tokens rises
rises_sooner : (from less : ℕ) (tokens : List Token) (most : ℕ) → less ≤ from → SpansRise from tokens most → SpansRise less tokens most
rises_sooner from less [] most le rises = omega (arith, le, rises)
rises_sooner from less (token ∷ tokens) most le rises = (omega (arith, le, rises.0), rises.1, rises.2)

rises_behind : (from count : ℕ) (tokens : List Token) (most : ℕ) → SpansRise from tokens most → SpansRise 0 (drop count tokens) most
rises_behind from zero tokens most rises = rises_sooner from 0 tokens most (omega arith) rises
rises_behind from (suc count) [] most rises = omega arith
rises_behind from (suc count) (token ∷ tokens) most rises = rises_behind token.end count tokens most rises.2

rises_front : (from count : ℕ) (tokens : List Token) (most : ℕ) → SpansRise from tokens most → SpansRise from (take count tokens) most
rises_front from zero tokens most rises = rises_to from tokens most rises
rises_front from (suc count) [] most rises = rises
rises_front from (suc count) (token ∷ tokens) most rises = (rises.0, rises.1, rises_front token.end count tokens most rises.2)

pub rises_within : (count first : ℕ) (tokens : List Token) (most : ℕ) → SpansRise 0 tokens most → SpansRise 0 (take count (drop first tokens)) most
rises_within count first tokens most rises = rises_front 0 count (drop first tokens) most (rises_behind 0 first tokens most rises)

pub first_lies : (text : List ℕ) (tokens rest : List Token) (token : Token) → tokens ≡ token ∷ rest → SpansRise 0 tokens (length text) → Lies text token
first_lies text [] rest token are rises = absurd (cc are)
first_lies text (first ∷ tokens) rest token are rises =
    let same : first ≡ token = cc are in
    subst (λ (t : Token). Lies text t) same (record { rises = omega (arith, rises.1); ends = rises_to first.end tokens (length text) rises.2 })
