-- What is read is what the forms say.
use Rattle.std.proofs.Common.{◌≡◌, ◌⊎◌, inl, inr, ℕ, ◌<◌, ◌≤◌, nat_lt, List, length, Result, Ok, Err, refl, sym, ap, ◌∙◌, arith}
use Rattle.std.proofs.lemmas.Bool.{ltb-true, ltb-false, lt-ltb, le-ltb}
use Rattle.bsdl_lex.specs.declared.Token.{Token}
use Rattle.bsdl_lex.specs.Tokens.{LexFault, lexed, lexed_from}
use Rattle.bsdl_lex.specs.Grammar.{IsLexed, IsRefused}
use Rattle.bsdl_lex.specs.Laws.{TokensHaveForms, RefusalsHaveForms, HasSome, HasNone, OneOfBoth, NeverBoth}
use Rattle.bsdl_lex.proofs.Forms.{chosen}
use Rattle.bsdl_lex.proofs.Sound.{fault_of, read_within, fails_within}
use Rattle.bsdl_lex.proofs.Refusals.{tokens_read, refusal_read}

within_limit : (text : List ℕ) → length text ≤ 4194304 → lexed text ≡ lexed_from 0 0 text
within_limit text le = let e = le-ltb 4194304 (length text) le in rw e refl

beyond_limit : (text : List ℕ) → 4194304 < length text → lexed text ≡ Err (record { at = 4194304; cause = 4 })
beyond_limit text lt = let e = lt-ltb 4194304 (length text) lt in rw e refl

has_forms : (text : List ℕ) (tokens : List Token) → lexed text ≡ Ok tokens → IsLexed text tokens
has_forms text tokens is = elim (chosen (nat_lt 4194304 (length text)) _ _ _ is) [
  | inl long ↦ absurd (cc long.1)
  | inr short ↦ record { fits = ltb-false 4194304 (length text) short.0; has = read_within (length text) 0 text tokens (omega arith) short.1 }
]

pub tokens_have_forms : TokensHaveForms
tokens_have_forms text tokens = (has_forms text tokens, λ h. within_limit text h.fits ∙ tokens_read text tokens h.has)

is_refused : (text : List ℕ) (at cause : ℕ) → lexed text ≡ Err (record { at = at; cause = cause }) → IsRefused text at cause
is_refused text at cause is = elim (chosen (nat_lt 4194304 (length text)) _ _ _ is) [
  | inl long ↦ inl (ltb-true 4194304 (length text) long.0, sym (ap (λ r. (fault_of r).at) long.1), sym (ap (λ r. (fault_of r).cause) long.1))
  | inr short ↦ inr (ltb-false 4194304 (length text) short.0, fails_within (length text) 0 text at cause (omega arith) short.1)
]

refuses : (text : List ℕ) (at cause : ℕ) → IsRefused text at cause → lexed text ≡ Err (record { at = at; cause = cause })
refuses text at cause (inl long) = rw (long.1, long.2) (beyond_limit text long.0)
refuses text at cause (inr short) = within_limit text short.0 ∙ refusal_read text at cause short.1

pub refusals_have_forms : RefusalsHaveForms
refusals_have_forms text at cause = (is_refused text at cause, refuses text at cause)

one_of : (text : List ℕ) (read : Result (List Token) LexFault) → lexed text ≡ read → HasSome text ⊎ HasNone text
one_of text (Ok tokens) is = inl (record { tokens = tokens; are = has_forms text tokens is })
one_of text (Err fault) is = inr (record { at = fault.at; cause = fault.cause; is = is_refused text fault.at fault.cause is })

pub one_of_both : OneOfBoth
one_of_both text = one_of text (lexed text) refl

pub never_both : NeverBoth
never_both text some none =
    let a = (tokens_have_forms text some.tokens).1 some.are in
    let b = refuses text none.at none.cause none.is in
    cc (sym a ∙ b)
