-- What a token says: who holds the chain and who waits for it.
use Rattle.std.specs.Prelude.{ℕ, ◌≡◌, true, false, List}
use Rattle.std.specs.declared.option.Option.{Option}
use Rattle.std.specs.declared.option.Option.TheVariants.{None, Some}
use Rattle.chain_token.specs.declared.token.Side.{Side}
use Rattle.chain_token.specs.declared.token.Side.TheVariants.{Free, Held}
use Rattle.chain_token.specs.declared.token.Token.{Token}
use Rattle.chain_token.specs.declared.token.Asked.{Asked}
use Rattle.chain_token.specs.declared.token.Asked.TheVariants.{Yours, Wait}
use Rattle.chain_token.specs.Waiting.{with_waiting, without, may_open}

-- the grant that holds the chain
abbrev pub holder_of : {P O : Type 0} → Side P O → Option ℕ
holder_of (Free parked) = None
holder_of (Held scan grant) = Some grant

abbrev pub holder : {P O : Type 0} → Token P O → Option ℕ
holder token = holder_of token.side

-- the grants that wait, the first to be served first
abbrev pub waiting : {P O : Type 0} → Token P O → List ℕ
waiting token = token.queue

-- what a grant that asks for the chain is answered: the chain, if it may open a scan; or else it waits, and nothing else changes
abbrev pub Answers : {P O : Type 0} → Token P O → ℕ → Asked P O → Type 0
Answers token grant (Yours parked queue) = (may_open (holder token) (waiting token) grant ≡ true) × (token.side ≡ Free parked) × (queue ≡ without grant (waiting token))
Answers token grant (Wait next) = (may_open (holder token) (waiting token) grant ≡ false) × (next.side ≡ token.side) × (waiting next ≡ with_waiting grant (waiting token))
