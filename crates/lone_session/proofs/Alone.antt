-- A grant that nobody else is beside at the desk: it stays so, and never waits. Each piece of its bytes counts.
use Rattle.std.proofs.Common.{◌≡◌, ◌≢◌, ◌==◌, ◌≤◌, ◌+◌, ◌-◌, ℕ, Bool, true, false, not, cond, List, [], ◌∷◌, ◌++◌, length, nat_le, refl, ap, sym, ◌∙◌, subst, arith, inl, inr, Some, None}
use Rattle.std.specs.Prelude.{IfSome}
use Rattle.std.specs.declared.option.Option.{Option}
use Rattle.std.proofs.lemmas.Bool.{eq-eqb, eqb-true}
use Rattle.std.proofs.Math.Nat.{min-le_right}
use Rattle.chain_token.specs.declared.token.Token.{Token}
use Rattle.chain_token.specs.Tokens.{holder, holder_of, waiting}
use Rattle.chain_token.specs.Waiting.{may_open, without}
use Rattle.scan_share.specs.Views.{ParkedView, OpenView}
use Rattle.client_session.specs.declared.Stop.{Stop}
use Rattle.client_session.specs.Seats.{most_bytes}
use Rattle.client_session.specs.Turns.{is_holder}
use Rattle.client_session.specs.Sessions.{SessionView, view_taken, view_wants, wanted_by}
use Rattle.client_session.specs.Desks.{IsBlocked, KeepsOthers}
use Rattle.client_session.specs.Calls.{TakesOn}
use Rattle.bitbang_frame.specs.declared.Letter.{Letter}
use Rattle.bitbang_frame.specs.declared.Letter.TheVariants as letters
use Rattle.bitbang_frame.specs.Letters.{letter}
use Rattle.grant_table.specs.declared.Protocol.{Protocol}
use Rattle.grant_table.specs.declared.Protocol.TheVariants as protocols
use Rattle.xvc_frame.specs.Messages.{front, refused}
use Rattle.client_session.specs.declared.End.{End}
use Rattle.client_session.specs.declared.End.TheVariants as ends
use Rattle.client_session.specs.Seats.{Next, next_xvc}
use Rattle.client_session.specs.Seats.Next.{Whole, RefusedAt, Nothing}
use Rattle.client_session.specs.Calls.{stop_by}
use Rattle.client_session.specs.Ends.{StopsBy, bytes_end, letter_end, letters_end, next_end, used_stop, view_end}
use Rattle.lone_session.specs.Serving.{IsAlone, MayEnd}
use Rattle.lone_session.specs.Steps.{EndsItself, NeverWaits, TakesMore}

-- an end that no drop is
abbrev IsOwn : End → Type 0
IsOwn end = (rest : Option (List ℕ)) → MayEnd end rest

never : {A : Type 0} → false ≡ true → A
never e = absurd (let q : false ≡ true = e in cc)

never_blocked : (grant : ℕ) (held : Option ℕ) (waits : List ℕ) → IfSome held (λ other. other ≡ grant) → without grant waits ≡ [] → is_holder held grant ≡ false → may_open held waits grant ≡ false → ⊥
never_blocked grant (Some other) waits mine line holds opens = never (sym holds ∙ eq-eqb other grant mine)
never_blocked grant None [] mine line holds opens = never (sym opens)
never_blocked grant None (first ∷ rest) mine line holds opens = absurd (let q : first ∷ without grant rest ≡ [] = sym (stays (first == grant) opens) ∙ line in cc)
  where
    stays : (t : Bool) → t ≡ false → cond (not t) (first ∷ without grant rest) (without grant rest) ≡ first ∷ without grant rest
    stays true e = never (sym e)
    stays false e = refl

module _ {C : Type 0} (grant : ℕ) where
  held_kept : (desk next : Token (ParkedView C) (OpenView C)) → KeepsOthers grant desk next → IsAlone grant desk → (held : Option ℕ) → holder next ≡ held → IfSome held (λ other. other ≡ grant)
  held_kept desk next kept alone None is = tt
  held_kept desk next kept alone (Some other) is = by (other == grant) refl
    where
      by : (t : Bool) → (other == grant) ≡ t → other ≡ grant
      by true e = eqb-true other grant e
      by false e =
          let another : other ≢ grant = λ same. never (sym e ∙ eq-eqb other grant same) in
          let held : holder desk ≡ Some other = ap holder_of (sym (kept.gained other is another)) ∙ is in
          subst (λ h. IfSome h (λ o. o ≡ grant)) held alone.held

  pub alone_kept : (desk next : Token (ParkedView C) (OpenView C)) → KeepsOthers grant desk next → IsAlone grant desk → IsAlone grant next
  alone_kept desk next kept alone = record { held = held_kept desk next kept alone (holder next) refl; line = kept.line ∙ alone.line }

  pub never_waits : (desk : Token (ParkedView C) (OpenView C)) (stop : Stop) → IsAlone grant desk → (stop ≡ Stop.Waits → IsBlocked grant desk) → NeverWaits stop
  never_waits desk Stop.Done alone blocked = tt
  never_waits desk (Stop.Ended end) alone blocked = tt
  never_waits desk Stop.Waits alone blocked = let is = blocked refl in never_blocked grant (holder desk) (waiting desk) alone.held alone.line is.holds is.opens

pub takes_more : (old new : SessionView) (piece : List ℕ) (stop : Stop) → TakesOn stop (view_taken old + length piece) (view_taken new) → 1 ≤ length piece → length piece ≤ view_wants old → stop ≡ Stop.Done → TakesMore old new
takes_more old new piece stop takes some wanted done =
    let on = subst (λ s. TakesOn s (view_taken old + length piece) (view_taken new)) done takes in
    let left = min-le_right (wanted_by old.protocol old.vector old.unused) (most_bytes - view_taken old) in
    record { more = omega (arith, on, some); few = omega (arith, on, some, wanted, left) }

-- ---- ends by the bytes

letter_own : (at : ℕ) (meant : Option Letter) (behind : Option End) → IfSome behind IsOwn → IfSome (letter_end at meant behind) IsOwn
letter_own at None behind own = λ rest. tt
letter_own at (Some letters.Quit) behind own = λ rest. tt
letter_own at (Some (letters.Lines tck tms tdi)) behind own = own
letter_own at (Some letters.Read) behind own = own
letter_own at (Some (letters.Light on)) behind own = own
letter_own at (Some (letters.Reset trst srst)) behind own = own

letters_own : (at : ℕ) (bytes : List ℕ) → IfSome (letters_end at bytes) IsOwn
letters_own at [] = tt
letters_own at (byte ∷ bytes) = letter_own at (letter byte) (letters_end (at + 1) bytes) (letters_own (at + 1) bytes)

next_own : (used : ℕ) (next : Next) → IfSome (next_end used next) IsOwn
next_own used (Whole acts bytes) = tt
next_own used (RefusedAt at cause) = λ rest. tt
next_own used Nothing = tt

bytes_own : (protocol : Protocol) (vector used : ℕ) (bytes : List ℕ) → IfSome (bytes_end protocol vector used bytes) IsOwn
bytes_own protocols.Xvc vector used bytes = next_own used (next_xvc vector (front vector bytes) (refused vector bytes))
bytes_own protocols.Bitbang vector used bytes = letters_own used bytes

used_own : (end : Option End) (taken : ℕ) → IfSome end IsOwn → EndsItself (used_stop end false taken)
used_own (Some end) taken own = own
used_own None taken own = by (nat_le most_bytes (taken + length {A = ℕ} []))
  where
    by : (b : Bool) → EndsItself (stop_by (cond b (Some (ends.Long most_bytes)) None))
    by true = λ rest. tt
    by false = tt

-- a call to which bytes came ends a session by no drop
pub ends_itself : (view : SessionView) (piece : List ℕ) (taken : ℕ) (stop : Stop) → StopsBy (view_end view piece) false taken stop → EndsItself stop
ends_itself view piece taken stop (inl waits) = subst EndsItself (sym waits) tt
ends_itself view piece taken stop (inr used) = subst EndsItself (sym used) (used_own (view_end view piece) taken (bytes_own view.protocol view.vector view.used (view.unused ++ piece)))
