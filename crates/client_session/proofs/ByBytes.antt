-- How the bytes of a session end it, over every cable.
use Rattle.std.proofs.Common.{◌≡◌, ◌+◌, ℕ, Bool, true, false, cond, List, [], ◌∷◌, ◌++◌, drop, length, nat_le, refl, ap, sym, ◌∙◌, subst, arith, inl, inr, Some, None}
use Rattle.std.specs.Prelude.{slice_get}
use Rattle.std.specs.declared.option.Option.{Option}
use Rattle.bitbang_frame.specs.declared.Letter.{Letter}
use Rattle.bitbang_frame.specs.declared.Letter.TheVariants as letters
use Rattle.bitbang_frame.specs.Letters.{letter}
use Rattle.grant_table.specs.declared.Protocol.TheVariants as protocols
use Rattle.xvc_frame.specs.declared.FrameStep.{FrameStep}
use Rattle.xvc_frame.specs.declared.FrameStep.TheVariants as steps
use Rattle.xvc_frame.specs.Frames.{Tells}
use Rattle.xvc_frame.proofs.Fronts.{refused_has_no_front}
use Rattle.client_session.specs.declared.End.{End}
use Rattle.client_session.specs.declared.End.TheVariants as ends
use Rattle.client_session.specs.declared.Stop.{Stop}
use Rattle.client_session.specs.declared.halt.Halt.{Halt}
use Rattle.client_session.specs.declared.halt.Halt.TheVariants as halts
use Rattle.client_session.specs.declared.letters.LetterAct.{LetterAct}
use Rattle.client_session.specs.declared.letters.LetterAct.TheVariants as asked
use Rattle.client_session.specs.declared.progress.Progress.{Progress}
use Rattle.client_session.specs.Acts.Act.{SayTdo, SetLines, SetTrst, EndAt}
use Rattle.client_session.specs.Seats.{most_bytes, next_bitbang, next_letter}
use Rattle.client_session.specs.Seats.Next.{Whole, RefusedAt, Nothing}
use Rattle.client_session.specs.Stores.{held_unused, unused_of}
use Rattle.client_session.specs.Calls.{halt_stop, rest_end, stop_by}
use Rattle.client_session.specs.Messaging.{HasTaken, KeepsLines, TakesBytes, frame_of}
use Rattle.client_session.specs.Letters.{IsNext, UsesFirst, acts_asked}
use Rattle.client_session.specs.Ends.{HaltsBy, StopsBy, bytes_end, letter_end, letters_end, used_stop}
use Rattle.client_session.proofs.Messaging.{xvc_unused}

pub halts_by : (end same : Option End) (halt : Halt) → end ≡ same → HaltsBy same halt → HaltsBy end halt
halts_by end same halt is by = subst (λ e. HaltsBy e halt) (sym is) by

-- ---- a message of XVC

abbrev pub step_end : ℕ → FrameStep → Option End
step_end used (steps.Refused at cause) = Some (ends.Refused (used + at) cause)
step_end used _ = None

told_ends : (vector used : ℕ) (held : List ℕ) (step : FrameStep) → Tells vector held step → bytes_end protocols.Xvc vector used held ≡ step_end used step
told_ends vector used held steps.More told = rw (told.0, told.1) refl
told_ends vector used held (steps.Whole said) told = rw told.is_framed refl
told_ends vector used held (steps.Refused at cause) told = rw (refused_has_no_front vector held (record { at = at; cause = cause }) told, told) refl

-- what is told of the bytes is how they end the session
pub taken_ends : (old mid : Progress) (piece : List ℕ) (step : FrameStep) → HasTaken step mid → KeepsLines old mid → TakesBytes piece old mid
    → bytes_end protocols.Xvc old.vector old.used (unused_of old.input ++ piece) ≡ step_end old.used step
taken_ends old mid piece step taken lines bytes =
    let held = sym bytes.unused ∙ xvc_unused mid.input taken.replied.protocol ∙ ap (λ w. held_unused w (frame_of mid.input)) taken.work in
    (λ i. bytes_end protocols.Xvc (sym lines.vector i) old.used (held i)) ∙ told_ends mid.vector old.used (frame_of mid.input).held step taken.told

-- no bytes end nothing
pub none_ends : (vector used : ℕ) (bytes : List ℕ) → bytes ≡ [] → bytes_end protocols.Xvc vector used bytes ≡ None
none_ends vector used bytes none = ap (bytes_end protocols.Xvc vector used) none

-- ---- a letter of remote_bitbang

never_asked : {A : Type 0} (at : ℕ) (act : LetterAct) → EndAt at ∷ [] ≡ acts_asked act → A
never_asked at (asked.Lines tck tms tdi) e = absurd (let q : EndAt at ∷ [] ≡ SetLines tck tms tdi ∷ [] = e in cc)
never_asked at (asked.Trst level) e = absurd (let q : EndAt at ∷ [] ≡ SetTrst level ∷ [] = e in cc)
never_asked at asked.Tdo e = absurd (let q : EndAt at ∷ [] ≡ SayTdo ∷ [] = e in cc)
never_asked at asked.Nothing e = absurd (let q : EndAt at ∷ [] ≡ [] = e in cc)

letter_on : (uses_trst : Bool) (at : ℕ) (act : LetterAct) (meant : Option Letter) (behind : Option End) → next_letter uses_trst at meant ≡ Whole (acts_asked act) 1 → letter_end at meant behind ≡ behind
letter_on uses_trst at act None behind e = absurd (let q : RefusedAt 0 3 ≡ Whole (acts_asked act) 1 = e in cc)
letter_on uses_trst at act (Some letters.Quit) behind e = never_asked at act (let q : Whole (EndAt at ∷ []) 1 ≡ Whole (acts_asked act) 1 = e in let r : EndAt at ∷ [] ≡ acts_asked act = cc in r)
letter_on uses_trst at act (Some (letters.Lines tck tms tdi)) behind e = refl
letter_on uses_trst at act (Some letters.Read) behind e = refl
letter_on uses_trst at act (Some (letters.Light on)) behind e = refl
letter_on uses_trst at act (Some (letters.Reset trst srst)) behind e = refl

letters_on : (uses_trst : Bool) (used : ℕ) (act : LetterAct) (bytes : List ℕ) → next_bitbang uses_trst used bytes ≡ Whole (acts_asked act) 1 → letters_end (used + 1) (drop 1 bytes) ≡ letters_end used bytes
letters_on uses_trst used act [] e = absurd (let q : Nothing ≡ Whole (acts_asked act) 1 = e in cc)
letters_on uses_trst used act (byte ∷ bytes) e = sym (letter_on uses_trst used act (letter byte) (letters_end (used + 1) bytes) e)

-- a letter that is used ends nothing
pub used_ends : (old mid new : Progress) (act : LetterAct) → UsesFirst old mid → IsNext act old → new.used ≡ mid.used → unused_of new.input ≡ unused_of mid.input
    → letters_end new.used (unused_of new.input) ≡ letters_end old.used (unused_of old.input)
used_ends old mid new act uses next used unused =
    (λ i. letters_end ((used ∙ uses.used) i) ((unused ∙ uses.unused) i)) ∙ letters_on old.uses_trst old.used act (unused_of old.input) next.whole

pub no_letter : (used : ℕ) (bytes : List ℕ) → slice_get bytes 0 ≡ None → letters_end used bytes ≡ None
no_letter used [] e = refl
no_letter used (byte ∷ bytes) e = absurd (let q : Some byte ≡ None = e in cc)

-- the first letter
pub first_ends : (used byte : ℕ) (meant : Option Letter) (bytes : List ℕ) → slice_get bytes 0 ≡ Some byte → letter byte ≡ meant → letters_end used bytes ≡ letter_end used meant (letters_end (used + 1) (drop 1 bytes))
first_ends used byte meant [] e is = absurd (let q : None ≡ Some byte = e in cc)
first_ends used byte meant (first ∷ bytes) e is =
    let same : first ≡ byte = let q : Some first ≡ Some byte = e in cc in
    ap (λ b. letter_end used (letter b) (letters_end (used + 1) bytes)) same ∙ ap (λ m. letter_end used m (letters_end (used + 1) bytes)) is

-- ---- where a call stops

pub stops_by : (end : Option End) (gone : Bool) (taken used : ℕ) (unused : List ℕ) (halt : Halt) (stop : Stop) → HaltsBy end halt → (halt ≡ halts.Rests → gone ≡ true → unused ≡ []) → used + length unused ≡ taken
    → stop ≡ halt_stop halt gone used unused → StopsBy end gone taken stop
stops_by end gone taken used unused halts.Waits stop by none all is = inl is
stops_by end gone taken used unused (halts.Ends how) stop by none all is = inr (is ∙ ap (λ e. used_stop e gone taken) (sym by))
stops_by end gone taken used unused halts.Rests stop by none all is = inr (is ∙ ap stop_by (rests gone (none refl)) ∙ ap (λ e. used_stop e gone taken) (sym by))
  where
    count : used + length unused ≡ taken + length {A = ℕ} []
    count = omega (arith, all)

    rests : (g : Bool) → (g ≡ true → unused ≡ []) → rest_end g used unused ≡ rest_end g taken []
    rests false e = ap (λ n. cond (nat_le most_bytes n) (Some (ends.Long most_bytes)) None) count
    rests true e = let same : used ≡ taken = omega (arith, all, ap length (e refl)) in (λ i. rest_end true (same i) (e refl i))
