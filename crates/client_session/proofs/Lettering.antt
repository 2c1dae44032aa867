-- The letters of remote_bitbang at the desk, used one after another.
use Rattle.std.proofs.Common.{◌≡◌, ◌+◌, ◌-◌, ℕ, Bool, true, false, not, ◌&&◌, List, [], ◌∷◌, ◌++◌, drop, length, refl, ap, sym, ◌∙◌, subst, arith, append_assoc, Some, None}
use Rattle.std.specs.Prelude.{IfErr, slice_get}
use Rattle.std.specs.declared.option.Option.{Option}
use Rattle.std.specs.declared.result.Result.{Result}
use Rattle.std.specs.declared.result.Result.TheVariants.{Ok, Err}
use Rattle.std.proofs.lemmas.List.{append-nil}
use Rattle.bitbang_frame.specs.declared.Letter.{Letter}
use Rattle.bitbang_frame.specs.Letters.{letter}
use Rattle.chain_model.specs.Chains.{ChainState}
use Rattle.chain_token.specs.declared.token.Token.{Token}
use Rattle.grant_table.specs.declared.Protocol.TheVariants as protocols
use Rattle.grant_table.specs.Layouts.{LayoutShape, group_of}
use Rattle.scan_share.specs.Views.{ParkedView, OpenView}
use Rattle.scan_share.proofs.Groups.{group_of_laws}
use Rattle.virtual_tap.specs.Taps.{VTapState}
use Rattle.virtual_tap.specs.Views.{StandsFor}
use Rattle.client_session.specs.declared.End.TheVariants.{Quit, Refused}
use Rattle.client_session.specs.declared.input.Input.{Input}
use Rattle.client_session.specs.declared.input.Input.TheVariants.{Xvc, Bitbang}
use Rattle.client_session.specs.declared.progress.Progress.{Progress}
use Rattle.client_session.specs.Acts.{Act}
use Rattle.client_session.specs.Acts.Act.{SayTdo, EndAt}
use Rattle.client_session.specs.Seats.{Seat, Next, advanced, acted, ended, next_bitbang, next_letter, opens_next, rises_next, tdo_digit}
use Rattle.client_session.specs.Seats.Next.{Whole, RefusedAt}
use Rattle.client_session.specs.Turns.{Turn, frees, stepped, advanced_turn}
use Rattle.client_session.specs.Sessions.{DeskView}
use Rattle.client_session.specs.Stores.{AwaitsBytes, acts_of, protocol_of, replied, reply_of, sampled_of, unused_of}
use Rattle.client_session.specs.Going.{Holds, Quiet}
use Rattle.client_session.specs.Desks.{Attends, IsSound, desk_of}
use Rattle.client_session.specs.Calls.{ComesTo, EndsSo, HasReplied, IsToAct, KeepsLetters, KeepsSettings, RestsThere, ShowsFed, ShowsSeat, ShowsTap}
use Rattle.client_session.specs.Letters.{ComesQuietly, IsToDo, KeepsLines, SaysTdo, TakesLetters, UsesFirst}
use Rattle.client_session.proofs.Answering.{one_act}
use Rattle.client_session.proofs.Attending.{follows_quiet}
use Rattle.client_session.proofs.Quietly.{no_rise_next, quiet_act, quiet_more, quiet_none}
use Rattle.client_session.proofs.Coming.{comes_more, comes_none}

-- ---- what the bytes of remote_bitbang say

pub no_samples : (input : Input) → protocol_of input ≡ protocols.Bitbang → (tdo : Bool) → sampled_of input tdo ≡ []
no_samples (Xvc messages) is tdo = absurd (cc is)
no_samples (Bitbang kept) is tdo = refl

pub replies_said : (input : Input) → protocol_of input ≡ protocols.Bitbang → (said : List ℕ) → replied input said ≡ said
replies_said (Xvc messages) is said = absurd (cc is)
replies_said (Bitbang kept) is said = refl

pub awaits_none : (input : Input) → protocol_of input ≡ protocols.Bitbang → AwaitsBytes input → unused_of input ≡ []
awaits_none (Xvc messages) is awaits = absurd (cc is)
awaits_none (Bitbang kept) is awaits = awaits.1

-- the reply of a session whose replies are short
abbrev last_of : ℕ → List ℕ → List ℕ
last_of count bytes = drop (length bytes - count) bytes

reply_said : (progress : Progress) → protocol_of progress.input ≡ protocols.Bitbang → reply_of progress ≡ last_of progress.pending progress.said.items
reply_said progress is = ap (last_of progress.pending) (replies_said progress.input is progress.said.items)

pub same_reply : (old new : Progress) → protocol_of old.input ≡ protocols.Bitbang → protocol_of new.input ≡ protocol_of old.input → new.said ≡ old.said → new.pending ≡ old.pending → reply_of new ≡ reply_of old
same_reply old new is protocol said pending =
    reply_said new (protocol ∙ is)
    ∙ (λ i. last_of (pending i) (said i).items)
    ∙ sym (reply_said old is)

-- ---- the first letter

pub first_some : (uses_trst : Bool) (used byte : ℕ) (meant : Option Letter) (bytes : List ℕ) → slice_get bytes 0 ≡ Some byte → letter byte ≡ meant → next_bitbang uses_trst used bytes ≡ next_letter uses_trst used meant
first_some uses_trst used byte meant [] e is = absurd (let q : None ≡ Some byte = e in cc)
first_some uses_trst used byte meant (first ∷ bytes) e is =
    let same : first ≡ byte = let q : Some first ≡ Some byte = e in cc in
    ap (λ b. next_letter uses_trst used (letter b)) same ∙ ap (next_letter uses_trst used) is

-- what holds of every failure
pub failed_so : {T E P : Type 0} (result : Result T E) → P → IfErr result (λ e. P)
failed_so (Ok value) holds = tt
failed_so (Err fault) holds = holds

-- ---- what is kept

pub settings_more : (old mid new : Progress) → KeepsSettings old mid → KeepsSettings mid new → KeepsSettings old new
settings_more old mid new a b = record { grant = b.grant ∙ a.grant; parts = b.parts ∙ a.parts; protocol = b.protocol ∙ a.protocol; uses_trst = b.uses_trst ∙ a.uses_trst; vector = b.vector ∙ a.vector }

-- ---- where steps lead

never_both : (b : Bool) → (b && not b) ≡ false
never_both true = refl
never_both false = refl

-- the seat once these acts of its first letter are left
abbrev loaded_seat : List Act → Seat → Seat
loaded_seat acts seat = record seat { acts = acts; unused = drop 1 seat.unused; used = seat.used + 1 }

loads : (acts : List Act) (seat : Seat) → seat.going ≡ true → seat.acts ≡ [] → seat.protocol ≡ protocols.Bitbang → next_bitbang seat.uses_trst seat.used seat.unused ≡ Whole acts 1 → advanced seat ≡ loaded_seat acts seat
loads acts seat going none protocol whole = rw (going, none, protocol, whole) refl

shows_on : (old new : Progress) (grant : ℕ) (turn : Turn) (acts : List Act) (unused : List ℕ) (used : ℕ) (replies : List ℕ) → KeepsLines old new → ShowsTap old grant turn
    → ShowsTap new grant (record turn { seat = record turn.seat { acts = acts; unused = unused; used = used; replies = replies } })
shows_on old new grant turn acts unused used replies k s = record {
  going = s.going;
  holds = s.holds;
  types = s.types ∙ ap (λ (tap : VTapState). tap.parts) (sym k.tap);
  stands = subst (λ (tap : VTapState). StandsFor tap.view turn.seat.chain) (sym k.tap) s.stands;
  protocol = k.protocol ∙ s.protocol;
  uses_trst = k.uses_trst ∙ s.uses_trst;
  vector = k.vector ∙ s.vector;
  tck = k.tck ∙ s.tck;
  trst = k.trst ∙ s.trst;
}

lines_same : (progress : Progress) → KeepsLines progress progress
lines_same progress = record { tap = refl; tck = refl; trst = refl; protocol = refl; uses_trst = refl; vector = refl }

module _ (layout : LayoutShape) (grant : ℕ) where
  pub quietly_none : (P : Turn → Type 0) (turn : Turn) → P turn → ComesQuietly layout grant P turn
  quietly_none P turn there = record { next = turn; quiet = quiet_none layout grant turn; gone = refl; past = refl; there = there }

  pub quietly_more : (P Q : Turn → Type 0) (turn : Turn) → ComesQuietly layout grant P turn → ((next : Turn) → P next → ComesQuietly layout grant Q next) → ComesQuietly layout grant Q turn
  quietly_more P Q turn first more =
      let then = more first.next first.there in
      record { next = then.next; quiet = quiet_more layout grant turn first.next then.next first.quiet then.quiet; gone = then.gone ∙ first.gone; past = then.past ∙ first.past; there = then.there }

  -- ---- a letter is loaded

  quiet_load : (acts : List Act) (turn : Turn) → turn.seat.going ≡ true → turn.seat.acts ≡ [] → turn.seat.protocol ≡ protocols.Bitbang → next_bitbang turn.seat.uses_trst turn.seat.used turn.seat.unused ≡ Whole acts 1
      → Holds grant turn → Quiet layout grant turn (record turn { seat = loaded_seat acts turn.seat })
  quiet_load acts turn going none protocol whole holds =
      let new = loaded_seat acts turn.seat in
      let opens : opens_next turn.seat ≡ false = no_rise_next turn.seat (ap (λ left. rises_next left turn.seat) none) in
      let kept : frees turn.holder grant new ≡ false = rw holds (never_both turn.seat.chain.scan_open) in
      let step : stepped layout grant new turn ≡ record turn { seat = new } = rw kept refl in
      let as_is : advanced_turn layout grant turn ≡ stepped layout grant (advanced turn.seat) turn = rw opens refl in
      record {
        steps = 1;
        made = sym (as_is ∙ ap (λ s. stepped layout grant s turn) (loads acts turn.seat going none protocol whole) ∙ step);
        holder = refl;
        waiting = refl;
        joins = refl;
        cost = refl;
        scan = refl;
        contents = refl;
        codes = λ h. refl;
      }

  seat_next : (progress : Progress) (given : List ℕ) (turn : Turn) (next : Next) → next_bitbang progress.uses_trst progress.used (unused_of progress.input) ≡ next → ShowsSeat progress grant given turn
      → next_bitbang turn.seat.uses_trst turn.seat.used turn.seat.unused ≡ next
  seat_next progress given turn next is s = (λ i. next_bitbang (sym s.tap.uses_trst i) (sym s.used i) (sym s.unused i)) ∙ is

  pub load_on : (acts : List Act) (old new : Progress) (given : List ℕ) (turn : Turn) → UsesFirst old new → acts_of old.input ≡ [] → protocol_of old.input ≡ protocols.Bitbang
      → next_bitbang old.uses_trst old.used (unused_of old.input) ≡ Whole acts 1 → ShowsSeat old grant given turn → ComesQuietly layout grant (IsToDo acts new grant given) turn
  load_on acts old new given turn u none protocol whole s = record {
    next = record turn { seat = loaded_seat acts turn.seat };
    quiet = quiet_load acts turn s.tap.going (sym s.acts ∙ none) (sym s.tap.protocol ∙ protocol) (seat_next old given turn (Whole acts 1) whole s) s.tap.holds;
    gone = refl;
    past = refl;
    there = record {
      tap = shows_on old new grant turn acts (drop 1 turn.seat.unused) (turn.seat.used + 1) turn.seat.replies u.lines s.tap;
      unused = u.unused ∙ ap (drop 1) s.unused;
      used = u.used ∙ ap (λ k. k + 1) s.used;
      acts_are = refl;
      sampled = sym s.sampled ∙ no_samples old.input protocol old.tap.view.tdo;
      replies = ap (λ bytes. given ++ bytes) (same_reply old new protocol u.lines.protocol u.said u.pending) ∙ s.replies;
    };
  }

  pub none_to_do : (progress : Progress) (given : List ℕ) (turn : Turn) → acts_of progress.input ≡ [] → protocol_of progress.input ≡ protocols.Bitbang → IsToDo [] progress grant given turn → ShowsSeat progress grant given turn
  none_to_do progress given turn none protocol d = record {
    tap = d.tap;
    unused = d.unused;
    used = d.used;
    acts = none ∙ sym d.acts_are;
    sampled = no_samples progress.input protocol progress.tap.view.tdo ∙ sym d.sampled;
    replies = d.replies;
  }

  pub one_to_do : (act : Act) (progress : Progress) (given : List ℕ) (turn : Turn) → IsToDo (act ∷ []) progress grant given turn → IsToAct act progress grant given turn
  one_to_do act progress given turn d = record { tap = d.tap; unused = d.unused; used = d.used; acts = d.acts_are; sampled = d.sampled; replies = d.replies }

  -- ---- TDO is replied

  pub say_on : (old new : Progress) (given : List ℕ) (turn : Turn) → SaysTdo old new → acts_of old.input ≡ [] → protocol_of old.input ≡ protocols.Bitbang
      → IsToDo (SayTdo ∷ []) old grant given turn → ComesQuietly layout grant (ShowsSeat new grant given) turn
  say_on old new given turn says none protocol d = record {
    next = record turn { seat = acted SayTdo (record turn.seat { acts = [] }) };
    quiet = quiet_act layout grant SayTdo [] turn d.tap.going d.acts_are (no_rise_next turn.seat (ap (λ left. rises_next left turn.seat) d.acts_are)) d.tap.holds refl refl (λ h. refl);
    gone = refl;
    past = refl;
    there = record {
      tap = shows_on old new grant turn [] turn.seat.unused turn.seat.used (turn.seat.replies ++ tdo_digit turn.seat.chain.tdo ∷ []) says.lines d.tap;
      unused = says.unused ∙ d.unused;
      used = says.used ∙ d.used;
      acts = says.acts ∙ none;
      sampled = no_samples new.input (says.lines.protocol ∙ protocol) new.tap.view.tdo ∙ sym d.sampled;
      replies =
          ap (λ bytes. given ++ bytes) says.reply
          ∙ sym (append_assoc given (reply_of old) (tdo_digit old.tap.view.tdo ∷ []))
          ∙ (λ i. d.replies i ++ tdo_digit (d.tap.stands.tdo i) ∷ []);
    };
  }

  -- ---- where the letters stop

  pub rests_on : (progress : Progress) (given : List ℕ) (turn : Turn) → unused_of progress.input ≡ [] → acts_of progress.input ≡ [] → protocol_of progress.input ≡ protocols.Bitbang
      → ShowsSeat progress grant given turn → ComesQuietly layout grant (RestsThere progress grant given) turn
  rests_on progress given turn empty none protocol s = quietly_none (RestsThere progress grant given) turn (record {
    shows = s;
    none = sym s.acts ∙ none;
    nothing = let bitbang : turn.seat.protocol ≡ protocols.Bitbang = sym s.tap.protocol ∙ protocol in let no_byte : turn.seat.unused ≡ [] = sym s.unused ∙ empty in rw (bitbang, no_byte) refl;
  })

  refuses : (used : ℕ) (seat : Seat) → seat.going ≡ true → seat.acts ≡ [] → seat.protocol ≡ protocols.Bitbang → next_bitbang seat.uses_trst seat.used seat.unused ≡ RefusedAt 0 3 → used ≡ seat.used → advanced seat ≡ ended (Refused used 3) seat
  refuses used seat going none protocol refused same =
      let here : seat.used + 0 ≡ used = omega (arith, same) in
      let ends : advanced seat ≡ ended (Refused (seat.used + 0) 3) seat = rw (going, none, protocol, refused) refl in
      ends ∙ ap (λ at. ended (Refused at 3) seat) here

  pub refused_on : (progress : Progress) (given : List ℕ) (turn : Turn) → next_bitbang progress.uses_trst progress.used (unused_of progress.input) ≡ RefusedAt 0 3 → acts_of progress.input ≡ [] → protocol_of progress.input ≡ protocols.Bitbang
      → ShowsSeat progress grant given turn → ComesQuietly layout grant (EndsSo (Refused progress.used 3) progress grant given) turn
  refused_on progress given turn refused none protocol s =
      let left : turn.seat.acts ≡ [] = sym s.acts ∙ none in
      quietly_none (EndsSo (Refused progress.used 3) progress grant given) turn (record {
        tap = s.tap;
        replies = s.replies;
        opens = no_rise_next turn.seat (ap (λ acts. rises_next acts turn.seat) left);
        ends = refuses progress.used turn.seat s.tap.going left (sym s.tap.protocol ∙ protocol) (seat_next progress given turn (RefusedAt 0 3) refused s) s.used;
        cost = λ width. rw left refl;
      })

  pub quit_on : (progress : Progress) (given : List ℕ) (turn : Turn) → next_bitbang progress.uses_trst progress.used (unused_of progress.input) ≡ Whole (EndAt progress.used ∷ []) 1 → acts_of progress.input ≡ [] → protocol_of progress.input ≡ protocols.Bitbang
      → ShowsSeat progress grant given turn → ComesQuietly layout grant (EndsSo (Quit progress.used) progress grant given) turn
  quit_on progress given turn whole none protocol s =
      let left = EndAt progress.used ∷ [] in
      let seat = loaded_seat left turn.seat in
      record {
        next = record turn { seat = seat };
        quiet = quiet_load left turn s.tap.going (sym s.acts ∙ none) (sym s.tap.protocol ∙ protocol) (seat_next progress given turn (Whole left 1) whole s) s.tap.holds;
        gone = refl;
        past = refl;
        there = record {
          tap = shows_on progress progress grant turn left (drop 1 turn.seat.unused) (turn.seat.used + 1) turn.seat.replies (lines_same progress) s.tap;
          replies = s.replies;
          opens = no_rise_next seat refl;
          ends = one_act (EndAt progress.used) [] seat s.tap.going refl;
          cost = λ width. refl;
        };
      }

  -- ---- letters are taken

  pub taken_on : (piece : List ℕ) (old new : Progress) (given : List ℕ) (turn : Turn) → TakesLetters piece old new → protocol_of old.input ≡ protocols.Bitbang → unused_of old.input ≡ [] → ShowsFed old piece grant given turn → ShowsSeat new grant given turn
  taken_on piece old new given turn takes protocol empty fed = record {
    tap = shows_on old new grant turn turn.seat.acts turn.seat.unused turn.seat.used turn.seat.replies takes.lines fed.tap;
    unused = takes.unused ∙ ap (λ bytes. bytes ++ piece) (sym empty) ∙ fed.unused;
    used = takes.used ∙ fed.used;
    acts = takes.acts ∙ sym fed.acts;
    sampled = no_samples new.input (takes.lines.protocol ∙ protocol) new.tap.view.tdo ∙ sym fed.sampled;
    replies = ap (λ bytes. given ++ bytes) takes.reply ∙ append-nil given ∙ fed.replies;
  }

  -- ---- over a desk whose cable may tell its chain

  module _ (sound : IsSound layout grant) (base_desk : DeskView) (base turn : Turn) {C : Type 0} (desk : Token (ParkedView C) (OpenView C)) where
    pub attends_quietly : (P Q : Turn → Type 0) (told : Option ChainState) → (P turn → ComesQuietly layout grant Q turn) → Attends layout grant base_desk base P desk told turn → ComesTo layout grant (Attends layout grant base_desk base Q desk told) turn
    attends_quietly P Q None went attends = absurd attends
    attends_quietly P Q (Some chain) went attends =
        let quietly = went attends.1 in
        record {
          next = quietly.next;
          steps = quietly.quiet.steps;
          made = quietly.quiet.made;
          gone = quietly.gone;
          past = quietly.past;
          there = (follows_quiet layout grant sound.parts (group_of_laws layout (group_of layout.grants grant) sound.group_is) base_desk (desk_of layout desk chain) base turn quietly.next quietly.quiet attends.0, quietly.there);
        }

  module _ (base_desk : DeskView) (base : Turn) {C : Type 0} (desk : Token (ParkedView C) (OpenView C)) where
    pub attends_as : (P Q : Turn → Type 0) (told : Option ChainState) (turn : Turn) → (P turn → Q turn) → Attends layout grant base_desk base P desk told turn → Attends layout grant base_desk base Q desk told turn
    attends_as P Q None turn as_is attends = absurd attends
    attends_as P Q (Some chain) turn as_is attends = (attends.0, as_is attends.1)

    pub attended : (P Q : Turn → Type 0) (told : Option ChainState) (turn : Turn) → (P turn → Q turn) → Attends layout grant base_desk base P desk told turn → Q turn
    attended P Q None turn as_is attends = absurd attends
    attended P Q (Some chain) turn as_is attends = as_is attends.1

-- the replies where an act of a letter failed are those before it
pub replied_to_act : (act : Act) (old new : Progress) (grant : ℕ) (given : List ℕ) (turn : Turn) → KeepsLetters old new → protocol_of old.input ≡ protocols.Bitbang → protocol_of new.input ≡ protocol_of old.input
    → IsToAct act old grant given turn → HasReplied new given turn
replied_to_act act old new grant given turn k is protocol d = record {
  going = d.tap.going;
  replies = ap (λ bytes. given ++ bytes) (same_reply old new is protocol k.said k.pending) ∙ d.replies;
}

module _ (layout : LayoutShape) (grant : ℕ) (sound : IsSound layout grant) (base_desk : DeskView) (base turn : Turn) {C : Type 0} (desk : Token (ParkedView C) (OpenView C)) (told : Option ChainState) (given : List ℕ) (old mid : Progress)
    (uses : UsesFirst old mid) (none : acts_of old.input ≡ []) (protocol : protocol_of old.input ≡ protocols.Bitbang) where
  abbrev Serving : (Turn → Type 0) → Turn → Type 0
  Serving P = Attends layout grant base_desk base P desk told

  -- a letter's act is left
  pub act_loaded : (act : Act) → next_bitbang old.uses_trst old.used (unused_of old.input) ≡ Whole (act ∷ []) 1 → Serving (ShowsSeat old grant given) turn → ComesTo layout grant (Serving (IsToAct act mid grant given)) turn
  act_loaded act whole attends =
      attends_quietly layout grant sound base_desk base turn desk (ShowsSeat old grant given) (IsToAct act mid grant given) told
      (λ s. quietly_more layout grant (IsToDo (act ∷ []) mid grant given) (IsToAct act mid grant given) turn (load_on layout grant (act ∷ []) old mid given turn uses none protocol whole s)
      (λ next d. quietly_none layout grant (IsToAct act mid grant given) next (one_to_do layout grant act mid given next d)))
      attends

  -- and is made
  pub act_made : (act : Act) (R : Turn → Type 0) → next_bitbang old.uses_trst old.used (unused_of old.input) ≡ Whole (act ∷ []) 1
      → ((next : Turn) → Serving (IsToAct act mid grant given) next → ComesTo layout grant R next) → Serving (ShowsSeat old grant given) turn → ComesTo layout grant R turn
  act_made act R whole made attends = comes_more layout grant (Serving (IsToAct act mid grant given)) R turn (act_loaded act whole attends) made

  -- or fails
  pub act_failed : (act : Act) (new : Progress) → next_bitbang old.uses_trst old.used (unused_of old.input) ≡ Whole (act ∷ []) 1 → KeepsLetters mid new → protocol_of new.input ≡ protocol_of mid.input
      → Serving (ShowsSeat old grant given) turn → ComesTo layout grant (HasReplied new given) turn
  act_failed act new whole kept same attends =
      act_made act (HasReplied new given) whole
      (λ next there. comes_none layout grant (HasReplied new given) next
      (attended layout grant base_desk base desk (IsToAct act mid grant given) (HasReplied new given) told next (replied_to_act act mid new grant given next kept (uses.lines.protocol ∙ protocol) same) there))
      attends

  -- a letter that asks for nothing
  pub nothing_loaded : next_bitbang old.uses_trst old.used (unused_of old.input) ≡ Whole [] 1 → Serving (ShowsSeat old grant given) turn → ComesTo layout grant (Serving (ShowsSeat mid grant given)) turn
  nothing_loaded whole attends =
      attends_quietly layout grant sound base_desk base turn desk (ShowsSeat old grant given) (ShowsSeat mid grant given) told
      (λ s. quietly_more layout grant (IsToDo [] mid grant given) (ShowsSeat mid grant given) turn (load_on layout grant [] old mid given turn uses none protocol whole s)
      (λ next d. quietly_none layout grant (ShowsSeat mid grant given) next (none_to_do layout grant mid given next (uses.acts ∙ none) (uses.lines.protocol ∙ protocol) d)))
      attends

  -- a letter that asks for TDO
  pub tdo_loaded : (new : Progress) → SaysTdo mid new → next_bitbang old.uses_trst old.used (unused_of old.input) ≡ Whole (SayTdo ∷ []) 1 → Serving (ShowsSeat old grant given) turn → ComesTo layout grant (Serving (ShowsSeat new grant given)) turn
  tdo_loaded new says whole attends =
      attends_quietly layout grant sound base_desk base turn desk (ShowsSeat old grant given) (ShowsSeat new grant given) told
      (λ s. quietly_more layout grant (IsToDo (SayTdo ∷ []) mid grant given) (ShowsSeat new grant given) turn (load_on layout grant (SayTdo ∷ []) old mid given turn uses none protocol whole s)
      (λ next d. say_on layout grant mid new given next says (uses.acts ∙ none) (uses.lines.protocol ∙ protocol) d))
      attends
