-- The calls of a session beside the turn of its grant: where they begin, and what they come to.
use Rattle.std.proofs.Common.{◌≡◌, ◌≤◌, ◌+◌, ◌-◌, ℕ, zero, suc, Bool, true, false, not, ◌&&◌, cond, is_some, List, [], ◌∷◌, ◌++◌, length, refl, ap, sym, ◌∙◌, subst, arith, append_assoc, Some, None, inl, inr}
use Rattle.std.specs.declared.option.Option.{Option}
use Rattle.std.proofs.lemmas.List.{append-nil, take_all}
use Rattle.chain_model.specs.Chains.{ChainState}
use Rattle.grant_table.specs.declared.Protocol.{Protocol}
use Rattle.grant_table.specs.declared.Protocol.TheVariants.{Xvc, Bitbang}
use Rattle.grant_table.specs.Layouts.{LayoutShape, group_of}
use Rattle.scan_share.specs.PrivateChains.{entries_at, nets_within}
use Rattle.scan_share.specs.Scans.{types_of, contents_of, code_list, IsOpenFor}
use Rattle.xvc_frame.specs.Messages.{front, refused}
use Rattle.client_session.specs.declared.Stand.{Stand}
use Rattle.client_session.specs.declared.Stop.{Stop}
use Rattle.tap_states.specs.States.{is_capture_dr}
use Rattle.client_session.specs.declared.input.Edge.{Edge}
use Rattle.client_session.specs.declared.input.Input.{Input}
use Rattle.client_session.specs.declared.input.Input.TheVariants as inputs
use Rattle.client_session.specs.declared.input.Work.{Work}
use Rattle.client_session.specs.declared.input.Work.TheVariants.{Taking, Shifting, Sampled, Shifted}
use Rattle.client_session.specs.declared.progress.Progress.{Progress}
use Rattle.client_session.specs.Seats.{Seat, Next, next_in, next_xvc, next_bitbang, advanced, advanced_by, rises_next, finished, ended, taken, most_bytes, replies_now, last_replies, steps_left, EndedSession, opens_next}
use Rattle.client_session.specs.Seats.Next.{Nothing}
use Rattle.client_session.specs.Private.{received}
use Rattle.client_session.specs.Paces.{IsPacedBy, IsSeatOver}
use Rattle.client_session.specs.Turns.{Turn, is_among, may_open, advanced_as, advanced_turn, advanced_turns, gone_on}
use Rattle.client_session.specs.Sessions.{DeskView, SessionView, Serves, Shows, Came, Goes, IsPrefix, RepliedBefore, stand_of, is_here, is_in_line, is_leaving, is_waiting, KeepsChain}
use Rattle.client_session.specs.Stores.{AwaitsBytes, AwaitsCapture, AwaitsChain, IsAtRise, IsBetween, KeepsInput, KeepsProgress, acts_of, protocol_of, reply_of, sampled_of, unused_of, view_of, WorksAt, edge_left, shift_left, held_unused, shift_sampled}
use Rattle.std.specs.declared.result.Result.{Result}
use Rattle.std.specs.declared.result.Result.TheVariants.{Ok, Err}
use Rattle.std.specs.Prelude.{IfErr}
use Rattle.chain_token.specs.declared.token.Token.{Token}
use Rattle.chain_token.specs.Tokens.{holder, waiting}
use Rattle.scan_share.specs.Scans.{IsWhole}
use Rattle.scan_share.specs.Views.{ParkedView, OpenView}
use Rattle.scan_share.proofs.Groups.{group_of_laws}
use Rattle.client_session.specs.declared.halt.Halt.{Halt}
use Rattle.client_session.specs.declared.halt.Halt.TheVariants as halts
use Rattle.client_session.specs.Stores.{SessionState}
use Rattle.client_session.specs.Desks.{Attends, IsSound, desk_of}
use Rattle.client_session.specs.Calls.{CameOn, WaitsThere, ComesTo, ComesToStop, HaltsAt, HasReplied, RestsThere, ServedBy, ShowsFed, ShowsSeat, ShowsTap, StopsThere}
use Rattle.client_session.proofs.Shared.{follows_none}
use Rattle.client_session.proofs.Later.{finished-advanced}
use Rattle.client_session.proofs.Growth.{advanced_kind}
use Rattle.client_session.proofs.Opening.{both, not_true}
use Rattle.client_session.proofs.Resting.{as_is, gone_on_rests}
use Rattle.client_session.proofs.Quietly.{gone_on-steps}
use Rattle.client_session.specs.Going.{Holds}
use Rattle.virtual_tap.specs.Views.{StandsFor}

never : {A : Type 0} → false ≡ true → A
never e = absurd (let q : false ≡ true = e in cc)

-- ---- where a call begins

pub is_going : (waits : Bool) (seat : Seat) (stand : Stand) → stand ≡ stand_of waits seat → (Stand.Free ≡ stand → false ≡ true) → seat.going ≡ true
is_going waits seat stand is taken = by seat.going refl
  where
    by : (g : Bool) → seat.going ≡ g → seat.going ≡ true
    by true e = e
    by false e = never (taken (sym (rw e refl) ∙ sym is))

-- what the bytes that are kept leave of acts and samples between two messages
no_acts : (input : Input) → AwaitsBytes input → acts_of input ≡ []
no_acts (inputs.Xvc messages) awaits = by messages.work awaits
  where
    by : (work : Work) → IsBetween work → shift_left work messages.frame ≡ []
    by Taking b = refl
    by Shifted b = refl
    by (Shifting cycles at) b = absurd b
    by (Sampled cycles at) b = absurd b
no_acts (inputs.Bitbang letters) awaits = ap edge_left awaits.0

no_samples : (input : Input) (tdo : Bool) → AwaitsBytes input → sampled_of input tdo ≡ []
no_samples (inputs.Xvc messages) tdo awaits = by messages.work awaits
  where
    by : (work : Work) → IsBetween work → shift_sampled work messages.frame tdo ≡ []
    by Taking b = refl
    by Shifted b = refl
    by (Shifting cycles at) b = absurd b
    by (Sampled cycles at) b = absurd b
no_samples (inputs.Bitbang letters) tdo awaits = refl

-- no message is whole in them
abbrev by_protocol : Protocol → (uses_trst : Bool) → (vector used : ℕ) → List ℕ → Next
by_protocol Xvc uses_trst vector used unused = next_xvc vector (front vector unused) (refused vector unused)
by_protocol Bitbang uses_trst vector used unused = next_bitbang uses_trst used unused

nothing_next : (input : Input) (uses_trst : Bool) (vector used : ℕ) → KeepsInput vector input → AwaitsBytes input → by_protocol (protocol_of input) uses_trst vector used (unused_of input) ≡ Nothing
nothing_next (inputs.Xvc messages) uses_trst vector used keeps awaits = by messages.work awaits keeps.1
  where
    by : (work : Work) → IsBetween work → WorksAt work messages.frame → by_protocol Xvc uses_trst vector used (held_unused work messages.frame) ≡ Nothing
    by Taking b works = subst (λ v. next_xvc v (front v messages.frame.held) (refused v messages.frame.held) ≡ Nothing) keeps.0 (λ i. next_xvc messages.frame.vector (works.0 i) (works.1 i))
    by Shifted b works = refl
    by (Shifting cycles at) b works = absurd b
    by (Sampled cycles at) b works = absurd b
nothing_next (inputs.Bitbang letters) uses_trst vector used keeps awaits = ap (next_bitbang uses_trst used) awaits.1

next_as : (p : Protocol) (seat : Seat) → next_in p seat ≡ by_protocol p seat.uses_trst seat.vector seat.used seat.unused
next_as Xvc seat = refl
next_as Bitbang seat = refl

module _ (layout : LayoutShape) (grant : ℕ) (progress : Progress) (stand : Stand) (waits : Bool) (given : List ℕ) (desk : DeskView) (turn : Turn) (parts : entries_at layout.parts (group_of layout.grants grant) ≡ progress.tap.parts)
    (shows : Shows (view_of progress stand false) waits turn.seat given) (serves : Serves layout (group_of layout.grants grant) grant desk turn) (going : turn.seat.going ≡ true) where
  -- a seat like it but for its bytes and its peer
  tap_on : (seat : Seat) → seat.going ≡ turn.seat.going → seat.chain ≡ turn.seat.chain → seat.protocol ≡ turn.seat.protocol → seat.uses_trst ≡ turn.seat.uses_trst → seat.vector ≡ turn.seat.vector → seat.tck ≡ turn.seat.tck → seat.trst ≡ turn.seat.trst
      → ShowsTap progress grant (record turn { seat = seat })
  tap_on seat g c p u v t r = record {
    going = g ∙ going;
    holds = serves.holds ∙ ap (λ (chain : ChainState). chain.scan_open) (sym c);
    types = ap types_of c ∙ serves.over.made.parts_are ∙ parts;
    stands = subst (StandsFor progress.tap.view) (sym c) shows.tap;
    protocol = shows.protocol ∙ sym p;
    uses_trst = shows.uses_trst ∙ sym u;
    vector = shows.vector ∙ sym v;
    tck = shows.tck ∙ sym t;
    trst = shows.trst ∙ sym r;
  }

  replies_here : given ++ reply_of progress ≡ turn.seat.replies
  replies_here = shows.replies ∙ (rw going refl)

  pub fed_shows : (piece : List ℕ) → AwaitsBytes progress.input → reply_of progress ≡ [] → length piece ≤ most_bytes - (progress.used + length (unused_of progress.input))
      → ShowsFed progress piece grant given (record turn { seat = received piece turn.seat })
  fed_shows piece awaits none few = record {
    tap = tap_on (received piece turn.seat) refl refl refl refl refl refl refl;
    unused = (λ i. shows.unused i ++ sym (take_all (most_bytes - taken turn.seat) piece (omega (arith, few, shows.used, ap length shows.unused))) i);
    used = shows.used;
    acts = sym shows.acts ∙ no_acts progress.input awaits;
    sampled = sym shows.sampled ∙ no_samples progress.input progress.tap.view.tdo awaits;
    replies = sym (append-nil given) ∙ ap (λ r. given ++ r) (sym none) ∙ replies_here;
  }

  pub seat_shows : ShowsSeat progress grant given turn
  seat_shows = record {
    tap = tap_on turn.seat refl refl refl refl refl refl refl;
    unused = shows.unused;
    used = shows.used;
    acts = shows.acts;
    sampled = shows.sampled;
    replies = replies_here;
  }

  pub rests_gone : KeepsProgress progress → AwaitsBytes progress.input → RestsThere progress grant given (record turn { seat = record turn.seat { gone = true } })
  rests_gone keeps awaits = record {
    shows = record {
      tap = tap_on (record turn.seat { gone = true }) refl refl refl refl refl refl refl;
      unused = shows.unused;
      used = shows.used;
      acts = shows.acts;
      sampled = shows.sampled;
      replies = replies_here;
    };
    none = sym shows.acts ∙ no_acts progress.input awaits;
    nothing =
        next_as turn.seat.protocol (record turn.seat { gone = true })
        ∙ (λ i. by_protocol (sym shows.protocol i) (sym shows.uses_trst i) (sym shows.vector i) (sym shows.used i) (sym shows.unused i))
        ∙ nothing_next progress.input progress.uses_trst progress.vector progress.used keeps.input awaits;
  }

-- the desk serves the turn still where bytes came or the peer is gone
pub serves_on : (layout : LayoutShape) (group : List ℕ) (grant : ℕ) (desk : DeskView) (turn : Turn) (seat : Seat) → seat.chain ≡ turn.seat.chain
    → IsSeatOver seat.protocol (entries_at layout.parts group) (nets_within group layout.nets) seat → Serves layout group grant desk turn → Serves layout group grant desk (record turn { seat = seat })
serves_on layout group grant desk turn seat same over serves = record {
  whole = serves.whole;
  over = over;
  counted = serves.counted;
  holder = serves.holder;
  waiting = serves.waiting;
  holds = serves.holds ∙ ap (λ (chain : ChainState). chain.scan_open) (sym same);
  contents = serves.contents ∙ ap contents_of (sym same);
  keeps = by desk.holder serves.keeps;
}
  where
    by : (held : Option ℕ) → KeepsChain layout group grant held desk turn.seat → KeepsChain layout group grant held desk seat
    by None keeps = keeps
    by (Some holder) keeps = λ mine. record {
      scan = (keeps mine).scan ∙ ap (λ (chain : ChainState). Some (record { grant = grant; codes = code_list chain })) (sym same);
      chain_open = subst (λ (chain : ChainState). IsOpenFor layout group (code_list chain) desk.chain) (sym same) (keeps mine).chain_open;
    }

-- ---- what it comes to

pub came_of : (layout : LayoutShape) (grant : ℕ) (view : SessionView) (given : List ℕ) (old_desk new_desk : DeskView) (turn : Turn) (stop : Stop) → Holds grant turn
    → ComesToStop layout grant old_desk turn view given stop new_desk turn → Came layout grant view given old_desk new_desk turn stop
came_of layout grant view given old_desk new_desk turn stop holds comes =
    let same : gone_on layout grant turn ≡ comes.next = sym (gone_on-steps layout grant comes.steps turn holds) ∙ ap (gone_on layout grant) (sym comes.made) ∙ gone_on_rests layout grant comes.next comes.rests in
    record {
      shows = subst (λ (t : Turn). Shows view (is_among grant t.waiting) t.seat given) (sym same) comes.shows;
      goes = subst (λ (t : Turn). Goes layout (group_of layout.grants grant) grant old_desk new_desk turn t stop) (sym same)
          (record {
            serves = comes.follows.serves;
            others = comes.follows.others;
            untouched = comes.follows.untouched;
            made = comes.follows.made;
            stops = comes.stops;
          });
    }

-- ---- where the cable failed

pub free_stays : (steps : ℕ) (seat : Seat) → seat.going ≡ false → advanced_by steps seat ≡ seat
free_stays zero seat h = refl
free_stays (suc steps) seat h = let still : advanced seat ≡ seat = rw h refl in ap (advanced_by steps) still ∙ free_stays steps seat h

pub replies_on : (steps : ℕ) (seat : Seat) → seat.going ≡ true → IsPrefix seat.replies (replies_now (advanced_by steps seat))
replies_on zero seat g = ([], append-nil seat.replies ∙ sym (rw g refl))
replies_on (suc steps) seat g = elim (advanced_kind seat) [
  | inl on ↦ let then = replies_on steps (advanced seat) (on.going ∙ g) in (on.more ++ then.0, sym (append_assoc seat.replies on.more then.0) ∙ ap (λ r. r ++ then.0) on.replies ∙ then.1)
  | inr ends ↦ ([], append-nil seat.replies ∙ sym (ap (λ s. replies_now (advanced_by steps s)) ends.new_is ∙ ap replies_now (free_stays steps (ended ends.how seat) refl) ∙ last_of seat.past _))
]
  where
    last_of : (past : List EndedSession) (one : EndedSession) → last_replies (past ++ one ∷ []) ≡ one.replies
    last_of [] one = refl
    last_of (x ∷ []) one = refl
    last_of (x ∷ y ∷ more) one = last_of (y ∷ more) one

turn_finishes : (layout : LayoutShape) (grant : ℕ) (opens may : Bool) (turn : Turn) → finished (advanced_as opens may layout grant turn).seat ≡ finished turn.seat
turn_finishes layout grant false may turn = finished-advanced turn.seat
turn_finishes layout grant true true turn = finished-advanced turn.seat
turn_finishes layout grant true false turn = refl

turns_finish : (steps : ℕ) (layout : LayoutShape) (grant : ℕ) (turn : Turn) → finished (advanced_turns steps layout grant turn).seat ≡ finished turn.seat
turns_finish zero layout grant turn = refl
turns_finish (suc steps) layout grant turn =
    turns_finish steps layout grant (advanced_turn layout grant turn)
    ∙ turn_finishes layout grant (opens_next turn.seat) (may_open turn.holder turn.waiting grant) turn

pub replied_before : (layout : LayoutShape) (grant : ℕ) (progress : Progress) (stand : Stand) (given : List ℕ) (turn : Turn) → ComesTo layout grant (HasReplied progress given) turn → RepliedBefore (view_of progress stand true) given turn.seat
replied_before layout grant progress stand given turn comes =
    let same : finished comes.next.seat ≡ finished turn.seat = ap (λ (t : Turn). finished t.seat) comes.made ∙ turns_finish comes.steps layout grant turn in
    let whole = replies_on (steps_left comes.next.seat) comes.next.seat comes.there.going in
    (refl, (whole.0, ap (λ r. r ++ whole.0) comes.there.replies ∙ whole.1 ∙ ap replies_now same))

-- ---- a session that waits for the chain

module _ (progress : Progress) (waiting_on : AwaitsCapture progress) (seat : Seat) (going : seat.going ≡ true) (stands : StandsFor progress.tap.view seat.chain)
    (acts : acts_of progress.input ≡ seat.acts) (tck : progress.tck ≡ seat.tck) (trst : progress.trst ≡ seat.trst) where
  rises : (input : Input) → AwaitsChain input → acts_of input ≡ seat.acts → rises_next seat.acts seat ≡ true
  rises (inputs.Xvc messages) waits same = by messages.work waits same
    where
      by : (work : Work) → IsAtRise work → shift_left work messages.frame ≡ seat.acts → rises_next seat.acts seat ≡ true
      by (Sampled cycles at) w e = ap (λ a. rises_next a seat) (sym e)
      by Taking w e = absurd w
      by Shifted w e = absurd w
      by (Shifting cycles at) w e = absurd w
  rises (inputs.Bitbang letters) waits same = by letters.edge waits same
    where
      by : (edge : Option Edge) → is_some edge ≡ true → edge_left edge ≡ seat.acts → rises_next seat.acts seat ≡ true
      by None w e = never w
      by (Some edge) w e = ap (λ a. rises_next a seat) (sym e) ∙ (λ i. not (((sym tck ∙ waiting_on.tck)) i) && not ((sym trst ∙ waiting_on.trst) i))

  pub opens_there : opens_next seat ≡ true
  opens_there =
      let here = both (is_capture_dr progress.tap.view.state) (not progress.tap.view.scan_open) waiting_on.capture in
      let state : is_capture_dr seat.chain.state ≡ true = ap is_capture_dr (sym stands.state) ∙ here.0 in
      let shut : seat.chain.scan_open ≡ false = sym stands.scan ∙ not_true progress.tap.view.scan_open here.1 in
      λ i. going i && (state i && (not (shut i) && rises progress.input waiting_on.input acts i))

pub waits_rests : (layout : LayoutShape) (grant : ℕ) (turn : Turn) → opens_next turn.seat ≡ true → may_open turn.holder turn.waiting grant ≡ false → is_among grant turn.waiting ≡ true → advanced_turn layout grant turn ≡ turn
waits_rests layout grant turn opens may among = as_is layout grant true false turn opens may ∙ (rw among refl)

-- ---- over the buffers and the desk

halted_replied : (halt : Halt) (layout : LayoutShape) (progress : Progress) (grant : ℕ) (given : List ℕ) (turn : Turn) → HaltsAt halt layout progress grant given turn → HasReplied progress given turn
halted_replied halts.Rests layout progress grant given turn there = record { going = there.shows.tap.going; replies = there.shows.replies }
halted_replied halts.Waits layout progress grant given turn there = record { going = there.shows.tap.going; replies = there.shows.replies }
halted_replied (halts.Ends end) layout progress grant given turn there = record { going = there.tap.going; replies = there.replies }

pub comes_replied : {C : Type 0} (layout : LayoutShape) (grant : ℕ) (base_desk : DeskView) (base : Turn) (halt : Halt) (old new : Progress) (given : List ℕ) (desk : Token (ParkedView C) (OpenView C)) (told : Option ChainState) (turn : Turn) → reply_of new ≡ reply_of old
    → ComesTo layout grant (Attends layout grant base_desk base (HaltsAt halt layout old grant given) desk told) turn → ComesTo layout grant (HasReplied new given) turn
comes_replied layout grant base_desk base halt old new given desk None turn same comes = absurd comes.there
comes_replied layout grant base_desk base halt old new given desk (Some chain) turn same comes =
    let replied = halted_replied halt layout old grant given comes.next comes.there.1 in
    record {
      next = comes.next;
      steps = comes.steps;
      made = comes.made;
      gone = comes.gone;
      past = comes.past;
      there = record { going = replied.going; replies = ap (λ r. given ++ r) same ∙ replied.replies };
    }

pub always_err : {T E P : Type 0} (result : Result T E) → P → IfErr result (λ error. P)
always_err (Ok done) p = tt
always_err (Err error) p = p

unspent : (progress : Progress) (stand : Stand) (spent waits : Bool) (seat : Seat) (given : List ℕ) → Shows (view_of progress stand spent) waits seat given → Shows (view_of progress stand false) waits seat given
unspent progress stand spent waits seat given shows = record {
  protocol = shows.protocol;
  uses_trst = shows.uses_trst;
  vector = shows.vector;
  stand = shows.stand;
  here = shows.here;
  tap = shows.tap;
  tck = shows.tck;
  trst = shows.trst;
  unused = shows.unused;
  used = shows.used;
  acts = shows.acts;
  sampled = shows.sampled;
  replies = shows.replies;
  fit = refl;
}

-- the session that these make up
abbrev pub session_of : Progress → Stand → Bool → SessionState
session_of progress stand spent = record { grant = progress.tap.grant; parts = progress.tap.parts; view = view_of progress stand spent }

module _ {C : Type 0} (layout : LayoutShape) (grant : ℕ) (sound : IsSound layout grant) (desk : Token (ParkedView C) (OpenView C)) (turn : Turn) (seat : Seat) (P : Turn → Type 0) where
  abbrev group : List ℕ
  group = group_of layout.grants grant

  abbrev here : Turn
  here = record turn { seat = seat }

  abbrev Begins : Type 0
  Begins = (chain : ChainState) → Serves layout group grant (desk_of layout desk chain) turn → Serves layout group grant (desk_of layout desk chain) here × P here

  begun : (chain : ChainState) → Serves layout group grant (desk_of layout desk chain) here → P here → Attends layout grant (desk_of layout desk chain) here P desk (Some chain) here
  begun chain serves p = (follows_none layout group grant (group_of_laws layout group sound.group_is) (desk_of layout desk chain) here serves, p)

  came_on : (next : Token (ParkedView C) (OpenView C)) (before after : Option ChainState) (view : SessionView) (given : List ℕ) (stop : Stop) → Begins
      → ((base_desk : DeskView) (base : Turn) → IsWhole layout base_desk.chain → Attends layout grant base_desk base P desk before here → StopsThere layout grant base_desk base view given stop next after here)
      → ServedBy layout grant desk before turn → CameOn layout grant view given desk next before after here stop
  came_on next None after view given stop begins went served = absurd served
  came_on next (Some chain) None view given stop begins went served =
      let b = begins chain served in absurd (went (desk_of layout desk chain) here b.0.whole (begun chain b.0 b.1))
  came_on next (Some chain) (Some after) view given stop begins went served =
      let b = begins chain served in
      came_of layout grant view given (desk_of layout desk chain) (desk_of layout next after) here stop b.0.holds (went (desk_of layout desk chain) here b.0.whole (begun chain b.0 b.1))

  failed_on : (before : Option ChainState) (new : Progress) (stand : Stand) (given : List ℕ) → Begins
      → ((base_desk : DeskView) (base : Turn) → IsWhole layout base_desk.chain → Attends layout grant base_desk base P desk before here → ComesTo layout grant (HasReplied new given) here)
      → ServedBy layout grant desk before turn → RepliedBefore (view_of new stand true) given seat
  failed_on None new stand given begins went served = absurd served
  failed_on (Some chain) new stand given begins went served =
      let b = begins chain served in replied_before layout grant new stand given here (went (desk_of layout desk chain) here b.0.whole (begun chain b.0 b.1))

-- what is known of a session at a call
pub record AtCall (layout : LayoutShape) (grant : ℕ) (progress : Progress) (stand : Stand) (spent : Bool) (state : SessionState) : Type 0 where
  pub state_is : session_of progress stand spent ≡ state
  pub grant_is : grant ≡ progress.tap.grant
  pub sound : IsSound layout grant
  pub layout_is : entries_at layout.parts (group_of layout.grants state.grant) ≡ state.parts
  pub fit : state.view.spent ≡ false

gone_over : (layout : LayoutShape) (grant : ℕ) (turn : Turn) → IsSeatOver turn.seat.protocol (entries_at layout.parts (group_of layout.grants grant)) (nets_within (group_of layout.grants grant) layout.nets) turn.seat
    → IsSeatOver turn.seat.protocol (entries_at layout.parts (group_of layout.grants grant)) (nets_within (group_of layout.grants grant) layout.nets) (record turn.seat { gone = true })
gone_over layout grant turn over = record { protocol_is = over.protocol_is; made = over.made; paced = by turn.seat.protocol over.paced }
  where
    by : (p : Protocol) → IsPacedBy p turn.seat → IsPacedBy p (record turn.seat { gone = true })
    by Xvc paced = record { tck = paced.tck; timed = paced.timed; acts = paced.acts }
    by Bitbang paced = record { timed = paced.timed; held = paced.held; acts = paced.acts }

fed_over : (layout : LayoutShape) (grant : ℕ) (turn : Turn) (piece : List ℕ) → IsSeatOver turn.seat.protocol (entries_at layout.parts (group_of layout.grants grant)) (nets_within (group_of layout.grants grant) layout.nets) turn.seat
    → IsSeatOver turn.seat.protocol (entries_at layout.parts (group_of layout.grants grant)) (nets_within (group_of layout.grants grant) layout.nets) (received piece turn.seat)
fed_over layout grant turn piece over = record { protocol_is = over.protocol_is; made = over.made; paced = by turn.seat.protocol over.paced }
  where
    by : (p : Protocol) → IsPacedBy p turn.seat → IsPacedBy p (received piece turn.seat)
    by Xvc paced = record { tck = paced.tck; timed = paced.timed; acts = paced.acts }
    by Bitbang paced = record { timed = paced.timed; held = paced.held; acts = paced.acts }

module _ {C : Type 0} (layout : LayoutShape) (grant : ℕ) (old new : Progress) (stand : Stand) (spent : Bool) (state : SessionState) (call : AtCall layout grant old stand spent state)
    (desk next : Token (ParkedView C) (OpenView C)) (before after : Option ChainState) (given : List ℕ) (turn : Turn) where
  own_grant : grant ≡ state.grant
  own_grant = call.grant_is ∙ ap (λ (s : SessionState). s.grant) call.state_is

  own_parts : entries_at layout.parts (group_of layout.grants grant) ≡ old.tap.parts
  own_parts = ap (λ n. entries_at layout.parts (group_of layout.grants n)) own_grant ∙ call.layout_is ∙ ap (λ (s : SessionState). s.parts) (sym call.state_is)

  own_fit : spent ≡ false
  own_fit = ap (λ (s : SessionState). s.view.spent) call.state_is ∙ call.fit

  own_shows : (waits : Bool) → Shows state.view waits turn.seat given → Shows (view_of old stand false) waits turn.seat given
  own_shows waits shows = unspent old stand spent waits turn.seat given (subst (λ (s : SessionState). Shows s.view waits turn.seat given) (sym call.state_is) shows)

  module _ (seat : Seat) (P : Turn → Type 0) (begins : Begins layout grant call.sound desk turn seat P) where
    pub call_came : (stand_new : Stand) (stop : Stop)
        → ((base_desk : DeskView) (base : Turn) → IsWhole layout base_desk.chain → Attends layout grant base_desk base P desk before (record turn { seat = seat })
        → StopsThere layout grant base_desk base (view_of new stand_new false) given stop next after (record turn { seat = seat }))
        → ServedBy layout state.grant desk before turn → CameOn layout state.grant (view_of new stand_new spent) given desk next before after (record turn { seat = seat }) stop
    call_came stand_new stop went = subst (λ n. ServedBy layout n desk before turn → CameOn layout n (view_of new stand_new spent) given desk next before after (record turn { seat = seat }) stop) own_grant
        (λ served. subst (λ s. CameOn layout grant (view_of new stand_new s) given desk next before after (record turn { seat = seat }) stop) (sym own_fit)
        (came_on layout grant call.sound desk turn seat P next before after (view_of new stand_new false) given stop begins went served))

    pub call_failed : ((base_desk : DeskView) (base : Turn) → IsWhole layout base_desk.chain → Attends layout grant base_desk base P desk before (record turn { seat = seat }) → ComesTo layout grant (HasReplied new given) (record turn { seat = seat }))
        → ServedBy layout state.grant desk before turn → RepliedBefore (view_of new stand true) given seat
    call_failed went = subst (λ n. ServedBy layout n desk before turn → RepliedBefore (view_of new stand true) given seat) own_grant
        (λ served. failed_on layout grant call.sound desk turn seat P before new stand given begins went served)

  -- bytes came
  pub begins_fed : (piece : List ℕ) → stand ≡ Stand.Going → AwaitsBytes old.input → reply_of old ≡ [] → length piece ≤ most_bytes - (old.used + length (unused_of old.input)) → Shows state.view false turn.seat given
      → Begins layout grant call.sound desk turn (received piece turn.seat) (ShowsFed old piece grant given)
  begins_fed piece stands awaits none few shows chain serves =
      let own = own_shows false shows in
      let going = is_going false turn.seat stand own.stand (λ free. absurd (let q : Stand.Free ≡ Stand.Going = free ∙ stands in cc)) in (
        serves_on layout (group_of layout.grants grant) grant (desk_of layout desk chain) turn (received piece turn.seat) refl (fed_over layout grant turn piece serves.over) serves,
        fed_shows layout grant old stand false given (desk_of layout desk chain) turn own_parts own serves going piece awaits none few,
      )

  -- the wait is over
  pub begins_resumed : is_in_line stand ≡ true → Shows state.view true turn.seat given → Begins layout grant call.sound desk turn turn.seat (ShowsSeat old grant given)
  begins_resumed line shows chain serves =
      let own = own_shows true shows in
      let going = is_going true turn.seat stand own.stand (λ free. ap is_in_line free ∙ line) in
      (serves, seat_shows layout grant old stand true given (desk_of layout desk chain) turn own_parts own serves going)

  -- the peer of a session that waits for bytes is gone
  pub begins_gone : stand ≡ Stand.Going → KeepsProgress old → AwaitsBytes old.input → Shows state.view (is_in_line state.view.stand) turn.seat given
      → Begins layout grant call.sound desk turn (record turn.seat { gone = true }) (RestsThere old grant given)
  begins_gone stands keeps awaits shows chain serves =
      let line : is_in_line state.view.stand ≡ false = ap (λ (s : SessionState). is_in_line s.view.stand) (sym call.state_is) ∙ ap is_in_line stands in
      let own = own_shows false (subst (λ w. Shows state.view w turn.seat given) line shows) in
      let going = is_going false turn.seat stand own.stand (λ free. absurd (let q : Stand.Free ≡ Stand.Going = free ∙ stands in cc)) in (
        serves_on layout (group_of layout.grants grant) grant (desk_of layout desk chain) turn (record turn.seat { gone = true }) refl (gone_over layout grant turn serves.over) serves,
        rests_gone layout grant old stand false given (desk_of layout desk chain) turn own_parts own serves going keeps awaits,
      )

  -- the peer of a session that waits for the chain is gone
  pub begins_leaving : stand ≡ Stand.Waits → AwaitsCapture old → is_among state.grant (waiting desk) ≡ true → may_open (holder desk) (waiting desk) state.grant ≡ false → Shows state.view (is_in_line state.view.stand) turn.seat given
      → Begins layout grant call.sound desk turn (record turn.seat { gone = true }) (WaitsThere layout old grant given)
  begins_leaving stands awaits among may shows chain serves =
      let line : is_in_line state.view.stand ≡ true = ap (λ (s : SessionState). is_in_line s.view.stand) (sym call.state_is) ∙ ap is_in_line stands in
      let own = own_shows true (subst (λ w. Shows state.view w turn.seat given) line shows) in
      let going = is_going true turn.seat stand own.stand (λ free. absurd (let q : Stand.Free ≡ Stand.Waits = free ∙ stands in cc)) in
      let there : is_among grant turn.waiting ≡ true = (λ i. is_among (own_grant i) (sym serves.waiting i)) ∙ among in
      let not_yet : may_open turn.holder turn.waiting grant ≡ false = (λ i. may_open (sym serves.holder i) (sym serves.waiting i) (own_grant i)) ∙ may in
      let at = seat_shows layout grant old stand true given (desk_of layout desk chain) turn own_parts own serves going in
      let left : Turn = record turn { seat = record turn.seat { gone = true } } in (
        serves_on layout (group_of layout.grants grant) grant (desk_of layout desk chain) turn (record turn.seat { gone = true }) refl (gone_over layout grant turn serves.over) serves,
        record {
          shows = record {
            tap = record {
              going = at.tap.going;
              holds = at.tap.holds;
              types = at.tap.types;
              stands = at.tap.stands;
              protocol = at.tap.protocol;
              uses_trst = at.tap.uses_trst;
              vector = at.tap.vector;
              tck = at.tap.tck;
              trst = at.tap.trst;
            };
            unused = at.unused;
            used = at.used;
            acts = at.acts;
            sampled = at.sampled;
            replies = at.replies;
          };
          rests = waits_rests layout grant left (opens_there old awaits left.seat going at.tap.stands at.acts at.tap.tck at.tap.trst) not_yet there;
          waits = there;
        },
      )

pub leaving_is : (stand : Stand) (seat : Seat) → seat.going ≡ true → stand ≡ stand_of true seat → is_leaving stand ≡ seat.gone
leaving_is stand seat going stands = ap is_leaving (stands ∙ (λ i. cond (going i) (cond seat.gone Stand.Leaving Stand.Waits) Stand.Free)) ∙ by seat.gone
  where
    by : (g : Bool) → is_leaving (cond g Stand.Leaving Stand.Waits) ≡ g
    by true = refl
    by false = refl

pub waits_here : (stand : Stand) → is_waiting stand ≡ true → stand ≡ Stand.Waits
waits_here Stand.Waits h = refl
waits_here Stand.Free h = never h
waits_here Stand.Going h = never h
waits_here Stand.Leaving h = never h

pub going_here : (stand : Stand) → is_here stand ≡ true → is_waiting stand ≡ false → stand ≡ Stand.Going
going_here Stand.Going h n = refl
going_here Stand.Waits h n = never (sym n)
going_here Stand.Free h n = never h
going_here Stand.Leaving h n = never h
