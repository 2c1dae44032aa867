-- Bytes of the input that came to the session, and their replies that went out.
use Rattle.std.proofs.Common.{◌≡◌, ◌≤◌, ℕ, Bool, true, false, List, [], ◌++◌, length, take, drop, refl, ap, sym, ◌∙◌, subst, append_assoc, take-append-drop, Some, None}
use Rattle.std.specs.declared.option.Option.{Option}
use Rattle.std.specs.Io.KnownBytes.{Appends, Consumes, Keeps, IsAtEnd}
use Rattle.std.proofs.KnownBytes.{Appends-nil, Appends-trans, Consumes-nil, Consumes-trans, Consumes-kept}
use Rattle.std.specs.Prelude.{OnOk, OnErr}
use Rattle.std.specs.Result.{is_ok, is_err}
use Rattle.std.specs.declared.result.Result.{Result}
use Rattle.std.specs.declared.result.Result.TheVariants.{Ok, Err}
use Rattle.std.proofs.lemmas.List.{append-nil, take-append-le}
use Rattle.chain_model.specs.Chains.{ChainState}
use Rattle.chain_token.specs.declared.token.Token.{Token}
use Rattle.grant_table.specs.Layouts.{LayoutShape}
use Rattle.ports.specs.Streams.{AppendsFront}
use Rattle.scan_share.specs.Views.{ParkedView, OpenView}
use Rattle.client_session.specs.declared.End.{End}
use Rattle.client_session.specs.declared.Stand.{Stand}
use Rattle.client_session.specs.Seats.{IsFinished, replies_now}
use Rattle.client_session.specs.Turns.{Turn}
use Rattle.client_session.specs.Laws.{IsByItself}
use Rattle.client_session.specs.Sessions.{DeskView, IsPrefix, SessionView, Shows}
use Rattle.client_session.specs.Stores.{KeepsSession, SessionState}
use Rattle.client_session.specs.Desks.{IsSound, desk_of}
use Rattle.client_session.specs.Calls.{ServedBy}
use Rattle.lone_session.specs.declared.Served.{Served}
use Rattle.lone_session.specs.declared.Served.TheVariants.{Ended, ReadFault, WriteFault}
use Rattle.lone_session.specs.Serving.{Gives, MayEnd, ServedBetween, ServedFrom, WasCutOff, after_bytes}
use Rattle.lone_session.specs.Steps.{Closed, GoesOn, Reached}
use Rattle.lone_session.proofs.Seats.{may_end}
use Rattle.lone_session.proofs.Turns.{reached_front, reaches_none}

front_all : (all : List ℕ) → IsPrefix all all
front_all all = ([], append-nil all)

front_part : (given reply : List ℕ) (count : ℕ) → IsPrefix (given ++ take count reply) (given ++ reply)
front_part given reply count = (drop_rest, append_assoc given (take count reply) drop_rest ∙ ap (λ l. given ++ l) (take-append-drop count reply))
  where
    drop_rest : List ℕ
    drop_rest = drop count reply

module _ {C : Type 0} (layout : LayoutShape) (grant : ℕ) (left rest sent sent' : Option (List ℕ)) (base : DeskView) (desk : Token (ParkedView C) (OpenView C)) (told : Option ChainState) (start : Turn) (taken given replies : List ℕ) where
  pub served_so : (served : Served) (end : End) → Consumes left rest taken → Appends sent sent' given → Closed layout grant base desk told start taken replies end → Gives served end given replies rest
      → ServedFrom layout grant served left rest sent sent' base desk told start
  served_so served end consumed wrote closed gives = by told closed
    where
      by : (t : Option ChainState) → Closed layout grant base desk t start taken replies end → ServedFrom layout grant served left rest sent sent' base desk t start
      by None closed = absurd closed
      by (Some chain) closed = record { taken = taken; given = given; replies = replies; end = end; consumed = consumed; wrote = wrote; closes = closed; gives = gives }

-- ---- a piece that came

module _ {C : Type 0} (layout : LayoutShape) (grant : ℕ) (view : SessionView) (left between rest sent now : Option (List ℕ)) (base : DeskView) (desk : Token (ParkedView C) (OpenView C)) (told : Option ChainState) (start : Turn)
    (went : GoesOn layout grant view left between sent now base desk told start) (piece : List ℕ) (consumed : Consumes between rest piece) where
  all_consumed : Consumes left rest (went.taken ++ piece)
  all_consumed = Consumes-trans left between rest went.taken piece went.consumed consumed

  pub cut_fed : IsPrefix went.given (replies_now (after_bytes (went.taken ++ piece) start.seat)) → WasCutOff left rest sent now start.seat
  cut_fed front = record { taken = went.taken ++ piece; given = went.given; consumed = all_consumed; wrote = went.wrote; front = front }

  module _ (reply : List ℕ) (later : Option (List ℕ)) (next : Token (ParkedView C) (OpenView C)) (after : Option ChainState) where
    -- all replies went out
    pub on_more : (new_view : SessionView) → Appends now later reply → Reached layout grant new_view base next after start (went.taken ++ piece) (went.given ++ reply)
        → GoesOn layout grant new_view left rest sent later base next after start
    on_more new_view wrote reached = record {
      taken = went.taken ++ piece;
      given = went.given ++ reply;
      consumed = all_consumed;
      wrote = Appends-trans sent now later went.given reply went.wrote wrote;
      reached = reached;
    }

    pub on_ended : (end : End) → Appends now later reply → Closed layout grant base next after start (went.taken ++ piece) (went.given ++ reply) end → ((rest : Option (List ℕ)) → MayEnd end rest)
        → ServedFrom layout grant (Ended end) left rest sent later base next after start
    on_ended end wrote closed own =
        served_so layout grant left rest sent later base next after start (went.taken ++ piece) (went.given ++ reply) (went.given ++ reply) (Ended end) end all_consumed
        (Appends-trans sent now later went.given reply went.wrote wrote) closed (refl, refl, own rest)

    -- a front of them did
    pub on_unwritten : (end : End) → AppendsFront now later reply → Closed layout grant base next after start (went.taken ++ piece) (went.given ++ reply) end
        → ServedFrom layout grant WriteFault left rest sent later base next after start
    on_unwritten end wrote closed =
        served_so layout grant left rest sent later base next after start (went.taken ++ piece) (went.given ++ take wrote.0 reply) (went.given ++ reply) WriteFault end all_consumed
        (Appends-trans sent now later went.given (take wrote.0 reply) went.wrote wrote.1) closed (front_part went.given reply wrote.0)

    pub cut_unwritten : (new_view : SessionView) → new_view.stand ≡ Stand.Going → new_view.reply ≡ [] → AppendsFront now later reply → Reached layout grant new_view base next after start (went.taken ++ piece) (went.given ++ reply)
        → WasCutOff left rest sent later start.seat
    cut_unwritten new_view going none wrote reached = record {
      taken = went.taken ++ piece;
      given = went.given ++ take wrote.0 reply;
      consumed = all_consumed;
      wrote = Appends-trans sent now later went.given (take wrote.0 reply) went.wrote wrote.1;
      front = reached_front layout grant new_view base next after start (went.taken ++ piece) (went.given ++ reply) (went.given ++ take wrote.0 reply) going none reached (front_part went.given reply wrote.0);
    }

-- ---- a read without bytes

module _ {C : Type 0} (layout : LayoutShape) (grant : ℕ) (view : SessionView) (left between rest sent now : Option (List ℕ)) (base : DeskView) (desk : Token (ParkedView C) (OpenView C)) (told : Option ChainState) (start : Turn)
    (went : GoesOn layout grant view left between sent now base desk told start) (next : Token (ParkedView C) (OpenView C)) (after : Option ChainState) where
  nothing_more : Consumes between rest [] → Consumes left rest went.taken
  nothing_more consumed = subst (Consumes left rest) (append-nil went.taken) (Consumes-trans left between rest went.taken [] went.consumed consumed)

  pub on_end : (end : End) → Consumes between rest [] → IsAtEnd rest → Closed layout grant base next after start went.taken went.given end → ServedFrom layout grant (Ended end) left rest sent now base next after start
  on_end end consumed at_end closed =
      served_so layout grant left rest sent now base next after start went.taken went.given went.given (Ended end) end (nothing_more consumed) went.wrote closed (refl, refl, may_end end rest at_end)

  pub on_unread : (end : End) → Keeps between rest → Closed layout grant base next after start went.taken went.given end → ServedFrom layout grant ReadFault left rest sent now base next after start
  on_unread end kept closed =
      served_so layout grant left rest sent now base next after start went.taken went.given went.given ReadFault end (Consumes-kept left between rest went.taken went.consumed kept) went.wrote closed refl

  pub cut_end : view.stand ≡ Stand.Going → view.reply ≡ [] → Consumes left rest went.taken → WasCutOff left rest sent now start.seat
  cut_end going none consumed = record {
    taken = went.taken;
    given = went.given;
    consumed = consumed;
    wrote = went.wrote;
    front = reached_front layout grant view base desk told start went.taken went.given went.given going none went.reached (front_all went.given);
  }

  pub cut_at_end : view.stand ≡ Stand.Going → view.reply ≡ [] → Consumes between rest [] → WasCutOff left rest sent now start.seat
  cut_at_end going none consumed = cut_end going none (nothing_more consumed)

  pub cut_unread : view.stand ≡ Stand.Going → view.reply ≡ [] → Keeps between rest → WasCutOff left rest sent now start.seat
  cut_unread going none kept = cut_end going none (Consumes-kept left between rest went.taken went.consumed kept)

-- ---- the whole input

module _ {C : Type 0} (layout : LayoutShape) (grant : ℕ) (sound : IsSound layout grant) (view : SessionView) (left rest sent sent' : Option (List ℕ)) (desk : Token (ParkedView C) (OpenView C)) (start : Turn) (going : view.stand ≡ Stand.Going) where
  begun : (chain : ChainState) → Shows view false start.seat [] → IsFinished start.seat → ServedBy layout grant desk (Some chain) start → IsByItself grant start → GoesOn layout grant view left left sent sent (desk_of layout desk chain) desk (Some chain) start
  begun chain shows done serves itself = record {
    taken = [];
    given = [];
    consumed = Consumes-nil left;
    wrote = Appends-nil sent;
    reached = reaches_none layout grant sound view desk chain start going shows done serves itself;
  }

  pub served_between : (served : Served) (next : Token (ParkedView C) (OpenView C)) (before after : Option ChainState)
      → ((base : DeskView) → GoesOn layout grant view left left sent sent base desk before start → ServedFrom layout grant served left rest sent sent' base next after start)
      → Shows view false start.seat [] → IsFinished start.seat → ServedBy layout grant desk before start → IsByItself grant start
      → ServedBetween layout grant served left rest sent sent' desk next before after start
  served_between served next None after so shows done serves itself = absurd serves
  served_between served next (Some chain) after so shows done serves itself = so (desk_of layout desk chain) (begun chain shows done serves itself)

  pub cut_off : (before : Option ChainState) → ((base : DeskView) → GoesOn layout grant view left left sent sent base desk before start → WasCutOff left rest sent sent' start.seat)
      → Shows view false start.seat [] → IsFinished start.seat → ServedBy layout grant desk before start → IsByItself grant start → WasCutOff left rest sent sent' start.seat
  cut_off None so shows done serves itself = absurd serves
  cut_off (Some chain) so shows done serves itself = so (desk_of layout desk chain) (begun chain shows done serves itself)

pub kept_more : (old mid new : SessionState) → KeepsSession old mid → KeepsSession mid new → KeepsSession old new
kept_more old mid new first second = record {
  grant = second.grant ∙ first.grant;
  parts = second.parts ∙ first.parts;
  protocol = second.protocol ∙ first.protocol;
  uses_trst = second.uses_trst ∙ first.uses_trst;
  vector = second.vector ∙ first.vector;
}

-- the bytes that a read gave, in the buffer
pub piece_of : (before now : Option (List ℕ)) (count : ℕ) (read rest : List ℕ) → count ≤ length read → Consumes before now (take count read) → Consumes before now (take count (read ++ rest))
piece_of before now count read rest le consumed = subst (Consumes before now) (sym (take-append-le count read rest le)) consumed

-- ---- what a result tells

pub ok_so : {T E : Type 0} (P : Type 0) (result : Result T E) (flag : Bool) → flag ≡ is_ok result → flag ≡ true → OnOk result P → P
ok_so P (Ok x) flag is told h = h
ok_so P (Err e) flag is told h = absurd (let q : false ≡ true = sym is ∙ told in cc)

pub not_ok_so : {T E : Type 0} (P : Type 0) (result : Result T E) (flag : Bool) → flag ≡ is_ok result → flag ≡ false → OnErr result P → P
not_ok_so P (Ok x) flag is told h = absurd (let q : true ≡ false = sym is ∙ told in cc)
not_ok_so P (Err e) flag is told h = h

pub err_so : {T E : Type 0} (P : Type 0) (result : Result T E) (flag : Bool) → flag ≡ is_err result → flag ≡ true → OnErr result P → P
err_so P (Ok x) flag is told h = absurd (let q : false ≡ true = sym is ∙ told in cc)
err_so P (Err e) flag is told h = h

pub not_err_so : {T E : Type 0} (P : Type 0) (result : Result T E) (flag : Bool) → flag ≡ is_err result → flag ≡ false → OnOk result P → P
not_err_so P (Ok x) flag is told h = h
not_err_so P (Err e) flag is told h = absurd (let q : true ≡ false = sym is ∙ told in cc)
