-- The connections of a script before it is played.
use Rattle.std.proofs.Common.{◌≡◌, ◌≤◌, ◌<◌, ◌+◌, ◌*◌, ◌⊎◌, inl, inr, ℕ, Bool, true, false, not, ◌&&◌, ◌||◌, List, [], ◌∷◌, ◌++◌, length, map, take, drop, nat_eq, get_or, set, get_or-set_same, get_or-set_other, ap, ◌∙◌, sym, refl, arith, eq-eqb, subst, append_assoc, if◌then◌else◌, replicate, length-append, drop-cons, add-one}
use Rattle.std.proofs.lemmas.List.{append-nil, map-append, length-map, length-set, length-replicate, get_or-replicate, get_or_append_left, take-append-le, take_all}
use Rattle.std.proofs.Math.Seq.{get_or-append_seam}
use Rattle.std.proofs.lemmas.Bool.{cases_lt}
use Rattle.std.specs.List.{list_any}
use Rattle.wire_port.specs.declared.script.Line.{Line}
use Rattle.wire_port.specs.declared.script.Line.TheVariants as line
use Rattle.wire_port.specs.Steps.{Step, opens, opens_once, has_gone, shuts, taken_from}
use Rattle.wire_port.specs.Offers.{ScriptLine, opens_line, lines_open_once}
use Rattle.wire_port.specs.Offers.ScriptLine.{Open, Send, Drop, Room}
use Rattle.wire_port.specs.Links.{LinkView, LogView, new_link}
use Rattle.wire_port.specs.Scripts.{line_of}
use Rattle.wire_port.specs.Slots.{SlotsView, conns}
use Rattle.wire_port.specs.Playing.{sent, sent_on, opened_by, opened_in, EachFits, EachFresh, Prepared, Offers, IsReady, IsPlay}

-- ---- how many bytes are offered

pub offered_more : (conn : ℕ) (first : ScriptLine) (rest : List ScriptLine) → sent_on conn (first ∷ rest) ≡ sent_on conn (first ∷ []) + sent_on conn rest
offered_more conn (Open other port) rest = omega arith
offered_more conn (Drop other) rest = omega arith
offered_more conn (Room other room) rest = omega arith
offered_more conn (Send other bytes) rest = go (nat_eq other conn)
  where
    go : (t : Bool) → (if t then length bytes + sent_on conn rest else sent_on conn rest) ≡ (if t then length bytes + 0 else 0) + sent_on conn rest
    go true = omega arith
    go false = omega arith

pub next_line : (lines : List Line) (at : ℕ) (here : Line) → at < length lines → here ≡ get_or lines at here → map line_of (drop at lines) ≡ line_of here ∷ map line_of (drop (at + 1) lines)
next_line lines at here within is =
    ap (map line_of) (drop-cons lines at here within ∙ (λ i. sym is i ∷ drop (sym (add-one at) i) lines))

pub none_offered : (table : List ℕ) (lines : List ScriptLine) (now : List ℕ) → table ≡ replicate 65536 0 → length now ≡ length table
    → ((conn default : ℕ) → conn < 65536 → get_or now conn default ≡ get_or table conn default + sent_on conn lines) → Offers now lines
none_offered table lines now zeros same each = record {
  all = same ∙ ap (λ (l : List ℕ). length l) zeros ∙ length-replicate {A = ℕ} 65536 0;
  each = λ conn default below. omega (arith, each conn default below, zero_at conn default below);
}
  where
    zero_at : (conn default : ℕ) → conn < 65536 → get_or table conn default ≡ 0
    zero_at conn default below = ap (λ (l : List ℕ). get_or l conn default) zeros ∙ get_or-replicate 65536 conn 0 default below

pub front_is : (count : ℕ) (front more : List ℕ) → count ≡ length front → take count (front ++ more) ≡ front
front_is count front more is = take-append-le count front more (omega (arith, is)) ∙ take_all count front (omega (arith, is))

-- ---- the connections that are to open

pub none_prepared : (lines : List ScriptLine) (waiting : List LinkView) (table : List ℕ) → lines_open_once lines ≡ true → waiting ≡ [] → table ≡ replicate 65536 0 → Prepared lines lines waiting table
none_prepared lines waiting table once none zeros = subst (λ (w : List LinkView). Prepared lines lines w table) (sym none) (record {
  once = once;
  order = refl;
  apart = λ place within. absurd (omega (arith, within));
  fresh = tt;
  fits = tt;
  places = record {
    all = ap (λ (l : List ℕ). length l) zeros ∙ length-replicate {A = ℕ} 65536 0;
    small = λ place within. absurd (omega (arith, within));
    at = λ place default within. absurd (omega (arith, within));
  };
})

-- a line that opens nothing needs no connection
pub skipped : (all left : List ScriptLine) (first : ScriptLine) (waiting : List LinkView) (table : List ℕ) → ((other : ℕ) → opens_line other first ≡ false) → Prepared all (first ∷ left) waiting table → Prepared all left waiting table
skipped all left (Open conn port) waiting table none prepared = absurd (cc (sym (none conn) ∙ eq-eqb conn conn refl))
skipped all left (Send conn bytes) waiting table none prepared = record { once = prepared.once; order = prepared.order; apart = prepared.apart; fresh = prepared.fresh; fits = prepared.fits; places = prepared.places }
skipped all left (Drop conn) waiting table none prepared = record { once = prepared.once; order = prepared.order; apart = prepared.apart; fresh = prepared.fresh; fits = prepared.fits; places = prepared.places }
skipped all left (Room conn room) waiting table none prepared = record { once = prepared.once; order = prepared.order; apart = prepared.apart; fresh = prepared.fresh; fits = prepared.fits; places = prepared.places }

fresh_more : (waiting : List LinkView) (link : LinkView) → link ≡ new_link link.peer.conn link.offers_left → EachFresh waiting → EachFresh (waiting ++ link ∷ [])
fresh_more [] link is fresh = (is, tt)
fresh_more (first ∷ waiting) link is fresh = (fresh.0, fresh_more waiting link is fresh.1)

fits_more : (all : List ScriptLine) (waiting : List LinkView) (link : LinkView) → sent_on link.peer.conn all ≤ link.offers_left → EachFits all waiting → EachFits all (waiting ++ link ∷ [])
fits_more all [] link room fits = (room, tt)
fits_more all (first ∷ waiting) link room fits = (fits.0, fits_more all waiting link room fits.1)

both : (a b : Bool) → (not a && b) ≡ true → (a ≡ false) × (b ≡ true)
both true b is = absurd (cc is)
both false b is = (refl, is)

behind : (t u : Bool) → (t || u) ≡ false → (t ≡ false) × (u ≡ false)
behind true u at = absurd (cc at)
behind false u at = (refl, at)

pub prepared_more : (all left : List ScriptLine) (conn port : ℕ) (waiting : List LinkView) (table offers : List ℕ) (link : LinkView) (room : ℕ) → Offers offers all → conn < 65536 → room ≡ get_or offers conn room → link ≡ new_link conn room
    → Prepared all (Open conn port ∷ left) waiting table → Prepared all left (waiting ++ link ∷ []) (set table conn (length waiting))
prepared_more all left conn port waiting table offers link room offered below room_is link_is prepared = record {
  once = parts.1;
  order = ap (λ (l : List ℕ). l ++ opened_by left) order_is ∙ append_assoc (conns waiting) (conn ∷ []) (opened_by left) ∙ prepared.order;
  apart = λ place within. later place within (cases place within);
  fresh = fresh_more waiting link (link_is ∙ (λ i. new_link (sym conn_is i) (sym room_of i))) prepared.fresh;
  fits = fits_more all waiting link (omega (arith, offered.each conn room below, room_is, room_of, on_conn)) prepared.fits;
  places = record {
    all = length-set table conn (length waiting) ∙ prepared.places.all;
    small = λ place within. small place (cases_of place within);
    at = λ place default within. found place default (cases_of place within);
  };
}
  where
    parts : (list_any (opens_line conn) left ≡ false) × (lines_open_once left ≡ true)
    parts = both (list_any (opens_line conn) left) (lines_open_once left) prepared.once

    conn_is : link.peer.conn ≡ conn
    conn_is = ap (λ (l : LinkView). l.peer.conn) link_is

    room_of : link.offers_left ≡ room
    room_of = ap (λ (l : LinkView). l.offers_left) link_is

    on_conn : sent_on link.peer.conn all ≡ sent_on conn all
    on_conn = ap (λ (n : ℕ). sent_on n all) conn_is

    order_is : conns (waiting ++ link ∷ []) ≡ conns waiting ++ conn ∷ []
    order_is = map-append (λ (l : LinkView). l.peer.conn) waiting (link ∷ []) ∙ ap (λ (n : ℕ). conns waiting ++ n ∷ []) conn_is

    count : length (conns waiting) ≡ length waiting
    count = length-map waiting (λ (l : LinkView). l.peer.conn)

    -- the place of one before, or of the new one
    Place : ℕ → Type 0
    Place place = ((place < length waiting) × (get_or (conns (waiting ++ link ∷ [])) place 0 ≡ get_or (conns waiting) place 0)) ⊎ ((place ≡ length waiting) × (get_or (conns (waiting ++ link ∷ [])) place 0 ≡ conn))

    split : (place : ℕ) → place < length waiting + 1 → Place place
    split place within = elim (cases_lt place (length waiting)) [
      | inl before ↦ inl (before, ap (λ (l : List ℕ). get_or l place 0) order_is ∙ get_or_append_left (conns waiting) (conn ∷ []) 0 place (omega (arith, before, count)))
      | inr other ↦
          let here : place ≡ length (conns waiting) = omega (arith, other, within, count) in
          inr (here ∙ count, ap (λ (l : List ℕ). get_or l place 0) order_is ∙ ap (λ (n : ℕ). get_or (conns waiting ++ conn ∷ []) n 0) here ∙ get_or-append_seam (conns waiting) conn [] 0)
    ]

    cases : (place : ℕ) → place < length (waiting ++ link ∷ []) → Place place
    cases place within = split place (omega (arith, within, length-append waiting (link ∷ [])))

    cases_of : (place : ℕ) → place < length (conns (waiting ++ link ∷ [])) → Place place
    cases_of place within = split place (omega (arith, within, length-map (waiting ++ link ∷ []) (λ (l : LinkView). l.peer.conn), length-append waiting (link ∷ [])))

    -- one before is another connection
    another : (place : ℕ) → place < length waiting → (nat_eq (get_or (conns waiting) place 0) conn ≡ false) × (list_any (opens_line (get_or (conns waiting) place 0)) left ≡ false)
    another place before = behind (nat_eq (get_or (conns waiting) place 0) conn) (list_any (opens_line (get_or (conns waiting) place 0)) left) (prepared.apart place before)

    later : (place : ℕ) → place < length (waiting ++ link ∷ []) → Place place → list_any (opens_line (get_or (conns (waiting ++ link ∷ [])) place 0)) left ≡ false
    later place within (inl before) = ap (λ (n : ℕ). list_any (opens_line n) left) before.1 ∙ (another place before.0).1
    later place within (inr here) = ap (λ (n : ℕ). list_any (opens_line n) left) here.1 ∙ parts.0

    small : (place : ℕ) → Place place → get_or (conns (waiting ++ link ∷ [])) place 0 < 65536
    small place (inl before) = omega (arith, before.1, prepared.places.small place (omega (arith, before.0, count)))
    small place (inr here) = omega (arith, here.1, below)

    found : (place default : ℕ) → Place place → get_or (set table conn (length waiting)) (get_or (conns (waiting ++ link ∷ [])) place 0) default ≡ place
    found place default (inl before) =
        ap (λ (n : ℕ). get_or (set table conn (length waiting)) n default) before.1
        ∙ get_or-set_other table conn (get_or (conns waiting) place 0) (length waiting) default (λ same. absurd (cc (sym (another place before.0).0 ∙ eq-eqb (get_or (conns waiting) place 0) conn same)))
        ∙ prepared.places.at place default (omega (arith, before.0, count))
    found place default (inr here) =
        ap (λ (n : ℕ). get_or (set table conn (length waiting)) n default) here.1 ∙ get_or-set_same table conn (length waiting) default (omega (arith, below, prepared.places.all)) ∙ sym here.0

-- ---- before the first line

pub ready_play : (lines : List ScriptLine) (slots : SlotsView) (log : LogView) → lines_open_once lines ≡ true → IsReady lines slots → log.steps ≡ [] → sent lines + 3 * length slots.waiting ≤ log.left → sent lines ≤ log.bytes_left
    → IsPlay lines log slots.links slots.waiting []
ready_play lines slots log once ready none room bytes = subst (λ (links : List LinkView). IsPlay lines log links slots.waiting []) (sym ready.links) (record {
  once = ap opens_once none;
  lines_once = once;
  apart = λ conn there. absurd (cc there);
  opened_are = sym (ap opened_in none);
  linked = λ conn. ap (λ (steps : List Step). list_any (opens conn) steps) none;
  gone = λ conn. ap (has_gone conn) none;
  shut = λ conn. ap (λ (steps : List Step). nat_eq (shuts conn steps) 0) none;
  taken = λ conn. ap (taken_from conn) none;
  order = ready.order;
  fresh = ready.fresh;
  fits = ready.fits;
  left = omega (arith, room);
  bytes_left = omega (arith, bytes);
})

pub is_ready : (lines : List ScriptLine) (slots : SlotsView) (table : List ℕ) → slots.links ≡ [] → Prepared lines [] slots.waiting table → IsReady lines slots
is_ready lines slots table none prepared = record { links = none; order = sym (append-nil (conns slots.waiting)) ∙ prepared.order; fresh = prepared.fresh; fits = prepared.fits }

pub not_open : (here : Line) → ((conn port : ℕ) → here ≡ line.Open conn port → ⊥) → (other : ℕ) → opens_line other (line_of here) ≡ false
not_open (line.Open conn port) never other = absurd (never conn port refl)
not_open (line.Send conn bytes) never other = refl
not_open (line.Drop conn) never other = refl
not_open (line.Room conn room) never other = refl
