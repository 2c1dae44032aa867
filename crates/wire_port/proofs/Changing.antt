-- Connections after a change of one of them.
use Rattle.std.proofs.Common.{◌≡◌, ◌≢◌, ◌≤◌, ◌+◌, ℕ, Bool, true, false, List, [], ◌∷◌, ◌++◌, nat_eq, ◌||◌, ap, ◌∙◌, sym, refl, arith, eqb-true, eq-eqb, subst}
use Rattle.wire_port.specs.Offers.{ScriptLine, Peer, peer_of, changed_peer}
use Rattle.wire_port.specs.Links.{LinkView, new_link}
use Rattle.wire_port.specs.Slots.{peers_of, has_link, link_of, changed_link}
use Rattle.wire_port.specs.Playing.{sent_on, total, EachFits}

pub apart : (a b : ℕ) → a ≢ b → nat_eq a b ≡ false
apart a b ne = go (nat_eq a b) refl
  where
    go : (t : Bool) → nat_eq a b ≡ t → t ≡ false
    go true is = absurd (ne (eqb-true a b is))
    go false is = refl

abbrev pub Keeps : (LinkView → LinkView) → Type 0
Keeps change = (link : LinkView) → (change link).peer.conn ≡ link.peer.conn

pub same_link : (conn : ℕ) (change : LinkView → LinkView) (links : List LinkView) → Keeps change → has_link conn links ≡ true → link_of (changed_link conn change links) conn ≡ change (link_of links conn)
same_link conn change [] keeps has = absurd (cc has)
same_link conn change (link ∷ links) keeps has = go (nat_eq link.peer.conn conn) refl (same_link conn change links keeps) has
  where
    go : (t : Bool) → nat_eq link.peer.conn conn ≡ t → (has_link conn links ≡ true → link_of (changed_link conn change links) conn ≡ change (link_of links conn)) → has_link conn (link ∷ links) ≡ true
        → link_of (changed_link conn change (link ∷ links)) conn ≡ change (link_of (link ∷ links) conn)
    go true is rest at = rw is (rw (keeps link) (rw is refl))
    go false is rest at = rw is (rw is (rest (rw is at at)))

pub other_link : (conn : ℕ) (change : LinkView → LinkView) (links : List LinkView) (other : ℕ) → Keeps change → other ≢ conn → link_of (changed_link conn change links) other ≡ link_of links other
other_link conn change [] other keeps ne = refl
other_link conn change (link ∷ links) other keeps ne = go (nat_eq link.peer.conn conn) refl (other_link conn change links other keeps ne)
  where
    here : nat_eq link.peer.conn conn ≡ true → nat_eq link.peer.conn other ≡ false
    here is = apart link.peer.conn other (λ same. ne (sym same ∙ eqb-true link.peer.conn conn is))

    inner : (t : Bool) → nat_eq link.peer.conn other ≡ t → link_of (changed_link conn change links) other ≡ link_of links other → link_of (link ∷ changed_link conn change links) other ≡ link_of (link ∷ links) other
    inner true is rest = rw is refl
    inner false is rest = rw is rest

    go : (t : Bool) → nat_eq link.peer.conn conn ≡ t → link_of (changed_link conn change links) other ≡ link_of links other → link_of (changed_link conn change (link ∷ links)) other ≡ link_of (link ∷ links) other
    go true is rest = rw is (rw (keeps link) (rw (here is) refl))
    go false is rest = rw is (inner (nat_eq link.peer.conn other) refl rest)

-- what the change keeps of one link is kept of all
pub kept : {A : Type 0} (conn : ℕ) (change : LinkView → LinkView) (links : List LinkView) (other : ℕ) (part : LinkView → A) → Keeps change → ((link : LinkView) → part (change link) ≡ part link)
    → part (link_of (changed_link conn change links) other) ≡ part (link_of links other)
kept conn change [] other part keeps same = refl
kept conn change (link ∷ links) other part keeps same = go (nat_eq link.peer.conn conn) refl (kept conn change links other part keeps same)
  where
    inner : (t : Bool) → nat_eq link.peer.conn other ≡ t → part (link_of (changed_link conn change links) other) ≡ part (link_of links other)
        → part (link_of (link ∷ changed_link conn change links) other) ≡ part (link_of (link ∷ links) other)
    inner true is rest = rw is refl
    inner false is rest = rw is rest

    first : (t : Bool) → nat_eq link.peer.conn other ≡ t → part (link_of (change link ∷ links) other) ≡ part (link_of (link ∷ links) other)
    first true is = let at : nat_eq (change link).peer.conn other ≡ true = ap (λ (n : ℕ). nat_eq n other) (keeps link) ∙ is in rw (at, is) (same link)
    first false is = let at : nat_eq (change link).peer.conn other ≡ false = ap (λ (n : ℕ). nat_eq n other) (keeps link) ∙ is in rw (at, is) refl

    go : (t : Bool) → nat_eq link.peer.conn conn ≡ t → part (link_of (changed_link conn change links) other) ≡ part (link_of links other)
        → part (link_of (changed_link conn change (link ∷ links)) other) ≡ part (link_of (link ∷ links) other)
    go true is rest = rw is (first (nat_eq link.peer.conn other) refl)
    go false is rest = rw is (inner (nat_eq link.peer.conn other) refl rest)

pub by_conn : (conn : ℕ) (change : LinkView → LinkView) (links : List LinkView) → Keeps change → has_link conn links ≡ true → (P : ℕ → LinkView → Type 0) → P conn (change (link_of links conn))
    → ((other : ℕ) → other ≢ conn → P other (link_of links other)) → (other : ℕ) → P other (link_of (changed_link conn change links) other)
by_conn conn change links keeps has P here elsewhere other = go (nat_eq other conn) refl
  where
    go : (t : Bool) → nat_eq other conn ≡ t → P other (link_of (changed_link conn change links) other)
    go true is = subst (λ (n : ℕ). P n (link_of (changed_link conn change links) n)) (sym (eqb-true other conn is)) (subst (P conn) (sym (same_link conn change links keeps has)) here)
    go false is =
        let ne : other ≢ conn = λ same. absurd (cc (sym is ∙ ap (λ (n : ℕ). nat_eq n conn) same ∙ eq-eqb conn conn refl)) in
        subst (P other) (sym (other_link conn change links other keeps ne)) (elsewhere other ne)

pub has_changed : (conn : ℕ) (change : LinkView → LinkView) (links : List LinkView) (other : ℕ) → Keeps change → has_link other (changed_link conn change links) ≡ has_link other links
has_changed conn change [] other keeps = refl
has_changed conn change (link ∷ links) other keeps = go (nat_eq link.peer.conn conn) refl (has_changed conn change links other keeps)
  where
    go : (t : Bool) → nat_eq link.peer.conn conn ≡ t → has_link other (changed_link conn change links) ≡ has_link other links → has_link other (changed_link conn change (link ∷ links)) ≡ has_link other (link ∷ links)
    go true is rest = rw is (rw (keeps link) refl)
    go false is rest = rw is (rw rest refl)

pub total_changed : (weight : LinkView → ℕ) (conn : ℕ) (change : LinkView → LinkView) (links : List LinkView) → has_link conn links ≡ true
    → total weight (changed_link conn change links) + weight (link_of links conn) ≡ total weight links + weight (change (link_of links conn))
total_changed weight conn change [] has = absurd (cc has)
total_changed weight conn change (link ∷ links) has = go (nat_eq link.peer.conn conn) refl (total_changed weight conn change links) has
  where
    go : (t : Bool) → nat_eq link.peer.conn conn ≡ t
        → (has_link conn links ≡ true → total weight (changed_link conn change links) + weight (link_of links conn) ≡ total weight links + weight (change (link_of links conn))) → has_link conn (link ∷ links) ≡ true
        → total weight (changed_link conn change (link ∷ links)) + weight (link_of (link ∷ links) conn) ≡ total weight (link ∷ links) + weight (change (link_of (link ∷ links) conn))
    go true is rest at = rw is (omega arith)
    go false is rest at = let so = rest (rw is at at) in rw is (omega (arith, so))

pub each_fewer : (links : List LinkView) (lines now : List ScriptLine) → ((other : ℕ) → sent_on other now ≤ sent_on other lines) → EachFits lines links → EachFits now links
each_fewer [] lines now fewer fits = tt
each_fewer (link ∷ links) lines now fewer fits = (omega (arith, fewer link.peer.conn, fits.0), each_fewer links lines now fewer fits.1)

pub fits_changed : (conn : ℕ) (change : LinkView → LinkView) (links rest : List LinkView) (lines now : List ScriptLine) → Keeps change → ((other : ℕ) → sent_on other now ≤ sent_on other lines)
    → (has_link conn links ≡ true → sent_on conn now ≤ (change (link_of links conn)).offers_left) → EachFits lines (links ++ rest) → EachFits now (changed_link conn change links ++ rest)
fits_changed conn change [] [] lines now keeps fewer here fits = tt
fits_changed conn change [] (link ∷ rest) lines now keeps fewer here fits = (omega (arith, fewer link.peer.conn, fits.0), fits_changed conn change [] rest lines now keeps fewer here fits.1)
fits_changed conn change (link ∷ links) rest lines now keeps fewer here fits = go (nat_eq link.peer.conn conn) refl here (λ at. fits_changed conn change links rest lines now keeps fewer at fits.1) (each_fewer (links ++ rest) lines now fewer fits.1)
  where
    go : (t : Bool) → nat_eq link.peer.conn conn ≡ t → (has_link conn (link ∷ links) ≡ true → sent_on conn now ≤ (change (link_of (link ∷ links) conn)).offers_left)
        → ((has_link conn links ≡ true → sent_on conn now ≤ (change (link_of links conn)).offers_left) → EachFits now (changed_link conn change links ++ rest)) → EachFits now (links ++ rest)
        → EachFits now (changed_link conn change (link ∷ links) ++ rest)
    go true is at more others = rw is (subst (λ (n : ℕ). sent_on n now ≤ (change link).offers_left) (sym (keeps link ∙ eqb-true link.peer.conn conn is)) (rw is at (at (rw is refl))), others)
    go false is at more others = rw is ((omega (arith, fewer link.peer.conn, fits.0)), more (λ has. rw is at (at (rw is has))))

-- ---- peers

pub peer_is : (links : List LinkView) (conn : ℕ) → peer_of (peers_of links) conn ≡ (link_of links conn).peer
peer_is [] conn = refl
peer_is (link ∷ links) conn = go (nat_eq link.peer.conn conn) refl (peer_is links conn)
  where
    go : (t : Bool) → nat_eq link.peer.conn conn ≡ t → peer_of (peers_of links) conn ≡ (link_of links conn).peer → peer_of (peers_of (link ∷ links)) conn ≡ (link_of (link ∷ links) conn).peer
    go true is rest = rw is refl
    go false is rest = rw is rest

pub peers_changed : (conn : ℕ) (change : LinkView → LinkView) (links : List LinkView) (turn : Peer → Peer) → ((link : LinkView) → (change link).peer ≡ turn link.peer) → peers_of (changed_link conn change links) ≡ changed_peer conn turn (peers_of links)
peers_changed conn change [] turn same = refl
peers_changed conn change (link ∷ links) turn same = go (nat_eq link.peer.conn conn) refl (peers_changed conn change links turn same)
  where
    go : (t : Bool) → nat_eq link.peer.conn conn ≡ t → peers_of (changed_link conn change links) ≡ changed_peer conn turn (peers_of links) → peers_of (changed_link conn change (link ∷ links)) ≡ changed_peer conn turn (peers_of (link ∷ links))
    go true is rest = rw is (ap (λ (peer : Peer). peer ∷ peers_of links) (same link))
    go false is rest = rw is (ap (λ (peers : List Peer). link.peer ∷ peers) rest)

pub peers_stay : (conn : ℕ) (change : LinkView → LinkView) (links : List LinkView) → ((link : LinkView) → (change link).peer ≡ link.peer) → peers_of (changed_link conn change links) ≡ peers_of links
peers_stay conn change [] same = refl
peers_stay conn change (link ∷ links) same = go (nat_eq link.peer.conn conn) refl (peers_stay conn change links same)
  where
    go : (t : Bool) → nat_eq link.peer.conn conn ≡ t → peers_of (changed_link conn change links) ≡ peers_of links → peers_of (changed_link conn change (link ∷ links)) ≡ peers_of (link ∷ links)
    go true is rest = rw is (ap (λ (peer : Peer). peer ∷ peers_of links) (same link))
    go false is rest = rw is (ap (λ (peers : List Peer). link.peer ∷ peers) rest)

-- ---- one more connection

pub link_joined : (links : List LinkView) (link : LinkView) (other : ℕ) → has_link other links ≡ true → link_of (links ++ link ∷ []) other ≡ link_of links other
link_joined [] link other has = absurd (cc has)
link_joined (first ∷ links) link other has = go (nat_eq first.peer.conn other) refl (link_joined links link other) has
  where
    go : (t : Bool) → nat_eq first.peer.conn other ≡ t → (has_link other links ≡ true → link_of (links ++ link ∷ []) other ≡ link_of links other) → has_link other (first ∷ links) ≡ true
        → link_of (first ∷ links ++ link ∷ []) other ≡ link_of (first ∷ links) other
    go true is rest at = rw is refl
    go false is rest at = rw is (rest (rw is at at))

pub link_behind : (links : List LinkView) (link : LinkView) (other : ℕ) → has_link other links ≡ false → link_of (links ++ link ∷ []) other ≡ link_of (link ∷ []) other
link_behind [] link other none = refl
link_behind (first ∷ links) link other none = go (nat_eq first.peer.conn other) refl (link_behind links link other) none
  where
    go : (t : Bool) → nat_eq first.peer.conn other ≡ t → (has_link other links ≡ false → link_of (links ++ link ∷ []) other ≡ link_of (link ∷ []) other) → has_link other (first ∷ links) ≡ false
        → link_of (first ∷ links ++ link ∷ []) other ≡ link_of (link ∷ []) other
    go true is rest at = absurd (cc (rw is at at))
    go false is rest at = rw is (rest (rw is at at))

pub none_of : (links : List LinkView) (other : ℕ) → has_link other links ≡ false → link_of links other ≡ new_link other 0
none_of [] other none = refl
none_of (first ∷ links) other none = go (nat_eq first.peer.conn other) refl (none_of links other) none
  where
    go : (t : Bool) → nat_eq first.peer.conn other ≡ t → (has_link other links ≡ false → link_of links other ≡ new_link other 0) → has_link other (first ∷ links) ≡ false → link_of (first ∷ links) other ≡ new_link other 0
    go true is rest at = absurd (cc (rw is at at))
    go false is rest at = rw is (rest (rw is at at))

pub has_joined : (links : List LinkView) (link : LinkView) (other : ℕ) → has_link other (links ++ link ∷ []) ≡ (has_link other links || nat_eq link.peer.conn other)
has_joined [] link other = or_false (nat_eq link.peer.conn other)
  where
    or_false : (t : Bool) → (t || false) ≡ t
    or_false true = refl
    or_false false = refl
has_joined (first ∷ links) link other = go (nat_eq first.peer.conn other) (has_joined links link other)
  where
    go : (t : Bool) → has_link other (links ++ link ∷ []) ≡ (has_link other links || nat_eq link.peer.conn other) → (t || has_link other (links ++ link ∷ [])) ≡ ((t || has_link other links) || nat_eq link.peer.conn other)
    go true rest = refl
    go false rest = rest

pub total_joined : (weight : LinkView → ℕ) (links : List LinkView) (link : LinkView) → total weight (links ++ link ∷ []) ≡ total weight links + weight link
total_joined weight [] link = omega arith
total_joined weight (first ∷ links) link = omega (arith, total_joined weight links link)

pub weight_within : (weight : LinkView → ℕ) (conn : ℕ) (links : List LinkView) → has_link conn links ≡ true → weight (link_of links conn) ≤ total weight links
weight_within weight conn [] has = absurd (cc has)
weight_within weight conn (link ∷ links) has = go (nat_eq link.peer.conn conn) refl (weight_within weight conn links) has
  where
    go : (t : Bool) → nat_eq link.peer.conn conn ≡ t → (has_link conn links ≡ true → weight (link_of links conn) ≤ total weight links) → has_link conn (link ∷ links) ≡ true → weight (link_of (link ∷ links) conn) ≤ total weight (link ∷ links)
    go true is rest at = rw is (omega arith)
    go false is rest at = let within = rest (rw is at at) in rw is (omega (arith, within))

pub fits_here : (conn : ℕ) (links rest : List LinkView) (lines : List ScriptLine) → has_link conn links ≡ true → EachFits lines (links ++ rest) → sent_on conn lines ≤ (link_of links conn).offers_left
fits_here conn [] rest lines has fits = absurd (cc has)
fits_here conn (link ∷ links) rest lines has fits = go (nat_eq link.peer.conn conn) refl (λ at. fits_here conn links rest lines at fits.1) has
  where
    go : (t : Bool) → nat_eq link.peer.conn conn ≡ t → (has_link conn links ≡ true → sent_on conn lines ≤ (link_of links conn).offers_left) → has_link conn (link ∷ links) ≡ true → sent_on conn lines ≤ (link_of (link ∷ links) conn).offers_left
    go true is more at = rw is (subst (λ (n : ℕ). sent_on n lines ≤ link.offers_left) (eqb-true link.peer.conn conn is) fits.0)
    go false is more at = rw is (more (rw is at at))

-- of one to which nothing came yet, nothing more is seen
pub fresh_joined : {A : Type 0} (links : List LinkView) (link : LinkView) (other : ℕ) (part : LinkView → A) → link ≡ new_link link.peer.conn link.offers_left → ((n m : ℕ) → part (new_link n m) ≡ part (new_link other 0))
    → part (link_of (links ++ link ∷ []) other) ≡ part (link_of links other)
fresh_joined links link other part fresh plain = go (has_link other links) refl
  where
    inner : (t : Bool) → nat_eq link.peer.conn other ≡ t → part (link_of (link ∷ []) other) ≡ part (new_link other 0)
    inner true is = rw is (ap part fresh ∙ plain link.peer.conn link.offers_left)
    inner false is = rw is refl

    go : (t : Bool) → has_link other links ≡ t → part (link_of (links ++ link ∷ []) other) ≡ part (link_of links other)
    go true has = ap part (link_joined links link other has)
    go false has = ap part (link_behind links link other has) ∙ inner (nat_eq link.peer.conn other) refl ∙ sym (ap part (none_of links other has))
