-- Where a connection stands among others.
use Rattle.std.proofs.Common.{◌≡◌, ◌≢◌, ◌≤◌, ◌<◌, ℕ, zero, suc, Bool, true, false, List, [], ◌∷◌, ◌++◌, length, nat_eq, get_or, set, ap, ◌∙◌, sym, refl, arith, eqb-true, eq-eqb, length-append, subst, append_assoc}
use Rattle.std.proofs.lemmas.List.{map-append, length-map, get_or-map, get_or_append_left}
use Rattle.wire_port.specs.Links.{LinkView}
use Rattle.wire_port.specs.Slots.{conns, has_link, link_of, changed_link, IsTable, IsPlace}

-- a place of a connection among those that have it
record At (conn : ℕ) (links : List LinkView) : Type 0 where
  pub place : ℕ
  pub within : place < length links
  pub here : get_or (conns links) place 0 ≡ conn

at_of : (conn : ℕ) (links : List LinkView) → has_link conn links ≡ true → At conn links
at_of conn [] has = absurd (cc has)
at_of conn (link ∷ links) has = go (nat_eq link.peer.conn conn) refl (at_of conn links) has
  where
    go : (t : Bool) → nat_eq link.peer.conn conn ≡ t → (has_link conn links ≡ true → At conn links) → has_link conn (link ∷ links) ≡ true → At conn (link ∷ links)
    go true is rest at = record { place = 0; within = omega arith; here = eqb-true link.peer.conn conn is }
    go false is rest at = let found = rest (rw is at at) in record { place = suc found.place; within = omega (arith, found.within); here = found.here }

pub none_there : (conn : ℕ) (links : List LinkView) → ((place : ℕ) → place < length links → get_or (conns links) place 0 ≢ conn) → has_link conn links ≡ false
none_there conn links none = go (has_link conn links) refl
  where
    go : (t : Bool) → has_link conn links ≡ t → t ≡ false
    go true has = let at = at_of conn links has in absurd (none at.place at.within at.here)
    go false has = refl

-- the connections that opened come first in the order of all
order_front : (links waiting : List LinkView) (place : ℕ) → place < length links → get_or (conns (links ++ waiting)) place 0 ≡ get_or (conns links) place 0
order_front links waiting place within =
    ap (λ (all : List ℕ). get_or all place 0) (map-append (λ (link : LinkView). link.peer.conn) links waiting)
    ∙ get_or_append_left (conns links) (conns waiting) 0 place (omega (arith, within, length-map links (λ (link : LinkView). link.peer.conn)))

in_order : (links waiting : List LinkView) (place : ℕ) → place < length links → place < length (conns (links ++ waiting))
in_order links waiting place within = omega (arith, within, length-map (links ++ waiting) (λ (link : LinkView). link.peer.conn), length-append links waiting)

small : (table : List ℕ) (links waiting : List LinkView) (conn place : ℕ) → IsTable table (conns (links ++ waiting)) → place < length links → get_or (conns links) place 0 ≡ conn → conn < 65536
small table links waiting conn place is within here = omega (arith, is.small place (in_order links waiting place within), order_front links waiting place within, here)

tabled : (table : List ℕ) (links waiting : List LinkView) (conn place default : ℕ) → IsTable table (conns (links ++ waiting)) → place < length links → get_or (conns links) place 0 ≡ conn → get_or table conn default ≡ place
tabled table links waiting conn place default is within here =
    ap (λ (n : ℕ). get_or table n default) (sym here ∙ sym (order_front links waiting place within)) ∙ is.at place default (in_order links waiting place within)

pub beyond : (table : List ℕ) (links waiting : List LinkView) (conn : ℕ) → IsTable table (conns (links ++ waiting)) → length table ≤ conn → has_link conn links ≡ false
beyond table links waiting conn is far = none_there conn links (λ place within here. absurd (omega (arith, small table links waiting conn place is within here, far, is.all)))

pub not_there : (table : List ℕ) (links waiting : List LinkView) (conn place : ℕ) → IsTable table (conns (links ++ waiting)) → place ≡ get_or table conn place → length links ≤ place → has_link conn links ≡ false
not_there table links waiting conn place is place_is far =
    none_there conn links (λ other within here. absurd (omega (arith, far, within, place_is ∙ tabled table links waiting conn other place is within here)))

pub another_there : (table : List ℕ) (links waiting : List LinkView) (conn place : ℕ) (link : LinkView) → IsTable table (conns (links ++ waiting)) → place ≡ get_or table conn place → link ≡ get_or links place link → place < length links
    → link.peer.conn ≢ conn → has_link conn links ≡ false
another_there table links waiting conn place link is place_is link_is inside ne =
    none_there conn links (λ other within here.
    let same : place ≡ other = place_is ∙ tabled table links waiting conn other place is within here in
    ne (ap (λ (l : LinkView). l.peer.conn) link_is ∙ sym (get_or-map (λ (l : LinkView). l.peer.conn) links place link 0 inside) ∙ ap (λ (n : ℕ). get_or (conns links) n 0) same ∙ here))

pub is_place : (table : List ℕ) (links waiting : List LinkView) (conn place : ℕ) (link : LinkView) → IsTable table (conns (links ++ waiting)) → place ≡ get_or table conn place → link ≡ get_or links place link → place < length links
    → link.peer.conn ≡ conn → IsPlace conn links place
is_place table links waiting conn place link is place_is link_is inside here = record {
  within = inside;
  here = get_or-map (λ (l : LinkView). l.peer.conn) links place link 0 inside ∙ sym (ap (λ (l : LinkView). l.peer.conn) link_is) ∙ here;
  first = λ before below at. absurd (omega (arith, below, place_is ∙ tabled table links waiting conn before place is (omega (arith, below, inside)) at));
}

-- ---- a change at the place of a connection

behind_first : (conn place : ℕ) (link : LinkView) (links : List LinkView) → IsPlace conn (link ∷ links) (suc place) → IsPlace conn links place
behind_first conn place link links is = record {
  within = omega (arith, is.within);
  here = is.here;
  first = λ before below at. is.first (suc before) (omega (arith, below)) at;
}

is_here : (conn : ℕ) (link : LinkView) (links : List LinkView) → IsPlace conn (link ∷ links) 0 → nat_eq link.peer.conn conn ≡ true
is_here conn link links is = eq-eqb link.peer.conn conn is.here

not_here : (conn place : ℕ) (link : LinkView) (links : List LinkView) → IsPlace conn (link ∷ links) (suc place) → nat_eq link.peer.conn conn ≡ false
not_here conn place link links is = go (nat_eq link.peer.conn conn) refl
  where
    go : (t : Bool) → nat_eq link.peer.conn conn ≡ t → t ≡ false
    go true same = absurd (is.first 0 (omega arith) (eqb-true link.peer.conn conn same))
    go false same = refl

pub link_at : (conn : ℕ) (links : List LinkView) (place : ℕ) (default : LinkView) → IsPlace conn links place → link_of links conn ≡ get_or links place default
link_at conn [] place default is = absurd (omega (arith, is.within))
link_at conn (link ∷ links) zero default is = rw (is_here conn link links is) refl
link_at conn (link ∷ links) (suc place) default is = rw (not_here conn place link links is) (link_at conn links place default (behind_first conn place link links is))

pub change_at : (conn : ℕ) (change : LinkView → LinkView) (links : List LinkView) (place : ℕ) (default : LinkView) → IsPlace conn links place → changed_link conn change links ≡ set links place (change (get_or links place default))
change_at conn change [] place default is = absurd (omega (arith, is.within))
change_at conn change (link ∷ links) zero default is = rw (is_here conn link links is) refl
change_at conn change (link ∷ links) (suc place) default is = rw (not_here conn place link links is) (ap (λ (rest : List LinkView). link ∷ rest) (change_at conn change links place default (behind_first conn place link links is)))

pub there_at : (conn : ℕ) (links : List LinkView) (place : ℕ) → IsPlace conn links place → has_link conn links ≡ true
there_at conn [] place is = absurd (omega (arith, is.within))
there_at conn (link ∷ links) zero is = rw (is_here conn link links is) refl
there_at conn (link ∷ links) (suc place) is = rw (not_here conn place link links is) (there_at conn links place (behind_first conn place link links is))

-- a change that keeps a connection's number keeps all numbers
pub conns_stay : (conn : ℕ) (change : LinkView → LinkView) (links : List LinkView) → ((link : LinkView) → (change link).peer.conn ≡ link.peer.conn) → conns (changed_link conn change links) ≡ conns links
conns_stay conn change [] keeps = refl
conns_stay conn change (link ∷ links) keeps = go (nat_eq link.peer.conn conn) refl (conns_stay conn change links keeps)
  where
    go : (t : Bool) → nat_eq link.peer.conn conn ≡ t → conns (changed_link conn change links) ≡ conns links → conns (changed_link conn change (link ∷ links)) ≡ conns (link ∷ links)
    go true is rest = rw is (ap (λ (n : ℕ). n ∷ conns links) (keeps link))
    go false is rest = rw is (ap (λ (all : List ℕ). link.peer.conn ∷ all) rest)

pub slot_changed : (conn : ℕ) (change : LinkView → LinkView) (links : List LinkView) (place : ℕ) (old new : LinkView) → IsPlace conn links place → old ≡ get_or links place old → new ≡ change old → set links place new ≡ changed_link conn change links
slot_changed conn change links place old new is old_is new_is =
    ap (λ (link : LinkView). set links place link) (new_is ∙ ap change old_is) ∙ sym (change_at conn change links place old is)

pub slot_is : (conn : ℕ) (links : List LinkView) (place : ℕ) (old : LinkView) → IsPlace conn links place → old ≡ get_or links place old → old ≡ link_of links conn
slot_is conn links place old is old_is = old_is ∙ sym (link_at conn links place old is)

pub table_stays : (table : List ℕ) (conn : ℕ) (change : LinkView → LinkView) (links waiting now : List LinkView) → ((link : LinkView) → (change link).peer.conn ≡ link.peer.conn) → now ≡ changed_link conn change links
    → IsTable table (conns (links ++ waiting)) → IsTable table (conns (now ++ waiting))
table_stays table conn change links waiting now keeps now_is is =
    let conn_of : LinkView → ℕ = λ (link : LinkView). link.peer.conn in
    let same : conns (now ++ waiting) ≡ conns (links ++ waiting) =
    map-append conn_of now waiting ∙ ap (λ (all : List ℕ). all ++ conns waiting) (ap conns now_is ∙ conns_stay conn change links keeps) ∙ sym (map-append conn_of links waiting) in
    subst (IsTable table) (sym same) is

-- the first of those that wait joins the others, and nothing changes in the order
pub table_opens : (table : List ℕ) (links waiting now left : List LinkView) (link : LinkView) → waiting ≡ link ∷ left → now ≡ links ++ link ∷ [] → IsTable table (conns (links ++ waiting)) → IsTable table (conns (now ++ left))
table_opens table links waiting now left link first joined is =
    let same : links ++ waiting ≡ now ++ left = ap (λ (all : List LinkView). links ++ all) first ∙ sym (append_assoc links (link ∷ []) left) ∙ ap (λ (all : List LinkView). all ++ left) (sym joined) in
    subst (λ (all : List LinkView). IsTable table (conns all)) same is

-- where the connection is not among them, nothing changes
pub none_changed : (conn : ℕ) (change : LinkView → LinkView) (links : List LinkView) → has_link conn links ≡ false → changed_link conn change links ≡ links
none_changed conn change [] none = refl
none_changed conn change (link ∷ links) none = go (nat_eq link.peer.conn conn) refl (none_changed conn change links) none
  where
    go : (t : Bool) → nat_eq link.peer.conn conn ≡ t → (has_link conn links ≡ false → changed_link conn change links ≡ links) → has_link conn (link ∷ links) ≡ false → changed_link conn change (link ∷ links) ≡ link ∷ links
    go true is rest at = absurd (cc (rw is at at))
    go false is rest at = rw is (ap (λ (all : List LinkView). link ∷ all) (rest (rw is at at)))
