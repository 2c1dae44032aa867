-- The connections of a script wire, in the order in which they open.
use Rattle.std.specs.Prelude.{◌≡◌, ◌≢◌, ◌<◌, ℕ, Bool, ◌==◌, List, [], ◌∷◌, ◌++◌, map, length, slice_index_or, if◌then◌else◌}
use Rattle.std.specs.List.{list_any}
use Rattle.std.specs.declared.option.Option.{Option}
use Rattle.std.specs.declared.option.Option.TheVariants.{None, Some}
use Rattle.wire_port.specs.Offers.{Peer}
use Rattle.wire_port.specs.Links.{LinkView, new_link}

-- those that opened, and those that are to open
pub record SlotsView : Type 0 where
  pub links : List LinkView
  pub waiting : List LinkView

abbrev pub conns : List LinkView → List ℕ
conns links = map (λ link. link.peer.conn) links

abbrev pub peers_of : List LinkView → List Peer
peers_of links = map (λ link. link.peer) links

-- one of them is this connection
abbrev pub has_link : ℕ → List LinkView → Bool
has_link conn links = list_any (λ link. link.peer.conn == conn) links

-- the one that is this connection
abbrev pub link_of : List LinkView → ℕ → LinkView
link_of [] conn = new_link conn 0
link_of (link ∷ links) conn = if link.peer.conn == conn then link else link_of links conn

-- after a change of the one that is this connection
abbrev pub changed_link : ℕ → (LinkView → LinkView) → List LinkView → List LinkView
changed_link conn change [] = []
changed_link conn change (link ∷ links) = if link.peer.conn == conn then change link ∷ links else link ∷ changed_link conn change links

-- a table has the place of each connection
pub record IsTable (table order : List ℕ) : Type 0 where
  pub all : length table ≡ 65536
  pub small : (place : ℕ) → place < length order → slice_index_or order place 0 < 65536
  pub at : (place default : ℕ) → place < length order → slice_index_or table (slice_index_or order place 0) default ≡ place

-- the first of them that is this connection stands at this place
pub record IsPlace (conn : ℕ) (links : List LinkView) (place : ℕ) : Type 0 where
  pub within : place < length links
  pub here : slice_index_or (conns links) place 0 ≡ conn
  pub first : (before : ℕ) → before < place → slice_index_or (conns links) before 0 ≢ conn

-- the connections after a change of one that opened
abbrev pub after_change : ℕ → (LinkView → LinkView) → SlotsView → SlotsView
after_change conn change slots = record slots { links = changed_link conn change slots.links }

-- the first of those that are to open is the last that opened, and it is this connection; or none is to open
abbrev pub Opens : SlotsView → Option ℕ → SlotsView → Type 0
Opens old None new = (old.waiting ≡ []) × (new ≡ old)
Opens old (Some conn) new = (link : LinkView) × (old.waiting ≡ link ∷ new.waiting) × (new.links ≡ old.links ++ link ∷ []) × (conn ≡ link.peer.conn)
