-- What the sessions of a hub stand for depends neither on which of them are ready, nor on which are told to have ended.
use Rattle.std.proofs.Common.{ℕ, Bool, List}
use Rattle.std.specs.declared.option.Option.{Option}
use Rattle.std.specs.declared.option.Option.TheVariants.{None, Some}
use Rattle.chain_model.specs.Chains.{ChainState}
use Rattle.wire_port.specs.Wires.{WireView}
use Rattle.plays.specs.Plays.{Setting, Play, SessionEnd}
use Rattle.plays.specs.Stands.{HubView}
use Rattle.session_table.specs.Tables.{TableStands}
use Rattle.hub.specs.Standing.{StandsBut, StandsOnBut}

pub table_apart : (setting : Setting) (hub : HubView) (ready : List Bool) (ended : List SessionEnd) (given : ℕ → List ℕ) (chain : ChainState) (play : Play)
    → TableStands setting hub given chain play → TableStands setting (record hub { ready = ready; ended = ended }) given chain play
table_apart setting hub ready ended given chain play t = record {
  layout = t.layout;
  vector = t.vector;
  trst = t.trst;
  fit = t.fit;
  holder = t.holder;
  waiting = t.waiting;
  joins = t.joins;
  seats = t.seats;
  holds = t.holds;
  whole = t.whole;
  made = t.made;
  scan = t.scan;
  between = t.between;
}

pub stands_apart : (setting : Setting) (left : List SessionEnd) (hub : HubView) (ready : List Bool) (ended : List SessionEnd) (chain : ChainState) (wire : WireView)
    → StandsBut setting left hub chain wire → StandsBut setting left (record hub { ready = ready; ended = ended }) chain wire
stands_apart setting left hub ready ended chain wire s = record {
  once = s.once;
  given = s.given;
  table = table_apart setting hub ready ended s.given chain _ s.table;
  peers = s.peers;
  attended = s.attended;
  left_is = s.left_is;
  past = s.past;
  elsewhere = s.elsewhere;
}

-- the same where the cable and the wire may tell nothing
pub stands_on_apart : (setting : Setting) (left : List SessionEnd) (hub : HubView) (ready : List Bool) (ended : List SessionEnd) (chain : Option ChainState) (wire : Option WireView)
    → StandsOnBut setting left hub chain wire → StandsOnBut setting left (record hub { ready = ready; ended = ended }) chain wire
stands_on_apart setting left hub ready ended None wire s = s
stands_on_apart setting left hub ready ended (Some chain) None s = s
stands_on_apart setting left hub ready ended (Some chain) (Some wire) s = stands_apart setting left hub ready ended chain wire s
