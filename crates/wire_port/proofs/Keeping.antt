-- What the calls on a connection keep.
use Rattle.std.proofs.Common.{◌≡◌, ℕ, List, refl}
use Rattle.wire_port.specs.Offers.{Answer}
use Rattle.wire_port.specs.Links.{LinkView, link_after_take, link_after_give}

pub take_keeps : (answer : Answer) (link : LinkView) → (link_after_take answer link).peer.conn ≡ link.peer.conn
take_keeps (Answer.Bytes bytes) link = refl
take_keeps Answer.NotNow link = refl
take_keeps Answer.Gone link = refl

pub give_keeps : (piece : List ℕ) (answer : Answer) (link : LinkView) → (link_after_give piece answer link).peer.conn ≡ link.peer.conn
give_keeps piece (Answer.Bytes bytes) link = refl
give_keeps piece Answer.NotNow link = refl
give_keeps piece Answer.Gone link = refl
