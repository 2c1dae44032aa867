use Rattle.std.proofs.Common.{◌≡◌, ◌≤◌, ◌∙◌, ◌∷◌, ◌++◌, ap, sym, refl, subst, length, map, true, List, ℕ}
use Rattle.wire_port.specs.declared.script.Line.{Line}
use Rattle.wire_port.specs.declared.wire.Found.TheVariants as found
use Rattle.wire_port.specs.Steps.Step.{Opened}
use Rattle.wire_port.specs.Offers.{ScriptLine}
use Rattle.wire_port.specs.Offers.ScriptLine.{Open, Send, Drop, Room}
use Rattle.wire_port.specs.Links.{LogView, logged, link_offered, link_dropped, link_room}
use Rattle.wire_port.specs.Scripts.{line_of}
use Rattle.wire_port.specs.Slots.{SlotsView, link_of, changed_link, peers_of}
use Rattle.wire_port.specs.Playing.{IsPlay}
use Rattle.wire_port.specs.Played.{told_of, line_found, line_peers, lines_behind}
use Rattle.wire_port.proofs.Moves.{passed}
use Rattle.wire_port.proofs.LineMoves.{first_opens, open_fits, open_told, send_room, send_fits, drop_fits, room_fits, named_told, live_found, shut_found, live_peers, shut_peers}
use Rattle.wire_port.proofs.play.next_line.Goals as goal

-- ---- Send

pub returns-then-is_shut-clause-found : goal.returns-then-is_shut-clause-found
returns-then-is_shut-clause-found c = subst (λ (ls : List ScriptLine). found.Nothing ≡ line_found (peers_of c.args.slots.now.links) ls) (sym (ap (map line_of) (c.in-Some.ensures.cases.0 ∙ ap (λ (l : Line). l ∷ c.in-Some.field-0-1.now) c.in-Send.is) ∙ ap (λ n. Send n c.in-Send.bytes.items ∷ (map line_of c.in-Some.field-0-1.now)) (sym c.from-conn-in-Send.ensures))) (shut_found c.from-conn-in-Send.result c.args.slots.now.links (found.Ready c.from-conn-in-Send.result) (sym c.is_shut.ensures ∙ c.if-is_shut.true))

pub returns-then-is_shut-clause-peers : goal.returns-then-is_shut-clause-peers
returns-then-is_shut-clause-peers c = subst (λ (ls : List ScriptLine). peers_of c.args.slots.now.links ≡ line_peers (peers_of c.args.slots.now.links) ls) (sym (ap (map line_of) (c.in-Some.ensures.cases.0 ∙ ap (λ (l : Line). l ∷ c.in-Some.field-0-1.now) c.in-Send.is) ∙ ap (λ n. Send n c.in-Send.bytes.items ∷ (map line_of c.in-Some.field-0-1.now)) (sym c.from-conn-in-Send.ensures))) (shut_peers c.from-conn-in-Send.result (λ peer. record peer { offered = peer.offered ++ c.in-Send.bytes.items }) c.args.slots.now.links (sym c.is_shut.ensures ∙ c.if-is_shut.true))

pub returns-then-is_shut-clause-play : goal.returns-then-is_shut-clause-play
returns-then-is_shut-clause-play c = subst (λ (ls : List ScriptLine). IsPlay (lines_behind ls) c.args.log.now c.args.slots.now.links c.args.slots.now.waiting c.args.opened.now.items) (sym (ap (map line_of) (c.in-Some.ensures.cases.0 ∙ ap (λ (l : Line). l ∷ c.in-Some.field-0-1.now) c.in-Send.is) ∙ ap (λ n. Send n c.in-Send.bytes.items ∷ (map line_of c.in-Some.field-0-1.now)) (sym c.from-conn-in-Send.ensures))) (passed (Send c.from-conn-in-Send.result c.in-Send.bytes.items) (map line_of c.in-Some.field-0-1.now) c.args.log.now c.args.slots.now.links c.args.slots.now.waiting c.args.opened.now.items (λ _. refl) (subst (λ (ls : List ScriptLine). IsPlay ls c.args.log.now c.args.slots.now.links c.args.slots.now.waiting c.args.opened.now.items) (ap (map line_of) (c.in-Some.ensures.cases.0 ∙ ap (λ (l : Line). l ∷ c.in-Some.field-0-1.now) c.in-Send.is) ∙ ap (λ n. Send n c.in-Send.bytes.items ∷ (map line_of c.in-Some.field-0-1.now)) (sym c.from-conn-in-Send.ensures)) c.requires.play))

pub returns-else-is_shut-clause-found : goal.returns-else-is_shut-clause-found
returns-else-is_shut-clause-found c = subst (λ (ls : List ScriptLine). found.Ready c.from-conn-in-Send.result ≡ line_found (peers_of c.args.slots.now.links) ls) (sym (ap (map line_of) (c.in-Some.ensures.cases.0 ∙ ap (λ (l : Line). l ∷ c.in-Some.field-0-1.now) c.in-Send.is) ∙ ap (λ n. Send n c.in-Send.bytes.items ∷ (map line_of c.in-Some.field-0-1.now)) (sym c.from-conn-in-Send.ensures))) (live_found c.from-conn-in-Send.result c.args.slots.now.links (found.Ready c.from-conn-in-Send.result) (sym c.is_shut.ensures ∙ c.if-is_shut.false))

pub returns-else-is_shut-clause-peers : goal.returns-else-is_shut-clause-peers
returns-else-is_shut-clause-peers c =
    subst (λ (ls : List ScriptLine). peers_of c.offer.new.self.links ≡ line_peers (peers_of c.args.slots.now.links) ls) (sym (ap (map line_of) (c.in-Some.ensures.cases.0 ∙ ap (λ (l : Line). l ∷ c.in-Some.field-0-1.now) c.in-Send.is) ∙ ap (λ n. Send n c.in-Send.bytes.items ∷ (map line_of c.in-Some.field-0-1.now)) (sym c.from-conn-in-Send.ensures)))
    (ap (λ (slots : SlotsView). peers_of slots.links) (c.offer.ensures ∙ ap (λ bytes. record { links = changed_link c.from-conn-in-Send.result (link_offered bytes) c.args.slots.now.links; waiting = c.args.slots.now.waiting }) c.deref.ensures.value) ∙ live_peers c.from-conn-in-Send.result (link_offered c.in-Send.bytes.items) (λ peer. record peer { offered = peer.offered ++ c.in-Send.bytes.items }) c.args.slots.now.links (λ l. refl) (sym c.is_shut.ensures ∙ c.if-is_shut.false))

pub returns-else-is_shut-clause-wire : goal.returns-else-is_shut-clause-wire
returns-else-is_shut-clause-wire c =
    ap (λ (slots : SlotsView). told_of c.args.log.now slots.links) (c.offer.ensures ∙ ap (λ bytes. record { links = changed_link c.from-conn-in-Send.result (link_offered bytes) c.args.slots.now.links; waiting = c.args.slots.now.waiting }) c.deref.ensures.value)
    ∙ named_told c.from-conn-in-Send.result (link_offered c.in-Send.bytes.items) (map line_of c.args.lines.now) c.args.log.now c.args.slots.now.links c.args.slots.now.waiting c.args.opened.now.items (λ l. refl) (λ l. refl) (λ l. refl) (sym c.is_shut.ensures ∙ c.if-is_shut.false) c.requires.play

pub returns-else-is_shut-clause-play : goal.returns-else-is_shut-clause-play
returns-else-is_shut-clause-play c =
    subst (λ (ls : List ScriptLine). IsPlay (lines_behind ls) c.args.log.now c.offer.new.self.links c.offer.new.self.waiting c.args.opened.now.items) (sym (ap (map line_of) (c.in-Some.ensures.cases.0 ∙ ap (λ (l : Line). l ∷ c.in-Some.field-0-1.now) c.in-Send.is) ∙ ap (λ n. Send n c.in-Send.bytes.items ∷ (map line_of c.in-Some.field-0-1.now)) (sym c.from-conn-in-Send.ensures)))
    (subst (λ (slots : SlotsView). IsPlay (map line_of c.in-Some.field-0-1.now) c.args.log.now slots.links slots.waiting c.args.opened.now.items) (sym (c.offer.ensures ∙ ap (λ bytes. record { links = changed_link c.from-conn-in-Send.result (link_offered bytes) c.args.slots.now.links; waiting = c.args.slots.now.waiting }) c.deref.ensures.value)) (send_fits c.from-conn-in-Send.result c.in-Send.bytes.items (map line_of c.in-Some.field-0-1.now) c.args.log.now c.args.slots.now.links c.args.slots.now.waiting c.args.opened.now.items (subst (λ (ls : List ScriptLine). IsPlay ls c.args.log.now c.args.slots.now.links c.args.slots.now.waiting c.args.opened.now.items) (ap (map line_of) (c.in-Some.ensures.cases.0 ∙ ap (λ (l : Line). l ∷ c.in-Some.field-0-1.now) c.in-Send.is) ∙ ap (λ n. Send n c.in-Send.bytes.items ∷ (map line_of c.in-Some.field-0-1.now)) (sym c.from-conn-in-Send.ensures)) c.requires.play)))

pub offer-requires : goal.offer-requires
offer-requires c = λ has. subst (λ (bytes : List ℕ). length bytes ≤ (link_of c.args.slots.now.links c.from-conn-in-Send.result).offers_left) (sym c.deref.ensures.value) (send_room c.from-conn-in-Send.result c.in-Send.bytes.items (map line_of c.in-Some.field-0-1.now) c.args.log.now c.args.slots.now.links c.args.slots.now.waiting c.args.opened.now.items (subst (λ (ls : List ScriptLine). IsPlay ls c.args.log.now c.args.slots.now.links c.args.slots.now.waiting c.args.opened.now.items) (ap (map line_of) (c.in-Some.ensures.cases.0 ∙ ap (λ (l : Line). l ∷ c.in-Some.field-0-1.now) c.in-Send.is) ∙ ap (λ n. Send n c.in-Send.bytes.items ∷ (map line_of c.in-Some.field-0-1.now)) (sym c.from-conn-in-Send.ensures)) c.requires.play) has)

-- ---- Drop

pub returns-then-is_shut-2-clause-found : goal.returns-then-is_shut-2-clause-found
returns-then-is_shut-2-clause-found c = subst (λ (ls : List ScriptLine). found.Nothing ≡ line_found (peers_of c.args.slots.now.links) ls) (sym (ap (map line_of) (c.in-Some.ensures.cases.0 ∙ ap (λ (l : Line). l ∷ c.in-Some.field-0-1.now) c.in-Drop.is) ∙ ap (λ n. Drop n ∷ (map line_of c.in-Some.field-0-1.now)) (sym c.from-conn-in-Drop.ensures))) (shut_found c.from-conn-in-Drop.result c.args.slots.now.links (found.Ready c.from-conn-in-Drop.result) (sym c.is_shut-in-Drop.ensures ∙ c.if-is_shut-2.true))

pub returns-then-is_shut-2-clause-peers : goal.returns-then-is_shut-2-clause-peers
returns-then-is_shut-2-clause-peers c = subst (λ (ls : List ScriptLine). peers_of c.args.slots.now.links ≡ line_peers (peers_of c.args.slots.now.links) ls) (sym (ap (map line_of) (c.in-Some.ensures.cases.0 ∙ ap (λ (l : Line). l ∷ c.in-Some.field-0-1.now) c.in-Drop.is) ∙ ap (λ n. Drop n ∷ (map line_of c.in-Some.field-0-1.now)) (sym c.from-conn-in-Drop.ensures))) (shut_peers c.from-conn-in-Drop.result (λ peer. record peer { is_dropped = true }) c.args.slots.now.links (sym c.is_shut-in-Drop.ensures ∙ c.if-is_shut-2.true))

pub returns-then-is_shut-2-clause-play : goal.returns-then-is_shut-2-clause-play
returns-then-is_shut-2-clause-play c = subst (λ (ls : List ScriptLine). IsPlay (lines_behind ls) c.args.log.now c.args.slots.now.links c.args.slots.now.waiting c.args.opened.now.items) (sym (ap (map line_of) (c.in-Some.ensures.cases.0 ∙ ap (λ (l : Line). l ∷ c.in-Some.field-0-1.now) c.in-Drop.is) ∙ ap (λ n. Drop n ∷ (map line_of c.in-Some.field-0-1.now)) (sym c.from-conn-in-Drop.ensures))) (passed (Drop c.from-conn-in-Drop.result) (map line_of c.in-Some.field-0-1.now) c.args.log.now c.args.slots.now.links c.args.slots.now.waiting c.args.opened.now.items (λ _. refl) (subst (λ (ls : List ScriptLine). IsPlay ls c.args.log.now c.args.slots.now.links c.args.slots.now.waiting c.args.opened.now.items) (ap (map line_of) (c.in-Some.ensures.cases.0 ∙ ap (λ (l : Line). l ∷ c.in-Some.field-0-1.now) c.in-Drop.is) ∙ ap (λ n. Drop n ∷ (map line_of c.in-Some.field-0-1.now)) (sym c.from-conn-in-Drop.ensures)) c.requires.play))

pub returns-else-is_shut-2-clause-found : goal.returns-else-is_shut-2-clause-found
returns-else-is_shut-2-clause-found c = subst (λ (ls : List ScriptLine). found.Ready c.from-conn-in-Drop.result ≡ line_found (peers_of c.args.slots.now.links) ls) (sym (ap (map line_of) (c.in-Some.ensures.cases.0 ∙ ap (λ (l : Line). l ∷ c.in-Some.field-0-1.now) c.in-Drop.is) ∙ ap (λ n. Drop n ∷ (map line_of c.in-Some.field-0-1.now)) (sym c.from-conn-in-Drop.ensures))) (live_found c.from-conn-in-Drop.result c.args.slots.now.links (found.Ready c.from-conn-in-Drop.result) (sym c.is_shut-in-Drop.ensures ∙ c.if-is_shut-2.false))

pub returns-else-is_shut-2-clause-peers : goal.returns-else-is_shut-2-clause-peers
returns-else-is_shut-2-clause-peers c =
    subst (λ (ls : List ScriptLine). peers_of c.drop_peer.new.self.links ≡ line_peers (peers_of c.args.slots.now.links) ls) (sym (ap (map line_of) (c.in-Some.ensures.cases.0 ∙ ap (λ (l : Line). l ∷ c.in-Some.field-0-1.now) c.in-Drop.is) ∙ ap (λ n. Drop n ∷ (map line_of c.in-Some.field-0-1.now)) (sym c.from-conn-in-Drop.ensures)))
    (ap (λ (slots : SlotsView). peers_of slots.links) c.drop_peer.ensures ∙ live_peers c.from-conn-in-Drop.result (link_dropped) (λ peer. record peer { is_dropped = true }) c.args.slots.now.links (λ l. refl) (sym c.is_shut-in-Drop.ensures ∙ c.if-is_shut-2.false))

pub returns-else-is_shut-2-clause-wire : goal.returns-else-is_shut-2-clause-wire
returns-else-is_shut-2-clause-wire c =
    ap (λ (slots : SlotsView). told_of c.args.log.now slots.links) c.drop_peer.ensures
    ∙ named_told c.from-conn-in-Drop.result (link_dropped) (map line_of c.args.lines.now) c.args.log.now c.args.slots.now.links c.args.slots.now.waiting c.args.opened.now.items (λ l. refl) (λ l. refl) (λ l. refl) (sym c.is_shut-in-Drop.ensures ∙ c.if-is_shut-2.false) c.requires.play

pub returns-else-is_shut-2-clause-play : goal.returns-else-is_shut-2-clause-play
returns-else-is_shut-2-clause-play c =
    subst (λ (ls : List ScriptLine). IsPlay (lines_behind ls) c.args.log.now c.drop_peer.new.self.links c.drop_peer.new.self.waiting c.args.opened.now.items) (sym (ap (map line_of) (c.in-Some.ensures.cases.0 ∙ ap (λ (l : Line). l ∷ c.in-Some.field-0-1.now) c.in-Drop.is) ∙ ap (λ n. Drop n ∷ (map line_of c.in-Some.field-0-1.now)) (sym c.from-conn-in-Drop.ensures)))
    (subst (λ (slots : SlotsView). IsPlay (map line_of c.in-Some.field-0-1.now) c.args.log.now slots.links slots.waiting c.args.opened.now.items) (sym c.drop_peer.ensures) (drop_fits c.from-conn-in-Drop.result (map line_of c.in-Some.field-0-1.now) c.args.log.now c.args.slots.now.links c.args.slots.now.waiting c.args.opened.now.items (subst (λ (ls : List ScriptLine). IsPlay ls c.args.log.now c.args.slots.now.links c.args.slots.now.waiting c.args.opened.now.items) (ap (map line_of) (c.in-Some.ensures.cases.0 ∙ ap (λ (l : Line). l ∷ c.in-Some.field-0-1.now) c.in-Drop.is) ∙ ap (λ n. Drop n ∷ (map line_of c.in-Some.field-0-1.now)) (sym c.from-conn-in-Drop.ensures)) c.requires.play)))

-- ---- Room

pub returns-then-is_shut-3-clause-found : goal.returns-then-is_shut-3-clause-found
returns-then-is_shut-3-clause-found c = subst (λ (ls : List ScriptLine). found.Nothing ≡ line_found (peers_of c.args.slots.now.links) ls) (sym (ap (map line_of) (c.in-Some.ensures.cases.0 ∙ ap (λ (l : Line). l ∷ c.in-Some.field-0-1.now) c.in-Room.is) ∙ ap (λ n. Room n c.in-Room.room ∷ (map line_of c.in-Some.field-0-1.now)) (sym c.from-conn-in-Room.ensures))) (shut_found c.from-conn-in-Room.result c.args.slots.now.links (found.Room c.from-conn-in-Room.result) (sym c.is_shut-in-Room.ensures ∙ c.if-is_shut-3.true))

pub returns-then-is_shut-3-clause-peers : goal.returns-then-is_shut-3-clause-peers
returns-then-is_shut-3-clause-peers c = subst (λ (ls : List ScriptLine). peers_of c.args.slots.now.links ≡ line_peers (peers_of c.args.slots.now.links) ls) (sym (ap (map line_of) (c.in-Some.ensures.cases.0 ∙ ap (λ (l : Line). l ∷ c.in-Some.field-0-1.now) c.in-Room.is) ∙ ap (λ n. Room n c.in-Room.room ∷ (map line_of c.in-Some.field-0-1.now)) (sym c.from-conn-in-Room.ensures))) (shut_peers c.from-conn-in-Room.result (λ peer. record peer { room = c.in-Room.room }) c.args.slots.now.links (sym c.is_shut-in-Room.ensures ∙ c.if-is_shut-3.true))

pub returns-then-is_shut-3-clause-play : goal.returns-then-is_shut-3-clause-play
returns-then-is_shut-3-clause-play c = subst (λ (ls : List ScriptLine). IsPlay (lines_behind ls) c.args.log.now c.args.slots.now.links c.args.slots.now.waiting c.args.opened.now.items) (sym (ap (map line_of) (c.in-Some.ensures.cases.0 ∙ ap (λ (l : Line). l ∷ c.in-Some.field-0-1.now) c.in-Room.is) ∙ ap (λ n. Room n c.in-Room.room ∷ (map line_of c.in-Some.field-0-1.now)) (sym c.from-conn-in-Room.ensures))) (passed (Room c.from-conn-in-Room.result c.in-Room.room) (map line_of c.in-Some.field-0-1.now) c.args.log.now c.args.slots.now.links c.args.slots.now.waiting c.args.opened.now.items (λ _. refl) (subst (λ (ls : List ScriptLine). IsPlay ls c.args.log.now c.args.slots.now.links c.args.slots.now.waiting c.args.opened.now.items) (ap (map line_of) (c.in-Some.ensures.cases.0 ∙ ap (λ (l : Line). l ∷ c.in-Some.field-0-1.now) c.in-Room.is) ∙ ap (λ n. Room n c.in-Room.room ∷ (map line_of c.in-Some.field-0-1.now)) (sym c.from-conn-in-Room.ensures)) c.requires.play))

pub returns-else-is_shut-3-clause-found : goal.returns-else-is_shut-3-clause-found
returns-else-is_shut-3-clause-found c = subst (λ (ls : List ScriptLine). found.Room c.from-conn-in-Room.result ≡ line_found (peers_of c.args.slots.now.links) ls) (sym (ap (map line_of) (c.in-Some.ensures.cases.0 ∙ ap (λ (l : Line). l ∷ c.in-Some.field-0-1.now) c.in-Room.is) ∙ ap (λ n. Room n c.in-Room.room ∷ (map line_of c.in-Some.field-0-1.now)) (sym c.from-conn-in-Room.ensures))) (live_found c.from-conn-in-Room.result c.args.slots.now.links (found.Room c.from-conn-in-Room.result) (sym c.is_shut-in-Room.ensures ∙ c.if-is_shut-3.false))

pub returns-else-is_shut-3-clause-peers : goal.returns-else-is_shut-3-clause-peers
returns-else-is_shut-3-clause-peers c =
    subst (λ (ls : List ScriptLine). peers_of c.set_room.new.self.links ≡ line_peers (peers_of c.args.slots.now.links) ls) (sym (ap (map line_of) (c.in-Some.ensures.cases.0 ∙ ap (λ (l : Line). l ∷ c.in-Some.field-0-1.now) c.in-Room.is) ∙ ap (λ n. Room n c.in-Room.room ∷ (map line_of c.in-Some.field-0-1.now)) (sym c.from-conn-in-Room.ensures)))
    (ap (λ (slots : SlotsView). peers_of slots.links) (c.set_room.ensures ∙ ap (λ room. record { links = changed_link c.from-conn-in-Room.result (link_room room) c.args.slots.now.links; waiting = c.args.slots.now.waiting }) c.room_of.ensures) ∙ live_peers c.from-conn-in-Room.result (link_room c.in-Room.room) (λ peer. record peer { room = c.in-Room.room }) c.args.slots.now.links (λ l. refl) (sym c.is_shut-in-Room.ensures ∙ c.if-is_shut-3.false))

pub returns-else-is_shut-3-clause-wire : goal.returns-else-is_shut-3-clause-wire
returns-else-is_shut-3-clause-wire c =
    ap (λ (slots : SlotsView). told_of c.args.log.now slots.links) (c.set_room.ensures ∙ ap (λ room. record { links = changed_link c.from-conn-in-Room.result (link_room room) c.args.slots.now.links; waiting = c.args.slots.now.waiting }) c.room_of.ensures)
    ∙ named_told c.from-conn-in-Room.result (link_room c.in-Room.room) (map line_of c.args.lines.now) c.args.log.now c.args.slots.now.links c.args.slots.now.waiting c.args.opened.now.items (λ l. refl) (λ l. refl) (λ l. refl) (sym c.is_shut-in-Room.ensures ∙ c.if-is_shut-3.false) c.requires.play

pub returns-else-is_shut-3-clause-play : goal.returns-else-is_shut-3-clause-play
returns-else-is_shut-3-clause-play c =
    subst (λ (ls : List ScriptLine). IsPlay (lines_behind ls) c.args.log.now c.set_room.new.self.links c.set_room.new.self.waiting c.args.opened.now.items) (sym (ap (map line_of) (c.in-Some.ensures.cases.0 ∙ ap (λ (l : Line). l ∷ c.in-Some.field-0-1.now) c.in-Room.is) ∙ ap (λ n. Room n c.in-Room.room ∷ (map line_of c.in-Some.field-0-1.now)) (sym c.from-conn-in-Room.ensures)))
    (subst (λ (slots : SlotsView). IsPlay (map line_of c.in-Some.field-0-1.now) c.args.log.now slots.links slots.waiting c.args.opened.now.items) (sym (c.set_room.ensures ∙ ap (λ room. record { links = changed_link c.from-conn-in-Room.result (link_room room) c.args.slots.now.links; waiting = c.args.slots.now.waiting }) c.room_of.ensures)) (room_fits c.from-conn-in-Room.result c.in-Room.room (map line_of c.in-Some.field-0-1.now) c.args.log.now c.args.slots.now.links c.args.slots.now.waiting c.args.opened.now.items (subst (λ (ls : List ScriptLine). IsPlay ls c.args.log.now c.args.slots.now.links c.args.slots.now.waiting c.args.opened.now.items) (ap (map line_of) (c.in-Some.ensures.cases.0 ∙ ap (λ (l : Line). l ∷ c.in-Some.field-0-1.now) c.in-Room.is) ∙ ap (λ n. Room n c.in-Room.room ∷ (map line_of c.in-Some.field-0-1.now)) (sym c.from-conn-in-Room.ensures)) c.requires.play)))

-- ---- Open

pub returns-in-Open-clause-wire : goal.returns-in-Open-clause-wire
returns-in-Open-clause-wire c =
    ap (λ (log : LogView). told_of log c.open.new.self.links) c.opened.ensures
    ∙ open_told c.from-conn.result c.in-Open.port (map line_of c.in-Some.field-0-1.now) c.args.log.now c.args.slots.now c.open.new.self c.args.opened.now.items (first_opens c.from-conn.result c.in-Open.port (map line_of c.in-Some.field-0-1.now) c.args.log.now c.args.slots.now c.open.new.self c.args.opened.now.items c.open.result (subst (λ (ls : List ScriptLine). IsPlay ls c.args.log.now c.args.slots.now.links c.args.slots.now.waiting c.args.opened.now.items) (ap (map line_of) (c.in-Some.ensures.cases.0 ∙ ap (λ (l : Line). l ∷ c.in-Some.field-0-1.now) c.in-Open.is) ∙ ap (λ n. Open n c.in-Open.port ∷ (map line_of c.in-Some.field-0-1.now)) (sym c.from-conn.ensures)) c.requires.play) c.open.ensures) (subst (λ (ls : List ScriptLine). IsPlay ls c.args.log.now c.args.slots.now.links c.args.slots.now.waiting c.args.opened.now.items) (ap (map line_of) (c.in-Some.ensures.cases.0 ∙ ap (λ (l : Line). l ∷ c.in-Some.field-0-1.now) c.in-Open.is) ∙ ap (λ n. Open n c.in-Open.port ∷ (map line_of c.in-Some.field-0-1.now)) (sym c.from-conn.ensures)) c.requires.play)

pub returns-in-Open-clause-fresh : goal.returns-in-Open-clause-fresh
returns-in-Open-clause-fresh c = (open_fits c.from-conn.result c.in-Open.port (map line_of c.in-Some.field-0-1.now) c.args.log.now c.args.slots.now c.open.new.self c.args.opened.now.items (first_opens c.from-conn.result c.in-Open.port (map line_of c.in-Some.field-0-1.now) c.args.log.now c.args.slots.now c.open.new.self c.args.opened.now.items c.open.result (subst (λ (ls : List ScriptLine). IsPlay ls c.args.log.now c.args.slots.now.links c.args.slots.now.waiting c.args.opened.now.items) (ap (map line_of) (c.in-Some.ensures.cases.0 ∙ ap (λ (l : Line). l ∷ c.in-Some.field-0-1.now) c.in-Open.is) ∙ ap (λ n. Open n c.in-Open.port ∷ (map line_of c.in-Some.field-0-1.now)) (sym c.from-conn.ensures)) c.requires.play) c.open.ensures) (subst (λ (ls : List ScriptLine). IsPlay ls c.args.log.now c.args.slots.now.links c.args.slots.now.waiting c.args.opened.now.items) (ap (map line_of) (c.in-Some.ensures.cases.0 ∙ ap (λ (l : Line). l ∷ c.in-Some.field-0-1.now) c.in-Open.is) ∙ ap (λ n. Open n c.in-Open.port ∷ (map line_of c.in-Some.field-0-1.now)) (sym c.from-conn.ensures)) c.requires.play)).0

pub returns-in-Open-clause-play : goal.returns-in-Open-clause-play
returns-in-Open-clause-play c =
    subst (λ (ls : List ScriptLine). IsPlay (lines_behind ls) c.opened.new.self c.open.new.self.links c.open.new.self.waiting c.push_opened.new.opened.items) (sym (ap (map line_of) (c.in-Some.ensures.cases.0 ∙ ap (λ (l : Line). l ∷ c.in-Some.field-0-1.now) c.in-Open.is) ∙ ap (λ n. Open n c.in-Open.port ∷ (map line_of c.in-Some.field-0-1.now)) (sym c.from-conn.ensures)))
    (subst (λ (log : LogView). IsPlay (map line_of c.in-Some.field-0-1.now) log c.open.new.self.links c.open.new.self.waiting c.push_opened.new.opened.items) (sym c.opened.ensures)
    (subst (λ (all : List (ℕ × ℕ)). IsPlay (map line_of c.in-Some.field-0-1.now) (logged (Opened c.from-conn.result c.in-Open.port) c.args.log.now) c.open.new.self.links c.open.new.self.waiting all) (sym c.push_opened.ensures.items)
    (open_fits c.from-conn.result c.in-Open.port (map line_of c.in-Some.field-0-1.now) c.args.log.now c.args.slots.now c.open.new.self c.args.opened.now.items (first_opens c.from-conn.result c.in-Open.port (map line_of c.in-Some.field-0-1.now) c.args.log.now c.args.slots.now c.open.new.self c.args.opened.now.items c.open.result (subst (λ (ls : List ScriptLine). IsPlay ls c.args.log.now c.args.slots.now.links c.args.slots.now.waiting c.args.opened.now.items) (ap (map line_of) (c.in-Some.ensures.cases.0 ∙ ap (λ (l : Line). l ∷ c.in-Some.field-0-1.now) c.in-Open.is) ∙ ap (λ n. Open n c.in-Open.port ∷ (map line_of c.in-Some.field-0-1.now)) (sym c.from-conn.ensures)) c.requires.play) c.open.ensures) (subst (λ (ls : List ScriptLine). IsPlay ls c.args.log.now c.args.slots.now.links c.args.slots.now.waiting c.args.opened.now.items) (ap (map line_of) (c.in-Some.ensures.cases.0 ∙ ap (λ (l : Line). l ∷ c.in-Some.field-0-1.now) c.in-Open.is) ∙ ap (λ n. Open n c.in-Open.port ∷ (map line_of c.in-Some.field-0-1.now)) (sym c.from-conn.ensures)) c.requires.play)).1))
