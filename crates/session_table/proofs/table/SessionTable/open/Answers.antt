use Rattle.std.proofs.Common.{◌∙◌, ap}
use Rattle.plays.specs.Stands.{SeatView}
use Rattle.session_table.proofs.Opened.{opens_play}
use Rattle.session_table.proofs.Opening.{begins_view, begun_view, none_yet, seats_of, table_begun}
use Rattle.session_table.proofs.Telling.{inside_of, stand_is}
use Rattle.session_table.proofs.table.SessionTable.open.Goals as goal

pub invariant_of-self : goal.invariant_of-self
invariant_of-self g c =
    table_begun c.args.grant c.args.conn c.self.inside.seats c.open.new.self c.open.ensures.begins (inside_of c.args.self.now c.self.inside.seats c.self.inside.slot c.self.inside.there c.self.view_is c.args.grant c.requires.grant)
    c.self.inside.slot (λ cable. g.C.Cable.chain cable) (λ cable. g.C.Cable.trst cable)
    (stand_is c.args.self.now c.self.inside.seats c.self.inside.slot c.self.inside.there c.self.view_is c.args.grant ∙ c.requires.free)
    (none_yet c.args.self.now c.self.inside.seats c.open.new.self c.self.inside.slot c.self.inside.there c.self-1.given.0 c.self.view_is c.requires.ended) c.self.invariant

pub returns-clause-going : goal.returns-clause-going
returns-clause-going g c =
    let view = begun_view c.args.self.now c.self.inside.seats c.open.new.self c.self.inside.slot c.self.inside.there c.self-1.given.0 c.self.view_is c.args.grant c.args.conn c.open.ensures.begins c.requires.grant in
    (ap (λ (v : SeatView). v.session.stand) view ∙ c.open.ensures.begins.going, ap (λ (v : SeatView). v.session.reply) view ∙ c.open.ensures.begins.reply, ap (λ (v : SeatView). v.conn) view)

pub returns-clause-kept : goal.returns-clause-kept
returns-clause-kept g c = begins_view c.args.self.now c.self.inside.seats c.open.new.self c.self.inside.slot c.self.inside.there c.self-1.given.0 c.self.view_is c.args.grant c.args.conn c.open.ensures.begins c.requires.grant

pub returns-clause-opened : goal.returns-clause-opened
returns-clause-opened g c =
    opens_play c.args.self.now c.self.inside.seats c.open.new.self c.self.inside.slot c.self.inside.there c.self-1.given.0 c.self.view_is
    (seats_of c.args.self.now c.self.inside.seats c.open.new.self c.self.inside.slot c.self.inside.there c.self-1.given.0 c.self.view_is (λ cable. g.C.Cable.chain cable) (λ cable. g.C.Cable.trst cable) c.self.invariant c.requires.fit)
    c.args.grant c.args.conn c.open.ensures.begins c.open.ensures.shown c.requires.grant c.requires.free
