use Rattle.std.proofs.Common.{◌≡◌, ◌≤◌, ◌-◌, ◌+◌, ◌∙◌, false, ap, arith, length, refl, subst, sym}
use Rattle.std.proofs.Math.Nat.{min-le_right}
use Rattle.client_session.specs.declared.Stand.{Stand}
use Rattle.client_session.specs.Desks.{cable_of}
use Rattle.client_session.specs.Private.{received}
use Rattle.client_session.specs.Seats.{most_bytes}
use Rattle.client_session.specs.Sessions.{stand_after, wanted_by}
use Rattle.client_session.specs.Stores.{StandsSo, SessionState, replied, unused_of, view_of}
use Rattle.client_session.specs.Calls.{CameOn, ServedBy, ShowsFed}
use Rattle.client_session.proofs.Calling.{AtCall, begins_fed, call_came, call_failed}
use Rattle.client_session.proofs.Emptied.{none_left}
use Rattle.client_session.proofs.session.Session.feed.Goals as goal

pub feed-requires-clause-given : goal.feed-requires-clause-given
feed-requires-clause-given g c =
    none_left (replied c.self.inside.progress.input c.self.inside.progress.said.items) c.self.inside.progress.pending c.self.invariant.keeps.pending (ap (λ (s : SessionState). s.view.reply) c.self.view_is ∙ c.requires.given)

pub returns-in-Ok-clause-came : goal.returns-in-Ok-clause-came
returns-in-Ok-clause-came g c = λ given turn shows.
    let the_call : AtCall c.args.layout.now c.grant-grant.result c.self.inside.progress c.self.inside.stand c.self.inside.spent c.args.self.now = record { state_is = c.self.view_is; grant_is = c.grant-grant.ensures; sound = c.sound.ensures; layout_is = c.requires.layout; fit = c.requires.fit } in
    let stands : c.self.inside.stand ≡ Stand.Going = ap (λ (s : SessionState). s.view.stand) c.self.view_is ∙ c.requires.going in
    let whole_fit : c.self.inside.spent ≡ false = ap (λ (s : SessionState). s.view.spent) c.self.view_is ∙ c.requires.fit in
    let awaits = (subst (λ stand. StandsSo stand c.self.inside.progress) stands (c.self.invariant.stands whole_fit)).0 in
    let few : length c.args.piece.now ≤ most_bytes - (c.self.inside.progress.used + length (unused_of c.self.inside.progress.input)) =
    subst (λ (s : SessionState). length c.args.piece.now ≤ most_bytes - (s.view.used + length s.view.unused)) (sym c.self.view_is) (omega (arith, c.requires.wanted, min-le_right (wanted_by c.args.self.now.view.protocol c.args.self.now.view.vector c.args.self.now.view.unused) (most_bytes - (c.args.self.now.view.used + length c.args.self.now.view.unused)))) in
    let begins = begins_fed c.args.layout.now c.grant-grant.result c.self.inside.progress c.feed.new.self c.self.inside.stand c.self.inside.spent c.args.self.now the_call c.args.desk c.in-Ok.desk (g.C.Cable.chain (cable_of c.args.desk.side)) (g.C.Cable.chain (cable_of c.in-Ok.desk.side)) given turn c.args.piece.now stands awaits (ap (λ (s : SessionState). s.view.reply) c.self.view_is ∙ c.requires.given) few shows in
    subst (λ st. ServedBy c.args.layout.now c.args.self.now.grant c.args.desk (g.C.Cable.chain (cable_of c.args.desk.side)) turn → CameOn c.args.layout.now c.args.self.now.grant (view_of c.feed.new.self st c.self.inside.spent) given c.args.desk c.in-Ok.desk (g.C.Cable.chain (cable_of c.args.desk.side)) (g.C.Cable.chain (cable_of c.in-Ok.desk.side)) (record turn { seat = received c.args.piece.now turn.seat }) c.in-Ok.stop)
    (sym c.after-self-inside.ensures)
    (call_came c.args.layout.now c.grant-grant.result c.self.inside.progress c.feed.new.self c.self.inside.stand c.self.inside.spent c.args.self.now the_call c.args.desk c.in-Ok.desk (g.C.Cable.chain (cable_of c.args.desk.side)) (g.C.Cable.chain (cable_of c.in-Ok.desk.side)) given turn (received c.args.piece.now turn.seat) (ShowsFed c.self.inside.progress c.args.piece.now c.grant-grant.result given) begins (stand_after c.in-Ok.stop false) c.in-Ok.stop
    (λ base_desk base whole attends. c.in-Ok.ensures.went given base_desk base (record turn { seat = received c.args.piece.now turn.seat }) whole (shows.here refl) attends))

pub returns-in-Err-clause-failed : goal.returns-in-Err-clause-failed
returns-in-Err-clause-failed g c = λ given turn shows.
    let the_call : AtCall c.args.layout.now c.grant-grant.result c.self.inside.progress c.self.inside.stand c.self.inside.spent c.args.self.now = record { state_is = c.self.view_is; grant_is = c.grant-grant.ensures; sound = c.sound.ensures; layout_is = c.requires.layout; fit = c.requires.fit } in
    let stands : c.self.inside.stand ≡ Stand.Going = ap (λ (s : SessionState). s.view.stand) c.self.view_is ∙ c.requires.going in
    let whole_fit : c.self.inside.spent ≡ false = ap (λ (s : SessionState). s.view.spent) c.self.view_is ∙ c.requires.fit in
    let awaits = (subst (λ stand. StandsSo stand c.self.inside.progress) stands (c.self.invariant.stands whole_fit)).0 in
    let few : length c.args.piece.now ≤ most_bytes - (c.self.inside.progress.used + length (unused_of c.self.inside.progress.input)) =
    subst (λ (s : SessionState). length c.args.piece.now ≤ most_bytes - (s.view.used + length s.view.unused)) (sym c.self.view_is) (omega (arith, c.requires.wanted, min-le_right (wanted_by c.args.self.now.view.protocol c.args.self.now.view.vector c.args.self.now.view.unused) (most_bytes - (c.args.self.now.view.used + length c.args.self.now.view.unused)))) in
    let begins = begins_fed c.args.layout.now c.grant-grant.result c.self.inside.progress c.feed.new.self c.self.inside.stand c.self.inside.spent c.args.self.now the_call c.args.desk c.args.desk (g.C.Cable.chain (cable_of c.args.desk.side)) (g.C.Cable.chain (cable_of c.args.desk.side)) given turn c.args.piece.now stands awaits (ap (λ (s : SessionState). s.view.reply) c.self.view_is ∙ c.requires.given) few shows in
    call_failed c.args.layout.now c.grant-grant.result c.self.inside.progress c.feed.new.self c.self.inside.stand c.self.inside.spent c.args.self.now the_call c.args.desk c.args.desk (g.C.Cable.chain (cable_of c.args.desk.side)) (g.C.Cable.chain (cable_of c.args.desk.side)) given turn (received c.args.piece.now turn.seat) (ShowsFed c.self.inside.progress c.args.piece.now c.grant-grant.result given) begins
    (λ base_desk base whole attends. c.in-Err.ensures.failed given base_desk base (record turn { seat = received c.args.piece.now turn.seat }) whole attends)
