use Rattle.std.proofs.Common.{◌≡◌, ◌∙◌, false, true, ap, refl, subst, sym}
use Rattle.client_session.specs.declared.Stand.{Stand}
use Rattle.client_session.specs.Desks.{Attends, cable_of}
use Rattle.client_session.specs.Sessions.{is_in_line, is_here, stand_after}
use Rattle.client_session.specs.Stores.{StandsSo, SessionState, view_of}
use Rattle.client_session.specs.declared.halt.Halt.TheVariants as halts
use Rattle.client_session.specs.Calls.{CameOn, RestsThere, ServedBy, WaitsThere}
use Rattle.client_session.proofs.Calling.{AtCall, begins_gone, begins_leaving, call_came, call_failed, comes_replied, going_here, waits_here}
use Rattle.client_session.specs.declared.Stop.{Stop}
use Rattle.client_session.proofs.Stopping.{stops_waiting}
use Rattle.client_session.proofs.session.Session.gone.Goals as goal
use Rattle.client_session.proofs.Coming.{comes_none}

pub returns-then-is_waiting-clause-came : goal.returns-then-is_waiting-clause-came
returns-then-is_waiting-clause-came g c = λ given turn shows.
    let the_call : AtCall c.args.layout.now c.grant-grant.result c.self.inside.progress c.self.inside.stand c.self.inside.spent c.args.self.now = record { state_is = c.self.view_is; grant_is = c.grant-grant.ensures; sound = c.sound.ensures; layout_is = c.requires.layout; fit = c.requires.fit } in
    let whole_fit : c.self.inside.spent ≡ false = ap (λ (s : SessionState). s.view.spent) c.self.view_is ∙ c.requires.fit in
    let stands : c.self.inside.stand ≡ Stand.Waits = waits_here c.self.inside.stand (sym c.is_waiting.ensures ∙ c.if-is_waiting.true) in
    let awaits = (subst (λ stand. StandsSo stand c.self.inside.progress) stands (c.self.invariant.stands whole_fit)).0 in
    let state_stands = ap (λ (s : SessionState). s.view.stand) (sym c.self.view_is) ∙ stands in
    let begins = begins_leaving c.args.layout.now c.grant-grant.result c.self.inside.progress c.self.inside.progress c.self.inside.stand c.self.inside.spent c.args.self.now the_call c.args.desk c.args.desk (g.C.Cable.chain (cable_of c.args.desk.side)) (g.C.Cable.chain (cable_of c.args.desk.side)) given turn stands awaits (c.requires.line ∙ ap is_in_line state_stands) (c.requires.rests state_stands) shows in
    call_came c.args.layout.now c.grant-grant.result c.self.inside.progress c.self.inside.progress c.self.inside.stand c.self.inside.spent c.args.self.now the_call c.args.desk c.args.desk (g.C.Cable.chain (cable_of c.args.desk.side)) (g.C.Cable.chain (cable_of c.args.desk.side)) given turn (record turn.seat { gone = true }) (WaitsThere c.args.layout.now c.self.inside.progress c.grant-grant.result given) begins Stand.Leaving Stop.Waits
    (λ base_desk base whole attends. stops_waiting c.args.layout.now c.grant-grant.result base_desk base given c.self.inside.progress true c.args.desk (g.C.Cable.chain (cable_of c.args.desk.side)) (record turn { seat = record turn.seat { gone = true } }) refl attends)

pub returns-in-Ok-clause-came : goal.returns-in-Ok-clause-came
returns-in-Ok-clause-came g c = λ given turn shows.
    let the_call : AtCall c.args.layout.now c.grant-grant.result c.self.inside.progress c.self.inside.stand c.self.inside.spent c.args.self.now = record { state_is = c.self.view_is; grant_is = c.grant-grant.ensures; sound = c.sound.ensures; layout_is = c.requires.layout; fit = c.requires.fit } in
    let whole_fit : c.self.inside.spent ≡ false = ap (λ (s : SessionState). s.view.spent) c.self.view_is ∙ c.requires.fit in
    let stands : c.self.inside.stand ≡ Stand.Going = going_here c.self.inside.stand (ap (λ (s : SessionState). is_here s.view.stand) c.self.view_is ∙ c.requires.here) (sym c.is_waiting.ensures ∙ c.if-is_waiting.false) in
    let awaits = (subst (λ stand. StandsSo stand c.self.inside.progress) stands (c.self.invariant.stands whole_fit)).0 in
    let begins = begins_gone c.args.layout.now c.grant-grant.result c.self.inside.progress c.settle.new.self c.self.inside.stand c.self.inside.spent c.args.self.now the_call c.args.desk c.in-Ok.desk (g.C.Cable.chain (cable_of c.args.desk.side)) (g.C.Cable.chain (cable_of c.in-Ok.desk.side)) given turn stands c.self.invariant.keeps awaits shows in
    subst (λ st. ServedBy c.args.layout.now c.args.self.now.grant c.args.desk (g.C.Cable.chain (cable_of c.args.desk.side)) turn → CameOn c.args.layout.now c.args.self.now.grant (view_of c.settle.new.self st c.self.inside.spent) given c.args.desk c.in-Ok.desk (g.C.Cable.chain (cable_of c.args.desk.side)) (g.C.Cable.chain (cable_of c.in-Ok.desk.side)) (record turn { seat = record turn.seat { gone = true } }) c.in-Ok.stop)
    (sym c.after-self-inside.ensures)
    (call_came c.args.layout.now c.grant-grant.result c.self.inside.progress c.settle.new.self c.self.inside.stand c.self.inside.spent c.args.self.now the_call c.args.desk c.in-Ok.desk (g.C.Cable.chain (cable_of c.args.desk.side)) (g.C.Cable.chain (cable_of c.in-Ok.desk.side)) given turn (record turn.seat { gone = true }) (RestsThere c.self.inside.progress c.grant-grant.result given) begins (stand_after c.in-Ok.stop true) c.in-Ok.stop
    (λ base_desk base whole attends. c.in-Ok.ensures.went given base_desk base (record turn { seat = record turn.seat { gone = true } }) whole refl attends))

pub returns-in-Err-clause-failed : goal.returns-in-Err-clause-failed
returns-in-Err-clause-failed g c = λ given turn shows.
    let the_call : AtCall c.args.layout.now c.grant-grant.result c.self.inside.progress c.self.inside.stand c.self.inside.spent c.args.self.now = record { state_is = c.self.view_is; grant_is = c.grant-grant.ensures; sound = c.sound.ensures; layout_is = c.requires.layout; fit = c.requires.fit } in
    let whole_fit : c.self.inside.spent ≡ false = ap (λ (s : SessionState). s.view.spent) c.self.view_is ∙ c.requires.fit in
    let stands : c.self.inside.stand ≡ Stand.Going = going_here c.self.inside.stand (ap (λ (s : SessionState). is_here s.view.stand) c.self.view_is ∙ c.requires.here) (sym c.is_waiting.ensures ∙ c.if-is_waiting.false) in
    let awaits = (subst (λ stand. StandsSo stand c.self.inside.progress) stands (c.self.invariant.stands whole_fit)).0 in
    let begins = begins_gone c.args.layout.now c.grant-grant.result c.self.inside.progress c.settle.new.self c.self.inside.stand c.self.inside.spent c.args.self.now the_call c.args.desk c.args.desk (g.C.Cable.chain (cable_of c.args.desk.side)) (g.C.Cable.chain (cable_of c.args.desk.side)) given turn stands c.self.invariant.keeps awaits shows in
    call_failed c.args.layout.now c.grant-grant.result c.self.inside.progress c.settle.new.self c.self.inside.stand c.self.inside.spent c.args.self.now the_call c.args.desk c.args.desk (g.C.Cable.chain (cable_of c.args.desk.side)) (g.C.Cable.chain (cable_of c.args.desk.side)) given turn (record turn.seat { gone = true }) (RestsThere c.self.inside.progress c.grant-grant.result given) begins
    (λ base_desk base whole attends. comes_replied c.args.layout.now c.grant-grant.result base_desk base halts.Rests c.self.inside.progress c.settle.new.self given c.args.desk (g.C.Cable.chain (cable_of c.args.desk.side)) (record turn { seat = record turn.seat { gone = true } }) c.settle.ensures.reply
    (comes_none c.args.layout.now c.grant-grant.result (Attends c.args.layout.now c.grant-grant.result base_desk base (RestsThere c.self.inside.progress c.grant-grant.result given) c.args.desk (g.C.Cable.chain (cable_of c.args.desk.side))) (record turn { seat = record turn.seat { gone = true } }) attends))
