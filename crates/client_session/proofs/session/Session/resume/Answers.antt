use Rattle.std.proofs.Common.{◌≡◌, ◌∙◌, true, ap, subst, sym}
use Rattle.client_session.specs.Desks.{cable_of}
use Rattle.client_session.specs.Sessions.{is_in_line, is_leaving, stand_after}
use Rattle.client_session.specs.Stores.{SessionState, view_of}
use Rattle.client_session.specs.Calls.{CameOn, ServedBy, ShowsSeat}
use Rattle.client_session.proofs.Calling.{AtCall, begins_resumed, call_came, call_failed, is_going, leaving_is}
use Rattle.client_session.proofs.session.Session.resume.Goals as goal

pub returns-in-Ok-clause-came : goal.returns-in-Ok-clause-came
returns-in-Ok-clause-came g c = λ given turn shows.
    let the_call : AtCall c.args.layout.now c.grant-grant.result c.self.inside.progress c.self.inside.stand c.self.inside.spent c.args.self.now = record { state_is = c.self.view_is; grant_is = c.grant-grant.ensures; sound = c.sound.ensures; layout_is = c.requires.layout; fit = c.requires.fit } in
    let line : is_in_line c.self.inside.stand ≡ true = ap (λ (s : SessionState). is_in_line s.view.stand) c.self.view_is ∙ c.requires.waits in
    let begins = begins_resumed c.args.layout.now c.grant-grant.result c.self.inside.progress c.resume.new.self c.self.inside.stand c.self.inside.spent c.args.self.now the_call c.args.desk c.in-Ok.desk (g.C.Cable.chain (cable_of c.args.desk.side)) (g.C.Cable.chain (cable_of c.in-Ok.desk.side)) given turn line shows in
    let own_stand : c.self.inside.stand ≡ _ = ap (λ (s : SessionState). s.view.stand) c.self.view_is ∙ shows.stand in
    let leaves = c.is_leaving-gone.ensures ∙ leaving_is c.self.inside.stand turn.seat (is_going true turn.seat c.self.inside.stand own_stand (λ free. ap is_in_line free ∙ line)) own_stand in
    subst (λ st. ServedBy c.args.layout.now c.args.self.now.grant c.args.desk (g.C.Cable.chain (cable_of c.args.desk.side)) turn → CameOn c.args.layout.now c.args.self.now.grant (view_of c.resume.new.self st c.self.inside.spent) given c.args.desk c.in-Ok.desk (g.C.Cable.chain (cable_of c.args.desk.side)) (g.C.Cable.chain (cable_of c.in-Ok.desk.side)) turn c.in-Ok.stop)
    (sym c.after-self-inside.ensures)
    (call_came c.args.layout.now c.grant-grant.result c.self.inside.progress c.resume.new.self c.self.inside.stand c.self.inside.spent c.args.self.now the_call c.args.desk c.in-Ok.desk (g.C.Cable.chain (cable_of c.args.desk.side)) (g.C.Cable.chain (cable_of c.in-Ok.desk.side)) given turn turn.seat (ShowsSeat c.self.inside.progress c.grant-grant.result given) begins (stand_after c.in-Ok.stop c.is_leaving-gone.result) c.in-Ok.stop
    (λ base_desk base whole attends. c.in-Ok.ensures.went given base_desk base turn whole (sym leaves) attends))

pub returns-in-Ok-clause-stands : goal.returns-in-Ok-clause-stands
returns-in-Ok-clause-stands g c = c.after-self-inside.ensures ∙ ap (stand_after c.in-Ok.stop) (c.is_leaving-gone.ensures ∙ ap (λ (s : SessionState). is_leaving s.view.stand) c.self.view_is)

pub returns-in-Err-clause-failed : goal.returns-in-Err-clause-failed
returns-in-Err-clause-failed g c = λ given turn shows.
    let the_call : AtCall c.args.layout.now c.grant-grant.result c.self.inside.progress c.self.inside.stand c.self.inside.spent c.args.self.now = record { state_is = c.self.view_is; grant_is = c.grant-grant.ensures; sound = c.sound.ensures; layout_is = c.requires.layout; fit = c.requires.fit } in
    let line : is_in_line c.self.inside.stand ≡ true = ap (λ (s : SessionState). is_in_line s.view.stand) c.self.view_is ∙ c.requires.waits in
    let begins = begins_resumed c.args.layout.now c.grant-grant.result c.self.inside.progress c.resume.new.self c.self.inside.stand c.self.inside.spent c.args.self.now the_call c.args.desk c.args.desk (g.C.Cable.chain (cable_of c.args.desk.side)) (g.C.Cable.chain (cable_of c.args.desk.side)) given turn line shows in
    let own_stand : c.self.inside.stand ≡ _ = ap (λ (s : SessionState). s.view.stand) c.self.view_is ∙ shows.stand in
    let leaves = c.is_leaving-gone.ensures ∙ leaving_is c.self.inside.stand turn.seat (is_going true turn.seat c.self.inside.stand own_stand (λ free. ap is_in_line free ∙ line)) own_stand in
    call_failed c.args.layout.now c.grant-grant.result c.self.inside.progress c.resume.new.self c.self.inside.stand c.self.inside.spent c.args.self.now the_call c.args.desk c.args.desk (g.C.Cable.chain (cable_of c.args.desk.side)) (g.C.Cable.chain (cable_of c.args.desk.side)) given turn turn.seat (ShowsSeat c.self.inside.progress c.grant-grant.result given) begins
    (λ base_desk base whole attends. c.in-Err.ensures.failed given base_desk base turn whole attends)
