use Rattle.std.proofs.Common.{ap, refl, subst, sym, ◌∙◌}
use Rattle.client_session.specs.declared.input.Input.TheVariants.{Xvc}
use Rattle.client_session.specs.declared.input.Work.TheVariants.{Shifting}
use Rattle.client_session.specs.Calls.{HaltsAt, ShowsSeat}
use Rattle.client_session.specs.Desks.{StopsAt, WaitsBlocked, cable_of}
use Rattle.client_session.specs.Going.{ShiftsAt}
use Rattle.client_session.specs.Stores.{held_unused}
use Rattle.client_session.specs.Messaging.{frame_of, work_of}
use Rattle.client_session.proofs.Messaging.{amid_none, bytes_on, comes_shifting, each_err, has_replied, shifts_at, stays_there, xvc_unused}
use Rattle.client_session.proofs.progress.Progress.make_shift.Goals as goal

pub returns-in_err-stop-in-Xvc-clause-failed : goal.returns-in_err-stop-in-Xvc-clause-failed
returns-in_err-stop-in-Xvc-clause-failed g c =
    let old = c.args.self.now in
    let none = amid_none old (Shifting c.args.cycles 0) c.requires.protocol c.requires.work (λ said silent. silent) (λ frame said. refl) c.requires.keeps in
    each_err _ c.from_residual.result (λ broken given base_desk base turn whole attends.
    stays_there c.args.layout.now c.args.grant c.requires.sound base_desk base (ShowsSeat old c.args.grant given) _ c.args.desk (g.C.Cable.chain (cable_of c.args.desk.side)) turn
    (λ shows. has_replied old _ c.args.grant given turn none none shows) attends)

pub returns-clause-went : goal.returns-clause-went
returns-clause-went g c = λ given base_desk base turn whole attends.
    let old = c.args.self.now in
    let mid = record old { input = Xvc (record { frame = c.shift_on.new.frame; work = c.in-Xvc.messages.work }); tap = c.shift_on.new.tap } in
    let layout = c.args.layout.now in
    let grant = c.args.grant in
    let none = amid_none old (Shifting c.args.cycles 0) c.requires.protocol c.requires.work (λ said silent. silent) (λ frame said. refl) c.requires.keeps in
    let unused = ap (λ work. held_unused work c.shift_on.new.frame) (ap work_of (sym c.in-Xvc.is) ∙ c.requires.work)
    ∙ sym (xvc_unused old.input c.requires.protocol ∙ ap (λ work. held_unused work (frame_of old.input)) c.requires.work) in
    comes_shifting layout grant c.requires.sound base_desk base (ShowsSeat old grant given) (ShiftsAt c.in-Xvc.messages.frame old.tap 0 grant)
    (StopsAt c.in_ok-stop-in-Xvc.stop layout c.shift_on.new.frame c.shift_on.new.tap c.args.cycles grant) (HaltsAt c.end_shift.result layout c.end_shift.new.self grant given)
    c.args.desk c.in_ok-stop-in-Xvc.next (g.C.Cable.chain (cable_of c.args.desk.side)) (g.C.Cable.chain (cable_of c.in_ok-stop-in-Xvc.next.side)) turn
    (λ shows. subst (λ frame. ShiftsAt frame old.tap 0 grant turn) (ap frame_of c.in-Xvc.is) (shifts_at old c.args.cycles 0 grant given turn c.requires.protocol c.requires.work shows))
    (c.in_ok-stop-in-Xvc.ensures.went base_desk base turn whole)
    (λ last shows kept there. c.end_shift.ensures.went layout grant given last (bytes_on old mid grant given turn last none (sym c.requires.protocol) refl refl refl refl unused refl shows kept) there)
    attends

pub returns-clause-blocked : goal.returns-clause-blocked
returns-clause-blocked g c = subst (λ waits. WaitsBlocked waits c.args.grant c.in_ok-stop-in-Xvc.next) (sym c.end_shift.ensures.waits) c.in_ok-stop-in-Xvc.ensures.blocked
