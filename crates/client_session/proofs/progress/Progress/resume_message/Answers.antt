use Rattle.std.proofs.Common.{◌≡◌, None, ap, refl, subst, sym, ◌∙◌}
use Rattle.client_session.specs.declared.input.Input.TheVariants.{Xvc}
use Rattle.client_session.specs.declared.input.Work.TheVariants.{Sampled}
use Rattle.client_session.specs.Calls.{HaltsAt, ShowsSeat}
use Rattle.client_session.specs.Desks.{StopsAt, WaitsBlocked, cable_of}
use Rattle.client_session.specs.Going.{SampledAt}
use Rattle.client_session.specs.Stores.{held_unused, unused_of}
use Rattle.client_session.specs.Ends.{bytes_end}
use Rattle.grant_table.specs.declared.Protocol.TheVariants as protocols
use Rattle.client_session.specs.Messaging.{frame_of, work_of}
use Rattle.client_session.proofs.Messaging.{amid_none, bytes_on, comes_shifting, each_err, has_replied, sampled_at, stays_there, xvc_unused}
use Rattle.client_session.proofs.ByBytes.{halts_by, none_ends}
use Rattle.client_session.proofs.progress.Progress.resume_message.Goals as goal

pub returns-in_err-stop-in-Sampled-clause-failed : goal.returns-in_err-stop-in-Sampled-clause-failed
returns-in_err-stop-in-Sampled-clause-failed g c =
    let old = c.args.self.now in
    let work : work_of old.input ≡ Sampled c.in-Sampled.cycles c.in-Sampled.at = ap work_of c.in-Xvc.is ∙ c.in-Sampled.is in
    let none = amid_none old (Sampled c.in-Sampled.cycles c.in-Sampled.at) c.requires.protocol work (λ said silent. silent) (λ frame said. refl) c.requires.keeps in
    each_err _ c.from_residual.result (λ broken given base_desk base turn whole attends.
    stays_there c.args.layout.now c.args.grant c.requires.sound base_desk base (ShowsSeat old c.args.grant given) _ c.args.desk (g.C.Cable.chain (cable_of c.args.desk.side)) turn
    (λ shows. has_replied old _ c.args.grant given turn none none shows) attends)

pub returns-clause-went : goal.returns-clause-went
returns-clause-went g c = λ given base_desk base turn whole attends.
    let old = c.args.self.now in
    let mid = record old { input = Xvc (record { frame = c.resume_shift.new.frame; work = c.in-Xvc.messages.work }); tap = c.resume_shift.new.tap } in
    let layout = c.args.layout.now in
    let grant = c.args.grant in
    let work : work_of old.input ≡ Sampled c.in-Sampled.cycles c.in-Sampled.at = ap work_of c.in-Xvc.is ∙ c.in-Sampled.is in
    let none = amid_none old (Sampled c.in-Sampled.cycles c.in-Sampled.at) c.requires.protocol work (λ said silent. silent) (λ frame said. refl) c.requires.keeps in
    let unused = ap (λ w. held_unused w c.resume_shift.new.frame) c.in-Sampled.is
    ∙ sym (xvc_unused old.input c.requires.protocol ∙ ap (λ w. held_unused w (frame_of old.input)) work) in
    comes_shifting layout grant c.requires.sound base_desk base (ShowsSeat old grant given) (SampledAt c.in-Xvc.messages.frame old.tap c.in-Sampled.at grant)
    (StopsAt c.in_ok-stop-in-Sampled.stop layout c.resume_shift.new.frame c.resume_shift.new.tap c.in-Sampled.cycles grant) (HaltsAt c.end_shift.result layout c.end_shift.new.self grant given)
    c.args.desk c.in_ok-stop-in-Sampled.next (g.C.Cable.chain (cable_of c.args.desk.side)) (g.C.Cable.chain (cable_of c.in_ok-stop-in-Sampled.next.side)) turn
    (λ shows. subst (λ frame. SampledAt frame old.tap c.in-Sampled.at grant turn) (ap frame_of c.in-Xvc.is) (sampled_at old c.in-Sampled.cycles c.in-Sampled.at grant given turn c.requires.protocol work shows))
    (c.in_ok-stop-in-Sampled.ensures.went base_desk base turn whole)
    (λ last shows kept there. c.end_shift.ensures.went layout grant given last (bytes_on old mid grant given turn last none (sym c.requires.protocol) refl refl refl refl unused refl shows kept) there)
    attends

pub returns-clause-blocked : goal.returns-clause-blocked
returns-clause-blocked g c = subst (λ waits. WaitsBlocked waits c.args.grant c.in_ok-stop-in-Sampled.next) (sym c.end_shift.ensures.waits) c.in_ok-stop-in-Sampled.ensures.blocked

pub returns-clause-ends : goal.returns-clause-ends
returns-clause-ends g c =
    let old = c.args.self.now in
    let work : work_of old.input ≡ Sampled c.in-Sampled.cycles c.in-Sampled.at = ap work_of c.in-Xvc.is ∙ c.in-Sampled.is in
    halts_by (bytes_end protocols.Xvc old.vector old.used (unused_of old.input)) None c.end_shift.result
    (none_ends old.vector old.used (unused_of old.input) (xvc_unused old.input c.requires.protocol ∙ ap (λ w. held_unused w (frame_of old.input)) work)) c.end_shift.ensures.ends
