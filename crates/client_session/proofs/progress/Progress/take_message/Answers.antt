use Rattle.std.proofs.Common.{◌+◌, ◌++◌, ap, sym, ◌∙◌, Some, None}
use Rattle.grant_table.specs.declared.Protocol.TheVariants as protocols
use Rattle.xvc_frame.specs.declared.FrameStep.TheVariants as steps
use Rattle.client_session.specs.declared.End.TheVariants as ends
use Rattle.client_session.specs.Stores.{unused_of}
use Rattle.client_session.specs.Ends.{bytes_end}
use Rattle.client_session.specs.declared.halt.Halt.TheVariants.{Rests, Ends}
use Rattle.client_session.specs.Calls.{HaltsAt, ShowsFed, ShowsSeat}
use Rattle.client_session.specs.Desks.{cable_of}
use Rattle.client_session.proofs.Messaging.{attends_as, comes_quietly, if_err, if_ok, quietly_none, rests_there, taken_shows}
use Rattle.client_session.proofs.ByBytes.{halts_by, taken_ends}
use Rattle.client_session.proofs.progress.Progress.take_message.Goals as goal

pub returns-in-More-clause-went : goal.returns-in-More-clause-went
returns-in-More-clause-went g c = λ given base_desk base turn whole attends.
    let mid = c.take_bytes.new.self in
    let taken = c.in-More.ensures.taken in
    comes_quietly c.args.layout.now c.args.grant c.requires.sound base_desk base (ShowsFed c.args.self.now c.args.piece.now c.args.grant given) (HaltsAt Rests c.args.layout.now mid c.args.grant given)
    c.args.desk (g.C.Cable.chain (cable_of c.args.desk.side)) turn
    (λ fed. quietly_none c.args.layout.now c.args.grant (HaltsAt Rests c.args.layout.now mid c.args.grant given) turn
    (rests_there mid c.args.grant given turn taken.replied taken.work
    (taken_shows c.args.self.now mid c.args.piece.now c.args.grant given turn taken.replied.protocol taken.work taken.replied.pending c.in-More.ensures.lines c.in-More.ensures.bytes fed) taken.told.0 taken.told.1))
    attends

pub returns-in-Refused-clause-went : goal.returns-in-Refused-clause-went
returns-in-Refused-clause-went g c = λ given base_desk base turn whole attends.
    let mid = c.take_bytes.new.self in
    let taken = c.in-Refused.ensures.taken in
    let halts = HaltsAt (Ends c.refuse-end.result) c.args.layout.now c.refuse-end.new.self c.args.grant given in
    comes_quietly c.args.layout.now c.args.grant c.requires.sound base_desk base (ShowsFed c.args.self.now c.args.piece.now c.args.grant given) halts
    c.args.desk (g.C.Cable.chain (cable_of c.args.desk.side)) turn
    (λ fed. quietly_none c.args.layout.now c.args.grant halts turn
    (c.refuse-end.ensures.went c.args.grant given turn
    (taken_shows c.args.self.now mid c.args.piece.now c.args.grant given turn taken.replied.protocol taken.work taken.replied.pending c.in-Refused.ensures.lines c.in-Refused.ensures.bytes fed)))
    attends

pub returns-in-Whole-clause-went : goal.returns-in-Whole-clause-went
returns-in-Whole-clause-went g c =
    let taken = c.in-Whole.ensures.taken in
    if_ok _ _ c.use_message.result
    (λ pair went given base_desk base turn whole attends. went given base_desk base turn whole
    (attends_as c.args.layout.now c.args.grant c.requires.sound base_desk base (ShowsFed c.args.self.now c.args.piece.now c.args.grant given) (ShowsSeat c.take_bytes.new.self c.args.grant given) c.args.desk (g.C.Cable.chain (cable_of c.args.desk.side)) turn
    (taken_shows c.args.self.now c.take_bytes.new.self c.args.piece.now c.args.grant given turn taken.replied.protocol taken.work taken.replied.pending c.in-Whole.ensures.lines c.in-Whole.ensures.bytes) attends))
    c.use_message.ensures.went

pub returns-in-Whole-clause-failed : goal.returns-in-Whole-clause-failed
returns-in-Whole-clause-failed g c =
    let taken = c.in-Whole.ensures.taken in
    if_err _ _ c.use_message.result
    (λ broken went given base_desk base turn whole attends. went given base_desk base turn whole
    (attends_as c.args.layout.now c.args.grant c.requires.sound base_desk base (ShowsFed c.args.self.now c.args.piece.now c.args.grant given) (ShowsSeat c.take_bytes.new.self c.args.grant given) c.args.desk (g.C.Cable.chain (cable_of c.args.desk.side)) turn
    (taken_shows c.args.self.now c.take_bytes.new.self c.args.piece.now c.args.grant given turn taken.replied.protocol taken.work taken.replied.pending c.in-Whole.ensures.lines c.in-Whole.ensures.bytes) attends))
    c.use_message.ensures.failed

pub returns-in-More-clause-ends : goal.returns-in-More-clause-ends
returns-in-More-clause-ends g c = taken_ends c.args.self.now c.take_bytes.new.self c.args.piece.now steps.More c.in-More.ensures.taken c.in-More.ensures.lines c.in-More.ensures.bytes

pub returns-in-Refused-clause-ends : goal.returns-in-Refused-clause-ends
returns-in-Refused-clause-ends g c =
    taken_ends c.args.self.now c.take_bytes.new.self c.args.piece.now (steps.Refused c.in-Refused.at c.in-Refused.cause) c.in-Refused.ensures.taken c.in-Refused.ensures.lines c.in-Refused.ensures.bytes
    ∙ ap (λ used. Some (ends.Refused (used + c.in-Refused.at) c.in-Refused.cause)) (sym c.in-Refused.ensures.bytes.used) ∙ ap Some (sym c.refuse-end.ensures.place)

pub returns-in-Whole-clause-ends : goal.returns-in-Whole-clause-ends
returns-in-Whole-clause-ends g c =
    if_ok _ _ c.use_message.result
    (λ pair by. halts_by (bytes_end protocols.Xvc c.args.self.now.vector c.args.self.now.used (unused_of c.args.self.now.input ++ c.args.piece.now)) None pair.0
    (taken_ends c.args.self.now c.take_bytes.new.self c.args.piece.now (steps.Whole c.in-Whole.message) c.in-Whole.ensures.taken c.in-Whole.ensures.lines c.in-Whole.ensures.bytes) by)
    c.use_message.ensures.ends
