use Rattle.std.proofs.Common.{}
use Rattle.client_session.specs.declared.halt.Halt.TheVariants.{Rests}
use Rattle.client_session.specs.Calls.{HaltsAt, HasReplied, ShowsSeat}
use Rattle.client_session.specs.Desks.{Attends, cable_of}
use Rattle.client_session.proofs.Messaging.{comes_quietly, if_err, if_ok}
use Rattle.client_session.proofs.progress.Progress.use_message.Goals as goal
use Rattle.client_session.proofs.Coming.{comes_more}

pub returns-in-GetInfo-clause-went : goal.returns-in-GetInfo-clause-went
returns-in-GetInfo-clause-went g c = λ given base_desk base turn whole attends.
    comes_quietly c.args.layout.now c.args.grant c.requires.sound base_desk base (ShowsSeat c.args.self.now c.args.grant given) (HaltsAt Rests c.args.layout.now c.reply_info.new.self c.args.grant given)
    c.args.desk (g.C.Cable.chain (cable_of c.args.desk.side)) turn (c.reply_info.ensures.went c.args.layout.now c.args.grant given turn) attends

pub returns-in-SetTck-clause-went : goal.returns-in-SetTck-clause-went
returns-in-SetTck-clause-went g c = λ given base_desk base turn whole attends.
    comes_quietly c.args.layout.now c.args.grant c.requires.sound base_desk base (ShowsSeat c.args.self.now c.args.grant given) (HaltsAt Rests c.args.layout.now c.reply_period.new.self c.args.grant given)
    c.args.desk (g.C.Cable.chain (cable_of c.args.desk.side)) turn (c.reply_period.ensures.went c.args.layout.now c.args.grant given turn) attends

pub returns-in-Shift-clause-went : goal.returns-in-Shift-clause-went
returns-in-Shift-clause-went g c =
    if_ok _ _ c.make_shift.result
    (λ pair went given base_desk base turn whole attends.
    let told = g.C.Cable.chain (cable_of c.args.desk.side) in
    let layout = c.args.layout.now in
    let grant = c.args.grant in
    comes_more layout grant (Attends layout grant base_desk base (ShowsSeat c.begin_shift.new.self grant given) c.args.desk told) _ turn
    (comes_quietly layout grant c.requires.sound base_desk base (ShowsSeat c.args.self.now grant given) (ShowsSeat c.begin_shift.new.self grant given) c.args.desk told turn (c.begin_shift.ensures.went layout grant given turn) attends)
    (λ next there. went given base_desk base next whole there))
    c.make_shift.ensures.went

pub returns-in-Shift-clause-failed : goal.returns-in-Shift-clause-failed
returns-in-Shift-clause-failed g c =
    if_err _ _ c.make_shift.result
    (λ broken went given base_desk base turn whole attends.
    let told = g.C.Cable.chain (cable_of c.args.desk.side) in
    let layout = c.args.layout.now in
    let grant = c.args.grant in
    comes_more layout grant (Attends layout grant base_desk base (ShowsSeat c.begin_shift.new.self grant given) c.args.desk told) (HasReplied c.make_shift.new.self given) turn
    (comes_quietly layout grant c.requires.sound base_desk base (ShowsSeat c.args.self.now grant given) (ShowsSeat c.begin_shift.new.self grant given) c.args.desk told turn (c.begin_shift.ensures.went layout grant given turn) attends)
    (λ next there. went given base_desk base next whole there))
    c.make_shift.ensures.failed
