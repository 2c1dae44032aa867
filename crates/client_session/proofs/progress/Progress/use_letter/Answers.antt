use Rattle.std.proofs.Common.{ap, refl, ◌∙◌}
use Rattle.client_session.specs.Acts.Act.{SetLines, SetTrst}
use Rattle.client_session.specs.Seats.Next.{Whole}
use Rattle.client_session.specs.Desks.{Attends, cable_of}
use Rattle.client_session.specs.Calls.{LinesTo, ShowsSeat}
use Rattle.client_session.specs.Letters.{acts_asked}
use Rattle.client_session.proofs.Lettering.{act_made, nothing_loaded, tdo_loaded}
use Rattle.client_session.proofs.ByBytes.{used_ends}
use Rattle.client_session.proofs.progress.Progress.use_letter.Goals as goal

pub returns-in_ok-waits-in-Lines-clause-went : goal.returns-in_ok-waits-in-Lines-clause-went
returns-in_ok-waits-in-Lines-clause-went g c = λ given base_desk base turn whole attends.
    act_made c.args.layout.now c.args.grant c.requires.sound base_desk base turn c.args.desk (g.C.Cable.chain (cable_of c.args.desk.side)) given c.args.self.now c.use_first.new.self c.use_first.ensures.uses c.requires.none c.requires.protocol
    (SetLines c.in-Lines.tck c.in-Lines.tms c.in-Lines.tdi)
    (Attends c.args.layout.now c.args.grant base_desk base (LinesTo c.in_ok-waits-in-Lines.waits c.args.layout.now c.set_lines.new.self c.args.grant given) c.in_ok-waits-in-Lines.desk (g.C.Cable.chain (cable_of c.in_ok-waits-in-Lines.desk.side)))
    (c.requires.next.whole ∙ ap (λ act. Whole (acts_asked act) 1) c.in-Lines.is)
    (λ next there. c.in_ok-waits-in-Lines.ensures.went given base_desk base next whole there) attends

pub returns-in_ok-desk-in-Trst-clause-went : goal.returns-in_ok-desk-in-Trst-clause-went
returns-in_ok-desk-in-Trst-clause-went g c = λ given base_desk base turn whole attends.
    act_made c.args.layout.now c.args.grant c.requires.sound base_desk base turn c.args.desk (g.C.Cable.chain (cable_of c.args.desk.side)) given c.args.self.now c.use_first.new.self c.use_first.ensures.uses c.requires.none c.requires.protocol
    (SetTrst c.in-Trst.level)
    (Attends c.args.layout.now c.args.grant base_desk base (ShowsSeat c.set_trst.new.self c.args.grant given) c.in_ok-desk-in-Trst.desk (g.C.Cable.chain (cable_of c.in_ok-desk-in-Trst.desk.side)))
    (c.requires.next.whole ∙ ap (λ act. Whole (acts_asked act) 1) c.in-Trst.is)
    (λ next there. c.in_ok-desk-in-Trst.ensures.went given base_desk base next whole there) attends

pub returns-in-Tdo-clause-went : goal.returns-in-Tdo-clause-went
returns-in-Tdo-clause-went g c = λ given base_desk base turn whole attends.
    tdo_loaded c.args.layout.now c.args.grant c.requires.sound base_desk base turn c.args.desk (g.C.Cable.chain (cable_of c.args.desk.side)) given c.args.self.now c.use_first.new.self c.use_first.ensures.uses c.requires.none c.requires.protocol
    c.say_tdo.new.self c.say_tdo.ensures.says (c.requires.next.whole ∙ ap (λ act. Whole (acts_asked act) 1) c.in-Tdo.is) attends

pub returns-in-Nothing-clause-went : goal.returns-in-Nothing-clause-went
returns-in-Nothing-clause-went g c = λ given base_desk base turn whole attends.
    nothing_loaded c.args.layout.now c.args.grant c.requires.sound base_desk base turn c.args.desk (g.C.Cable.chain (cable_of c.args.desk.side)) given c.args.self.now c.use_first.new.self c.use_first.ensures.uses c.requires.none c.requires.protocol
    (c.requires.next.whole ∙ ap (λ act. Whole (acts_asked act) 1) c.in-Nothing.is) attends

pub returns-in_ok-waits-in-Lines-clause-ends : goal.returns-in_ok-waits-in-Lines-clause-ends
returns-in_ok-waits-in-Lines-clause-ends g c = used_ends c.args.self.now c.use_first.new.self c.set_lines.new.self c.args.act c.use_first.ensures.uses c.requires.next c.set_lines.ensures.letters.used c.set_lines.ensures.letters.unused

pub returns-in_ok-desk-in-Trst-clause-ends : goal.returns-in_ok-desk-in-Trst-clause-ends
returns-in_ok-desk-in-Trst-clause-ends g c = used_ends c.args.self.now c.use_first.new.self c.set_trst.new.self c.args.act c.use_first.ensures.uses c.requires.next c.set_trst.ensures.letters.used c.set_trst.ensures.letters.unused

pub returns-in-Tdo-clause-ends : goal.returns-in-Tdo-clause-ends
returns-in-Tdo-clause-ends g c = used_ends c.args.self.now c.use_first.new.self c.say_tdo.new.self c.args.act c.use_first.ensures.uses c.requires.next c.say_tdo.ensures.says.used c.say_tdo.ensures.says.unused

pub returns-in-Nothing-clause-ends : goal.returns-in-Nothing-clause-ends
returns-in-Nothing-clause-ends g c = used_ends c.args.self.now c.use_first.new.self c.use_first.new.self c.args.act c.use_first.ensures.uses c.requires.next refl refl
