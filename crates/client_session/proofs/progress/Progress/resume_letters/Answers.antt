use Rattle.std.proofs.Common.{subst, sym, ◌∙◌}
use Rattle.client_session.specs.Stores.{unused_of}
use Rattle.client_session.specs.Ends.{letters_end}
use Rattle.client_session.specs.Desks.{Attends, cable_of}
use Rattle.client_session.specs.Calls.{HaltsAt, HaltsWell, HasReplied, ShowsSeat}
use Rattle.client_session.proofs.Lettering.{awaits_none, failed_so}
use Rattle.client_session.proofs.ByBytes.{halts_by}
use Rattle.client_session.proofs.progress.Progress.resume_letters.Goals as goal
use Rattle.client_session.proofs.Coming.{comes_more}

pub returns-in_err-halt-clause-failed : goal.returns-in_err-halt-clause-failed
returns-in_err-halt-clause-failed g c = failed_so c.from_residual-in_err-halt.result (λ given base_desk base turn whole attends.
    comes_more c.args.layout.now c.args.grant (Attends c.args.layout.now c.args.grant base_desk base (ShowsSeat c.resume_lines.new.self c.args.grant given) c.in_ok-desk.desk (g.C.Cable.chain (cable_of c.in_ok-desk.desk.side))) (HasReplied c.use_letters.new.self given) turn
    (c.in_ok-desk.ensures.went given base_desk base turn whole attends)
    (λ next there. c.in_err-halt.ensures.failed given base_desk base next whole there))

pub returns-clause-went : goal.returns-clause-went
returns-clause-went g c = λ given base_desk base turn whole attends.
    comes_more c.args.layout.now c.args.grant (Attends c.args.layout.now c.args.grant base_desk base (ShowsSeat c.resume_lines.new.self c.args.grant given) c.in_ok-desk.desk (g.C.Cable.chain (cable_of c.in_ok-desk.desk.side)))
    (Attends c.args.layout.now c.args.grant base_desk base (HaltsAt c.in_ok-halt.halt c.args.layout.now c.use_letters.new.self c.args.grant given) c.in_ok-halt.desk (g.C.Cable.chain (cable_of c.in_ok-halt.desk.side))) turn
    (c.in_ok-desk.ensures.went given base_desk base turn whole attends)
    (λ next there. c.in_ok-halt.ensures.went given base_desk base next whole there)

pub returns-clause-ends : goal.returns-clause-ends
returns-clause-ends g c =
    let letters = c.resume_lines.ensures.letters in
    halts_by (letters_end c.args.self.now.used (unused_of c.args.self.now.input)) (letters_end c.resume_lines.new.self.used (unused_of c.resume_lines.new.self.input)) c.in_ok-halt.halt
    (λ i. letters_end (sym letters.used i) (sym letters.unused i)) c.in_ok-halt.ensures.ends

pub returns-clause-unused : goal.returns-clause-unused
returns-clause-unused g c = λ rests.
    awaits_none c.use_letters.new.self.input (c.use_letters.ensures.same.protocol ∙ c.resume_lines.ensures.same.protocol ∙ c.requires.protocol)
    (subst (λ halt. HaltsWell halt c.use_letters.new.self) rests c.in_ok-halt.ensures.halts)
