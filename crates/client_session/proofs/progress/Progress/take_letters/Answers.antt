use Rattle.std.proofs.Common.{◌++◌, ap, sym, ◌∙◌}
use Rattle.client_session.specs.Stores.{unused_of}
use Rattle.client_session.specs.Ends.{letters_end}
use Rattle.client_session.specs.Desks.{cable_of}
use Rattle.client_session.specs.Calls.{ShowsFed, ShowsSeat}
use Rattle.client_session.proofs.Lettering.{attends_as, awaits_none, failed_so, taken_on}
use Rattle.client_session.proofs.ByBytes.{halts_by}
use Rattle.client_session.proofs.progress.Progress.take_letters.Goals as goal

pub returns-in_err-halt-clause-failed : goal.returns-in_err-halt-clause-failed
returns-in_err-halt-clause-failed g c = failed_so c.from_residual.result (λ given base_desk base turn whole attends.
    c.in_err-halt.ensures.failed given base_desk base turn whole
    (attends_as c.args.layout.now c.args.grant base_desk base c.args.desk (ShowsFed c.args.self.now c.args.piece.now c.args.grant given) (ShowsSeat c.keep_letters.new.self c.args.grant given) (g.C.Cable.chain (cable_of c.args.desk.side)) turn
    (taken_on c.args.layout.now c.args.grant c.args.piece.now c.args.self.now c.keep_letters.new.self given turn c.keep_letters.ensures.takes c.requires.protocol (awaits_none c.args.self.now.input c.requires.protocol c.requires.awaits)) attends))

pub returns-clause-went : goal.returns-clause-went
returns-clause-went g c = λ given base_desk base turn whole attends.
    c.in_ok-halt.ensures.went given base_desk base turn whole
    (attends_as c.args.layout.now c.args.grant base_desk base c.args.desk (ShowsFed c.args.self.now c.args.piece.now c.args.grant given) (ShowsSeat c.keep_letters.new.self c.args.grant given) (g.C.Cable.chain (cable_of c.args.desk.side)) turn
    (taken_on c.args.layout.now c.args.grant c.args.piece.now c.args.self.now c.keep_letters.new.self given turn c.keep_letters.ensures.takes c.requires.protocol (awaits_none c.args.self.now.input c.requires.protocol c.requires.awaits)) attends)

pub returns-clause-ends : goal.returns-clause-ends
returns-clause-ends g c =
    let takes = c.keep_letters.ensures.takes in
    let unused = ap (λ bytes. bytes ++ c.args.piece.now) (awaits_none c.args.self.now.input c.requires.protocol c.requires.awaits) ∙ sym takes.unused in
    halts_by (letters_end c.args.self.now.used (unused_of c.args.self.now.input ++ c.args.piece.now)) (letters_end c.keep_letters.new.self.used (unused_of c.keep_letters.new.self.input)) c.in_ok-halt.halt
    (λ i. letters_end (sym takes.used i) (unused i)) c.in_ok-halt.ensures.ends
