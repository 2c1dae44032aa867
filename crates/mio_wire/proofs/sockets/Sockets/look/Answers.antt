use Rattle.mio_wire.proofs.sockets.Sockets.look.Goals as goal

abbrev pub returns-in-Some-clause-held : goal.returns-in-Some-clause-held
returns-in-Some-clause-held c = c.in-Some.ensures.held c.args.number

abbrev pub returns-clause-held : goal.returns-clause-held
returns-clause-held c = c.tell-2.ensures.held c.args.number
