use Rattle.std.proofs.Common.{◌∙◌}
use Rattle.chain_model.specs.Cycles.{clocks_of}
use Rattle.chain_model.proofs.EdgeKeeps.{called, device_stays}
use Rattle.chain_model.proofs.WordRun.{length-clocks_of}
use Rattle.chain_model.proofs.scan_chain.ScanChain.call.Goals as goal

pub returns-clause-after : goal.returns-clause-after
returns-clause-after c =
    c.count_call.ensures ∙ rw c.from.ensures (called c.args.self.now _ (clocks_of c.args.n c.args.tms c.args.tdi) c.args.n c.run_word-word.ensures.after (length-clocks_of c.args.n c.args.tms c.args.tdi))

pub returns-clause-devices : goal.returns-clause-devices
returns-clause-devices c some =
    device_stays c.args.self.now _ (clocks_of c.args.n c.args.tms c.args.tdi)
    (c.count_call.ensures ∙ rw c.from.ensures (called c.args.self.now _ (clocks_of c.args.n c.args.tms c.args.tdi) c.args.n c.run_word-word.ensures.after (length-clocks_of c.args.n c.args.tms c.args.tdi))) some
