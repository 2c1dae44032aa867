use Rattle.chain_model.proofs.Stages.{shift_fits}
use Rattle.chain_model.proofs.edges.rise_devices.Goals as goal

pub returns-in-ShiftDr-clause-fits : goal.returns-in-ShiftDr-clause-fits
returns-in-ShiftDr-clause-fits c chain tms opened =
    shift_fits c.args.state chain c.args.scan_open tms c.args.tdi c.args.devices.now c.shift_dr.new.devices c.in-ShiftDr.is c.requires opened c.shift_dr.ensures
