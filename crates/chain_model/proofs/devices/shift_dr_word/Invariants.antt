use Rattle.std.proofs.Common.{◌≡◌, ◌<◌, ◌^◌, take, drop, ◌++◌}
use Rattle.scan_bits.specs.Words.{bits_of}
use Rattle.chain_model.specs.Devices.{run_dr, out_dr}
use Rattle.chain_model.proofs.devices.shift_dr_word.Given as goal

abbrev pub invariant-loop-device : goal.invariant-loop-device
invariant-loop-device l = record {
  after : take l.device-index l.devices ++ run_dr (bits_of l.n l.word) (drop l.device-index l.devices) ≡ run_dr (bits_of l.n l.tdi) l.fn.devices;
  out : out_dr (bits_of l.n l.word) (drop l.device-index l.devices) ≡ out_dr (bits_of l.n l.tdi) l.fn.devices;
  bound : l.word < 2 ^ l.n;
}
