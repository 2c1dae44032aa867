use Rattle.std.proofs.Common.{◌≡◌, drop}
use Rattle.std.specs.List.{list_all}
use Rattle.setup_document.specs.Keys.{is_pin}
use Rattle.setup_document.proofs.keys.are_pins.Given as goal

abbrev pub invariant-loop-byte : goal.invariant-loop-byte
invariant-loop-byte l = list_all is_pin (drop l.byte-index l.text) ≡ list_all is_pin l.text
