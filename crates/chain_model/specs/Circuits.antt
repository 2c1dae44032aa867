-- What was assembled on a chain.
use Rattle.std.specs.Prelude.{List, []}
use Rattle.std.specs.declared.option.Option.{Option}
use Rattle.std.specs.declared.option.Option.TheVariants.{None, Some}
use Rattle.part_model.specs.declared.Net.{Net}
use Rattle.chain_model.specs.declared.circuit.Circuit.{Circuit}
use Rattle.chain_model.specs.Chains.{DeviceState}

-- the devices and the nets that were assembled, none on an empty chain
abbrev pub devices_of : Option Circuit → List DeviceState
devices_of None = []
devices_of (Some circuit) = circuit.devices.items

abbrev pub nets_of : Option Circuit → List Net
nets_of None = []
nets_of (Some circuit) = circuit.nets.items
