-- What the rows are played under: chains of demo devices, and their grants.
use Rattle.std.specs.Prelude.{ℕ, true, false, List, [], ◌∷◌, replicate}
use Rattle.part_model.specs.declared.Net.{Net}
use Rattle.part_model.specs.Demo.{demo_part}
use Rattle.grant_table.specs.declared.Protocol.{Protocol}
use Rattle.grant_table.specs.declared.Protocol.TheVariants.{Xvc, Bitbang}
use Rattle.std.specs.declared.option.Option.{Option}
use Rattle.std.specs.declared.option.Option.TheVariants.{Some}
use Rattle.grant_table.specs.Faults.{GrantEntry, LayoutFault, layout_of}
use Rattle.plays.specs.Plays.{Setting}

-- a grant of devices, counted from 1 and from TDI on, at a port
abbrev pub grant : List ℕ → ℕ → Protocol → GrantEntry
grant devices port protocol = record { devices = devices; port = port; protocol = protocol }

-- a wire from a cell of one device to a cell of another: devices count from 1, cells from 0
abbrev pub net_from : (from_device from_cell to_device to_cell : ℕ) → Net
net_from from_device from_cell to_device to_cell = record { from_device = from_device; from_cell = from_cell; to_device = to_device; to_cell = to_cell }

-- so many demo devices, all pins 0, under grants, with the vector length 2048
abbrev pub demos : ℕ → List GrantEntry → Setting
demos count grants = record {
  layout = layout_of (replicate count demo_part) grants [];
  pins = replicate count (replicate 4 false);
  vector = 2048;
  uses_trst = false;
}

-- one device, served by XVC
abbrev pub one : Setting
one = demos 1 (grant (1 ∷ []) 2542 Xvc ∷ [])

-- the same with vectors of one byte
abbrev pub small : Setting
small = record one { vector = 1 }

-- the same with the pins 1010, the last nearest TDO
abbrev pub pins : Setting
pins = record one { pins = (false ∷ true ∷ false ∷ true ∷ []) ∷ [] }

-- one device, served by remote_bitbang, where the letters of TRST do nothing
abbrev pub bits : Setting
bits = demos 1 (grant (1 ∷ []) 3335 Bitbang ∷ [])

-- the same where they count
abbrev pub bits_with_trst : Setting
bits_with_trst = record bits { uses_trst = true }

-- two devices in one grant
abbrev pub both : Setting
both = demos 2 (grant (1 ∷ 2 ∷ []) 2542 Xvc ∷ [])

-- the same with a net from cell 0 of the first to cell 3 of the second
abbrev pub both_with_net : Setting
both_with_net = record both { layout = record both.layout { nets = net_from 1 0 2 3 ∷ [] } }

-- two devices in two grants
abbrev pub two : Setting
two = demos 2 (grant (1 ∷ []) 2542 Xvc ∷ grant (2 ∷ []) 2543 Xvc ∷ [])

-- two devices in two grants, the first served by remote_bitbang with TRST
abbrev pub mixed : Setting
mixed = record (demos 2 (grant (1 ∷ []) 3335 Bitbang ∷ grant (2 ∷ []) 2543 Xvc ∷ [])) { uses_trst = true }

-- three devices in three grants
abbrev pub three : Setting
three = demos 3 (grant (1 ∷ []) 1 Xvc ∷ grant (2 ∷ []) 2 Bitbang ∷ grant (3 ∷ []) 3 Xvc ∷ [])

-- a fault of a layout: its cause, the grant's number or 0, and the value that is wrong
abbrev pub fault : (cause grant value : ℕ) → Option LayoutFault
fault cause grant value = Some (record { cause = cause; grant = grant; value = value })
