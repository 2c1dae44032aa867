-- From grants as they are handed in to a layout, and the layouts that are refused.
use Rattle.std.specs.Prelude.{ℕ, zero, suc, ◌≡◌, Bool, true, false, not, ◌&&◌, ◌||◌, ◌==◌, nat_lt, List, [], ◌∷◌, ◌++◌, map, length}
use Rattle.std.specs.List.{list_any, filter}
use Rattle.std.specs.declared.option.Option.{Option}
use Rattle.std.specs.declared.option.Option.TheVariants.{None, Some}
use Rattle.part_model.specs.declared.Net.{Net}
use Rattle.part_model.specs.Parts.{DeviceType}
use Rattle.grant_table.specs.declared.Protocol.{Protocol}
use Rattle.grant_table.specs.Layouts.{LayoutShape, GrantShape}

-- a grant as it is handed in: its devices, counted from 1, its port, and its protocol
pub record GrantEntry : Type 0 where
  pub devices : List ℕ
  pub port : ℕ
  pub protocol : Protocol

-- ---- the layout of grants

-- so many places in a row, from one on
abbrev pub places_from : ℕ → ℕ → List ℕ
places_from place zero = []
places_from place (suc count) = place ∷ places_from (suc place) count

-- the number is one of these
abbrev pub is_one_of : ℕ → List ℕ → Bool
is_one_of number numbers = list_any (λ other. other == number) numbers

-- the devices of a grant as places in a chain of so many, rising
abbrev pub group_for : ℕ → GrantEntry → List ℕ
group_for count entry = filter (λ place. is_one_of (suc place) entry.devices) (places_from 0 count)

-- a grant in a chain of so many devices
abbrev pub shape_for : ℕ → GrantEntry → GrantShape
shape_for count entry = record { group = group_for count entry; port = entry.port; protocol = entry.protocol }

-- the layout that device types, grants and nets make
abbrev pub layout_of : List DeviceType → List GrantEntry → List Net → LayoutShape
layout_of parts entries nets = record { parts = parts; grants = map (shape_for (length parts)) entries; nets = nets }

-- ---- refusals

-- why a layout is refused, with the grant's number from 1, or 0, and the value that is wrong; the causes are
-- 1 a grant of no device, 2 a device granted twice, 3 a device or a port out of range, 4 a port of two grants,
-- 5 too few or too many devices or grants, 6 a net that is not within one grant, 7 two nets to one cell, 8 too many nets
pub record LayoutFault : Type 0 where
  pub cause : ℕ
  pub grant : ℕ
  pub value : ℕ

-- this fault where a test passes
abbrev pub fault_if : Bool → ℕ → ℕ → ℕ → Option LayoutFault
fault_if true cause grant value = Some (record { cause = cause; grant = grant; value = value })
fault_if false cause grant value = None

-- a fault, or else what is tried next
abbrev pub or_fault : Option LayoutFault → Option LayoutFault → Option LayoutFault
or_fault None next = next
or_fault (Some fault) next = Some fault

-- cause 5: a count that is 0, or above its most
abbrev pub count_fault : ℕ → ℕ → Option LayoutFault
count_fault most count = fault_if (count == 0 || nat_lt most count) 5 0 count

-- causes 3 and 2: each device of a grant in turn is in the chain, and was not granted before
abbrev pub devices_fault : ℕ → ℕ → List ℕ → List ℕ → Option LayoutFault
devices_fault count grant before [] = None
devices_fault count grant before (device ∷ devices) =
    or_fault (fault_if (device == 0 || nat_lt count device) 3 grant device)
    (or_fault (fault_if (is_one_of device before) 2 grant device)
    (devices_fault count grant (device ∷ before) devices))

-- the list is empty
abbrev pub is_none : List ℕ → Bool
is_none [] = true
is_none (device ∷ devices) = false

-- a grant by its number, after the devices and ports of the grants before it: causes 1, 3 and 2 of its devices, 3 and 4 of its port
abbrev pub grant_fault : ℕ → ℕ → List ℕ → List ℕ → GrantEntry → Option LayoutFault
grant_fault count grant before ports entry =
    or_fault (fault_if (is_none entry.devices) 1 grant 0)
    (or_fault (devices_fault count grant before entry.devices)
    (or_fault (fault_if (entry.port == 0) 3 grant 0)
    (fault_if (is_one_of entry.port ports) 4 grant entry.port)))

-- the grants in turn, numbered from one on
abbrev pub grants_fault : ℕ → ℕ → List ℕ → List ℕ → List GrantEntry → Option LayoutFault
grants_fault count grant before ports [] = None
grants_fault count grant before ports (entry ∷ entries) =
    or_fault (grant_fault count grant before ports entry) (grants_fault count (suc grant) (before ++ entry.devices) (entry.port ∷ ports) entries)

-- the grant has both devices of the net
abbrev pub has_net : Net → GrantEntry → Bool
has_net net entry = is_one_of net.from_device entry.devices && is_one_of net.to_device entry.devices

-- two nets lead to the same cell
abbrev pub meets : Net → Net → Bool
meets net other = (net.to_device == other.to_device) && (net.to_cell == other.to_cell)

-- causes 6 and 7: each net in turn is within one grant, and leads to a cell that none before it leads to
abbrev pub nets_fault : List GrantEntry → ℕ → List Net → List Net → Option LayoutFault
nets_fault entries place before [] = None
nets_fault entries place before (net ∷ nets) =
    or_fault (fault_if (not (list_any (has_net net) entries)) 6 0 place)
    (or_fault (fault_if (list_any (meets net) before) 7 0 place)
    (nets_fault entries (suc place) (net ∷ before) nets))

-- the first fault of grants and nets over so many devices: the counts, then the grants, then the nets
abbrev pub layout_fault : ℕ → List GrantEntry → List Net → Option LayoutFault
layout_fault count entries nets =
    or_fault (count_fault 32 count)
    (or_fault (count_fault 16 (length entries))
    (or_fault (grants_fault count 1 [] [] entries)
    (or_fault (fault_if (nat_lt 4096 (length nets)) 8 0 (length nets))
    (nets_fault entries 1 [] nets))))

-- the layout is made of grants and nets without a fault
pub record IsLayout (layout : LayoutShape) : Type 0 where
  pub entries : List GrantEntry
  pub faultless : layout_fault (length layout.parts) entries layout.nets ≡ None
  pub made : layout ≡ layout_of layout.parts entries layout.nets
