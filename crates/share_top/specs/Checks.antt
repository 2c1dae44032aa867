-- What `check` writes of a setup: a line for each device, for each grant and for each net, and `ok`.
use Rattle.std.specs.Prelude.{ℕ, zero, suc, Bool, ◌/◌, ◌%◌, ◌+◌, ◌==◌, nat_lt, List, [], ◌∷◌, ◌++◌, codes, slice_get, if◌then◌else◌}
use Rattle.std.specs.List.{flat_map, sum_by, filter_map}
use Rattle.std.specs.Fmt.{decimal}
use Rattle.text_lines.specs.Hex.{hex, hex_digits}
use Rattle.std.specs.declared.option.Option.{Option}
use Rattle.std.specs.declared.option.Option.TheVariants.{None, Some}
use Rattle.scan_bits.specs.Words.{number_of}
use Rattle.part_model.specs.declared.Net.{Net}
use Rattle.part_model.specs.Parts.{DeviceType, longest}
use Rattle.grant_table.specs.declared.Protocol.{Protocol}
use Rattle.grant_table.specs.declared.Protocol.TheVariants.{Xvc, Bitbang}
use Rattle.grant_table.specs.Layouts.{LayoutShape, GrantShape, longest_of}
use Rattle.setup_document.specs.declared.plan.Place.{Place}
use Rattle.setup_document.specs.declared.plan.Place.TheVariants as place
use Rattle.setup_read.specs.declared.setup.SetupRefusal.{SetupRefusal}
use Rattle.setup_read.specs.declared.setup.SetupRefusal.TheVariants as refusal

-- ---- a device

-- the identification code in eight digits, or a dash where there is none
abbrev pub idcode_text : Option (List Bool) → List ℕ
idcode_text None = codes "-"
idcode_text (Some bits) = hex_digits 8 (number_of bits)

-- what stands before a device's name
abbrev pub device_head : ℕ → List ℕ
device_head number = codes "device " ++ decimal number ++ codes " "

-- and behind it
abbrev pub device_tail : DeviceType → List ℕ
device_tail part =
    codes " ir " ++ decimal part.ir_length ++ codes " capture " ++ hex (number_of part.ir_captures) ++ codes " reset " ++ hex (number_of part.reset_code)
    ++ codes " idcode " ++ idcode_text part.idcode ++ codes " boundary " ++ decimal part.boundary_length ++ codes " longest " ++ decimal (longest part) ++ codes "\n"

-- the line of a device, by its number from 1
abbrev pub device_line : ℕ → List ℕ → DeviceType → List ℕ
device_line number name part = device_head number ++ (name ++ device_tail part)

-- the lines of devices, numbered from one on
abbrev pub device_lines : ℕ → List (List ℕ) → List DeviceType → List ℕ
device_lines number (name ∷ names) (part ∷ parts) = device_line number name part ++ device_lines (number + 1) names parts
device_lines number _ _ = []

-- ---- a grant

abbrev pub protocol_text : Protocol → List ℕ
protocol_text Xvc = codes "xvc"
protocol_text Bitbang = codes "bitbang"

-- the devices at these places, by their numbers from 1
abbrev pub device_list : List ℕ → List ℕ
device_list [] = []
device_list (place ∷ places) = decimal (place + 1) ++ flat_map (λ place. codes "," ++ decimal (place + 1)) places

-- the instruction bits of a group
abbrev pub group_bits : LayoutShape → List ℕ → ℕ
group_bits layout group = sum_by (λ part. part.ir_length) (filter_map (slice_get layout.parts) group)

-- the line of a grant: its number from 1, protocol, port, group, instruction bits, and the most bits of a data register scan
abbrev pub grant_text : ℕ → Protocol → ℕ → List ℕ → ℕ → ℕ → List ℕ
grant_text number protocol port group bits most =
    codes "grant " ++ decimal number ++ codes " " ++ protocol_text protocol ++ codes " " ++ decimal port ++ codes " devices " ++ device_list group
    ++ codes " ir " ++ decimal bits ++ codes " longest " ++ decimal most ++ codes "\n"

abbrev pub grant_line : LayoutShape → ℕ → GrantShape → List ℕ
grant_line layout number grant = grant_text number grant.protocol grant.port grant.group (group_bits layout grant.group) (longest_of layout grant.group)

-- the lines of grants, numbered from one on
abbrev pub grant_lines : LayoutShape → ℕ → List GrantShape → List ℕ
grant_lines layout number [] = []
grant_lines layout number (grant ∷ grants) = grant_line layout number grant ++ grant_lines layout (number + 1) grants

-- ---- a net

-- the line of a net, by its number from 1
abbrev pub net_line : ℕ → Net → List ℕ
net_line number net =
    codes "net " ++ decimal number ++ codes " from " ++ decimal net.from_device ++ codes " " ++ decimal net.from_cell
    ++ codes " to " ++ decimal net.to_device ++ codes " " ++ decimal net.to_cell ++ codes "\n"

-- the lines of nets, numbered from one on
abbrev pub net_lines : ℕ → List Net → List ℕ
net_lines number [] = []
net_lines number (net ∷ nets) = net_line number net ++ net_lines (number + 1) nets

-- ---- the whole

abbrev pub check_text : List (List ℕ) → LayoutShape → List ℕ
check_text names layout = device_lines 1 names layout.parts ++ (grant_lines layout 1 layout.grants ++ (net_lines 1 layout.nets ++ codes "ok\n"))

-- ---- a setup that is refused

-- where in the setup file
abbrev pub place_text : Place → List ℕ
place_text place.Top = codes "top"
place_text (place.Device number) = codes "device " ++ decimal number
place_text (place.Grant number) = codes "grant " ++ decimal number
place_text (place.Net number) = codes "net " ++ decimal number

-- the last line, by the refusal
abbrev pub refusal_line : SetupRefusal → List ℕ
refusal_line (refusal.Plain cause place) = codes "setup " ++ decimal cause ++ codes " " ++ place_text place ++ codes "\n"
refusal_line (refusal.Layout fault) = codes "layout " ++ decimal fault.cause ++ codes " " ++ decimal fault.grant ++ codes " " ++ decimal fault.value ++ codes "\n"
refusal_line (refusal.Absent device) = codes "absent device " ++ decimal device ++ codes "\n"
refusal_line (refusal.Bsdl device at cause) = codes "bsdl " ++ decimal device ++ codes " " ++ decimal cause ++ codes " " ++ decimal at ++ codes "\n"
refusal_line (refusal.Pins device) = codes "pins " ++ decimal device ++ codes "\n"
refusal_line (refusal.Cell net) = codes "cell " ++ decimal net ++ codes "\n"
refusal_line refusal.Fault = codes "read fault\n"
refusal_line refusal.Memory = codes "memory\n"

-- the status, by the refusal
abbrev pub refusal_status : SetupRefusal → ℕ
refusal_status (refusal.Absent device) = 12
refusal_status refusal.Fault = 4
refusal_status refusal.Memory = 9
refusal_status _ = 3
