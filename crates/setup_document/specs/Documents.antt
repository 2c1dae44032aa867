-- What a setup file says, or its first refusal, in the order of its text.
use Rattle.std.specs.Prelude.{◌≡◌, ◌≤◌, ℕ, nat_lt, List, length, codes, if◌then◌else◌, Result, Ok}
use Rattle.std.specs.Str.{bytes_eq, is_utf8}
use Rattle.std.specs.declared.option.Option.{Option}
use Rattle.std.specs.declared.option.Option.TheVariants.{None, Some}
use Rattle.toml.specs.Data.{Data, string, Items, no_items, Members, get_member}
use Rattle.toml.specs.View.{items_view}
use Rattle.toml.specs.Parse.{parse_document}
use Rattle.part_model.specs.declared.Net.{Net}
use Rattle.grant_table.specs.Faults.{GrantEntry}
use Rattle.grant_table.specs.declared.Protocol.{Protocol}
use Rattle.grant_table.specs.declared.Protocol.TheVariants.{Xvc, Bitbang}
use Rattle.setup_document.specs.declared.plan.Place.{Place}
use Rattle.setup_document.specs.declared.plan.Place.TheVariants as place
use Rattle.setup_document.specs.declared.plan.DocumentRefusal.{DocumentRefusal}
use Rattle.setup_document.specs.declared.plan.DocumentRefusal.TheVariants as refusal
use Rattle.setup_document.specs.declared.plan.DeviceEntry.{DeviceEntry}
use Rattle.setup_document.specs.declared.plan.SetupPlan.{SetupPlan}
use Rattle.setup_document.specs.declared.document.TopKeys.{TopKeys as Keys}
use Rattle.setup_document.specs.Keys.{DocumentFault, refuse, and_then, known, table_in, required, number_in, items_in, file_name, pins, numbers, Pair, pair, each}

-- a device: `bsdl`, and `pins` that may be left out
abbrev pub pins_at : Place → Option Data → Result (Option (List ℕ)) DocumentFault
pins_at place None = Ok None
pins_at place (Some value) = and_then (pins place value) (λ text. Ok (Some text))

abbrev pub device : Place → Data → Result DeviceEntry DocumentFault
device place value =
    and_then (table_in place value) (λ members.
    and_then (and_then (required place (get_member (codes "bsdl") members)) (file_name place)) (λ bsdl.
    and_then (pins_at place (get_member (codes "pins") members)) (λ pins.
    Ok (record { bsdl = bsdl; pins = pins }))))

-- a grant: `devices`, `port` and `protocol`
abbrev pub protocol : Place → Data → Result Protocol DocumentFault
protocol place (string text) = if bytes_eq text (codes "xvc") then Ok Xvc else (if bytes_eq text (codes "bitbang") then Ok Bitbang else refuse 6 place)
protocol place _ = refuse 5 place

abbrev pub devices_at : Place → Members → Result (List ℕ) DocumentFault
devices_at place members = and_then (and_then (required place (get_member (codes "devices") members)) (items_in place)) (numbers place)

abbrev pub port_at : Place → Members → Result ℕ DocumentFault
port_at place members = and_then (required place (get_member (codes "port") members)) (number_in place 0 65535)

abbrev pub protocol_at : Place → Members → Result Protocol DocumentFault
protocol_at place members = and_then (required place (get_member (codes "protocol") members)) (protocol place)

abbrev pub grant : Place → Data → Result GrantEntry DocumentFault
grant place value =
    and_then (table_in place value) (λ members.
    and_then (devices_at place members) (λ devices.
    and_then (port_at place members) (λ port.
    and_then (protocol_at place members) (λ protocol.
    Ok (record { devices = devices; port = port; protocol = protocol })))))

-- a net: `from` and `to`, each a device and a cell
abbrev pub end_at : Place → Option Data → Result Pair DocumentFault
end_at place value = and_then (and_then (required place value) (items_in place)) (pair place)

abbrev pub net : Place → Data → Result Net DocumentFault
net place value =
    and_then (table_in place value) (λ members.
    and_then (end_at place (get_member (codes "from") members)) (λ from.
    and_then (end_at place (get_member (codes "to") members)) (λ to.
    Ok (record { from_device = from.device; from_cell = from.cell; to_device = to.device; to_cell = to.cell }))))

-- the keys at the top; `vector` and `net` may be left out
abbrev pub version_at : Members → Result ℕ DocumentFault
version_at members = and_then (required place.Top (get_member (codes "version") members)) (number_in place.Top 1 2)

abbrev pub vector_at : Option Data → Result ℕ DocumentFault
vector_at None = Ok 2048
vector_at (Some value) = number_in place.Top 1 65536 value

abbrev pub nets_at : Option Data → Result Items DocumentFault
nets_at None = Ok no_items
nets_at (Some value) = items_in place.Top value

-- the keys at the top, before any device, grant or net is looked into
pub record TopKeys : Type 0 where
  pub version : ℕ
  pub vector : ℕ
  pub devices : Items
  pub grants : Items
  pub nets : Items

-- what the code keeps of them
abbrev pub top_of : Keys → TopKeys
top_of top = record { version = top.version; vector = top.vector; devices = items_view top.devices.now; grants = items_view top.grants.now; nets = items_view top.nets.now }

abbrev pub array_at : Members → List ℕ → Result Items DocumentFault
array_at members key = and_then (required place.Top (get_member key members)) (items_in place.Top)

abbrev pub top_keys : Members → Result TopKeys DocumentFault
top_keys members =
    and_then (known place.Top members) (λ members.
    and_then (version_at members) (λ version.
    and_then (vector_at (get_member (codes "vector") members)) (λ vector.
    and_then (array_at members (codes "device")) (λ devices.
    and_then (array_at members (codes "grant")) (λ grants.
    and_then (nets_at (get_member (codes "net") members)) (λ nets.
    Ok (record { version = version; vector = vector; devices = devices; grants = grants; nets = nets })))))))

-- then each device, each grant and each net in turn
abbrev pub entries : TopKeys → Result SetupPlan DocumentFault
entries top =
    and_then (each place.Device device 1 top.devices) (λ devices.
    and_then (each place.Grant grant 1 top.grants) (λ grants.
    and_then (each place.Net net 1 top.nets) (λ nets.
    Ok (record { version = top.version; vector = top.vector; devices = devices; grants = grants; nets = nets }))))

-- the table of bytes that are a TOML text in UTF-8
abbrev pub document_of : List ℕ → Option Members
document_of bytes = if is_utf8 bytes then parse_document bytes else None

abbrev pub of_document : Option Members → Result SetupPlan DocumentFault
of_document None = refuse 2 place.Top
of_document (Some members) = and_then (top_keys members) entries

-- what bytes say as a setup file, or their first refusal
abbrev pub plan_of : List ℕ → Result SetupPlan DocumentFault
plan_of bytes = if nat_lt 1048576 (length bytes) then refuse 1 place.Top else of_document (document_of bytes)

-- ---- what every plan has

-- the version and the vector are in their ranges
pub record InRange (version vector : ℕ) : Type 0 where
  pub some_version : 1 ≤ version
  pub no_later : version ≤ 2
  pub some_vector : 1 ≤ vector
  pub no_more : vector ≤ 65536

-- ---- what the code answers

-- there is no document, unless memory runs out
abbrev pub NoDocument : DocumentRefusal → Option Members → Type 0
NoDocument refusal.Memory document = Unit {0}
NoDocument (refusal.Refused cause at) document = (cause ≡ 2) × (at ≡ place.Top) × (document ≡ None)
