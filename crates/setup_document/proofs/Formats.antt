-- Tables of the format are read, and what is read has the format.
use Rattle.std.proofs.Common.{◌≡◌, inl, inr, ℕ, Bool, true, false, if◌then◌else◌, List, [], ◌∷◌, length, codes, Result, Ok, Err, refl, sym, ap, subst}
use Rattle.std.specs.Prelude.{nat_lt, IsUtf8}
use Rattle.std.specs.Str.{is_utf8}
use Rattle.std.specs.declared.option.Option.{Option}
use Rattle.std.specs.declared.option.Option.TheVariants.{None, Some}
use Rattle.std.proofs.lemmas.Bool.{ltb-false, le-ltb}
use Rattle.std.proofs.lemmas.Str.{is_utf8-from_IsUtf8, IsUtf8-from_is_utf8}
use Rattle.toml.specs.Data.{Data, array, table, Items, no_items, Members, get_member}
use Rattle.toml.specs.Parse.{parse_document}
use Rattle.part_model.specs.declared.Net.{Net}
use Rattle.grant_table.specs.Faults.{GrantEntry}
use Rattle.setup_document.specs.declared.plan.Place.{Place}
use Rattle.setup_document.specs.declared.plan.Place.TheVariants as place
use Rattle.setup_document.specs.declared.plan.DeviceEntry.{DeviceEntry}
use Rattle.setup_document.specs.declared.plan.SetupPlan.{SetupPlan}
use Rattle.setup_document.specs.Keys.{DocumentFault, refuse, and_then, keys_at, known, table_in, required, number_in, items_in, file_name, pins, numbers, Pair, pair, each}
use Rattle.setup_document.specs.Documents.{pins_at, device, protocol, devices_at, port_at, protocol_at, grant, end_at, net, version_at, vector_at, nets_at, TopKeys, array_at, top_keys, entries, document_of, of_document, plan_of}
use Rattle.setup_document.specs.Format.{EachSays, OnlyKeys, IsNumber, IsFileName, ArePins, IsProtocol, IsArray, IsEnd, Has, MayHave, HasPins, IsDevice, IsGrant, IsNet, IsPlan}
use Rattle.setup_document.specs.Laws.{DocumentsHaveFormat, IsSetupFile, FilesHaveFormat}
use Rattle.setup_document.proofs.Chains.{Means, chained, changed, said_by}
use Rattle.setup_document.proofs.Values.{any, known_says, known_reads, table_says, required_says, number_says, number_reads, items_says, name_says, name_reads, pins_says, pins_reads, protocol_says, protocol_reads, numbers_says, numbers_reads, pair_says, pair_reads, each_says, each_reads}

-- ---- at keys

-- a required value, and what is read of it
has_says : {A : Type 0} (place : Place) (members : Members) (key : List ℕ) (read : Data → Result A DocumentFault) (says : Data → A → Type 0)
    → ((value : Data) → Means (says value) any (read value)) → Means (λ x. Has members key (λ value. says value x)) any (and_then (required place (get_member key members)) read)
has_says place members key read says one =
    chained (λ value. get_member key members ≡ Some value) (λ x. Has members key (λ value. says value x)) any (required place (get_member key members)) read
    (required_says place (get_member key members))
    (λ value there. changed (says value) (λ x. Has members key (λ value. says value x)) any any (read value) (λ x is. record { value = value; there = there; such = is }) (λ fault is. is) (one value))

has_reads : {A : Type 0} (place : Place) (members : Members) (key : List ℕ) (read : Data → Result A DocumentFault) (says : Data → A → Type 0) (x : A)
    → ((value : Data) → says value x → read value ≡ Ok x) → Has members key (λ value. says value x) → and_then (required place (get_member key members)) read ≡ Ok x
has_reads place _ key read says x one has = rw has.there (one has.value has.such)

-- two readings of one value, one behind the other
abbrev pub behind : {A B : Type 0} → (Data → Result A DocumentFault) → (A → Result B DocumentFault) → Data → Result B DocumentFault
behind first more value = and_then (first value) more

pub nested : {A B : Type 0} (one : Result Data DocumentFault) (first : Data → Result A DocumentFault) (more : A → Result B DocumentFault) → and_then (and_then one first) more ≡ and_then one (behind first more)
nested (Ok value) first more = refl
nested (Err fault) first more = refl

-- an array, and each of its items
array_says : {T : Type 0} (place : Place) (read : Items → Result (List T) DocumentFault) (says : Data → T → Type 0)
    → ((items : Items) → Means (EachSays says items) any (read items)) → (value : Data) → Means (IsArray says value) any (behind (items_in place) read value)
array_says place read says one value =
    chained (λ items. value ≡ array items) (IsArray says value) any (items_in place value) read (items_says place value)
    (λ items is. changed (EachSays says items) (IsArray says value) any any (read items) (λ entries each. record { items = items; is = is; each = each }) (λ fault is. is) (one items))

-- ---- a device

pins_at_says : (place : Place) (members : Members) → Means (HasPins members) any (pins_at place (get_member (codes "pins") members))
pins_at_says place members = by (get_member (codes "pins") members) refl
  where
    by : (found : Option Data) → get_member (codes "pins") members ≡ found → Means (HasPins members) any (pins_at place found)
    by None is = is
    by (Some value) is = chained (ArePins value) (HasPins members) any (pins place value) (λ text. Ok (Some text)) (pins_says place value) (λ text are. record { value = value; there = is; such = are })

pins_at_reads : (place : Place) (members : Members) (found : Option (List ℕ)) → HasPins members found → pins_at place (get_member (codes "pins") members) ≡ Ok found
pins_at_reads place _ None is = rw is refl
pins_at_reads place _ (Some text) has = rw has.there (rw (pins_reads place has.value text has.such) refl)

pub device_says : (number : ℕ) (value : Data) → Means (IsDevice value) any (device (place.Device number) value)
device_says number value =
    let at = place.Device number in
    chained (λ members. (value ≡ table members) × OnlyKeys (keys_at at) members) (IsDevice value) any (table_in at value)
    (λ members. and_then (and_then (required at (get_member (codes "bsdl") members)) (file_name at)) (λ bsdl. and_then (pins_at at (get_member (codes "pins") members)) (λ pins. Ok (record { bsdl = bsdl; pins = pins }))))
    (table_says at value) (λ members is.
    chained (λ bsdl. Has members (codes "bsdl") (λ value. IsFileName value bsdl)) (IsDevice value) any (and_then (required at (get_member (codes "bsdl") members)) (file_name at))
    (λ bsdl. and_then (pins_at at (get_member (codes "pins") members)) (λ pins. Ok (record { bsdl = bsdl; pins = pins })))
    (has_says at members (codes "bsdl") (file_name at) IsFileName (name_says at)) (λ bsdl has_bsdl.
    chained (HasPins members) (IsDevice value) any (pins_at at (get_member (codes "pins") members)) (λ pins. Ok (record { bsdl = bsdl; pins = pins }))
    (pins_at_says at members) (λ pins has_pins.
    record { members = members; is = is.0; keys = is.1; has_bsdl = has_bsdl; has_pins = has_pins })))

pub device_reads : (number : ℕ) (value : Data) (entry : DeviceEntry) → IsDevice value entry → device (place.Device number) value ≡ Ok entry
device_reads number value entry d =
    let at = place.Device number in
    rw d.is (rw (known_reads at d.members d.keys)
    (rw (has_reads at d.members (codes "bsdl") (file_name at) IsFileName entry.bsdl (λ value is. name_reads at value entry.bsdl is) d.has_bsdl)
    (rw (pins_at_reads at d.members entry.pins d.has_pins) refl)))

-- ---- a grant

numbers_in_says : (place : Place) (value : Data) → Means (IsArray (IsNumber 0 65535) value) any (behind (items_in place) (numbers place) value)
numbers_in_says place value = array_says place (numbers place) (IsNumber 0 65535) (numbers_says place) value

devices_at_says : (place : Place) (members : Members) → Means (λ devices. Has members (codes "devices") (λ value. IsArray (IsNumber 0 65535) value devices)) any (devices_at place members)
devices_at_says place members =
    subst (Means (λ devices. Has members (codes "devices") (λ value. IsArray (IsNumber 0 65535) value devices)) any) (sym (nested (required place (get_member (codes "devices") members)) (items_in place) (numbers place)))
    (has_says place members (codes "devices") (behind (items_in place) (numbers place)) (IsArray (IsNumber 0 65535)) (numbers_in_says place))

devices_at_reads : (place : Place) (members : Members) (devices : List ℕ) → Has members (codes "devices") (λ value. IsArray (IsNumber 0 65535) value devices) → devices_at place members ≡ Ok devices
devices_at_reads place _ devices has = rw has.there (rw has.such.is (numbers_reads place has.such.items devices has.such.each))

pub grant_says : (number : ℕ) (value : Data) → Means (IsGrant value) any (grant (place.Grant number) value)
grant_says number value =
    let at = place.Grant number in
    chained (λ members. (value ≡ table members) × OnlyKeys (keys_at at) members) (IsGrant value) any (table_in at value)
    (λ members. and_then (devices_at at members) (λ devices. and_then (port_at at members) (λ port. and_then (protocol_at at members) (λ protocol. Ok (record { devices = devices; port = port; protocol = protocol })))))
    (table_says at value) (λ members is.
    chained (λ devices. Has members (codes "devices") (λ value. IsArray (IsNumber 0 65535) value devices)) (IsGrant value) any (devices_at at members)
    (λ devices. and_then (port_at at members) (λ port. and_then (protocol_at at members) (λ protocol. Ok (record { devices = devices; port = port; protocol = protocol }))))
    (devices_at_says at members) (λ devices has_devices.
    chained (λ port. Has members (codes "port") (λ value. IsNumber 0 65535 value port)) (IsGrant value) any (port_at at members)
    (λ port. and_then (protocol_at at members) (λ protocol. Ok (record { devices = devices; port = port; protocol = protocol })))
    (has_says at members (codes "port") (number_in at 0 65535) (IsNumber 0 65535) (number_says at 0 65535)) (λ port has_port.
    chained (λ protocol. Has members (codes "protocol") (λ value. IsProtocol value protocol)) (IsGrant value) any (protocol_at at members)
    (λ protocol. Ok (record { devices = devices; port = port; protocol = protocol }))
    (has_says at members (codes "protocol") (protocol at) IsProtocol (protocol_says at)) (λ protocol has_protocol.
    record { members = members; is = is.0; keys = is.1; has_devices = has_devices; has_port = has_port; has_protocol = has_protocol }))))

pub grant_reads : (number : ℕ) (value : Data) (entry : GrantEntry) → IsGrant value entry → grant (place.Grant number) value ≡ Ok entry
grant_reads number value entry g =
    let at = place.Grant number in
    rw g.is (rw (known_reads at g.members g.keys)
    (rw (devices_at_reads at g.members entry.devices g.has_devices)
    (rw (has_reads at g.members (codes "port") (number_in at 0 65535) (IsNumber 0 65535) entry.port (λ value is. number_reads at 0 65535 value entry.port is) g.has_port)
    (rw (has_reads at g.members (codes "protocol") (protocol at) IsProtocol entry.protocol (λ value is. protocol_reads at value entry.protocol is) g.has_protocol) refl))))

-- ---- a net

abbrev SaysEnd : Data → Pair → Type 0
SaysEnd value p = IsEnd value p.device p.cell

end_says : (place : Place) (value : Data) → Means (SaysEnd value) any (behind (items_in place) (pair place) value)
end_says place value =
    chained (λ items. value ≡ array items) (SaysEnd value) any (items_in place value) (pair place) (items_says place value)
    (λ items is. changed (SaysEnd (array items)) (SaysEnd value) any any (pair place items) (λ p e. subst (λ v. SaysEnd v p) (sym is) e) (λ fault is. is) (pair_says place items))

end_at_says : (place : Place) (members : Members) (key : List ℕ) → Means (λ p. Has members key (λ value. SaysEnd value p)) any (end_at place (get_member key members))
end_at_says place members key =
    subst (Means (λ p. Has members key (λ value. SaysEnd value p)) any) (sym (nested (required place (get_member key members)) (items_in place) (pair place)))
    (has_says place members key (behind (items_in place) (pair place)) SaysEnd (end_says place))

end_at_reads : (place : Place) (members : Members) (key : List ℕ) (device cell : ℕ) → Has members key (λ value. IsEnd value device cell) → end_at place (get_member key members) ≡ Ok (record { device = device; cell = cell })
end_at_reads place _ key device cell has = rw has.there (rw has.such.is (pair_reads place device cell has.such.device_no_more has.such.cell_no_more))

pub net_says : (number : ℕ) (value : Data) → Means (IsNet value) any (net (place.Net number) value)
net_says number value =
    let at = place.Net number in
    chained (λ members. (value ≡ table members) × OnlyKeys (keys_at at) members) (IsNet value) any (table_in at value)
    (λ members. and_then (end_at at (get_member (codes "from") members)) (λ from. and_then (end_at at (get_member (codes "to") members)) (λ to. Ok (record { from_device = from.device; from_cell = from.cell; to_device = to.device; to_cell = to.cell }))))
    (table_says at value) (λ members is.
    chained (λ p. Has members (codes "from") (λ value. SaysEnd value p)) (IsNet value) any (end_at at (get_member (codes "from") members))
    (λ from. and_then (end_at at (get_member (codes "to") members)) (λ to. Ok (record { from_device = from.device; from_cell = from.cell; to_device = to.device; to_cell = to.cell })))
    (end_at_says at members (codes "from")) (λ from has_from.
    chained (λ p. Has members (codes "to") (λ value. SaysEnd value p)) (IsNet value) any (end_at at (get_member (codes "to") members))
    (λ to. Ok (record { from_device = from.device; from_cell = from.cell; to_device = to.device; to_cell = to.cell }))
    (end_at_says at members (codes "to")) (λ to has_to.
    record { members = members; is = is.0; keys = is.1; has_from = has_from; has_to = has_to })))

pub net_reads : (number : ℕ) (value : Data) (entry : Net) → IsNet value entry → net (place.Net number) value ≡ Ok entry
net_reads number value entry n =
    let at = place.Net number in
    rw n.is (rw (known_reads at n.members n.keys)
    (rw (end_at_reads at n.members (codes "from") entry.from_device entry.from_cell n.has_from)
    (rw (end_at_reads at n.members (codes "to") entry.to_device entry.to_cell n.has_to) refl)))

-- ---- the top

vector_says : (members : Members) → Means (λ vector. MayHave members (codes "vector") (λ value. IsNumber 1 65536 value vector) (vector ≡ 2048)) any (vector_at (get_member (codes "vector") members))
vector_says members = by (get_member (codes "vector") members) refl
  where
    by : (found : Option Data) → get_member (codes "vector") members ≡ found → Means (λ vector. MayHave members (codes "vector") (λ value. IsNumber 1 65536 value vector) (vector ≡ 2048)) any (vector_at found)
    by None is = inr (is, refl)
    by (Some value) is = changed (IsNumber 1 65536 value) _ any any (number_in place.Top 1 65536 value) (λ vector number. inl (record { value = value; there = is; such = number })) (λ fault told. told) (number_says place.Top 1 65536 value)

vector_reads : (members : Members) (vector : ℕ) → MayHave members (codes "vector") (λ value. IsNumber 1 65536 value vector) (vector ≡ 2048) → vector_at (get_member (codes "vector") members) ≡ Ok vector
vector_reads _ vector (inl has) = rw has.there (number_reads place.Top 1 65536 has.value vector has.such)
vector_reads _ vector (inr is) = rw is.0 (ap Ok (sym is.1))

-- the items at the key `net`, if there is one
abbrev HasNets : Members → Items → Type 0
HasNets members items = MayHave members (codes "net") (λ value. value ≡ array items) (items ≡ no_items)

nets_say : (members : Members) → Means (HasNets members) any (nets_at (get_member (codes "net") members))
nets_say members = by (get_member (codes "net") members) refl
  where
    by : (found : Option Data) → get_member (codes "net") members ≡ found → Means (HasNets members) any (nets_at found)
    by None is = inr (is, refl)
    by (Some value) is = changed (λ items. value ≡ array items) _ any any (items_in place.Top value) (λ items are. inl (record { value = value; there = is; such = are })) (λ fault told. told) (items_says place.Top value)

-- what stands at the keys at the top
pub record SaysTop (members : Members) (top : TopKeys) : Type 0 where
  pub keys : OnlyKeys (keys_at place.Top) members
  pub has_version : Has members (codes "version") (λ value. IsNumber 1 2 value top.version)
  pub has_vector : MayHave members (codes "vector") (λ value. IsNumber 1 65536 value top.vector) (top.vector ≡ 2048)
  pub has_devices : Has members (codes "device") (λ value. value ≡ array top.devices)
  pub has_grants : Has members (codes "grant") (λ value. value ≡ array top.grants)
  pub has_nets : HasNets members top.nets

abbrev pub top_of : ℕ → ℕ → Items → Items → Items → TopKeys
top_of version vector devices grants nets = record { version = version; vector = vector; devices = devices; grants = grants; nets = nets }

array_at_says : (members : Members) (key : List ℕ) → Means (λ items. Has members key (λ value. value ≡ array items)) any (array_at members key)
array_at_says members key = has_says place.Top members key (items_in place.Top) (λ value items. value ≡ array items) (items_says place.Top)

top_behind : (members : Members) → OnlyKeys (keys_at place.Top) members
    → Means (SaysTop members) any
    (and_then (version_at members) (λ version. and_then (vector_at (get_member (codes "vector") members)) (λ vector. and_then (array_at members (codes "device")) (λ devices.
    and_then (array_at members (codes "grant")) (λ grants. and_then (nets_at (get_member (codes "net") members)) (λ nets. Ok (top_of version vector devices grants nets)))))))
top_behind members keys =
    chained (λ version. Has members (codes "version") (λ value. IsNumber 1 2 value version)) (SaysTop members) any (version_at members)
    (λ version. and_then (vector_at (get_member (codes "vector") members)) (λ vector. and_then (array_at members (codes "device")) (λ devices.
    and_then (array_at members (codes "grant")) (λ grants. and_then (nets_at (get_member (codes "net") members)) (λ nets. Ok (top_of version vector devices grants nets))))))
    (has_says place.Top members (codes "version") (number_in place.Top 1 2) (IsNumber 1 2) (number_says place.Top 1 2)) (λ version has_version.
    chained (λ vector. MayHave members (codes "vector") (λ value. IsNumber 1 65536 value vector) (vector ≡ 2048)) (SaysTop members) any (vector_at (get_member (codes "vector") members))
    (λ vector. and_then (array_at members (codes "device")) (λ devices.
    and_then (array_at members (codes "grant")) (λ grants. and_then (nets_at (get_member (codes "net") members)) (λ nets. Ok (top_of version vector devices grants nets)))))
    (vector_says members) (λ vector has_vector.
    chained (λ items. Has members (codes "device") (λ value. value ≡ array items)) (SaysTop members) any (array_at members (codes "device"))
    (λ devices. and_then (array_at members (codes "grant")) (λ grants. and_then (nets_at (get_member (codes "net") members)) (λ nets. Ok (top_of version vector devices grants nets))))
    (array_at_says members (codes "device")) (λ devices has_devices.
    chained (λ items. Has members (codes "grant") (λ value. value ≡ array items)) (SaysTop members) any (array_at members (codes "grant"))
    (λ grants. and_then (nets_at (get_member (codes "net") members)) (λ nets. Ok (top_of version vector devices grants nets)))
    (array_at_says members (codes "grant")) (λ grants has_grants.
    chained (HasNets members) (SaysTop members) any (nets_at (get_member (codes "net") members)) (λ nets. Ok (top_of version vector devices grants nets))
    (nets_say members) (λ nets has_nets.
    record { keys = keys; has_version = has_version; has_vector = has_vector; has_devices = has_devices; has_grants = has_grants; has_nets = has_nets })))))

pub top_says : (members : Members) → Means (SaysTop members) any (top_keys members)
top_says members =
    chained (λ found. (found ≡ members) × OnlyKeys (keys_at place.Top) members) (SaysTop members) any (known place.Top members)
    (λ members. and_then (version_at members) (λ version. and_then (vector_at (get_member (codes "vector") members)) (λ vector. and_then (array_at members (codes "device")) (λ devices.
    and_then (array_at members (codes "grant")) (λ grants. and_then (nets_at (get_member (codes "net") members)) (λ nets. Ok (top_of version vector devices grants nets)))))))
    (known_says place.Top members) (λ found is. rw is.0 (top_behind members is.1))

as_array : {T : Type 0} (says : Data → T → Type 0) (members : Members) (key : List ℕ) (items : Items) (entries : List T)
    → Has members key (λ value. value ≡ array items) → EachSays says items entries → Has members key (λ value. IsArray says value entries)
as_array says _ key items entries has each = record { value = has.value; there = has.there; such = record { items = items; is = has.such; each = each } }

no_nets : (nets : List Net) → EachSays IsNet no_items nets → nets ≡ []
no_nets [] each = refl
no_nets (net ∷ nets) each = absurd each

as_nets : (members : Members) (items : Items) (nets : List Net) → HasNets members items → EachSays IsNet items nets → MayHave members (codes "net") (λ value. IsArray IsNet value nets) (nets ≡ [])
as_nets members items nets (inl has) each = inl (as_array IsNet members (codes "net") items nets has each)
as_nets _ items nets (inr is) each = inr (is.0, no_nets nets (subst (λ i. EachSays IsNet i nets) is.1 each))

entries_say : (members : Members) (top : TopKeys) → SaysTop members top → Means (IsPlan members) any (entries top)
entries_say members top t =
    chained (EachSays IsDevice top.devices) (IsPlan members) any (each place.Device device 1 top.devices)
    (λ devices. and_then (each place.Grant grant 1 top.grants) (λ grants. and_then (each place.Net net 1 top.nets) (λ nets.
    Ok (record { version = top.version; vector = top.vector; devices = devices; grants = grants; nets = nets }))))
    (each_says place.Device device IsDevice device_says 1 top.devices) (λ devices each_device.
    chained (EachSays IsGrant top.grants) (IsPlan members) any (each place.Grant grant 1 top.grants)
    (λ grants. and_then (each place.Net net 1 top.nets) (λ nets. Ok (record { version = top.version; vector = top.vector; devices = devices; grants = grants; nets = nets })))
    (each_says place.Grant grant IsGrant grant_says 1 top.grants) (λ grants each_grant.
    chained (EachSays IsNet top.nets) (IsPlan members) any (each place.Net net 1 top.nets)
    (λ nets. Ok (record { version = top.version; vector = top.vector; devices = devices; grants = grants; nets = nets }))
    (each_says place.Net net IsNet net_says 1 top.nets) (λ nets each_net.
    record {
      keys = t.keys;
      has_version = t.has_version;
      has_vector = t.has_vector;
      has_devices = as_array IsDevice members (codes "device") top.devices devices t.has_devices each_device;
      has_grants = as_array IsGrant members (codes "grant") top.grants grants t.has_grants each_grant;
      has_nets = as_nets members top.nets nets t.has_nets each_net;
    })))

document_says : (members : Members) → Means (IsPlan members) any (of_document (Some members))
document_says members = chained (SaysTop members) (IsPlan members) any (top_keys members) entries (top_says members) (λ top. entries_say members top)

-- back

nets_read : (members : Members) (nets : List Net) → MayHave members (codes "net") (λ value. IsArray IsNet value nets) (nets ≡ [])
    → (items : Items) × (nets_at (get_member (codes "net") members) ≡ Ok items) × EachSays IsNet items nets
nets_read _ nets (inl has) = (has.such.items, rw has.there (rw has.such.is refl), has.such.each)
nets_read _ nets (inr is) = (no_items, rw is.0 refl, subst (EachSays IsNet no_items) (sym is.1) tt)

array_at_reads : {T : Type 0} (says : Data → T → Type 0) (members : Members) (key : List ℕ) (entries : List T) (has : Has members key (λ value. IsArray says value entries)) → array_at members key ≡ Ok has.such.items
array_at_reads says _ key entries has = rw has.there (rw has.such.is refl)

document_reads : (members : Members) (plan : SetupPlan) → IsPlan members plan → of_document (Some members) ≡ Ok plan
document_reads members plan p =
    let nets = nets_read members plan.nets p.has_nets in
    rw (known_reads place.Top members p.keys)
    (rw (has_reads place.Top members (codes "version") (number_in place.Top 1 2) (IsNumber 1 2) plan.version (λ value is. number_reads place.Top 1 2 value plan.version is) p.has_version)
    (rw (vector_reads members plan.vector p.has_vector)
    (rw (array_at_reads IsDevice members (codes "device") plan.devices p.has_devices)
    (rw (array_at_reads IsGrant members (codes "grant") plan.grants p.has_grants)
    (rw nets.1
    (rw (each_reads place.Device device IsDevice device_reads 1 p.has_devices.such.items plan.devices p.has_devices.such.each)
    (rw (each_reads place.Grant grant IsGrant grant_reads 1 p.has_grants.such.items plan.grants p.has_grants.such.each)
    (rw (each_reads place.Net net IsNet net_reads 1 nets.0 plan.nets nets.2)
    refl))))))))

pub documents_have_format : DocumentsHaveFormat
documents_have_format members plan = (λ is. said_by (IsPlan members) any (of_document (Some members)) plan is (document_says members), document_reads members plan)

-- ---- the bytes

pub found_document : (bytes : List ℕ) (members : Members) → document_of bytes ≡ Some members → IsUtf8 bytes × (parse_document bytes ≡ Some members)
found_document bytes members is = by (is_utf8 bytes) refl is
  where
    by : (utf8 : Bool) → is_utf8 bytes ≡ utf8 → (if utf8 then parse_document bytes else None) ≡ Some members → IsUtf8 bytes × (parse_document bytes ≡ Some members)
    by true utf8 is = (IsUtf8-from_is_utf8 bytes utf8, is)
    by false utf8 is = absurd (cc is)

file_says : (bytes : List ℕ) (plan : SetupPlan) → plan_of bytes ≡ Ok plan → IsSetupFile bytes plan
file_says bytes plan is = by (nat_lt 1048576 (length bytes)) refl (document_of bytes) refl is
  where
    by : (more : Bool) → nat_lt 1048576 (length bytes) ≡ more → (found : Option Members) → document_of bytes ≡ found → (if more then refuse 1 place.Top else of_document found) ≡ Ok plan → IsSetupFile bytes plan
    by true more found has is = absurd (cc is)
    by false more None has is = absurd (cc is)
    by false more (Some members) has is =
        let file = found_document bytes members has in
        record { no_more = ltb-false 1048576 (length bytes) more; utf8 = file.0; members = members; document = file.1; says = (documents_have_format members plan).0 is }

file_reads : (bytes : List ℕ) (plan : SetupPlan) → IsSetupFile bytes plan → plan_of bytes ≡ Ok plan
file_reads bytes plan f =
    rw (le-ltb 1048576 (length bytes) f.no_more) (rw (is_utf8-from_IsUtf8 bytes f.utf8) (rw f.document (document_reads f.members plan f.says)))

pub files_have_format : FilesHaveFormat
files_have_format bytes plan = (file_says bytes plan, file_reads bytes plan)
