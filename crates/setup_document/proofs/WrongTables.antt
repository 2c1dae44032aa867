-- What is wrong at the place of a refusal.
use Rattle.std.proofs.Common.{◌≡◌, ◌+◌, ◌⊎◌, inl, inr, ℕ, suc, Bool, true, false, if◌then◌else◌, List, ◌∷◌, length, codes, Result, Ok, Err, refl, sym, ap, subst, ◌∙◌, arith}
use Rattle.std.specs.Prelude.{nat_lt, IsUtf8}
use Rattle.std.specs.declared.option.Option.{Option}
use Rattle.std.specs.declared.option.Option.TheVariants.{None, Some}
use Rattle.std.proofs.lemmas.Bool.{ltb-true, and_cases}
use Rattle.std.proofs.lemmas.Str.{is_utf8-from_IsUtf8}
use Rattle.toml.specs.Data.{Data, integer, float, boolean, datetime, string, array, table, Items, no_items, item, Members, no_members, member, get_member, get_item}
use Rattle.toml.specs.Parse.{parse_document}
use Rattle.setup_document.specs.declared.plan.Place.{Place}
use Rattle.setup_document.specs.declared.plan.Place.TheVariants as place
use Rattle.setup_document.specs.Keys.{DocumentFault, refuse, and_then, is_known, are_known, keys_at, known, table_in, required, number_in, items_in, file_name, pins, numbers, pair, each}
use Rattle.setup_document.specs.Documents.{pins_at, device, protocol, devices_at, port_at, protocol_at, grant, end_at, net, version_at, vector_at, nets_at, TopKeys, array_at, top_keys, entries, document_of, of_document}
use Rattle.setup_document.specs.Format.{Has, IsOneOf}
use Rattle.setup_document.specs.Refusals.{Form, Key, needs, takes, names_at, HasUnknownKey, WrongKey, WrongTable, WrongValue, IsItem, StandsAt, IsWrong}
use Rattle.setup_document.specs.Laws.{FilesAreRefused, HasTooMany, HasNoDocument, HasWrongDocument}
use Rattle.setup_document.proofs.Chains.{Means, chained, changed, tested, refused_by}
use Rattle.setup_document.proofs.Values.{any, any_of}
use Rattle.setup_document.proofs.Formats.{behind, nested, SaysTop, top_says, top_of, found_document}
use Rattle.setup_document.proofs.WrongValues.{fine, Wrong, number_wrong, name_wrong, pins_wrong, protocol_wrong, numbers_wrong, end_wrong, entries_wrong}

-- ---- at keys

abbrev WrongHere : Place → Members → Key → DocumentFault → Type 0
WrongHere place members key fault = (fault.place ≡ place) × WrongKey members fault.cause key

-- a value that stands at a key
there : {A : Type 0} (place : Place) (members : Members) (key : Key) (value : Data) (r : Result A DocumentFault) → get_member key.name members ≡ Some value
    → Means fine (Wrong key.form place value) r → Means fine (WrongHere place members key) r
there place members key value r is = changed fine fine (Wrong key.form place value) (WrongHere place members key) r (λ x _. tt)
    (λ fault wrong. (
      wrong.0,
      elim wrong.1 [
        | inl other ↦ inr (inl (other.0, record { value = value; there = is; such = other.1 }))
        | inr out ↦ inr (inr (out.0, record { value = value; there = is; such = out.1 }))
      ],
    ))

needed : {A : Type 0} (place : Place) (members : Members) (name : List ℕ) (form : Form) (read : Data → Result A DocumentFault) → ((value : Data) → Means fine (Wrong form place value) (read value))
    → Means fine (WrongHere place members (needs name form)) (and_then (required place (get_member name members)) read)
needed {A = A} place members name form read one = by (get_member name members) refl
  where
    by : (found : Option Data) → get_member name members ≡ found → Means {A = A} fine (WrongHere place members (needs name form)) (and_then (required place found) read)
    by None is = (refl, inl (refl, record { required = refl; missing = is }))
    by (Some value) is = there place members (needs name form) value (read value) is (one value)

-- ---- tables

abbrev WrongIn : Place → Members → DocumentFault → Type 0
WrongIn place members fault = (fault.place ≡ place) × WrongTable place members fault.cause

same_names : (place : Place) → names_at place ≡ keys_at place
same_names place.Top = refl
same_names (place.Device number) = refl
same_names (place.Grant number) = refl
same_names (place.Net number) = refl

unknown_key : (place : Place) (members : Members) → are_known place members ≡ false → HasUnknownKey place members
unknown_key place no_members is = absurd (cc is)
unknown_key place (member key value rest) is = elim (and_cases (is_known place key) (are_known place rest) is) [
  | inl one ↦ record { key = key; has = inl refl; unknown = λ known. absurd (cc (any_of key (keys_at place) (subst (IsOneOf key) (same_names place) known), one)) }
  | inr more ↦ let u = unknown_key place rest more in record { key = u.key; has = inr u.has; unknown = u.unknown }
]

known_first : {A : Type 0} (place : Place) (members : Members) (more : Members → Result A DocumentFault) → Means fine (WrongIn place members) (more members) → Means fine (WrongIn place members) (and_then (known place members) more)
known_first place members more one =
    chained (λ found. found ≡ members) fine (WrongIn place members) (known place members) more
    (tested (λ found. found ≡ members) (WrongIn place members) (are_known place members) (Ok members) (refuse 3 place) (λ is. refl) (λ is. (refl, inl (refl, unknown_key place members is))))
    (λ found is. subst (λ m. Means fine (WrongIn place members) (more m)) (sym is) one)

abbrev WrongAt : Place → Data → DocumentFault → Type 0
WrongAt place value fault = (fault.place ≡ place) × WrongValue place value fault.cause

in_table : {A : Type 0} (place : Place) (value : Data) (more : Members → Result A DocumentFault) → ((members : Members) → Means fine (WrongIn place members) (more members)) → Means fine (WrongAt place value) (and_then (table_in place value) more)
in_table place (table members) more one = changed fine fine (WrongIn place members) (WrongAt place (table members)) (and_then (known place members) more) (λ x _. tt)
    (λ fault wrong. (wrong.0, inr (record { members = members; is = refl; wrong = wrong.1 }))) (known_first place members more (one members))
in_table place (integer number) more one = (refl, inl (refl, λ members is. absurd (cc is)))
in_table place (string text) more one = (refl, inl (refl, λ members is. absurd (cc is)))
in_table place (float number) more one = (refl, inl (refl, λ members is. absurd (cc is)))
in_table place (boolean value) more one = (refl, inl (refl, λ members is. absurd (cc is)))
in_table place (datetime time) more one = (refl, inl (refl, λ members is. absurd (cc is)))
in_table place (array items) more one = (refl, inl (refl, λ members is. absurd (cc is)))

-- one key of the table, and then the rest
step : {A B : Type 0} (place : Place) (members : Members) (key : Key) (first : Result A DocumentFault) (more : A → Result B DocumentFault)
    → ((cause : ℕ) → WrongKey members cause key → WrongTable place members cause) → Means fine (WrongHere place members key) first → ((x : A) → Means fine (WrongIn place members) (more x)) → Means fine (WrongIn place members) (and_then first more)
step place members key first more into one rest =
    chained fine fine (WrongIn place members) first more (changed fine fine (WrongHere place members key) (WrongIn place members) first (λ x _. tt) (λ fault wrong. (wrong.0, into fault.cause wrong.1)) one) (λ x _. rest x)

-- ---- devices, grants and nets

pins_at_wrong : (place : Place) (members : Members) → Means fine (WrongHere place members (takes (codes "pins") Form.Pins)) (pins_at place (get_member (codes "pins") members))
pins_at_wrong place members = by (get_member (codes "pins") members) refl
  where
    by : (found : Option Data) → get_member (codes "pins") members ≡ found → Means fine (WrongHere place members (takes (codes "pins") Form.Pins)) (pins_at place found)
    by None is = tt
    by (Some value) is = chained fine fine (WrongHere place members (takes (codes "pins") Form.Pins)) (pins place value) (λ text. Ok (Some text)) (there place members (takes (codes "pins") Form.Pins) value (pins place value) is (pins_wrong place value)) (λ text _. tt)

device_wrong : (number : ℕ) (value : Data) → Means fine (WrongAt (place.Device number) value) (device (place.Device number) value)
device_wrong number value =
    let at = place.Device number in
    in_table at value (λ members. and_then (and_then (required at (get_member (codes "bsdl") members)) (file_name at)) (λ bsdl. and_then (pins_at at (get_member (codes "pins") members)) (λ pins. Ok (record { bsdl = bsdl; pins = pins })))) (λ members.
    step at members (needs (codes "bsdl") Form.FileName) (and_then (required at (get_member (codes "bsdl") members)) (file_name at)) (λ bsdl. and_then (pins_at at (get_member (codes "pins") members)) (λ pins. Ok (record { bsdl = bsdl; pins = pins })))
    (λ cause wrong. inr (inl wrong)) (needed at members (codes "bsdl") Form.FileName (file_name at) (name_wrong at)) (λ bsdl.
    step at members (takes (codes "pins") Form.Pins) (pins_at at (get_member (codes "pins") members)) (λ pins. Ok (record { bsdl = bsdl; pins = pins }))
    (λ cause wrong. inr (inr (inl wrong))) (pins_at_wrong at members) (λ pins. tt)))

devices_at_wrong : (place : Place) (members : Members) → Means fine (WrongHere place members (needs (codes "devices") Form.Numbers)) (devices_at place members)
devices_at_wrong place members = subst (Means fine (WrongHere place members (needs (codes "devices") Form.Numbers))) (sym (nested (required place (get_member (codes "devices") members)) (items_in place) (numbers place)))
    (needed place members (codes "devices") Form.Numbers (behind (items_in place) (numbers place)) (numbers_wrong place))

grant_wrong : (number : ℕ) (value : Data) → Means fine (WrongAt (place.Grant number) value) (grant (place.Grant number) value)
grant_wrong number value =
    let at = place.Grant number in
    in_table at value (λ members. and_then (devices_at at members) (λ devices. and_then (port_at at members) (λ port. and_then (protocol_at at members) (λ protocol. Ok (record { devices = devices; port = port; protocol = protocol }))))) (λ members.
    step at members (needs (codes "devices") Form.Numbers) (devices_at at members) (λ devices. and_then (port_at at members) (λ port. and_then (protocol_at at members) (λ protocol. Ok (record { devices = devices; port = port; protocol = protocol }))))
    (λ cause wrong. inr (inl wrong)) (devices_at_wrong at members) (λ devices.
    step at members (needs (codes "port") (Form.Number 0 65535)) (port_at at members) (λ port. and_then (protocol_at at members) (λ protocol. Ok (record { devices = devices; port = port; protocol = protocol })))
    (λ cause wrong. inr (inr (inl wrong))) (needed at members (codes "port") (Form.Number 0 65535) (number_in at 0 65535) (number_wrong at 0 65535)) (λ port.
    step at members (needs (codes "protocol") Form.ProtocolName) (protocol_at at members) (λ protocol. Ok (record { devices = devices; port = port; protocol = protocol }))
    (λ cause wrong. inr (inr (inr (inl wrong)))) (needed at members (codes "protocol") Form.ProtocolName (protocol at) (protocol_wrong at)) (λ protocol. tt))))

end_at_wrong : (place : Place) (members : Members) (name : List ℕ) → Means fine (WrongHere place members (needs name Form.End)) (end_at place (get_member name members))
end_at_wrong place members name = subst (Means fine (WrongHere place members (needs name Form.End))) (sym (nested (required place (get_member name members)) (items_in place) (pair place)))
    (needed place members name Form.End (behind (items_in place) (pair place)) (end_wrong place))

net_wrong : (number : ℕ) (value : Data) → Means fine (WrongAt (place.Net number) value) (net (place.Net number) value)
net_wrong number value =
    let at = place.Net number in
    in_table at value (λ members. and_then (end_at at (get_member (codes "from") members)) (λ from. and_then (end_at at (get_member (codes "to") members)) (λ to. Ok (record { from_device = from.device; from_cell = from.cell; to_device = to.device; to_cell = to.cell })))) (λ members.
    step at members (needs (codes "from") Form.End) (end_at at (get_member (codes "from") members)) (λ from. and_then (end_at at (get_member (codes "to") members)) (λ to. Ok (record { from_device = from.device; from_cell = from.cell; to_device = to.device; to_cell = to.cell })))
    (λ cause wrong. inr (inl wrong)) (end_at_wrong at members (codes "from")) (λ from.
    step at members (needs (codes "to") Form.End) (end_at at (get_member (codes "to") members)) (λ to. Ok (record { from_device = from.device; from_cell = from.cell; to_device = to.device; to_cell = to.cell }))
    (λ cause wrong. inr (inr (inl wrong))) (end_at_wrong at members (codes "to")) (λ to. tt)))

-- ---- the top

vector_wrong : (members : Members) → Means fine (WrongHere place.Top members (takes (codes "vector") (Form.Number 1 65536))) (vector_at (get_member (codes "vector") members))
vector_wrong members = by (get_member (codes "vector") members) refl
  where
    by : (found : Option Data) → get_member (codes "vector") members ≡ found → Means fine (WrongHere place.Top members (takes (codes "vector") (Form.Number 1 65536))) (vector_at found)
    by None is = tt
    by (Some value) is = there place.Top members (takes (codes "vector") (Form.Number 1 65536)) value (number_in place.Top 1 65536 value) is (number_wrong place.Top 1 65536 value)

nets_wrong : (members : Members) → Means fine (WrongHere place.Top members (takes (codes "net") Form.Entries)) (nets_at (get_member (codes "net") members))
nets_wrong members = by (get_member (codes "net") members) refl
  where
    by : (found : Option Data) → get_member (codes "net") members ≡ found → Means fine (WrongHere place.Top members (takes (codes "net") Form.Entries)) (nets_at found)
    by None is = tt
    by (Some value) is = there place.Top members (takes (codes "net") Form.Entries) value (items_in place.Top value) is (entries_wrong place.Top value)

top_wrong : (members : Members) → Means fine (WrongIn place.Top members) (top_keys members)
top_wrong members =
    known_first place.Top members
    (λ members. and_then (version_at members) (λ version. and_then (vector_at (get_member (codes "vector") members)) (λ vector. and_then (array_at members (codes "device")) (λ devices.
    and_then (array_at members (codes "grant")) (λ grants. and_then (nets_at (get_member (codes "net") members)) (λ nets. Ok (top_of version vector devices grants nets)))))))
    (step place.Top members (needs (codes "version") (Form.Number 1 2)) (version_at members)
    (λ version. and_then (vector_at (get_member (codes "vector") members)) (λ vector. and_then (array_at members (codes "device")) (λ devices.
    and_then (array_at members (codes "grant")) (λ grants. and_then (nets_at (get_member (codes "net") members)) (λ nets. Ok (top_of version vector devices grants nets))))))
    (λ cause wrong. inr (inl wrong)) (needed place.Top members (codes "version") (Form.Number 1 2) (number_in place.Top 1 2) (number_wrong place.Top 1 2)) (λ version.
    step place.Top members (takes (codes "vector") (Form.Number 1 65536)) (vector_at (get_member (codes "vector") members))
    (λ vector. and_then (array_at members (codes "device")) (λ devices. and_then (array_at members (codes "grant")) (λ grants. and_then (nets_at (get_member (codes "net") members)) (λ nets. Ok (top_of version vector devices grants nets)))))
    (λ cause wrong. inr (inr (inl wrong))) (vector_wrong members) (λ vector.
    step place.Top members (needs (codes "device") Form.Entries) (array_at members (codes "device"))
    (λ devices. and_then (array_at members (codes "grant")) (λ grants. and_then (nets_at (get_member (codes "net") members)) (λ nets. Ok (top_of version vector devices grants nets))))
    (λ cause wrong. inr (inr (inr (inl wrong)))) (needed place.Top members (codes "device") Form.Entries (items_in place.Top) (entries_wrong place.Top)) (λ devices.
    step place.Top members (needs (codes "grant") Form.Entries) (array_at members (codes "grant"))
    (λ grants. and_then (nets_at (get_member (codes "net") members)) (λ nets. Ok (top_of version vector devices grants nets)))
    (λ cause wrong. inr (inr (inr (inr (inl wrong))))) (needed place.Top members (codes "grant") Form.Entries (items_in place.Top) (entries_wrong place.Top)) (λ grants.
    step place.Top members (takes (codes "net") Form.Entries) (nets_at (get_member (codes "net") members)) (λ nets. Ok (top_of version vector devices grants nets))
    (λ cause wrong. inr (inr (inr (inr (inr (inl wrong)))))) (nets_wrong members) (λ nets. tt))))))

-- ---- the items of an array in turn

record IsWrongItem (at : ℕ → Place) (number : ℕ) (items : Items) (fault : DocumentFault) : Type 0 where
  before : ℕ
  value : Data
  is : get_item before items ≡ Some value
  place_is : fault.place ≡ at (number + before)
  wrong : WrongValue (at (number + before)) value fault.cause

here : (at : ℕ → Place) (number : ℕ) (value : Data) (items : Items) (fault : DocumentFault) → WrongAt (at number) value fault → IsWrongItem at number (item value items) fault
here at number value items fault wrong =
    let same : number ≡ number + 0 = omega arith in
    record { before = 0; value = value; is = refl; place_is = wrong.0 ∙ ap at same; wrong = subst (λ n. WrongValue (at n) value fault.cause) same wrong.1 }

later : (at : ℕ → Place) (number : ℕ) (value : Data) (items : Items) (fault : DocumentFault) → IsWrongItem at (suc number) items fault → IsWrongItem at number (item value items) fault
later at number value items fault w =
    let same : suc number + w.before ≡ number + suc w.before = omega arith in
    record { before = suc w.before; value = w.value; is = w.is; place_is = w.place_is ∙ ap at same; wrong = subst (λ n. WrongValue (at n) w.value fault.cause) same w.wrong }

each_wrong : {A : Type 0} (at : ℕ → Place) (read : Place → Data → Result A DocumentFault) → ((number : ℕ) (value : Data) → Means fine (WrongAt (at number) value) (read (at number) value))
    → (number : ℕ) (items : Items) → Means fine (IsWrongItem at number items) (each at read number items)
each_wrong at read one number no_items = tt
each_wrong at read one number (item value items) =
    chained fine fine (IsWrongItem at number (item value items)) (read (at number) value) (λ entry. and_then (each at read (suc number) items) (λ entries. Ok (entry ∷ entries)))
    (changed fine fine (WrongAt (at number) value) (IsWrongItem at number (item value items)) (read (at number) value) (λ x _. tt) (here at number value items) (one number value)) (λ entry _.
    chained fine fine (IsWrongItem at number (item value items)) (each at read (suc number) items) (λ entries. Ok (entry ∷ entries))
    (changed fine fine (IsWrongItem at (suc number) items) (IsWrongItem at number (item value items)) (each at read (suc number) items) (λ x _. tt) (later at number value items) (each_wrong at read one (suc number) items)) (λ entries _. tt))

-- ---- the whole

placed : (document : Members) (fault : DocumentFault) (place : Place) (value : Data) → fault.place ≡ place → StandsAt document place value → WrongValue place value fault.cause → IsWrong document fault
placed document fault place value is stands wrong = record { value = value; stands = subst (λ p. StandsAt document p value) (sym is) stands; wrong = subst (λ p. WrongValue p value fault.cause) (sym is) wrong }

as_item : (document : Members) (key : List ℕ) (items : Items) (before : ℕ) (value : Data) → Has document key (λ v. v ≡ array items) → get_item before items ≡ Some value → IsItem document key (1 + before) value
as_item document key items before value has is = record { items = items; there = has.there ∙ ap Some has.such; before = before; counted = omega arith; is = is }

both : {A : Type 0} (good : A → Type 0) (bad : DocumentFault → Type 0) (r : Result A DocumentFault) → Means good any r → Means fine bad r → Means good bad r
both good bad (Ok x) one other = one
both good bad (Err fault) one other = other

entries_wrong_in : (members : Members) (top : TopKeys) → SaysTop members top → Means fine (IsWrong members) (entries top)
entries_wrong_in members top t =
    chained fine fine (IsWrong members) (each place.Device device 1 top.devices)
    (λ devices. and_then (each place.Grant grant 1 top.grants) (λ grants. and_then (each place.Net net 1 top.nets) (λ nets.
    Ok (record { version = top.version; vector = top.vector; devices = devices; grants = grants; nets = nets }))))
    (changed fine fine (IsWrongItem place.Device 1 top.devices) (IsWrong members) (each place.Device device 1 top.devices) (λ x _. tt)
    (λ fault w. placed members fault (place.Device (1 + w.before)) w.value w.place_is (as_item members (codes "device") top.devices w.before w.value t.has_devices w.is) w.wrong) (each_wrong place.Device device device_wrong 1 top.devices)) (λ devices _.
    chained fine fine (IsWrong members) (each place.Grant grant 1 top.grants)
    (λ grants. and_then (each place.Net net 1 top.nets) (λ nets. Ok (record { version = top.version; vector = top.vector; devices = devices; grants = grants; nets = nets })))
    (changed fine fine (IsWrongItem place.Grant 1 top.grants) (IsWrong members) (each place.Grant grant 1 top.grants) (λ x _. tt)
    (λ fault w. placed members fault (place.Grant (1 + w.before)) w.value w.place_is (as_item members (codes "grant") top.grants w.before w.value t.has_grants w.is) w.wrong) (each_wrong place.Grant grant grant_wrong 1 top.grants)) (λ grants _.
    chained fine fine (IsWrong members) (each place.Net net 1 top.nets) (λ nets. Ok (record { version = top.version; vector = top.vector; devices = devices; grants = grants; nets = nets }))
    (changed fine fine (IsWrongItem place.Net 1 top.nets) (IsWrong members) (each place.Net net 1 top.nets) (λ x _. tt)
    (λ fault w. elim t.has_nets [
      | inl has ↦ placed members fault (place.Net (1 + w.before)) w.value w.place_is (as_item members (codes "net") top.nets w.before w.value has w.is) w.wrong
      | inr none ↦ absurd (cc (sym (ap (get_item w.before) none.1) ∙ w.is))
    ]) (each_wrong place.Net net net_wrong 1 top.nets)) (λ nets _. tt)))

document_wrong : (members : Members) → Means fine (IsWrong members) (of_document (Some members))
document_wrong members =
    chained (SaysTop members) fine (IsWrong members) (top_keys members) entries
    (both (SaysTop members) (IsWrong members) (top_keys members) (top_says members)
    (changed fine fine (WrongIn place.Top members) (IsWrong members) (top_keys members) (λ x _. tt)
    (λ fault wrong. placed members fault place.Top (table members) wrong.0 refl (inr (record { members = members; is = refl; wrong = wrong.1 }))) (top_wrong members)))
    (λ top. entries_wrong_in members top)

no_document_in : (bytes : List ℕ) → document_of bytes ≡ None → IsUtf8 bytes → parse_document bytes ≡ None
no_document_in bytes is utf8 = rw (is_utf8-from_IsUtf8 bytes utf8) at is

pub files_are_refused : FilesAreRefused
files_are_refused bytes fault is = by (nat_lt 1048576 (length bytes)) refl (document_of bytes) refl is
  where
    by : (more : Bool) → nat_lt 1048576 (length bytes) ≡ more → (found : Option Members) → document_of bytes ≡ found → (if more then refuse 1 place.Top else of_document found) ≡ Err fault
        → HasTooMany bytes fault ⊎ (HasNoDocument bytes fault ⊎ HasWrongDocument bytes fault)
    by true more found has is =
        let same : record { cause = 1; place = place.Top } ≡ fault = cc is in
        inl (record { cause_is = ap (λ f. f.cause) (sym same); place_is = ap (λ f. f.place) (sym same); more = ltb-true 1048576 (length bytes) more })
    by false more None has is =
        let same : record { cause = 2; place = place.Top } ≡ fault = cc is in
        inr (inl (record { cause_is = ap (λ f. f.cause) (sym same); place_is = ap (λ f. f.place) (sym same); none = no_document_in bytes has }))
    by false more (Some members) has is =
        let file = found_document bytes members has in
        inr (inr (record { utf8 = file.0; members = members; document = file.1; wrong = refused_by fine (IsWrong members) (of_document (Some members)) fault is (document_wrong members) }))
