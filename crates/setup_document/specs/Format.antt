-- The format of a setup file: what stands in the tables of its document, key by key.
use Rattle.std.specs.Prelude.{◌≡◌, ◌⊎◌, ◌≤◌, ℕ, pos, List, [], ◌∷◌, length, codes}
use Rattle.std.specs.declared.option.Option.{Option}
use Rattle.std.specs.declared.option.Option.TheVariants.{None, Some}
use Rattle.toml.specs.Data.{Data, integer, string, array, table, Items, no_items, item, Members, no_members, member, get_member}
use Rattle.part_model.specs.declared.Net.{Net}
use Rattle.grant_table.specs.Faults.{GrantEntry}
use Rattle.grant_table.specs.declared.Protocol.{Protocol}
use Rattle.grant_table.specs.declared.Protocol.TheVariants.{Xvc, Bitbang}
use Rattle.setup_document.specs.declared.plan.DeviceEntry.{DeviceEntry}
use Rattle.setup_document.specs.declared.plan.SetupPlan.{SetupPlan}

-- ---- lists, arrays and keys

-- all of these are such
abbrev pub Every : {T : Type 0} → (T → Type 0) → List T → Type 0
Every is [] = Unit {0}
Every is (x ∷ xs) = is x × Every is xs

-- each item of an array says the entry at its place in a list, and there are as many
abbrev pub EachSays : {T : Type 0} → (Data → T → Type 0) → Items → List T → Type 0
EachSays says no_items [] = Unit {0}
EachSays says no_items (x ∷ xs) = ⊥
EachSays says (item value items) [] = ⊥
EachSays says (item value items) (x ∷ xs) = says value x × EachSays says items xs

-- the key is one of these
abbrev pub IsOneOf : List ℕ → List (List ℕ) → Type 0
IsOneOf key [] = ⊥
IsOneOf key (other ∷ others) = (key ≡ other) ⊎ IsOneOf key others

-- a table has no other keys than these
abbrev pub OnlyKeys : List (List ℕ) → Members → Type 0
OnlyKeys keys no_members = Unit {0}
OnlyKeys keys (member key value members) = IsOneOf key keys × OnlyKeys keys members

-- ---- values

-- an integer of a range
pub record IsNumber (low high : ℕ) (value : Data) (number : ℕ) : Type 0 where
  pub is : value ≡ integer (pos number)
  pub no_less : low ≤ number
  pub no_more : number ≤ high

-- a text of 1 to 255 bytes
pub record IsFileName (value : Data) (name : List ℕ) : Type 0 where
  pub is : value ≡ string name
  pub some_byte : 1 ≤ length name
  pub no_more : length name ≤ 255

-- a text of `0` and `1`
pub record ArePins (value : Data) (pins : List ℕ) : Type 0 where
  pub is : value ≡ string pins
  pub each : Every (λ byte. (byte ≡ 48) ⊎ (byte ≡ 49)) pins

-- `xvc` or `bitbang`
abbrev pub protocol_name : Protocol → List ℕ
protocol_name Xvc = codes "xvc"
protocol_name Bitbang = codes "bitbang"

abbrev pub IsProtocol : Data → Protocol → Type 0
IsProtocol value protocol = value ≡ string (protocol_name protocol)

-- an array of as many such items as the list has entries
pub record IsArray {T : Type 0} (says : Data → T → Type 0) (value : Data) (entries : List T) : Type 0 where
  pub items : Items
  pub is : value ≡ array items
  pub each : EachSays says items entries

-- an array of a device and a cell
pub record IsEnd (value : Data) (device cell : ℕ) : Type 0 where
  pub is : value ≡ array (item (integer (pos device)) (item (integer (pos cell)) no_items))
  pub device_no_more : device ≤ 65535
  pub cell_no_more : cell ≤ 65535

-- ---- keys

-- at a required key stands such a value
pub record Has (members : Members) (key : List ℕ) (is : Data → Type 0) : Type 0 where
  pub value : Data
  pub there : get_member key members ≡ Some value
  pub such : is value

-- a key that may be left out has such a value, or is left out and this holds instead
abbrev pub MayHave : Members → List ℕ → (Data → Type 0) → Type 0 → Type 0
MayHave members key is otherwise = Has members key is ⊎ ((get_member key members ≡ None) × otherwise)

-- pins may be left out
abbrev pub HasPins : Members → Option (List ℕ) → Type 0
HasPins members None = get_member (codes "pins") members ≡ None
HasPins members (Some pins) = Has members (codes "pins") (λ value. ArePins value pins)

-- ---- tables

-- a device: the file name at `bsdl`, and the pins at `pins`
pub record IsDevice (value : Data) (device : DeviceEntry) : Type 0 where
  pub members : Members
  pub is : value ≡ table members
  pub keys : OnlyKeys (codes "bsdl" ∷ codes "pins" ∷ []) members
  pub has_bsdl : Has members (codes "bsdl") (λ value. IsFileName value device.bsdl)
  pub has_pins : HasPins members device.pins

-- a grant: an array of numbers at `devices`, a number at `port`, and a name at `protocol`
pub record IsGrant (value : Data) (grant : GrantEntry) : Type 0 where
  pub members : Members
  pub is : value ≡ table members
  pub keys : OnlyKeys (codes "devices" ∷ codes "port" ∷ codes "protocol" ∷ []) members
  pub has_devices : Has members (codes "devices") (λ value. IsArray (IsNumber 0 65535) value grant.devices)
  pub has_port : Has members (codes "port") (λ value. IsNumber 0 65535 value grant.port)
  pub has_protocol : Has members (codes "protocol") (λ value. IsProtocol value grant.protocol)

-- a net: a device and a cell at `from`, and at `to`
pub record IsNet (value : Data) (net : Net) : Type 0 where
  pub members : Members
  pub is : value ≡ table members
  pub keys : OnlyKeys (codes "from" ∷ codes "to" ∷ []) members
  pub has_from : Has members (codes "from") (λ value. IsEnd value net.from_device net.from_cell)
  pub has_to : Has members (codes "to") (λ value. IsEnd value net.to_device net.to_cell)

-- the top: `version`, `vector` or else 2048, the devices, the grants, and the nets or else none
pub record IsPlan (members : Members) (plan : SetupPlan) : Type 0 where
  pub keys : OnlyKeys (codes "version" ∷ codes "vector" ∷ codes "device" ∷ codes "grant" ∷ codes "net" ∷ []) members
  pub has_version : Has members (codes "version") (λ value. IsNumber 1 2 value plan.version)
  pub has_vector : MayHave members (codes "vector") (λ value. IsNumber 1 65536 value plan.vector) (plan.vector ≡ 2048)
  pub has_devices : Has members (codes "device") (λ value. IsArray IsDevice value plan.devices)
  pub has_grants : Has members (codes "grant") (λ value. IsArray IsGrant value plan.grants)
  pub has_nets : MayHave members (codes "net") (λ value. IsArray IsNet value plan.nets) (plan.nets ≡ [])
