-- Why a document is refused: what is wrong at the place of a refusal, whatever its order among others.
use Rattle.std.specs.Prelude.{◌≡◌, ◌⊎◌, ℕ, suc, Bool, true, false, List, [], ◌∷◌, map, codes}
use Rattle.std.specs.declared.option.Option.TheVariants.{None, Some}
use Rattle.toml.specs.Data.{Data, integer, string, array, table, Items, Members, no_members, member, get_member, get_item}
use Rattle.grant_table.specs.declared.Protocol.{Protocol}
use Rattle.setup_document.specs.declared.plan.Place.{Place}
use Rattle.setup_document.specs.declared.plan.Place.TheVariants as place
use Rattle.setup_document.specs.Keys.{DocumentFault, are_integers}
use Rattle.setup_document.specs.Format.{IsOneOf, IsNumber, IsFileName, ArePins, IsProtocol, IsArray, IsEnd, Has}

-- ---- the values of each key

-- what a value is: an integer of a range, a text of one of three forms, an array of numbers, a device and a cell, or an array of any items
pub data Form : Type 0 where
  Number : (low high : ℕ) → Form
  FileName : Form
  Pins : Form
  ProtocolName : Form
  Numbers : Form
  End : Form
  Entries : Form

-- the value is of the kind of the form: an integer, a text, an array of integers, or an array
abbrev pub has_kind : Form → Data → Bool
has_kind (Form.Number low high) (integer number) = true
has_kind Form.FileName (string text) = true
has_kind Form.Pins (string text) = true
has_kind Form.ProtocolName (string text) = true
has_kind Form.Numbers (array items) = are_integers items
has_kind Form.End (array items) = are_integers items
has_kind Form.Entries (array items) = true
has_kind _ _ = false

-- the value has the form
abbrev pub HasForm : Form → Data → Type 0
HasForm (Form.Number low high) value = (number : ℕ) × IsNumber low high value number
HasForm Form.FileName value = (name : List ℕ) × IsFileName value name
HasForm Form.Pins value = (pins : List ℕ) × ArePins value pins
HasForm Form.ProtocolName value = (protocol : Protocol) × IsProtocol value protocol
HasForm Form.Numbers value = (numbers : List ℕ) × IsArray (IsNumber 0 65535) value numbers
HasForm Form.End value = (device : ℕ) × (cell : ℕ) × IsEnd value device cell
HasForm Form.Entries value = (items : Items) × (value ≡ array items)

-- a key, the form of its values, and whether it may be left out
pub record Key : Type 0 where
  pub name : List ℕ
  pub form : Form
  pub is_required : Bool

abbrev pub needs : List ℕ → Form → Key
needs name form = record { name = name; form = form; is_required = true }

abbrev pub takes : List ℕ → Form → Key
takes name form = record { name = name; form = form; is_required = false }

-- the keys of a table that stands there
abbrev pub format_at : Place → List Key
format_at place.Top = needs (codes "version") (Form.Number 1 2) ∷ takes (codes "vector") (Form.Number 1 65536) ∷ needs (codes "device") Form.Entries ∷ needs (codes "grant") Form.Entries ∷ takes (codes "net") Form.Entries ∷ []
format_at (place.Device number) = needs (codes "bsdl") Form.FileName ∷ takes (codes "pins") Form.Pins ∷ []
format_at (place.Grant number) = needs (codes "devices") Form.Numbers ∷ needs (codes "port") (Form.Number 0 65535) ∷ needs (codes "protocol") Form.ProtocolName ∷ []
format_at (place.Net number) = needs (codes "from") Form.End ∷ needs (codes "to") Form.End ∷ []

abbrev pub names_at : Place → List (List ℕ)
names_at place = map (λ key. key.name) (format_at place)

-- ---- what is wrong

-- one of these is such
abbrev pub OneIs : {T : Type 0} → (T → Type 0) → List T → Type 0
OneIs is [] = ⊥
OneIs is (x ∷ xs) = is x ⊎ OneIs is xs

-- the table has the key
abbrev pub HasKey : List ℕ → Members → Type 0
HasKey key no_members = ⊥
HasKey key (member other value members) = (key ≡ other) ⊎ HasKey key members

-- cause 3: a key that is not known there
pub record HasUnknownKey (place : Place) (members : Members) : Type 0 where
  pub key : List ℕ
  pub has : HasKey key members
  pub unknown : IsOneOf key (names_at place) → ⊥

-- cause 4: a required key is missing
pub record IsMissing (members : Members) (key : Key) : Type 0 where
  pub required : key.is_required ≡ true
  pub missing : get_member key.name members ≡ None

-- cause 5: a value of another kind
abbrev pub HasOtherKind : Members → Key → Type 0
HasOtherKind members key = Has members key.name (λ value. has_kind key.form value ≡ false)

-- cause 6: a value of the kind that has not the form
pub record IsOutOfRange (form : Form) (value : Data) : Type 0 where
  pub kind : has_kind form value ≡ true
  pub out : HasForm form value → ⊥

abbrev pub HasOutOfRange : Members → Key → Type 0
HasOutOfRange members key = Has members key.name (IsOutOfRange key.form)

-- what is wrong at a key, by its cause
abbrev pub WrongKey : Members → ℕ → Key → Type 0
WrongKey members cause key = ((cause ≡ 4) × IsMissing members key) ⊎ (((cause ≡ 5) × HasOtherKind members key) ⊎ ((cause ≡ 6) × HasOutOfRange members key))

-- what is wrong with a table that stands there, by its cause
abbrev pub WrongTable : Place → Members → ℕ → Type 0
WrongTable place members cause = ((cause ≡ 3) × HasUnknownKey place members) ⊎ OneIs (WrongKey members cause) (format_at place)

-- what is wrong with a value that stands there: it is no table, or a table with something wrong
pub record IsWrongTable (place : Place) (value : Data) (cause : ℕ) : Type 0 where
  pub members : Members
  pub is : value ≡ table members
  pub wrong : WrongTable place members cause

abbrev pub WrongValue : Place → Data → ℕ → Type 0
WrongValue place value cause = ((cause ≡ 5) × ((members : Members) → value ≡ table members → ⊥)) ⊎ IsWrongTable place value cause

-- ---- where it stands

-- the item of this number, counted from 1, in the array at a key
pub record IsItem (document : Members) (key : List ℕ) (number : ℕ) (value : Data) : Type 0 where
  pub items : Items
  pub there : get_member key document ≡ Some (array items)
  pub before : ℕ
  pub counted : number ≡ suc before
  pub is : get_item before items ≡ Some value

-- the value that stands at a place
abbrev pub StandsAt : Members → Place → Data → Type 0
StandsAt document place.Top value = value ≡ table document
StandsAt document (place.Device number) value = IsItem document (codes "device") number value
StandsAt document (place.Grant number) value = IsItem document (codes "grant") number value
StandsAt document (place.Net number) value = IsItem document (codes "net") number value

-- at the place of a refusal stands a value, and this is wrong with it
pub record IsWrong (document : Members) (fault : DocumentFault) : Type 0 where
  pub value : Data
  pub stands : StandsAt document fault.place value
  pub wrong : WrongValue fault.place value fault.cause
