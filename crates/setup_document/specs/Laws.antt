-- A setup file is read exactly where its document has the format.
use Rattle.std.specs.Prelude.{◌≡◌, ◌≤◌, ◌<◌, ◌↔◌, ◌⊎◌, ℕ, List, length, Ok, Err, IsUtf8}
use Rattle.std.specs.declared.option.Option.TheVariants.{Some, None}
use Rattle.toml.specs.Data.{Members}
use Rattle.toml.specs.Parse.{parse_document}
use Rattle.setup_document.specs.declared.plan.SetupPlan.{SetupPlan}
use Rattle.setup_document.specs.declared.plan.Place.TheVariants as place
use Rattle.setup_document.specs.Keys.{DocumentFault}
use Rattle.setup_document.specs.Documents.{of_document, plan_of}
use Rattle.setup_document.specs.Format.{IsPlan}
use Rattle.setup_document.specs.Refusals.{IsWrong}

-- a document says a plan exactly where its tables have the format with the values of the plan
abbrev pub DocumentsHaveFormat : Type 0
DocumentsHaveFormat = (members : Members) (plan : SetupPlan) → (of_document (Some members) ≡ Ok plan) ↔ IsPlan members plan

-- bytes that are no more than the most, are UTF-8, and are a TOML document with this format
pub record IsSetupFile (bytes : List ℕ) (plan : SetupPlan) : Type 0 where
  pub no_more : length bytes ≤ 1048576
  pub utf8 : IsUtf8 bytes
  pub members : Members
  pub document : parse_document bytes ≡ Some members
  pub says : IsPlan members plan

abbrev pub FilesHaveFormat : Type 0
FilesHaveFormat = (bytes : List ℕ) (plan : SetupPlan) → (plan_of bytes ≡ Ok plan) ↔ IsSetupFile bytes plan

-- ---- refusals

-- cause 1: too many bytes
pub record HasTooMany (bytes : List ℕ) (fault : DocumentFault) : Type 0 where
  pub cause_is : fault.cause ≡ 1
  pub place_is : fault.place ≡ place.Top
  pub more : 1048576 < length bytes

-- cause 2: bytes that are no TOML document in UTF-8
pub record HasNoDocument (bytes : List ℕ) (fault : DocumentFault) : Type 0 where
  pub cause_is : fault.cause ≡ 2
  pub place_is : fault.place ≡ place.Top
  pub none : IsUtf8 bytes → parse_document bytes ≡ None

-- causes 3 to 6: a document with something wrong at the place
pub record HasWrongDocument (bytes : List ℕ) (fault : DocumentFault) : Type 0 where
  pub utf8 : IsUtf8 bytes
  pub members : Members
  pub document : parse_document bytes ≡ Some members
  pub wrong : IsWrong members fault

-- a refusal comes only where this is wrong
abbrev pub FilesAreRefused : Type 0
FilesAreRefused = (bytes : List ℕ) (fault : DocumentFault) → plan_of bytes ≡ Err fault → HasTooMany bytes fault ⊎ (HasNoDocument bytes fault ⊎ HasWrongDocument bytes fault)
