-- Bytes that are no TOML document, and those that are one.
use Rattle.std.proofs.Common.{◌≡◌, ℕ, Bool, true, false, List, Some, None, refl}
use Rattle.std.specs.Prelude.{IsUtf8}
use Rattle.std.specs.Str.{is_utf8}
use Rattle.std.proofs.lemmas.Str.{is_utf8-from_IsUtf8, IsUtf8-from_is_utf8}
use Rattle.toml.specs.Data.{Members}
use Rattle.toml.specs.Parse.{parse_document}
use Rattle.setup_document.specs.Documents.{document_of}

pub document_found : (bytes : List ℕ) (members : Members) → IsUtf8 bytes → parse_document bytes ≡ Some members → document_of bytes ≡ Some members
document_found bytes _ utf8 is = rw (is_utf8-from_IsUtf8 bytes utf8) is

no_document_of : (bytes : List ℕ) (utf8 : Bool) → is_utf8 bytes ≡ utf8 → (IsUtf8 bytes → parse_document bytes ≡ None) → document_of bytes ≡ None
no_document_of bytes true is none = rw is (none (IsUtf8-from_is_utf8 bytes is))
no_document_of bytes false is none = rw is refl

pub no_document : (bytes : List ℕ) → (IsUtf8 bytes → parse_document bytes ≡ None) → document_of bytes ≡ None
no_document bytes none = no_document_of bytes (is_utf8 bytes) refl none
