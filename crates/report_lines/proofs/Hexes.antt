-- Bytes in base 16, a part at a time.
use Rattle.std.proofs.Common.{◌≡◌, ℕ, List, ◌++◌, ap, sym, ◌∙◌}
use Rattle.std.proofs.lemmas.Grind.{flat_map-append}
use Rattle.text_lines.specs.Hex.{hex_digits, hex_bytes}

pub hex_parts : (bytes front behind : List ℕ) → front ++ behind ≡ bytes → hex_bytes bytes ≡ hex_bytes front ++ hex_bytes behind
hex_parts bytes front behind whole = ap hex_bytes (sym whole) ∙ flat_map-append (hex_digits 2) front behind
