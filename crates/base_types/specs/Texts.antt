-- What the letters of a text are kept in.
use Rattle.std.specs.Prelude.{ℕ, List, ◌<◌, length, string_bytes}
use Rattle.base_types.specs.declared.text.Letters.{Letters}
use Rattle.base_types.specs.declared.text.Letters.TheVariants.{Short, Long}

abbrev pub bytes_of : Letters → List ℕ
bytes_of (Short short) = short
bytes_of (Long long) = string_bytes long

-- letters in a string of their own are too many to lie in the value itself
abbrev pub HasPlace : Letters → Type 0
HasPlace (Short short) = Unit {0}
HasPlace (Long long) = 16 < length (string_bytes long)
