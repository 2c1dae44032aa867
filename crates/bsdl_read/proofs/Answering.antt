-- Each text has one answer, and each file its parts.
use Rattle.std.proofs.Common.{◌≡◌, ◌⊎◌, inl, inr, ℕ, List, Result, Ok, Err, refl, sym, subst, ◌∙◌}
use Rattle.bsdl_read.specs.declared.structure.Fault.{Fault}
use Rattle.bsdl_read.specs.Reading.{EntityShape, read_of}
use Rattle.bsdl_read.specs.Laws.{FilesHaveParts, SaysOne, IsRefused, OneOfBoth, NeverBoth}
use Rattle.bsdl_read.proofs.Filing.{file_goes}
use Rattle.bsdl_read.proofs.Parting.{file_parts}

pub files_have_parts : FilesHaveParts
files_have_parts text tokens seen = (file_parts text tokens seen, file_goes text tokens seen)

one_of : (text : List ℕ) (read : Result EntityShape Fault) → read_of text ≡ read → SaysOne text ⊎ IsRefused text
one_of text (Ok entity) is = inl (record { name = entity.name; part = entity.part; is = is })
one_of text (Err fault) is = inr (record { at = fault.at; cause = fault.cause; is = is })

pub one_of_both : OneOfBoth
one_of_both text = one_of text (read_of text) refl

abbrev is_read : Result EntityShape Fault → Type 0
is_read (Ok entity) = Unit {0}
is_read (Err fault) = ⊥

pub never_both : NeverBoth
never_both text some none = subst is_read (sym some.is ∙ none.is) tt
