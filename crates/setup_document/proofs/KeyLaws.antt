-- Tables by their keys, and arrays by their length.
use Rattle.std.proofs.Common.{◌≡◌, Bool, true, false, ◌&&◌, List, [], ◌∷◌, length, string_bytes, String, Global, Ok, refl, ap, ◌∙◌, arith, ◌<◌, ◌≤◌}
use Rattle.std.specs.List.{list_all}
use Rattle.std.specs.Map.{keys_of}
use Rattle.toml.specs.View.{members_view, items_view}
use Rattle.toml.specs.declared.value.Value.{Value}
use Rattle.setup_document.specs.declared.plan.Place.{Place}
use Rattle.setup_document.specs.Keys.{is_known, are_known, known, refuse, two_numbers}

abbrev pub all_known : Place → List (String Global × Value) → Bool
all_known place entries = list_all (λ key. is_known place (string_bytes key)) (keys_of entries)

pub keys_known : (place : Place) (entries : List (String Global × Value)) → are_known place (members_view entries) ≡ all_known place entries
keys_known place [] = refl
keys_known place (entry ∷ entries) = ap (λ (rest : Bool). is_known place (string_bytes entry.0) && rest) (keys_known place entries)

pub known_found : (place : Place) (entries : List (String Global × Value)) → all_known place entries ≡ true → known place (members_view entries) ≡ Ok (members_view entries)
known_found place entries is = rw (keys_known place entries ∙ is) refl

pub known_refused : (place : Place) (entries : List (String Global × Value)) → all_known place entries ≡ false → known place (members_view entries) ≡ refuse 3 place
known_refused place entries is = rw (keys_known place entries ∙ is) refl

pub fewer_numbers : (place : Place) (values : List Value) → length values < 2 → two_numbers place (items_view values) ≡ refuse 6 place
fewer_numbers place [] small = refl
fewer_numbers place (one ∷ []) small = refl
fewer_numbers place (one ∷ two ∷ values) small = absurd (omega (arith, small))

pub more_numbers : (place : Place) (values : List Value) → 3 ≤ length values → two_numbers place (items_view values) ≡ refuse 6 place
more_numbers place [] large = absurd (omega (arith, large))
more_numbers place (one ∷ []) large = absurd (omega (arith, large))
more_numbers place (one ∷ two ∷ []) large = absurd (omega (arith, large))
more_numbers place (one ∷ two ∷ three ∷ values) large = refl
