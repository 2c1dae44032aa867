-- Tables of what codes select.
use Rattle.std.proofs.Common.{◌≡◌, ℕ, zero, suc, ◌++◌, ◌⊎◌, inl, inr, List, [], ◌∷◌, length, length-append, ◌+◌, refl, ap, subst, arith}
use Rattle.std.specs.List.{slice_get}
use Rattle.std.specs.declared.option.Option.TheVariants.{Some}
use Rattle.part_model.specs.declared.code_table.Selected.{Selected}
use Rattle.part_model.specs.Parts.{DeviceType}
use Rattle.part_model.specs.CodeTables.{Selects, IsTableOf}

before_or_last : {X : Type 0} (xs : List X) (last : X) (at : ℕ) (x : X) → slice_get (xs ++ last ∷ []) at ≡ Some x → (slice_get xs at ≡ Some x) ⊎ ((length xs ≡ at) × (last ≡ x))
before_or_last [] last zero x is = inr (refl, cc is)
before_or_last [] last (suc at) x is = absurd (cc is)
before_or_last (y ∷ ys) last zero x is = inl is
before_or_last (y ∷ ys) last (suc at) x is = elim (before_or_last ys last at x is) [
  | inl before ↦ inl before
  | inr end ↦ inr (ap suc end.0, end.1)
]

pub no_entry : (part : DeviceType) → IsTableOf part []
no_entry part = record { entries = λ code entry is. absurd (cc is) }

-- one more entry, for the code behind the last
pub one_more : (part : DeviceType) (table : List Selected) (last : Selected) → IsTableOf part table → Selects part (length table) last → IsTableOf part (table ++ last ∷ [])
one_more part table last all selects = record {
  entries = λ code entry is. elim (before_or_last table last code entry is) [
    | inl before ↦ all.entries code entry before
    | inr end ↦ subst (λ n. Selects part n entry) end.0 (subst (λ e. Selects part (length table) e) end.1 selects)
  ];
}

pub length_more : {X : Type 0} (xs : List X) (last : X) (count : ℕ) → length xs ≡ count → length (xs ++ last ∷ []) ≡ count + 1
length_more xs last count is = rw length-append (omega (arith, is))
