-- The search for the grant that has a port.
use Rattle.std.proofs.Common.{◌≡◌, ℕ, suc, ◌+◌, ◌≤◌, ◌<◌, ◌==◌, if◌then◌else◌, List, ◌∷◌, length, drop, refl, ap, sym, ◌∙◌, arith, Some, None, get_or}
use Rattle.std.specs.declared.option.Option.{Option}
use Rattle.std.specs.Option.{option_map}
use Rattle.std.proofs.lemmas.Bool.{eq-eqb, ne_eqb}
use Rattle.std.proofs.lemmas.List.{drop_more, drop_all}
use Rattle.grant_table.specs.Layouts.{GrantShape, grant_at_port}

-- a number behind so many others
abbrev pub behind : ℕ → Option ℕ → Option ℕ
behind at found = option_map (λ number. at + number) found

behind_none : (found : Option ℕ) → behind 0 found ≡ found
behind_none None = refl
behind_none (Some number) = ap Some (omega arith)

behind_one : (at : ℕ) (found : Option ℕ) → behind at (option_map suc found) ≡ behind (at + 1) found
behind_one at None = refl
behind_one at (Some number) = ap Some (omega arith)

pub search_starts : (grants : List GrantShape) (port : ℕ) → behind 0 (grant_at_port grants port) ≡ grant_at_port grants port
search_starts grants port = behind_none (grant_at_port grants port)

module _ (grants : List GrantShape) (port at : ℕ) (is : behind at (grant_at_port (drop at grants) port) ≡ grant_at_port grants port) where
  first : (shape : GrantShape) → at < length grants → shape ≡ get_or grants at shape
      → behind at (if shape.port == port then Some 0 else option_map suc (grant_at_port (drop (at + 1) grants) port)) ≡ grant_at_port grants port
  first shape lt item =
      ap (λ rest. behind at (grant_at_port rest port)) (sym (drop_more grants at shape lt ∙ ap (λ s. s ∷ drop (at + 1) grants) (sym item))) ∙ is

  pub search_finds : (shape : GrantShape) → at < length grants → shape ≡ get_or grants at shape → shape.port ≡ port → Some at ≡ grant_at_port grants port
  search_finds shape lt item same =
      ap Some (omega arith) ∙ ap (λ t. behind at (if t then Some 0 else option_map suc (grant_at_port (drop (at + 1) grants) port))) (sym (eq-eqb shape.port port same)) ∙ first shape lt item

  pub search_goes_on : (shape : GrantShape) → at < length grants → shape ≡ get_or grants at shape → (shape.port ≡ port → ⊥) → behind (at + 1) (grant_at_port (drop (at + 1) grants) port) ≡ grant_at_port grants port
  search_goes_on shape lt item other =
      sym (behind_one at (grant_at_port (drop (at + 1) grants) port))
      ∙ ap (λ t. behind at (if t then Some 0 else option_map suc (grant_at_port (drop (at + 1) grants) port))) (sym (ne_eqb shape.port port other)) ∙ first shape lt item

  pub search_ends : length grants ≤ at → None ≡ grant_at_port grants port
  search_ends end = ap (λ rest. behind at (grant_at_port rest port)) (sym (drop_all at grants end)) ∙ is
