-- The ports of grants, one after another.
use Rattle.std.proofs.Common.{◌≡◌, ℕ, zero, suc, ◌+◌, List, [], ◌∷◌, ◌++◌, map, drop, length, ap, sym, ◌∙◌, append_assoc, length-append, add-one}
use Rattle.std.specs.Prelude.{slice_get}
use Rattle.std.specs.Option.{option_map}
use Rattle.std.specs.declared.option.Option.TheVariants.{Some}
use Rattle.grant_table.specs.Layouts.{GrantShape}

next_port : (grants : List GrantShape) (grant port : ℕ) → option_map (λ shape. shape.port) (slice_get grants grant) ≡ Some port → map (λ shape. shape.port) (drop grant grants) ≡ port ∷ map (λ shape. shape.port) (drop (suc grant) grants)
next_port [] grant port is = absurd (cc is)
next_port (shape ∷ grants) zero port is = ap (λ p. p ∷ map (λ shape. shape.port) grants) (cc is)
next_port (shape ∷ grants) (suc grant) port is = next_port grants grant port is

pub ports_more : (grants : List GrantShape) (ports ports' all : List ℕ) (grant port : ℕ) → ports ++ map (λ shape. shape.port) (drop grant grants) ≡ all → option_map (λ shape. shape.port) (slice_get grants grant) ≡ Some port
    → ports' ≡ ports ++ port ∷ [] → ports' ++ map (λ shape. shape.port) (drop (grant + 1) grants) ≡ all
ports_more grants ports ports' all grant port so is pushed = ap (λ list. list ++ map (λ shape. shape.port) (drop (grant + 1) grants)) pushed ∙ append_assoc ports (port ∷ []) (map (λ shape. shape.port) (drop (grant + 1) grants))
    ∙ ap (λ rest. ports ++ rest) (ap (λ n. port ∷ map (λ shape. shape.port) (drop n grants)) (add-one grant) ∙ sym (next_port grants grant port is)) ∙ so

pub one_more : (ports ports' : List ℕ) (grant port : ℕ) → length ports ≡ grant → ports' ≡ ports ++ port ∷ [] → length ports' ≡ grant + 1
one_more ports ports' grant port so pushed = ap length pushed ∙ length-append ports (port ∷ []) ∙ ap (λ n. n + 1) so
