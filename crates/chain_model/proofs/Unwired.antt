-- What the boundary register captures on a chain without nets.
use Rattle.std.proofs.Common.{◌≡◌, ℕ, suc, Bool, List, [], ◌∷◌, refl}
use Rattle.part_model.specs.declared.Net.{Net}
use Rattle.chain_model.specs.Chains.{ChainState, pin_values, pin_by, net_to}

unwired : (chain : ChainState) (nets : List Net) (place cell : ℕ) (pin : Bool) → nets ≡ [] → pin_by chain.devices (net_to nets place cell) pin ≡ pin
unwired chain nets place cell pin none = rw none refl

-- without nets the pins are captured as they are
pub pin_values-unwired : (chain : ChainState) (place cell : ℕ) (pins : List Bool) → chain.nets ≡ [] → pin_values chain place cell pins ≡ pins
pin_values-unwired chain place cell [] none = refl
pin_values-unwired chain place cell (pin ∷ pins) none =
    (λ i. unwired chain chain.nets place cell pin none i ∷ pin_values-unwired chain place (suc cell) pins none i)
