-- The private chain of a grant: its devices alone, in the order of the shared chain, with the nets among them.
use Rattle.std.specs.Prelude.{ℕ, suc, ◌==◌, List, slice_get}
use Rattle.std.specs.List.{filter_map}
use Rattle.std.specs.declared.option.Option.{Option}
use Rattle.std.specs.declared.option.Option.TheVariants.{None, Some}
use Rattle.part_model.specs.declared.Net.{Net}
use Rattle.grant_table.specs.Layouts.{first_place}
use Rattle.chain_model.specs.Chains.{ChainState, Placed, powered}

-- the entries of a list at some places, in the order of the places
abbrev pub entries_at : {X : Type 0} → List X → List ℕ → List X
entries_at all places = filter_map (slice_get all) places

-- the net between two devices of a group, which it names by their places in the group, counted from 1; none where one is not in it
abbrev pub net_between : Net → Option ℕ → Option ℕ → Option Net
net_between net (Some from) (Some to) = Some (record net { from_device = suc from; to_device = suc to })
net_between net _ _ = None

-- the place in a group of a device, which counts from 1
abbrev pub place_in : List ℕ → ℕ → Option ℕ
place_in group device = first_place (λ place. suc place == device) group

-- the nets of the layout that lie within the group
abbrev pub nets_within : List ℕ → List Net → List Net
nets_within group nets = filter_map (λ net. net_between net (place_in group net.from_device) (place_in group net.to_device)) nets

-- the private chain of a grant at power-up: a chain of the group's devices and of nothing else
abbrev pub private_chain : List Placed → List ℕ → List Net → ChainState
private_chain boards group nets = powered (entries_at boards group) (nets_within group nets)
