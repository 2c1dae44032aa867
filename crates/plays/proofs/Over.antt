-- Every seat of every play stays over its group's part of the layout.
use Rattle.std.proofs.Common.{◌≡◌, ℕ, zero, suc, Bool, false, List, [], ◌∷◌, map, refl, ap, sym, subst}
use Rattle.std.specs.List.{slice_index_or}
use Rattle.part_model.specs.declared.Net.{Net}
use Rattle.part_model.specs.Parts.{DeviceType}
use Rattle.part_model.proofs.Accepted.{IsSoundPart, part_is_sound}
use Rattle.grant_table.specs.declared.Protocol.{Protocol}
use Rattle.grant_table.specs.declared.Protocol.TheVariants.{Xvc}
use Rattle.grant_table.specs.Layouts.{GrantShape, group_of, grant_of}
use Rattle.chain_model.specs.Chains.{powered}
use Rattle.scan_share.specs.PrivateChains.{entries_at, nets_within, private_chain}
use Rattle.scan_share.specs.Scans.{IsMadeOf}
use Rattle.scan_share.proofs.Kept.{AllSound, Each, IsSoundBoard, boards_sound, entries_each, made_private, no_nets_within}
use Rattle.client_session.specs.Seats.{Seat, advanced}
use Rattle.client_session.specs.Paces.{IsSeatOver}
use Rattle.client_session.specs.Private.{opened, took, dropped}
use Rattle.client_session.proofs.Kept.{advanced_over, opened_over, free_over, took_over, dropped_over}
use Rattle.wire_port.specs.Steps.{Step}
use Rattle.wire_port.specs.Steps.Step.{Opened, Took, Gone, Shut}
use Rattle.plays.specs.Plays.{Setting, Play, seat_at, no_seat, seat_of, placed, boards_of, start, change_by, after_step, after_steps, live_grant, played}
use Rattle.plays.specs.Laws.{PartsFit}
use Rattle.plays.specs.Stands.{SeatsAreOver}
use Rattle.plays.proofs.Moving.{TouchHolds, touch_holds, free_holds, live_holds}

-- ---- the devices with their pins

placed_parts : (parts : List DeviceType) (pins : List (List Bool)) → map (λ board. board.part) (placed parts pins) ≡ parts
placed_parts [] pins = refl
placed_parts (part ∷ parts) [] = ap (λ rest. part ∷ rest) (placed_parts parts [])
placed_parts (part ∷ parts) (row ∷ pins) = ap (λ rest. part ∷ rest) (placed_parts parts pins)

placed_sound : (parts : List DeviceType) (pins : List (List Bool)) → PartsFit parts pins → Each IsSoundBoard (placed parts pins)
placed_sound [] [] fit = tt
placed_sound [] (row ∷ pins) fit = absurd fit
placed_sound (part ∷ parts) [] fit = absurd fit
placed_sound (part ∷ parts) (row ∷ pins) fit = (record { part = part_is_sound part fit.0.0; pins = fit.0.1 }, placed_sound parts pins fit.1)

-- the seat of a group over its part of the devices and nets
abbrev IsOverGroup : List DeviceType → List Net → List ℕ → Seat → Type 0
IsOverGroup parts nets group seat = (protocol : Protocol) × IsSeatOver protocol (entries_at parts group) (nets_within group nets) seat

abbrev IsOverGrant : Setting → ℕ → Seat → Type 0
IsOverGrant setting grant seat = IsOverGroup setting.layout.parts setting.layout.nets (group_of setting.layout.grants grant) seat

abbrev AllOver : Setting → Play → Type 0
AllOver setting play = (grant : ℕ) → IsOverGrant setting grant (seat_at play grant)

module _ (setting : Setting) (fit : PartsFit setting.layout.parts setting.pins) where
  boards_fit : Each IsSoundBoard (boards_of setting)
  boards_fit = placed_sound setting.layout.parts setting.pins fit

  parts_fit : AllSound setting.layout.parts
  parts_fit = subst AllSound (placed_parts setting.layout.parts setting.pins) (boards_sound (boards_of setting) boards_fit)

  group_fit : (group : List ℕ) → AllSound (entries_at setting.layout.parts group)
  group_fit group = entries_each IsSoundPart setting.layout.parts group parts_fit

  -- ---- before any step

  share_over : (shape : GrantShape) → IsOverGroup setting.layout.parts setting.layout.nets shape.group (seat_of setting shape)
  share_over shape =
      let chain = private_chain (boards_of setting) shape.group setting.layout.nets in
      let made = subst (λ parts. IsMadeOf (entries_at parts shape.group) (nets_within shape.group setting.layout.nets) chain) (placed_parts setting.layout.parts setting.pins)
      (made_private (boards_of setting) shape.group setting.layout.nets boards_fit) in
      (shape.protocol, free_over (entries_at setting.layout.parts shape.group) (nets_within shape.group setting.layout.nets) (group_fit shape.group) shape.protocol setting.uses_trst setting.vector chain made refl)

  none_over : IsOverGroup setting.layout.parts setting.layout.nets [] no_seat
  none_over = (Xvc, free_over [] (nets_within [] setting.layout.nets) tt Xvc false 0 (powered [] []) (record { parts_are = refl; nets_are = sym (no_nets_within setting.layout.nets); fits = tt }) refl)

  shares_over : (grants : List GrantShape) (grant : ℕ) → IsOverGroup setting.layout.parts setting.layout.nets (group_of grants grant) (slice_index_or (map (seat_of setting) grants) grant no_seat)
  shares_over [] grant = none_over
  shares_over (shape ∷ grants) zero = share_over shape
  shares_over (shape ∷ grants) (suc grant) = shares_over grants grant

  -- ---- a step

  over_advanced : (grant : ℕ) (seat : Seat) → IsOverGrant setting grant seat → IsOverGrant setting grant (advanced seat)
  over_advanced grant seat over =
      (over.0, advanced_over (entries_at setting.layout.parts (group_of setting.layout.grants grant)) (nets_within (group_of setting.layout.grants grant) setting.layout.nets) (group_fit (group_of setting.layout.grants grant)) over.0 seat over.1)

  opened_keeps : (conn grant : ℕ) (seat : Seat) → IsOverGrant setting grant seat → IsOverGrant setting grant (opened conn seat)
  opened_keeps conn grant seat over =
      (over.0, opened_over (entries_at setting.layout.parts (group_of setting.layout.grants grant)) (nets_within (group_of setting.layout.grants grant) setting.layout.nets) (group_fit (group_of setting.layout.grants grant)) over.0 conn seat over.1)

  took_keeps : (conn : ℕ) (bytes : List ℕ) (grant : ℕ) (seat : Seat) → IsOverGrant setting grant seat → IsOverGrant setting grant (took conn bytes seat)
  took_keeps conn bytes grant seat over =
      (over.0, took_over (entries_at setting.layout.parts (group_of setting.layout.grants grant)) (nets_within (group_of setting.layout.grants grant) setting.layout.nets) over.0 conn bytes seat over.1)

  dropped_keeps : (conn grant : ℕ) (seat : Seat) → IsOverGrant setting grant seat → IsOverGrant setting grant (dropped conn seat)
  dropped_keeps conn grant seat over =
      (over.0, dropped_over (entries_at setting.layout.parts (group_of setting.layout.grants grant)) (nets_within (group_of setting.layout.grants grant) setting.layout.nets) over.0 conn seat over.1)

  step_touch : (play : Play) (step : Step) → AllOver setting play → TouchHolds (IsOverGrant setting) (change_by setting play step)
  step_touch play (Opened conn port) all = free_holds (IsOverGrant setting) (IsOverGrant setting) play all conn (opened_keeps conn) (grant_of setting.layout port)
  step_touch play (Took conn bytes) all = live_holds (IsOverGrant setting) (IsOverGrant setting) play all (took conn bytes) (took_keeps conn bytes) (live_grant conn play.seats)
  step_touch play (Gone conn) all = live_holds (IsOverGrant setting) (IsOverGrant setting) play all (dropped conn) (dropped_keeps conn) (live_grant conn play.seats)
  step_touch play (Shut conn) all = tt

  pub step_over : (play : Play) (step : Step) → AllOver setting play → AllOver setting (after_step setting play step)
  step_over play step all = touch_holds setting (IsOverGrant setting) over_advanced play (change_by setting play step) all (step_touch play step all)

  steps_over : (steps : List Step) (play : Play) → AllOver setting play → AllOver setting (after_steps setting steps play)
  steps_over [] play all = all
  steps_over (step ∷ steps) play all = steps_over steps (after_step setting play step) (step_over play step all)

  -- each seat, with the edges that it has left
  pub each_seat_over : (steps : List Step) → AllOver setting (played setting steps)
  each_seat_over steps = steps_over steps (start setting) (shares_over setting.layout.grants)

pub seats_over : (setting : Setting) (steps : List Step) → PartsFit setting.layout.parts setting.pins → SeatsAreOver setting.layout (played setting steps)
seats_over setting steps fit grant = (each_seat_over setting fit steps grant).1.made
