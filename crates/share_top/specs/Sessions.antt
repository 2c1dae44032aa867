-- The session of a grant before it is opened, and counts as they are kept.
use Rattle.std.specs.Prelude.{◌≡◌, ◌<◌, ◌^◌, ℕ, false, [], map, slice_get}
use Rattle.std.specs.declared.option.Option.TheVariants.{Some}
use Rattle.chain_model.specs.Boards.{placed}
use Rattle.chain_model.specs.Chains.{Placed}
use Rattle.grant_table.specs.Layouts.{GrantShape}
use Rattle.grant_table.specs.Kept.{AllParts}
use Rattle.scan_share.specs.Laws.{EachIsBoard}
use Rattle.scan_share.specs.Scans.{IsWhole}
use Rattle.client_session.specs.declared.Stand.{Stand}
use Rattle.client_session.specs.Sessions.{Shows}
use Rattle.client_session.specs.Stores.{IsOfLayout, SessionState}
use Rattle.setup_read.specs.declared.setup.Setup.{Setup}
use Rattle.share_top.specs.Pipes.{private_seat, uses_trst, whole_chain}

-- the session is free, and shows the grant's seat by itself
pub record IsFreeFor (setup : Setup) (grant : ℕ) (session : SessionState) : Type 0 where
  pub grant_is : session.grant ≡ grant
  pub layout_is : IsOfLayout setup.layout session
  pub free : session.view.stand ≡ Stand.Free
  pub given : session.view.reply ≡ []
  pub fit : session.view.spent ≡ false
  pub trst : session.view.uses_trst ≡ uses_trst setup
  pub shows : (shape : GrantShape) → slice_get setup.layout.grants grant ≡ Some shape → Shows session.view false (private_seat setup shape) []

-- each device type is that of a plan, and the chain at power-up is made of all devices and nets of the layout
pub record IsSound (setup : Setup) : Type 0 where
  pub parts : AllParts setup.layout.parts
  pub parts_are : map (λ (board : Placed). board.part) (map placed setup.boards) ≡ setup.layout.parts
  pub boards : EachIsBoard (map placed setup.boards)
  pub chain : IsWhole setup.layout (whole_chain setup)

-- counts of 64 bits
abbrev pub AreWords : (cable source sink : ℕ) → Type 0
AreWords cable source sink = (cable < 2 ^ 64) × (source < 2 ^ 64) × (sink < 2 ^ 64)
