-- What a session shows of a seat, what a desk shows of the shared chain, and what a call of the session does to both.
use Rattle.std.specs.Prelude.{ℕ, ◌+◌, ◌-◌, ◌^◌, ◌<◌, min, ◌≡◌, ◌≢◌, Bool, true, false, List, [], ◌∷◌, ◌++◌, drop, length, if◌then◌else◌}
use Rattle.std.specs.declared.option.Option.{Option}
use Rattle.std.specs.declared.option.Option.TheVariants.{None, Some}
use Rattle.grant_table.specs.declared.Protocol.{Protocol}
use Rattle.grant_table.specs.declared.Protocol.TheVariants.{Xvc, Bitbang}
use Rattle.xvc_frame.specs.Messages.{want}
use Rattle.grant_table.specs.Layouts.{LayoutShape, group_of}
use Rattle.part_model.specs.Parts.{DeviceType}
use Rattle.base_types.specs.Counts.{raised}
use Rattle.chain_model.specs.Chains.{ChainState}
use Rattle.chain_model.specs.Cycles.{ir_stages}
use Rattle.scan_share.specs.PrivateChains.{entries_at, nets_within}
use Rattle.scan_share.specs.Scans.{contents_of, with_contents, code_list, types_of, IsParked, IsOpenFor, IsWhole, IsWithin}
use Rattle.virtual_tap.specs.Views.{TapView, StandsFor}
use Rattle.client_session.specs.declared.Stand.{Stand}
use Rattle.client_session.specs.declared.Stop.{Stop}
use Rattle.client_session.specs.Acts.{Act}
use Rattle.client_session.specs.Seats.{Seat, EndedSession, most_bytes, taken, replies_now, finished}
use Rattle.client_session.specs.Turns.{Turn, is_among, is_holder, gone_on}
use Rattle.client_session.specs.Paces.{IsSeatOver}

-- what a session shows: as a seat, with a virtual TAP in place of the chain, and with the reply that its peer has not yet been given
pub record SessionView : Type 0 where
  pub protocol : Protocol
  pub uses_trst : Bool
  pub vector : ℕ
  pub stand : Stand
  pub tap : TapView
  pub tck : Bool
  pub trst : Bool
  pub unused : List ℕ
  pub used : ℕ
  pub acts : List Act
  pub sampled : List Bool
  pub reply : List ℕ
  pub spent : Bool

-- how a seat stands: free, going, waiting, or leaving where its peer is gone while it waits
abbrev pub stand_of : Bool → Seat → Stand
stand_of waits seat = if seat.going then (if waits then (if seat.gone then Stand.Leaving else Stand.Waits) else Stand.Going) else Stand.Free

-- a session is open
abbrev pub is_taken : Stand → Bool
is_taken Stand.Free = false
is_taken _ = true

-- a session waits, and its peer is gone
abbrev pub is_leaving : Stand → Bool
is_leaving Stand.Leaving = true
is_leaving _ = false

-- how many bytes make a difference to a session: the fewest that complete a message of XVC 1.0; of remote_bitbang, 16 letters
abbrev pub wanted_by : Protocol → (vector : ℕ) → (unused : List ℕ) → ℕ
wanted_by Xvc vector unused = want vector unused
wanted_by Bitbang vector unused = 16

-- how many bytes a session wants next; no more than are left to the most bytes of one session
abbrev pub session_wants : Seat → ℕ
session_wants seat = min (wanted_by seat.protocol seat.vector seat.unused) (most_bytes - taken seat)

-- the session shows the seat: each part of it, and its replies in what the peer was given and what is left to give
pub record Shows (view : SessionView) (waits : Bool) (seat : Seat) (given : List ℕ) : Type 0 where
  pub protocol : view.protocol ≡ seat.protocol
  pub uses_trst : view.uses_trst ≡ seat.uses_trst
  pub vector : view.vector ≡ seat.vector
  pub stand : view.stand ≡ stand_of waits seat
  pub here : waits ≡ false → seat.gone ≡ false
  pub tap : StandsFor view.tap seat.chain
  pub tck : view.tck ≡ seat.tck
  pub trst : view.trst ≡ seat.trst
  pub unused : view.unused ≡ seat.unused
  pub used : view.used ≡ seat.used
  pub acts : view.acts ≡ seat.acts
  pub sampled : view.sampled ≡ seat.sampled
  pub replies : given ++ view.reply ≡ replies_now seat
  pub fit : view.spent ≡ false

-- an open scan of the shared chain: the grant that it is for, and the codes that it was captured under
pub record OpenScan : Type 0 where
  pub grant : ℕ
  pub codes : List (List Bool)

-- what a desk shows: the grant that holds the shared chain, those that wait for it, the scan that is open, and the chain itself
pub record DeskView : Type 0 where
  pub holder : Option ℕ
  pub waiting : List ℕ
  pub scan : Option OpenScan
  pub chain : ChainState

-- the open scan on the desk is the seat's
pub record KeepsScan (layout : LayoutShape) (group : List ℕ) (grant : ℕ) (desk : DeskView) (seat : Seat) : Type 0 where
  pub scan : desk.scan ≡ Some (record { grant = grant; codes = code_list seat.chain })
  pub chain_open : IsOpenFor layout group (code_list seat.chain) desk.chain

-- where nobody holds the chain, it is between two scans; where the grant holds it, its scan is open
abbrev pub KeepsChain : LayoutShape → List ℕ → ℕ → Option ℕ → DeskView → Seat → Type 0
KeepsChain layout group grant None desk seat = (desk.scan ≡ None) × IsParked desk.chain
KeepsChain layout group grant (Some holder) desk seat = holder ≡ grant → KeepsScan layout group grant desk seat

-- the desk serves a grant's turn: it shows the turn's holder and those that wait, and on the shared chain the group's devices
-- hold what the seat's devices hold; the seat's chain is made of the group's devices, with its protocol's edges left
pub record Serves (layout : LayoutShape) (group : List ℕ) (grant : ℕ) (desk : DeskView) (turn : Turn) : Type 0 where
  pub whole : IsWhole layout desk.chain
  pub over : IsSeatOver turn.seat.protocol (entries_at layout.parts group) (nets_within group layout.nets) turn.seat
  pub counted : desk.chain.made < 2 ^ 64
  pub holder : desk.holder ≡ turn.holder
  pub waiting : desk.waiting ≡ turn.waiting
  pub holds : is_holder turn.holder grant ≡ turn.seat.chain.scan_open
  pub contents : entries_at (contents_of desk.chain) group ≡ contents_of turn.seat.chain
  pub keeps : KeepsChain layout group grant desk.holder desk turn.seat

-- how a call stopped, by the sessions that ended in it: the session ended, or waits, or used all that it was fed
abbrev pub stop_with : Bool → List EndedSession → Stop
stop_with waits [] = if waits then Stop.Waits else Stop.Done
stop_with waits (past ∷ more) = Stop.Ended past.end

-- how a call stopped that led from a seat to a turn
abbrev pub stop_of : ℕ → Seat → Turn → Stop
stop_of grant old turn = stop_with (is_among grant turn.waiting) (drop (length old.past) turn.seat.past)

-- a call leads from one turn of the grant to another: all other devices hold what they held, another holder's scan is not touched,
-- and the chain made no more cycles than are due
pub record Goes (layout : LayoutShape) (group : List ℕ) (grant : ℕ) (old_desk new_desk : DeskView) (old new : Turn) (stop : Stop) : Type 0 where
  pub serves : Serves layout group grant new_desk new
  pub others : contents_of new_desk.chain ≡ with_contents group (contents_of new.seat.chain) (contents_of old_desk.chain)
  pub untouched : (holder : ℕ) → old_desk.holder ≡ Some holder → holder ≢ grant → (new_desk.chain ≡ old_desk.chain) × (new_desk.scan ≡ old_desk.scan)
  pub made : IsWithin new_desk.chain.made (raised old_desk.chain.made (new.cost - old.cost))
  pub stops : stop ≡ stop_of grant old.seat new

-- a call led from a desk and a turn to where the grant goes on no further, as the session shows it then and the call's answer says
pub record Came (layout : LayoutShape) (grant : ℕ) (view : SessionView) (given : List ℕ) (old_desk new_desk : DeskView) (turn : Turn) (stop : Stop) : Type 0 where
  pub shows : Shows view (is_among grant (gone_on layout grant turn).waiting) (gone_on layout grant turn).seat given
  pub goes : Goes layout (group_of layout.grants grant) grant old_desk new_desk turn (gone_on layout grant turn) stop

-- how a session stands after a call that stopped so; its peer may be gone
abbrev pub stand_after : Stop → (gone : Bool) → Stand
stand_after Stop.Done gone = Stand.Going
stand_after Stop.Waits gone = if gone then Stand.Leaving else Stand.Waits
stand_after (Stop.Ended end) gone = Stand.Free

-- how many bytes of the session were taken, used or not, as it shows it
abbrev pub view_taken : SessionView → ℕ
view_taken view = view.used + length view.unused

-- how many bytes it wants next
abbrev pub view_wants : SessionView → ℕ
view_wants view = min (wanted_by view.protocol view.vector view.unused) (most_bytes - view_taken view)

-- the session waits for the chain
abbrev pub is_in_line : Stand → Bool
is_in_line Stand.Waits = true
is_in_line Stand.Leaving = true
is_in_line _ = false

-- the session waits, and its peer is there
abbrev pub is_waiting : Stand → Bool
is_waiting Stand.Waits = true
is_waiting _ = false

-- a session is open whose peer is not known to be gone
abbrev pub is_here : Stand → Bool
is_here Stand.Going = true
is_here Stand.Waits = true
is_here _ = false

-- ---- over every cable

-- what a session shows of a seat whatever bits were scanned in: where it stands in its bytes, its acts and its controllers
pub record Steers (parts : List DeviceType) (view : SessionView) (waits : Bool) (seat : Seat) : Type 0 where
  pub parts_are : types_of seat.chain ≡ parts
  pub protocol : view.protocol ≡ seat.protocol
  pub uses_trst : view.uses_trst ≡ seat.uses_trst
  pub vector : view.vector ≡ seat.vector
  pub stand : view.stand ≡ stand_of waits seat
  pub here : waits ≡ false → seat.gone ≡ false
  pub state : view.tap.state ≡ seat.chain.state
  pub codes : view.tap.codes ≡ code_list seat.chain
  pub ir_stages_are : view.tap.ir_stages ≡ ir_stages seat.chain.devices
  pub scan : view.tap.scan_open ≡ seat.chain.scan_open
  pub tck : view.tck ≡ seat.tck
  pub trst : view.trst ≡ seat.trst
  pub unused : view.unused ≡ seat.unused
  pub used : view.used ≡ seat.used
  pub acts : view.acts ≡ seat.acts
  pub sampled : length view.sampled ≡ length seat.sampled
  pub fit : view.spent ≡ false

-- how a call stops, who holds the chain and who waits, whatever bits were scanned in
pub record Steered (parts : List DeviceType) (grant : ℕ) (new_view : SessionView) (holder : Option ℕ) (waiting : List ℕ) (old new : Turn) (stop : Stop) : Type 0 where
  pub steers : Steers parts new_view (is_among grant new.waiting) new.seat
  pub holder_is : holder ≡ new.holder
  pub waiting_is : waiting ≡ new.waiting
  pub stops : stop ≡ stop_of grant old.seat new

-- ---- after a failed cable

-- the one list is the front of the other
abbrev pub IsPrefix : List ℕ → List ℕ → Type 0
IsPrefix front whole = (rest : List ℕ) × (front ++ rest ≡ whole)

-- the session is spent, and its replies are the front of those that the seat comes to by itself
abbrev pub RepliedBefore : SessionView → List ℕ → Seat → Type 0
RepliedBefore view given seat = (view.spent ≡ true) × IsPrefix (given ++ view.reply) (replies_now (finished seat))
