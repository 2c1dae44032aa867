-- The edges that a session has left: in XVC each rise is followed by its fall, in remote_bitbang TCK moves by its line alone.
use Rattle.std.specs.Prelude.{◌≡◌, Bool, true, false, List, [], ◌∷◌}
use Rattle.part_model.specs.declared.Net.{Net}
use Rattle.part_model.specs.Parts.{DeviceType}
use Rattle.grant_table.specs.declared.Protocol.{Protocol}
use Rattle.grant_table.specs.declared.Protocol.TheVariants.{Xvc, Bitbang}
use Rattle.scan_share.specs.Scans.{IsMadeOf}
use Rattle.scan_share.specs.Timing.{IsTimed}
use Rattle.client_session.specs.Acts.{Act}
use Rattle.client_session.specs.Acts.Act.{Say, SayTdo, Sample, Rise, Fall, Pack, SetLines, SetTrst, EndAt}
use Rattle.client_session.specs.Seats.{Seat}

-- acts of XVC messages, with TCK at this level before them
abbrev pub AreCycles : (tck : Bool) → List Act → Type 0
AreCycles false [] = Unit {0}
AreCycles false (Say bytes ∷ acts) = AreCycles false acts
AreCycles false (Sample ∷ acts) = AreCycles false acts
AreCycles false (Pack ∷ acts) = AreCycles false acts
AreCycles false (Rise tms tdi ∷ acts) = AreCycles true acts
AreCycles true (Fall ∷ acts) = AreCycles false acts
AreCycles _ _ = ⊥

-- acts of letters
abbrev pub AreLetters : List Act → Type 0
AreLetters [] = Unit {0}
AreLetters (SayTdo ∷ acts) = AreLetters acts
AreLetters (SetLines tck tms tdi ∷ acts) = AreLetters acts
AreLetters (SetTrst level ∷ acts) = AreLetters acts
AreLetters (EndAt at ∷ acts) = AreLetters acts
AreLetters _ = ⊥

-- an XVC session amid its cycles
pub record IsCycling (seat : Seat) : Type 0 where
  pub tck : Bool
  pub timed : IsTimed tck seat.chain
  pub acts : AreCycles tck seat.acts

-- a remote_bitbang session: while TRST holds the controllers no scan is open
pub record IsLined (seat : Seat) : Type 0 where
  pub timed : IsTimed seat.tck seat.chain
  pub held : seat.trst ≡ true → seat.chain.scan_open ≡ false
  pub acts : AreLetters seat.acts

abbrev pub IsPacedBy : Protocol → Seat → Type 0
IsPacedBy Xvc seat = IsCycling seat
IsPacedBy Bitbang seat = IsLined seat

-- a seat over a chain of these device types and nets, with its protocol's edges left
pub record IsSeatOver (protocol : Protocol) (parts : List DeviceType) (nets : List Net) (seat : Seat) : Type 0 where
  pub protocol_is : seat.protocol ≡ protocol
  pub made : IsMadeOf parts nets seat.chain
  pub paced : IsPacedBy protocol seat
