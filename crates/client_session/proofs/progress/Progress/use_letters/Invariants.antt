use Rattle.std.proofs.Common.{◌≡◌, ℕ, List, [], length, false}
use Rattle.base_types.specs.Tellings.{Told}
use Rattle.chain_token.specs.Tokens.{waiting}
use Rattle.chain_token.specs.Waiting.{is_among}
use Rattle.scan_share.specs.Scans.{IsWhole}
use Rattle.client_session.specs.Turns.{Turn}
use Rattle.client_session.specs.Sessions.{DeskView}
use Rattle.client_session.specs.Stores.{KeepsProgress, acts_of, unused_of}
use Rattle.client_session.specs.Ends.{letters_end}
use Rattle.client_session.specs.Desks.{Attends, IsDesk, KeepsOthers, cable_of}
use Rattle.client_session.specs.Calls.{ComesTo, KeepsSettings, MayGoOn, ShowsSeat}
use Rattle.client_session.proofs.progress.Progress.use_letters.Given as goal

abbrev pub invariant-loop-act : goal.invariant-loop-act
invariant-loop-act g l = record {
  keeps : KeepsProgress l.self;
  same : KeepsSettings l.fn.self l.self;
  taken : l.self.taken ≡ l.fn.self.taken;
  ends : letters_end l.self.used (unused_of l.self.input) ≡ letters_end l.fn.self.used (unused_of l.fn.self.input);
  fit : MayGoOn l.self;
  none : acts_of l.self.input ≡ [];
  desk_is : IsDesk l.layout l.grant l.self.tap.view l.desk;
  others : KeepsOthers l.grant l.fn.desk l.desk;
  whole : Told (g.C.Cable.chain (cable_of l.desk.side)) (IsWhole l.layout);
  line : is_among l.grant (waiting l.desk) ≡ false;
  mark : g.C.Cable.mark (cable_of l.desk.side) ≡ g.C.Cable.mark (cable_of l.fn.desk.side);
  trst : g.C.Cable.trst (cable_of l.desk.side) ≡ g.C.Cable.trst (cable_of l.fn.desk.side);
  faults : g.C.Cable.fault_count (cable_of l.desk.side) ≡ g.C.Cable.fault_count (cable_of l.fn.desk.side);
  went : (given : List ℕ) (base_desk : DeskView) (base turn : Turn) → IsWhole l.layout base_desk.chain
      → Attends l.layout l.grant base_desk base (ShowsSeat l.fn.self l.grant given) l.fn.desk (g.C.Cable.chain (cable_of l.fn.desk.side)) turn
      → ComesTo l.layout l.grant (Attends l.layout l.grant base_desk base (ShowsSeat l.self l.grant given) l.desk (g.C.Cable.chain (cable_of l.desk.side))) turn;
}

abbrev pub decreases-loop-act : goal.decreases-loop-act
decreases-loop-act g l = length (unused_of l.self.input)
