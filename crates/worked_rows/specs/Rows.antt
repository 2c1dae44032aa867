-- The rows of scripts. A port of 2542 is the first grant's, 2543 the second's; hex stands as the report prints it.
use Rattle.std.specs.Prelude.{ℕ, List, [], ◌∷◌, ◌++◌, codes}
use Rattle.std.specs.declared.option.Option.TheVariants.{None, Some}
use Rattle.client_session.specs.declared.End.TheVariants.{Refused, Gone}
use Rattle.wire_port.specs.Steps.{Step}
use Rattle.wire_port.specs.Offers.{ScriptLine}
use Rattle.wire_port.specs.Offers.ScriptLine.{Open, Send, Drop, Room}
use Rattle.worked_rows.specs.Inputs.{hex, read_id, write_user, hold_user, finish_scan, scan_twice, three_bits}
use Rattle.worked_rows.specs.Settings.{one, two, mixed, three}
use Rattle.worked_rows.specs.Shown.{device, connection}
use Rattle.report_lines.specs.declared.connections.Standing.TheVariants.{Live, Waits, Away, Ended}
use Rattle.worked_rows.specs.Replays.{Row}

-- both connections write USER of their own device, in turns, and nobody waits
abbrev pub turns : Row
turns = record {
  setting = two;
  lines = Open 1 2542 ∷ Open 2 2543 ∷ Send 1 (write_user 0xa5) ∷ Send 2 (write_user 0x3c) ∷ Send 1 (write_user 0) ∷ Send 2 (write_user 0) ∷ [];
  connections =
      connection 1 1 32 (hex (codes "3f1e603fbe74")) Live
      ∷ connection 2 2 32 (hex (codes "3f1e603f9e67")) Live ∷ [];
  shared = record { devices = device 2 2 0 0 ∷ device 2 2 0 0 ∷ []; waiting = []; joins = 0; cost = 162 };
}

-- the first connection holds the chain in Shift-DR, and the second waits before its capture
abbrev pub held_lines : List ScriptLine
held_lines = Open 1 2542 ∷ Open 2 2543 ∷ Send 1 hold_user ∷ Send 2 read_id ∷ []

-- so it stands while the scan is held
abbrev pub held : Row
held = record {
  setting = two;
  lines = held_lines;
  connections =
      connection 1 1 14 (hex (codes "3f1e")) Live
      ∷ connection 2 2 20 [] Waits ∷ [];
  shared = record { devices = device 1 0 0 0 ∷ device 0 0 0 0 ∷ []; waiting = 1 ∷ []; joins = 1; cost = 32 };
}

-- the first connection updates, and the second goes on
abbrev pub handed_over : Row
handed_over = record {
  setting = two;
  lines = held_lines ++ Send 1 (finish_scan 0xa5) ∷ [];
  connections =
      connection 1 1 28 (hex (codes "3f1e0003")) Live
      ∷ connection 2 2 20 (hex (codes "ff00cdab31")) Live ∷ [];
  shared = record { devices = device 1 1 0 0xa5 ∷ device 1 1 0 0 ∷ []; waiting = []; joins = 1; cost = 132 };
}

-- the message that ends the first connection's scan begins a second one: the other goes between, and both have waited
abbrev pub scanned_twice : Row
scanned_twice = record {
  setting = two;
  lines = held_lines ++ Send 1 (scan_twice 0xa5) ∷ [];
  connections =
      connection 1 1 28 (hex (codes "3f1e000f")) Live
      ∷ connection 2 2 20 (hex (codes "ff00cdab31")) Live ∷ [];
  shared = record { devices = device 2 1 0 0xa5 ∷ device 1 1 0 0 ∷ []; waiting = []; joins = 2; cost = 158 };
}

-- a drop within a scan: USER is latched with the five captured bits that are left and the three that were shifted
abbrev pub dropped_in_scan : Row
dropped_in_scan = record {
  setting = two;
  lines = Open 1 2542 ∷ Send 1 (write_user 0xa5) ∷ Send 1 hold_user ∷ Send 1 three_bits ∷ Drop 1 ∷ [];
  connections = connection 1 1 42 (hex (codes "3f1e603f1e05")) (Ended (Gone 42)) ∷ [];
  shared = record { devices = device 2 2 0 0xb4 ∷ device 0 0 0 0 ∷ []; waiting = []; joins = 0; cost = 84 };
}

-- a drop while the connection waits: it finishes its bytes in its turn, nothing is given, and its seat stays taken until then,
-- so that the third connection is turned away and the fourth is not
abbrev pub dropped_in_wait : Row
dropped_in_wait = record {
  setting = two;
  lines = held_lines ++ Drop 2 ∷ Open 3 2543 ∷ Send 1 (finish_scan 0xa5) ∷ Open 4 2543 ∷ [];
  connections =
      connection 1 1 28 (hex (codes "3f1e0003")) Live
      ∷ record (connection 2 2 20 (hex (codes "ff00cdab31")) (Ended (Gone 20))) { gave = [] }
      ∷ connection 3 0 0 [] Away
      ∷ connection 4 2 0 [] Live ∷ [];
  shared = record { devices = device 1 1 0 0xa5 ∷ device 1 1 0 0 ∷ []; waiting = []; joins = 1; cost = 132 };
}

-- TRST within a scan: the scan is abandoned, no register is updated, and the one that waits goes on
abbrev pub abandoned : Row
abandoned = record {
  setting = mixed;
  lines = Open 1 3335 ∷ Open 2 2543 ∷ Send 1 (codes "40624040") ∷ Send 2 read_id ∷ Send 1 (codes "t") ∷ [];
  connections =
      connection 1 1 9 [] Live
      ∷ connection 2 2 20 (hex (codes "ff00cdab31")) Live ∷ [];
  shared = record { devices = device 1 0 0 0 ∷ device 1 1 0 0 ∷ []; waiting = []; joins = 1; cost = 144 };
}

-- the peer takes two bytes and no more: the second message stays on offer
abbrev pub stalled_lines : List ScriptLine
stalled_lines = Open 1 2542 ∷ Room 1 (Some 2) ∷ Send 1 (codes "getinfo:") ∷ Send 1 (codes "getinfo:") ∷ []

-- the reply to `getinfo:` for a vector length of 2048
abbrev pub info_reply : List ℕ
info_reply = codes "xvcServer_v1.0:2048\n"

-- so it stands while the peer takes no more
abbrev pub stalled : Row
stalled = record {
  setting = one;
  lines = stalled_lines;
  connections = record (connection 1 1 8 info_reply Live) { gave = codes "xv" } ∷ [];
  shared = record { devices = device 0 0 0 0 ∷ []; waiting = []; joins = 0; cost = 6 };
}

-- it takes all, and both replies are given
abbrev pub stall_over : Row
stall_over = record {
  setting = one;
  lines = stalled_lines ++ Room 1 None ∷ [];
  connections = connection 1 1 16 (info_reply ++ info_reply) Live ∷ [];
  shared = record { devices = device 0 0 0 0 ∷ []; waiting = []; joins = 0; cost = 6 };
}

-- a drop is told once, though its session goes on afterwards and waits again: the second connection has a reply that its peer doesn't take,
-- scans behind the first one's refusal, and then waits behind the third
abbrev pub dropped_and_waits_again : Row
dropped_and_waits_again = record {
  setting = three;
  lines =
      Open 1 1 ∷ Send 1 hold_user
      ∷ Open 2 2 ∷ Room 2 (Some 0) ∷ Send 2 (codes "4060") ∷ Send 2 (codes "R40626262404")
      ∷ Open 3 3 ∷ Send 3 hold_user
      ∷ Drop 2 ∷ Send 1 (0 ∷ []) ∷ [];
  connections =
      connection 1 1 15 (hex (codes "3f1e")) (Ended (Refused 14 1))
      ∷ record (connection 2 2 16 (codes "1") Waits) { gave = [] }
      ∷ connection 3 3 14 (hex (codes "3f1e")) Live ∷ [];
  shared = record { devices = device 1 1 0 0 ∷ device 1 1 0 0 ∷ device 1 0 0 0 ∷ []; waiting = 1 ∷ []; joins = 3; cost = 175 };
}

-- the connections that the steps tell to be gone
abbrev pub drops_told : List Step → List ℕ
drops_told [] = []
drops_told (Step.Gone conn ∷ steps) = conn ∷ drops_told steps
drops_told (step ∷ steps) = drops_told steps
