-- What is told of a connection at the end of a replay.
use Rattle.std.specs.Prelude.{ℕ, List, [], ◌∷◌, ◌++◌, codes}
use Rattle.std.specs.Fmt.{decimal}
use Rattle.text_lines.specs.Hex.{hex_bytes}
use Rattle.report_lines.specs.declared.connections.Standing.{Standing}
use Rattle.report_lines.specs.declared.connections.Standing.TheVariants.{Live, Waits, Away, Ended}
use Rattle.report_lines.specs.Ends.{end_text}

-- a connection: its number and port; the grant that admitted it, counted from 1, or 0; how many bytes were taken from it, the bytes that its
-- peer was given, and how it stands
pub record ConnectionView : Type 0 where
  pub conn : ℕ
  pub port : ℕ
  pub grant : ℕ
  pub took : ℕ
  pub gave : List ℕ
  pub standing : Standing

-- how a connection stands
abbrev pub standing_text : Standing → List ℕ
standing_text Live = codes "live"
standing_text Waits = codes "waits"
standing_text Away = codes "away"
standing_text (Ended end) = end_text end

-- bytes in base 16, two digits each, and a dash where there are none
abbrev pub bytes_text : List ℕ → List ℕ
bytes_text [] = codes "-"
bytes_text (byte ∷ bytes) = hex_bytes (byte ∷ bytes)

-- what stands before the bytes that a peer was given
abbrev pub connection_head : ConnectionView → List ℕ
connection_head of =
    codes "conn " ++ decimal of.conn ++ codes " port " ++ decimal of.port ++ codes " grant " ++ decimal of.grant ++ codes " took " ++ decimal of.took ++ codes " gave "

-- and behind them
abbrev pub connection_tail : Standing → List ℕ
connection_tail standing = codes " " ++ standing_text standing ++ codes "\n"

-- the line of a connection
abbrev pub connection_line : ConnectionView → List ℕ
connection_line of = connection_head of ++ (bytes_text of.gave ++ connection_tail of.standing)
