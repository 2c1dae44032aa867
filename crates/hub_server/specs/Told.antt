-- What is told of the sessions that ended, a line each.
use Rattle.std.specs.Prelude.{ℕ, suc, List, ◌++◌, codes}
use Rattle.std.specs.List.{flat_map}
use Rattle.std.specs.Fmt.{decimal}
use Rattle.report_lines.specs.Ends.{end_text}
use Rattle.plays.specs.Plays.{SessionEnd}

-- the line of a session that ended; grants count from 1
abbrev pub ended_line : SessionEnd → List ℕ
ended_line ended = codes "grant " ++ decimal (suc ended.grant) ++ codes " " ++ end_text ended.end ++ codes "\n"

-- the lines of these, in order
abbrev pub ended_lines : List SessionEnd → List ℕ
ended_lines ends = flat_map ended_line ends

-- what is told once the ports are listened at
abbrev pub serving_line : List ℕ
serving_line = codes "serving\n"
