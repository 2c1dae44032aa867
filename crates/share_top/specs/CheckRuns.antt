-- A run of `check`: how it ends, its status, and its last line.
use Rattle.std.specs.Prelude.{◌≡◌, ℕ, List, []}
use Rattle.std.specs.declared.option.Option.{Option}
use Rattle.std.specs.Io.KnownBytes.{Appends}
use Rattle.ports.specs.Streams.{AppendsFront}
use Rattle.ports.specs.Shelves.{NamedBytes}
use Rattle.setup_read.specs.declared.setup.Setup.{Setup}
use Rattle.share_top.specs.Checks.{check_text}
use Rattle.share_top.specs.Outcomes.{Grew, Tells}
use Rattle.share_top.specs.Setups.{LoadCauses, NoSetupAt, SetupAt, no_setup_line, no_setup_status}
use Rattle.share_top.specs.declared.check.Checked.{Checked}
use Rattle.share_top.specs.declared.check.Checked.TheVariants as ends

-- what went out of the text of a setup, which the files say
abbrev pub Shows : (List ℕ → Type 0) → Option (List NamedBytes) → List ℕ → Type 0
Shows WentOut files name = (setup : Setup) × WentOut (check_text setup.names setup.layout) × SetupAt setup files name

-- how `check` ends, by the files and the bytes sent before and after
abbrev pub EndsCheck : Checked → Option (List NamedBytes) → List ℕ → Option (List ℕ) → Option (List ℕ) → Type 0
EndsCheck ends.Done files name sent sent' = Shows (Appends sent sent') files name
EndsCheck ends.WriteFault files name sent sent' = Shows (AppendsFront sent sent') files name
EndsCheck (ends.NoSetup none) files name sent sent' = (sent' ≡ sent) × NoSetupAt none files name

-- and by the counts of faults of the shelf and of the sink
abbrev pub CheckCauses : Checked → ℕ → ℕ → ℕ → ℕ → Type 0
CheckCauses ends.Done shelf shelf' sink sink' = (shelf' ≡ shelf) × (sink' ≡ sink)
CheckCauses ends.WriteFault shelf shelf' sink sink' = (shelf' ≡ shelf) × Grew sink sink'
CheckCauses (ends.NoSetup none) shelf shelf' sink sink' = LoadCauses none shelf shelf' × (sink' ≡ sink)

abbrev pub check_status : Checked → ℕ
check_status ends.Done = 0
check_status ends.WriteFault = 5
check_status (ends.NoSetup none) = no_setup_status none

-- the last line, behind the text
abbrev pub check_line : Checked → List ℕ
check_line ends.Done = []
check_line ends.WriteFault = []
check_line (ends.NoSetup none) = no_setup_line none

-- a whole run of `check`
pub record RunsCheck (status : ℕ) (files : Option (List NamedBytes)) (name : List ℕ) (sent sent' : Option (List ℕ)) (shelf shelf' sink sink' : ℕ) : Type 0 where
  pub checked : Checked
  pub between : Option (List ℕ)
  pub sink_between : ℕ
  pub ends : EndsCheck checked files name sent between
  pub causes : CheckCauses checked shelf shelf' sink sink_between
  pub tells : Tells (check_status checked) (check_line checked) status between sent' sink_between sink'
