-- What a setup file and the BSDL files that it names say, or the first refusal: the file's, the layout's, each device's, each net's.
use Rattle.std.specs.Prelude.{◌≡◌, ℕ, List, map, length, Result, Ok, Err}
use Rattle.std.specs.declared.option.Option.{Option}
use Rattle.std.specs.declared.option.Option.TheVariants.{None, Some}
use Rattle.chain_model.specs.Boards.{EachHasPins, EachHasEnds}
use Rattle.grant_table.specs.Faults.{LayoutFault, layout_fault, layout_of, IsLayout}
use Rattle.setup_document.specs.declared.plan.SetupPlan.{SetupPlan}
use Rattle.setup_document.specs.Keys.{DocumentFault}
use Rattle.setup_document.specs.Documents.{plan_of, InRange}
use Rattle.setup_read.specs.declared.boards.Devices.{Devices}
use Rattle.setup_read.specs.declared.setup.Setup.{Setup}
use Rattle.setup_read.specs.declared.setup.SetupRefusal.{SetupRefusal}
use Rattle.setup_read.specs.declared.setup.SetupRefusal.TheVariants as refusal
use Rattle.setup_read.specs.Boards.{and_then, Files, devices_of, wired}

-- what the setup file says
abbrev pub plain : {A : Type 0} → Result A DocumentFault → Result A SetupRefusal
plain (Ok plan) = Ok plan
plain (Err fault) = Err (refusal.Plain fault.cause fault.place)

-- its grants and nets make a layout
abbrev pub laid_out : Option LayoutFault → Result (Unit {0}) SetupRefusal
laid_out None = Ok tt
laid_out (Some fault) = Err (refusal.Layout (record { cause = fault.cause; grant = fault.grant; value = fault.value }))

abbrev pub layout_checked : SetupPlan → Result (Unit {0}) SetupRefusal
layout_checked plan = laid_out (layout_fault (length plan.devices) plan.grants plan.nets)

-- the setup of a plan and its boards
abbrev pub setup_with : SetupPlan → Devices → Setup
setup_with plan devices = record {
  version = plan.version;
  vector = plan.vector;
  names = devices.names;
  boards = devices.boards;
  layout = layout_of (map (λ board. board.part) devices.boards) plan.grants plan.nets;
}

abbrev pub with_boards : SetupPlan → Devices → Result Setup SetupRefusal
with_boards plan devices = and_then (wired devices.boards 1 plan.nets) (λ _. Ok (setup_with plan devices))

abbrev pub from_plan : Files → SetupPlan → Result Setup SetupRefusal
from_plan files plan =
    and_then (layout_checked plan) (λ _.
    and_then (devices_of files 1 plan.devices) (with_boards plan))

-- what bytes say as a setup file over these files, or their first refusal
abbrev pub setup_of : Files → List ℕ → Result Setup SetupRefusal
setup_of files bytes = and_then (plain (plan_of bytes)) (from_plan files)

abbrev pub IsSetup : List ℕ → Files → Setup → Type 0
IsSetup bytes files setup = setup_of files bytes ≡ Ok setup

abbrev pub NoSetup : List ℕ → Files → SetupRefusal → Type 0
NoSetup bytes files refused = setup_of files bytes ≡ Err refused

-- ---- what every setup has

pub record IsWhole (setup : Setup) : Type 0 where
  pub ranges : InRange setup.version setup.vector
  pub names : length setup.names ≡ length setup.boards
  -- a pin for each boundary cell
  pub pins : EachHasPins setup.boards
  -- both ends of each net are boundary cells
  pub ends : EachHasEnds setup.boards setup.layout.nets
  -- the layout is of these boards, and without fault
  pub parts : setup.layout.parts ≡ map (λ board. board.part) setup.boards
  pub layout : IsLayout setup.layout
