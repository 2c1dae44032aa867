-- The door of a wire over sockets.
use Rattle.std.specs.Prelude.{false, []}
use Rattle.wire_port.specs.Wires.{DoorView}
use Rattle.mio_wire.specs.declared.door.Door.{Door}

-- what it tells of its door; its mark is empty
abbrev pub door_of : Door → DoorView
door_of door = record { ports = door.ports.items; up = door.up; over = door.over; mark = [] }

-- it was not to listen yet
abbrev pub new_door : DoorView
new_door = record { ports = []; up = false; over = false; mark = [] }
