use Rattle.std.proofs.Common.{◌≡◌, drop}
use Rattle.ports.specs.Shelves.{entries_of, named}
use Rattle.ports.proofs.mem_shelf.bytes_of.Given as goal

abbrev pub invariant-loop-file : goal.invariant-loop-file
invariant-loop-file l = named (entries_of (drop l.file-index l.files)) l.name ≡ named (entries_of l.files) l.name
