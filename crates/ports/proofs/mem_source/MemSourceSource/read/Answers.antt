use Rattle.std.proofs.Common.{rules, ◌≡◌, min, length, drop, arith}
use Rattle.ports.proofs.StreamLaws.{front_taken, none_left}
use Rattle.ports.proofs.mem_source.MemSourceSource.read.Goals as goal

pub returns-clause-bytes : goal.returns-clause-bytes
returns-clause-bytes c =
    let rest : c.args.self.now.left ≡ drop c.self.inside.taken c.self.inside.bytes.items = search rules in
    let size : c.copy_front-count.result ≡ min (length c.args.self.now.left) (min (length c.args.buf.now) c.piece_limit-most.result) = search rules in (
      front_taken c.self.inside.bytes.items c.args.self.now.left c.args.buf.now _ c.self.inside.taken c.copy_front-count.result rest (omega (arith, size)) (search rules),
      λ none _. none_left c.self.inside.bytes.items c.args.self.now.left c.args.buf.now c.self.inside.taken c.copy_front-count.result c.piece_limit-most.result rest size (omega (arith, c.piece_limit-most.ensures)) c.requires none,
    )
