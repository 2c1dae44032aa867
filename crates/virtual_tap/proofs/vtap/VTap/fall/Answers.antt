use Rattle.virtual_tap.proofs.Keeping.{tap_fall}
use Rattle.virtual_tap.proofs.Moving.{moves_fall, closes_fall}
use Rattle.virtual_tap.proofs.vtap.VTap.fall.Goals as goal

pub invariant_of-self : goal.invariant_of-self
invariant_of-self c =
    rw (c.fall.ensures) (tap_fall c.self.inside.grant c.self.inside.state c.self.inside.tdo c.tdo_of-self-inside.result c.self.inside.scan_open c.self.inside.instructions c.self.inside.register c.self.invariant)

pub returns-clause-moved : goal.returns-clause-moved
returns-clause-moved c =
    rw (← c.self.view_is, c.tdo_of-self-inside.ensures, c.fall.ensures, c.ends_scan.ensures) (λ stays. moves_fall c.self.inside.state c.self.inside.tdo c.self.inside.scan_open c.self.inside.instructions c.self.inside.register stays)

pub returns-clause-closing : goal.returns-clause-closing
returns-clause-closing c =
    rw (← c.self.view_is, c.tdo_of-self-inside.ensures, c.fall.ensures, c.ends_scan.ensures) (λ ends. closes_fall c.self.inside.state c.self.inside.tdo c.self.inside.scan_open c.self.inside.instructions c.self.inside.register ends)
