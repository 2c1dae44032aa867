use Rattle.std.proofs.Common.{◌≡◌, false, ap, ◌∙◌}
use Rattle.virtual_tap.specs.Taps.{VTapState, at_update, ends_scan}
use Rattle.virtual_tap.proofs.Keeping.{kept_rise, rests_risen, tap_rise}
use Rattle.virtual_tap.proofs.Moving.{moves_rise}
use Rattle.virtual_tap.proofs.vtap.VTap.rise.Goals as goal

pub invariant_of-self : goal.invariant_of-self
invariant_of-self c =
    let stays : ends_scan c.self.inside.state c.self.inside.scan_open ≡ false = ap (λ (tap : VTapState). at_update tap.view) c.self.view_is ∙ c.requires.update in
    rw (c.next-self-inside.ensures, c.rise.ensures, c.rise_register.ensures)
    (tap_rise c.self.inside.grant c.self.inside.state c.self.inside.tdo c.self.inside.scan_open c.self.inside.instructions c.self.inside.register c.args.tms c.args.tdi stays c.self.invariant)

pub returns-clause-kept : goal.returns-clause-kept
returns-clause-kept c =
    rw (← c.self.view_is, c.next-self-inside.ensures, c.rise.ensures, c.rise_register.ensures)
    (kept_rise c.self.inside.grant c.self.inside.state c.self.inside.tdo c.self.inside.scan_open c.self.inside.instructions c.self.inside.register c.args.tms c.args.tdi)

pub returns-clause-moved : goal.returns-clause-moved
returns-clause-moved c =
    rw (← c.self.view_is, c.next-self-inside.ensures, c.rise.ensures, c.rise_register.ensures)
    (λ other. moves_rise c.self.inside.state c.self.inside.tdo c.self.inside.scan_open c.self.inside.instructions c.self.inside.register c.args.tms c.args.tdi other)

pub returns-clause-rests : goal.returns-clause-rests
returns-clause-rests c =
    rw (← c.self.view_is, c.rise_register.ensures)
    (rests_risen c.self.inside.state c.self.inside.scan_open c.args.tdi c.self.inside.register)
