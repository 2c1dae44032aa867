use Rattle.std.proofs.Common.{◌≡◌, false, ap, ◌∙◌}
use Rattle.virtual_tap.specs.Taps.{VTapState}
use Rattle.virtual_tap.proofs.Keeping.{kept_restart, tap_restart}
use Rattle.virtual_tap.proofs.Moving.{moves_reset}
use Rattle.virtual_tap.proofs.vtap.VTap.restart.Goals as goal

pub invariant_of-self : goal.invariant_of-self
invariant_of-self c =
    let shut : c.self.inside.scan_open ≡ false = ap (λ (tap : VTapState). tap.view.scan_open) c.self.view_is ∙ c.requires.shut in
    rw (c.restart.ensures) (tap_restart c.self.inside.grant c.self.inside.state c.self.inside.tdo c.self.inside.scan_open c.self.inside.instructions c.self.inside.register shut c.self.invariant)

pub returns-clause-kept : goal.returns-clause-kept
returns-clause-kept c =
    rw (← c.self.view_is, c.restart.ensures) (kept_restart c.self.inside.grant c.self.inside.state c.self.inside.tdo c.self.inside.scan_open c.self.inside.instructions c.self.inside.register)

pub returns-clause-moved : goal.returns-clause-moved
returns-clause-moved c =
    let shut : c.self.inside.scan_open ≡ false = ap (λ (tap : VTapState). tap.view.scan_open) c.self.view_is ∙ c.requires.shut in
    rw (← c.self.view_is, c.restart.ensures) (moves_reset c.self.inside.state c.self.inside.tdo c.self.inside.scan_open c.self.inside.instructions c.self.inside.register shut)
