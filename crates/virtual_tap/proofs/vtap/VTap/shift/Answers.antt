use Rattle.std.proofs.Common.{◌≡◌, ◌∙◌, ap, true, rules}
use Rattle.tap_states.specs.States.{is_shift}
use Rattle.scan_bits.specs.Words.{bits_of, bit_value}
use Rattle.virtual_tap.specs.Taps.{VTapState}
use Rattle.virtual_tap.proofs.Cycling.{moves_row, answers_row, joined_some, kept_row, tap_row}
use Rattle.virtual_tap.proofs.vtap.VTap.shift.Goals as goal

pub shift-word-requires-clause-stages : goal.shift-word-requires-clause-stages
shift-word-requires-clause-stages c = joined_some c.self.inside.instructions.registers c.self.invariant.some c.self.invariant.plans c.self.invariant.view.stages_fit

pub invariant_of-self : goal.invariant_of-self
invariant_of-self c =
    rw (c.shift-word.ensures.instructions, c.shift-word.ensures.register)
    (tap_row c.self.inside.grant c.self.inside.state c.self.inside.tdo c.tdo_of-self-inside.result c.self.inside.scan_open c.self.inside.instructions c.self.inside.register (bits_of c.args.n c.args.tdi) c.self.invariant)

pub returns-clause-kept : goal.returns-clause-kept
returns-clause-kept c =
    rw (← c.self.view_is, c.shift-word.ensures.instructions, c.shift-word.ensures.register)
    (kept_row c.self.inside.grant c.self.inside.state c.self.inside.tdo c.tdo_of-self-inside.result c.self.inside.scan_open c.self.inside.instructions c.self.inside.register (bits_of c.args.n c.args.tdi))

pub returns-clause-moved : goal.returns-clause-moved
returns-clause-moved c =
    let shifts : is_shift c.self.inside.state ≡ true = ap (λ (tap : VTapState). is_shift tap.view.state) c.self.view_is ∙ c.requires.state in
    rw (← c.self.view_is, c.tdo_of-self-inside.ensures, c.shift-word.ensures.instructions, c.shift-word.ensures.register)
    (λ chain parts s. moves_row c.args.n c.args.tdi c.self.inside.state c.self.inside.tdo c.self.inside.scan_open c.self.inside.instructions c.self.inside.register chain c.requires.count.0 shifts parts s)

pub returns-clause-out : goal.returns-clause-out
returns-clause-out c =
    let shifts : is_shift c.self.inside.state ≡ true = ap (λ (tap : VTapState). is_shift tap.view.state) c.self.view_is ∙ c.requires.state in
    let bit : c.from.result ≡ bit_value c.self.inside.tdo = search rules in
    rw (← c.self.view_is)
    (λ chain parts s. answers_row c.args.n c.args.tdi c.self.inside.state c.self.inside.tdo c.self.inside.scan_open c.self.inside.instructions c.self.inside.register chain c.shift-word.result c.from.result c.requires.count.0 shifts parts s c.shift-word.ensures.out bit)
