use Rattle.std.proofs.Common.{◌≡◌, ap, sym, ◌∙◌, arith}
use Rattle.std.specs.List.{sum_by}
use Rattle.part_model.specs.Parts.{longest}
use Rattle.grant_table.specs.Layouts.{group_of, longest_of}
use Rattle.scan_share.proofs.OwnLongest.{own_widths}
use Rattle.virtual_tap.specs.Taps.{longest_scan}
use Rattle.client_session.proofs.desk.capture.Goals as goal

pub capture-requires-clause-room : goal.capture-requires-clause-room
capture-requires-clause-room g c =
    let same : longest_of c.args.layout.now (group_of c.args.layout.now.grants c.args.grant) ≡ longest_scan c.args.tap.now.parts =
    ap (λ k. longest_of c.args.layout.now (group_of c.args.layout.now.grants k)) (sym c.requires.grant) ∙ ap (sum_by longest) c.requires.layout in
    omega (arith, own_widths c.args.layout.now c.args.grant c.codes.result.now c.requires.sound.parts, same, c.take_register-register.ensures.longest)
