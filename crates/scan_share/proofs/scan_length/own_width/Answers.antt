use Rattle.std.proofs.Common.{arith, ap, ◌∙◌}
use Rattle.scan_share.specs.Lengths.{own_length}
use Rattle.scan_share.specs.Rows.{ScanView, own_codes}
use Rattle.scan_share.proofs.OwnLongest.{own_widths}
use Rattle.scan_share.proofs.scan_length.own_width.Goals as goal

pub returns-clause-bound : goal.returns-clause-bound
returns-clause-bound c =
    omega (
      arith,
      own_widths c.args.layout.now c.args.grant c.args.codes.now c.members-group.ensures.parts,
      c.own_length.ensures.is
          ∙ ap (λ (s : ScanView). own_length s.layout s.group (own_codes s)) (c.new.ensures ∙ (λ i. record { layout = c.args.layout.now; group = c.members-group.ensures.is i; codes = c.args.codes.now })),
    )
