use Rattle.std.proofs.Common.{◌++◌, ap, arith, ◌∙◌, replicate, false, ◌-◌}
use Rattle.scan_share.proofs.Splits.{end_low, passed_marks, passed_row}
use Rattle.scan_share.proofs.runs.entered.Goals as goal

pub returns-then-others-most-clause-same : goal.returns-then-others-most-clause-same
returns-then-others-most-clause-same c =
    passed_marks c.args.group.now c.args.widths.now c.args.stand.own c.args.stand.place c.end_of-end.result (c.args.stand.place - c.args.most) c.args.most c.args.stand.bits c.requires.row
    (record { none = c.end_of-end.ensures.none; some = c.end_of-end.ensures.some; bound = c.end_of-end.ensures.bound })
    (omega (arith, c.if-others-most.true, c.requires.some)) (omega (arith, c.if-others-most.true)) (omega (arith, c.if-stand-gt0.false))

pub returns-then-others-most-clause-row : goal.returns-then-others-most-clause-row
returns-then-others-most-clause-row c =
    passed_row c.args.group.now c.args.widths.now c.args.stand.own c.args.stand.place c.end_of-end.result (c.args.stand.place - c.args.most) c.requires.row
    (record { none = c.end_of-end.ensures.none; some = c.end_of-end.ensures.some; bound = c.end_of-end.ensures.bound })
    (omega (arith, c.if-others-most.true, c.requires.some)) (omega arith)

pub returns-then-stand-eq0-clause-same : goal.returns-then-stand-eq0-clause-same
returns-then-stand-eq0-clause-same c =
    passed_marks c.args.group.now c.args.widths.now c.args.stand.own c.args.stand.place c.end_of-end.result c.end_of-end.result (c.args.stand.place - c.end_of-end.result) c.args.stand.bits c.requires.row
    (record { none = c.end_of-end.ensures.none; some = c.end_of-end.ensures.some; bound = c.end_of-end.ensures.bound }) (omega arith)
    (omega (arith, end_low c.args.group.now c.args.stand.own c.args.stand.place c.end_of-end.result c.requires.row.split c.end_of-end.ensures.none c.end_of-end.ensures.some c.end_of-end.ensures.bound)) (omega (arith, c.if-stand-gt0.false))

pub own_entered-requires-clause-row : goal.own_entered-requires-clause-row
own_entered-requires-clause-row c =
    passed_row c.args.group.now c.args.widths.now c.args.stand.own c.args.stand.place c.end_of-end.result c.end_of-end.result c.requires.row
    (record { none = c.end_of-end.ensures.none; some = c.end_of-end.ensures.some; bound = c.end_of-end.ensures.bound }) (omega arith)
    (end_low c.args.group.now c.args.stand.own c.args.stand.place c.end_of-end.result c.requires.row.split c.end_of-end.ensures.none c.end_of-end.ensures.some c.end_of-end.ensures.bound)

pub returns-clause-same : goal.returns-clause-same
returns-clause-same c =
    ap (λ q. replicate (c.args.stand.place - c.end_of-end.result) false ++ q) c.own_entered.ensures.same
    ∙ passed_marks c.args.group.now c.args.widths.now c.args.stand.own c.args.stand.place c.end_of-end.result c.end_of-end.result (c.args.stand.place - c.end_of-end.result) c.args.stand.bits c.requires.row
    (record { none = c.end_of-end.ensures.none; some = c.end_of-end.ensures.some; bound = c.end_of-end.ensures.bound }) (omega arith)
    (omega (arith, end_low c.args.group.now c.args.stand.own c.args.stand.place c.end_of-end.result c.requires.row.split c.end_of-end.ensures.none c.end_of-end.ensures.some c.end_of-end.ensures.bound)) (omega (arith, c.if-stand-gt0.false))
