use Rattle.std.proofs.Common.{◌∙◌, ap, arith}
use Rattle.scan_bits.specs.Words.{number_of}
use Rattle.chain_model.specs.Cycles.{after_cycles, answers}
use Rattle.chain_model.proofs.WordRun.{no_tms}
use Rattle.chain_model.proofs.scan_chain.ScanChain.piece.Goals as goal

pub returns-then-shifts-gt1-clause-after : goal.returns-then-shifts-gt1-clause-after
returns-then-shifts-gt1-clause-after c =
    c.shift_run.ensures.after ∙ ap (λ cycles. after_cycles cycles c.args.self.now) (no_tms 64 c.min-shifts.result c.args.tms c.args.tdi (omega (arith, c.min-shifts.ensures)))

pub returns-then-shifts-gt1-clause-answers : goal.returns-then-shifts-gt1-clause-answers
returns-then-shifts-gt1-clause-answers c =
    c.shift_run.ensures.answers ∙ ap (λ cycles. number_of (answers cycles c.args.self.now)) (no_tms 64 c.min-shifts.result c.args.tms c.args.tdi (omega (arith, c.min-shifts.ensures)))
