use Rattle.std.proofs.Common.{ap, ◌∙◌, List, ℕ, ◌+◌, take, drop}
use Rattle.scan_bits.specs.Words.{number_of, unpacked}
use Rattle.xvc_frame.specs.Frames.{FrameState, tms_bits}
use Rattle.xvc_frame.proofs.Replies.{read_tms}
use Rattle.xvc_frame.proofs.frame.XvcFrame.tms_word.Goals as goal

pub returns-clause-value : goal.returns-clause-value
returns-clause-value c =
    let within = rw (← c.self.view_is) at c.requires.within in
    c.read_bits.ensures.value
    ∙ ap (λ (b : List ℕ). number_of (take c.args.width (drop (80 + c.args.at) (unpacked b)))) c.deref.ensures.value
    ∙ read_tms c.self.inside.vector c.self.inside.count c.self.inside.bytes.items c.self.invariant c.args.at c.args.width c.requires.some within
    ∙ ap (λ (s : FrameState). number_of (take c.args.width (drop c.args.at (tms_bits s)))) c.self.view_is
